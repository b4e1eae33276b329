-- What is found at the beginning of a text: another text, or what a line states.
use Rattle.std.proofs.Common.{◌≡◌, ◌≢◌, ℕ, cond, nat_eq, false, List, [], ◌∷◌, ◌++◌, Option, Some, None, refl, ap}
use Rattle.std.proofs.Common.{sym, subst, ◌∙◌, inl, inr}
use Rattle.std.specs.Option.{option_map}
use Rattle.std.specs.Str.{bytes_eq}
use Rattle.std.specs.Cmp.Lexicographic.{bytes_decides}
use Rattle.std.proofs.lemmas.Bool.{cases_Bool, eqb-true, eq-eqb, false_from_ne_true}
use Rattle.std.proofs.lemmas.Option.{none-some, same_Some}
use Rattle.flow_check.specs.TextLines.{line}
use Rattle.flow_check.specs.internal.Reading.{first_line}
use Rattle.flow_check.proofs.Numbers.{IsPlain}
use Rattle.flow_check.proofs.ExactLines.{LineOf, first-line-is}
use Rattle.flow_check.proofs.HeadingLines.{as-line}
use Rattle.flow_check.proofs.TextBegins.{first-is}

-- a part of a text is found exactly where it has a property

pub record Exact {R : Type 0} (P : R → Type 0) (o : Option R) : Type 0 where
  pub found : (r : R) → o ≡ Some r → P r
  pub only : (r : R) → P r → o ≡ Some r

-- where nothing has the property, nothing is found
pub nothing : {R : Type 0} (P : R → Type 0) (o : Option R) → Exact P o → ((r : R) → P r → ⊥) → o ≡ None
nothing P None exact none = refl
nothing P (Some r) exact none = absurd (none r (exact.found r refl))

-- nothing that has the property was found
pub missed : {R : Type 0} (P : R → Type 0) (o : Option R) → Exact P o → o ≡ None → (r : R) → P r → ⊥
missed P o exact none r is = none-some r (sym none ∙ exact.only r is)

-- two texts that differ
pub other-bytes : (xs ys : List ℕ) → xs ≢ ys → bytes_eq xs ys ≡ false
other-bytes xs ys apart = false_from_ne_true (bytes_eq xs ys) (λ same. apart ((bytes_decides xs ys).0 same))

-- the text behind another one with which it begins

abbrev pub strip : List ℕ → List ℕ → Option (List ℕ)
strip [] text = Some text
strip (byte ∷ start) [] = None
strip (byte ∷ start) (first ∷ text) = cond (nat_eq byte first) (strip start text) None

strip-at : (start rest : List ℕ) → strip start (start ++ rest) ≡ Some rest
strip-at [] rest = refl
strip-at (byte ∷ start) rest =
    ap (λ b. cond b (strip start (start ++ rest)) None) (eq-eqb byte byte refl) ∙ strip-at start rest

strip-is : (start text rest : List ℕ) → strip start text ≡ Some rest → text ≡ start ++ rest
strip-is [] text rest e = same_Some text rest e
strip-is (byte ∷ start) [] rest e = absurd (none-some rest e)
strip-is (byte ∷ start) (first ∷ text) rest e = elim (cases_Bool (nat_eq byte first)) [
  | inl same ↦
      let more = strip-is start text rest (sym (ap (λ b. cond b (strip start text) None) same) ∙ e) in
      ap (λ b. b ∷ text) (sym (eqb-true byte first same)) ∙ ap (λ xs. byte ∷ xs) more
  | inr other ↦ absurd (none-some rest (sym (ap (λ b. cond b (strip start text) None) other) ∙ e))
]

pub strip-exact : (start text : List ℕ) → Exact (λ rest. text ≡ start ++ rest) (strip start text)
strip-exact start text = record {
  found = strip-is start text;
  only = λ rest e. ap (strip start) e ∙ strip-at start rest;
}

-- what a line states, where it is read from the words of the line and has words of its own

module _ {A : Type 0} (of : List ℕ → Option A) (words : A → List ℕ) (Fits : A → Type 0) where
  -- what was read has these words, and its words are read as it
  pub record IsOfWords : Type 0 where
    pub plain : (a : A) → Fits a → IsPlain (words a)
    pub known : (a : A) → Fits a → of (words a) ≡ Some a
    pub text : (word : List ℕ) (a : A) → of word ≡ Some a → Fits a × (word ≡ words a)

  abbrev in_line : Option (List ℕ × List ℕ) → Option (A × List ℕ)
  in_line None = None
  in_line (Some r) = option_map (λ a. (a, r.1)) (of r.0)

  abbrev pub at_line : List ℕ → Option (A × List ℕ)
  at_line text = in_line (first_line text)

  abbrev pub HasLine : List ℕ → A × List ℕ → Type 0
  HasLine text r = Fits r.0 × (text ≡ line (words r.0) ++ r.1)

  none-read : (r : A × List ℕ) → None ≡ Some r → ⊥
  none-read r e = none-some r e

  module _ (is : IsOfWords) where
    in-found : (text : List ℕ) (o : Option (List ℕ × List ℕ)) (r : A × List ℕ) → LineOf text o →
        in_line o ≡ Some r → HasLine text r
    in-found text None r begins e = absurd (none-read r e)
    in-found text (Some w) r begins e = one (of w.0) refl e
      where
        one : (o : Option A) → of w.0 ≡ o → option_map (λ a. (a, w.1)) o ≡ Some r → HasLine text r
        one None known f = absurd (none-read r f)
        one (Some a) known f =
            let read = is.text w.0 a known in
            subst (HasLine text) (same_Some (a, w.1) r f)
            (read.0, as-line text w.0 (words a) w.1 begins read.1)

    pub line-exact : (text : List ℕ) → Exact (HasLine text) (at_line text)
    line-exact text = record {
      found = λ r e. in-found text (first_line text) r (first-line-is text) e;
      only = λ r h.
          ap in_line (first-is text (words r.0) r.1 (is.plain r.0 h.0) h.1)
          ∙ ap (option_map (λ a. (a, r.1))) (is.known r.0 h.0);
    }
