-- A text that begins with another one, and steps of a reading that fail or go on.
use Rattle.std.proofs.Common.{◌≡◌, ℕ, Bool}
use Rattle.std.proofs.Common.{true, false, cond}
use Rattle.std.proofs.Common.{List, [], ◌∷◌, ◌++◌, Option, Some, None, Result, Err, IfErr, refl, ap, sym}
use Rattle.std.proofs.Common.{subst, ◌∙◌, append_assoc}
use Rattle.std.specs.Option.{option_map_or}
use Rattle.std.proofs.lemmas.Option.{none-some, same_Some}
use Rattle.flow_check.specs.TextLines.{line}
use Rattle.flow_check.specs.internal.Reading.{first_line}
use Rattle.flow_check.specs.declared.fault.CheckFault.{CheckFault}
use Rattle.flow_check.proofs.Numbers.{IsPlain}
use Rattle.flow_check.proofs.ExactLines.{LineOf, first-line-is, first-line-complete}
use Rattle.flow_check.proofs.HeadingLines.{as-line}

-- beginnings of texts

abbrev rest_of : List ℕ → List ℕ
rest_of [] = []
rest_of (byte ∷ rest) = rest

pub cancel : (before xs ys : List ℕ) → before ++ xs ≡ before ++ ys → xs ≡ ys
cancel [] xs ys e = e
cancel (byte ∷ before) xs ys e = cancel before xs ys (ap rest_of e)

-- what follows a beginning, where the text has one more line
pub inner : (text before rest next more : List ℕ) → text ≡ before ++ rest → text ≡ (before ++ next) ++ more →
    rest ≡ next ++ more
inner text before rest next more e f = cancel before rest (next ++ more) (sym e ∙ f ∙ append_assoc before next more)

pub outer : (text before rest next more : List ℕ) → text ≡ before ++ rest → rest ≡ next ++ more →
    text ≡ (before ++ next) ++ more
outer text before rest next more e f = e ∙ ap (λ r. before ++ r) f ∙ sym (append_assoc before next more)

-- the first line of a text that begins with a line
pub first-is : (text next more : List ℕ) → IsPlain next → text ≡ line next ++ more → first_line text ≡ Some (next, more)
first-is text next more plain e = ap first_line (e ∙ append_assoc next (10 ∷ []) more)
    ∙ first-line-complete next more plain

pub same-line : (text next more word rest : List ℕ) → first_line text ≡ Some (word, rest) → IsPlain next →
    text ≡ line next ++ more → word ≡ next
same-line text next more word rest e plain is =
    ap (λ r. r.0) (same_Some (word, rest) (next, more) (sym e ∙ first-is text next more plain is))

pub no-line : (text next more : List ℕ) → first_line text ≡ None → IsPlain next → text ≡ line next ++ more → ⊥
no-line text next more e plain is = none-some (next, more) (sym e ∙ first-is text next more plain is)

-- where a line ends, the text begins with it
pub begun : (text word rest next : List ℕ) → first_line text ≡ Some (word, rest) → word ≡ next →
    text ≡ line next ++ rest
begun text word rest next e same = as-line text word next rest (subst (LineOf text) e (first-line-is text)) same

-- a step of the reading that fails, or goes on

pub step : {A B : Type 0} (P : CheckFault → Type 0) (fault : CheckFault) (next : A → Result B CheckFault)
    (o : Option A) → (o ≡ None → P fault) → ((found : A) → o ≡ Some found → IfErr (next found) P) →
    IfErr (option_map_or next o (Err fault)) P
step P fault next None none some = none refl
step P fault next (Some found) none some = some found refl

pub test : {A : Type 0} (P : CheckFault → Type 0) (fault : CheckFault) (next : Result A CheckFault) (b : Bool) →
    (b ≡ false → P fault) → (b ≡ true → IfErr next P) → IfErr (cond b next (Err fault)) P
test P fault next true none some = some refl
test P fault next false none some = none refl
