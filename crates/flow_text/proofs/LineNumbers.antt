-- A number line has a number at least, and times are small numbers.
use Rattle.std.proofs.Common.{◌≡◌, ◌∙◌, subst, ◌<◌, ◌≤◌, ◌+◌, ◌*◌, ℕ, Bool, true, false, not, cond}
use Rattle.std.proofs.Common.{List, Some, None, Ok, ◌++◌, ◌∷◌, [], length, arith, refl, sym}
use Rattle.std.specs.List.{list_all, AllByRecursion}
use Rattle.std.proofs.lemmas.List.Folds.{list_all-append}
use Rattle.std.proofs.lemmas.Bool.Decides.{nat_tests}
use Rattle.flow_text.specs.Lines.{after_blanks, is_digit, is_blank, is_plain, numbers_of}
use Rattle.flow_text.specs.Lines.{is_label_line, is_number_line}
use Rattle.flow_text.proofs.NumberLemmas.{numbers_after, numbers_of-after}
use Rattle.flow_text.specs.TextFaults.{is_head}
use Rattle.flow_shop.specs.Shop.{Shop, IsWithinLimits}
use Rattle.flow_limits.specs.Limits.{greatest_time}
use Rattle.std.specs.Char.{digit_value}
use Rattle.std.proofs.lemmas.List.Elements.{recursion_from_All}
use Rattle.std.proofs.lemmas.Bool.{and_parts}
use Rattle.flow_text.specs.internal.TextState.{State, sizes_of}
use Rattle.flow_text.specs.internal.TextWalk.{line_numbers}
use Rattle.flow_text.specs.internal.TextWalk.{block_of}
use Rattle.flow_text.specs.Text.{IsBlock}
use Rattle.flow_text.specs.declared.text.progress.Want.TheVariants.{FirstLabel, HeadNumbers, SecondLabel, Times}
use Rattle.flow_text.proofs.RestOfText.{small, is_time}

-- something is still wanted
abbrev pub Wants : State → Type 0
Wants s = elim s.want [
  | FirstLabel ↦ Unit {0}
  | HeadNumbers ↦ length s.numbers < 5
  | SecondLabel ↦ Unit {0}
  | Times ↦ length s.numbers < s.head.jobs * s.head.machines
]

positive : (p : Bool) (xs ys : List ℕ) → 0 < length xs → 0 < length ys → 0 < length (cond p xs ys)
positive true xs ys h k = h
positive false xs ys h k = k

-- a number has at least one digit, and so a number line a number
numbers_after-open : (n : ℕ) (l : List ℕ) → 0 < length (numbers_after (Some n) l)
numbers_after-open n [] = omega arith
numbers_after-open n (b ∷ l) =
    positive (is_blank b) (n ∷ numbers_after None l) _ (omega arith) (numbers_after-open (n * 10 + digit_value b) l)

some-cons : (b : ℕ) (l : List ℕ) (p : Bool) → is_blank b ≡ p → is_number_line (b ∷ l) ≡ true →
    (is_number_line l ≡ true → 0 < length (numbers_after None l)) → 0 < length (numbers_after None (b ∷ l))
some-cons b l true e h more = rw e (more (rw (e, is_number_line) at h))
some-cons b l false e h more = rw e (numbers_after-open (0 * 10 + digit_value b) l)

numbers_after-some : (l : List ℕ) → is_number_line l ≡ true → 0 < length (numbers_after None l)
numbers_after-some [] h = cc
numbers_after-some (b ∷ l) h = some-cons b l (is_blank b) refl h (numbers_after-some l)

pub numbers_of-some : (l : List ℕ) → is_number_line l ≡ true → 0 < length (numbers_of l)
numbers_of-some l h = subst (λ ns. 0 < length ns) (sym (numbers_of-after l)) (numbers_after-some l h)

-- times are small
small-times : (ts : List ℕ) → AllByRecursion (λ t. t ≤ greatest_time) ts → (list_all small ts ≡ true)
    × (list_all is_time ts ≡ true)
small-times [] h = (refl, refl)
small-times (t ∷ ts) h =
    let more = small-times ts h.1 in
    let first : t ≤ greatest_time = h.0 in
    let a : small t ≡ true = grind (arith, nat_tests) in
    let b : is_time t ≡ true = grind (arith, nat_tests) in
    (rw (a, more.0) refl, rw (b, more.1) refl)

pub small-of-time : (shop : Shop) → IsWithinLimits shop → (list_all small shop.times ≡ true)
    × (list_all is_time shop.times ≡ true)
small-of-time shop w = small-times shop.times (recursion_from_All (λ t. t ≤ greatest_time) shop.times w.times)

pub line_numbers-plain : (l : List ℕ) → is_plain l ≡ true → list_all small (numbers_of l) ≡ true →
    line_numbers l ≡ Ok (numbers_of l)
unfolding line_numbers
line_numbers-plain l p q = rw (p, q) refl

pub append-true : (p : ℕ → Bool) (xs ys : List ℕ) → list_all p (xs ++ ys) ≡ true → (list_all p xs ≡ true)
    × (list_all p ys ≡ true)
append-true p xs ys h = and_parts _ _ (sym (list_all-append p xs ys) ∙ h)

pub not-both : (l : List ℕ) → is_label_line l ≡ true → is_number_line l ≡ true → ⊥
not-both l p q = go (after_blanks l) refl p q
  where
    go : (v : List ℕ) → after_blanks l ≡ v → is_label_line l ≡ true → is_number_line l ≡ true → ⊥
    go [] e p q = let bad : false ≡ true = rw (e, is_number_line) at q in cc
    go (b ∷ bs) e p q =
        let digit : is_digit b ≡ true = rw (e, is_number_line) at q in
        let other : not (is_digit b) ≡ true = rw (e, is_label_line) at p in
        let bad : not true ≡ true = rw digit at other in
        cc

pub small-five : (ns : List ℕ) (ts : List ℕ) → length ns ≡ 5 → IsBlock (block_of (sizes_of ns) ts) →
    (list_all small ns ≡ true) × (is_head ns ≡ true)
small-five [] ts h w = absurd (omega arith)
small-five (a ∷ []) ts h w = absurd (omega arith)
small-five (a ∷ b ∷ []) ts h w = absurd (omega arith)
small-five (a ∷ b ∷ c ∷ []) ts h w = absurd (omega arith)
small-five (a ∷ b ∷ c ∷ d ∷ []) ts h w = absurd (omega arith)
small-five (a ∷ b ∷ c ∷ d ∷ e ∷ []) ts h w =
    let pa : small a ≡ true = grind (arith, nat_tests, w.instance.jobs) in
    let pb : small b ≡ true = grind (arith, nat_tests, w.instance.machines) in
    let pc : small c ≡ true = grind (arith, nat_tests, w.seed) in
    let pd : small d ≡ true = grind (arith, nat_tests, w.upper) in
    let pe : small e ≡ true = grind (arith, nat_tests, w.lower) in (
      rw (pa, pb, pc, pd, pe) refl,
      grind
          (arith, nat_tests, w.instance.some_job, w.instance.jobs, w.instance.some_machine, w.instance.machines),
    )
small-five (a ∷ b ∷ c ∷ d ∷ e ∷ f ∷ ns) ts h w = absurd (omega arith)
