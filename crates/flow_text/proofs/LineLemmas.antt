-- The first line of a text.
use Rattle.std.proofs.Common.{◌≡◌, ◌<◌, ◌-◌, ℕ, zero, suc, List, ◌∷◌, [], length, take, drop, get_or, arith, refl}
use Rattle.std.proofs.Common.{add-one, length-drop}
use Rattle.std.proofs.Math.Seq.{take-length}
use Rattle.std.proofs.lemmas.List.{drop-drop}
use Rattle.std.proofs.lemmas.Bool.Decides.{nat_tests}
use Rattle.flow_text.specs.Lines.{lines_of}

-- a text that begins with a whole line
pub lines_of-line : (bs : List ℕ) (i : ℕ) → i < length bs → get_or bs i 0 ≡ 10 →
    ((k : ℕ) → k < i → get_or bs k 0 ≡ 10 → ⊥) → lines_of bs ≡ take i bs ∷ lines_of (drop (suc i) bs)
lines_of-line [] i h e none = absurd (omega arith)
lines_of-line (b ∷ bs) zero h e none = grind (arith, nat_tests)
lines_of-line (b ∷ bs) (suc i) h e none =
    let other : b ≡ 10 → ⊥ = none 0 (omega arith) in
    let more = lines_of-line bs i (omega arith) e (λ k below. none (suc k) (omega arith)) in
    grind (arith, nat_tests, more)

-- a text with no line end
pub lines_of-last : (bs : List ℕ) → 0 < length bs → ((k : ℕ) → k < length bs → get_or bs k 0 ≡ 10 → ⊥) →
    lines_of bs ≡ bs ∷ []
lines_of-last [] h none = absurd (omega arith)
lines_of-last (b ∷ []) h none = let other : b ≡ 10 → ⊥ = none 0 (omega arith) in grind (arith, nat_tests)
lines_of-last (b ∷ c ∷ bs) h none =
    let other : b ≡ 10 → ⊥ = none 0 (omega arith) in
    let more = lines_of-last (c ∷ bs) (omega arith) (λ k below. none (suc k) (omega arith)) in
    grind (arith, nat_tests, more)

drop-step : (bs : List ℕ) (i : ℕ) → i < length bs → take (length (drop i bs) - 1) (drop 1 (drop i bs)) ≡ drop (suc i) bs
drop-step bs i h =
    let d : drop 1 (drop i bs) ≡ drop (suc i) bs = rw (drop-drop, add-one) refl in
    let l : length (drop i bs) - 1 ≡ length (drop (suc i) bs) =
    omega (arith, length-drop i bs, length-drop (suc i) bs) in
    rw (d, l, take-length) refl

pub lines_of-split : (bs front back : List ℕ) (i : ℕ) → i < length bs → get_or bs i 0 ≡ 10 →
    ((k : ℕ) → k < i → get_or bs k 0 ≡ 10 → ⊥) → front ≡ take i bs → back ≡ drop i bs →
    lines_of bs ≡ front ∷ lines_of (take (length back - 1) (drop 1 back))
lines_of-split bs front back i h e none f b = rw (f, b, drop-step) (lines_of-line bs i h e none)
