-- A unpruned is what a search for the first machine that prunes finds.
use Rattle.std.proofs.Common.{◌≡◌, ℕ, zero, suc, ◌+◌, ◌-◌, ◌<◌, ◌≤◌, Bool, true, false, cond, nat_le, nat_lt, List}
use Rattle.std.proofs.Common.{Some, None, find, refl, ap, sym, ◌∙◌, inl, inr, arith}
use Rattle.std.specs.List.{range_with_len}
use Rattle.std.proofs.lemmas.Bool.{cases_lt, le-leb, lt-leb, lt-ltb, le-ltb}
use Rattle.flow_shop.specs.Shop.{Shop, numbers}
use Rattle.flow_shop.specs.Bound.{Bound}
use Rattle.flow_search.specs.internal.Columns.{IsUnprunedCount}

-- the first number of a range that passes
found-at : (p : ℕ → Bool) (from n k : ℕ) → k < n → ((i : ℕ) → from ≤ i → i < from + k → p i ≡ false) →
    p (from + k) ≡ true → find p (range_with_len from n) ≡ Some (from + k)
found-at p from zero k low none pass = absurd (omega (arith, low))
found-at p from (suc n) zero low none pass =
    let e : from + 0 ≡ from = omega arith in
    ap (λ b. cond b (Some from) (find p (range_with_len (from + 1) n))) (sym (ap p e) ∙ pass) ∙ ap Some (sym e)
found-at p from (suc n) (suc k) low none pass =
    let e : from + 1 + k ≡ from + suc k = omega arith in
    ap (λ b. cond b (Some from) (find p (range_with_len (from + 1) n))) (none from (omega arith) (omega arith))
    ∙ found-at p (from + 1) n k (omega (arith, low)) (λ i a b. none i (omega (arith, a)) (omega (arith, b)))
    (ap p e ∙ pass)
    ∙ ap Some e

found-none : (p : ℕ → Bool) (from n : ℕ) → ((i : ℕ) → from ≤ i → i < from + n → p i ≡ false) →
    find p (range_with_len from n) ≡ None
found-none p from zero none = refl
found-none p from (suc n) none =
    ap (λ b. cond b (Some from) (find p (range_with_len (from + 1) n))) (none from (omega arith) (omega arith))
    ∙ found-none p (from + 1) n (λ i a b. none i (omega (arith, a)) (omega (arith, b)))

pub count-found : (shop : Shop) (bound : Bound) (list : List ℕ) (limit unpruned : ℕ) →
    IsUnprunedCount shop bound list limit shop.machines unpruned →
    find (λ machine. nat_le limit (bound shop list machine)) (numbers 1 shop.machines) ≡ cond
    (nat_lt unpruned shop.machines) (Some (unpruned + 1)) None
count-found shop bound list limit unpruned is = elim (cases_lt unpruned shop.machines) [
  | inl cut ↦
      let e : 1 + unpruned ≡ unpruned + 1 = omega arith in
      found-at (λ machine. nat_le limit (bound shop list machine)) 1 (shop.machines + 1 - 1) unpruned
      (omega (arith, cut))
      (λ i a b. lt-leb limit (bound shop list i) (is.above i a (omega (arith, b))))
      (ap (λ m. nat_le limit (bound shop list m)) e ∙ le-leb limit (bound shop list (unpruned + 1)) (is.cut cut))
      ∙ ap Some e ∙ sym (ap (λ b. cond b (Some (unpruned + 1)) None) (lt-ltb unpruned shop.machines cut))
  | inr whole ↦
      found-none (λ machine. nat_le limit (bound shop list machine)) 1 (shop.machines + 1 - 1)
      (λ i a b. lt-leb limit (bound shop list i) (is.above i a (omega (arith, b, whole))))
      ∙ sym (ap (λ b. cond b (Some (unpruned + 1)) None) (le-ltb unpruned shop.machines whole))
]
