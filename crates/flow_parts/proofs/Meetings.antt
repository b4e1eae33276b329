-- What the places of a search stand for.
use Rattle.std.proofs.Common.{◌≡◌, ◌≢◌, ℕ, zero, suc, ◌+◌, inl, inr, true, false, cond, List, [], ◌∷◌, ◌++◌, length}
use Rattle.std.proofs.Common.{Some, None, refl, ap, sym, ◌∙◌, ltb, eqb}
use Rattle.std.specs.List.{AllByRecursion, flat_map, range_with_len}
use Rattle.std.proofs.lemmas.Bool.{cases_eq}
use Rattle.flow_parts.specs.declared.place.Place.{Place}
use Rattle.flow_parts.specs.Orders.{place_at, is_open}
use Rattle.flow_parts.specs.Meanings.{met, behind, Meaning, place_met, order_met, BeginsRight, GivesKeep}
use Rattle.flow_parts.specs.Meanings.{GivesNoneKeeps}
use Rattle.flow_parts.proofs.Behind.{behind-nil, behind-assoc, met-append}
use Rattle.flow_parts.proofs.Numbers.{all-weaker}
use Rattle.flow_parts.proofs.Skips.{same-place}

module _ (meaning : Meaning) where
  pub order-append : (at : ℕ → Place) (xs ys : List ℕ) →
      order_met meaning at (xs ++ ys) ≡ behind (order_met meaning at xs) (order_met meaning at ys)
  order-append at [] ys = refl
  order-append at (x ∷ xs) ys =
      ap (behind (place_met meaning at x)) (order-append at xs ys)
      ∙ sym (behind-assoc (place_met meaning at x) (order_met meaning at xs) (order_met meaning at ys))

  -- places that are as they were
  pub order-kept : (at at' : ℕ → Place) (xs : List ℕ) → AllByRecursion (λ q. at' q ≡ at q) xs →
      order_met meaning at' xs ≡ order_met meaning at xs
  order-kept at at' [] same = refl
  order-kept at at' (x ∷ xs) same =
      ap (λ p. behind (cond (is_open p) (met (meaning.parts x))
      (meaning.text x, cond (eqb p.state 3) (Some (meaning.sequence x)) None)) (order_met meaning at' xs)) same.0
      ∙ ap (behind (place_met meaning at x)) (order-kept at at' xs same.1)

  -- a place that is open
  pub open-met : (at : ℕ → Place) (q : ℕ) → is_open (at q) ≡ true → place_met meaning at q ≡ met (meaning.parts q)
  open-met at q is = ap (λ b. cond b (met (meaning.parts q))
      (meaning.text q, cond (eqb (at q).state 3) (Some (meaning.sequence q)) None)) is

  -- a place that is not
  pub closed-met : (at : ℕ → Place) (q : ℕ) → is_open (at q) ≡ false →
      place_met meaning at q ≡ (meaning.text q, cond (eqb (at q).state 3) (Some (meaning.sequence q)) None)
  closed-met at q not = ap (λ b. cond b (met (meaning.parts q))
      (meaning.text q, cond (eqb (at q).state 3) (Some (meaning.sequence q)) None)) not

  -- new places, which wait
  pub fresh-met : (at : ℕ → Place) (m k : ℕ) → AllByRecursion (λ q. (at q).state ≡ 0) (range_with_len m k) →
      order_met meaning at (range_with_len m k) ≡ met (flat_map meaning.parts (range_with_len m k))
  fresh-met at m zero waits = refl
  fresh-met at m (suc k) waits =
      ap (λ one. behind one (order_met meaning at (range_with_len (m + 1) k)))
      (open-met at m (ap (λ n. ltb n 2) waits.0))
      ∙ ap (behind (met (meaning.parts m))) (fresh-met at (m + 1) k waits.1)
      ∙ sym (met-append (meaning.parts m) (flat_map meaning.parts (range_with_len (m + 1) k)))

pub begins-right : BeginsRight
begins-right places meaning waits =
    let opened : is_open (place_at places 0) ≡ true = ap (λ n. ltb n 2) waits in
    record {
      met_in_all = behind-nil (place_met meaning (place_at places) 0) ∙ open-met meaning (place_at places) 0 opened;
      lengths = ((λ not. absurd (cc (opened, not))), tt);
    }

-- a place of another state that is open as before, and others of another skip
states-met : (meaning : Meaning) (at at' : ℕ → Place) (number : ℕ) → is_open (at number) ≡ true →
    is_open (at' number) ≡ true → ((q : ℕ) → q ≢ number → at' q ≡ record (at q) { skip = (at' q).skip }) →
    (xs : List ℕ) →
    order_met meaning at' xs ≡ order_met meaning at xs
states-met meaning at at' number was is others [] = refl
states-met meaning at at' number was is others (x ∷ xs) =
    let here : place_met meaning at' x ≡ place_met meaning at x = elim (cases_eq x number) [
      | inl same ↦ ap (place_met meaning at') same ∙ open-met meaning at' number is
          ∙ sym (open-met meaning at number was) ∙ ap (place_met meaning at) (sym same)
      | inr not ↦ ap (λ p. cond (is_open p) (met (meaning.parts x))
          (meaning.text x, cond (eqb p.state 3) (Some (meaning.sequence x)) None)) (others x not)
    ] in
    ap (λ one. behind one (order_met meaning at' xs)) here
    ∙ ap (behind (place_met meaning at x)) (states-met meaning at at' number was is others xs)

pub gives-keep : GivesKeep
gives-keep search old new order number meaning all gives stands =
    let was : is_open (place_at old number) ≡ true = ap (λ n. ltb n 2) gives.waits in
    let is : is_open (place_at new number) ≡ true = ap is_open gives.place in
    let others : (q : ℕ) → q ≢ number →
    place_at new q ≡ record (place_at old q) { skip = (place_at new q).skip } =
    λ q not. same-place gives.first (place_at old) (place_at new) q (gives.others q not) in
    record {
      met_in_all = states-met meaning (place_at old) (place_at new) number was is others order
          ∙ stands.met_in_all;
      lengths = all-weaker (λ q. is_open (place_at old q) ≡ false → length (meaning.text q) ≡ (place_at old q).written)
          (λ q. is_open (place_at new q) ≡ false → length (meaning.text q) ≡ (place_at new q).written) order
          (λ q known closed. elim (cases_eq q number) [
            | inl same ↦ absurd (cc (ap (λ n. is_open (place_at new n)) same, is, closed))
            | inr not ↦
                let same = others q not in
                known (ap is_open (sym same) ∙ closed) ∙ ap (λ p. p.written) (sym same)
          ]) stands.lengths;
    }

-- what places stand for does not depend on what they skip
skips-met : (meaning : Meaning) (at at' : ℕ → Place) →
    ((q : ℕ) → at' q ≡ record (at q) { skip = (at' q).skip }) → (xs : List ℕ) →
    order_met meaning at' xs ≡ order_met meaning at xs
skips-met meaning at at' same [] = refl
skips-met meaning at at' same (x ∷ xs) =
    let here : place_met meaning at' x ≡ place_met meaning at x =
    ap (λ p. cond (is_open p) (met (meaning.parts x))
    (meaning.text x, cond (eqb p.state 3) (Some (meaning.sequence x)) None)) (same x) in
    ap (λ one. behind one (order_met meaning at' xs)) here
    ∙ ap (behind (place_met meaning at x)) (skips-met meaning at at' same xs)

pub gives-none-keeps : GivesNoneKeeps
gives-none-keeps search old new order meaning all gives stands =
    let same : (q : ℕ) → place_at new q ≡ record (place_at old q) { skip = (place_at new q).skip } =
    λ q. same-place order (place_at old) (place_at new) q (gives.same q) in
    record {
      met_in_all = skips-met meaning (place_at old) (place_at new) same order ∙ stands.met_in_all;
      lengths = all-weaker (λ q. is_open (place_at old q) ≡ false → length (meaning.text q) ≡ (place_at old q).written)
          (λ q. is_open (place_at new q) ≡ false → length (meaning.text q) ≡ (place_at new q).written) order
          (λ q known closed. known (ap is_open (sym (same q)) ∙ closed) ∙ ap (λ p. p.written) (sym (same q)))
          stands.lengths;
    }
