-- The lanes of a group, and the groups of all jobs.
use Rattle.std.proofs.Common.{◌≡◌, ◌≢◌, ℕ, ◌+◌, ◌-◌, ◌<◌, ◌≤◌, List, [], ◌∷◌, ◌++◌, length, get_or, set, slice_index}
use Rattle.std.proofs.Common.{slice_index_or, length-append, ap, sym, ◌∙◌, subst, inl, inr, arith}
use Rattle.std.specs.Global.{Vec}
use Rattle.std.proofs.Math.Seq.{get_or-append_seam}
use Rattle.std.proofs.lemmas.Bool.{cases_lt}
use Rattle.std.proofs.lemmas.List.{get_or-set_same, get_or-set_other, get_or_append_left}
use Rattle.flow_shop.specs.Shop.{Shop, time}
use Rattle.flow_nodes.specs.Vectors.{HasLane}
use Rattle.flow_nodes.specs.Groups.{IsGroup}

module _ {V : Type 0} where
  -- what is read of a group on a machine
  pub lane-at : (list : V → List ℕ) (cap width : ℕ) (shop : Shop) (jobs : List ℕ) (group : List V)
      (machine place lane : ℕ) (value : V) → IsGroup list cap width shop jobs group → place ≡ machine - 1 →
      1 ≤ machine → machine ≤ shop.machines → lane < width → value ≡ get_or group place value →
      HasLane cap width (list value) lane (time shop (slice_index jobs lane) machine)
  lane-at list cap width shop jobs group machine place lane value is same low high within read =
      subst (λ v. HasLane cap width (list v) lane (time shop (slice_index jobs lane) machine))
      (sym (read ∙ ap (λ i. get_or group i value) same)) (is.times machine lane value low high within)

  -- one more machine is written
  pub written-more : (P : ℕ → V → Type 0) (group : List V) (machine : ℕ) (value none : V) → 1 ≤ machine →
      machine - 1 < length group → P machine value →
      ((k : ℕ) → 1 ≤ k → k < machine → P k (get_or group (k - 1) none)) → (k : ℕ) → 1 ≤ k → k < machine + 1 →
      P k (get_or (set group (machine - 1) value) (k - 1) none)
  written-more P group machine value none from within here before k low high =
      elim (cases_lt k machine) [
        | inl below ↦
            let other : k - 1 ≢ machine - 1 = omega arith in
            subst (P k) (sym (get_or-set_other group (machine - 1) (k - 1) value none other)) (before k low below)
        | inr above ↦
            let e : machine ≡ k = omega arith in
            let there : get_or (set group (machine - 1) value) (k - 1) none ≡ value =
            ap (λ i. get_or (set group (machine - 1) value) (i - 1) none) (sym e)
            ∙ get_or-set_same group (machine - 1) value none within in
            subst (P k) (sym there) (subst (λ i. P i value) e here)
      ]

-- one more group
pub groups-push : {V : Type 0} (P : ℕ → List V → Type 0) (groups : List (Vec V)) (vector : Vec V) →
    ((group : ℕ) (none : Vec V) → group < length groups → P group (slice_index_or groups group none).items) →
    P (length groups) vector.items → (group : ℕ) (none : Vec V) → group < length (groups ++ vector ∷ []) →
    P group (slice_index_or (groups ++ vector ∷ []) group none).items
groups-push P groups vector before here group none within = elim (cases_lt group (length groups)) [
  | inl low ↦
      subst (λ v. P group v.items) (sym (get_or_append_left groups (vector ∷ []) none group low))
      (before group none low)
  | inr high ↦
      let same : group ≡ length groups = omega (arith, high, within, length-append groups (vector ∷ [])) in
      subst (λ n. P n (slice_index_or (groups ++ vector ∷ []) n none).items) (sym same)
      (subst (λ v. P (length groups) v.items) (sym (get_or-append_seam groups vector [] none)) here)
]
