-- What is written place by place, and what a node has on each machine.
use Rattle.std.proofs.Common.{◌≡◌, ◌≢◌, ℕ, ◌+◌, ◌-◌, ◌<◌, ◌≤◌, List, length, set, slice_index, slice_index_or}
use Rattle.std.proofs.Common.{ap, sym, ◌∙◌, subst, inl, inr, arith}
use Rattle.std.proofs.lemmas.Bool.{cases_lt}
use Rattle.std.proofs.lemmas.List.{get_or-set_same, get_or-set_other}
use Rattle.std.proofs.lemmas.List.Elements.{recursion_from_All}
use Rattle.flow_nodes.proofs.ChildBounds.{end-bound-small}
use Rattle.flow_shop.specs.Shop.{Shop}
use Rattle.flow_shop.specs.Ends.{end_bound, end_bound_at}
use Rattle.flow_shop.proofs.Extremes.{range-le-greatest}
use Rattle.flow_nodes.specs.Vectors.{limit_of}
use Rattle.flow_nodes.specs.Nodes.{IsNode}
use Rattle.flow_nodes.specs.internal.Small.{IsSmall}
use Rattle.flow_nodes.specs.declared.node.Node.{Node}

-- one more place is written
pub spread-more : {V : Type 0} (P : ℕ → V → Type 0) (lanes : List V) (at : ℕ) (value : V) → at < length lanes →
    P at value → ((place : ℕ) (none : V) → place < at → P place (slice_index_or lanes place none)) →
    (place : ℕ) (none : V) → place < at + 1 → P place (slice_index_or (set lanes at value) place none)
spread-more P lanes at value within here before place none low = elim (cases_lt place at) [
  | inl below ↦
      let other : place ≢ at = omega arith in
      subst (P place) (sym (get_or-set_other lanes at place value none other)) (before place none below)
  | inr above ↦
      let e : at ≡ place = omega arith in
      let there : slice_index_or (set lanes at value) place none ≡ value =
      ap (λ i. slice_index_or (set lanes at value) i none) (sym e)
      ∙ get_or-set_same lanes at value none within in
      subst (P place) (sym there) (subst (λ i. P i value) e here)
]

-- no number of a node is above its bound
pub node-within : (shop : Shop) (first last : List ℕ) (node : Node) (place : ℕ) → IsNode shop first last node →
    place < shop.machines →
    slice_index node.front place + slice_index node.work place + slice_index node.back place ≤ end_bound shop first last
unfolding end_bound
node-within shop first last node place is low =
    let same : place ≡ place + 1 - 1 = omega arith in
    omega (
      arith,
      is.fronts (place + 1) (omega arith) (omega arith),
      is.backs (place + 1) (omega arith) (omega arith),
      is.works (place + 1) (omega arith) (omega arith),
      ap (slice_index node.front) same,
      ap (slice_index node.back) same,
      ap (slice_index node.work) same,
      range-le-greatest (end_bound_at shop first last) 1 (shop.machines + 1 - 1) (place + 1) (omega arith) (omega arith),
    )

-- and that is below the greatest number of 32 bits
pub node-small-bound : (shop : Shop) (first last : List ℕ) (node : Node) → IsNode shop first last node →
    end_bound shop first last < 4294967295
node-small-bound shop first last node is =
    end-bound-small shop first last is.limits (omega (arith, is.count)) (omega (arith, is.count))
    (recursion_from_All (λ job. (1 ≤ job) × (job ≤ shop.jobs)) last is.last_jobs)

-- so what a node below its threshold has fits below the cap
pub few-small : (shop : Shop) (threshold : ℕ) (first last : List ℕ) (cap limit : ℕ) (node : Node) →
    IsNode shop first last node → end_bound shop first last < threshold → limit ≡ limit_of threshold → limit ≤ cap →
    (machines : ℕ) → machines ≡ shop.machines → IsSmall cap machines node
few-small shop threshold first last cap limit node is under limit_is capped machines few place low =
    let sum = node-within shop first last node place is (omega (arith, low, few)) in
    let bound = node-small-bound shop first last node is in (
      omega (arith, sum, limit_is, under, capped, bound),
      omega (arith, sum, bound),
    )
