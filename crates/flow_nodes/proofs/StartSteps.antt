-- When jobs start at an end of a node, machine by machine, and the bounds of children from their starts.
use Rattle.std.proofs.Common.{◌≡◌, ℕ, ◌+◌, ◌-◌, ◌<◌, ◌≤◌, max, List, [], ◌∷◌, ◌++◌, length, map, slice_index}
use Rattle.std.proofs.Common.{slice_index_or, set, refl, ap, sym, subst, inl, inr, arith, ◌≢◌, ◌∙◌}
use Rattle.std.proofs.lemmas.Bool.{cases_lt}
use Rattle.std.proofs.lemmas.List.{get_or-set_same, get_or-set_other}
use Rattle.flow_shop.specs.Shop.{Shop, numbers}
use Rattle.flow_shop.specs.Least.{greatest}
use Rattle.flow_shop.specs.Ends.{front, back}
use Rattle.flow_shop.specs.declared.end.End.{End}
use Rattle.flow_shop.specs.declared.end.End.TheVariants.{Front, Back}
use Rattle.flow_shop.proofs.Ranges.{greatest-next}
use Rattle.flow_nodes.specs.declared.node.Node.{Node}
use Rattle.flow_nodes.specs.Nodes.{IsNode, work}
use Rattle.flow_nodes.specs.Open.{start_at}
use Rattle.flow_nodes.specs.internal.Children.{front_child_at, back_child_at, greatest_at}
use Rattle.flow_nodes.specs.internal.Spread.{at_other_end}
use Rattle.flow_nodes.proofs.ChildSteps.{are-at}

-- the number of a child on a machine
abbrev pub child_at : Shop → End → List ℕ → List ℕ → ℕ → (ℕ → ℕ)
child_at shop Front first last job = front_child_at shop first last job
child_at shop Back first last job = back_child_at shop first last job

-- the greatest of them
pub greatest-child : (shop : Shop) (end : End) (first last : List ℕ) (job : ℕ) →
    greatest (map (child_at shop end first last job) (numbers 1 shop.machines)) ≡ greatest_at shop end first last job
greatest-child shop Front first last job = refl
greatest-child shop Back first last job = refl

module _ (shop : Shop) (first last : List ℕ) (job : ℕ) (node : Node) (is : IsNode shop first last node) where
  -- the start at the front is the later of when the job is free and when the machine is
  pub front-start : (place near : ℕ) → place < shop.machines → near ≡ slice_index node.front place →
      max (front shop (first ++ job ∷ []) place) near ≡ start_at shop Front first last job (place + 1)
  front-start place near below near-is =
      let less : place + 1 - 1 ≡ place = omega arith in
      omega (
        arith,
        near-is,
        ap (front shop (first ++ job ∷ [])) less,
        are-at shop (front shop first) node.front place is.fronts below,
      )

  -- and so it is at the back
  pub back-start : (machine near : ℕ) → 1 ≤ machine → machine ≤ shop.machines →
      near ≡ slice_index node.back (machine - 1) →
      max (back shop (job ∷ last) (machine + 1)) near ≡ start_at shop Back first last job machine
  back-start machine near low high near-is = omega (arith, near-is, is.backs machine low high)

  -- the greatest over the machines so far, by the start on the next one
  pub start-greatest : (end : End) (place : ℕ) → place < shop.machines →
      max (greatest (map (child_at shop end first last job) (numbers 1 place)))
      (start_at shop end first last job (place + 1)
      + (slice_index node.work place + slice_index (at_other_end end node) place))
      ≡ greatest (map (child_at shop end first last job) (numbers 1 (place + 1)))
  start-greatest Front place below = omega (
    arith,
    greatest-next (front_child_at shop first last job) place,
    are-at shop (back shop last) node.back place is.backs below,
    are-at shop (work shop (first ++ last)) node.work place is.works below,
  )
  start-greatest Back place below = omega (
    arith,
    greatest-next (back_child_at shop first last job) place,
    are-at shop (front shop first) node.front place is.fronts below,
    are-at shop (work shop (first ++ last)) node.work place is.works below,
  )

-- one more place is written, from the last one down
pub spread-down : {V : Type 0} (P : ℕ → V → Type 0) (lanes : List V) (at most : ℕ) (value : V) → at < length lanes →
    P at value → ((place : ℕ) (none : V) → at < place → place < most → P place (slice_index_or lanes place none)) →
    (place : ℕ) (none : V) → at ≤ place → place < most → P place (slice_index_or (set lanes at value) place none)
spread-down P lanes at most value within here before place none low high = elim (cases_lt at place) [
  | inl above ↦
      let other : place ≢ at = omega arith in
      subst (P place) (sym (get_or-set_other lanes at place value none other)) (before place none above high)
  | inr below ↦
      let e : at ≡ place = omega arith in
      let there : slice_index_or (set lanes at value) place none ≡ value =
      ap (λ i. slice_index_or (set lanes at value) i none) (sym e)
      ∙ get_or-set_same lanes at value none within in
      subst (P place) (sym there) (subst (λ i. P i value) e here)
]
