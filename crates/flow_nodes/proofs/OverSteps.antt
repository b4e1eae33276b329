-- One more machine that a pass has gone over.
use Rattle.std.proofs.Common.{◌≡◌, ℕ, ◌+◌, ◌-◌, ◌<◌, max, List, [], ◌∷◌, ◌++◌, map, slice_index, refl, ap, sym, ◌∙◌}
use Rattle.std.proofs.Common.{subst, arith}
use Rattle.flow_shop.specs.Shop.{Shop, numbers, time}
use Rattle.flow_shop.specs.Least.{greatest}
use Rattle.flow_shop.specs.Ends.{front, back}
use Rattle.flow_shop.specs.declared.end.End.TheVariants.{Front, Back}
use Rattle.flow_nodes.specs.Vectors.{HasLane}
use Rattle.flow_nodes.specs.Nodes.{IsJob, IsNode}
use Rattle.flow_nodes.specs.internal.Children.{front_child_at, back_child_at}
use Rattle.flow_nodes.specs.internal.Passes.{HasPassed, free_at, greatest_up_to}
use Rattle.flow_nodes.specs.declared.passes.Pass.{Pass}
use Rattle.flow_nodes.specs.declared.node.Node.{Node}
use Rattle.flow_nodes.proofs.ChildSteps.{front-next, front-greatest, back-next, back-greatest}

module _ {V : Type 0} (list : V → List ℕ) (cap width : ℕ) (shop : Shop) (first last : List ℕ) (job lane : ℕ)
    (node : Node) (is : IsNode shop first last node) (range : IsJob shop job) (pass : Pass V) where
  pub front-over : (place next : ℕ) → next ≡ place + 1 → place < shop.machines →
      HasLane cap width (list pass.free) lane
      (max (front shop (first ++ job ∷ []) place) (slice_index node.front place) + time shop job (place + 1)) →
      HasLane cap width (list pass.bounds) lane
      (max (greatest (map (front_child_at shop first last job) (numbers 1 place)))
      (max (front shop (first ++ job ∷ []) place) (slice_index node.front place)
      + (slice_index node.work place + slice_index node.back place))) →
      HasPassed list cap width shop Front first last job lane next pass
  front-over place next is-next below free bounds = record {
    free = subst (HasLane cap width (list pass.free) lane)
        (front-next shop first last job node is range place (slice_index node.front place) below refl
        ∙ ap (free_at shop Front first last job) (sym is-next)) free;
    bounds = subst (HasLane cap width (list pass.bounds) lane)
        (front-greatest shop first last job node is range place (slice_index node.front place)
        (slice_index node.work place) (slice_index node.back place) below refl refl refl
        ∙ ap (greatest_up_to shop Front first last job) (sym is-next)) bounds;
  }

  pub back-over : (place before : ℕ) → before ≡ place + 1 → place < shop.machines →
      HasLane cap width (list pass.free) lane
      (max (back shop (job ∷ last) (before + 1)) (slice_index node.back place) + time shop job (place + 1)) →
      HasLane cap width (list pass.bounds) lane
      (max (greatest (map (back_child_at shop first last job) (numbers (before + 1) shop.machines)))
      (max (back shop (job ∷ last) (before + 1)) (slice_index node.back place)
      + (slice_index node.work place + slice_index node.front place))) →
      HasPassed list cap width shop Back first last job lane place pass
  back-over place before is-before below free bounds =
      let same : place ≡ before - 1 = omega (arith, is-before) in
      record {
        free = subst (HasLane cap width (list pass.free) lane)
            (ap (λ m. max (back shop (job ∷ last) (before + 1)) (slice_index node.back place) + time shop job m)
            (sym is-before)
            ∙ back-next shop first last job node is range before (slice_index node.back place)
            (omega (arith, is-before)) (omega (arith, is-before, below)) (ap (slice_index node.back) same)
            ∙ ap (back shop (job ∷ last)) is-before) free;
        bounds = subst (HasLane cap width (list pass.bounds) lane)
            (back-greatest shop first last job node is range before (slice_index node.back place)
            (slice_index node.work place) (slice_index node.front place) (omega (arith, is-before))
            (omega (arith, is-before, below)) (ap (slice_index node.back) same) (ap (slice_index node.work) same)
            (ap (slice_index node.front) same)
            ∙ ap (λ k. greatest (map (back_child_at shop first last job) (numbers k shop.machines))) is-before) bounds;
      }
