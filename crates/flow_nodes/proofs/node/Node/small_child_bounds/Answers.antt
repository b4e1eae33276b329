use Rattle.std.proofs.Common.{slice_index, ap, sym, ◌∙◌, subst, arith}
use Rattle.flow_shop.specs.declared.end.End.TheVariants.{Front, Back}
use Rattle.flow_nodes.specs.Vectors.{HasLane}
use Rattle.flow_nodes.specs.Groups.{child_bound}
use Rattle.flow_nodes.proofs.ChildSteps.{greatest-is-bound}
use Rattle.flow_nodes.proofs.SpreadSteps.{node-small-bound, node-within}
use Rattle.flow_nodes.proofs.node.Node.small_child_bounds.Goals as goal

pub returns-in-Front : goal.returns-in-Front
returns-in-Front g c shop first last jobs lane is are within fresh =
    subst (λ n. HasLane g.V.Vector.CAP g.V.Vector.WIDTH (g.V.Vector.list c.small_front_bounds.result) lane n)
    (greatest-is-bound shop first last (slice_index jobs lane) c.args.self.now is (are.each lane within) Front fresh
    ∙ ap (λ end. child_bound shop end first last (slice_index jobs lane)) (sym c.in-Front.is))
    (c.small_front_bounds.ensures shop first last jobs lane is are within)

pub returns-in-Back : goal.returns-in-Back
returns-in-Back g c shop first last jobs lane is are within fresh =
    subst (λ n. HasLane g.V.Vector.CAP g.V.Vector.WIDTH (g.V.Vector.list c.small_back_bounds.result) lane n)
    (greatest-is-bound shop first last (slice_index jobs lane) c.args.self.now is (are.each lane within) Back fresh
    ∙ ap (λ end. child_bound shop end first last (slice_index jobs lane)) (sym c.in-Back.is))
    (c.small_back_bounds.ensures shop first last jobs lane is are within)

pub small_front_bounds-requires-clause-small : goal.small_front_bounds-requires-clause-small
small_front_bounds-requires-clause-small g c place low =
    let at = c.requires.small in
    let bound = node-small-bound at.0 at.1 at.2 c.args.self.now at.3 in
    let sum = node-within at.0 at.1 at.2 c.args.self.now place at.3 (omega (arith, low, at.4)) in
    (omega (arith, sum, at.5), omega (arith, sum, bound))

pub small_back_bounds-requires-clause-small : goal.small_back_bounds-requires-clause-small
small_back_bounds-requires-clause-small g c place low =
    let at = c.requires.small in
    let bound = node-small-bound at.0 at.1 at.2 c.args.self.now at.3 in
    let sum = node-within at.0 at.1 at.2 c.args.self.now place at.3 (omega (arith, low, at.4)) in
    (omega (arith, sum, at.5), omega (arith, sum, bound))
