use Rattle.std.proofs.Common.{slice_index, ap, sym, ◌∙◌, subst}
use Rattle.flow_shop.specs.declared.end.End.TheVariants.{Front, Back}
use Rattle.flow_nodes.specs.Vectors.{HasLane}
use Rattle.flow_nodes.specs.Groups.{child_bound}
use Rattle.flow_nodes.proofs.ChildSteps.{greatest-is-bound}
use Rattle.flow_nodes.proofs.node.Node.child_bounds.Goals as goal

pub returns-in-Front : goal.returns-in-Front
returns-in-Front g c shop first last jobs lane is are within fresh =
    subst (λ n. HasLane g.V.Vector.CAP g.V.Vector.WIDTH (g.V.Vector.list c.front_bounds.result) lane n)
    (greatest-is-bound shop first last (slice_index jobs lane) c.args.self.now is (are.each lane within) Front fresh
    ∙ ap (λ end. child_bound shop end first last (slice_index jobs lane)) (sym c.in-Front.is))
    (c.front_bounds.ensures shop first last jobs lane is are within)

pub returns-in-Back : goal.returns-in-Back
returns-in-Back g c shop first last jobs lane is are within fresh =
    subst (λ n. HasLane g.V.Vector.CAP g.V.Vector.WIDTH (g.V.Vector.list c.back_bounds.result) lane n)
    (greatest-is-bound shop first last (slice_index jobs lane) c.args.self.now is (are.each lane within) Back fresh
    ∙ ap (λ end. child_bound shop end first last (slice_index jobs lane)) (sym c.in-Back.is))
    (c.back_bounds.ensures shop first last jobs lane is are within)
