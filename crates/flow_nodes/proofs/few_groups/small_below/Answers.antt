use Rattle.std.proofs.Common.{slice_index, ap, sym, ◌∙◌, subst}
use Rattle.flow_shop.specs.declared.end.End.TheVariants.{Front, Back}
use Rattle.flow_nodes.specs.Vectors.{HasLane}
use Rattle.flow_nodes.specs.Groups.{child_bound}
use Rattle.flow_nodes.proofs.ChildSteps.{greatest-is-bound}
use Rattle.flow_nodes.proofs.few_groups.small_below.Goals as goal

pub returns-in-Front-clause-each : goal.returns-in-Front-clause-each
returns-in-Front-clause-each g c shop first last jobs lane is are within fresh =
    c.below.ensures.each lane (child_bound shop c.args.end first last (slice_index jobs lane))
    (subst (λ n. HasLane g.V.Vector.CAP g.V.Vector.WIDTH (g.V.Vector.list c.small_front_bounds.result) lane n)
    (greatest-is-bound shop first last (slice_index jobs lane) c.args.node.now is (are.each lane within) Front fresh
    ∙ ap (λ end. child_bound shop end first last (slice_index jobs lane)) (sym c.in-Front.is))
    (c.small_front_bounds.ensures shop first last jobs lane is are within))

pub returns-in-Back-clause-each : goal.returns-in-Back-clause-each
returns-in-Back-clause-each g c shop first last jobs lane is are within fresh =
    c.below-in-Back.ensures.each lane (child_bound shop c.args.end first last (slice_index jobs lane))
    (subst (λ n. HasLane g.V.Vector.CAP g.V.Vector.WIDTH (g.V.Vector.list c.small_back_bounds.result) lane n)
    (greatest-is-bound shop first last (slice_index jobs lane) c.args.node.now is (are.each lane within) Back fresh
    ∙ ap (λ end. child_bound shop end first last (slice_index jobs lane)) (sym c.in-Back.is))
    (c.small_back_bounds.ensures shop first last jobs lane is are within))
