use Rattle.std.proofs.Common.{w16, List, ℕ, ap, ◌∙◌, arith}
use Rattle.std.specs.Prelude.{sum}
use Rattle.std.proofs.lemmas.List.{take_all}
use Rattle.flow_nodes.proofs.LaneSums.{length-marked, marked-sum, marked_lanes}
use Rattle.flow_nodes.proofs.vector.U16x16Vector.sum_marked.Goals as goal

pub returns-clause-sum : goal.returns-clause-sum
returns-clause-sum c f names all each =
    let long = c.fits-self.0 in
    let lanes : List ℕ = marked_lanes w16 c.args.word c.args.self long in
    c.from.ensures ∙ c.loop-lane.invariant.same
    ∙ ap sum (take_all c.loop-lane.lane lanes
    (omega (arith, length-marked w16 c.args.word c.args.self long, c.loop-lane-test.false)))
    ∙ marked-sum w16 c.args.word c.args.self long 65535 f names all
    each
