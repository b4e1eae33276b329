use Rattle.std.proofs.Common.{w32, List, ℕ, ap, ◌∙◌, arith, sym}
use Rattle.std.specs.Prelude.{sum, sum_by}
use Rattle.std.proofs.lemmas.List.{take_all}
use Rattle.std.specs.Int.{bit_at}
use Rattle.flow_nodes.specs.Marks.{picked}
use Rattle.flow_nodes.proofs.LaneSums.{length-marked, marked-sum, marked_lanes}
use Rattle.flow_nodes.proofs.vector.U32x16Vector.sum_marked.Goals as goal

pub returns-clause-sum : goal.returns-clause-sum
returns-clause-sum c f names all each =
    let long = c.fits-self.0 in
    let word : ℕ = c.from.result in
    let lanes : List ℕ = marked_lanes w32 word c.args.self long in
    c.loop-lane.invariant.same
    ∙ ap sum (take_all c.loop-lane.lane lanes
    (omega (arith, length-marked w32 word c.args.self long, c.loop-lane-test.false)))
    ∙ marked-sum w32 word c.args.self long 4294967295 f names all
    (λ lane low is. each lane low (ap (λ v. bit_at v lane) (sym c.from.ensures) ∙ is))
    ∙ ap (λ v. sum_by f (picked v 0 names)) c.from.ensures
