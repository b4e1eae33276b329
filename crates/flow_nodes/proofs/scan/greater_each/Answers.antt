use Rattle.std.proofs.Common.{ℕ, ◌+◌, slice_index, ◌∙◌, arith, w32}
use Rattle.flow_nodes.proofs.LaneSteps.{has-greater}
use Rattle.flow_nodes.proofs.ScanSteps.{own-lane}
use Rattle.flow_nodes.proofs.scan.greater_each.Goals as goal

pub returns-clause-size : goal.returns-clause-size
returns-clause-size c =
    let cap : ℕ = slice_index c.args.first 0 + slice_index c.args.second 0 in
    (has-greater w32 cap 4 c.args.first c.args.second 0 (slice_index c.args.first 0) (slice_index c.args.second 0)
    (own-lane cap c.args.first 0 c.requires.sizes.0 (omega arith) (omega arith))
    (own-lane cap c.args.second 0 c.requires.sizes.1 (omega arith) (omega arith))).count

pub returns-clause-each : goal.returns-clause-each
returns-clause-each c lane within =
    let cap : ℕ = slice_index c.args.first lane + slice_index c.args.second lane in
    (has-greater w32 cap 4 c.args.first c.args.second lane (slice_index c.args.first lane)
    (slice_index c.args.second lane) (own-lane cap c.args.first lane c.requires.sizes.0 within (omega arith))
    (own-lane cap c.args.second lane c.requires.sizes.1 within (omega arith))).value
    ∙ omega arith
