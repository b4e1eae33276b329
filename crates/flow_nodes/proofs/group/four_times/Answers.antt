use Rattle.std.proofs.Common.{◌≡◌, ◌+◌, ◌-◌, [], slice_index, slice_index_or, ap, ◌∙◌, arith}
use Rattle.std.proofs.lemmas.Simd.{get_or-chunk}
use Rattle.flow_nodes.proofs.group.four_times.Goals as goal

pub returns-clause-each : goal.returns-clause-each
returns-clause-each c place low within =
    let row = slice_index_or c.args.rows.now (c.args.job - 1) (record { times = []; tails = [] }) in
    let next : c.args.at + place ≡ c.args.at + place + 1 - 1 = omega arith in
    get_or-chunk c.args.at 4 row.times place 0 low
    ∙ ap (slice_index row.times) next
    ∙ (c.requires.rows.each c.args.job (record { times = []; tails = [] }) c.requires.job.0 c.requires.job.1
    (c.args.at + place + 1) (omega arith) (omega (arith, within))).0
