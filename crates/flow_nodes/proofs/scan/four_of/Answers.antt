use Rattle.std.proofs.lemmas.Simd.{get_or-chunk}
use Rattle.flow_nodes.proofs.scan.four_of.Goals as goal

pub returns-clause-each : goal.returns-clause-each
returns-clause-each c lane low = get_or-chunk c.args.at 4 c.args.numbers.now lane 0 low
