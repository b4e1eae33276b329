use Rattle.std.proofs.Common.{w32, rules, ◌≡◌, length, arith}
use Rattle.flow_nodes.proofs.LaneSteps.{is-below, none-above}
use Rattle.flow_nodes.proofs.vector.U32x16Vector.below.Goals as goal

pub returns-clause-each : goal.returns-clause-each
returns-clause-each c lane value x =
    is-below w32 4294967295 16 c.args.self lane value c.args.number (omega arith) c.requires x

pub returns-clause-none : goal.returns-clause-none
returns-clause-none c lane above =
    let count : length c.args.self ≡ 16 = search rules in
    none-above w32 16 c.args.self lane c.args.number count (omega arith) above
