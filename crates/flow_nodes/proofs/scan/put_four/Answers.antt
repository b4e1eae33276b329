use Rattle.std.proofs.Common.{◌+◌, ◌-◌, arith}
use Rattle.flow_nodes.proofs.TurnedTimes.{written-each, written-behind}
use Rattle.flow_nodes.proofs.scan.put_four.Goals as goal

pub returns-clause-each : goal.returns-clause-each
returns-clause-each c lane place low is =
    written-each c.args.numbers.now c.args.four c.args.at (c.args.at + 4 - c.args.at) (omega arith)
    (omega (arith, c.requires.at)) c.requires.four lane place low is

pub returns-clause-behind : goal.returns-clause-behind
returns-clause-behind c place high =
    written-behind c.args.numbers.now c.args.four c.args.at (c.args.at + 4 - c.args.at) (omega arith)
    (omega (arith, c.requires.at)) c.requires.four place high
