use Rattle.std.proofs.Common.{◌+◌, ◌-◌, ◌∙◌, arith}
use Rattle.flow_nodes.proofs.TurnedTimes.{written-size, written-each, written-behind}
use Rattle.flow_nodes.proofs.group.write_part.Goals as goal

pub returns-clause-size : goal.returns-clause-size
returns-clause-size c =
    written-size c.args.block.now c.args.part c.args.at (c.args.at + 4 - c.args.at) (omega arith)
    (omega (arith, c.requires.at)) c.requires.part
    ∙ omega arith

pub returns-clause-each : goal.returns-clause-each
returns-clause-each c each place low is =
    written-each c.args.block.now c.args.part c.args.at (c.args.at + 4 - c.args.at) (omega arith)
    (omega (arith, c.requires.at)) c.requires.part each place low is

pub returns-clause-behind : goal.returns-clause-behind
returns-clause-behind c place high =
    written-behind c.args.block.now c.args.part c.args.at (c.args.at + 4 - c.args.at) (omega arith)
    (omega (arith, c.requires.at)) c.requires.part place high
