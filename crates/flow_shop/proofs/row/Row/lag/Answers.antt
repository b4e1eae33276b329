use Rattle.std.proofs.Common.{arith}
use Rattle.flow_shop.proofs.Times.{row-lag, row-small}
use Rattle.flow_shop.proofs.row.Row.lag.Goals as goal

pub overflow_add-here : goal.overflow_add-here
overflow_add-here c =
    let row = c.requires.row in
    omega (
      arith,
      row-small row.0 row.1 c.args.from c.args.self.now row.2 row.3 c.requires.from
          (omega (arith, c.requires.order, row.4)),
    )

pub overflow_add-later : goal.overflow_add-later
overflow_add-later c =
    let row = c.requires.row in
    omega (
      arith,
      row-small row.0 row.1 c.args.to c.args.self.now row.2 row.3 (omega (arith, c.requires.from, c.requires.order))
          row.4,
    )

pub overflow_sub-result : goal.overflow_sub-result
overflow_sub-result c =
    let row = c.requires.row in
    omega (
      arith,
      row-lag row.0 row.1 c.args.from c.args.to c.args.self.now row.3 c.requires.from c.requires.order row.4,
    )

pub returns : goal.returns
returns c shop job row to =
    omega (arith, row-lag shop job c.args.from c.args.to c.args.self.now row c.requires.from c.requires.order to)
