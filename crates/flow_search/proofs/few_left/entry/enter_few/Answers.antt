use Rattle.std.proofs.Common.{◌≡◌, ℕ, ◌+◌, ◌-◌, ◌<◌, ◌≤◌, slice_index, refl, ap, ◌∙◌, arith}
use Rattle.std.proofs.lemmas.List.{length-set}
use Rattle.flow_limits.specs.Limits.{most_machines}
use Rattle.flow_shop.specs.Shop.{Shop, time_between}
use Rattle.flow_shop.proofs.Fronts.{front-within}
use Rattle.flow_search.specs.declared.few_left.group.MachineRow.{MachineRow}
use Rattle.flow_search.proofs.ColumnsEntered.{jobs-of, done-next, entered}
use Rattle.flow_shop.proofs.Recurrence.{time_between-first}
use Rattle.flow_search.proofs.few_left.entry.enter_few.Goals as goal

pub times_of-time-requires-clause-jobs : goal.times_of-time-requires-clause-jobs
times_of-time-requires-clause-jobs c =
    jobs-of c.args.instance.now c.requires.0 c.args.front.now c.args.jobs.now c.requires.1

pub load-requires-clause-jobs : goal.load-requires-clause-jobs
load-requires-clause-jobs c = jobs-of c.args.instance.now c.requires.0 c.args.front.now c.args.jobs.now c.requires.1

pub overflow_cast-frame : goal.overflow_cast-frame
overflow_cast-frame c =
    let within = front-within c.args.instance.now c.requires.0 c.args.front.now c.machines-machine.ensures.limits
    (omega (arith, c.requires.1.count)) c.requires.1.times (c.loop-machine.machine - 1)
    (omega (arith, c.loop-machine-test.true, c.loop-machine.invariant.most)) in
    omega (arith, within, c.at.ensures)

pub loop-machine-preserved : goal.loop-machine-preserved
loop-machine-preserved c =
    let shop : Shop = c.args.instance.now in
    let machine : ℕ = c.loop-machine.machine in
    let low : 1 ≤ machine = omega (arith, c.loop-machine-test.true) in
    let high : machine ≤ shop.machines = c.loop-machine.invariant.most in
    let most : shop.machines ≤ most_machines = c.machines-machine.ensures.limits.machines in
    let e : machine - 1 + 1 ≡ machine = omega (arith, low) in
    let row : MachineRow = record { time = c.times_of-time.result; tail = c.loop-machine.behind } in
    record {
      most = omega (arith, high);
      rows_size = length-set c.loop-machine.group.rows (machine - 1) row ∙ c.loop-machine.invariant.rows_size;
      front_size = length-set c.loop-machine.frame.front (machine - 1) c.at.result
          ∙ c.loop-machine.invariant.front_size;
      sum_size = length-set c.loop-machine.frame.sum (machine - 1) c.load.result ∙ c.loop-machine.invariant.sum_size;
      behind = λ column within.
          let few : column < 8 = omega (arith, within, c.requires.1.few) in
          let job : ℕ = slice_index c.args.jobs.now column in
          let first = time_between-first shop job machine shop.machines high in
          let same : time_between shop job (machine - 1 + 1) shop.machines ≡ time_between shop job machine
          shop.machines = ap (λ m. time_between shop job m shop.machines) e in
          omega (
            arith,
            c.sums-behind.ensures.each column few,
            c.loop-machine.invariant.behind column within,
            c.times_of-time.ensures.each column within,
            first,
            same,
          );
      small = λ column few. omega (
        arith,
        c.sums-behind.ensures.each column few,
        c.loop-machine.invariant.small column few,
        c.times_of-time.ensures.small column few,
        low,
        high,
      );
      done = done-next shop c.args.front.now c.args.jobs.now c.loop-machine.group.rows c.loop-machine.frame.front
          c.loop-machine.frame.sum machine row c.at.result c.load.result c.loop-machine.invariant.done low
          (omega (arith, c.loop-machine.invariant.rows_size, low, high, most))
          (omega (arith, c.loop-machine.invariant.front_size, low, high, most))
          (omega (arith, c.loop-machine.invariant.sum_size, low, high, most))
          (λ column within. record {
            time = c.times_of-time.ensures.each column within;
            tail =
                c.loop-machine.invariant.behind column within;
          })
          (λ column few. record {
            time = c.times_of-time.ensures.small column few;
            tail = omega
                (arith, c.loop-machine.invariant.small column few, low, high, most);
          })
          c.at.ensures c.load.ensures.value;
    }

pub returns-clause-at : goal.returns-clause-at
returns-clause-at c list is =
    entered c.args.instance.now list c.args.front.now c.args.jobs.now _ _ c.loop-machine.machine is
    (omega (arith, c.loop-machine-test.false))
    c.loop-machine.invariant.done c.in_columns-group.ensures c.gone_from-frame.ensures.left
    c.gone_from-frame.ensures.gone refl
