use Rattle.std.proofs.Common.{◌≡◌, ◌∙◌, ◌≤◌, ◌+◌, ◌-◌, sym, ap, arith, append-nil}
use Rattle.flow_schedule.specs.Timetable.{job_at, end_at, start_at, operation}
use Rattle.flow_schedule.proofs.Times.{end-first_machine, operation-there, operation-same, end-small}
use Rattle.flow_schedule.proofs.Places.{map-more}
use Rattle.flow_schedule.proofs.operations.push_operations.Goals as goal

pub loop-machine-init : goal.loop-machine-init
loop-machine-init c = record {
  ready = sym (end-first_machine c.args.instance.now c.args.jobs.now c.args.place);
  items = sym (append-nil c.args.operations.now.items);
}

pub overflow_add-end : goal.overflow_add-end
overflow_add-end c =
    let low : c.loop-machine.machine ≤ c.args.instance.now.machines = omega arith in
    let free : c.at.result ≡ end_at c.args.instance.now c.args.jobs.now (c.args.place - 1) c.loop-machine.machine =
    c.at.ensures ∙ c.requires.front c.loop-machine.machine (omega arith) low in
    let free_small = end-small c.args.instance.now c.args.jobs.now (c.args.place - 1) c.loop-machine.machine
    c.machines-machine-end.ensures.limits (omega arith) low in
    let ready_small = end-small c.args.instance.now c.args.jobs.now c.args.place (c.loop-machine.machine - 1)
    c.machines-machine-end.ensures.limits (omega arith) (omega arith) in
    let ready = c.loop-machine.invariant.ready in
    omega (arith, free, free_small, ready_small, ready, c.time.ensures.limit, c.from.ensures)

pub loop-machine-preserved : goal.loop-machine-preserved
loop-machine-preserved c =
    let low : c.loop-machine.machine ≤ c.args.instance.now.machines = omega arith in
    let there = operation-there c.args.instance.now c.args.jobs.now c.args.place c.loop-machine.machine c.at.result
    c.loop-machine.ready c.from.result (omega arith) (omega arith) (omega arith)
    (c.at.ensures ∙ c.requires.front c.loop-machine.machine (omega arith) low) c.loop-machine.invariant.ready
    (c.from.ensures ∙ c.time.ensures.value) in
    let next : c.loop-machine.machine + 1 - 1 ≡ c.loop-machine.machine = omega arith in
    record {
      ready = ap (λ start. start + c.from.result) c.max-start.ensures ∙ there.0
          ∙ ap (end_at c.args.instance.now c.args.jobs.now c.args.place) (sym next);
      items = c.in_ok-push.ensures.items
          ∙ map-more (operation c.args.instance.now c.args.jobs.now c.args.place) c.args.operations.now.items
          c.loop-machine.operations.items _ c.loop-machine.machine (omega arith)
          (operation-same c.args.place (job_at c.args.jobs.now c.args.place) c.loop-machine.machine
          c.max-start.result (c.max-start.result + c.from.result)
          (start_at c.args.instance.now c.args.jobs.now c.args.place c.loop-machine.machine)
          (end_at c.args.instance.now c.args.jobs.now c.args.place c.loop-machine.machine)
          (c.max-start.ensures ∙ there.1)
          (ap (λ start. start + c.from.result) c.max-start.ensures ∙ there.0)) c.loop-machine.invariant.items;
    }
