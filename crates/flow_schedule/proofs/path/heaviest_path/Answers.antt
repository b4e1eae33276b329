use Rattle.std.proofs.Common.{◌≡◌, ◌∙◌, ◌<◌, ◌-◌, ◌*◌, length, length-set, ap, sym, subst, arith, replicate, ℕ}
use Rattle.flow_schedule.proofs.Tables.{timetable-length}
use Rattle.flow_schedule.proofs.Stairs.{IsHeaviestFrom, from-replicate, from-job_before, from-machine_before}
use Rattle.flow_schedule.proofs.Stairs.{from-least}
use Rattle.flow_schedule.proofs.path.heaviest_path.Goals as goal

pub loop-place-init : goal.loop-place-init
loop-place-init c =
    let machines : c.machines-machine.result ≡ c.args.instance.now.machines = c.machines-machine.ensures.value in
    let jobs : c.jobs-place.result ≡ length c.args.jobs.now = c.jobs-place.ensures.value ∙ sym c.requires.count in
    let all : c.in_ok-path.path.items ≡ replicate (length c.args.jobs.now) c.machines-machine.result =
    c.in_ok-path.ensures.items_if_clones_equal (λ y same. same) in
    let start = from-replicate c.args.instance.now c.args.jobs.now c.in_ok-path.path.items c.jobs-place.result
    (omega arith) jobs (omega arith)
    (all ∙ ap (replicate (length c.args.jobs.now)) machines) in
    record {
      place_from = omega arith;
      place_to = omega arith;
      machine_from = omega arith;
      machine_to = omega arith;
      each = start.0;
      path = subst (λ (k : ℕ). IsHeaviestFrom c.args.instance.now c.args.jobs.now c.in_ok-path.path.items
          c.jobs-place.result k) (sym machines) start.1;
    }

pub follows_job-requires-clause-count : goal.follows_job-requires-clause-count
follows_job-requires-clause-count c =
    ap length c.requires.timetable ∙ timetable-length c.args.instance.now c.args.jobs.now
    ∙ ap (λ n. n * c.args.instance.now.machines) c.requires.count

pub loop-place-preserved-then-follows_job : goal.loop-place-preserved-then-follows_job
loop-place-preserved-then-follows_job c =
    let there = c.follows_job.ensures.job c.args.jobs.now c.requires.count c.requires.timetable c.if-follows_job.true in
    let some : 1 < c.loop-place.place = there.0 in
    let each : length c.loop-place.path.items ≡ length c.args.jobs.now = c.loop-place.invariant.each in
    record {
      place_from = omega arith;
      place_to = omega arith;
      machine_from = omega arith;
      machine_to = omega arith;
      each = length-set c.loop-place.path.items (c.loop-place.place - 1 - 1) c.loop-place.machine ∙ each;
      path = from-job_before c.args.instance.now c.args.jobs.now c.loop-place.path.items c.loop-place.place
          c.loop-place.machine some (omega arith) each (omega arith) there.1 c.loop-place.invariant.path;
    }

pub loop-place-preserved : goal.loop-place-preserved
loop-place-preserved c =
    let there = c.follows_job.ensures.machine c.args.jobs.now c.requires.count c.requires.timetable
    c.if-follows_job.false in
    let some : 1 < c.loop-place.machine = there.0 in
    record {
      place_from = omega arith;
      place_to = omega arith;
      machine_from = omega arith;
      machine_to = omega arith;
      each = c.loop-place.invariant.each;
      path = from-machine_before c.args.instance.now c.args.jobs.now c.loop-place.path.items c.loop-place.place
          c.loop-place.machine (omega arith) (omega arith) c.loop-place.invariant.each some there.1
          c.loop-place.invariant.path;
    }

pub returns : goal.returns
returns c =
    let each : length c.loop-place.path.items ≡ length c.args.jobs.now = c.loop-place.invariant.each in
    from-least c.args.instance.now c.args.jobs.now c.loop-place.path.items c.loop-place.place c.loop-place.machine
    (omega arith) (omega arith) (omega arith) (omega arith) each c.loop-place.invariant.path
