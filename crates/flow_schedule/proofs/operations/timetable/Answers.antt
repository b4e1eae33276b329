use Rattle.std.proofs.Common.{All, rules}
use Rattle.flow_schedule.proofs.Times.{span-small}
use Rattle.flow_schedule.specs.declared.operations.Operation.{Operation}
use Rattle.std.proofs.lemmas.List.{take_more}
use Rattle.std.proofs.Common.{◌≡◌, ◌∙◌, ◌<◌, ℕ, List, ◌≤◌, ◌+◌, ◌-◌, ◌++◌, length, take, sym, ap, subst, arith}
use Rattle.std.proofs.Common.{length-take}
use Rattle.flow_shop.proofs.Fronts.{front-within}
use Rattle.flow_shop.specs.Front.{IsFrontOf}
use Rattle.flow_schedule.specs.Timetable.{operations_at}
use Rattle.flow_schedule.proofs.Places.{flat_map-more}
use Rattle.flow_schedule.proofs.Tables.{timetable-within}
use Rattle.flow_schedule.specs.Timetable.{timetable, IsOperationOf}
use Rattle.flow_schedule.proofs.operations.timetable.Goals as goal

pub front_push-requires-clause-within : goal.front_push-requires-clause-within
front_push-requires-clause-within c =
    let short : length (take (c.loop-place.place - 1) c.jobs-jobs.result.now) ≤ c.args.instance.now.jobs =
    simp length-take (omega (arith, ap length c.jobs-jobs.ensures.value)) in
    front-within c.args.instance.now (take (c.loop-place.place - 1) c.jobs-jobs.result.now) c.loop-place.front
    c.jobs-count.ensures.limits short c.loop-place.invariant.front

pub loop-place-preserved : goal.loop-place-preserved
loop-place-preserved c =
    let jobs = c.jobs-jobs.result.now in
    let next : c.loop-place.place + 1 - 1 ≡ c.loop-place.place - 1 + 1 = omega arith in
    let within : c.loop-place.place - 1 < length c.jobs-jobs.result.now =
    omega (arith, ap length c.jobs-jobs.ensures.value) in
    record {
      front = subst (λ (list : List ℕ). IsFrontOf c.args.instance.now list c.front_push.new.front)
          (sym (ap (λ count. take count c.jobs-jobs.result.now) next
          ∙ take_more c.jobs-jobs.result.now (c.loop-place.place - 1) 0 within))
          (c.front_push.ensures.front (take (c.loop-place.place - 1) c.jobs-jobs.result.now)
          c.loop-place.invariant.front);
      items = flat_map-more (operations_at c.args.instance.now c.args.sequence.now) c.loop-place.operations.items
          c.push_operations.new.operations.items c.loop-place.place (omega arith) c.loop-place.invariant.items
          (c.in_ok-push_operations.ensures
          ∙ ap (λ list. c.loop-place.operations.items ++ operations_at c.args.instance.now list c.loop-place.place)
          c.jobs-jobs.ensures.value);
    }

pub returns-clause-each : goal.returns-clause-each
returns-clause-each c =
    let is : c.loop-place.operations.items ≡ timetable c.args.instance.now c.args.sequence.now = search rules in
    subst (λ (list : List Operation). All (IsOperationOf c.args.instance.now) list) (sym is)
    (timetable-within c.args.instance.now c.args.sequence.now c.jobs-count.ensures.limits c.requires)

pub returns-clause-makespan : goal.returns-clause-makespan
returns-clause-makespan c =
    span-small c.args.instance.now c.args.sequence.now c.jobs-count.ensures.limits c.requires
