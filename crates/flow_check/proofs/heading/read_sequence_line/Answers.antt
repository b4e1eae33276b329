use Rattle.std.proofs.Common.{◌≡◌, ℕ, ◌+◌, ◌-◌, ◌≤◌, List, ap, sym, subst, inr, refl, slice_index, ◌∙◌}
use Rattle.std.proofs.Common.{arith}
use Rattle.std.proofs.lemmas.Bool.{false≢true}
use Rattle.flow_shop.specs.Limits.{most_jobs}
use Rattle.flow_shop.specs.Paths.{span}
use Rattle.flow_shop.specs.Sequences.{IsSequence, has}
use Rattle.flow_shop.proofs.Fronts.{front-within}
use Rattle.flow_check.specs.internal.Heading.{BeginsWithSequence}
use Rattle.flow_check.proofs.SequenceLine.{IsDone, none-done, at-job, done-more, all-done}
use Rattle.flow_check.proofs.heading.read_sequence_line.Goals as goal
use Rattle.flow_check.proofs.heading.read_sequence_line.Goals.{After-loop-place}

pub loop-place-init : goal.loop-place-init
loop-place-init c =
    subst (IsDone c.args.instance.now c.args.text.now 1 c.none-scheduled.result c.empty-front.result c.args.text.now)
    (sym c.in_ok-found.ensures.items)
    (none-done c.args.instance.now c.args.text.now c.none-scheduled.result c.empty-front.result
    c.jobs-jobs.ensures.limits.some_job (c.empty-front.ensures.front c.args.instance.now)
    c.none-scheduled.ensures.empty)

pub returns-in_default-clause-fault : goal.returns-in_default-clause-fault
returns-in_default-clause-fault c = inr (
  refl,
  λ jobs rest h.
      let next = at-job c.loop-place.invariant c.jobs-jobs.result c.end_after-end.result c.jobs-jobs.ensures.value
      (omega (arith, c.loop-place-test.true)) c.end_after-end.ensures.value jobs rest h in
      absurd (c.in_default.ensures.only next.0 next.1 next.2),
)

pub returns-then-contains-clause-fault : goal.returns-then-contains-clause-fault
returns-then-contains-clause-fault c = inr (
  refl,
  λ jobs rest h.
      let is = c.loop-place.invariant in
      let next = at-job is c.jobs-jobs.result c.end_after-end.result c.jobs-jobs.ensures.value (omega
      (arith, c.loop-place-test.true)) c.end_after-end.ensures.value jobs rest h in
      let same = c.in-Some.ensures.only next.0 next.1 next.2 in
      let small : c.in-Some.job ≤ most_jobs =
      omega (arith, c.in-Some.ensures.found.1, c.jobs-jobs.ensures.value, c.jobs-jobs.ensures.limits.jobs) in
      false≢true (sym next.3 ∙ ap (has c.loop-place.found.items) (sym same.0)
      ∙ sym (is.members c.in-Some.job c.in-Some.ensures.found.0 small) ∙ sym c.contains.ensures.value
      ∙ c.if-contains.true),
)

pub front_push-requires-clause-within : goal.front_push-requires-clause-within
front_push-requires-clause-within c =
    let is = c.loop-place.invariant in
    front-within c.args.instance.now c.loop-place.found.items c.loop-place.front c.jobs-jobs.ensures.limits (omega
    (arith, is.count, c.loop-place-test.true, c.jobs-jobs.ensures.value)) is.times

pub loop-place-preserved : goal.loop-place-preserved
loop-place-preserved c =
    let is = c.loop-place.invariant in
    let done : List ℕ = c.loop-place.found.items in
    subst (λ found. IsDone c.args.instance.now c.args.text.now (c.loop-place.place + 1) c.insert.new.self
    c.front_push.new.front c.in-Some.after.now found) (sym c.in_ok-push.ensures.items)
    (done-more is c.insert.new.self c.front_push.new.front c.in-Some.after.now c.in-Some.job c.jobs-jobs.result
    c.end_after-end.result c.jobs-jobs.ensures.value (omega (arith, c.loop-place-test.true))
    c.end_after-end.ensures.value c.jobs-jobs.ensures.limits.jobs c.in-Some.ensures.found c.in-Some.ensures.only
    (sym c.contains.ensures.value ∙ c.if-contains.false) c.contains.ensures.size c.insert.ensures.value
    (c.front_push.ensures.front done is.times))

-- the whole line is read
read : (c : After-loop-place) → BeginsWithSequence c.args.instance.now.jobs c.args.text.now
    c.loop-place.found.items c.loop-place.rest.now
read c =
    let last : c.loop-place.place ≡ c.args.instance.now.jobs + 1 =
    omega (arith, c.loop-place-test.false, c.loop-place.auto.place-end, c.jobs-jobs.ensures.value) in
    all-done c.args.instance.now c.args.text.now c.loop-place.place c.loop-place.scheduled c.loop-place.front
    c.loop-place.rest.now c.loop-place.found.items c.loop-place.invariant last
    c.jobs-jobs.ensures.limits.some_job

pub of_known-requires : goal.of_known-requires
of_known-requires c =
    let own : List ℕ = c.as_slice.result.now in
    let is = subst (λ jobs. IsSequence c.args.instance.now.jobs jobs) (sym c.as_slice.ensures.value)
    (read (goal.at.of_known-requires c).After-loop-place).0 in
    subst (λ n. IsSequence n own) (sym is.whole) is

pub returns-clause-found : goal.returns-clause-found
returns-clause-found c =
    subst (λ jobs. BeginsWithSequence c.args.instance.now.jobs c.args.text.now jobs c.loop-place.rest.now)
    (sym (c.in_ok-of_known.ensures ∙ c.as_slice.ensures.value))
    (read (goal.at.returns-clause-found c).After-loop-place)

pub returns-clause-makespan : goal.returns-clause-makespan
returns-clause-makespan c =
    let limits = c.jobs-jobs.ensures.limits in
    ap (span c.args.instance.now) (c.in_ok-of_known.ensures ∙ c.as_slice.ensures.value)
    ∙ sym (c.at.ensures ∙ ap (λ m. slice_index c.loop-place.front (m - 1)) c.machines-machines.ensures.value
    ∙ c.loop-place.invariant.times c.args.instance.now.machines limits.some_machine (omega arith))
