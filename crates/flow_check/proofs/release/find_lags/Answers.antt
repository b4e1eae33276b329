use Rattle.std.proofs.Common.{ℕ, ◌+◌, ◌≤◌, List, [], ◌∷◌, ◌++◌, slice_index, append_assoc, append-nil, refl, ap}
use Rattle.std.proofs.Common.{sym, ◌∙◌, subst, arith}
use Rattle.flow_shop.specs.Limits.{most_machines}
use Rattle.flow_shop.specs.TwoLeast.{AreTwoLeast, time_to}
use Rattle.flow_check.specs.internal.Links.{IsNext}
use Rattle.flow_shop.proofs.Taken.{left_from}
use Rattle.flow_check.proofs.Links.{left-none, left-next, next-some, next-place, start-place}
use Rattle.flow_check.proofs.release.find_lags.Goals as goal

pub jobs-init : goal.jobs-init
jobs-init c =
    let most : c.args.text.now.shop.now.machines ≤ most_machines = c.args.text.now.are_rows.limits.machines in
    record {
      place = λ list are. start-place c.args.text.now.shop.now.jobs list;
      taken = λ list are. (
        [],
        refl,
        c.none-lags.ensures (time_to c.args.text.now.shop.now c.args.machine) c.args.machine
            (omega (arith, most, c.requires.machine.1)),
      );
    }

pub bounds-links-last : goal.bounds-links-last
bounds-links-last c =
    let are = c.requires.links.1 in
    omega (arith, are.size, (c.jobs.invariant.place c.requires.links.0 are).0)

pub returns-then-job-eq0 : goal.returns-then-job-eq0
returns-then-job-eq0 c list are =
    let n : ℕ = c.args.text.now.shop.now.jobs in
    let next : IsNext n list c.jobs.last (slice_index c.args.links.now c.jobs.last) =
    are.each c.jobs.last (c.jobs.invariant.place list are) in
    let none = left-none n list c.jobs.last (slice_index c.args.links.now c.jobs.last) next c.if-job-eq0.true in
    let taken = c.jobs.invariant.taken list are in
    let all = sym (append-nil taken.0) ∙ ap (λ js. taken.0 ++ js) (sym none) ∙ taken.1 in
    subst (λ jobs. AreTwoLeast (time_to c.args.text.now.shop.now c.args.machine) c.args.machine jobs c.jobs.lags) all
    taken.2

pub lags_to-to_machine-requires-clause-row : goal.lags_to-to_machine-requires-clause-row
lags_to-to_machine-requires-clause-row c =
    let shop = c.args.text.now.shop.now in
    let list : List ℕ = c.requires.links.0 in
    let are = c.requires.links.1 in
    let job : ℕ = slice_index c.args.links.now c.jobs.last in
    let some = next-some shop.jobs list c.jobs.last job (are.each c.jobs.last (c.jobs.invariant.place list are))
    c.if-job-eq0.false in (
      shop,
      job,
      c.args.text.now.are_rows.limits,
      c.args.text.now.are_rows.each job _ some.1 some.2,
      c.requires.machine.1,
    )

pub jobs-preserved : goal.jobs-preserved
jobs-preserved c =
    let shop = c.args.text.now.shop.now in
    let n : ℕ = shop.jobs in
    let job : ℕ = slice_index c.args.links.now c.jobs.last in
    record {
      place = λ list are. next-place n list c.jobs.last job (are.each c.jobs.last (c.jobs.invariant.place list are));
      taken = λ list are.
          let next : IsNext n list c.jobs.last job = are.each c.jobs.last (c.jobs.invariant.place list are) in
          let some = next-some n list c.jobs.last job next c.if-job-eq0.false in
          let taken = c.jobs.invariant.taken list are in
          let row = c.args.text.now.are_rows.each job _ some.1 some.2 in (
            taken.0 ++ job ∷ [],
            append_assoc taken.0 (job ∷ []) (left_from n list (job + 1))
                ∙ ap (λ js. taken.0 ++ js) (sym (left-next n list c.jobs.last job next c.if-job-eq0.false))
                ∙ taken.1,
            c.take.ensures.two (time_to shop c.args.machine) taken.0 job
                (λ place low. c.lags_to-to_machine.ensures shop job row c.requires.machine.1 place low) taken.2,
          );
    }
