use Rattle.std.proofs.Common.{◌≡◌, ℕ, ◌+◌, min, max, slice_index, ap, sym, ◌∙◌, arith}
use Rattle.flow_shop.specs.Shop.{time_between}
use Rattle.flow_shop.specs.TwoLeast.{tails, least_below, second_below}
use Rattle.flow_check.specs.internal.Links.{IsNext}
use Rattle.flow_shop.proofs.Taken.{left_from}
use Rattle.flow_check.proofs.Links.{left-none, left-next, next-place, next-some}
use Rattle.flow_check.proofs.node.find_tails.Goals as goal

pub bounds-links-last : goal.bounds-links-last
bounds-links-last c =
    let are = c.requires.links.1 in
    omega (arith, are.size, (c.jobs.invariant.place c.requires.links.0 are).0)

pub returns-then-job-eq0 : goal.returns-then-job-eq0
returns-then-job-eq0 c list are =
    let n : ℕ = c.args.text.now.shop.now.jobs in
    let next : IsNext n list c.jobs.last (slice_index c.args.links.now c.jobs.last) =
    are.each c.jobs.last (c.jobs.invariant.place list are) in
    let none = left-none n list c.jobs.last (slice_index c.args.links.now c.jobs.last) next c.if-job-eq0.true in (
      sym (c.jobs.invariant.least list are
          ∙ ap (λ js. least_below c.jobs.two.least (tails c.args.text.now.shop.now c.args.machine js)) none),
      sym (c.jobs.invariant.second list are
          ∙ ap (λ js. second_below c.jobs.two.least c.jobs.two.second
          (tails c.args.text.now.shop.now c.args.machine js)) none),
    )

pub jobs-preserved : goal.jobs-preserved
jobs-preserved c =
    let n : ℕ = c.args.text.now.shop.now.jobs in
    let job : ℕ = slice_index c.args.links.now c.jobs.last in
    let one = c.requires.links.1 in
    let some = next-some n c.requires.links.0 c.jobs.last job (one.each c.jobs.last
    (c.jobs.invariant.place c.requires.links.0 one)) c.if-job-eq0.false in
    let row = c.args.text.now.are_rows.each job _ some.1 some.2 c.args.machine c.requires.machine.0
    c.requires.machine.1 in
    let tail : ℕ = time_between c.args.text.now.shop.now job (c.args.machine
    + 1) c.args.text.now.shop.now.machines in
    let e : c.with-two.result.least ≡ min c.jobs.two.least tail =
    c.with-two.ensures.least ∙ ap (min c.jobs.two.least) row.1 in
    let g : c.with-two.result.second ≡ min c.jobs.two.second (max c.jobs.two.least tail) =
    c.with-two.ensures.second ∙ ap (λ m. min c.jobs.two.second (max c.jobs.two.least m)) row.1 in
    record {
      place = λ list are. next-place n list c.jobs.last job (are.each c.jobs.last (c.jobs.invariant.place list are));
      least = λ list are.
          let next : IsNext n list c.jobs.last job = are.each c.jobs.last (c.jobs.invariant.place list are) in
          c.jobs.invariant.least list are
          ∙ ap (λ js. least_below c.jobs.two.least (tails c.args.text.now.shop.now c.args.machine js))
          (left-next n list c.jobs.last job next c.if-job-eq0.false)
          ∙ ap (λ m. least_below m (tails c.args.text.now.shop.now c.args.machine (left_from n list (job
          + 1)))) (sym e);
      second = λ list are.
          let next : IsNext n list c.jobs.last job = are.each c.jobs.last (c.jobs.invariant.place list are) in
          c.jobs.invariant.second list are
          ∙ ap (λ js. second_below c.jobs.two.least c.jobs.two.second (tails c.args.text.now.shop.now c.args.machine
          js))
          (left-next n list c.jobs.last job next c.if-job-eq0.false)
          ∙ ap (λ m. second_below m (min c.jobs.two.second (max c.jobs.two.least tail))
          (tails c.args.text.now.shop.now c.args.machine (left_from n list (job + 1)))) (sym e)
          ∙ ap (λ m. second_below c.with-two.result.least m (tails c.args.text.now.shop.now c.args.machine
          (left_from n list (job + 1)))) (sym g);
    }
