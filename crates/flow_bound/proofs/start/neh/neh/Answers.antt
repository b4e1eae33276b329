use Rattle.std.proofs.Common.{◌≡◌, ℕ, ◌+◌, List, [], ◌∷◌, ◌++◌, take, slice_index_or, false, arith, sym, ap, subst, ◌∙◌}
use Rattle.std.specs.List.{insert}
use Rattle.std.proofs.lemmas.List.{take_more}
use Rattle.flow_shop.specs.Paths.{span}
use Rattle.flow_shop.specs.Sequences.{has, AreJobs, IsSequence}
use Rattle.flow_bound.specs.Neh.{IsByTotal, inserted, all_inserted}
use Rattle.flow_shop.proofs.SequenceLemmas.{no-jobs}
use Rattle.flow_bound.proofs.Places.{inserted-is, all_inserted-push, jobs-insert, before-lacks, has-more}
use Rattle.flow_shop.proofs.SequenceLemmas.{no-jobs}
use Rattle.flow_bound.proofs.Places.{span-none}
use Rattle.flow_bound.proofs.start.neh.neh.Goals as goal

pub loop-job-init : goal.loop-job-init
loop-job-init c =
    let shop = c.args.instance.now in
    let none : c.in_ok-jobs.jobs.items ≡ [] = c.in_ok-jobs.ensures.items in
    record {
      list = none;
      makespan = sym (ap (span shop) none ∙ span-none shop);
      count = c.in_ok-jobs.ensures.len;
      room = c.in_ok-room.ensures;
      each = subst (AreJobs shop.jobs) (sym none) (no-jobs shop.jobs);
      same = λ job. ap (λ xs. has xs job) none;
    }

pub loop-job-preserved : goal.loop-job-preserved
loop-job-preserved c =
    let shop = c.args.instance.now in
    let items : List ℕ = c.as_slice-job-items.result.now in
    let seen : items ≡ c.in_ok-order.order.items = c.as_slice-job-items.ensures.value in
    let order : IsByTotal shop c.in_ok-order.order.items = c.in_ok-order.ensures in
    let whole : IsSequence shop.jobs items = subst (IsSequence shop.jobs) (sym seen) order.whole in
    let index = c.loop-job.job-index in
    let job : ℕ = slice_index_or items index 0 in
    let jobs : List ℕ = c.loop-job.jobs.items in
    let now : c.as_slice.result.now ≡ jobs = c.as_slice.ensures.value in
    let at = c.best_place-best.result.index in
    let before = c.loop-job.invariant in
    let new : c.insert.new.self.items ≡ insert jobs at job = c.in_ok-insert.ensures.items in
    let found = c.best_place-best.ensures in
    let best : insert jobs at job ≡ inserted shop jobs job =
    subst (λ xs. insert xs at job ≡ inserted shop xs job) now (inserted-is shop job c.as_slice.result.now
    at c.best_place-best.result.makespan found.within found.makespan found.least found.earliest) in
    let makespan : c.best_place-best.result.makespan ≡ span shop (insert jobs at job) =
    subst (λ xs. c.best_place-best.result.makespan
    ≡ span shop (insert xs at job)) now found.makespan in
    let more : take index items ++ job ∷ [] ≡ take (index + 1) items =
    sym (take_more items index 0 c.loop-job-test.true) in
    let range = whole.each.range index 0 c.loop-job-test.true in
    let fresh : has jobs job ≡ false = before.same job
    ∙ before-lacks items index whole.each.distinct c.loop-job-test.true in
    record {
      list = new ∙ best ∙ ap (λ xs. inserted shop xs job) before.list
          ∙ sym (all_inserted-push shop [] (take index items) job) ∙ ap (all_inserted shop []) more;
      makespan = makespan ∙ ap (span shop) (sym new);
      count = omega (arith, c.in_ok-insert.ensures.len, before.count);
      room = found.room;
      each = subst (AreJobs shop.jobs) (sym new) (jobs-insert shop.jobs jobs at job before.each range.0 range.1 fresh);
      same = λ k. ap (λ xs. has xs k) new ∙ has-more jobs (take index items) at job k (before.same k)
          ∙ ap (λ xs. has xs k) more;
    }
