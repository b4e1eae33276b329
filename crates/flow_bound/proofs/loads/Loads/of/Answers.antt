use Rattle.std.proofs.Common.{◌≡◌, ℕ, ◌+◌, ◌-◌, ◌*◌, min, true, false, slice_index, sym, ap, ◌∙◌, arith}
use Rattle.std.proofs.lemmas.Grind.{common_steps}
use Rattle.std.proofs.lemmas.List.{get_or-replicate}
use Rattle.flow_limits.specs.Limits.{most_machines, greatest_time}
use Rattle.flow_shop.specs.Shop.{time, time_between}
use Rattle.flow_shop.specs.JobSet.{contains}
use Rattle.flow_shop.proofs.Fronts.{zeros, time-small}
use Rattle.flow_shop.proofs.JobsLeft.{kept-small}
use Rattle.flow_bound.proofs.Running.{tail-small}
use Rattle.flow_bound.proofs.Rests.{sum-take, sum-skip, sum-whole, least-take, least-skip, least-whole}
use Rattle.flow_bound.proofs.loads.Loads.of.Goals as goal
use Rattle.flow_bound.proofs.loads.Loads.of.Goals.{then-contains, else-contains}

pub loop-job-init : goal.loop-job-init
loop-job-init c =
    let limits = c.jobs-job-end.ensures.limits in
    record {
      sums_size = omega arith;
      tails_size = omega arith;
      sums_are = λ k low high. zeros most_machines (k - 1);
      tails_are = λ k low high.
          get_or-replicate most_machines (k - 1) 4294967295 0 (omega (arith, limits.machines));
    }

pub take_in-requires-clause-small : goal.take_in-requires-clause-small
take_in-requires-clause-small c machine low high =
    let shop = c.args.instance.now in
    let limits = c.jobs-job-end.ensures.limits in
    omega (
      arith,
      c.loop-job.invariant.sums_are machine low high,
      kept-small (λ job. time shop job machine) (contains c.args.set.now) greatest_time (c.loop-job.job - 1)
          (λ job. time-small shop job machine limits),
      limits.jobs,
    )

pub loop-job-preserved : goal.loop-job-preserved
loop-job-preserved c =
    let shop = c.args.instance.now in
    let job = c.loop-job.job in
    let set = c.args.set.now in
    let is = c.loop-job.invariant in
    let low = c.loop-job.auto.job in
    let tail = λ (k job : ℕ). time_between shop job (k + 1) shop.machines in
    elim c.if-contains.branch [
      | then-contains w ↦
          let there : contains set job ≡ true = sym c.contains.ensures.value ∙ w.if-contains.true in
          record {
            sums_size = grind (arith, common_steps);
            tails_size = grind (arith, common_steps);
            sums_are = λ k from to.
                let more = sum-take (λ job. time shop job k) (contains set) job low there in
                ap (λ xs. slice_index xs (k - 1)) w.sums-is ∙ w.take_in.ensures.sums k from to
                ∙ ap (λ n. n + time shop job k) (is.sums_are k from to) ∙ sym more;
            tails_are = λ k from to.
                let more = least-take 4294967295 (tail k) (contains set) job low there in
                ap (λ xs. slice_index xs (k - 1)) w.tails-is ∙ w.take_in.ensures.tails k from to
                ∙ ap (λ n. min n (tail k job)) (is.tails_are k from to) ∙ sym more;
          }
      | else-contains w ↦
          let out : contains set job ≡ false = sym c.contains.ensures.value ∙ w.if-contains.false in
          record {
            sums_size = grind (arith, common_steps);
            tails_size = grind (arith, common_steps);
            sums_are = λ k from to.
                ap (λ xs. slice_index xs (k - 1)) w.sums-is ∙ is.sums_are k from to
                ∙ sym (sum-skip (λ job. time shop job k) (contains set) job low out);
            tails_are = λ k from to.
                ap (λ xs. slice_index xs (k - 1)) w.tails-is ∙ is.tails_are k from to
                ∙ sym (least-skip 4294967295 (tail k) (contains set) job low out);
          }
    ]

pub returns : goal.returns
returns c =
    let shop = c.args.instance.now in
    let set = c.args.set.now in
    let is = c.loop-job.invariant in
    let past = c.requires.jobs in
    let end = c.loop-job.job in
    record {
      loads = record {
        machines_are = c.machines.ensures.value;
        sums_are = λ k low high. is.sums_are k low high
            ∙ sum-whole (λ job. time shop job k) set shop.jobs end past (omega arith);
        tails_are = λ k low high. is.tails_are k low high
            ∙ least-whole 4294967295 (most_machines * greatest_time)
            (λ job. time_between shop job (k + 1) shop.machines) set shop.jobs end
            (λ job. tail-small shop job k c.machines.ensures.limits) (omega arith) c.requires.some past (omega arith);
      };
    }
