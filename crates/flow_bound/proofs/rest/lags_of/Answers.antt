use Rattle.std.proofs.Common.{◌≡◌, ℕ, ◌-◌, ◌*◌, min, true, false, slice_index, sym, ap, ◌∙◌, arith}
use Rattle.std.proofs.lemmas.Grind.{common_steps}
use Rattle.std.proofs.lemmas.List.{get_or-replicate}
use Rattle.flow_limits.specs.Limits.{most_machines, greatest_time}
use Rattle.flow_shop.specs.Shop.{time_between}
use Rattle.flow_shop.specs.JobSet.{contains}
use Rattle.flow_shop.proofs.Times.{times-small}
use Rattle.flow_bound.proofs.Rests.{least-take, least-skip, least-whole}
use Rattle.flow_bound.proofs.rest.lags_of.Goals as goal
use Rattle.flow_bound.proofs.rest.lags_of.Goals.{then-contains, else-contains}

pub loop-job-init : goal.loop-job-init
loop-job-init c = record {
  size = omega arith;
  are = λ from low high.
      get_or-replicate most_machines (from - 1) 4294967295 0 (omega
      (arith, c.requires.to, c.jobs-job-end.ensures.limits.machines));
}

pub loop-job-preserved : goal.loop-job-preserved
loop-job-preserved c =
    let shop = c.args.instance.now in
    let job = c.loop-job.job in
    let set = c.args.set.now in
    let is = c.loop-job.invariant in
    let low = c.loop-job.auto.job in
    let between = λ (from job : ℕ). time_between shop job from (c.args.machine - 1) in
    elim c.if-contains.branch [
      | then-contains w ↦
          let there : contains set job ≡ true = sym c.contains.ensures.value ∙ w.if-contains.true in
          record {
            size = grind (arith, common_steps);
            are = λ from at_least below.
                let more = least-take 4294967295 (between from) (contains set) job low there in
                ap (λ xs. slice_index xs (from - 1)) w.lags-is ∙ w.take_lags.ensures.lags from at_least below
                ∙ ap (λ n. min n (between from job)) (is.are from at_least below) ∙ sym more;
          }
      | else-contains w ↦
          let out : contains set job ≡ false = sym c.contains.ensures.value ∙ w.if-contains.false in
          record {
            size = grind (arith, common_steps);
            are = λ from at_least below.
                ap (λ xs. slice_index xs (from - 1)) w.lags-is ∙ is.are from at_least below
                ∙ sym (least-skip 4294967295 (between from) (contains set) job low out);
          }
    ]

pub returns : goal.returns
returns c from low high =
    let shop = c.args.instance.now in
    let last : ℕ = c.args.machine - 1 in
    c.loop-job.invariant.are from low high
    ∙ least-whole 4294967295 (most_machines * greatest_time) (λ job. time_between shop job from last)
    c.args.set.now shop.jobs c.loop-job.job
    (λ job. times-small shop job from last low (omega (arith, c.requires.to)) c.jobs-job-end.ensures.limits)
    (omega arith) c.requires.some c.requires.jobs (omega arith)
