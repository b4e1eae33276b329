use Rattle.std.proofs.Common.{◌≡◌, ℕ, ◌-◌, ◌*◌, min, true, false, ap, sym, ◌∙◌, arith}
use Rattle.flow_limits.specs.Limits.{most_machines, greatest_time}
use Rattle.flow_shop.specs.Shop.{time_between}
use Rattle.flow_shop.specs.JobSet.{contains}
use Rattle.flow_shop.proofs.Times.{times-small}
use Rattle.flow_bound.proofs.Rests.{least-take, least-skip, least-whole, least-until, least_kept}
use Rattle.flow_bound.proofs.least.least_between.Goals as goal
use Rattle.flow_bound.proofs.least.least_between.Goals.{then-contains+else-time-floor, else-contains}

pub returns-then-time-floor : goal.returns-then-time-floor
returns-then-time-floor c =
    let shop = c.args.instance.now in
    let there : contains c.args.set.now c.loop-job.job ≡ true = sym c.contains.ensures.value ∙ c.if-contains.true in
    let f : ℕ → ℕ = λ job. time_between shop job c.args.first c.args.last in
    least-until f c.args.set.now shop.jobs c.loop-job.job c.args.floor
    c.requires.jobs (omega arith) (omega arith) there c.requires.floor (sym c.time_between-time.ensures
    ∙ c.if-time-floor.true)

pub loop-job-preserved : goal.loop-job-preserved
loop-job-preserved c =
    let shop = c.args.instance.now in
    let job = c.loop-job.job in
    let f : ℕ → ℕ = λ job. time_between shop job c.args.first c.args.last in
    elim c.if-contains.branch [
      | then-contains+else-time-floor w ↦
          let there : contains c.args.set.now job ≡ true = sym c.contains.ensures.value ∙ w.if-contains.true in
          w.least-is ∙ w.min-least.ensures
          ∙ ap (λ n. min n w.time_between-time.result) c.loop-job.invariant
          ∙ ap (min (least_kept 4294967295 f (contains c.args.set.now) (job - 1))) w.time_between-time.ensures
          ∙ sym (least-take 4294967295 f (contains c.args.set.now) job c.loop-job.auto.job there)
      | else-contains w ↦
          let out : contains c.args.set.now job ≡ false = sym c.contains.ensures.value ∙ w.if-contains.false in
          w.least-is ∙ c.loop-job.invariant
          ∙ sym (least-skip 4294967295 f (contains c.args.set.now) job c.loop-job.auto.job out)
    ]

pub returns : goal.returns
returns c =
    let shop = c.args.instance.now in
    let first = c.args.first in
    let last = c.args.last in
    c.loop-job.invariant
    ∙ least-whole 4294967295 (most_machines * greatest_time) (λ job. time_between shop job first last)
    c.args.set.now shop.jobs c.loop-job.job
    (λ job. times-small shop job first last c.requires.from c.requires.to c.jobs-job-end.ensures.limits)
    (omega arith)
    c.requires.some c.requires.jobs (omega arith)
