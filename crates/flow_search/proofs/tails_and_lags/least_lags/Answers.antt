use Rattle.std.proofs.Common.{◌≡◌, ℕ, ◌+◌, ◌-◌, true, false, [], sym, ap, subst, ◌∙◌, arith}
use Rattle.std.specs.List.{filter}
use Rattle.flow_shop.specs.Shop.{numbers}
use Rattle.flow_shop.specs.JobSet.{contains}
use Rattle.flow_shop.proofs.JobSetLemmas.{members-is}
use Rattle.flow_shop.specs.TwoLeast.{AreTwoLeast, time_to}
use Rattle.flow_search.proofs.Children.{filter-take, filter-leave}
use Rattle.flow_search.proofs.tails_and_lags.least_lags.Goals as goal
use Rattle.flow_search.proofs.tails_and_lags.least_lags.Goals.{then-contains, else-contains}

pub loop-job-init : goal.loop-job-init
loop-job-init c =
    c.none-lags.ensures (time_to c.args.setting.now.instance.now c.args.machine) (c.args.machine - 1)
    (omega (arith, c.args.setting.now.are_rows.limits.machines, c.requires.to))

pub lags_to-own-requires-clause-row : goal.lags_to-own-requires-clause-row
lags_to-own-requires-clause-row c = (
  c.args.setting.now.instance.now,
  c.loop-job.job,
  c.args.setting.now.are_rows.limits,
  c.args.setting.now.are_rows.each c.loop-job.job (record { times = []; tails = [] }) c.loop-job.auto.job
      (omega (arith, c.loop-job-test.true, c.jobs-job-end.ensures.value)),
  c.requires.to,
)

pub loop-job-preserved : goal.loop-job-preserved
loop-job-preserved c =
    let shop = c.args.setting.now.instance.now in
    let set = c.args.set.now in
    let job : ℕ = c.loop-job.job in
    let count : ℕ = c.args.machine - 1 in
    elim c.if-contains.branch [
      | then-contains w ↦
          let there : contains set job ≡ true = sym c.contains.ensures.value ∙ w.if-contains.true in
          let row = c.args.setting.now.are_rows.each job (record { times = []; tails = [] }) c.loop-job.auto.job
          (omega (arith, c.loop-job-test.true, c.jobs-job-end.ensures.value)) in
          subst (λ l. AreTwoLeast (time_to shop c.args.machine) count
          (filter (contains set) (numbers 1 (job + 1 - 1))) l)
          (sym w.lags-is)
          (subst (λ js. AreTwoLeast (time_to shop c.args.machine) count js w.take.new.self) (sym (filter-take
          (contains set) job c.loop-job.auto.job there))
          (w.take.ensures.two (time_to shop c.args.machine) (filter (contains set) (numbers 1 (job - 1))) job
          (λ place low. w.lags_to-own.ensures shop job row c.requires.to place (omega (arith, low)))
          c.loop-job.invariant))
      | else-contains w ↦
          let out : contains set job ≡ false = sym c.contains.ensures.value ∙ w.if-contains.false in
          subst (λ l. AreTwoLeast (time_to shop c.args.machine) count
          (filter (contains set) (numbers 1 (job + 1 - 1))) l)
          (sym w.lags-is)
          (subst (λ js. AreTwoLeast (time_to shop c.args.machine) count js c.loop-job.lags) (sym (filter-leave
          (contains set) job c.loop-job.auto.job out)) c.loop-job.invariant)
    ]

pub returns : goal.returns
returns c =
    let shop = c.args.setting.now.instance.now in
    let set = c.args.set.now in
    let last : c.loop-job.job - 1 ≡ shop.jobs = omega arith in
    subst (λ js. AreTwoLeast (time_to shop c.args.machine) (c.args.machine - 1) js c.loop-job.lags)
    (ap (λ n. filter (contains set) (numbers 1 n)) last
    ∙ sym (members-is set shop.jobs c.requires.jobs)) c.loop-job.invariant
