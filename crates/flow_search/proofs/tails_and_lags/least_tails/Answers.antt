use Rattle.std.proofs.Common.{◌≡◌, ℕ, ◌+◌, ◌-◌, true, false, []}
use Rattle.std.proofs.Common.{slice_index, slice_index_or, sym, ap, subst, ◌∙◌, arith}
use Rattle.std.specs.List.{filter}
use Rattle.flow_shop.specs.Shop.{numbers}
use Rattle.flow_shop.specs.JobSet.{contains, members}
use Rattle.flow_shop.proofs.JobSetLemmas.{members-is}
use Rattle.flow_shop.specs.TwoLeast.{AreTwoLeast}
use Rattle.flow_search.specs.internal.Tails.{tail_at}
use Rattle.flow_search.proofs.Children.{filter-take, filter-leave}
use Rattle.flow_search.proofs.tails_and_lags.least_tails.Goals as goal
use Rattle.flow_search.proofs.tails_and_lags.least_tails.Goals.{then-contains, else-contains}

pub loop-job-init : goal.loop-job-init
loop-job-init c =
    c.none-tails.ensures (tail_at c.args.setting.now.instance.now) c.machines-machines.result
    (omega (arith, c.args.setting.now.are_rows.limits.machines, c.machines-machines.ensures.value))

pub loop-job-preserved : goal.loop-job-preserved
loop-job-preserved c =
    let shop = c.args.setting.now.instance.now in
    let set = c.args.set.now in
    let job : ℕ = c.loop-job.job in
    elim c.if-contains.branch [
      | then-contains w ↦
          let there : contains set job ≡ true = sym c.contains.ensures.value ∙ w.if-contains.true in
          subst (λ l. AreTwoLeast (tail_at shop) c.machines-machines.result (filter (contains set) (numbers 1 (job + 1 -
          1))) l) (sym w.tails-is)
          (subst (λ js. AreTwoLeast (tail_at shop) c.machines-machines.result js w.take.new.self) (sym (filter-take
          (contains set) job c.loop-job.auto.job there))
          (w.take.ensures.two (tail_at shop) (filter (contains set) (numbers 1 (job - 1))) job
          (λ place low.
          let e : place + 1 - 1 ≡ place = omega arith in
          let row = c.args.setting.now.are_rows.each job (record { times = []; tails = [] }) c.loop-job.auto.job
          (omega (arith, c.loop-job-test.true, c.jobs-job-end.ensures.value)) (place + 1) (omega arith)
          (omega (arith, low, c.machines-machines.ensures.value)) in
          ap (slice_index (slice_index_or c.args.setting.now.rows.now (job - 1) (record {
            times = [];
            tails = [];
          })).tails)
          (sym e) ∙ row.1)
          c.loop-job.invariant))
      | else-contains w ↦
          let out : contains set job ≡ false = sym c.contains.ensures.value ∙ w.if-contains.false in
          subst (λ l. AreTwoLeast (tail_at shop) c.machines-machines.result (filter (contains set) (numbers 1 (job + 1 -
          1))) l) (sym w.tails-is)
          (subst (λ js. AreTwoLeast (tail_at shop) c.machines-machines.result js c.loop-job.tails) (sym (filter-leave
          (contains set) job c.loop-job.auto.job out)) c.loop-job.invariant)
    ]

pub returns : goal.returns
returns c =
    let shop = c.args.setting.now.instance.now in
    let set = c.args.set.now in
    let last : c.loop-job.job - 1 ≡ shop.jobs = omega arith in
    subst (λ n. AreTwoLeast (tail_at shop) n (members set) c.loop-job.tails) c.machines-machines.ensures.value
    (subst (λ js. AreTwoLeast (tail_at shop) c.machines-machines.result js c.loop-job.tails)
    (ap (λ n. filter (contains set) (numbers 1 n)) last
    ∙ sym (members-is set shop.jobs c.requires.jobs)) c.loop-job.invariant)
