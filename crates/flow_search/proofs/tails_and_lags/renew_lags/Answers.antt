use Rattle.std.proofs.Common.{rules, ◌≡◌, ◌≢◌, ℕ, ◌-◌, ◌≤◌, set, slice_index_or, sym, subst, ◌∙◌, inl, inr, arith}
use Rattle.std.proofs.lemmas.Bool.{cases_lt}
use Rattle.std.proofs.lemmas.List.{get_or-set_same, get_or-set_other, length-set}
use Rattle.flow_limits.specs.Limits.{most_machines}
use Rattle.flow_shop.specs.Shop.{Shop}
use Rattle.flow_shop.specs.JobSet.{members}
use Rattle.flow_shop.specs.TwoLeast.{AreTwoLeast, time_to}
use Rattle.flow_search.proofs.tails_and_lags.renew_lags.Goals as goal

pub loop-machine-init : goal.loop-machine-init
loop-machine-init c = record {
  size = search rules;
  done = λ k other from to place low. absurd (omega (arith, from, to, low));
}

pub loop-machine-preserved : goal.loop-machine-preserved
loop-machine-preserved c =
    let shop : Shop = c.args.setting.now.instance.now in
    let machine : ℕ = c.loop-machine.machine in
    let i = c.loop-machine.invariant in
    let low : 1 ≤ machine = omega (arith, c.loop-machine.auto.machine) in
    let high : machine ≤ shop.machines = omega (arith, c.loop-machine-test.true, c.machines-machine-end.ensures.value)
    in
    let most : shop.machines ≤ most_machines = c.args.setting.now.are_rows.limits.machines in
    record {
      size = length-set c.loop-machine.lags (machine - 1) c.least_lags.result ∙ i.size;
      done = λ k other from to. elim (cases_lt k machine) [
        | inl before ↦
            let apart : k - 1 ≢ machine - 1 = omega (arith, before, from) in
            subst (AreTwoLeast (time_to shop k) (k - 1) (members c.args.set.now))
            (sym (get_or-set_other c.loop-machine.lags (machine - 1) (k - 1) c.least_lags.result other apart))
            (i.done k other from before)
        | inr at ↦
            let e : k ≡ machine = omega (arith, at, to) in
            let stands : slice_index_or (set c.loop-machine.lags (machine - 1) c.least_lags.result) (machine - 1) other
            ≡ c.least_lags.result =
            get_or-set_same c.loop-machine.lags (machine - 1) c.least_lags.result other
            (omega (arith, i.size, low, high, most)) in
            subst (λ n. AreTwoLeast (time_to shop n) (n - 1) (members c.args.set.now)
            (slice_index_or (set c.loop-machine.lags (machine - 1) c.least_lags.result) (n - 1) other)) (sym e)
            (subst (AreTwoLeast (time_to shop machine) (machine - 1) (members c.args.set.now)) (sym stands)
            c.least_lags.ensures)
      ];
    }

pub returns : goal.returns
returns c two machine other from to =
    c.loop-machine.invariant.done machine other from
    (omega (arith, to, c.loop-machine-test.false, c.machines-machine-end.ensures.value))
