use Rattle.std.proofs.Common.{rules, ◌≡◌, ◌≢◌, ℕ, ◌+◌, ◌-◌, ◌<◌, slice_index, set, ap, ◌∙◌, inl, inr, arith}
use Rattle.std.proofs.lemmas.Bool.{cases_lt}
use Rattle.std.proofs.lemmas.List.{get_or-set_same, get_or-set_other, length-set}
use Rattle.flow_limits.specs.Limits.{most_machines}
use Rattle.flow_shop.specs.Shop.{time_between}
use Rattle.flow_shop.proofs.row.Row.lags_to.Goals as goal

pub loop-from-init : goal.loop-from-init
loop-from-init c = record { size = search rules; done = λ shop job row to place low. absurd (omega (arith, low)) }

pub lag-requires-clause-row : goal.lag-requires-clause-row
lag-requires-clause-row c = c.requires.row

pub loop-from-preserved : goal.loop-from-preserved
loop-from-preserved c =
    let from : ℕ = c.loop-from.from in
    let lags = c.loop-from.lags in
    let i = c.loop-from.invariant in
    let within : from - 1 < most_machines = omega
    (arith, c.loop-from-test.true, c.requires.row.4, c.requires.row.2.machines) in
    record {
      size = length-set lags (from - 1) c.lag.result ∙ i.size;
      done = λ shop job row to place low. elim (cases_lt (place + 1) from) [
        | inl before ↦
            let other : place ≢ from - 1 = omega (arith, before) in
            get_or-set_other lags (from - 1) place c.lag.result 0 other ∙ i.done shop job row to place before
        | inr at ↦
            let e : place ≡ from - 1 = omega (arith, at, low) in
            let next : from ≡ place + 1 = omega (arith, at, low) in
            ap (slice_index (set lags (from - 1) c.lag.result)) e
            ∙ get_or-set_same lags (from - 1) c.lag.result 0 (omega (arith, i.size, within))
            ∙ c.lag.ensures shop job row to
            ∙ ap (λ n. time_between shop job n (c.args.machine - 1)) next
      ];
    }

pub returns : goal.returns
returns c shop job row to place low =
    c.loop-from.invariant.done shop job row to place (omega (arith, low, c.loop-from-test.false))
