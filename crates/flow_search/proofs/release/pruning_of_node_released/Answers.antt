use Rattle.std.proofs.Common.{◌≡◌, ℕ, ◌+◌, ◌-◌, ◌<◌, ◌≤◌, Bool, false, true, nat_le, List, ap, sym, ◌∙◌, arith}
use Rattle.std.proofs.lemmas.Bool.{le-leb, lt-leb}
use Rattle.flow_shop.specs.Shop.{Shop}
use Rattle.flow_shop.specs.JobSet.{members}
use Rattle.flow_shop.specs.Bound.{released_bound}
use Rattle.flow_bound.specs.Loads.{least_between}
use Rattle.flow_search.proofs.Lags.{least-lag}
use Rattle.flow_search.proofs.Nodes.{find-here, find-skip}
use Rattle.flow_search.proofs.release.pruning_of_node_released.Goals as goal
use Rattle.flow_search.proofs.release.pruning_of_node_released.Goals.{After-from-in-loop-machine}

-- the released bound on the machine
bounded : (c : After-from-in-loop-machine) →
    c.release_from_lags-release.result + c.from.result + c.from-in-loop-machine.result
    ≡ released_bound c.args.setting.now.instance.now c.args.front.now (members c.args.set.now) c.loop-machine.machine
bounded c =
    let shop : Shop = c.args.setting.now.instance.now in
    let machine : ℕ = c.loop-machine.machine in
    let jobs : List ℕ = members c.args.set.now in
    let low : 1 ≤ machine = c.loop-machine.auto.machine in
    let high : machine ≤ shop.machines = omega (arith, c.loop-machine-test.true, c.machines-machine-end.ensures.value)
    in
    let release = c.release_from_lags-release.ensures.value shop jobs
    (λ from some below.
    let within : from - 1 < machine - 1 = omega (arith, some, below) in
    let here : from - 1 + 1 ≡ from = omega (arith, some) in
    (c.least_lags-lags.ensures (from - 1) within).0
    ∙ least-lag shop machine (from - 1) jobs c.args.setting.now.are_rows.limits high c.requires.some
    ∙ ap (λ k. least_between shop jobs k (machine - 1)) here) in
    omega (
      arith,
      release,
      c.sum.ensures,
      c.from.ensures,
      c.tail.ensures,
      c.from-in-loop-machine.ensures,
      c.requires.loads.sums_are machine low high,
      c.requires.loads.tails_are machine low high,
    )

pub returns-then-value-release : goal.returns-then-value-release
returns-then-value-release c =
    let shop : Shop = c.args.setting.now.instance.now in
    let machine : ℕ = c.loop-machine.machine in
    let p : ℕ → Bool = λ k. nat_le c.args.value (released_bound shop c.args.front.now (members c.args.set.now) k) in
    let total : ℕ = c.release_from_lags-release.result + c.from.result + c.from-in-loop-machine.result in
    let is = bounded (goal.at.returns-then-value-release c).After-from-in-loop-machine in
    let pass : p machine ≡ true = ap (nat_le c.args.value) (sym is) ∙ le-leb c.args.value total
    c.if-value-release.true in
    let high : machine ≤ shop.machines = omega (arith, c.loop-machine-test.true, c.machines-machine-end.ensures.value)
    in
    sym (find-here p machine shop.machines high pass) ∙ c.loop-machine.invariant

pub loop-machine-preserved : goal.loop-machine-preserved
loop-machine-preserved c =
    let shop : Shop = c.args.setting.now.instance.now in
    let machine : ℕ = c.loop-machine.machine in
    let p : ℕ → Bool = λ k. nat_le c.args.value (released_bound shop c.args.front.now (members c.args.set.now) k) in
    let total : ℕ = c.release_from_lags-release.result + c.from.result + c.from-in-loop-machine.result in
    let is = bounded (goal.at.loop-machine-preserved c).After-from-in-loop-machine in
    let fail : p machine ≡ false = ap (nat_le c.args.value) (sym is) ∙ lt-leb c.args.value total
    c.if-value-release.false
    in
    let high : machine ≤ shop.machines = omega (arith, c.loop-machine-test.true, c.machines-machine-end.ensures.value)
    in
    find-skip p machine shop.machines high fail ∙ c.loop-machine.invariant
