use Rattle.std.proofs.Common.{◌≡◌, ℕ, suc, ◌+◌, ◌-◌, ◌*◌, ◌<◌, ◌≤◌, List, [], ◌∷◌, ◌++◌, max, map, slice_index, refl}
use Rattle.std.proofs.Common.{ap}
use Rattle.std.proofs.Common.{ap₂, sym, ◌∙◌, arith}
use Rattle.flow_shop.specs.Limits.{most_machines, greatest_time, greatest_completion}
use Rattle.flow_shop.specs.Shop.{numbers, time}
use Rattle.flow_shop.specs.Least.{greatest, least}
use Rattle.flow_shop.specs.Sequences.{jobs_left}
use Rattle.flow_shop.proofs.Admissible.{front_of-is}
use Rattle.flow_shop.proofs.Recurrence.{after}
use Rattle.flow_shop.proofs.Fronts.{free_at, after-step, child-completion, time-small}
use Rattle.flow_shop.proofs.Ranges.{greatest-step}
use Rattle.flow_check.proofs.NodeSteps.{node-within}
use Rattle.flow_check.proofs.Releases.{lags, child-lag, child-release}
use Rattle.flow_check.proofs.release.child_gain.Goals as goal
use Rattle.flow_check.proofs.release.child_gain.Goals.{After-from}

-- the machine is one of the instance's, and the job's completion time there is known
here : (c : After-from) → c.loop-from.from < c.args.machine + 1 →
    (1 ≤ c.loop-from.from) × (c.loop-from.from ≤ c.args.machine)
    × (c.max.result + c.from.result
    ≡ after c.args.text.now.shop.now (free_at c.args.node.now.front) c.args.job c.loop-from.from)
    × (c.max.result + c.from.result ≤ greatest_completion + (c.loop-from.from + 1 - 1) * greatest_time)
here c test =
    let shop = c.args.text.now.shop.now in
    let i = c.loop-from.invariant in
    let job = c.requires.at.4 in
    let low : 1 ≤ c.loop-from.from = c.loop-from.auto.from in
    let up : c.loop-from.from ≤ c.args.machine = omega (arith, test) in
    let high : c.loop-from.from ≤ shop.machines = omega (arith, up, c.requires.machine.1) in
    let there : c.from.result ≡ time shop c.args.job c.loop-from.from =
    c.from.ensures ∙ (c.args.text.now.are_rows.each c.args.job (record { times = []; tails = [] }) job.0 job.1
    c.loop-from.from
    low high).0 in
    let within : slice_index c.args.node.now.front (c.loop-from.from - 1) ≤ greatest_completion =
    node-within shop c.requires.at.0 c.args.node.now (suc (suc c.requires.at.1)) c.args.text.now.are_rows.limits
    c.requires.at.2
    (c.loop-from.from - 1) (omega (arith, low, high)) in
    let sum : c.max.result + c.from.result
    ≡ max (slice_index c.args.node.now.front (c.loop-from.from - 1)) c.loop-from.free + c.from.result =
    omega (arith, c.max.ensures) in
    let value = after-step shop c.args.node.now.front c.args.node.now.front c.args.job c.loop-from.from
    c.loop-from.free c.from.result (c.max.result + c.from.result) low i.free refl there sum in (
      low,
      up,
      value,
      omega (
        arith,
        sum,
        within,
        low,
        i.small,
        there,
        time-small shop c.args.job c.loop-from.from c.args.text.now.are_rows.limits,
      ),
    )

pub overflow_add-free : goal.overflow_add-free
overflow_add-free c =
    let most : c.args.text.now.shop.now.machines ≤ most_machines = c.args.text.now.are_rows.limits.machines in
    let is = here (goal.at.overflow_add-free c).After-from c.loop-from-test.true in
    omega (arith, is.1, is.3, most, c.requires.machine.1)

pub overflow_add-free-in-loop-from : goal.overflow_add-free-in-loop-from
overflow_add-free-in-loop-from c =
    let most : c.args.text.now.shop.now.machines ≤ most_machines = c.args.text.now.are_rows.limits.machines in
    let is = here (goal.at.overflow_add-free-in-loop-from c).After-from c.loop-from-test.true in
    omega (arith, is.1, is.3, most, c.requires.machine.1, c.from-in-loop-from.ensures)

pub lag-requires-clause-row : goal.lag-requires-clause-row
lag-requires-clause-row c =
    let shop = c.args.text.now.shop.now in
    let job = c.requires.at.4 in (
      shop,
      c.args.job,
      c.args.text.now.are_rows.limits,
      c.args.text.now.are_rows.each c.args.job _ job.0 job.1,
      c.requires.machine.1,
    )

pub loop-from-preserved : goal.loop-from-preserved
loop-from-preserved c =
    let shop = c.args.text.now.shop.now in
    let at = here (goal.at.loop-from-preserved c).After-from c.loop-from-test.true in
    let next : c.loop-from.from + 1 - 1 ≡ c.loop-from.from = omega arith in
    let free : ℕ = c.max.result + c.from.result in
    record {
      free = at.2 ∙ ap (after shop (free_at c.args.node.now.front) c.args.job) (sym next);
      small = at.3;
      late = omega (arith, c.max-release.ensures);
      release = λ list left is are kid.
          let jobs : List ℕ = jobs_left shop.jobs (list ++ c.args.job ∷ []) in
          let f : ℕ → ℕ = λ from. after shop (free_at c.args.node.now.front) c.args.job from
          + least (lags shop from c.args.machine jobs) in
          let most : c.max-release.result ≡ max c.loop-from.release (free + c.from-in-loop-from.result) =
          omega (arith, c.max-release.ensures) in
          let lag = child-lag shop list c.args.node.now left c.args.job c.loop-from.from c.args.machine c.lag.result
          c.at.result.least c.at.result.second c.without-behind.result c.args.lags.now c.args.text.now.are_rows.limits
          is kid.0 kid.1 kid.2 are at.0 at.1 c.requires.machine.1
          (c.lag.ensures shop c.args.job (c.args.text.now.are_rows.each c.args.job _ kid.0 kid.1)
          c.requires.machine.1) c.at.ensures.least c.at.ensures.second c.without-behind.ensures in
          let value : free + c.from-in-loop-from.result ≡ f c.loop-from.from =
          ap₂ (λ a b. a + b) at.2 (c.from-in-loop-from.ensures ∙ lag) in
          most ∙ ap₂ max (c.loop-from.invariant.release list left is are kid) value
          ∙ sym (greatest-step f c.loop-from.from at.0);
    }

pub returns : goal.returns
returns c list left is are kid =
    let shop = c.args.text.now.shop.now in
    let jobs : List ℕ = jobs_left shop.jobs (list ++ c.args.job ∷ []) in
    let f : ℕ → ℕ = λ from. after shop (free_at c.args.node.now.front) c.args.job from
    + least (lags shop from c.args.machine jobs) in
    let end : c.loop-from.from - 1 ≡ c.args.machine =
    omega (arith, c.loop-from-test.false, c.loop-from.auto.from, c.loop-from.auto.from-end) in
    let i = c.loop-from.invariant in
    let value = i.release list left is are kid ∙ ap (λ n. greatest (map f (numbers 1 n))) end
    ∙ child-release shop list c.args.node.now (suc (suc left)) c.args.job c.args.machine is c.requires.machine.1 in
    let front = i.free ∙ ap (after shop (free_at c.args.node.now.front) c.args.job) end
    ∙ child-completion shop list c.args.node.now.front c.args.job c.args.machine c.requires.machine.1 is.times
    ∙ sym (front_of-is shop (list ++ c.args.job ∷ []) c.args.machine c.requires.machine.0 c.requires.machine.1) in
    omega (arith, value, front, i.late)
