use Rattle.std.proofs.Common.{◌≡◌, ℕ, suc, ◌+◌, ◌-◌, ◌≤◌, max, slice_index, ap, ap₂, sym, ◌∙◌, arith}
use Rattle.flow_shop.specs.Limits.{greatest_completion}
use Rattle.flow_shop.proofs.Ranges.{greatest-step}
use Rattle.flow_check.proofs.NodeSteps.{node-within}
use Rattle.flow_check.proofs.Releases.{own-late}
use Rattle.flow_check.proofs.release.own_gain.Goals as goal

pub overflow_add-node : goal.overflow_add-node
overflow_add-node c =
    let within : slice_index c.args.node.now.front (c.loop-from.from - 1) ≤ greatest_completion =
    node-within c.args.text.now.shop.now c.requires.at.0 c.args.node.now (suc c.requires.at.1)
    c.args.text.now.are_rows.limits c.requires.at.2 (c.loop-from.from - 1) (omega
    (arith, c.loop-from.auto.from, c.loop-from-test.true, c.requires.machine.1)) in
    omega (arith, within, c.from.ensures)

pub loop-from-preserved : goal.loop-from-preserved
loop-from-preserved c =
    let f : ℕ → ℕ =
    λ from. slice_index c.args.node.now.front (from - 1) + slice_index c.args.lags.now.least (from - 1) in
    let most : c.max-release.result
    ≡ max c.loop-from.release (slice_index c.args.node.now.front (c.loop-from.from - 1) + c.from.result) =
    omega (arith, c.max-release.ensures) in
    let here : slice_index c.args.node.now.front (c.loop-from.from - 1) + c.from.result ≡ f c.loop-from.from =
    ap (λ v. slice_index c.args.node.now.front (c.loop-from.from - 1) + v) c.from.ensures in
    most ∙ ap₂ max c.loop-from.invariant here ∙ sym (greatest-step f c.loop-from.from c.loop-from.auto.from)

pub overflow_sub-result-2 : goal.overflow_sub-result-2
overflow_sub-result-2 c =
    let is = own-late c.args.text.now.shop.now c.requires.at.0 c.args.node.now c.requires.at.1 c.args.machine
    c.args.lags.now c.loop-from.release (c.loop-from.from - 1) c.args.text.now.are_rows.limits c.requires.at.2
    c.requires.machine.0
    c.requires.machine.1 c.requires.at.3 c.loop-from.invariant (omega
    (arith, c.loop-from-test.false, c.loop-from.auto.from, c.loop-from.auto.from-end)) in
    omega (arith, is.1, is.2)

pub returns : goal.returns
returns c list left is are =
    let at = own-late c.args.text.now.shop.now list c.args.node.now left c.args.machine c.args.lags.now
    c.loop-from.release (c.loop-from.from - 1) c.args.text.now.are_rows.limits is c.requires.machine.0
    c.requires.machine.1 are
    c.loop-from.invariant (omega
    (arith, c.loop-from-test.false, c.loop-from.auto.from, c.loop-from.auto.from-end)) in
    omega (arith, at.0, at.1, at.2)
