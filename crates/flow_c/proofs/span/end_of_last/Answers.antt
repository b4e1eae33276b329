use Rattle.std.proofs.Common.{◌≡◌, ℕ, List, ◌+◌, ◌-◌, max, length, take, slice_index, ap, sym, ◌∙◌, arith}
use Rattle.flow_shop.specs.Shop.{Shop, time}
use Rattle.flow_shop.specs.Paths.{completion}
use Rattle.flow_c.proofs.Pushed.{at-begin, small, step}
use Rattle.flow_c.proofs.span.end_of_last.Goals as goal

pub loop-machine-init : goal.loop-machine-init
loop-machine-init c =
    let list : List ℕ = c.args.sequence.now in
    record { end = omega arith; free = sym (at-begin c.args.instance.now (take (length list - 1 + 1) list)) }

pub overflow_add-free : goal.overflow_add-free
overflow_add-free c =
    let shop : Shop = c.args.instance.now in
    let list : List ℕ = c.args.sequence.now in
    let machine : ℕ = c.loop-machine.machine in
    let before = c.requires.front machine (omega arith) (omega arith) in
    let here = small shop list (length list - 1) machine c.machines-end.ensures.limits c.requires.whole (omega arith) in
    let left = small shop list (length list - 1 + 1) (machine - 1) c.machines-end.ensures.limits c.requires.whole
    (omega arith) in
    omega (arith, before, here, left)

pub loop-machine-preserved : goal.loop-machine-preserved
loop-machine-preserved c =
    let shop : Shop = c.args.instance.now in
    let list : List ℕ = c.args.sequence.now in
    let machine : ℕ = c.loop-machine.machine in
    let before : ℕ = slice_index c.args.front.now (machine - 1) in
    let last : c.from.result - 1 ≡ length list - 1 = omega arith in
    let is : c.max.result + c.from-in-loop-machine.result
    ≡ max before c.loop-machine.free + time shop (slice_index list (length list - 1)) machine =
    ap (λ (m : ℕ). m + c.from-in-loop-machine.result) c.max.ensures
    ∙ ap (λ (t : ℕ). max before c.loop-machine.free + t) (c.from-in-loop-machine.ensures ∙ c.time.ensures.value
    ∙ ap (λ (k : ℕ). time shop (slice_index list k) machine) last) in
    let value = step shop list (length list - 1) machine before c.loop-machine.free
    (c.max.result + c.from-in-loop-machine.result) (omega arith) (omega arith)
    (c.requires.front machine (omega arith) (omega arith)) c.loop-machine.invariant.free is in
    let next : machine + 1 - 1 ≡ machine = omega arith in
    record {
      end = omega arith;
      free = value ∙ ap (completion shop (take (length list - 1 + 1) list)) (sym next);
    }
