use Rattle.std.proofs.Common.{◌≡◌, ◌≢◌, ℕ, List, ◌+◌, ◌-◌, ◌<◌, max, length, take, slice_index, ap, sym, ◌∙◌, arith}
use Rattle.std.proofs.lemmas.Grind.{common_steps}
use Rattle.std.proofs.lemmas.List.{get_or-set_other}
use Rattle.flow_shop.specs.Shop.{Shop, time}
use Rattle.flow_shop.specs.Paths.{completion}
use Rattle.flow_c.proofs.Pushed.{at-begin, small, step, put}
use Rattle.flow_c.proofs.span.push_two.Goals as goal

pub loop-machine-init : goal.loop-machine-init
loop-machine-init c =
    let shop : Shop = c.args.instance.now in
    let list : List ℕ = c.args.sequence.now in
    let count : ℕ = c.args.count in
    record {
      end = omega arith;
      length = grind (arith, common_steps);
      first = sym (at-begin shop (take (count + 1) list));
      second = sym (at-begin shop (take (count + 1 + 1) list));
      done = λ machine low high. absurd (omega arith);
      others = λ machine low high. c.requires.front machine low high;
    }

pub overflow_add-first : goal.overflow_add-first
overflow_add-first c =
    let shop : Shop = c.args.instance.now in
    let list : List ℕ = c.args.sequence.now in
    let count : ℕ = c.args.count in
    let machine : ℕ = c.loop-machine.machine in
    let before = c.loop-machine.invariant.others machine (omega arith) (omega arith) in
    let here = small shop list count machine c.machines-end.ensures.limits c.requires.whole (omega arith) in
    let left = small shop list (count + 1) (machine - 1) c.machines-end.ensures.limits c.requires.whole (omega arith) in
    omega (arith, before, here, left)

pub overflow_add-second : goal.overflow_add-second
overflow_add-second c =
    let shop : Shop = c.args.instance.now in
    let list : List ℕ = c.args.sequence.now in
    let count : ℕ = c.args.count in
    let machine : ℕ = c.loop-machine.machine in
    let before = c.loop-machine.invariant.others machine (omega arith) (omega arith) in
    let here = small shop list count machine c.machines-end.ensures.limits c.requires.whole (omega arith) in
    let first = small shop list (count + 1) (machine - 1) c.machines-end.ensures.limits c.requires.whole (omega arith)
    in
    let second = small shop list (count + 1 + 1) (machine - 1) c.machines-end.ensures.limits c.requires.whole
    (omega arith) in
    omega (arith, before, here, first, second)

pub loop-machine-preserved : goal.loop-machine-preserved
loop-machine-preserved c =
    let shop : Shop = c.args.instance.now in
    let list : List ℕ = c.args.sequence.now in
    let count : ℕ = c.args.count in
    let machine : ℕ = c.loop-machine.machine in
    let before : ℕ = slice_index c.loop-machine.front (machine - 1) in
    let one : ℕ = c.max.result + c.from.result in
    let two : ℕ = c.max-in-loop-machine.result + c.from-in-loop-machine.result in
    let is_one : one ≡ max before c.loop-machine.first + time shop (slice_index list count) machine =
    ap (λ (m : ℕ). m + c.from.result) c.max.ensures
    ∙ ap (λ (t : ℕ). max before c.loop-machine.first + t) (c.from.ensures ∙ c.time.ensures.value) in
    let first = step shop list count machine before c.loop-machine.first one (omega arith) (omega arith)
    (c.loop-machine.invariant.others machine (omega arith) (omega arith)) c.loop-machine.invariant.first is_one in
    let is_two : two ≡ max one c.loop-machine.second + time shop (slice_index list (count + 1)) machine =
    ap (λ (m : ℕ). m + c.from-in-loop-machine.result) c.max-in-loop-machine.ensures
    ∙ ap (λ (t : ℕ). max one c.loop-machine.second + t)
    (c.from-in-loop-machine.ensures ∙ c.time-in-loop-machine.ensures.value) in
    let second = step shop list (count + 1) machine one c.loop-machine.second two (omega arith) (omega arith) first
    c.loop-machine.invariant.second is_two in
    let within : machine - 1 < length c.loop-machine.front = omega arith in
    let next : machine + 1 - 1 ≡ machine = omega arith in
    record {
      end = omega arith;
      length = grind (arith, common_steps);
      first = first ∙ ap (completion shop (take (count + 1) list)) (sym next);
      second = second ∙ ap (completion shop (take (count + 1 + 1) list)) (sym next);
      done = put (completion shop (take (count + 1 + 1) list)) c.loop-machine.front machine two (omega arith) within
          second c.loop-machine.invariant.done;
      others = λ other low high.
          let apart : other - 1 ≢ machine - 1 = omega arith in
          rw get_or-set_other (c.loop-machine.invariant.others other (omega arith) high);
    }
