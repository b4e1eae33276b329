use Rattle.std.proofs.Common.{◌≡◌, ℕ, ◌+◌, ◌-◌, ◌*◌, ◌<◌, ◌≤◌, suc, Bool, true, false, max, nat_le, List, [], ◌∷◌, ◌++◌}
use Rattle.std.proofs.Common.{slice_index, slice_index_or, refl, ap, sym, ◌∙◌, arith}
use Rattle.std.proofs.lemmas.Bool.{le-leb, lt-leb}
use Rattle.flow_limits.specs.Limits.{most_machines, greatest_time, greatest_completion}
use Rattle.flow_shop.specs.Shop.{time}
use Rattle.flow_shop.specs.Bound.{bound_at}
use Rattle.flow_shop.proofs.Recurrence.{after}
use Rattle.flow_shop.proofs.Fronts.{free_at, after-step, time-small, child-completion}
use Rattle.flow_search.specs.internal.Frames.{IsFrame, IsChild}
use Rattle.flow_search.proofs.Children.{child-bound, frame-within}
use Rattle.flow_search.proofs.Nodes.{find-here, find-skip, find-past}
use Rattle.flow_search.proofs.bounds.pruning_of_child_plain.Goals as goal
use Rattle.flow_search.proofs.bounds.pruning_of_child_plain.Goals.{After-from, After-from-in-loop-machine}

-- when the child's job starts, at most
start-small : (c : After-from) →
    (c.max-start.result ≤ greatest_completion + (c.loop-machine.machine - 1) * greatest_time)
    × (c.loop-machine.machine ≤ c.args.setting.now.instance.now.machines)
    × (c.args.setting.now.instance.now.machines ≤ most_machines)
start-small c =
    let shop = c.args.setting.now.instance.now in
    let k : ℕ = c.loop-machine.machine in
    let low : 1 ≤ k = c.loop-machine.auto.machine in
    let high : k ≤ shop.machines = omega (arith, c.loop-machine-test.true, c.machines-machine-end.ensures.value) in
    let within : slice_index c.args.here.now.front (k - 1) ≤ greatest_completion =
    frame-within shop c.requires.at.0 (suc (suc c.requires.at.1)) c.args.here.now c.args.setting.now.are_rows.limits
    c.requires.at.2
    (k - 1) (omega arith) in (
      omega (arith, c.max-start.ensures, c.at.ensures, within, c.loop-machine.invariant.small),
      high,
      c.args.setting.now.are_rows.limits.machines,
    )

-- the child's bound on the machine
bounded : (c : After-from-in-loop-machine) (node : List ℕ) (left : ℕ) →
    IsFrame c.args.setting.now.instance.now node (suc (suc left)) c.args.here.now →
    IsChild c.args.setting.now.instance.now.jobs node c.args.job →
    (c.max-start.result + c.from.result + c.from-in-loop-machine.result
    ≡ bound_at c.args.setting.now.instance.now (node ++ c.args.job ∷ []) c.loop-machine.machine)
    × (c.from-in-loop-machine.result ≤ most_machines * greatest_time)
bounded c node left is kid =
    let shop = c.args.setting.now.instance.now in
    let k : ℕ = c.loop-machine.machine in
    let job : ℕ = c.args.job in
    let frame = c.args.here.now in
    let low : 1 ≤ k = c.loop-machine.auto.machine in
    let high : k ≤ shop.machines = omega (arith, c.loop-machine-test.true, c.machines-machine-end.ensures.value) in
    let row = c.args.setting.now.are_rows.each job (record { times = []; tails = [] }) kid.from kid.to k low high in
    let t : ℕ = time shop job k in
    let sum : c.max-start.result + t ≡ max (slice_index frame.front (k - 1)) c.loop-machine.free + t =
    omega (arith, c.max-start.ensures, c.at.ensures) in
    let total = after-step shop frame.front frame.front job k c.loop-machine.free t (c.max-start.result
    + t) low c.loop-machine.invariant.is refl refl sum
    ∙ child-completion shop node frame.front job k high is.times in
    let tail : ℕ = slice_index (slice_index_or c.args.setting.now.rows.now (job - 1) (record {
      times = [];
      tails =
          [];
    })).tails (k - 1) in
    let bound = child-bound shop node left job k c.max-start.result t tail c.tail_without-tail.result frame
    c.args.setting.now.are_rows.limits is kid low high total refl row.1 c.tail_without-tail.ensures in (
      omega (arith, bound.0, c.sum.ensures, c.from.ensures, c.from-in-loop-machine.ensures),
      omega (arith, bound.1, c.from-in-loop-machine.ensures),
    )

pub overflow_add-start : goal.overflow_add-start
overflow_add-start c =
    let is = start-small (goal.at.overflow_add-start c).After-from in
    omega (arith, is.0, is.1, is.2, c.from.ensures, c.sum.type_inv)

pub overflow_add-start-in-loop-machine : goal.overflow_add-start-in-loop-machine
overflow_add-start-in-loop-machine c =
    let is = start-small (goal.at.overflow_add-start-in-loop-machine c).After-from in
    let bound = bounded (goal.at.overflow_add-start-in-loop-machine c).After-from-in-loop-machine c.requires.at.0
    c.requires.at.1 c.requires.at.2 c.requires.at.3 in
    omega (arith, is.0, is.1, is.2, c.from.ensures, c.sum.type_inv, bound.1)

pub returns-then-value-start : goal.returns-then-value-start
returns-then-value-start c node left is kid =
    let shop = c.args.setting.now.instance.now in
    let p : ℕ → Bool = λ machine. nat_le c.args.value (bound_at shop (node ++ c.args.job ∷ []) machine) in
    let k : ℕ = c.loop-machine.machine in
    let total : ℕ = c.max-start.result + c.from.result + c.from-in-loop-machine.result in
    let bound : total ≡ bound_at shop (node ++ c.args.job ∷ []) k =
    (bounded (goal.at.returns-then-value-start c).After-from-in-loop-machine node left is kid).0 in
    let reached : c.args.value ≤ total = c.if-value-start.true in
    let pass : p k ≡ true = ap (nat_le c.args.value) (sym bound) ∙ le-leb c.args.value total reached in
    let high : k ≤ shop.machines = omega (arith, c.loop-machine-test.true, c.machines-machine-end.ensures.value) in
    sym (find-here p k shop.machines high pass) ∙ c.loop-machine.invariant.none node left is kid

pub overflow_add-free : goal.overflow_add-free
overflow_add-free c =
    let shop = c.args.setting.now.instance.now in
    let is = start-small (goal.at.overflow_add-free c).After-from in
    let kid = c.requires.at.3 in
    let row = c.args.setting.now.are_rows.each c.args.job (record {
      times = [];
      tails =
          [];
    }) kid.from kid.to c.loop-machine.machine c.loop-machine.auto.machine is.1 in
    omega (
      arith,
      is.0,
      is.1,
      is.2,
      c.from-in-loop-machine-2.ensures,
      row.0,
      time-small shop c.args.job
          c.loop-machine.machine c.args.setting.now.are_rows.limits,
    )

pub loop-machine-preserved : goal.loop-machine-preserved
loop-machine-preserved c =
    let shop = c.args.setting.now.instance.now in
    let k : ℕ = c.loop-machine.machine in
    let front = c.args.here.now.front in
    let small = start-small (goal.at.loop-machine-preserved c).After-from in
    let kid_here = c.requires.at.3 in
    let row = c.args.setting.now.are_rows.each c.args.job (record {
      times = [];
      tails =
          [];
    }) kid_here.from kid_here.to k c.loop-machine.auto.machine small.1 in
    let there : c.from-in-loop-machine-2.result ≡ time shop c.args.job k = c.from-in-loop-machine-2.ensures ∙ row.0 in
    let next : k + 1 - 1 ≡ k = omega arith in
    let sum : c.max-start.result + c.from-in-loop-machine-2.result ≡ max (slice_index front (k - 1)) c.loop-machine.free
    + c.from-in-loop-machine-2.result =
    omega (arith, c.max-start.ensures, c.at.ensures) in
    record {
      is = after-step shop front front c.args.job k c.loop-machine.free c.from-in-loop-machine-2.result
          (c.max-start.result + c.from-in-loop-machine-2.result)
          c.loop-machine.auto.machine c.loop-machine.invariant.is refl there sum
          ∙ ap (after shop (free_at front) c.args.job) (sym next);
      small = omega (
        arith,
        small.0,
        there,
        c.loop-machine.auto.machine,
        time-small shop c.args.job k
            c.args.setting.now.are_rows.limits,
      );
      none = λ node left is kid.
          let p : ℕ → Bool = λ machine. nat_le c.args.value (bound_at shop (node ++ c.args.job ∷ []) machine) in
          let total : ℕ = c.max-start.result + c.from.result + c.from-in-loop-machine.result in
          let bound : total ≡ bound_at shop (node ++ c.args.job ∷ []) k =
          (bounded (goal.at.loop-machine-preserved c).After-from-in-loop-machine node left is kid).0 in
          let missed : total < c.args.value = c.if-value-start.false in
          let fail : p k ≡ false = ap (nat_le c.args.value) (sym bound) ∙ lt-leb c.args.value total missed in
          find-skip p k shop.machines small.1 fail ∙ c.loop-machine.invariant.none node left is kid;
    }

pub returns : goal.returns
returns c node left is kid =
    let shop = c.args.setting.now.instance.now in
    find-past (λ machine. nat_le c.args.value (bound_at shop (node ++ c.args.job
    ∷ []) machine)) c.loop-machine.machine shop.machines
    (omega (arith, c.loop-machine-test.false, c.machines-machine-end.ensures.value))
    ∙ c.loop-machine.invariant.none node left is kid
