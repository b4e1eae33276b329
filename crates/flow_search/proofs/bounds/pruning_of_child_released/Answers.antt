use Rattle.std.proofs.Common.{rules, ◌≡◌, ℕ, ◌+◌, ◌-◌, ◌*◌, ◌<◌, ◌≤◌, suc, Bool, true, false, max, nat_le, List, []}
use Rattle.std.proofs.Common.{◌∷◌, ◌++◌, set, slice_index, slice_index_or, refl, ap, sym, ◌∙◌, arith}
use Rattle.std.proofs.lemmas.Bool.{le-leb, lt-leb}
use Rattle.std.proofs.lemmas.List.{get_or-set_same, length-set}
use Rattle.flow_limits.specs.Limits.{most_machines, greatest_time, greatest_completion}
use Rattle.flow_shop.specs.Shop.{Shop, time}
use Rattle.flow_shop.specs.Paths.{completion}
use Rattle.flow_shop.specs.Sequences.{jobs_left}
use Rattle.flow_shop.specs.Bound.{bound_at, released_bound_at, front_of}
use Rattle.flow_shop.specs.declared.row.Row.{Row}
use Rattle.flow_shop.proofs.Admissible.{front_of-is, released_bound_is_stronger}
use Rattle.flow_shop.proofs.Recurrence.{after}
use Rattle.flow_shop.proofs.Fronts.{free_at, after-step, time-small, child-completion}
use Rattle.flow_search.specs.internal.Frames.{IsFrame, IsChild}
use Rattle.flow_search.specs.internal.Lags.{AreLeastLags, IsLagged}
use Rattle.flow_shop.specs.declared.least_pairs.LeastPairs.{LeastPairs}
use Rattle.flow_search.proofs.Children.{child-bound, child-released, frame-within}
use Rattle.flow_search.proofs.ColumnsPassed.{done-more}
use Rattle.flow_search.proofs.Nodes.{find-here, find-skip, find-past}
use Rattle.flow_search.proofs.bounds.pruning_of_child_released.Goals as goal
use Rattle.flow_search.proofs.bounds.pruning_of_child_released.Goals.{After-max-start, After-from-time}
use Rattle.flow_search.proofs.bounds.pruning_of_child_released.Goals.{After-from-in-loop-machine}
use Rattle.flow_search.proofs.bounds.pruning_of_child_released.Goals.{After-release_at_child}

abbrev none : Row
none = record { times = []; tails = [] }

-- when the child's job starts, at most
start-small : (c : After-max-start) →
    (c.max-start.result ≤ greatest_completion + (c.loop-machine.machine - 1) * greatest_time)
    × (c.loop-machine.machine ≤ c.args.setting.now.instance.now.machines)
    × (c.args.setting.now.instance.now.machines ≤ most_machines)
start-small c =
    let shop : Shop = c.args.setting.now.instance.now in
    let k : ℕ = c.loop-machine.machine in
    let low : 1 ≤ k = c.loop-machine.auto.machine in
    let high : k ≤ shop.machines = omega (arith, c.loop-machine-test.true, c.machines-machine-end.ensures.value) in
    let within : slice_index c.args.here.now.front (k - 1) ≤ greatest_completion =
    frame-within shop c.requires.at.0 (suc (suc c.requires.at.1)) c.args.here.now c.args.setting.now.are_rows.limits
    c.requires.at.2
    (k - 1) (omega arith) in (
      omega (arith, c.max-start.ensures, c.at.ensures, within, c.loop-machine.invariant.small),
      high,
      c.args.setting.now.are_rows.limits.machines,
    )

-- when the child's job leaves the machine
leaves-small : (c : After-from-time) →
    (c.max-start.result + c.from-time.result ≤ greatest_completion + c.loop-machine.machine * greatest_time)
    × (c.max-start.result + c.from-time.result ≤ greatest_completion + most_machines * greatest_time)
leaves-small c =
    let shop : Shop = c.args.setting.now.instance.now in
    let k : ℕ = c.loop-machine.machine in
    let low : 1 ≤ k = c.loop-machine.auto.machine in
    let begins = start-small (goal.at.After-from-time c).After-max-start in
    let kid = c.requires.at.3 in
    let row = c.args.setting.now.are_rows.each c.args.job none kid.from kid.to k low begins.1 in
    let t = time-small shop c.args.job k c.args.setting.now.are_rows.limits in (
      omega (arith, begins.0, c.from-time.ensures, row.0, t, low),
      omega (arith, begins.0, begins.1, begins.2, c.from-time.ensures, row.0, t, low),
    )

-- when it leaves the machine is the child's completion time there
leaves-is : (c : After-from-time) (node : List ℕ) (left : ℕ) →
    IsFrame c.args.setting.now.instance.now node (suc (suc left)) c.args.here.now →
    c.max-start.result + c.from-time.result
    ≡ completion c.args.setting.now.instance.now (node ++ c.args.job ∷ []) c.loop-machine.machine
leaves-is c node left is =
    let shop : Shop = c.args.setting.now.instance.now in
    let k : ℕ = c.loop-machine.machine in
    let front : List ℕ = c.args.here.now.front in
    let low : 1 ≤ k = c.loop-machine.auto.machine in
    let begins = start-small (goal.at.After-from-time c).After-max-start in
    let kid = c.requires.at.3 in
    let row = c.args.setting.now.are_rows.each c.args.job none kid.from kid.to k low begins.1 in
    let there : c.from-time.result ≡ time shop c.args.job k = c.from-time.ensures ∙ row.0 in
    let sum : c.max-start.result + c.from-time.result
    ≡ max (slice_index front (k - 1)) c.loop-machine.leaves + c.from-time.result =
    omega (arith, c.max-start.ensures, c.at.ensures) in
    after-step shop front front c.args.job k c.loop-machine.leaves c.from-time.result
    (c.max-start.result + c.from-time.result) low c.loop-machine.invariant.is refl there sum
    ∙ child-completion shop node front c.args.job k begins.1 is.times

-- the child's machine bound
bounded : (c : After-from-in-loop-machine) (node : List ℕ) (left : ℕ) →
    IsFrame c.args.setting.now.instance.now node (suc (suc left)) c.args.here.now →
    IsChild c.args.setting.now.instance.now.jobs node c.args.job →
    (c.max-start.result + (c.from.result + c.from-in-loop-machine.result)
    ≡ bound_at c.args.setting.now.instance.now (node ++ c.args.job ∷ []) c.loop-machine.machine)
    × (c.from-in-loop-machine.result ≤ most_machines * greatest_time)
bounded c node left is kid =
    let shop : Shop = c.args.setting.now.instance.now in
    let k : ℕ = c.loop-machine.machine in
    let job : ℕ = c.args.job in
    let low : 1 ≤ k = c.loop-machine.auto.machine in
    let begins = start-small (goal.at.After-from-in-loop-machine c).After-max-start in
    let row = c.args.setting.now.are_rows.each job none kid.from kid.to k low begins.1 in
    let total = leaves-is (goal.at.After-from-in-loop-machine c).After-from-time node left is in
    let there : c.from-time.result ≡ time shop job k = c.from-time.ensures ∙ row.0 in
    let tail : ℕ = slice_index (slice_index_or c.args.setting.now.rows.now (job - 1) none).tails (k - 1) in
    let bound = child-bound shop node left job k c.max-start.result c.from-time.result tail c.tail_without-tail.result
    c.args.here.now c.args.setting.now.are_rows.limits is kid low begins.1 total there row.1
    c.tail_without-tail.ensures in (
      omega (arith, bound.0, c.sum.ensures, c.from.ensures, c.from-in-loop-machine.ensures),
      omega (arith, bound.1, c.from-in-loop-machine.ensures),
    )

-- the child's front on the machines so far
free-is : (c : After-from-time) (node : List ℕ) (left : ℕ) →
    IsFrame c.args.setting.now.instance.now node (suc (suc left)) c.args.here.now → (place : ℕ) →
    place < c.loop-machine.machine →
    slice_index (set c.loop-machine.free (c.loop-machine.machine - 1) (c.max-start.result + c.from-time.result)) place
    ≡ completion c.args.setting.now.instance.now (node ++ c.args.job ∷ []) (place + 1)
free-is c node left is place within =
    let shop : Shop = c.args.setting.now.instance.now in
    let k : ℕ = c.loop-machine.machine in
    let low : 1 ≤ k = c.loop-machine.auto.machine in
    let begins = start-small (goal.at.After-from-time c).After-max-start in
    let e : k - 1 + 1 ≡ k = omega (arith, low) in
    done-more (λ p n. n ≡ completion shop (node ++ c.args.job ∷ []) (p + 1)) c.loop-machine.free 0 (k - 1)
    (c.max-start.result + c.from-time.result)
    (omega (arith, c.loop-machine.invariant.size, begins.1, begins.2, low))
    (leaves-is c node left is ∙ ap (completion shop (node ++ c.args.job ∷ [])) (sym e))
    (c.loop-machine.invariant.done node left is) place (omega (arith, within, low))

free-small : (c : After-from-time) (place : ℕ) → place < c.loop-machine.machine →
    slice_index (set c.loop-machine.free (c.loop-machine.machine - 1) (c.max-start.result + c.from-time.result)) place
    ≤ greatest_completion + most_machines * greatest_time
free-small c place within =
    let k : ℕ = c.loop-machine.machine in
    let low : 1 ≤ k = c.loop-machine.auto.machine in
    let begins = start-small (goal.at.After-from-time c).After-max-start in
    done-more (λ p n. n ≤ greatest_completion + most_machines * greatest_time) c.loop-machine.free 0 (k - 1)
    (c.max-start.result + c.from-time.result)
    (omega (arith, c.loop-machine.invariant.size, begins.1, begins.2, low))
    (leaves-small c).1 c.loop-machine.invariant.done_small place (omega (arith, within, low))

-- the job, its row and the lags to the machine
lagged : (c : After-from-time) (node : List ℕ) (left : ℕ) →
    IsFrame c.args.setting.now.instance.now node (suc (suc left)) c.args.here.now →
    IsChild c.args.setting.now.instance.now.jobs node c.args.job →
    AreLeastLags c.args.setting.now.instance.now (jobs_left c.args.setting.now.instance.now.jobs node)
    c.args.lags.now →
    (other : LeastPairs) → IsLagged c.args.setting.now.instance.now node left c.args.job c.loop-machine.machine
    (slice_index_or c.args.setting.now.rows.now (c.args.job - 1) none)
    (slice_index_or c.args.lags.now (c.loop-machine.machine - 1) other)
lagged c node left is kid lags other =
    let begins = start-small (goal.at.After-from-time c).After-max-start in
    record {
      limits = c.args.setting.now.are_rows.limits;
      to = begins.1;
      some = is.some;
      kid = kid;
      row_is = c.args.setting.now.are_rows.each c.args.job none kid.from kid.to;
      lags_are = lags c.loop-machine.machine other c.loop-machine.auto.machine begins.1;
    }

-- the child's released bound
released : (c : After-release_at_child) (node : List ℕ) (left : ℕ) →
    IsFrame c.args.setting.now.instance.now node (suc (suc left)) c.args.here.now →
    IsChild c.args.setting.now.instance.now.jobs node c.args.job →
    AreLeastLags c.args.setting.now.instance.now (jobs_left c.args.setting.now.instance.now.jobs node)
    c.args.lags.now →
    (c.release_at_child.result - c.from-time.result + (c.from.result + c.from-in-loop-machine.result)
    ≡ released_bound_at c.args.setting.now.instance.now (node ++ c.args.job ∷ []) c.loop-machine.machine)
    × (c.from-time.result ≤ c.release_at_child.result)
released c node left is kid lags =
    let shop : Shop = c.args.setting.now.instance.now in
    let k : ℕ = c.loop-machine.machine in
    let job : ℕ = c.args.job in
    let front : List ℕ = front_of shop (node ++ job ∷ []) in
    let at = (goal.at.After-release_at_child c).After-from-time in
    let low : 1 ≤ k = c.loop-machine.auto.machine in
    let begins = start-small (goal.at.After-release_at_child c).After-max-start in
    let row = c.args.setting.now.are_rows.each job none kid.from kid.to k low begins.1 in
    let there : c.from-time.result ≡ time shop job k = c.from-time.ensures ∙ row.0 in
    let late = c.release_at_child.ensures.value shop node front left job (lagged at node left is kid lags _)
    (λ place within.
    let e : place + 1 - 1 ≡ place = omega arith in
    free-is at node left is place within
    ∙ sym (front_of-is shop (node ++ job ∷ []) (place + 1) (omega arith) (omega (arith, within, begins.1)))
    ∙ ap (slice_index front) e) in
    let here : slice_index (set c.loop-machine.free (k - 1) (c.max-start.result + c.from-time.result)) (k - 1)
    ≡ c.max-start.result + c.from-time.result =
    get_or-set_same c.loop-machine.free (k - 1) (c.max-start.result + c.from-time.result) 0
    (omega (arith, c.loop-machine.invariant.size, begins.1, begins.2, low)) in
    let least : c.from-time.result ≤ c.release_at_child.result =
    omega (arith, c.release_at_child.ensures.least, here) in
    let tail : ℕ = slice_index (slice_index_or c.args.setting.now.rows.now (job - 1) none).tails (k - 1) in
    let bound = child-released shop node left job k c.release_at_child.result c.from-time.result tail
    c.tail_without-tail.result c.args.here.now c.args.setting.now.are_rows.limits is kid low begins.1 late least there
    row.1
    c.tail_without-tail.ensures in (
      omega (arith, bound, c.sum.ensures, c.from.ensures, c.from-in-loop-machine.ensures),
      least,
    )

pub overflow_add-start : goal.overflow_add-start
overflow_add-start c =
    let is = start-small (goal.at.overflow_add-start c).After-max-start in
    let bound = bounded (goal.at.overflow_add-start c).After-from-in-loop-machine c.requires.at.0
    c.requires.at.1 c.requires.at.2 c.requires.at.3 in
    omega (arith, is.0, is.1, is.2, c.from.ensures, c.sum.type_inv, bound.1)

pub returns-then-value-start : goal.returns-then-value-start
returns-then-value-start c node left is kid lags =
    let shop : Shop = c.args.setting.now.instance.now in
    let p : ℕ → Bool = λ machine. nat_le c.args.value (released_bound_at shop (node ++ c.args.job ∷ []) machine) in
    let k : ℕ = c.loop-machine.machine in
    let begins = start-small (goal.at.returns-then-value-start c).After-max-start in
    let bound = (bounded (goal.at.returns-then-value-start c).After-from-in-loop-machine node left is kid).0 in
    let more = released_bound_is_stronger shop (node ++ c.args.job ∷ []) k c.loop-machine.auto.machine in
    let reached : c.args.value ≤ released_bound_at shop (node ++ c.args.job ∷ []) k =
    omega (arith, c.if-value-start.true, bound, more) in
    let pass : p k ≡ true = le-leb c.args.value (released_bound_at shop (node ++ c.args.job ∷ []) k) reached in
    sym (find-here p k shop.machines begins.1 pass) ∙ c.loop-machine.invariant.none node left is kid lags

pub overflow_add-leaves : goal.overflow_add-leaves
overflow_add-leaves c = omega (arith, (leaves-small (goal.at.overflow_add-leaves c).After-from-time).1)

pub overflow_cast-free : goal.overflow_cast-free
overflow_cast-free c = omega (arith, (leaves-small (goal.at.overflow_cast-free c).After-from-time).1)

pub release_at_child-requires-clause-small : goal.release_at_child-requires-clause-small
release_at_child-requires-clause-small c =
    free-small (goal.at.release_at_child-requires-clause-small c).After-from-time

pub release_at_child-requires-clause-child : goal.release_at_child-requires-clause-child
release_at_child-requires-clause-child c = (
  c.args.setting.now.instance.now,
  c.requires.at.0,
  c.requires.at.1,
  c.args.job,
  lagged (goal.at.release_at_child-requires-clause-child c).After-from-time c.requires.at.0 c.requires.at.1
      c.requires.at.2 c.requires.at.3 c.requires.at.4 _,
)

pub overflow_sub-release : goal.overflow_sub-release
overflow_sub-release c =
    let is = released (goal.at.overflow_sub-release c).After-release_at_child c.requires.at.0 c.requires.at.1
    c.requires.at.2 c.requires.at.3 c.requires.at.4 in
    omega (arith, is.1, c.from-release.ensures)

pub overflow_add-release : goal.overflow_add-release
overflow_add-release c =
    let bound = bounded (goal.at.overflow_add-release c).After-from-in-loop-machine c.requires.at.0
    c.requires.at.1 c.requires.at.2 c.requires.at.3 in
    omega (
      arith,
      c.release_at_child.ensures.limit,
      c.from-release.ensures,
      c.from.ensures,
      c.sum.type_inv,
      bound.1,
    )

pub returns-then-value-release : goal.returns-then-value-release
returns-then-value-release c node left is kid lags =
    let shop : Shop = c.args.setting.now.instance.now in
    let p : ℕ → Bool = λ machine. nat_le c.args.value (released_bound_at shop (node ++ c.args.job ∷ []) machine) in
    let k : ℕ = c.loop-machine.machine in
    let begins = start-small (goal.at.returns-then-value-release c).After-max-start in
    let bound = (released (goal.at.returns-then-value-release c).After-release_at_child node left is kid lags).0 in
    let reached : c.args.value ≤ released_bound_at shop (node ++ c.args.job ∷ []) k =
    omega (arith, c.if-value-release.true, bound, c.from-release.ensures) in
    let pass : p k ≡ true = le-leb c.args.value (released_bound_at shop (node ++ c.args.job ∷ []) k) reached in
    sym (find-here p k shop.machines begins.1 pass) ∙ c.loop-machine.invariant.none node left is kid lags

pub loop-machine-init : goal.loop-machine-init
loop-machine-init c = record {
  is = refl;
  small = omega arith;
  size = search rules;
  done_small = λ place low. absurd (omega (arith, low));
  done = λ node left is place low. absurd (omega (arith, low));
  none = λ node left is kid lags. refl;
}

pub loop-machine-preserved : goal.loop-machine-preserved
loop-machine-preserved c =
    let shop : Shop = c.args.setting.now.instance.now in
    let k : ℕ = c.loop-machine.machine in
    let front : List ℕ = c.args.here.now.front in
    let at = (goal.at.loop-machine-preserved c).After-from-time in
    let begins = start-small (goal.at.loop-machine-preserved c).After-max-start in
    let kid_here = c.requires.at.3 in
    let row = c.args.setting.now.are_rows.each c.args.job none kid_here.from kid_here.to k c.loop-machine.auto.machine
    begins.1 in
    let there : c.from-time.result ≡ time shop c.args.job k = c.from-time.ensures ∙ row.0 in
    let next : k + 1 - 1 ≡ k = omega arith in
    let sum : c.max-start.result + c.from-time.result
    ≡ max (slice_index front (k - 1)) c.loop-machine.leaves + c.from-time.result =
    omega (arith, c.max-start.ensures, c.at.ensures) in
    record {
      is = after-step shop front front c.args.job k c.loop-machine.leaves c.from-time.result
          (c.max-start.result + c.from-time.result)
          c.loop-machine.auto.machine c.loop-machine.invariant.is refl there sum
          ∙ ap (after shop (free_at front) c.args.job) (sym next);
      small = omega (arith, (leaves-small at).0);
      size = length-set c.loop-machine.free (k - 1) (c.max-start.result + c.from-time.result)
          ∙ c.loop-machine.invariant.size;
      done_small = λ place low. free-small at place (omega (arith, low));
      done = λ node left is place low. free-is at node left is place (omega (arith, low));
      none = λ node left is kid lags.
          let p : ℕ → Bool = λ machine. nat_le c.args.value (released_bound_at shop (node ++ c.args.job
          ∷ []) machine) in
          let bound = (released (goal.at.loop-machine-preserved c).After-release_at_child node left is kid lags).0 in
          let missed : released_bound_at shop (node ++ c.args.job ∷ []) k < c.args.value =
          omega (arith, c.if-value-release.false, bound, c.from-release.ensures) in
          let fail : p k ≡ false = lt-leb c.args.value (released_bound_at shop (node ++ c.args.job ∷ []) k) missed in
          find-skip p k shop.machines begins.1 fail ∙ c.loop-machine.invariant.none node left is kid lags;
    }

pub returns : goal.returns
returns c node left is kid lags =
    let shop : Shop = c.args.setting.now.instance.now in
    find-past (λ machine. nat_le c.args.value (released_bound_at shop (node ++ c.args.job
    ∷ []) machine)) c.loop-machine.machine shop.machines
    (omega (arith, c.loop-machine-test.false, c.machines-machine-end.ensures.value))
    ∙ c.loop-machine.invariant.none node left is kid lags
