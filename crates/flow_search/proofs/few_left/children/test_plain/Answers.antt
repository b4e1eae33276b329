use Rattle.std.proofs.Common.{rules, ◌≡◌, ℕ, ◌+◌, ◌*◌, ◌<◌, ◌≤◌, max}
use Rattle.std.proofs.Common.{List, [], slice_index, refl, ap, sym, ◌∙◌, subst, inl}
use Rattle.std.proofs.Common.{inr, arith}
use Rattle.std.proofs.lemmas.Bool.{cases_lt}
use Rattle.std.proofs.lemmas.List.{length-set}
use Rattle.flow_limits.specs.Limits.{most_machines, greatest_time, greatest_completion}
use Rattle.flow_shop.specs.Shop.{Shop}
use Rattle.flow_shop.specs.Paths.{completion}
use Rattle.flow_shop.specs.Bound.{bound_at}
use Rattle.flow_search.specs.internal.Columns.{IsColumnLeft, IsFrameOf, IsUnprunedCount, child, job_of}
use Rattle.flow_search.proofs.ColumnsPassed.{all-same, passed-start, passed-more, free-none, free-is, bound-is}
use Rattle.flow_search.proofs.ColumnsPassed.{start-small, behind-small, sum-small, row-small, done-more}
use Rattle.flow_search.proofs.ColumnsOpened.{opened-same}
use Rattle.flow_search.proofs.few_left.children.test_plain.Goals as goal

pub loop-place-init : goal.loop-place-init
loop-place-init c = record {
  front = refl;
  sum = refl;
  gone = refl;
  columns = refl;
  next = refl;
  size = search rules;
  free_small = λ column low. omega (arith, all-same 0 column low);
  unpruned_small = λ column low. omega (arith, all-same 0 column low);
  flags_small = λ column low. omega (arith, all-same 1 column low);
  free = λ list column at here. all-same 0 column here.within ∙ free-none c.args.instance.now list (job_of
      c.args.group.now column);
  passed = λ list column other at here there differ.
      passed-start c.args.instance.now bound_at (child list c.args.group.now column) c.args.value _ _
      (all-same 0 column here.within) (all-same 1 column here.within);
  done_small = λ place column h low. absurd (omega (arith, h));
  done = λ list place column at here h. absurd (omega (arith, h));
}

pub sums-requires : goal.sums-requires
sums-requires c = record {
  fits = λ column low.
      let place : ℕ = c.loop-place.place in
      let to : place < c.args.instance.now.machines = omega (
        arith,
        c.loop-place-test.true,
        c.machines-machines.ensures.value,
      ) in
      let most : c.args.instance.now.machines ≤ most_machines = c.machines-machines.ensures.limits.machines in
      let front : slice_index c.loop-place.frame.front place ≡ slice_index c.args.frame.now.front place = ap
      (λ f. slice_index f place) c.loop-place.invariant.front in
      let start = start-small c.args.instance.now c.requires.0 c.args.group.now c.args.frame.now place
      (slice_index c.loop-place.free column) (slice_index c.at_least-start.result column)
      c.machines-machines.ensures.limits c.requires.1 to (c.loop-place.invariant.free_small column low)
      (c.at_least-start.ensures.each column low ∙ ap (max (slice_index c.loop-place.free column)) front) in
      let behind = behind-small c.args.instance.now c.requires.0 c.args.group.now c.args.frame.now
      (record { time = []; tail = [] }) place column (slice_index c.others-behind.result column) c.greater.result
      c.requires.1 to c.greater.ensures.each (c.others-behind.ensures.each column low) in
      omega (arith, start, behind, to, most);
}

pub sums-free-requires : goal.sums-free-requires
sums-free-requires c = record {
  fits = λ column low.
      let place : ℕ = c.loop-place.place in
      let to : place < c.args.instance.now.machines = omega (
        arith,
        c.loop-place-test.true,
        c.machines-machines.ensures.value,
      ) in
      let most : c.args.instance.now.machines ≤ most_machines = c.machines-machines.ensures.limits.machines in
      let front : slice_index c.loop-place.frame.front place ≡ slice_index c.args.frame.now.front place = ap
      (λ f. slice_index f place) c.loop-place.invariant.front in
      let start = start-small c.args.instance.now c.requires.0 c.args.group.now c.args.frame.now place
      (slice_index c.loop-place.free column) (slice_index c.at_least-start.result column)
      c.machines-machines.ensures.limits c.requires.1 to (c.loop-place.invariant.free_small column low)
      (c.at_least-start.ensures.each column low ∙ ap (max (slice_index c.loop-place.free column)) front) in
      let small = (row-small c.args.instance.now c.requires.0 c.args.group.now c.args.frame.now
      (record { time = []; tail = [] }) place column c.requires.1 to low).time in
      omega (arith, start, small, to, most);
}

pub loop-place-preserved : goal.loop-place-preserved
loop-place-preserved c =
    let shop : Shop = c.args.instance.now in
    let place : ℕ = c.loop-place.place in
    let to : place < shop.machines = omega (arith, c.loop-place-test.true, c.machines-machines.ensures.value) in
    let most : shop.machines ≤ most_machines = c.machines-machines.ensures.limits.machines in
    let front : slice_index c.loop-place.frame.front place ≡ slice_index c.args.frame.now.front place = ap
    (λ f. slice_index f place) c.loop-place.invariant.front in
    let sum : slice_index c.loop-place.frame.sum place ≡ slice_index c.args.frame.now.sum place = ap
    (λ f. slice_index f place) c.loop-place.invariant.sum in
    let start : (column : ℕ) → column < 8 → slice_index c.at_least-start.result column ≡ max
    (slice_index c.loop-place.free column) (slice_index c.args.frame.now.front place) =
    λ column low. c.at_least-start.ensures.each column low ∙ ap (max (slice_index c.loop-place.free column)) front in
    let leaves_small : (column : ℕ) → column < 8 → slice_index c.sums-free.result column
    ≤ greatest_completion + (place + 1) * greatest_time = λ column low.
    let begins = start-small shop c.requires.0 c.args.group.now c.args.frame.now place
    (slice_index c.loop-place.free column) (slice_index c.at_least-start.result column)
    c.machines-machines.ensures.limits c.requires.1 to (c.loop-place.invariant.free_small column low)
    (start column low) in
    let small = (row-small shop c.requires.0 c.args.group.now c.args.frame.now (record { time = []; tail = [] })
    place column c.requires.1 to low).time in
    omega (arith, c.sums-free.ensures.each column low, begins, small) in
    let leaves : (list : List ℕ) (column : ℕ) → IsFrameOf shop list c.args.group.now c.args.frame.now → IsColumnLeft
    c.args.frame.now column → slice_index c.sums-free.result column ≡ completion shop
    (child list c.args.group.now column)
    (place + 1) =
    λ list column at here.
    c.sums-free.ensures.each column here.within
    ∙ free-is shop list c.args.group.now c.args.frame.now (record { time = []; tail = [] }) column place
    (slice_index c.loop-place.free column) (slice_index c.at_least-start.result column) at here to
    (c.loop-place.invariant.free list column at here) (start column here.within) in
    record {
      front = c.loop-place.invariant.front;
      sum = c.loop-place.invariant.sum;
      gone = c.loop-place.invariant.gone;
      columns = c.loop-place.invariant.columns;
      next = c.loop-place.invariant.next;
      size = length-set c.loop-place.frame.free place c.sums-free.result ∙ c.loop-place.invariant.size;
      free_small = leaves_small;
      unpruned_small = λ column low.
          let flag : slice_index c.where_less-flags.result column ≤ 1 = elim
          (cases_lt (slice_index c.sums.result column) c.saturating_sub-room.result) [
            | inl under ↦ omega (
              arith,
              c.where_less-flags.ensures.kept column low under,
              c.loop-place.invariant.flags_small
                  column low,
            )
            | inr over ↦ omega (arith, c.where_less-flags.ensures.cut column low over)
          ] in
          omega (
            arith,
            c.sums-unpruned.ensures.each column low,
            flag,
            c.loop-place.invariant.unpruned_small column low,
          );
      flags_small = λ column low. elim (cases_lt (slice_index c.sums.result column) c.saturating_sub-room.result) [
        | inl under ↦ omega (
          arith,
          c.where_less-flags.ensures.kept column low under,
          c.loop-place.invariant.flags_small column
              low,
        )
        | inr over ↦ omega (arith, c.where_less-flags.ensures.cut column low over)
      ];
      free = leaves;
      passed = λ list column other at here there differ.
          let bound = bound-is shop list c.args.group.now c.args.frame.now (record { time = []; tail = [] }) column
          other place (slice_index c.loop-place.free column) (slice_index c.at_least-start.result column)
          (slice_index c.others-behind.result column) c.greater.result
          at here there differ to (c.loop-place.invariant.free list column at here) (start column here.within)
          c.greater.ensures.each (c.others-behind.ensures.each column here.within) in
          let whole = c.sums.ensures.each column here.within in
          let begins = start-small shop c.requires.0 c.args.group.now c.args.frame.now place
          (slice_index c.loop-place.free column) (slice_index c.at_least-start.result column)
          c.machines-machines.ensures.limits c.requires.1 to (c.loop-place.invariant.free_small column here.within)
          (start column here.within) in
          let after = behind-small shop c.requires.0 c.args.group.now c.args.frame.now
          (record { time = []; tail = [] }) place column (slice_index c.others-behind.result column) c.greater.result
          c.requires.1 to c.greater.ensures.each (c.others-behind.ensures.each column here.within) in
          let load = sum-small shop c.requires.0 c.args.group.now c.args.frame.now place
          c.machines-machines.ensures.limits c.requires.1 to in
          passed-more shop bound_at (child list c.args.group.now column) c.args.value place
          (slice_index c.loop-place.unpruned column) (slice_index c.loop-place.flags column)
          (slice_index c.where_less-flags.result column) (slice_index c.sums-unpruned.result column)
          (c.loop-place.invariant.passed list column other at here there differ)
          (λ under. c.where_less-flags.ensures.kept column here.within
          (omega (
            arith,
            under,
            bound,
            whole,
            sum,
            begins,
            after,
            load,
            to,
            most,
            c.saturating_sub-room.ensures,
            c.min-limit.ensures,
          )))
          (λ over. c.where_less-flags.ensures.cut column here.within
          (omega (arith, over, bound, whole, sum, c.saturating_sub-room.ensures, c.min-limit.ensures)))
          (c.sums-unpruned.ensures.each column here.within);
      done_small = λ there column earlier low.
          done-more (λ k times. slice_index times column ≤ greatest_completion + most_machines * greatest_time)
          c.loop-place.frame.free [] place c.sums-free.result
          (omega (arith, c.loop-place.invariant.size, to, most)) (omega (arith, leaves_small column low, to, most))
          (λ k before. c.loop-place.invariant.done_small k column before low) there earlier;
      done = λ list there column at here low.
          done-more (λ k times. slice_index times column ≡ completion shop (child list c.args.group.now column) (k + 1))
          c.loop-place.frame.free [] place c.sums-free.result
          (omega (arith, c.loop-place.invariant.size, to, most)) (leaves list column at here)
          (λ k earlier. c.loop-place.invariant.done list k column at here earlier) there low;
    }

pub returns-clause-small : goal.returns-clause-small
returns-clause-small c place column to low =
    c.loop-place.invariant.done_small place column
    (omega (arith, to, c.loop-place-test.false, c.loop-place.auto.place-end, c.machines-machines.ensures.value)) low

pub returns-clause-tested : goal.returns-clause-tested
returns-clause-tested c list at =
    let e : c.loop-place.place ≡ c.args.instance.now.machines = omega
    (arith, c.loop-place-test.false, c.loop-place.auto.place-end, c.machines-machines.ensures.value) in
    let back : (k : ℕ) → slice_index c.loop-place.frame.gone k ≡ 0 → slice_index c.args.frame.now.gone k ≡ 0 =
    λ k left. sym (ap (λ g. slice_index g k) c.loop-place.invariant.gone) ∙ left in
    record {
      opened = opened-same c.args.instance.now list c.args.group.now c.args.frame.now _ c.loop-place.invariant.front
          c.loop-place.invariant.sum c.loop-place.invariant.gone c.loop-place.invariant.columns at
          (λ place column left low. c.loop-place.invariant.done list place column at left (omega (arith, low, e)));
      unpruned = λ column other here there differ.
          subst (λ m. IsUnprunedCount c.args.instance.now bound_at (child list c.args.group.now column) c.args.value m
          (slice_index c.loop-place.unpruned column)) e
          (c.loop-place.invariant.passed list column other at
          (record { within = here.within; left = back column here.left })
          (record { within = there.within; left = back other there.left }) differ).is;
    }
