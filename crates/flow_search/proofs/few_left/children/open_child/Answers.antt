use Rattle.std.proofs.Common.{rules, ◌≡◌, ◌∙◌, ◌-◌, ◌<◌, ◌≤◌, [], length, slice_index, slice_index_or, refl, subst, sym}
use Rattle.std.proofs.Common.{arith}
use Rattle.std.proofs.lemmas.List.{length-set}
use Rattle.flow_limits.specs.Limits.{most_machines}
use Rattle.flow_search.proofs.ColumnsPassed.{done-more}
use Rattle.flow_search.specs.internal.Columns.{IsColumnLeft}
use Rattle.flow_search.proofs.ColumnsOpened.{time-within, child-at}
use Rattle.flow_search.proofs.ColumnsOrder.{column-left}
use Rattle.flow_search.proofs.few_left.children.open_child.Goals as goal
use Rattle.flow_search.proofs.few_left.children.open_child.Goals.{Start}

-- the column at the place is left
here : (c : Start) → IsColumnLeft c.args.parent.now (slice_index c.args.parent.now.columns c.args.place)
here c = subst (IsColumnLeft c.args.parent.now) (sym (c.requires.at.1.at.columns c.args.place c.requires.left))
    (column-left c.args.parent.now c.args.place c.requires.left)

pub bounds-parent-column : goal.bounds-parent-column
bounds-parent-column c = (here (goal.at.bounds-parent-column c).Start).within

pub bounds-group-column : goal.bounds-group-column
bounds-group-column c = (here (goal.at.bounds-group-column c).Start).within

pub bounds-made-column : goal.bounds-made-column
bounds-made-column c = (here (goal.at.bounds-made-column c).Start).within

pub loop-row-preserved : goal.loop-row-preserved
loop-row-preserved c =
    let row = c.loop-row.row in
    let column = slice_index c.args.parent.now.columns c.args.place in
    let most : c.args.instance.now.machines ≤ most_machines = c.machines-row-end.ensures.limits.machines in
    let to : row < most_machines = omega (arith, c.loop-row-test.true, c.machines-row-end.ensures.value, most) in
    record {
      front_size = length-set c.loop-row.made.front row _ ∙ c.loop-row.invariant.front_size;
      sum_size = length-set c.loop-row.made.sum row _ ∙ c.loop-row.invariant.sum_size;
      front = done-more (λ k v. v ≡ slice_index (slice_index_or c.args.parent.now.free k []) column)
          c.loop-row.made.front 0 row _ (omega (arith, to, c.loop-row.invariant.front_size)) refl
          c.loop-row.invariant.front;
      sum = done-more (λ k v. v ≡ slice_index c.args.parent.now.sum k
          - slice_index (slice_index_or c.args.group.now.rows k (record { time = []; tail = [] })).time column)
          c.loop-row.made.sum 0 row _ (omega (arith, to, c.loop-row.invariant.sum_size)) refl
          c.loop-row.invariant.sum;
    }

pub overflow_sub-made : goal.overflow_sub-made
overflow_sub-made c =
    let to : c.loop-row.row < c.args.instance.now.machines = omega
    (arith, c.loop-row-test.true, c.machines-row-end.ensures.value) in
    omega (
      arith,
      time-within c.args.instance.now c.requires.at.0 c.args.group.now c.args.parent.now
          (record { time = []; tail = [] }) (slice_index c.args.parent.now.columns c.args.place) c.loop-row.row
          c.requires.at.1.at (here (goal.at.overflow_sub-made c).Start) to,
    )

pub returns-clause-at : goal.returns-clause-at
returns-clause-at c list is =
    let size : length c.args.parent.now.gone ≡ 8 = search rules in
    child-at c.args.instance.now list c.args.group.now c.args.parent.now _ (record { time = []; tail = [] })
    (slice_index c.args.parent.now.columns c.args.place) c.args.place is (here (goal.at.returns-clause-at c).Start)
    c.requires.left (sym (is.at.columns c.args.place c.requires.left))
    (λ k low. c.loop-row.invariant.front k
    (omega (arith, low, c.loop-row-test.false, c.loop-row.auto.row-end, c.machines-row-end.ensures.value)))
    (λ k low. c.loop-row.invariant.sum k
    (omega (arith, low, c.loop-row-test.false, c.loop-row.auto.row-end, c.machines-row-end.ensures.value)))
    refl size c.without_place-made.ensures.before c.without_place-made.ensures.after

pub bounds-made-row : goal.bounds-made-row
bounds-made-row c =
    omega (arith, c.loop-row-test.true, c.machines-row-end.ensures.value, c.machines-row-end.ensures.limits.machines)

pub bounds-parent-row : goal.bounds-parent-row
bounds-parent-row c =
    omega (arith, c.loop-row-test.true, c.machines-row-end.ensures.value, c.machines-row-end.ensures.limits.machines)

pub bounds-group-row : goal.bounds-group-row
bounds-group-row c =
    omega (arith, c.loop-row-test.true, c.machines-row-end.ensures.value, c.machines-row-end.ensures.limits.machines)
