use Rattle.std.proofs.Common.{◌≡◌, ℕ, suc, ◌+◌, ◌-◌, ◌<◌, ◌≤◌, Bool, Ok, Err, Result, List, [], ◌∷◌, ◌++◌, length}
use Rattle.std.proofs.Common.{
  reverse,
  take,
  drop,
  nat_eq,
  slice_index,
  set,
  vec_len,
  refl,
  sym,
  subst,
  ◌∙◌,
  ap,
  arith,
}
use Rattle.std.proofs.Common.{length-append}
use Rattle.std.specs.List.{filter, range_with_len}
use Rattle.std.proofs.lemmas.List.{length-set}
use Rattle.std.proofs.lemmas.Result.{err_from_is_err_and}
use Rattle.flow_shop.specs.Shop.{Shop}
use Rattle.flow_shop.specs.Bound.{bound_of}
use Rattle.flow_search.specs.internal.Nodes.{Gave, Opens, children_walked, incumbent_of}
use Rattle.flow_search.specs.internal.Columns.{IsColumnLeft, IsFrameOf, IsOpened, IsTested, job_of, child}
use Rattle.flow_search.specs.internal.ColumnWalks.{IsInColumns}
use Rattle.flow_search.specs.internal.Columns.{columns_of}
use Rattle.flow_search.specs.internal.ColumnWalks.{column_walked, column_path, frame_at}
use Rattle.flow_search.specs.declared.state.SearchState.{SearchState}
use Rattle.flow_search.specs.declared.few_left.group.ColumnFrame.{ColumnFrame}
use Rattle.flow_search.specs.declared.budget.SearchFault.{SearchFault}
use Rattle.flow_search.specs.declared.budget.SearchFault.TheVariants.{OverBudget}
use Rattle.flow_search.proofs.Nodes.{take-last}
use Rattle.flow_search.proofs.NextChild.{walk-some}
use Rattle.flow_search.proofs.ColumnsOpened.{moved-column, tested-moved}
use Rattle.flow_search.proofs.ColumnsOrder.{columns-count}
use Rattle.flow_search.proofs.ColumnsLeft.{IsStep, IsMoved, column-next, column-none, columns-start}
use Rattle.flow_search.proofs.ColumnsLeft.{columns-walked, columns-over}
use Rattle.flow_search.proofs.ColumnsLeft.{columns-down, columns-up, columns-done, stack-top, stack-same, stack-split}
use Rattle.flow_search.proofs.ColumnsLeft.{stack-down}
use Rattle.flow_search.proofs.few_left.walk.walk_columns.Goals as goal
use Rattle.flow_search.proofs.few_left.walk.walk_columns.Goals.{Then-place-left, After-retest_children, Then-branch}
use Rattle.flow_search.proofs.few_left.walk.walk_columns.Goals.{After-split_at_mut-upper, After-open_child, Else-branch}

pub walk-init : goal.walk-init
walk-init c =
    let below : length c.args.frames.now - 1 ≡ length c.args.frames.now - 1 - 0 = omega arith in
    record {
      deep = c.requires.some;
      size = refl;
      at = subst (λ n. IsInColumns c.args.setting.now.instance.now (bound_of c.args.setting.now.version)
          c.args.setting.now.budget c.args.group.now
          c.args.search.now.node.items
          (children_walked c.args.setting.now.instance.now (bound_of c.args.setting.now.version) (length
          c.args.frames.now - 1) c.args.search.now)
          c.args.search.now
          (frame_at c.args.frames.now 0) n [] c.args.search.now) below
          (columns-start c.args.setting.now.instance.now (bound_of c.args.setting.now.version) c.args.setting.now.budget
          c.args.group.now c.args.search.now
          (frame_at c.args.frames.now 0) (length c.args.frames.now - 1) c.requires.tested c.requires.next
          (omega (arith, c.requires.some, c.requires.count)) c.requires.within);
    }

-- all children are walked
empty : (c : Then-place-left) →
    drop (frame_at c.walk.frames c.walk.depth).next (columns_of (frame_at c.walk.frames c.walk.depth)) ≡ []
empty c =
    let count = columns-count c.args.setting.now.instance.now _ c.args.group.now (frame_at c.walk.frames c.walk.depth)
    c.walk.invariant.at.tested.0.opened.at in
    column-none (frame_at c.walk.frames c.walk.depth) (omega (
      arith,
      count,
      c.walk.invariant.at.count,
      c.walk.invariant.deep,
      c.walk.invariant.size,
      c.if-place-left.true,
    ))

pub returns-then-depth-eq0-clause-done : goal.returns-then-depth-eq0-clause-done
returns-then-depth-eq0-clause-done c =
    columns-done c.walk.invariant.at (empty (goal.at.returns-then-depth-eq0-clause-done c).Then-place-left)
    (ap (λ n. reverse (take n c.walk.frames)) c.if-depth-eq0.true) refl

pub walk-preserved-then-place-left : goal.walk-preserved-then-place-left
walk-preserved-then-place-left c =
    let shop : Shop = c.args.setting.now.instance.now in
    let root : List ℕ = c.args.search.now.node.items in
    let depth : ℕ = c.walk.depth in
    let f : ColumnFrame = frame_at c.walk.frames (depth - 1) in
    let gs : List ColumnFrame = reverse (take (depth - 1) c.walk.frames) in
    let some : 1 ≤ depth = omega (arith, c.if-depth-eq0.false) in
    let top : reverse (take depth c.walk.frames) ≡ f ∷ gs =
    stack-top c.walk.frames depth some (omega (arith, c.walk.invariant.deep)) in
    let node : c.walk.search.node.items ≡ column_path root c.args.group.now gs ++ job_of c.args.group.now
    (slice_index f.columns (f.next - 1))
    ∷ [] = c.walk.invariant.at.node ∙ ap (column_path root c.args.group.now) top in
    let new : SearchState = record {
      node = c.pop.new.self;
      unscheduled = c.walk.search.unscheduled;
      value = c.walk.search.value;
      improved = c.walk.search.improved;
      best = c.walk.search.best;
      tree = c.walk.search.tree;
    } in
    let moved : IsMoved (column_path root c.args.group.now gs) c.walk.search new = record {
      node = c.pop.ensures.rest ∙ take-last (vec_len c.walk.search.node) c.walk.search.node.items
          (column_path root c.args.group.now gs) (job_of c.args.group.now (slice_index f.columns (f.next - 1))) node
          c.walk.search.node.ok.0;
      incumbent = refl;
      tree = refl;
      unscheduled = refl;
    } in
    let below : suc (length c.args.frames.now - 1 - depth) ≡ length c.args.frames.now - 1 - (depth - 1) =
    omega (arith, some, c.walk.invariant.deep, c.walk.invariant.size) in
    record {
      deep = omega (arith, c.walk.invariant.deep);
      size = c.walk.invariant.size;
      at = subst (λ n. IsInColumns shop (bound_of c.args.setting.now.version) c.args.setting.now.budget c.args.group.now
          root
          (children_walked shop (bound_of c.args.setting.now.version) (length c.args.frames.now - 1)
          c.args.search.now) c.args.search.now f n gs new) below
          (columns-up c.walk.invariant.at f gs new
          (empty (goal.at.walk-preserved-then-place-left c).Then-place-left) top moved);
    }

-- the column of the next child
abbrev column_of : ColumnFrame → ℕ
column_of frame = slice_index frame.columns frame.next

-- the frame after the child in the column
abbrev later : After-retest_children → ColumnFrame
later c = moved-column c.retest_children.new.frame ((frame_at c.walk.frames c.walk.depth).next + 1)

-- its node
abbrev node_of : After-retest_children → List ℕ
node_of c = column_path c.args.search.now.node.items c.args.group.now (reverse (take c.walk.depth c.walk.frames))

-- what is known of it
record IsLater (c : After-retest_children) : Type 0 where
  pub step : IsStep (frame_at c.walk.frames c.walk.depth) (later c) (column_of (frame_at c.walk.frames c.walk.depth))
  pub tested : IsTested c.args.setting.now.instance.now (bound_of c.args.setting.now.version) (node_of c)
      c.args.group.now (later c)
  pub left : IsColumnLeft (later c) (column_of (frame_at c.walk.frames c.walk.depth))
  pub low : (frame_at c.walk.frames c.walk.depth).next < length (columns_of (later c))

is-later : (c : After-retest_children) → IsLater c
is-later c =
    let at = c.walk.invariant.at.tested.0.opened.at in
    let frame = frame_at c.walk.frames c.walk.depth in
    let count = columns-count c.args.setting.now.instance.now _ c.args.group.now frame at in
    let low : frame.next < length (columns_of frame) = omega (
      arith,
      count,
      c.walk.invariant.at.count,
      c.walk.invariant.deep,
      c.walk.invariant.size,
      c.if-place-left.false,
    ) in
    let is = column-next c.args.setting.now.instance.now _ c.args.group.now frame at low in
    let back : frame.next + 1 - 1 ≡ frame.next = omega arith in
    record {
      step = record {
        is = is.0;
        gone = c.retest_children.ensures.kept.gone;
        next = refl;
        place = ap (λ columns. slice_index columns (frame.next + 1 - 1)) c.retest_children.ensures.kept.columns
            ∙ ap (slice_index frame.columns) back;
      };
      tested = tested-moved c.args.setting.now.instance.now (bound_of c.args.setting.now.version) (node_of c)
          c.args.group.now c.retest_children.new.frame
          (frame.next + 1) (c.retest_children.ensures.tested (node_of c) c.walk.invariant.at.tested.0);
      left = record {
        within = is.1.within;
        left = ap (λ gone. slice_index gone (column_of frame)) c.retest_children.ensures.kept.gone ∙ is.1.left;
      };
      low = subst (λ n. frame.next < n) (ap (λ gone. length (filter (λ k. nat_eq (slice_index gone k) 0)
          (range_with_len 0 8))) (sym c.retest_children.ensures.kept.gone)) low;
    }

pub visit_column-requires-clause-tested : goal.visit_column-requires-clause-tested
visit_column-requires-clause-tested c =
    let at = (goal.at.visit_column-requires-clause-tested c).After-retest_children in
    subst (λ list. IsTested c.args.setting.now.instance.now (bound_of c.args.setting.now.version) list
    c.args.group.now (later at))
    (sym c.walk.invariant.at.node)
    (is-later at).tested

pub visit_column-requires-clause-left : goal.visit_column-requires-clause-left
visit_column-requires-clause-left c =
    (is-later (goal.at.visit_column-requires-clause-left c).After-retest_children).left

pub returns-in_err-visit_column-clause-over : goal.returns-in_err-visit_column-clause-over
returns-in_err-visit_column-clause-over c e =
    let at = (goal.at.returns-in_err-visit_column-clause-over c).After-retest_children in
    let p = err_from_is_err_and c.from_residual.result c.from_residual.ensures.1 in
    let put : SearchFault → Result (Unit {0}) SearchFault = λ stop. Err stop in
    let put_bool : SearchFault → Result Bool SearchFault = λ stop. Err stop in
    let was : p.0 ≡ OverBudget = let r : put p.0 ≡ put OverBudget = sym p.1 ∙ e in cc in
    let same : put_bool c.in_err-visit_column.field-0.0 ≡ put_bool OverBudget = ap put_bool (sym p.2 ∙ was) in
    columns-over c.walk.invariant.at (column_of (frame_at c.walk.frames c.walk.depth)) (later at) (is-later at).step
    (c.in_err-visit_column.ensures.over same)

-- the frame of the node, once the frames are split below it
parent : (c : After-split_at_mut-upper) →
    frame_at c.split_at_mut-upper.result.0.now c.walk.depth
    ≡ moved-column c.retest_children.new.frame ((frame_at c.walk.frames c.walk.depth).next + 1)
parent c =
    stack-split c.walk.frames c.split_at_mut-upper.result.0.now c.walk.depth
    (moved-column c.retest_children.new.frame ((frame_at c.walk.frames c.walk.depth).next + 1)) c.walk.invariant.deep
    c.split_at_mut-upper.ensures.front

pub open_child-requires-clause-at : goal.open_child-requires-clause-at
open_child-requires-clause-at c =
    let at = (goal.at.open_child-requires-clause-at c).After-retest_children in (
      node_of at,
      subst (IsOpened c.args.setting.now.instance.now (node_of at) c.args.group.now)
          (sym (parent (goal.at.open_child-requires-clause-at c).After-split_at_mut-upper)) (is-later at).tested.opened,
    )

pub open_child-requires-clause-left : goal.open_child-requires-clause-left
open_child-requires-clause-left c =
    subst (λ frame. (frame_at c.walk.frames c.walk.depth).next < length (columns_of frame))
    (sym (parent (goal.at.open_child-requires-clause-left c).After-split_at_mut-upper))
    (is-later (goal.at.open_child-requires-clause-left c).After-retest_children).low

-- the node of the child
child-at : (c : After-open_child) (list : List ℕ) →
    IsTested c.args.setting.now.instance.now (bound_of c.args.setting.now.version) list c.args.group.now
    (moved-column c.retest_children.new.frame ((frame_at c.walk.frames c.walk.depth).next + 1)) →
    IsFrameOf c.args.setting.now.instance.now (child list c.args.group.now
    (column_of (frame_at c.walk.frames c.walk.depth)))
    c.args.group.now c.open_child.new.made
child-at c list tested =
    let frame = frame_at c.walk.frames c.walk.depth in
    let parent = stack-split c.walk.frames c.split_at_mut-upper.result.0.now c.walk.depth
    (moved-column c.retest_children.new.frame (frame.next + 1)) c.walk.invariant.deep
    c.split_at_mut-upper.ensures.front in
    subst (λ column. IsFrameOf c.args.setting.now.instance.now (child list c.args.group.now column) c.args.group.now
    c.open_child.new.made)
    (ap (λ f. slice_index f.columns frame.next) parent
    ∙ ap (λ columns. slice_index columns frame.next) c.retest_children.ensures.kept.columns)
    (c.open_child.ensures.at list
    (subst (IsOpened c.args.setting.now.instance.now list c.args.group.now) (sym parent) tested.opened))

pub test_children-requires : goal.test_children-requires
test_children-requires c =
    let at = (goal.at.test_children-requires c).After-retest_children in (
      child (node_of at) c.args.group.now (column_of (frame_at c.walk.frames c.walk.depth)),
      child-at (goal.at.test_children-requires c).After-open_child (node_of at) (is-later at).tested,
    )

-- the plus that was written
opens : (c : Then-branch) →
    Opens c.args.setting.now.instance.now (bound_of c.args.setting.now.version) c.args.setting.now.budget
    (job_of c.args.group.now (column_of (frame_at c.walk.frames c.walk.depth))) c.walk.search
    c.visit_column.new.search × (1 ≤ length c.args.frames.now - 1 - c.walk.depth)
opens c =
    let put : Bool → Result Bool SearchFault = λ b. Ok b in
    let true_is = ap put c.if-branch.true in
    (c.in_ok-visit_column.ensures.opens true_is, c.in_ok-visit_column.ensures.more true_is)

pub walk-smaller-then-branch : goal.walk-smaller-then-branch
walk-smaller-then-branch c =
    let wrote = (opens (goal.at.walk-smaller-then-branch c).Then-branch).0.wrote in
    omega (arith, ap length wrote.tree, wrote.within, length-append c.walk.search.tree.items (43 ∷ []))

pub walk-preserved-then-branch : goal.walk-preserved-then-branch
walk-preserved-then-branch c =
    let shop : Shop = c.args.setting.now.instance.now in
    let root : List ℕ = c.args.search.now.node.items in
    let depth : ℕ = c.walk.depth in
    let at = (goal.at.walk-preserved-then-branch c).After-retest_children in
    let is = is-later at in
    let plus = opens (goal.at.walk-preserved-then-branch c).Then-branch in
    let above : List ColumnFrame = c.split_at_mut-upper.result.0.now in
    let below : List ColumnFrame = c.split_at_mut-upper.result.1.now in
    let made : ColumnFrame = c.test_children.new.frame in
    let size = length-set c.walk.frames depth (later at) in
    let some : 1 ≤ length below =
    omega (arith, plus.1, c.split_at_mut-upper.ensures.back_len, size, c.walk.invariant.size) in
    let down = stack-down c.walk.frames above below depth (later at) made c.walk.invariant.deep
    c.split_at_mut-upper.ensures.front c.split_at_mut-upper.ensures.front_len some in
    let sizes : length (above ++ set below 0 made) ≡ length c.args.frames.now =
    omega (
      arith,
      length-append above (set below 0 made),
      length-set below 0 made,
      c.split_at_mut-upper.ensures.front_len,
      c.split_at_mut-upper.ensures.back_len,
      size,
      c.walk.invariant.size,
    ) in
    let new : SearchState = record {
      node = c.push.new.self;
      unscheduled = c.visit_column.new.search.unscheduled;
      value = c.visit_column.new.search.value;
      improved = c.visit_column.new.search.improved;
      best = c.visit_column.new.search.best;
      tree = c.visit_column.new.search.tree;
    } in
    let moved : IsMoved (c.visit_column.new.search.node.items ++ job_of c.args.group.now
    (column_of (frame_at c.walk.frames c.walk.depth)) ∷ [])
    c.visit_column.new.search new =
    record { node = c.in_ok-push.ensures.items; incumbent = refl; tree = refl; unscheduled = refl } in
    let tested = c.test_children.ensures.tested (child (node_of at) c.args.group.now
    (column_of (frame_at c.walk.frames c.walk.depth)))
    (child-at (goal.at.walk-preserved-then-branch c).After-open_child (node_of at) is.tested) in
    let less : length c.args.frames.now - 1 - depth - 1 ≡ length c.args.frames.now - 1 - (depth + 1) = omega arith in
    let walking : ColumnFrame → ℕ → List ColumnFrame → Type 0 =
    λ frame n frames. IsInColumns shop (bound_of c.args.setting.now.version) c.args.setting.now.budget c.args.group.now
    root
    (children_walked shop (bound_of c.args.setting.now.version) (length c.args.frames.now - 1) c.args.search.now)
    c.args.search.now frame n frames new in
    record {
      deep = omega (arith, sizes, plus.1);
      size = sizes;
      at = subst (λ frame. walking frame (length c.args.frames.now - 1 - (depth + 1))
          (reverse (take (depth + 1) (above ++ set below 0 made)))) (sym down.0)
          (subst (λ frames. walking made (length c.args.frames.now - 1 - (depth + 1)) frames) (sym down.1)
          (subst (λ n. walking made n (later at ∷ reverse (take depth c.walk.frames))) less
          (columns-down c.walk.invariant.at (column_of (frame_at c.walk.frames c.walk.depth)) (later at) made
          c.visit_column.new.search new is.step is.tested
          plus.1 plus.0 moved tested (c.test_children.ensures.kept.next ∙ c.open_child.ensures.next))));
    }

-- the child's subtree that was walked
whole : (c : Else-branch) →
    Gave c.args.setting.now.budget (column_walked c.args.setting.now.instance.now (bound_of c.args.setting.now.version)
    (length c.args.frames.now - 1 - c.walk.depth) c.args.group.now
    (column_of (frame_at c.walk.frames c.walk.depth)) c.walk.search) c.walk.search c.visit_column.new.search
whole c = let put : Bool → Result Bool SearchFault = λ b. Ok b in c.in_ok-visit_column.ensures.whole
    (ap put c.if-branch.false)

pub walk-smaller : goal.walk-smaller
walk-smaller c =
    let g = whole c in
    let text : List ℕ = (column_walked c.args.setting.now.instance.now (bound_of c.args.setting.now.version) (length
    c.args.frames.now - 1 - c.walk.depth)
    c.args.group.now (column_of (frame_at c.walk.frames c.walk.depth)) c.walk.search).0 in
    let some : 1 ≤ length text =
    walk-some c.args.setting.now.instance.now (bound_of c.args.setting.now.version) (length c.args.frames.now - 1 -
    c.walk.depth)
    (child c.walk.search.node.items c.args.group.now (column_of (frame_at c.walk.frames c.walk.depth)))
    (incumbent_of c.walk.search) in
    let tree : length c.visit_column.new.search.tree.items ≡ length (c.walk.search.tree.items ++ text) =
    ap length g.tree in
    omega (arith, some, tree, g.within, length-append c.walk.search.tree.items text)

pub walk-preserved : goal.walk-preserved
walk-preserved c =
    let at = (goal.at.walk-preserved c).After-retest_children in
    let is = is-later at in
    let same = stack-same c.walk.frames c.walk.depth (later at) c.walk.invariant.deep in
    let size = length-set c.walk.frames c.walk.depth (later at) in
    record {
      deep = omega (arith, size, c.walk.invariant.deep);
      size = size ∙ c.walk.invariant.size;
      at = subst (λ frame. IsInColumns c.args.setting.now.instance.now (bound_of c.args.setting.now.version)
          c.args.setting.now.budget c.args.group.now
          c.args.search.now.node.items
          (children_walked c.args.setting.now.instance.now (bound_of c.args.setting.now.version) (length
          c.args.frames.now - 1) c.args.search.now)
          c.args.search.now
          frame (length c.args.frames.now - 1 - c.walk.depth)
          (reverse (take c.walk.depth (set c.walk.frames c.walk.depth (later at)))) c.visit_column.new.search)
          (sym same.0)
          (subst (λ frames. IsInColumns c.args.setting.now.instance.now (bound_of c.args.setting.now.version)
          c.args.setting.now.budget c.args.group.now
          c.args.search.now.node.items
          (children_walked c.args.setting.now.instance.now (bound_of c.args.setting.now.version) (length
          c.args.frames.now - 1) c.args.search.now)
          c.args.search.now
          (later at) (length c.args.frames.now - 1 - c.walk.depth) frames c.visit_column.new.search) (sym same.1)
          (columns-walked c.walk.invariant.at (column_of (frame_at c.walk.frames c.walk.depth)) (later at)
          c.visit_column.new.search is.step is.tested
          (whole c)));
    }

pub retest_children-requires : goal.retest_children-requires
retest_children-requires c = (_, c.walk.invariant.at.tested.0)

pub bounds-group-column : goal.bounds-group-column
bounds-group-column c = (is-later (goal.at.bounds-group-column c).After-retest_children).left.within
