-- The walk of a root's children in the columns, with a stack of frames, is the walk of the definition.
use Rattle.std.proofs.Common.{◌≡◌, ℕ, suc, ◌+◌, ◌-◌, ◌<◌, ◌≤◌, nat_eq, nat_le, List, [], ◌∷◌, ◌++◌, None, length, map}
use Rattle.std.proofs.Common.{reverse, take, drop, slice_index, set, refl, ap, sym, ◌∙◌, subst, arith, append_assoc}
use Rattle.std.proofs.Common.{length-append}
use Rattle.std.specs.List.{filter, find, range_with_len}
use Rattle.std.proofs.lemmas.List.{append-nil, take_more, take_more_set, take-set, take-append-le, get_or-take}
use Rattle.std.proofs.lemmas.List.{get_or-set_same, get_or-append_right}
use Rattle.std.proofs.Math.ListN.{drop_of_length-le}
use Rattle.std.proofs.Math.Seq.{drop-cons, take-length}
use Rattle.flow_shop.specs.Shop.{Shop, numbers}
use Rattle.flow_shop.specs.Sequences.{jobs_left}
use Rattle.flow_shop.specs.Bound.{Bound}
use Rattle.flow_search.specs.internal.Walk.{Walk, Incumbent, walk, walk_each}
use Rattle.flow_search.specs.internal.Nodes.{Gave, Opens, children_walked, incumbent_of, then_walk}
use Rattle.flow_search.specs.internal.Columns.{IsFrameOf, IsColumnLeft, IsTested, job_of, child}
use Rattle.flow_search.specs.internal.ColumnWalks.{IsInColumns, AreTested}
use Rattle.flow_search.specs.internal.Columns.{columns_of}
use Rattle.flow_search.specs.internal.ColumnWalks.{column_walked, columns_walked, column_path, columns_left, frame_at}
use Rattle.flow_search.specs.declared.state.SearchState.{SearchState}
use Rattle.flow_search.specs.declared.few_left.group.Group.{Group}
use Rattle.flow_search.specs.declared.few_left.group.ColumnFrame.{ColumnFrame}
use Rattle.flow_search.proofs.Walk.{answer_of}
use Rattle.flow_search.proofs.NextChild.{then-assoc, longer-part}
use Rattle.flow_shop.proofs.Lists.{reverse-push}
use Rattle.flow_search.proofs.ColumnsOrder.{columns-are-jobs, column-left}

-- a column before the next, and the frame after its child
pub record IsStep (here later : ColumnFrame) (column : ℕ) : Type 0 where
  pub is : drop here.next (columns_of here) ≡ column ∷ drop (here.next + 1) (columns_of here)
  pub gone : later.gone ≡ here.gone
  pub next : later.next ≡ here.next + 1
  pub place : slice_index later.columns (later.next - 1) ≡ column

-- the next column whose job is left
pub column-next : (shop : Shop) (list : List ℕ) (group : Group) (frame : ColumnFrame) →
    IsFrameOf shop list group frame → frame.next < length (columns_of frame) →
    (drop frame.next (columns_of frame)
    ≡ slice_index frame.columns frame.next ∷ drop (frame.next + 1) (columns_of frame))
    × IsColumnLeft frame (slice_index frame.columns frame.next)
column-next shop list group frame at low =
    let place : slice_index frame.columns frame.next ≡ slice_index (columns_of frame) frame.next =
    at.columns frame.next low in
    let e : suc frame.next ≡ frame.next + 1 = omega arith in (
      drop-cons (columns_of frame) frame.next 0 low
          ∙ ap (λ n. slice_index (columns_of frame) frame.next ∷ drop n (columns_of frame)) e
          ∙ ap (λ column. column ∷ drop (frame.next + 1) (columns_of frame)) (sym place),
      subst (IsColumnLeft frame) (sym place) (column-left frame frame.next low),
    )

pub column-none : (frame : ColumnFrame) → length (columns_of frame) ≤ frame.next →
    drop frame.next (columns_of frame) ≡ []
column-none frame high = drop_of_length-le (columns_of frame) high

left-next : (shop : Shop) (bound : Bound) (root : List ℕ) (group : Group) (below column : ℕ) (here later : ColumnFrame)
    (fs : List ColumnFrame) (st : Incumbent) → IsStep here later column →
    columns_left shop bound root group below (here ∷ fs) st
    ≡ then_walk (walk shop bound below (child (column_path root group fs) group column) st)
    (columns_left shop bound root group below (later ∷ fs))
left-next shop bound root group below column here later fs st step =
    let w : ℕ → Incumbent → Walk = λ k. walk shop bound below (child (column_path root group fs) group k) in
    let more : Incumbent → Walk = columns_left shop bound root group (suc below) fs in
    let after : drop (here.next + 1) (columns_of here) ≡ drop later.next (columns_of later) =
    sym (ap (λ n. drop n (columns_of later)) step.next
    ∙ ap (λ gone. drop (here.next + 1) (filter (λ k. nat_eq (slice_index gone k) 0)
    (range_with_len 0 8))) step.gone) in
    ap (λ ls. then_walk (walk_each w ls st) more) (step.is ∙ ap (λ ls. column ∷ ls) after)
    ∙ then-assoc (w column st) (walk_each w (drop later.next (columns_of later))) more

left-none : (shop : Shop) (bound : Bound) (root : List ℕ) (group : Group) (below : ℕ) (here : ColumnFrame) (fs : List
    ColumnFrame)
    (st : Incumbent) → drop here.next (columns_of here) ≡ [] →
    columns_left shop bound root group below (here ∷ fs) st ≡ columns_left shop bound root group (suc below) fs st
left-none shop bound root group below here fs st e =
    ap (λ ls. then_walk (walk_each (λ k. walk shop bound below (child (column_path root group fs) group k)) ls st)
    (columns_left shop bound root group (suc below) fs)) e

-- all children in the columns are the node's children
each-column : (f : ℕ → Incumbent → Walk) (g : ℕ → ℕ) (columns : List ℕ) (st : Incumbent) →
    walk_each (λ column. f (g column)) columns st ≡ walk_each f (map g columns) st
each-column f g [] st = refl
each-column f g (column ∷ columns) st =
    ap (λ rest. ((f (g column) st).0 ++ rest.0, rest.1)) (each-column f g columns (f (g column) st).1)

columns-whole : (shop : Shop) (bound : Bound) (left : ℕ) (list : List ℕ) (group : Group) (frame : ColumnFrame)
    (next : ℕ)
    (st : Incumbent) → IsFrameOf shop list group frame → next ≡ 0 →
    columns_walked shop bound left list group (drop next (columns_of frame)) st
    ≡ walk_each (λ job. walk shop bound left (list ++ job ∷ [])) (jobs_left shop.jobs list) st
columns-whole shop bound left list group frame next st at first =
    ap (λ k. columns_walked shop bound left list group (drop k (columns_of frame)) st) first
    ∙ each-column (λ job. walk shop bound left (list ++ job ∷ [])) (job_of group) (columns_of frame) st
    ∙ ap (λ jobs. walk_each (λ job. walk shop bound left (list ++ job ∷ [])) jobs st)
    (columns-are-jobs shop list group frame at)

-- only the list of the node differs
pub record IsMoved (jobs : List ℕ) (old new : SearchState) : Type 0 where
  pub node : new.node.items ≡ jobs
  pub incumbent : incumbent_of new ≡ incumbent_of old
  pub tree : new.tree.items ≡ old.tree.items
  pub unscheduled : new.unscheduled ≡ old.unscheduled

-- the walk before its first child
pub columns-start : (shop : Shop) (bound : Bound) (budget : ℕ) (group : Group) (old : SearchState)
    (here : ColumnFrame) (below
    : ℕ) →
    IsTested shop bound old.node.items group here → here.next ≡ 0 →
    length old.node.items + suc below ≡ shop.jobs → length old.tree.items ≤ budget →
    IsInColumns shop bound budget group old.node.items (children_walked shop bound below old) old here below [] old
columns-start shop bound budget group old here below tested next count within =
    let root : List ℕ = old.node.items in
    let st : Incumbent = incumbent_of old in
    let all = columns-whole shop bound below root group here here.next st tested.opened.at next in
    record {
      node = refl;
      count = count;
      tested = (tested, tt);
      text =
          ap (λ t. old.tree.items ++ t) (append-nil (columns_walked shop bound below root group
          (drop here.next (columns_of here)) st).0)
          ∙ ap (λ w. old.tree.items ++ w.0) all;
      state = ap (λ w. w.1) all;
      unscheduled = refl;
      within = within;
    }

module _ {shop : Shop} {bound : Bound} {budget : ℕ} {group : Group} {root : List ℕ} {whole : List ℕ × Incumbent} {old
    : SearchState}
    {here : ColumnFrame} {below : ℕ} {fs : List ColumnFrame} {now : SearchState}
    (i : IsInColumns shop bound budget group root whole old here below fs now) where
  -- a child's subtree was walked
  pub columns-walked : (column : ℕ) (later : ColumnFrame) (new : SearchState) → IsStep here later column →
      IsTested shop bound (column_path root group fs) group later → Gave budget
      (column_walked shop bound below group column now) now new →
      IsInColumns shop bound budget group root whole old later below fs new
  columns-walked column later new step tested gave =
      let st : Incumbent = incumbent_of now in
      let first : Walk = walk shop bound below (child (column_path root group fs) group column) st in
      let first_is : column_walked shop bound below group column now ≡ first =
      ap (λ q. walk shop bound below (child q group column) st) i.node in
      let rest : Incumbent → Walk = columns_left shop bound root group below (later ∷ fs) in
      let all : columns_left shop bound root group below (here ∷ fs) st ≡ then_walk first rest =
      left-next shop bound root group below column here later fs st step in
      let after : incumbent_of new ≡ first.1 = gave.incumbent ∙ ap (λ w. w.1) first_is in
      let tree : new.tree.items ≡ now.tree.items ++ first.0 = gave.tree ∙ ap (λ w. now.tree.items ++ w.0) first_is in
      record {
        node = gave.node ∙ i.node;
        count = i.count;
        tested = (tested, i.tested.1);
        text =
            ap (λ s. new.tree.items ++ (rest s).0) after
            ∙ ap (λ t. t ++ (rest first.1).0) tree
            ∙ append_assoc now.tree.items first.0 (rest first.1).0
            ∙ ap (λ w. now.tree.items ++ w.0) (sym all)
            ∙ i.text;
        state = ap (λ s. (rest s).1) after ∙ ap (λ w. w.1) (sym all) ∙ i.state;
        unscheduled = gave.unscheduled ∙ i.unscheduled;
        within = gave.within;
      }

  -- a child's text is longer than the budget
  pub columns-over : (column : ℕ) (later : ColumnFrame) → IsStep here later column →
      budget < length now.tree.items + length (column_walked shop bound below group column now).0 →
      budget < length old.tree.items + length whole.0
  columns-over column later step over =
      let st : Incumbent = incumbent_of now in
      let first : Walk = walk shop bound below (child (column_path root group fs) group column) st in
      let rest : Walk = columns_left shop bound root group below (later ∷ fs) first.1 in
      let first_is : column_walked shop bound below group column now ≡ first =
      ap (λ q. walk shop bound below (child q group column) st) i.node in
      let all : now.tree.items ++ (first.0 ++ rest.0) ≡ old.tree.items ++ whole.0 =
      ap (λ w. now.tree.items ++ w.0) (sym (left-next shop bound root group below column here later fs st step)) ∙
      i.text in
      longer-part budget now.tree.items first.0 rest.0 old.tree.items whole.0
      (subst (λ w. budget < length now.tree.items + length w.0) first_is over) all

  -- the plus of a child is written, and its node entered
  pub columns-down : (column : ℕ) (later made : ColumnFrame) (mid new : SearchState) → IsStep here later column →
      IsTested shop bound (column_path root group fs) group later → 1 ≤ below →
      Opens shop bound budget (job_of group column) now mid → IsMoved (mid.node.items ++ job_of group column ∷ []) mid
      new →
      IsTested shop bound (child (column_path root group fs) group column) group made → made.next ≡ 0 →
      IsInColumns shop bound budget group root whole old made (below - 1) (later ∷ fs) new
  columns-down column later made mid new step tested some opens moved made_is first_column =
      let st : Incumbent = incumbent_of now in
      let more : below ≡ suc (below - 1) = omega (arith, some) in
      let left : ℕ = below - 1 in
      let node : List ℕ = child (column_path root group fs) group column in
      let path_is : column_path root group (later ∷ fs) ≡ node =
      ap (child (column_path root group fs) group) step.place in
      let node_is : new.node.items ≡ node =
      moved.node ∙ ap (λ q. child q group column) (opens.wrote.node ∙ i.node) in
      let st_is : incumbent_of new ≡ st = moved.incumbent ∙ opens.wrote.incumbent in
      let made_at : IsTested shop bound (column_path root group (later ∷ fs)) group made =
      subst (λ q. IsTested shop bound q group made) (sym path_is) made_is in
      let first : Walk = walk shop bound below node st in
      let deeper : Incumbent → Walk = λ s. columns_walked shop bound left (column_path root group (later ∷ fs)) group
      (drop made.next (columns_of made)) s in
      let rest : Incumbent → Walk = columns_left shop bound root group below (later ∷ fs) in
      let unpruned : find (λ machine. nat_le st.0 (bound shop node machine)) (numbers 1 shop.machines) ≡ None =
      ap (λ q. find (λ machine. nat_le st.0 (bound shop (child q group column) machine)) (numbers 1 shop.machines))
      (sym i.node) ∙ opens.unpruned in
      let children : List ℕ → Walk =
      λ q. walk_each (λ job. walk shop bound left (q ++ job ∷ [])) (jobs_left shop.jobs q) st in
      let below_is : deeper st ≡ children node =
      columns-whole shop bound left (column_path root group (later ∷ fs)) group made made.next st made_at.opened.at
      first_column
      ∙ ap children path_is in
      let first_is : first ≡ (43 ∷ (deeper st).0, (deeper st).1) =
      ap (λ n. walk shop bound n node st) more
      ∙ ap (answer_of st (children node)) unpruned
      ∙ ap (λ w. (43 ∷ w.0, w.1)) (sym below_is) in
      let all : columns_left shop bound root group below (here ∷ fs) st ≡ then_walk first rest =
      left-next shop bound root group below column here later fs st step in
      let tree : new.tree.items ≡ now.tree.items ++ 43 ∷ [] = moved.tree ∙ opens.wrote.tree in
      let made_rest : Incumbent → Walk = columns_left shop bound root group left (made ∷ later ∷ fs) in
      let made_rest_is : made_rest st ≡ then_walk (deeper st) rest =
      ap (λ n. then_walk (deeper st) (columns_left shop bound root group n (later ∷ fs))) (sym more) in
      let whole_is : columns_left shop bound root group below (here ∷ fs) st ≡
      (43 ∷ (made_rest st).0, (made_rest st).1) =
      all ∙ ap (λ f. then_walk f rest) first_is ∙ ap (λ r. (43 ∷ r.0, r.1)) (sym made_rest_is) in
      record {
        node = node_is ∙ sym path_is;
        count = omega (
          arith,
          ap length path_is,
          length-append (column_path root group fs) (job_of group column ∷ []),
          i.count,
          some,
        );
        tested = (made_at, (tested, i.tested.1));
        text =
            ap (λ s. new.tree.items ++ (made_rest s).0) st_is
            ∙ ap (λ t. t ++ (made_rest st).0) tree
            ∙ append_assoc now.tree.items (43 ∷ []) (made_rest st).0
            ∙ ap (λ w. now.tree.items ++ w.0) (sym whole_is)
            ∙ i.text;
        state = ap (λ s. (made_rest s).1) st_is ∙ ap (λ w. w.1) (sym whole_is) ∙ i.state;
        unscheduled = moved.unscheduled ∙ opens.wrote.unscheduled ∙ i.unscheduled;
        within = subst (λ t. length t ≤ budget) (sym moved.tree) opens.wrote.within;
      }

  -- no child is left: back at the node above
  pub columns-up : (f : ColumnFrame) (gs : List ColumnFrame) (new : SearchState) →
      drop here.next (columns_of here) ≡ [] →
      fs ≡ f ∷ gs → IsMoved (column_path root group gs) now new →
      IsInColumns shop bound budget group root whole old f (suc below) gs new
  columns-up f gs new empty e moved =
      let st : Incumbent = incumbent_of now in
      let same : columns_left shop bound root group below (here ∷ fs) st ≡ columns_left shop bound root group
      (suc below)
      (f ∷ gs) st =
      left-none shop bound root group below here fs st empty ∙ ap (λ xs. columns_left shop bound root group (suc below)
      xs st) e in
      record {
        node = moved.node;
        count = omega (
          arith,
          ap (λ xs. length (column_path root group xs)) e,
          length-append (column_path root group gs) (job_of group (slice_index f.columns (f.next - 1)) ∷ []),
          i.count,
        );
        tested = subst (AreTested shop bound root group) e i.tested.1;
        text =
            ap (λ s. new.tree.items ++ (columns_left shop bound root group (suc below) (f ∷ gs) s).0) moved.incumbent
            ∙ ap (λ t. t ++ (columns_left shop bound root group (suc below) (f ∷ gs) st).0) moved.tree
            ∙ ap (λ w. now.tree.items ++ w.0) (sym same)
            ∙ i.text;
        state =
            ap (λ s. (columns_left shop bound root group (suc below) (f ∷ gs) s).1) moved.incumbent
            ∙ ap (λ w. w.1) (sym same) ∙ i.state;
        unscheduled = moved.unscheduled ∙ i.unscheduled;
        within = subst (λ t. length t ≤ budget) (sym moved.tree) i.within;
      }

  -- no child is left, of the root
  pub columns-done : drop here.next (columns_of here) ≡ [] → fs ≡ [] → root ≡ old.node.items → Gave budget whole old now
  columns-done empty e root_is =
      let st : Incumbent = incumbent_of now in
      let same : columns_left shop bound root group below (here ∷ fs) st ≡ ([], st) =
      left-none shop bound root group below here fs st empty ∙ ap (λ xs. columns_left shop bound root group (suc below)
      xs st) e in
      record {
        tree = sym (append-nil now.tree.items) ∙ ap (λ w. now.tree.items ++ w.0) (sym same) ∙ i.text;
        incumbent = ap (λ w. w.1) (sym same) ∙ i.state;
        node = i.node ∙ ap (column_path root group) e ∙ root_is;
        unscheduled = i.unscheduled;
        within = i.within;
      }

-- The frames of an array as a stack, the deepest first.

pub stack-top : (frames : List ColumnFrame) (depth : ℕ) → 1 ≤ depth → depth ≤ length frames →
    reverse (take depth frames) ≡ frame_at frames (depth - 1) ∷ reverse (take (depth - 1) frames)
stack-top frames depth some within =
    let e : depth ≡ depth - 1 + 1 = omega (arith, some) in
    ap (λ n. reverse (take n frames)) e
    ∙ reverse-push (take (depth - 1) frames) (take (depth - 1 + 1) frames) (frame_at frames (depth - 1))
    (take_more frames (depth - 1) _ (omega (arith, some, within)))

-- another frame at a depth
pub stack-same : (frames : List ColumnFrame) (depth : ℕ) (later : ColumnFrame) → depth < length frames →
    (frame_at (set frames depth later) depth ≡ later)
    × (reverse (take depth (set frames depth later)) ≡ reverse (take depth frames))
stack-same frames depth later within =
    (get_or-set_same frames depth later _ within, ap reverse (take-set frames depth later))

-- the frames down to a depth
pub stack-split : (frames above : List ColumnFrame) (depth : ℕ) (later : ColumnFrame) → depth < length frames →
    above ≡ take (depth + 1) (set frames depth later) → frame_at above depth ≡ later
stack-split frames above depth later within is =
    ap (λ xs. frame_at xs depth) is ∙ get_or-take (depth + 1) (set frames depth later) depth _ (omega arith)
    ∙ get_or-set_same frames depth later _ within

-- and a frame more
pub stack-down : (frames above below : List ColumnFrame) (depth : ℕ) (later made : ColumnFrame) →
    depth < length frames →
    above ≡ take (depth + 1) (set frames depth later) → length above ≡ depth + 1 → 1 ≤ length below →
    (frame_at (above ++ set below 0 made) (depth + 1) ≡ made)
    × (reverse (take (depth + 1) (above ++ set below 0 made)) ≡ later ∷ reverse (take depth frames))
stack-down frames above below depth later made within is size some =
    let first : depth + 1 - (depth + 1) ≡ 0 = omega arith in
    let all : take (depth + 1) above ≡ above = ap (λ n. take n above) (sym size) ∙ take-length above in (
      get_or-append_right above (set below 0 made) (depth + 1) (depth + 1) _ size (omega arith)
          ∙ ap (frame_at (set below 0 made)) first ∙ get_or-set_same below 0 made _ (omega (arith, some)),
      ap reverse (take-append-le (depth + 1) above (set below 0 made) (omega (arith, size)) ∙ all ∙ is)
          ∙ reverse-push (take depth frames) (take (depth + 1) (set frames depth later)) later
          (take_more_set frames depth later within),
    )
