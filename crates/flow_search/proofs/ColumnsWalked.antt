-- What the code does at a node and at a column's child is what the walk does.
use Rattle.std.proofs.Common.{◌≡◌, ◌≢◌, ℕ, suc, ◌+◌, ◌-◌, ◌<◌, ◌≤◌, true, cond, nat_eq, nat_lt, nat_le, List, [], ◌∷◌}
use Rattle.std.proofs.Common.{◌++◌, Some, None, length, slice_index, refl, ap, sym, ◌∙◌, subst, arith, append_assoc}
use Rattle.std.proofs.Common.{length-append}
use Rattle.std.specs.List.{find}
use Rattle.std.proofs.lemmas.Bool.{eq-eqb, lt-ltb, or_left}
use Rattle.flow_shop.specs.Shop.{Shop, numbers}
use Rattle.flow_shop.specs.Sequences.{has, jobs_left}
use Rattle.flow_shop.specs.Bound.{Bound, letter}
use Rattle.flow_search.specs.internal.Walk.{Incumbent, walk, walk_each}
use Rattle.flow_search.specs.internal.Nodes.{Wrote, Entered, Gave, Walked, walked, children_walked, incumbent_of}
use Rattle.flow_search.specs.internal.Columns.{IsFrameOf, IsColumnLeft, IsUnprunedCount, IsTested, job_of, child}
use Rattle.flow_search.specs.internal.ColumnWalks.{column_walked}
use Rattle.flow_search.specs.declared.state.SearchState.{SearchState}
use Rattle.flow_search.specs.declared.few_left.group.Group.{Group}
use Rattle.flow_search.specs.declared.few_left.group.ColumnFrame.{ColumnFrame}
use Rattle.flow_search.proofs.Walk.{answer_of}
use Rattle.flow_shop.proofs.Taken.{left-count}
use Rattle.flow_search.proofs.JobsTaken.{left-child}
use Rattle.flow_search.proofs.UnprunedFound.{count-found}

-- The walk at a node.

abbrev children : Shop → Bound → ℕ → List ℕ → Incumbent → List ℕ × Incumbent
children shop bound left node incumbent =
    walk_each (λ job. walk shop bound left (node ++ job ∷ [])) (jobs_left shop.jobs node) incumbent

-- what a letter says of it
lettered : (shop : Shop) (bound : Bound) (count unpruned : ℕ) (node : List ℕ) (st : Incumbent) → 0 < count →
    IsUnprunedCount shop bound node st.0 shop.machines unpruned →
    walk shop bound count node st
    ≡ answer_of st (children shop bound (count - 1) node st) (cond (nat_lt unpruned shop.machines) (Some (unpruned
    + 1)) None)
lettered shop bound count unpruned node st some is =
    let e : count ≡ suc (count - 1) = omega (arith, some) in
    ap (λ c. walk shop bound c node st) e
    ∙ ap (answer_of st (children shop bound (count - 1) node st)) (count-found shop bound node st.0 unpruned is)

pub column-pruned : (shop : Shop) (bound : Bound) (budget count unpruned : ℕ) (group : Group) (column : ℕ)
    (old new : SearchState) →
    0 < count →
    IsUnprunedCount shop bound (child old.node.items group column) old.value shop.machines unpruned →
    unpruned < shop.machines →
    Wrote budget (65 + unpruned) old new → Gave budget (column_walked shop bound count group column old) old new
column-pruned shop bound budget count unpruned group column old new some is low wrote =
    let byte : 65 + unpruned ≡ letter (unpruned + 1) = omega arith in
    let node : List ℕ = child old.node.items group column in
    let here : column_walked shop bound count group column old ≡ (letter (unpruned + 1) ∷ [], incumbent_of old) =
    lettered shop bound count unpruned node (incumbent_of old) some is
    ∙ ap (λ b. answer_of (incumbent_of old) (children shop bound (count - 1) node (incumbent_of old)) (cond b (Some
    (unpruned + 1)) None)) (lt-ltb unpruned shop.machines low) in
    record {
      tree = wrote.tree ∙ ap (λ b. old.tree.items ++ b ∷ []) byte ∙ ap (λ w. old.tree.items ++ w.0) (sym here);
      incumbent = wrote.incumbent ∙ sym (ap (λ w. w.1) here);
      node = wrote.node;
      unscheduled = wrote.unscheduled;
      within = wrote.within;
    }

-- no machine prunes: a plus, and the walks of the children
abbrev pub IsUnpruned : Shop → Bound → ℕ → List ℕ → Incumbent → Type 0
IsUnpruned shop bound count node incumbent =
    walk shop bound count node incumbent
    ≡ (43 ∷ (children shop bound (count - 1) node incumbent).0, (children shop bound (count - 1) node incumbent).1)

-- nor at a child, before it is entered
pub unpruned-child : (shop : Shop) (bound : Bound) (count job : ℕ) (old in_child : SearchState) → 0 < count →
    Entered job old
    in_child →
    find (λ machine. nat_le old.value (bound shop (old.node.items ++ job ∷ []) machine)) (numbers 1 shop.machines)
    ≡ None →
    IsUnpruned shop bound count in_child.node.items (incumbent_of in_child)
unpruned-child shop bound count job old in_child some entered finds =
    let node : List ℕ = old.node.items ++ job ∷ [] in
    let e : count ≡ suc (count - 1) = omega (arith, some) in
    let unpruned : IsUnpruned shop bound count node (incumbent_of old) =
    ap (λ c. walk shop bound c node (incumbent_of old)) e
    ∙ ap (answer_of (incumbent_of old) (children shop bound (count - 1) node (incumbent_of old))) finds in
    subst (λ st. IsUnpruned shop bound count in_child.node.items st) (sym entered.incumbent)
    (subst (λ q. IsUnpruned shop bound count q (incumbent_of old)) (sym entered.node) unpruned)

pub unpruned-found : (shop : Shop) (bound : Bound) (count : ℕ) (search : SearchState) → 0 < count →
    None ≡ find (λ machine. nat_le search.value (bound shop search.node.items machine)) (numbers 1 shop.machines) →
    IsUnpruned shop bound count search.node.items (incumbent_of search)
unpruned-found shop bound count search some finds =
    let e : count ≡ suc (count - 1) = omega (arith, some) in
    ap (λ c. walked shop bound c search) e
    ∙ ap (answer_of (incumbent_of search) (children shop bound (count - 1) search.node.items (incumbent_of search)))
    (sym finds)

-- once the plus is written, at the node
plus-is : (shop : Shop) (bound : Bound) (count : ℕ) (node : List ℕ) (st : Incumbent) (mid : SearchState) →
    IsUnpruned shop bound count node st →
    mid.node.items ≡ node → incumbent_of mid ≡ st →
    walk shop bound count node st
    ≡ (43 ∷ (children_walked shop bound (count - 1) mid).0, (children_walked shop bound (count - 1) mid).1)
plus-is shop bound count node st mid unpruned at is =
    let same : children_walked shop bound (count - 1) mid ≡ children shop bound (count - 1) node st =
    ap (λ q. children shop bound (count - 1) q (incumbent_of mid)) at ∙ ap (children shop bound (count - 1) node) is in
    unpruned ∙ sym (ap (λ w. (43 ∷ w.0, w.1)) same)

pub node-done : (shop : Shop) (bound : Bound) (budget count : ℕ) (old mid new : SearchState) →
    IsUnpruned shop bound count old.node.items (incumbent_of old) → Wrote budget 43 old mid →
    Gave budget (children_walked shop bound (count - 1) mid) mid new → Walked shop bound budget count old new
node-done shop bound budget count old mid new unpruned wrote made =
    let here = plus-is shop bound count old.node.items (incumbent_of old) mid unpruned wrote.node wrote.incumbent in
    let below : List ℕ × Incumbent = children_walked shop bound (count - 1) mid in
    record {
      tree = made.tree ∙ ap (λ xs. xs ++ below.0) wrote.tree ∙ append_assoc old.tree.items (43 ∷ []) below.0
          ∙ ap (λ w. old.tree.items ++ w.0) (sym here);
      incumbent = made.incumbent ∙ sym (ap (λ w. w.1) here);
      node = made.node ∙ wrote.node;
      unscheduled = made.unscheduled ∙ wrote.unscheduled;
      within = made.within;
    }

pub node-over : (shop : Shop) (bound : Bound) (budget count : ℕ) (old mid : SearchState) →
    IsUnpruned shop bound count old.node.items (incumbent_of old) → Wrote budget 43 old mid →
    budget < length mid.tree.items + length (children_walked shop bound (count - 1) mid).0 →
    budget < length old.tree.items + length (walked shop bound count old).0
node-over shop bound budget count old mid unpruned wrote over =
    let here = ap (λ w. length w.0) (plus-is shop bound count old.node.items
    (incumbent_of old) mid unpruned wrote.node wrote.incumbent) in
    omega (arith, over, here, ap length wrote.tree, length-append old.tree.items (43 ∷ []))

first-of : (xs : List ℕ) → 0 < length xs → (job : ℕ) × (has xs job ≡ true)
first-of [] some = absurd (omega (arith, some))
first-of (x ∷ xs) some = (x, or_left (nat_eq x x) (has xs x) (eq-eqb x x refl))

-- where two jobs are left, a column that is left is not the only one
another : (shop : Shop) (list : List ℕ) (group : Group) (frame : ColumnFrame) (column : ℕ) →
    IsFrameOf shop list group frame → IsColumnLeft frame column →
    length list + 2 ≤ shop.jobs → (other : ℕ) × IsColumnLeft frame other × (other ≢ column)
another shop list group frame column at here two =
    let size = left-count shop.jobs list (job_of group column) (at.from column here) (at.to column here)
    (at.fresh column here) in
    let there = first-of (jobs_left shop.jobs (child list group column)) (omega (arith, two, at.count, size)) in
    let parts = left-child shop.jobs list (job_of group column) there.0 there.1 in
    let stands = at.each there.0 parts.0 parts.1 parts.2 in
    (stands.0, stands.1, λ e. parts.3 (sym stands.2 ∙ ap (job_of group) e))

-- the test of a child that leaves a job
pub unpruned-here : (shop : Shop) (bound : Bound) (list : List ℕ) (group : Group) (frame : ColumnFrame) (column : ℕ) →
    IsTested shop bound list group frame → IsColumnLeft frame column → length list + 2 ≤ shop.jobs →
    IsUnprunedCount shop bound (child list group column) frame.value shop.machines (slice_index frame.unpruned column)
unpruned-here shop bound list group frame column is here two =
    let other = another shop list group frame column is.opened.at here two in
    is.unpruned column other.0 here other.1 other.2
