-- From the empty list to a prefix, and what the walk from there comes to.
use Rattle.std.proofs.Common.{◌≡◌, ℕ, zero, suc, ◌+◌, ◌-◌, ◌*◌, ◌<◌, ◌≤◌, true, false, not, ◌||◌, nat_eq, List, [], ◌∷◌}
use Rattle.std.proofs.Common.{◌++◌, None, length, Some, take, drop, get_or, slice_index_or, refl, ap, sym, subst, ◌∙◌}
use Rattle.std.proofs.Common.{inl, inr, arith}
use Rattle.std.proofs.lemmas.List.{take_all, take_more}
use Rattle.std.proofs.lemmas.Bool.{cond-true, or_left, or_right, eq-eqb, false≢true}
use Rattle.std.proofs.lemmas.Bool.Decides.{eqb_tells}
use Rattle.std.proofs.lemmas.List.Elements.{All-from_recursion, recursion_from_All}
use Rattle.flow_shop.specs.declared.row.Row.{Row}
use Rattle.flow_shop.specs.Shop.{Shop}
use Rattle.flow_shop.specs.Front.{IsFrontOf}
use Rattle.flow_shop.specs.JobSet.{contains}
use Rattle.flow_shop.specs.Sequences.{has, AreJobs, AreDistinct, IsSequence, cut}
use Rattle.flow_shop.specs.Bound.{Bound, IsAdmissible, bound_of}
use Rattle.flow_shop.proofs.Admissible.{bound_is_admissible, released_bound_is_admissible}
use Rattle.flow_search.specs.Search.{Solution, tree, best}
use Rattle.flow_search.specs.internal.Walk.{walk}
use Rattle.flow_search.specs.Plans.{Planned, prefixes_of, prefix_of, best_of, tree_of}
use Rattle.flow_search.specs.internal.Stored.{IsStored}
use Rattle.flow_search.specs.internal.Nodes.{IsAt, Entered, Walked, walked, found_if, incumbent_of}
use Rattle.flow_search.specs.declared.state.SearchState.{SearchState}
use Rattle.flow_search.proofs.Walk.{Fresh, walk_is_tree}
use Rattle.flow_search.proofs.LeastVerdict.{cut-fresh, best-is}
use Rattle.flow_search.proofs.Lists.{all-weaken}
use Rattle.flow_search.proofs.Nodes.{at-child, bound-one, bound-two}
use Rattle.flow_search.proofs.CutLemmas.{joined-size, joined-at}

-- a prefix: distinct jobs, as many as the cut is deep
pub record IsPrefix (n depth : ℕ) (prefix : List ℕ) : Type 0 where
  pub jobs : AreJobs n prefix
  pub size : length prefix ≡ depth

pub cut-prefixes : (n depth : ℕ) (number : ℕ) → number < length (cut n depth) →
    IsPrefix n depth (slice_index_or (cut n depth) number [])
cut-prefixes n depth number h =
    All-from_recursion (IsPrefix n depth) (cut n depth)
    (all-weaken (λ p. Fresh n p × (length p ≡ 0 + depth)) (IsPrefix n depth) (cut n depth)
    (λ p h. record {
      jobs = record {
        range = All-from_recursion (λ job. (1 ≤ job) × (job ≤ n)) p h.0.0;
        distinct =
            h.0.1;
      };
      size = omega (arith, h.1);
    })
    (cut-fresh n depth [] (tt, tt)))
    number [] h

pub prefix-is : (plan : Planned) (number : ℕ) → number < length (prefixes_of plan) →
    IsPrefix plan.shop.jobs plan.options.depth (prefix_of plan number)
prefix-is plan number h = cut-prefixes plan.shop.jobs plan.options.depth number h

has-get : (xs : List ℕ) (i : ℕ) → i < length xs → has xs (get_or xs i 0) ≡ true
has-get [] i h = absurd (omega arith)
has-get (x ∷ xs) zero h = or_left (nat_eq x x) (has xs x) (eq-eqb x x refl)
has-get (x ∷ xs) (suc i) h = or_right (nat_eq (get_or xs i 0) x) (has xs (get_or xs i 0)) (has-get xs i (omega arith))

-- no item of a list of distinct jobs stands among those before it
fresh-at : (xs : List ℕ) (i : ℕ) → AreDistinct xs → i < length xs → has (take i xs) (get_or xs i 0) ≡ false
fresh-at [] i d h = absurd (omega arith)
fresh-at (x ∷ xs) zero d h = refl
fresh-at (x ∷ xs) (suc i) d h =
    let below : i < length xs = omega arith in
    elim (eqb_tells (get_or xs i 0) x) [
      | inl same ↦ absurd (false≢true (sym d.0 ∙ ap (has xs) (sym same.1) ∙ has-get xs i below))
      | inr other ↦ ap (λ b. b || has (take i xs) (get_or xs i 0)) other.0 ∙ fresh-at xs i d.1 below
    ]

-- a search that stands at the first jobs of a prefix, with nothing seen or written
pub record IsOnTheWay (plan : Planned) (prefix : List ℕ) (i : ℕ) (front : List ℕ) (search : SearchState) : Type 0 where
  pub at : IsAt plan.shop search.node.items front search.unscheduled (plan.shop.jobs - i)
  pub node : search.node.items ≡ take i prefix
  pub incumbent : incumbent_of search ≡ (plan.start.value, None)
  pub tree : search.tree.items ≡ []

-- one more job of the prefix
pub way-goes-on : (plan : Planned) (prefix front next_front : List ℕ) (i : ℕ) (now next : SearchState) →
    AreJobs plan.shop.jobs prefix → length prefix ≤ plan.shop.jobs → i < length prefix →
    IsOnTheWay plan prefix i front now → Entered (get_or prefix i 0) now next →
    IsFrontOf plan.shop (now.node.items ++ get_or prefix i 0 ∷ []) next_front →
    IsOnTheWay plan prefix (i + 1) next_front next
way-goes-on plan prefix front next_front i now next are short h way entered is_next =
    let job : ℕ = get_or prefix i 0 in
    let range : (1 ≤ job) × (job ≤ plan.shop.jobs) = are.range i 0 h in
    let free : has now.node.items job ≡ false = ap (λ q. has q job) way.node ∙ fresh-at prefix i are.distinct h in
    let there : contains now.unscheduled job ≡ true = way.at.left job range.0 range.1 ∙ ap not free in
    let count : plan.shop.jobs - i ≡ suc (plan.shop.jobs - (i + 1)) = omega arith in
    let child = at-child plan.shop now.node.items front next_front now.unscheduled (plan.shop.jobs - i)
    (plan.shop.jobs - (i + 1)) job way.at count range.0 range.1 there is_next in
    record {
      at = subst (λ q. IsAt plan.shop q next_front next.unscheduled (plan.shop.jobs - (i + 1))) (sym entered.node)
          (subst (λ u. IsAt plan.shop (now.node.items ++ job ∷ []) next_front u (plan.shop.jobs - (i
          + 1))) (sym entered.unscheduled) child);
      node = entered.node ∙ ap (λ q. q ++ job ∷ []) way.node ∙ sym (take_more prefix i 0 h);
      incumbent = entered.incumbent ∙ way.incumbent;
      tree = entered.tree ∙ way.tree;
    }

-- at the end of the way
arrived : (prefix node : List ℕ) (i : ℕ) → i ≤ length prefix → length prefix ≤ i → node ≡ take i prefix → node ≡ prefix
arrived prefix node i low high e = let same : i ≡ length prefix = omega arith in e ∙ ap (λ k. take k prefix) same
    ∙ take_all (length prefix) prefix (omega arith)

prefix-walk : (plan : Planned) (bound : Bound) (prefix front : List ℕ) (i count : ℕ) (search : SearchState) →
    count ≡ plan.shop.jobs - length prefix → i ≤ length prefix → length prefix ≤ i →
    IsOnTheWay plan prefix i front search →
    walked plan.shop bound count search
    ≡ walk plan.shop bound (plan.shop.jobs - length prefix) prefix (plan.start.value, None)
prefix-walk plan bound prefix front i count search left low high way =
    ap (λ c. walk plan.shop bound c search.node.items (incumbent_of search)) left
    ∙ ap (λ q. walk plan.shop bound (plan.shop.jobs - length prefix) q (incumbent_of search))
    (arrived prefix search.node.items i low high way.node)
    ∙ ap (walk plan.shop bound (plan.shop.jobs - length prefix) prefix) way.incumbent

prefix-done : (plan : Planned) (bound : Bound) → IsAdmissible bound →
    (prefix front : List ℕ) (i budget count : ℕ) (old new : SearchState) →
    AreJobs plan.shop.jobs prefix → length prefix ≤ plan.shop.jobs →
    count ≡ plan.shop.jobs - length prefix → i ≤ length prefix → length prefix ≤ i →
    IsOnTheWay plan prefix i front old → Walked plan.shop bound budget count old new →
    (found_if new ≡ best plan.shop plan.start.value prefix)
    × (new.tree.items ≡ tree plan.shop bound plan.start.value prefix)
prefix-done plan bound admissible prefix front i budget count old new are short left low high way w =
    let walk_is = prefix-walk plan bound prefix front i count old left low high way in
    let law = walk_is_tree plan.shop bound plan.start.value prefix admissible are short in (
      ap (λ st. st.1) w.incumbent ∙ ap (λ w. w.1.1) walk_is ∙ law.1,
      w.tree ∙ ap (λ xs. xs ++ (walked plan.shop bound count old).0) way.tree ∙ ap (λ w. w.0) walk_is ∙ law.0,
    )

-- the bound of each version is admissible
pub admissible-of : (version : ℕ) → IsAdmissible (bound_of version)
admissible-of version = elim (eqb_tells version 2) [
  | inl two ↦ subst IsAdmissible (sym (bound-two version (nat_eq version 2) refl two.0)) released_bound_is_admissible
  | inr one ↦ subst IsAdmissible (sym (bound-one version (nat_eq version 2) refl one.0)) bound_is_admissible
]

-- the best and the tree of a prefix of the plan, once its walk is done; the code knows the instance as `shop`
pub prefix-answered : (plan : Planned) (bound : Bound) (shop : Shop) (prefix front : List ℕ)
    (number i budget jobs : ℕ) (old new : SearchState) → bound ≡ bound_of plan.options.version → IsAdmissible bound →
    shop ≡ plan.shop → jobs ≡ shop.jobs → prefix ≡ prefix_of plan number →
    AreJobs plan.shop.jobs prefix → length prefix ≤ plan.shop.jobs → i ≤ length prefix → length prefix ≤ i →
    IsOnTheWay plan prefix i front old → Walked shop bound budget (jobs - length prefix) old new →
    (found_if new ≡ best_of plan number) × (new.tree.items ≡ tree_of plan number)
prefix-answered plan bound shop prefix front number i budget jobs old new bound_is admissible shop_is jobs_is prefix_is
    are short low high way w =
    let count : jobs - length prefix ≡ plan.shop.jobs - length prefix =
    ap (λ n. n - length prefix) (jobs_is ∙ ap (λ s. s.jobs) shop_is) in
    let walk_done : Walked plan.shop bound budget (jobs - length prefix) old new =
    subst (λ s. Walked s bound budget (jobs - length prefix) old new) shop_is w in
    let is = prefix-done plan bound admissible prefix front i budget
    (jobs - length prefix) old new are short count low high way walk_done in (
      is.0 ∙ ap (best plan.shop plan.start.value) prefix_is,
      is.1
          ∙ ap (tree plan.shop bound plan.start.value) prefix_is
          ∙ ap (λ b. tree plan.shop b plan.start.value (prefix_of plan number)) bound_is,
    )

pub prefix-over : (plan : Planned) (bound : Bound) → IsAdmissible bound →
    (prefix front : List ℕ) (i budget count : ℕ) (old : SearchState) →
    AreJobs plan.shop.jobs prefix → length prefix ≤ plan.shop.jobs →
    count ≡ plan.shop.jobs - length prefix → i ≤ length prefix → length prefix ≤ i →
    IsOnTheWay plan prefix i front old →
    budget < length old.tree.items + length (walked plan.shop bound count old).0 →
    budget < length (tree plan.shop bound plan.start.value prefix)
prefix-over plan bound admissible prefix front i budget count old are short left low high way over =
    let law = walk_is_tree plan.shop bound plan.start.value prefix admissible are short in
    let same : length (walked plan.shop bound count old).0 ≡ length (tree plan.shop bound plan.start.value prefix) =
    ap (λ w. length w.0) (prefix-walk plan bound prefix front i count old left low high way) ∙ ap length law.0 in
    let nothing : length old.tree.items ≡ 0 = ap length way.tree in
    omega (arith, over, same, nothing)

-- the prefixes of a plan, one after another
pub stored-size : (plan : Planned) (count : ℕ) (lists : List ℕ) (rows : List Row) →
    IsStored plan count lists rows →
    length lists ≡ length (prefixes_of plan) * plan.options.depth
stored-size plan count lists rows s =
    ap length s.lists_are
    ∙ joined-size plan.options.depth (prefixes_of plan)
    (all-weaken (λ p. Fresh plan.shop.jobs p × (length p ≡ 0 + plan.options.depth)) (λ p. length p
    ≡ plan.options.depth) (prefixes_of plan) (λ p h. omega (arith, h.1))
    (cut-fresh plan.shop.jobs plan.options.depth [] (tt, tt)))

pub stored-prefix : (plan : Planned) (count : ℕ) (lists : List ℕ) (rows : List Row) (number : ℕ) →
    IsStored plan count lists rows →
    number < length (prefixes_of plan) →
    take (number * plan.options.depth
    + plan.options.depth - number * plan.options.depth) (drop (number * plan.options.depth) lists)
    ≡ prefix_of plan number
stored-prefix plan count lists rows number s h =
    let depth : ℕ = plan.options.depth in
    let size : number * depth + depth - number * depth ≡ depth = omega arith in
    ap (λ k. take k (drop (number * depth) lists)) size
    ∙ ap (λ xs. take depth (drop (number * depth) xs)) s.lists_are
    ∙ joined-at depth (prefixes_of plan) number
    (all-weaken (λ p. Fresh plan.shop.jobs p × (length p ≡ 0 + depth)) (λ p. length p
    ≡ depth) (prefixes_of plan) (λ p h. omega (arith, h.1)) (cut-fresh plan.shop.jobs depth [] (tt, tt)))
    h

-- the best of a prefix is a sequence
pub best-sequence : (plan : Planned) (number : ℕ) (search : SearchState) → plan.options.depth ≤ plan.shop.jobs →
    number < length (prefixes_of plan) →
    found_if search ≡ best_of plan number →
    search.improved ≡ true → IsSequence plan.shop.jobs search.best.items
best-sequence plan number search deep h e improved =
    let prefix : IsPrefix plan.shop.jobs plan.options.depth (prefix_of plan number) = prefix-is plan number h in
    let range = recursion_from_All (λ job. (1 ≤ job)
    × (job ≤ plan.shop.jobs)) (prefix_of plan number) prefix.jobs.range in
    let short : length (prefix_of plan number) ≤ plan.shop.jobs = omega (arith, prefix.size, deep) in
    let found : Solution = record { value = search.value; sequence = search.best.items } in
    let some : best_of plan number ≡ Some found = sym e ∙ cond-true search.improved (Some found) None improved in
    (best-is plan.shop plan.start.value (prefix_of plan number) (Some found)
    (range, prefix.jobs.distinct) short some).0.0.0
