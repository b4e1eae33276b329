-- What the code of the search does at a node is what the walk does.
use Rattle.std.proofs.Common.{◌≡◌, ◌≢◌, ℕ, zero, suc, ◌+◌, ◌-◌, ◌<◌, ◌≤◌, Bool, true, false, cond, not, ◌||◌, nat_eq}
use Rattle.std.proofs.Common.{nat_le, List, [], ◌∷◌, ◌++◌, Some, None, length, map, slice_index}
use Rattle.std.proofs.Common.{slice_index_or, slice_set, take, refl, ap, sym, ◌∙◌, inl, inr, arith, length-append}
use Rattle.std.specs.List.{filter, find, range_with_len, sum_by}
use Rattle.std.proofs.Math.Bool.{or-false}
use Rattle.std.proofs.lemmas.Bool.{cond-true, cond-false, eqb-false, not-true}
use Rattle.std.proofs.lemmas.Bool.Decides.{eqb_tells}
use Rattle.std.proofs.lemmas.List.{get_or-set_other, get_or-set_same, length-set}
use Rattle.std.proofs.lemmas.List.Folds.{list_any-append}
use Rattle.std.proofs.lemmas.List.Elements.{recursion_from_All, All-from_recursion}
use Rattle.flow_shop.specs.Shop.{Shop, numbers, time, time_between, IsWithinLimits}
use Rattle.flow_shop.specs.Least.{least, greatest}
use Rattle.flow_shop.specs.Front.{IsFrontOf, IsWithinFront}
use Rattle.flow_shop.specs.JobSet.{contains, members}
use Rattle.flow_shop.specs.Sequences.{has, jobs_left}
use Rattle.flow_shop.specs.Bound.{Bound, letter, machine_bound, released_bound, release, bound_at, released_bound_at}
use Rattle.flow_shop.specs.Bound.{bound_of, front_of}
use Rattle.flow_limits.specs.Limits.{most_jobs, most_machines}
use Rattle.flow_shop.proofs.JobsLeft.{filter-same, kept, kept-more, kept-has, sum_by-ones}
use Rattle.flow_shop.proofs.Fronts.{front-within}
use Rattle.flow_shop.proofs.JobSetLemmas.{members-is}
use Rattle.flow_shop.proofs.Admissible.{front_of-is}
use Rattle.flow_search.specs.internal.Nodes.{IsAt, Wrote, Walked, walked, children_walked, incumbent_of}
use Rattle.flow_search.specs.declared.state.SearchState.{SearchState}
use Rattle.flow_search.proofs.Walk.{Fresh, fresh-push, range-all, answer_of, has-at}
use Rattle.flow_shop.proofs.Lists.{find-some}
use Rattle.flow_shop.proofs.Ranges.{numbers-first}

pub numbers-none : (n : ℕ) → numbers (n + 1) n ≡ []
numbers-none n = let e : n + 1 - (n + 1) ≡ 0 = omega arith in ap (range_with_len (n + 1)) e

pub find-here : (p : ℕ → Bool) (k n : ℕ) → k ≤ n → p k ≡ true → find p (numbers k n) ≡ Some k
find-here p k n h pass = ap (find p) (numbers-first k n h) ∙ cond-true (p k) (Some k) (find p (numbers (k + 1) n)) pass

pub find-skip : (p : ℕ → Bool) (k n : ℕ) → k ≤ n → p k ≡ false → find p (numbers (k + 1) n) ≡ find p (numbers k n)
find-skip p k n h fail = sym (ap (find p) (numbers-first k n h)
    ∙ cond-false (p k) (Some k) (find p (numbers (k + 1) n)) fail)

pub find-past : (p : ℕ → Bool) (k n : ℕ) → n < k → None ≡ find p (numbers k n)
find-past p k n h = let e : 0 ≡ n + 1 - k = omega arith in ap (λ len. find p (range_with_len k len)) e

pub filter-here : (p : ℕ → Bool) (k n : ℕ) → k ≤ n → p k ≡ true →
    filter p (numbers k n) ≡ k ∷ filter p (numbers (k + 1) n)
filter-here p k n h pass = ap (filter p) (numbers-first k n h)
    ∙ cond-true (p k) (k ∷ filter p (numbers (k + 1) n)) (filter p (numbers (k + 1) n)) pass

pub filter-skip : (p : ℕ → Bool) (k n : ℕ) → k ≤ n → p k ≡ false → filter p (numbers k n) ≡ filter p (numbers (k + 1) n)
filter-skip p k n h fail = ap (filter p) (numbers-first k n h)
    ∙ cond-false (p k) (k ∷ filter p (numbers (k + 1) n)) (filter p (numbers (k + 1) n)) fail

find-same : (p q : ℕ → Bool) (a n : ℕ) → ((k : ℕ) → a ≤ k → k < a + n → p k ≡ q k) →
    find p (range_with_len a n) ≡ find q (range_with_len a n)
find-same p q a zero h = refl
find-same p q a (suc n) h =
    ap (λ b. cond b (Some a) (find p (range_with_len (a + 1) n))) (h a (omega arith) (omega arith))
    ∙ ap (cond (q a) (Some a)) (find-same p q (a + 1) n (λ k low high. h k (omega arith) (omega arith)))

-- the jobs of the set, in the numbers of the shop
pub left-is : (shop : Shop) (node front : List ℕ) (unscheduled : List Bool) (count : ℕ) →
    IsAt shop node front unscheduled count →
    filter (contains unscheduled) (numbers 1 shop.jobs) ≡ jobs_left shop.jobs node
left-is shop node front unscheduled count at =
    filter-same (contains unscheduled) (λ job. not (has node job)) shop.jobs at.left

pub members-are : (shop : Shop) (node front : List ℕ) (unscheduled : List Bool) (count : ℕ) →
    IsAt shop node front unscheduled count →
    members unscheduled ≡ jobs_left shop.jobs node
members-are shop node front unscheduled count at = members-is unscheduled shop.jobs at.none
    ∙ left-is shop node front unscheduled count at

pub kept-both : (p : ℕ → Bool) (n : ℕ) → kept (λ _. 1) p n + kept (λ _. 1) (λ k. not (p k)) n ≡ n
kept-both p zero = refl
kept-both p (suc n) =
    omega (arith, kept-more (λ _. 1) p n, kept-more (λ _. 1) (λ k. not (p k)) n, kept-both p n, one (p (suc n)))
  where
    one : (b : Bool) → cond {A = ℕ} b 1 0 + cond {A = ℕ} (not b) 1 0 ≡ 1
    one true = refl
    one false = refl

-- how many are left
pub left-count : (shop : Shop) (node front : List ℕ) (unscheduled : List Bool) (count : ℕ) →
    IsAt shop node front unscheduled count →
    length (members unscheduled) ≡ count
left-count shop node front unscheduled count at =
    let range = recursion_from_All (λ job. (1 ≤ job) × (job ≤ shop.jobs)) node at.jobs.range in
    let used : kept (λ _. 1) (has node) shop.jobs ≡ length node =
    kept-has (λ _. 1) shop.jobs node range at.jobs.distinct ∙ sum_by-ones node in
    let both = kept-both (has node) shop.jobs in
    let ones : kept (λ _. 1) (λ k. not (has node k)) shop.jobs ≡ length (jobs_left shop.jobs node) =
    sum_by-ones (jobs_left shop.jobs node) in
    let size : length (members unscheduled) ≡ length (jobs_left shop.jobs node) =
    ap length (members-are shop node front unscheduled count at) in
    let whole : length node + count ≡ shop.jobs = at.whole in
    omega (arith, used, both, ones, size, whole)

pub within-front : (shop : Shop) (node front : List ℕ) (unscheduled : List Bool) (count : ℕ) →
    IsAt shop node front unscheduled count → IsWithinFront shop front
within-front shop node front unscheduled count at =
    let whole : length node + count ≡ shop.jobs = at.whole in
    front-within shop node front at.limits (omega arith) at.is_front

-- the code's search for the machine is that of the definition
pub find-is : (shop : Shop) (node front : List ℕ) (unscheduled : List Bool) (count value : ℕ) →
    IsAt shop node front unscheduled count →
    find (λ machine. nat_le value (machine_bound shop front (members unscheduled) machine)) (numbers 1 shop.machines)
    ≡ find (λ machine. nat_le value (bound_at shop node machine)) (numbers 1 shop.machines)
find-is shop node front unscheduled count value at =
    find-same (λ machine. nat_le value (machine_bound shop front (members unscheduled) machine))
    (λ machine. nat_le value (bound_at shop node machine)) 1 (shop.machines + 1 - 1)
    (λ k low high.
    let same : slice_index front (k - 1) ≡ slice_index (front_of shop node) (k - 1) = at.is_front k low (omega arith)
    ∙ sym (front_of-is shop node k low (omega arith)) in
    ap (λ left. nat_le value (slice_index front (k - 1) + sum_by (λ job. time shop job k) left
    + least (map (λ job. time_between shop job (k + 1) shop.machines) left)))
    (members-are shop node front unscheduled count at)
    ∙ ap (λ x. nat_le value (x + sum_by (λ job. time shop job k) (jobs_left shop.jobs node)
    + least (map (λ job. time_between shop job (k + 1) shop.machines) (jobs_left shop.jobs node)))) same)

map-same : (f g : ℕ → ℕ) (from n : ℕ) → ((k : ℕ) → from ≤ k → k < from + n → f k ≡ g k) →
    map f (range_with_len from n) ≡ map g (range_with_len from n)
map-same f g from zero same = refl
map-same f g from (suc n) same =
    ap (λ k. k ∷ map f (range_with_len (from + 1) n)) (same from (omega arith) (omega arith))
    ∙ ap (λ ks. g from ∷ ks) (map-same f g (from + 1) n (λ k low high. same k (omega (arith, low)) (omega (
      arith,
      high,
    ))))

-- and by the released bound
pub find-released : (shop : Shop) (node front : List ℕ) (unscheduled : List Bool) (count value : ℕ) →
    IsAt shop node front unscheduled count →
    find (λ machine. nat_le value (released_bound shop front (members unscheduled) machine)) (numbers 1 shop.machines)
    ≡ find (λ machine. nat_le value (released_bound_at shop node machine)) (numbers 1 shop.machines)
find-released shop node front unscheduled count value at =
    find-same (λ machine. nat_le value (released_bound shop front (members unscheduled) machine))
    (λ machine. nat_le value (released_bound_at shop node machine)) 1 (shop.machines + 1 - 1)
    (λ k low high.
    let same : release shop front (jobs_left shop.jobs node) k
    ≡ release shop (front_of shop node) (jobs_left shop.jobs node) k =
    ap greatest (map-same
    (λ from. slice_index front (from - 1)
    + least (map (λ job. time_between shop job from (k - 1)) (jobs_left shop.jobs node)))
    (λ from. slice_index (front_of shop node) (from - 1)
    + least (map (λ job. time_between shop job from (k - 1)) (jobs_left shop.jobs node))) 1 (k + 1 - 1)
    (λ from a b.
    ap (λ x. x + least (map (λ job. time_between shop job from (k - 1)) (jobs_left shop.jobs node)))
    (at.is_front from a (omega (arith, b, high))
    ∙ sym (front_of-is shop node from a (omega (arith, b, high)))))) in
    ap (λ left. nat_le value (released_bound shop front left k)) (members-are shop node front unscheduled count at)
    ∙ ap (λ x. nat_le value (x + sum_by (λ job. time shop job k) (jobs_left shop.jobs node)
    + least (map (λ job. time_between shop job (k + 1) shop.machines) (jobs_left shop.jobs node)))) same)

-- the bound of version 2
pub bound-two : (version : ℕ) (released : Bool) → released ≡ nat_eq version 2 → released ≡ true →
    bound_of version ≡ released_bound_at
bound-two version released tells is = ap (λ b. cond b released_bound_at bound_at) (sym tells ∙ is)

-- and of the others
pub bound-one : (version : ℕ) (released : Bool) → released ≡ nat_eq version 2 → released ≡ false →
    bound_of version ≡ bound_at
bound-one version released tells is = ap (λ b. cond b released_bound_at bound_at) (sym tells ∙ is)

-- a machine that was found
pub machine-is : (shop : Shop) (p : ℕ → Bool) (machine : ℕ) → IsWithinLimits shop →
    Some machine ≡ find p (numbers 1 shop.machines) → (1 ≤ machine) × (machine ≤ most_machines)
machine-is shop p machine limits e =
    let at = find-some p (λ k. (1 ≤ k)
    × (k ≤ shop.machines)) (numbers 1 shop.machines) machine (range-all shop.machines) (sym e) in
    let most : shop.machines ≤ most_machines = limits.machines in
    (at.1.0, omega (arith, at.1.1))

-- the next node
pub at-child : (shop : Shop) (node front next : List ℕ) (unscheduled : List Bool) (count left job : ℕ) →
    IsAt shop node front unscheduled count →
    count ≡ suc left → 1 ≤ job → job ≤ shop.jobs → contains unscheduled job ≡ true →
    IsFrontOf shop (node ++ job ∷ []) next →
    IsAt shop (node ++ job ∷ []) next (slice_set unscheduled (job - 1) false) left
at-child shop node front next unscheduled count left job at e low high there is_next =
    let whole : length node + count ≡ shop.jobs = at.whole in
    let size : length unscheduled ≡ most_jobs = at.size in
    let most : shop.jobs ≤ most_jobs = at.limits.jobs in
    let within : job - 1 < length unscheduled = omega arith in
    let free : has node job ≡ false = not-true (has node job) (sym (at.left job low high) ∙ there) in
    let fresh : Fresh shop.jobs (node ++ job ∷ []) =
    fresh-push shop.jobs node job (
      recursion_from_All (λ job. (1 ≤ job)
          × (job ≤ shop.jobs)) node at.jobs.range,
      at.jobs.distinct,
    ) (low, high, free) in
    record {
      limits = at.limits;
      whole = omega (arith, length-append node (job ∷ []));
      jobs = record {
        range = All-from_recursion (λ job. (1 ≤ job)
            × (job ≤ shop.jobs)) (node ++ job ∷ []) fresh.0;
        distinct = fresh.1;
      };
      is_front = is_next;
      left = λ k from to. elim (eqb_tells k job) [
        | inl same ↦
            let s : k ≡ job = same.1 in
            ap (contains (slice_set unscheduled (job - 1) false)) s
            ∙ get_or-set_same unscheduled (job - 1) false false within
            ∙ ap not (sym (ap (has (node ++ job ∷ [])) s ∙ has-at node job []))
        | inr other ↦
            let ne : k ≢ job = λ z. eqb-false k job other.0 z in
            let far : k - 1 ≢ job - 1 = omega arith in
            get_or-set_other unscheduled (job - 1) (k - 1) false false far
            ∙ at.left k from to
            ∙ ap not (sym (list_any-append (nat_eq k) node (job ∷ []) ∙ ap (λ b. has node k || (b || false)) other.0
            ∙ or-false (has node k)))
      ];
      none = λ k past.
          let far : k - 1 ≢ job - 1 = omega arith in
          get_or-set_other unscheduled (job - 1) (k - 1) false false far ∙ at.none k past;
      size = length-set unscheduled (job - 1) false ∙ at.size;
    }

-- taking a member out and putting it in again
pub put-back : (set : List Bool) (place : ℕ) → slice_index_or set place false ≡ true →
    slice_set (slice_set set place false) place true ≡ set
put-back [] place e = refl
put-back (flag ∷ flags) zero e = ap (λ b. b ∷ flags) (sym e)
put-back (flag ∷ flags) (suc place) e = ap (λ ys. flag ∷ ys) (put-back flags place e)

-- What the code does at a node is what the walk does.

pub pruned-here : (shop : Shop) (bound : Bound) (budget count left machine : ℕ) (old new : SearchState) →
    count ≡ suc left →
    Some machine ≡ find (λ k. nat_le old.value (bound shop old.node.items k)) (numbers 1 shop.machines) →
    Wrote budget (64 + machine) old new → Walked shop bound budget count old new
pruned-here shop bound budget count left machine old new e finds wrote =
    let here : walked shop bound count old ≡ (letter machine ∷ [], incumbent_of old) =
    ap (λ c. walked shop bound c old) e
    ∙ ap (answer_of (incumbent_of old) (children_walked shop bound left old)) (sym finds) in
    record {
      tree = wrote.tree ∙ ap (λ w. old.tree.items ++ w) (sym (ap (λ w. w.0) here));
      incumbent = wrote.incumbent ∙ sym (ap (λ w. w.1) here);
      node = wrote.node;
      unscheduled = wrote.unscheduled;
      within = wrote.within;
    }

-- a list without its last item
pub take-last : (n : ℕ) (xs ys : List ℕ) (x : ℕ) → xs ≡ ys ++ x ∷ [] → n ≡ length xs → take (n - 1) xs ≡ ys
take-last n xs ys x e size =
    let count : n - 1 ≡ length ys = omega (arith, size, ap length e, length-append ys (x ∷ [])) in
    ap (λ k. take k xs) count ∙ ap (take (length ys)) e ∙ whole ys
  where
    whole : (ys : List ℕ) → take (length ys) (ys ++ x ∷ []) ≡ ys
    whole [] = refl
    whole (y ∷ ys) = ap (λ zs. y ∷ zs) (whole ys)
