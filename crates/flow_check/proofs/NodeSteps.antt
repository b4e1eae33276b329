-- The fronts, the work left and the bounds of lists.
use Rattle.std.proofs.Common.{◌≡◌, ◌≢◌, ℕ, suc, ◌+◌, ◌-◌, ◌*◌, ◌≤◌, false, not, List, []}
use Rattle.std.proofs.Common.{◌∷◌, ◌++◌, length, slice_index, ap, sym, ◌∙◌, subst, inl, inr, arith}
use Rattle.std.proofs.Common.{set, length-append, map}
use Rattle.std.specs.List.{sum_by}
use Rattle.std.proofs.lemmas.List.{get_or-set_same, get_or-set_other, length-set}
use Rattle.flow_shop.specs.Limits.{most_jobs, most_machines, greatest_time}
use Rattle.flow_shop.specs.Shop.{Shop, AreOf, time, time_between, IsWithinLimits}
use Rattle.flow_shop.specs.Paths.{completion}
use Rattle.flow_shop.specs.Front.{IsFrontOf, IsWithinFront}
use Rattle.flow_shop.specs.Sequences.{has, jobs_left}
use Rattle.flow_shop.specs.Bound.{bound_at, front_of}
use Rattle.flow_shop.proofs.Fronts.{front-within, time-small, tail-small}
use Rattle.flow_shop.proofs.Admissible.{front_of-is}
use Rattle.flow_shop.proofs.Extremes.{map-map-append}
use Rattle.flow_shop.proofs.JobsLeft.{kept-small, none-has}
use Rattle.std.proofs.lemmas.Bool.Decides.{eqb_tells}
use Rattle.flow_shop.specs.TwoLeast.{AreTwoLeast, tails, least_below, second_below, least_of_none, IsLeastWithout}
use Rattle.flow_check.specs.internal.Nodes.{IsListNode, AreKnown, AreTwoLeastTails}
use Rattle.flow_check.specs.declared.node.ListNode.{ListNode}
use Rattle.flow_shop.specs.declared.least_pairs.LeastPairs.{LeastPairs}
use Rattle.flow_shop.specs.declared.two_least.TwoLeast.{TwoLeast}
use Rattle.flow_shop.proofs.Taken.{left-sum, left-count, left-split, left-without, left_under, left_from}
use Rattle.flow_shop.proofs.TwoLeastSteps.{without-one, same-without, least-below-cap}

-- the sum of the times of the jobs left fits
pub work-small : (shop : Shop) (list : List ℕ) (machine : ℕ) → IsWithinLimits shop →
    sum_by (λ job. time shop job machine) (jobs_left shop.jobs list) ≤ shop.jobs * greatest_time
work-small shop list machine limits =
    kept-small (λ job. time shop job machine) (λ job. not (has list job)) greatest_time shop.jobs
    (λ k. time-small shop k machine limits)

-- before any bound asks for a tail
none-known : (shop : Shop) (list : List ℕ) (kept : LeastPairs) →
    ((machine : ℕ) → 1 ≤ machine → machine ≤ shop.machines → slice_index kept.least (machine - 1) ≡ least_of_none) →
    length kept.least ≡ most_machines → length kept.second ≡ most_machines → AreKnown shop list kept
none-known shop list kept none least_size second_size = record {
  each = λ machine from to. inl (none machine from to);
  least_size = least_size;
  second_size = second_size;
}

-- once a machine is asked for
pub known-more : (shop : Shop) (list : List ℕ) (node : ListNode) (left machine : ℕ) (two : TwoLeast) →
    IsWithinLimits shop →
    IsListNode shop list node left → 1 ≤ machine → machine ≤ shop.machines → AreTwoLeastTails shop list machine two →
    IsListNode shop list (record {
      front = node.front;
      work = node.work;
      tails = record {
        least = set node.tails.least (machine - 1) two.least;
        second = set node.tails.second (machine - 1) two.second;
      };
    }) left
known-more shop list node left machine two limits is from to low = record {
  times = is.times;
  work = is.work;
  size = is.size;
  known = record {
    each = λ k low_k high_k. elim (eqb_tells k machine) [
      | inl same ↦
          let most : shop.machines ≤ most_machines = limits.machines in
          let a : slice_index (set node.tails.least (machine - 1) two.least) (k - 1) ≡ two.least =
          ap (λ i. slice_index (set node.tails.least (machine - 1) two.least) (i - 1)) same.1
          ∙ get_or-set_same node.tails.least (machine - 1) two.least 0
          (omega (arith, is.known.least_size, from, to, most)) in
          let b : slice_index (set node.tails.second (machine - 1) two.second) (k - 1) ≡ two.second =
          ap (λ i. slice_index (set node.tails.second (machine - 1) two.second) (i - 1)) same.1
          ∙ get_or-set_same node.tails.second (machine - 1) two.second 0
          (omega (arith, is.known.second_size, from, to, most)) in
          let here : AreTwoLeastTails shop list k two = subst (λ i. AreTwoLeastTails shop list i two)
          (sym same.1) low in
          inr (a ∙ here.0, b ∙ here.1)
      | inr other ↦
          let apart : k - 1 ≢ machine - 1 = omega (arith, other.1, low_k, from) in
          let a : slice_index (set node.tails.least (machine - 1) two.least) (k - 1)
          ≡ slice_index node.tails.least (k - 1) =
          get_or-set_other node.tails.least (machine - 1) (k - 1) two.least 0 apart in
          let b : slice_index (set node.tails.second (machine - 1) two.second) (k - 1)
          ≡ slice_index node.tails.second (k - 1) =
          get_or-set_other node.tails.second (machine - 1) (k - 1) two.second 0 apart in
          elim (is.known.each k low_k high_k) [
            | inl none ↦ inl (a ∙ none)
            | inr was ↦ inr (a ∙ was.0, b ∙ was.1)
          ]
    ];
    least_size = length-set node.tails.least (machine - 1) two.least ∙ is.known.least_size;
    second_size = length-set node.tails.second (machine - 1) two.second ∙ is.known.second_size;
  };
  count = is.count;
  some = is.some;
}

-- the empty list
pub root-node : (shop : Shop) (node : ListNode) → IsWithinLimits shop → IsFrontOf shop [] node.front →
    AreOf shop (λ machine. sum_by (λ job. time shop job machine) (jobs_left shop.jobs [])) node.work →
    length node.work ≡ most_machines → AreTwoLeast (λ place job. 0) most_machines [] node.tails →
    length node.tails.least ≡ most_machines → length node.tails.second ≡ most_machines →
    IsListNode shop [] node shop.jobs
root-node shop node limits times work size none least_size second_size =
    let most : shop.machines ≤ most_machines = limits.machines in
    record {
      times = times;
      work = work;
      size = size;
      known = none-known shop [] node.tails
          (λ machine from to. (none (machine - 1) (omega (arith, from, to, most))).0) least_size second_size;
      count = omega arith;
      some = none-has shop.jobs;
    }

-- a list's child
pub child-node : (shop : Shop) (list : List ℕ) (node child : ListNode) (left job : ℕ) → IsWithinLimits shop →
    IsListNode shop list node (suc left) → 1 ≤ job → job ≤ shop.jobs → has list job ≡ false →
    IsFrontOf shop (list ++ job ∷ []) child.front → length child.work ≡ most_machines →
    ((machine : ℕ) → 1 ≤ machine → machine ≤ shop.machines →
    slice_index child.work (machine - 1) + time shop job machine ≡ slice_index node.work (machine - 1)) →
    ((machine : ℕ) → 1 ≤ machine → machine ≤ shop.machines → slice_index child.tails.least (machine - 1)
    ≡ least_of_none) →
    length child.tails.least ≡ most_machines → length child.tails.second ≡ most_machines →
    IsListNode shop (list ++ job ∷ []) child left
child-node shop list node child left job limits is low high fresh times size less least least_size second_size =
    record {
      times = times;
      work = λ machine from to. omega (
        arith,
        less machine from to,
        is.work machine from to,
        left-sum
            (λ j. time shop j machine) shop.jobs list job low high fresh,
      );
      size = size;
      known = none-known shop (list ++ job ∷ []) child.tails least least_size second_size;
      count = omega (arith, is.count, length-append list (job ∷ []));
      some = omega (arith, is.some, left-count shop.jobs list job low high fresh);
    }

-- the time of a job that is left is no more than the sum of all
pub work-covers : (shop : Shop) (list : List ℕ) (node : ListNode) (left job machine : ℕ) →
    IsListNode shop list node left → 1 ≤ job → job ≤ shop.jobs → has list job ≡ false → 1 ≤ machine →
    machine ≤ shop.machines →
    time shop job machine ≤ slice_index node.work (machine - 1)
work-covers shop list node left job machine is low high fresh from to =
    omega (arith, is.work machine from to, left-sum (λ j. time shop j machine) shop.jobs list job low high fresh)

pub node-within : (shop : Shop) (list : List ℕ) (node : ListNode) (left : ℕ) → IsWithinLimits shop →
    IsListNode shop list node left → IsWithinFront shop node.front
node-within shop list node left limits is = front-within shop list node.front limits (omega (arith, is.count)) is.times

-- the least over the jobs left once a job is taken, from the two least before
pub without-left : (f : ℕ → ℕ) (n : ℕ) (list : List ℕ) (job y p q m : ℕ) → 1 ≤ job → job ≤ n → has list job ≡ false →
    p ≡ least_below least_of_none (map f (jobs_left n list)) →
    q ≡ second_below least_of_none least_of_none (map f (jobs_left n list)) → y ≡ f job → IsLeastWithout y p q m →
    m ≡ least_below least_of_none (map f (jobs_left n (list ++ job ∷ [])))
without-left f n list job y p q m low high fresh is_p is_q is_y picked =
    let us : List ℕ = left_under list job in
    let vs : List ℕ = left_from n list (job + 1) in
    let whole : map f (jobs_left n list) ≡ map f us ++ f job ∷ map f vs =
    ap (map f) (left-split n list job low high fresh) ∙ map-map-append f us (job ∷ vs) in
    let rest : map f (jobs_left n (list ++ job ∷ [])) ≡ map f us ++ map f vs =
    ap (map f) (left-without n list job low high) ∙ map-map-append f us vs in
    same-without y (f job) p (least_below least_of_none (map f us ++ f job ∷ map f vs)) q
    (second_below least_of_none least_of_none (map f us ++ f job ∷ map f vs)) m
    (least_below least_of_none (map f us ++ map f vs)) is_y
    (is_p ∙ ap (least_below least_of_none) whole) (is_q ∙ ap (second_below least_of_none least_of_none) whole) picked
    (without-one (f job) least_of_none least_of_none (map f us) (map f vs) (omega arith))
    ∙ sym (ap (least_below least_of_none) rest)

-- the bound of a list with jobs left
pub own-bound : (shop : Shop) (list : List ℕ) (node : ListNode) (left machine : ℕ) (two : TwoLeast) →
    IsWithinLimits shop →
    IsListNode shop list node (suc left) → 1 ≤ machine → machine ≤ shop.machines →
    AreTwoLeastTails shop list machine two →
    (slice_index node.front (machine - 1) + slice_index node.work (machine - 1) + two.least
    ≡ bound_at shop list machine) × (two.least ≤ most_machines * greatest_time)
own-bound shop list node left machine two limits is from to low =
    let most : shop.machines ≤ most_machines = limits.machines in
    let cap = least-below-cap least_of_none (most_machines * greatest_time) (λ job. time_between shop job (machine
    + 1) shop.machines) (jobs_left shop.jobs list) (omega (arith, is.some))
    (λ job. omega (arith, tail-small shop job (shop.machines - machine) machine limits (omega (arith, to)), most))
    (omega arith) in
    let front : slice_index node.front (machine - 1) ≡ slice_index (front_of shop list) (machine - 1) =
    is.times machine from to ∙ sym (front_of-is shop list machine from to) in
    (omega (arith, front, is.work machine from to, low.0, cap.0), omega (arith, low.0, cap.0, cap.1))

-- the bound of a child with jobs left
pub child-bound : (shop : Shop) (list : List ℕ) (node : ListNode) (left job machine free t tail behind : ℕ)
    (two : TwoLeast) →
    IsWithinLimits shop → IsListNode shop list node (suc (suc left)) → 1 ≤ machine → machine ≤ shop.machines →
    1 ≤ job → job ≤ shop.jobs → has list job ≡ false → AreTwoLeastTails shop list machine two →
    free ≡ completion shop (list ++ job ∷ []) machine → t ≡ time shop job machine →
    tail ≡ time_between shop job (machine + 1) shop.machines → IsLeastWithout tail two.least two.second behind →
    (free + (slice_index node.work (machine - 1) - t) + behind ≡ bound_at shop (list ++ job ∷ []) machine)
    × (behind ≤ most_machines * greatest_time)
child-bound shop list node left job machine free t tail behind two limits is from to low high fresh are is_free is_t
    is_tail picked =
    let most : shop.machines ≤ most_machines = limits.machines in
    let f : ℕ → ℕ = λ j. time_between shop j (machine + 1) shop.machines in
    let behind_is : behind ≡ least_below least_of_none (tails shop machine (jobs_left shop.jobs (list ++ job ∷ []))) =
    without-left f shop.jobs list job tail two.least two.second behind low high fresh are.0 are.1 is_tail picked in
    let count = left-count shop.jobs list job low high fresh in
    let cap = least-below-cap least_of_none (most_machines * greatest_time) f (jobs_left shop.jobs (list ++ job
    ∷ [])) (omega (arith, is.some, count))
    (λ j. omega (arith, tail-small shop j (shop.machines - machine) machine limits (omega (arith, to)), most))
    (omega arith) in
    let front : free ≡ slice_index (front_of shop (list ++ job ∷ [])) (machine - 1) = is_free
    ∙ sym (front_of-is shop (list ++ job ∷ []) machine from to) in
    let sum = left-sum (λ j. time shop j machine) shop.jobs list job low high fresh in
    (omega (arith, front, is.work machine from to, sum, is_t, behind_is, cap.0), omega (arith, behind_is, cap.0, cap.1))

pub work-fits : (shop : Shop) (list : List ℕ) (node : ListNode) (left machine : ℕ) → IsWithinLimits shop →
    IsListNode shop list node left → 1 ≤ machine → machine ≤ shop.machines →
    slice_index node.work (machine - 1) ≤ most_jobs * greatest_time
work-fits shop list node left machine limits is from to =
    let most : shop.jobs ≤ most_jobs = limits.jobs in
    omega (arith, is.work machine from to, work-small shop list machine limits, most)
