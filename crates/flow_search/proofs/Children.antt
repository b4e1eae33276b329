-- The bounds of a node's children.
use Rattle.std.proofs.Common.{◌≡◌, ℕ, zero, suc, ◌+◌, ◌-◌, ◌*◌, ◌≤◌, Bool, true, false, cond, List, [], ◌∷◌, ◌++◌, map}
use Rattle.std.proofs.Common.{slice_index, ap, sym, ◌∙◌, arith}
use Rattle.std.specs.List.{filter}
use Rattle.std.proofs.lemmas.List.{append-nil}
use Rattle.flow_limits.specs.Limits.{most_machines, greatest_time}
use Rattle.flow_shop.specs.Shop.{Shop, numbers, time, time_between, IsWithinLimits}
use Rattle.flow_shop.specs.Paths.{completion}
use Rattle.flow_shop.specs.Front.{IsWithinFront}
use Rattle.flow_shop.specs.Sequences.{jobs_left}
use Rattle.flow_shop.specs.Bound.{bound_at, front_of, release, released_bound_at}
use Rattle.flow_shop.proofs.Fronts.{front-within}
use Rattle.flow_shop.proofs.JobsLeft.{filter-more}
use Rattle.flow_shop.proofs.Admissible.{front_of-is}
use Rattle.flow_shop.specs.TwoLeast.{IsLeastWithout, tails, least_below, second_below, least_of_none}
use Rattle.flow_search.specs.internal.Frames.{IsFrame, IsChild}
use Rattle.flow_search.specs.declared.frame.Frame.{Frame}
use Rattle.flow_shop.proofs.Extremes.{map-map-append}
use Rattle.flow_shop.proofs.Taken.{left-sum, left-count, left-split, left-without, left_under, left_from}
use Rattle.flow_shop.proofs.TwoLeastSteps.{without-one, same-without, least-below-cap}
use Rattle.flow_shop.proofs.Fronts.{tail-small}

pub frame-within : (shop : Shop) (node : List ℕ) (left : ℕ) (frame : Frame) → IsWithinLimits shop →
    IsFrame shop node left frame →
    IsWithinFront shop frame.front
frame-within shop node left frame limits is =
    front-within shop node frame.front limits (omega (arith, is.count)) is.times

-- the least number of the jobs that a child leaves: the second least where its job has the least, else the least
pub child-least : (f : ℕ → ℕ) (n : ℕ) (node : List ℕ) (job own least second value : ℕ) → IsChild n node job →
    own ≡ f job → least ≡ least_below least_of_none (map f (jobs_left n node)) →
    second ≡ second_below least_of_none least_of_none (map f (jobs_left n node)) → IsLeastWithout own least second
    value →
    value ≡ least_below least_of_none (map f (jobs_left n (node ++ job ∷ [])))
child-least f n node job own least second value kid own_is least_is second_is picked =
    let us : List ℕ = left_under node job in
    let vs : List ℕ = left_from n node (job + 1) in
    let whole : map f (jobs_left n node) ≡ map f us ++ f job ∷ map f vs =
    ap (map f) (left-split n node job kid.from kid.to kid.fresh) ∙ map-map-append f us (job ∷ vs) in
    let rest : map f (jobs_left n (node ++ job ∷ [])) ≡ map f us ++ map f vs =
    ap (map f) (left-without n node job kid.from kid.to) ∙ map-map-append f us vs in
    let one : IsLeastWithout (f job) (least_below least_of_none (map f us ++ f job ∷ map f vs))
    (second_below least_of_none least_of_none (map f us ++ f job ∷ map f vs))
    (least_below least_of_none (map f us ++ map f vs)) =
    without-one (f job) least_of_none least_of_none (map f us) (map f vs) (omega arith) in
    same-without own (f job) least (least_below least_of_none (map f us ++ f job ∷ map f vs)) second
    (second_below least_of_none least_of_none (map f us ++ f job ∷ map f vs)) value
    (least_below least_of_none (map f us ++ map f vs)) own_is (least_is ∙ ap (least_below least_of_none) whole)
    (second_is ∙ ap (second_below least_of_none least_of_none) whole) picked one
    ∙ sym (ap (least_below least_of_none) rest)

-- what stands behind a machine at a child: the second least tail where its job has the least, else the least
pub child-tail : (shop : Shop) (node : List ℕ) (left job machine tail behind : ℕ) (frame : Frame) →
    IsWithinLimits shop →
    IsFrame shop node (suc (suc left)) frame → IsChild shop.jobs node job → 1 ≤ machine → machine ≤ shop.machines →
    tail ≡ time_between shop job (machine + 1) shop.machines →
    IsLeastWithout tail (slice_index frame.loads.tails (machine - 1)) (slice_index frame.second (machine - 1)) behind →
    behind ≡ least_below least_of_none (tails shop machine (jobs_left shop.jobs (node ++ job ∷ [])))
child-tail shop node left job machine tail behind frame limits is kid from to is_tail picked =
    let most : shop.machines ≤ most_machines = limits.machines in
    let f : ℕ → ℕ = λ j. time_between shop j (machine + 1) shop.machines in
    let cap = least-below-cap least_of_none (most_machines * greatest_time) f (jobs_left shop.jobs node) (omega
    (arith, is.some))
    (λ j. omega (arith, tail-small shop j (shop.machines - machine) machine limits (omega (arith, to)), most))
    (omega arith) in
    child-least f shop.jobs node job tail (slice_index frame.loads.tails (machine - 1))
    (slice_index frame.second (machine - 1)) behind kid is_tail (is.loads_are.tails_are machine from to ∙ sym cap.0)
    (is.second_is machine from to) picked

-- the bound of a child with jobs left: when its job starts, the time owed at the node, and what stands behind
pub child-bound : (shop : Shop) (node : List ℕ) (left job machine start t tail behind : ℕ) (frame : Frame) →
    IsWithinLimits shop →
    IsFrame shop node (suc (suc left)) frame → IsChild shop.jobs node job → 1 ≤ machine → machine ≤ shop.machines →
    start + t ≡ completion shop (node ++ job ∷ []) machine → t ≡ time shop job machine →
    tail ≡ time_between shop job (machine + 1) shop.machines →
    IsLeastWithout tail (slice_index frame.loads.tails (machine - 1)) (slice_index frame.second (machine - 1)) behind →
    (start + slice_index frame.loads.sums (machine - 1) + behind ≡ bound_at shop (node ++ job ∷ []) machine)
    × (behind ≤ most_machines * greatest_time)
child-bound shop node left job machine start t tail behind frame limits is kid from to is_free is_t is_tail picked =
    let most : shop.machines ≤ most_machines = limits.machines in
    let f : ℕ → ℕ = λ j. time_between shop j (machine + 1) shop.machines in
    let behind_is = child-tail shop node left job machine tail behind frame limits is kid from to is_tail picked in
    let count = left-count shop.jobs node job kid.from kid.to kid.fresh in
    let cap = least-below-cap least_of_none (most_machines * greatest_time) f (jobs_left shop.jobs (node ++ job ∷ []))
    (omega (arith, is.some, count))
    (λ j. omega (arith, tail-small shop j (shop.machines - machine) machine limits (omega (arith, to)), most))
    (omega arith) in
    let front : completion shop (node ++ job ∷ []) machine
    ≡ slice_index (front_of shop (node ++ job ∷ [])) (machine - 1) =
    sym (front_of-is shop (node ++ job ∷ []) machine from to) in
    let sum = left-sum (λ j. time shop j machine) shop.jobs node job kid.from kid.to kid.fresh in (
      omega (arith, is_free, front, is.loads_are.sums_are machine from to, sum, is_t, behind_is, cap.0),
      omega (arith, behind_is, cap.0, cap.1),
    )

-- the released bound of a child with jobs left: the release without its job's time, the time owed at the node, and what
-- stands behind
pub child-released : (shop : Shop) (node : List ℕ) (left job machine late t tail behind : ℕ) (frame : Frame) →
    IsWithinLimits shop →
    IsFrame shop node (suc (suc left)) frame → IsChild shop.jobs node job → 1 ≤ machine → machine ≤ shop.machines →
    late ≡ release shop (front_of shop (node ++ job ∷ [])) (jobs_left shop.jobs (node ++ job ∷ [])) machine →
    t ≤ late → t ≡ time shop job machine →
    tail ≡ time_between shop job (machine + 1) shop.machines →
    IsLeastWithout tail (slice_index frame.loads.tails (machine - 1)) (slice_index frame.second (machine - 1)) behind →
    late - t + (slice_index frame.loads.sums (machine - 1) + behind) ≡ released_bound_at shop (node ++ job ∷ []) machine
child-released shop node left job machine late t tail behind frame limits is kid from to is_late low is_t is_tail
    picked =
    let most : shop.machines ≤ most_machines = limits.machines in
    let f : ℕ → ℕ = λ j. time_between shop j (machine + 1) shop.machines in
    let behind_is = child-tail shop node left job machine tail behind frame limits is kid from to is_tail picked in
    let count = left-count shop.jobs node job kid.from kid.to kid.fresh in
    let cap = least-below-cap least_of_none (most_machines * greatest_time) f (jobs_left shop.jobs (node ++ job ∷ []))
    (omega (arith, is.some, count))
    (λ j. omega (arith, tail-small shop j (shop.machines - machine) machine limits (omega (arith, to)), most))
    (omega arith) in
    let sum = left-sum (λ j. time shop j machine) shop.jobs node job kid.from kid.to kid.fresh in
    omega (arith, is_late, low, is.loads_are.sums_are machine from to, sum, is_t, behind_is, cap.0)

-- the jobs so far that pass a test
pub filter-take : (p : ℕ → Bool) (job : ℕ) → 1 ≤ job → p job ≡ true →
    filter p (numbers 1 (job + 1 - 1)) ≡ filter p (numbers 1 (job - 1)) ++ job ∷ []
filter-take p zero low there = absurd (omega arith)
filter-take p (suc n) low there =
    let a : suc n + 1 - 1 ≡ suc n = omega arith in
    let b : n ≡ suc n - 1 = omega arith in
    ap (λ m. filter p (numbers 1 m)) a
    ∙ filter-more p n
    ∙ ap (λ t. filter p (numbers 1 n) ++ cond t (suc n ∷ []) []) there
    ∙ ap (λ m. filter p (numbers 1 m) ++ suc n ∷ []) b

pub filter-leave : (p : ℕ → Bool) (job : ℕ) → 1 ≤ job → p job ≡ false →
    filter p (numbers 1 (job + 1 - 1)) ≡ filter p (numbers 1 (job - 1))
filter-leave p zero low out = absurd (omega arith)
filter-leave p (suc n) low out =
    let a : suc n + 1 - 1 ≡ suc n = omega arith in
    let b : n ≡ suc n - 1 = omega arith in
    ap (λ m. filter p (numbers 1 m)) a
    ∙ filter-more p n
    ∙ ap (λ t. filter p (numbers 1 n) ++ cond t (suc n ∷ []) []) out
    ∙ append-nil (filter p (numbers 1 n))
    ∙ ap (λ m. filter p (numbers 1 m)) b
