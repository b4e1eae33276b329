-- What operations on four numbers do to each, and the greatest of several numbers.
use Rattle.std.proofs.Common.{◌≡◌, ℕ, zero, suc, ◌+◌, ◌-◌, ◌%◌, ◌^◌, ◌<◌, ◌≤◌, max, ◌≢◌, All, List, [], ◌∷◌, ◌++◌, length}
use Rattle.std.proofs.Common.{get_or, slice_index, set, refl, ap, sym, ◌∙◌, subst, inl, inr, arith}
use Rattle.std.specs.Simd.Lanes.{zip2}
use Rattle.std.proofs.lemmas.Bool.{cases_lt}
use Rattle.std.proofs.lemmas.List.{get_or_append_left, get_or-set_same, get_or-set_other}
use Rattle.std.proofs.lemmas.Simd.{length-zip2, get_or-zip2}
use Rattle.flow_shop.specs.Shop.{Shop, AreOf, IsWithinLimits, time, time_between}
use Rattle.flow_shop.specs.Rows.{IsRow}
use Rattle.flow_shop.specs.declared.row.Row.{Row}
use Rattle.flow_shop.specs.Ends.{front, back}
use Rattle.flow_shop.proofs.EndSteps.{front_by_recurrence, back-is, back-past}
use Rattle.flow_shop.proofs.Fronts.{tail-small}
use Rattle.flow_shop.proofs.Recurrence.{time_between-first}
use Rattle.flow_nodes.specs.Vectors.{HasLane}
use Rattle.flow_nodes.specs.Nodes.{IsJob}
use Rattle.flow_nodes.specs.internal.Scan.{greatest_to, greatest_from, done_at, begun_at}
use Rattle.flow_nodes.proofs.ChildSteps.{are-at}
use Rattle.flow_nodes.proofs.TurnedTimes.{below-four}

-- the differences and the sums of two lists of four numbers
abbrev pub differences : List ℕ → List ℕ → List ℕ
differences = zip2 (λ a b. (a + (2 ^ 32 - b)) % 2 ^ 32)

abbrev pub sums : List ℕ → List ℕ → List ℕ
sums = zip2 (λ a b. (a + b) % 2 ^ 32)

less : (a b : ℕ) → b ≤ a → a < 4294967296 → (a + (4294967296 - b)) % 4294967296 ≡ a - b
less a b low small = omega arith

module _ (xs ys : List ℕ) (x : length xs ≡ 4) (y : length ys ≡ 4) where
  pub differences-size : length (differences xs ys) ≡ 4
  differences-size = length-zip2 (λ a b. (a + (2 ^ 32 - b)) % 2 ^ 32) xs ys (x ∙ sym y) ∙ x

  pub differences-each : (lane : ℕ) → lane < 4 → slice_index ys lane ≤ slice_index xs lane →
      slice_index xs lane < 2 ^ 32 → slice_index (differences xs ys) lane ≡ slice_index xs lane - slice_index ys lane
  differences-each lane within low small =
      get_or-zip2 (λ a b. (a + (2 ^ 32 - b)) % 2 ^ 32) xs ys lane 0 0 0 (omega arith) (omega arith)
      ∙ less (slice_index xs lane) (slice_index ys lane) low small

  pub sums-size : length (sums xs ys) ≡ 4
  sums-size = length-zip2 (λ a b. (a + b) % 2 ^ 32) xs ys (x ∙ sym y) ∙ x

  pub sums-each : (lane : ℕ) → lane < 4 → slice_index xs lane + slice_index ys lane < 2 ^ 32 →
      slice_index (sums xs ys) lane ≡ slice_index xs lane + slice_index ys lane
  sums-each lane within small =
      get_or-zip2 (λ a b. (a + b) % 2 ^ 32) xs ys lane 0 0 0 (omega arith) (omega arith)
      ∙ omega (arith, small)

-- a lane has its own number
pub own-lane : (cap : ℕ) (xs : List ℕ) (lane : ℕ) → length xs ≡ 4 → lane < 4 → slice_index xs lane ≤ cap →
    HasLane cap 4 xs lane (slice_index xs lane)
own-lane cap xs lane size within small = record { count = size; within = within; value = omega (arith, small) }

-- a fact about each number below three
pub below-three : (P : ℕ → Type 0) → P 0 → P 1 → P 2 → (n : ℕ) → n < 3 → P n
below-three P one two three zero low = one
below-three P one two three (suc zero) low = two
below-three P one two three (suc (suc zero)) low = three
below-three P one two three (suc (suc (suc n))) low = absurd (omega (arith, low))

-- a lane of a vector beside itself
pub lane-left : (xs : List ℕ) → length xs ≡ 4 → (lane : ℕ) → lane < 4 → get_or (xs ++ xs) lane 0 ≡ slice_index xs lane
lane-left xs size lane within = get_or_append_left xs xs 0 lane (omega arith)

-- one more number
pub greatest-none : (f : ℕ → ℕ) → greatest_to f 0 ≡ 0
unfolding greatest_to
greatest-none f = refl

pub greatest-step : (f : ℕ → ℕ) (n m : ℕ) → m ≡ n + 1 → greatest_to f m ≡ max (greatest_to f n) (f n)
unfolding greatest_to
greatest-step f n m is = let e : m ≡ suc n = omega (arith, is) in ap (greatest_to f) e

pub from-none : (f : ℕ → ℕ) (place : ℕ) → greatest_from f 0 place ≡ 0
unfolding greatest_from
from-none f place = refl

pub from-step : (f : ℕ → ℕ) (n m place next : ℕ) → m ≡ n + 1 → next ≡ place + 1 →
    greatest_from f m place ≡ max (greatest_from f n next) (f place)
unfolding greatest_from
from-step f n m place next is after =
    let e : m ≡ suc n = omega (arith, is) in
    ap (λ k. greatest_from f k place) e ∙ ap (λ k. max (greatest_from f n k) (f place)) (sym after)

-- four more numbers, up and down
pub up-four : (f : ℕ → ℕ) (at : ℕ) (result numbers : List ℕ) →
    slice_index result 0 ≡ max (greatest_to f at) (slice_index numbers 0) →
    ((lane : ℕ) → lane < 3 →
    slice_index result (lane + 1) ≡ max (slice_index result lane) (slice_index numbers (lane + 1))) →
    ((lane : ℕ) → lane < 4 → slice_index numbers lane ≡ f (at + lane)) → (lane : ℕ) → lane < 4 →
    slice_index result lane ≡ greatest_to f (at + (lane + 1))
up-four f at result numbers first next are =
    let none : at + 0 ≡ at = omega arith in
    let r0 : slice_index result 0 ≡ greatest_to f (at + 1) =
    omega (arith, first, are 0 (omega arith), ap f none, greatest-step f at (at + 1) refl) in
    let r1 : slice_index result 1 ≡ greatest_to f (at + 2) =
    omega (arith, r0, next 0 (omega arith), are 1 (omega arith), greatest-step f (at + 1) (at + 2) (omega arith)) in
    let r2 : slice_index result 2 ≡ greatest_to f (at + 3) =
    omega (arith, r1, next 1 (omega arith), are 2 (omega arith), greatest-step f (at + 2) (at + 3) (omega arith)) in
    let r3 : slice_index result 3 ≡ greatest_to f (at + 4) =
    omega (arith, r2, next 2 (omega arith), are 3 (omega arith), greatest-step f (at + 3) (at + 4) (omega arith)) in
    below-four (λ lane. slice_index result lane ≡ greatest_to f (at + (lane + 1))) r0 r1 r2 r3

pub down-four : (f : ℕ → ℕ) (at count behind : ℕ) (result numbers : List ℕ) →
    behind ≡ greatest_from f count (at + 4) → slice_index result 3 ≡ max behind (slice_index numbers 3) →
    ((lane : ℕ) → lane < 3 →
    slice_index result lane ≡ max (slice_index result (lane + 1)) (slice_index numbers lane)) →
    ((lane : ℕ) → lane < 4 → slice_index numbers lane ≡ f (at + lane)) → (lane : ℕ) → lane < 4 →
    slice_index result lane ≡ greatest_from f (count + (4 - lane)) (at + lane)
down-four f at count behind result numbers is last next are =
    let r3 : slice_index result 3 ≡ greatest_from f (count + 1) (at + 3) =
    omega (
      arith,
      is,
      last,
      are 3 (omega arith),
      from-step f count (count + 1) (at + 3) (at + 4) refl (omega arith),
    ) in
    let r2 : slice_index result 2 ≡ greatest_from f (count + 2) (at + 2) =
    omega (
      arith,
      r3,
      next 2 (omega arith),
      are 2 (omega arith),
      from-step f (count + 1) (count + 2) (at + 2) (at + 3) (omega arith) (omega arith),
    ) in
    let r1 : slice_index result 1 ≡ greatest_from f (count + 3) (at + 1) =
    omega (
      arith,
      r2,
      next 1 (omega arith),
      are 1 (omega arith),
      from-step f (count + 2) (count + 3) (at + 1) (at + 2) (omega arith) (omega arith),
    ) in
    let r0 : slice_index result 0 ≡ greatest_from f (count + 4) (at + 0) =
    omega (
      arith,
      r1,
      next 0 (omega arith),
      are 0 (omega arith),
      from-step f (count + 3) (count + 4) (at + 0) (at + 1) (omega arith) (omega arith),
    ) in
    below-four (λ lane. slice_index result lane ≡ greatest_from f (count + (4 - lane)) (at + lane)) r0 r1 r2 r3

-- the tails of a row
module _ (shop : Shop) (job : ℕ) (row : Row) (is : IsRow shop job row) where
  time-at : (place : ℕ) → place < shop.machines → slice_index row.times place ≡ time shop job (place + 1)
  time-at place low =
      let same : place ≡ place + 1 - 1 = omega arith in
      ap (slice_index row.times) same ∙ (is (place + 1) (omega arith) (omega arith)).0

  tail-at : (place : ℕ) → place < shop.machines →
      slice_index row.tails place ≡ time_between shop job (place + 1 + 1) shop.machines
  tail-at place low =
      let same : place ≡ place + 1 - 1 = omega arith in
      ap (slice_index row.tails) same ∙ (is (place + 1) (omega arith) (omega arith)).1

  tails-next : (place next : ℕ) → place + 1 ≡ next → next < shop.machines →
      slice_index row.tails place ≡ slice_index row.times next + slice_index row.tails next
  tails-next place next e low =
      omega (
        arith,
        tail-at place (omega arith),
        ap (λ i. time_between shop job (i + 1) shop.machines) e,
        time_between-first shop job (next + 1) shop.machines (omega arith),
        time-at next low,
        tail-at next low,
      )

  pub row-tail-small : (place : ℕ) → IsWithinLimits shop → place < shop.machines →
      slice_index row.tails place ≤ 25000000
  row-tail-small place limits low =
      let most : shop.machines ≤ 26 = limits.machines in
      omega (
        arith,
        tail-at place low,
        tail-small shop job (shop.machines - (place + 1)) (place + 1) limits (omega arith),
      )

  -- the fronts and the backs of the child are the greatest of its numbers
  pub front-done : (first fronts : List ℕ) → All (λ job. IsJob shop job) first → IsJob shop job →
      AreOf shop (front shop first) fronts → (place : ℕ) → place < shop.machines →
      front shop (first ++ job ∷ []) (place + 1) + slice_index row.tails place
      ≡ greatest_to (done_at fronts row.times row.tails) (place + 1)
  front-done first fronts all range are zero low =
      let f : ℕ → ℕ = done_at fronts row.times row.tails in
      omega (
        arith,
        (front_by_recurrence shop first job 0 all range.0 range.1).0,
        (front_by_recurrence shop first job 0 all range.0 range.1).1,
        are-at shop (front shop first) fronts 0 are low,
        time-at 0 low,
        greatest-none (done_at fronts row.times row.tails),
        greatest-step (done_at fronts row.times row.tails) 0 (0 + 1) refl,
      )
  front-done first fronts all range are (suc place) low =
      let k : ℕ = suc place in
      let e : place + 1 ≡ k = omega arith in
      let before : front shop (first ++ job ∷ []) k + slice_index row.tails place
      ≡ greatest_to (done_at fronts row.times row.tails) k =
      subst (λ m. front shop (first ++ job ∷ []) m + slice_index row.tails place
      ≡ greatest_to (done_at fronts row.times row.tails) m) e
      (front-done first fronts all range are place (omega arith)) in
      omega (
        arith,
        before,
        tails-next place k e low,
        (front_by_recurrence shop first job k all range.0 range.1).1,
        are-at shop (front shop first) fronts k are low,
        time-at k low,
        greatest-step (done_at fronts row.times row.tails) k (k + 1) refl,
      )

  pub back-begun : (last backs : List ℕ) →
      ((place : ℕ) → place < shop.machines → slice_index row.tails place ≤ 25000000) → IsJob shop job →
      AreOf shop (back shop last) backs → (n place : ℕ) → place + (n + 1) ≡ shop.machines →
      back shop (job ∷ last) (place + 1) + 26000000 ≡ greatest_from (begun_at backs row.tails) (n + 1) place
      + (slice_index row.times place + slice_index row.tails place)
  back-begun last backs small range are zero place is =
      omega (
        arith,
        back-is shop last job (place + 1) range.0 range.1 (omega arith),
        back-past shop last job (place + 1 + 1) (omega arith),
        are-at shop (back shop last) backs place are (omega arith),
        time-at place (omega arith),
        small place (omega arith),
        from-none (begun_at backs row.tails) (place + 1),
        from-step (begun_at backs row.tails) 0 (0 + 1) place (place + 1) refl refl,
      )
  back-begun last backs small range are (suc n) place is =
      let e : n + 1 + 1 ≡ suc n + 1 = omega arith in
      omega (
        arith,
        back-begun last backs small range are n (place + 1) (omega arith),
        back-is shop last job (place + 1) range.0 range.1 (omega arith),
        are-at shop (back shop last) backs place are (omega arith),
        time-at place (omega arith),
        small place (omega arith),
        tails-next place (place + 1) refl (omega arith),
        from-step (begun_at backs row.tails) (n + 1) (suc n + 1) place (place + 1) (sym e) refl,
      )

-- one more place is written, counted down
pub filled-from : (P : ℕ → ℕ → Type 0) (xs : List ℕ) (at value : ℕ) → at < length xs → P at value → (most : ℕ) →
    ((place : ℕ) → at + 1 ≤ place → place < most → P place (slice_index xs place)) → (place : ℕ) → at ≤ place →
    place < most → P place (slice_index (set xs at value) place)
filled-from P xs at value within here most before place low high = elim (cases_lt at place) [
  | inl above ↦
      let other : place ≢ at = omega arith in
      subst (P place) (sym (get_or-set_other xs at place value 0 other)) (before place (omega arith) high)
  | inr below ↦
      let e : at ≡ place = omega arith in
      let there : slice_index (set xs at value) place ≡ value =
      ap (slice_index (set xs at value)) (sym e) ∙ get_or-set_same xs at value 0 within in
      subst (P place) (sym there) (subst (λ i. P i value) e here)
]

-- no number up to a lane is greater than one that none of the four and none before is greater than
pub up-small : (most : ℕ) (result numbers : List ℕ) → slice_index result 0 ≤ most →
    ((lane : ℕ) → lane < 3 →
    slice_index result (lane + 1) ≡ max (slice_index result lane) (slice_index numbers (lane + 1))) →
    ((lane : ℕ) → lane < 4 → slice_index numbers lane ≤ most) → (lane : ℕ) → lane < 4 → slice_index result lane ≤ most
up-small most result numbers r0 next few =
    let r1 : slice_index result 1 ≤ most = omega (arith, r0, next 0 (omega arith), few 1 (omega arith)) in
    let r2 : slice_index result 2 ≤ most = omega (arith, r1, next 1 (omega arith), few 2 (omega arith)) in
    let r3 : slice_index result 3 ≤ most = omega (arith, r2, next 2 (omega arith), few 3 (omega arith)) in
    below-four (λ lane. slice_index result lane ≤ most) r0 r1 r2 r3

pub down-small : (most : ℕ) (result numbers : List ℕ) → slice_index result 3 ≤ most →
    ((lane : ℕ) → lane < 3 →
    slice_index result lane ≡ max (slice_index result (lane + 1)) (slice_index numbers lane)) →
    ((lane : ℕ) → lane < 4 → slice_index numbers lane ≤ most) → (lane : ℕ) → lane < 4 → slice_index result lane ≤ most
down-small most result numbers r3 next few =
    let r2 : slice_index result 2 ≤ most = omega (arith, r3, next 2 (omega arith), few 2 (omega arith)) in
    let r1 : slice_index result 1 ≤ most = omega (arith, r2, next 1 (omega arith), few 1 (omega arith)) in
    let r0 : slice_index result 0 ≤ most = omega (arith, r1, next 0 (omega arith), few 0 (omega arith)) in
    below-four (λ lane. slice_index result lane ≤ most) r0 r1 r2 r3
