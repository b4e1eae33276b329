-- Where an operation stands in the timetable.
use Rattle.std.proofs.Common.{◌≡◌, ◌∙◌, ℕ, zero, suc, ◌+◌, ◌-◌, ◌*◌, ◌<◌, ◌≤◌, List, length, map, get_or, ap, arith}
use Rattle.std.proofs.Common.{suc-mul, length-append}
use Rattle.std.specs.List.{flat_map, range_with_len}
use Rattle.std.proofs.lemmas.List.{get_or_append_left, get_or-append-add}
use Rattle.std.proofs.lemmas.List.FromFn.{length-map-range_with_len, get_or-map-range_with_len}
use Rattle.std.proofs.Common.{All}
use Rattle.std.proofs.lemmas.List.Elements.{All-nil, All-cons, All-append}
use Rattle.flow_shop.specs.Shop.{Shop, IsWithinLimits}
use Rattle.flow_schedule.specs.Timetable.{operation, operations_at, timetable, IsOperationOf}
use Rattle.flow_schedule.proofs.Times.{end-small}
use Rattle.flow_schedule.specs.declared.operations.Operation.{Operation}

-- the element of a table, row by row
table-at : {X : Type 0} (g : ℕ → List X) (w : ℕ) → ((k : ℕ) → length (g k) ≡ w) → (a n i j : ℕ) (d : X) → i < n →
    j < w → get_or (flat_map g (range_with_len a n)) (i * w + j) d ≡ get_or (g (a + i)) j d
table-at g w wide a zero i j d p q = absurd (omega arith)
table-at g w wide a (suc n) zero j d p q =
    let here : 0 * w + j ≡ j = omega arith in
    let first : a ≡ a + 0 = omega arith in
    let short : j < length (g a) = omega (arith, wide a) in
    ap (λ k. get_or (flat_map g (range_with_len a (suc n))) k d) here
    ∙ get_or_append_left (g a) (flat_map g (range_with_len (a + 1) n)) d j short
    ∙ ap (λ k. get_or (g k) j d) first
table-at g w wide a (suc n) (suc i) j d p q =
    let here : suc i * w + j ≡ length (g a) + (i * w + j) = omega (arith, wide a, suc-mul i w) in
    let next : a + 1 + i ≡ a + suc i = omega arith in
    ap (λ k. get_or (flat_map g (range_with_len a (suc n))) k d) here
    ∙ get_or-append-add (g a) (flat_map g (range_with_len (a + 1) n)) (i * w + j) d
    ∙ table-at g w wide (a + 1) n i j d (omega arith) q
    ∙ ap (λ k. get_or (g k) j d) next

-- how many elements it has
length-table : {X : Type 0} (g : ℕ → List X) (w : ℕ) → ((k : ℕ) → length (g k) ≡ w) → (a n : ℕ) →
    length (flat_map g (range_with_len a n)) ≡ n * w
length-table g w wide a zero = omega arith
length-table g w wide a (suc n) =
    omega (
      arith,
      length-append (g a) (flat_map g (range_with_len (a + 1) n)),
      wide a,
      length-table g w wide (a + 1) n,
      suc-mul n w,
    )

-- each job has an operation on each machine
row-length : (shop : Shop) (sequence : List ℕ) (place : ℕ) → length (operations_at shop sequence place) ≡ shop.machines
row-length shop sequence place =
    length-map-range_with_len (operation shop sequence place) 1 (shop.machines + 1 - 1) ∙ omega arith

-- how many operations a timetable has
pub timetable-length : (shop : Shop) (sequence : List ℕ) →
    length (timetable shop sequence) ≡ length sequence * shop.machines
timetable-length shop sequence =
    let all : length sequence + 1 - 1 ≡ length sequence = omega arith in
    length-table (operations_at shop sequence) shop.machines (row-length shop sequence) 1 (length sequence + 1 - 1)
    ∙ ap (λ n. n * shop.machines) all

-- the operation that stands at a place and a machine
pub timetable-at : (shop : Shop) (sequence : List ℕ) (place machine : ℕ) (other : Operation) → 1 ≤ place →
    place ≤ length sequence → 1 ≤ machine → machine ≤ shop.machines →
    get_or (timetable shop sequence) ((place - 1) * shop.machines + (machine - 1)) other
    ≡ operation shop sequence place machine
timetable-at shop sequence place machine other from to first last =
    let there : 1 + (place - 1) ≡ place = omega arith in
    let column : 1 + (machine - 1) ≡ machine = omega arith in
    table-at (operations_at shop sequence) shop.machines (row-length shop sequence) 1 (length sequence + 1 - 1)
    (place - 1) (machine - 1) other (omega arith) (omega arith)
    ∙ ap (λ k. get_or (operations_at shop sequence k) (machine - 1) other) there
    ∙ get_or-map-range_with_len (operation shop sequence place) 1 (shop.machines + 1 - 1) (machine - 1) machine other
    (omega arith) column

-- what holds of each element of each row holds of each element of the table
all-table : {X : Type 0} (P : X → Type 0) (g : ℕ → List X) (a n : ℕ) →
    ((k : ℕ) → a ≤ k → k < a + n → All P (g k)) → All P (flat_map g (range_with_len a n))
all-table P g a zero each = All-nil P
all-table P g a (suc n) each =
    All-append P (g a) (flat_map g (range_with_len (a + 1) n)) (each a (omega arith) (omega arith))
    (all-table P g (a + 1) n (λ k low high. each k (omega arith) (omega arith)))

-- what holds at each number of a range
all-row : {X : Type 0} (P : X → Type 0) (f : ℕ → X) (a n : ℕ) →
    ((k : ℕ) → a ≤ k → k < a + n → P (f k)) → All P (map f (range_with_len a n))
all-row P f a zero each = All-nil P
all-row P f a (suc n) each =
    All-cons P (f a) (map f (range_with_len (a + 1) n)) (each a (omega arith) (omega arith))
    (all-row P f (a + 1) n (λ k low high. each k (omega arith) (omega arith)))

-- the operations of a timetable are of the shop
pub timetable-within : (shop : Shop) (sequence : List ℕ) → IsWithinLimits shop → length sequence ≡ shop.jobs →
    All (IsOperationOf shop) (timetable shop sequence)
timetable-within shop sequence limits whole =
    all-table (IsOperationOf shop) (operations_at shop sequence) 1 (length sequence + 1 - 1)
    (λ place from to. all-row (IsOperationOf shop) (operation shop sequence place) 1 (shop.machines + 1 - 1)
    (λ machine first last. record {
      place_from = from;
      place_to = omega arith;
      machine_from = first;
      machine_to = omega arith;
      within = end-small shop sequence place machine limits (omega arith) (omega arith);
    }))
