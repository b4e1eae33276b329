-- A heaviest path, followed back from the last job on the last machine.
use Rattle.std.proofs.Common.{◌≡◌, ◌∙◌, ℕ, ◌+◌, ◌-◌, ◌<◌, ◌≤◌, List, [], ◌∷◌, length, drop, set}
use Rattle.std.proofs.Common.{slice_index, nat_eq, false, ap, sym, refl, subst, arith, replicate, inl, inr}
use Rattle.std.proofs.lemmas.Bool.{eqb-false, cases_lt}
use Rattle.std.proofs.lemmas.List.{drop-set, drop_all, take_all, length-replicate, get_or-replicate}
use Rattle.flow_shop.specs.Shop.{Shop, time, time_between}
use Rattle.flow_shop.specs.Paths.{IsPath, weight, completion, span}
use Rattle.flow_shop.proofs.Recurrence.{time_between-first}
use Rattle.flow_shop.proofs.EndSteps.{time-alone}
use Rattle.flow_shop.proofs.Lists.{drop-at}
use Rattle.flow_schedule.specs.Timetable.{job_at, start_at, end_at}
use Rattle.flow_schedule.specs.HeaviestPath.{IsHeaviestPath}
use Rattle.flow_schedule.proofs.Times.{end-there, end-first_job, end-first_machine}

-- from the operation at a place and a machine on, the path is heaviest: its weight and the start of the operation come
-- to the makespan
pub record IsHeaviestFrom (shop : Shop) (sequence path : List ℕ) (place machine : ℕ) : Type 0 where
  pub stairs : IsPath machine (drop (place - 1) path) shop.machines
  pub heaviest : start_at shop sequence place machine
      + weight shop (drop (place - 1) sequence) machine (drop (place - 1) path) ≡ span shop sequence

-- a job leaves its time after it starts
start-end : (shop : Shop) (sequence : List ℕ) (place machine : ℕ) → 1 ≤ place → place ≤ length sequence →
    1 ≤ machine → start_at shop sequence place machine + time shop (job_at sequence place) machine
    ≡ end_at shop sequence place machine
start-end shop sequence place machine from to first =
    omega (arith, end-there shop sequence place machine from to first)

-- the first job starts on a machine as it leaves the machine before
pub starts-first : (shop : Shop) (sequence : List ℕ) (place machine : ℕ) → place ≡ 1 → place ≤ length sequence →
    1 ≤ machine → start_at shop sequence place machine ≡ end_at shop sequence place (machine - 1)
starts-first shop sequence place machine first to from =
    let before : place - 1 ≡ 0 = omega arith in
    let none : end_at shop sequence (place - 1) machine ≡ 0 =
    ap (λ k. end_at shop sequence k machine) before ∙ end-first_job shop sequence machine in
    omega (arith, end-there shop sequence place machine (omega arith) to from, none)

-- so does a job that does not start as the job before leaves
pub starts-apart : (shop : Shop) (sequence : List ℕ) (place machine start before : ℕ) → 1 ≤ place →
    place ≤ length sequence → 1 ≤ machine → start ≡ start_at shop sequence place machine →
    before ≡ end_at shop sequence (place - 1) machine → nat_eq start before ≡ false →
    (1 < machine) × (start_at shop sequence place machine ≡ end_at shop sequence place (machine - 1))
starts-apart shop sequence place machine start before from to first starts leaves differ =
    let there = end-there shop sequence place machine from to first in
    let apart : start ≡ before → ⊥ = eqb-false start before differ in
    let none : machine ≡ 1 → end_at shop sequence place (machine - 1) ≡ 0 =
    λ (one : machine ≡ 1). let low : machine - 1 ≡ 0 = omega arith in
    ap (end_at shop sequence place) low ∙ end-first_machine shop sequence place in
    let later : 1 < machine = elim (cases_lt 1 machine) [
      | inl low ↦ low
      | inr high ↦ let one : machine ≡ 1 = omega arith in absurd (apart (omega (arith, there, none one)))
    ] in
    (later, omega (arith, there, apart))

-- the weight from a place on
weight-at : (shop : Shop) (sequence path : List ℕ) (place machine : ℕ) → 1 ≤ place → place ≤ length sequence →
    length path ≡ length sequence → weight shop (drop (place - 1) sequence) machine (drop (place - 1) path)
    ≡ time_between shop (job_at sequence place) machine (slice_index path (place - 1))
    + weight shop (drop place sequence) (slice_index path (place - 1)) (drop place path)
weight-at shop sequence path place machine from to each =
    ap (λ jobs. weight shop jobs machine (drop (place - 1) path)) (drop-at sequence place from to)
    ∙ ap (weight shop (job_at sequence place ∷ drop place sequence) machine) (drop-at path place from (omega arith))

-- at the last job on the last machine
pub from-last : (shop : Shop) (sequence path : List ℕ) (place : ℕ) → 1 ≤ place → place ≡ length sequence →
    length path ≡ length sequence → 1 ≤ shop.machines → slice_index path (place - 1) ≡ shop.machines →
    IsHeaviestFrom shop sequence path place shop.machines
from-last shop sequence path place from all each some last =
    let no_path : drop place path ≡ [] = drop_all place path (omega arith) in
    let no_jobs : drop place sequence ≡ [] = drop_all place sequence (omega arith) in
    let tail : drop (place - 1) path ≡ shop.machines ∷ [] =
    drop-at path place from (omega arith) ∙ ap (λ rest. slice_index path (place - 1) ∷ rest) no_path
    ∙ ap (λ k. k ∷ []) last in
    let jobs : drop (place - 1) sequence ≡ job_at sequence place ∷ [] =
    drop-at sequence place from (omega arith) ∙ ap (λ rest. job_at sequence place ∷ rest) no_jobs in
    let sum : weight shop (drop (place - 1) sequence) shop.machines (drop (place - 1) path)
    ≡ time_between shop (job_at sequence place) shop.machines shop.machines + 0 =
    ap (λ list. weight shop list shop.machines (drop (place - 1) path)) jobs
    ∙ ap (weight shop (job_at sequence place ∷ []) shop.machines) tail in
    let whole : end_at shop sequence place shop.machines ≡ span shop sequence =
    ap (λ list. completion shop list shop.machines) (take_all place sequence (omega arith)) in
    record {
      stairs = subst (λ (list : List ℕ). IsPath shop.machines list shop.machines) (sym tail) (omega arith, refl);
      heaviest = omega (
        arith,
        sum,
        time-alone shop (job_at sequence place) shop.machines,
        start-end shop sequence place shop.machines from (omega arith) some,
        whole,
      );
    }

-- where all of the path is the last machine
pub from-replicate : (shop : Shop) (sequence path : List ℕ) (place : ℕ) → 1 ≤ place → place ≡ length sequence →
    1 ≤ shop.machines → path ≡ replicate (length sequence) shop.machines →
    (length path ≡ length sequence) × IsHeaviestFrom shop sequence path place shop.machines
from-replicate shop sequence path place from all some is =
    let each : length path ≡ length sequence = ap length is ∙ length-replicate (length sequence) shop.machines in
    let last : slice_index path (place - 1) ≡ shop.machines =
    ap (λ list. slice_index list (place - 1)) is
    ∙ get_or-replicate (length sequence) (place - 1) shop.machines 0 (omega arith) in
    (each, from-last shop sequence path place from all each some last)

-- one machine back
pub from-machine_before : (shop : Shop) (sequence path : List ℕ) (place machine : ℕ) → 1 ≤ place →
    place ≤ length sequence → length path ≡ length sequence → 1 < machine →
    start_at shop sequence place machine ≡ end_at shop sequence place (machine - 1) →
    IsHeaviestFrom shop sequence path place machine → IsHeaviestFrom shop sequence path place (machine - 1)
from-machine_before shop sequence path place machine from to each some waits walked =
    let tail = drop-at path place from (omega arith) in
    let stairs : (machine ≤ slice_index path (place - 1))
    × IsPath (slice_index path (place - 1)) (drop place path) shop.machines =
    subst (λ (list : List ℕ). IsPath machine list shop.machines) tail walked.stairs in
    let low : machine ≤ slice_index path (place - 1) = stairs.0 in
    let next : machine - 1 + 1 ≡ machine = omega arith in
    let more : time_between shop (job_at sequence place) (machine - 1) (slice_index path (place - 1))
    ≡ time shop (job_at sequence place) (machine - 1)
    + time_between shop (job_at sequence place) machine (slice_index path (place - 1)) =
    time_between-first shop (job_at sequence place) (machine - 1) (slice_index path (place - 1)) (omega arith)
    ∙ ap (λ k. time shop (job_at sequence place) (machine - 1)
    + time_between shop (job_at sequence place) k (slice_index path (place - 1))) next in
    record {
      stairs = subst (λ (list : List ℕ). IsPath (machine - 1) list shop.machines) (sym tail) (omega arith, stairs.1);
      heaviest = omega (
        arith,
        more,
        weight-at shop sequence path place machine from to each,
        weight-at shop sequence path place (machine - 1) from to each,
        start-end shop sequence place (machine - 1) from to (omega arith),
        walked.heaviest,
        waits,
      );
    }

-- one job back
pub from-job_before : (shop : Shop) (sequence path : List ℕ) (place machine : ℕ) → 1 < place →
    place ≤ length sequence → length path ≡ length sequence → 1 ≤ machine →
    start_at shop sequence place machine ≡ end_at shop sequence (place - 1) machine →
    IsHeaviestFrom shop sequence path place machine →
    IsHeaviestFrom shop sequence (set path (place - 1 - 1) machine) (place - 1) machine
from-job_before shop sequence path place machine from to each some waits walked =
    let next : place - 1 - 1 + 1 ≡ place - 1 = omega arith in
    let tail : drop (place - 1 - 1) (set path (place - 1 - 1) machine) ≡ machine ∷ drop (place - 1) path =
    drop-set path (place - 1 - 1) machine (omega arith) ∙ ap (λ k. machine ∷ drop k path) next in
    let sum : weight shop (drop (place - 1 - 1) sequence) machine
    (drop (place - 1 - 1) (set path (place - 1 - 1) machine))
    ≡ time_between shop (job_at sequence (place - 1)) machine machine
    + weight shop (drop (place - 1) sequence) machine (drop (place - 1) path) =
    ap (λ jobs. weight shop jobs machine (drop (place - 1 - 1) (set path (place - 1 - 1) machine)))
    (drop-at sequence (place - 1) (omega arith) (omega arith))
    ∙ ap (weight shop (job_at sequence (place - 1) ∷ drop (place - 1) sequence) machine) tail in
    record {
      stairs = subst (λ (list : List ℕ). IsPath machine list shop.machines) (sym tail) (omega arith, walked.stairs);
      heaviest = omega (
        arith,
        sum,
        time-alone shop (job_at sequence (place - 1)) machine,
        start-end shop sequence (place - 1) machine (omega arith) (omega arith) some,
        walked.heaviest,
        waits,
      );
    }

-- at the first job on the first machine it is the whole path
pub from-first : (shop : Shop) (sequence path : List ℕ) → 1 ≤ length sequence → length path ≡ length sequence →
    IsHeaviestFrom shop sequence path 1 1 → IsHeaviestPath shop sequence path
from-first shop sequence path some each walked =
    let first = end-there shop sequence 1 1 (omega arith) some (omega arith) in
    record {
      each = each;
      stairs = walked.stairs;
      heaviest = omega (
        arith,
        walked.heaviest,
        first,
        end-first_job shop sequence 1,
        end-first_machine shop sequence 1,
      );
    }

-- the same where the place and the machine are at most that
pub from-least : (shop : Shop) (sequence path : List ℕ) (place machine : ℕ) → 1 ≤ place → 1 ≤ machine →
    place + machine ≤ 2 → 1 ≤ length sequence → length path ≡ length sequence →
    IsHeaviestFrom shop sequence path place machine → IsHeaviestPath shop sequence path
from-least shop sequence path place machine from first least some each walked =
    let place_is : place ≡ 1 = omega arith in
    let machine_is : machine ≡ 1 = omega arith in
    let at_place : IsHeaviestFrom shop sequence path 1 machine =
    subst (λ (k : ℕ). IsHeaviestFrom shop sequence path k machine) place_is walked in
    from-first shop sequence path some each
    (subst (λ (k : ℕ). IsHeaviestFrom shop sequence path 1 k) machine_is at_place)
