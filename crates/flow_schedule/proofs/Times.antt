-- The times of operations: by the recurrence, and within the limits.
use Rattle.std.proofs.Common.{◌≡◌, ◌∙◌, ℕ, ◌+◌, ◌-◌, ◌<◌, ◌≤◌, max, List, [], ◌∷◌, ◌++◌, length, take, slice_index}
use Rattle.std.proofs.Common.{ap, sym, refl, subst, arith, length-take}
use Rattle.std.proofs.lemmas.List.{take_more, take_all}
use Rattle.flow_limits.specs.Limits.{most_jobs, most_machines, greatest_completion}
use Rattle.flow_shop.specs.Shop.{Shop, time, IsWithinLimits}
use Rattle.flow_shop.specs.Paths.{completion, span}
use Rattle.flow_shop.proofs.Recurrence.{completion-push, completion-is, completed-zero}
use Rattle.flow_shop.proofs.Fronts.{completion-small}
use Rattle.flow_schedule.specs.Timetable.{job_at, start_at, end_at}
use Rattle.flow_schedule.specs.declared.operations.Operation.{Operation}

-- an operation by its parts
abbrev pub made : ℕ → ℕ → ℕ → ℕ → ℕ → Operation
made place job machine start end = record { place = place; job = job; machine = machine; start = start; end = end }

-- the first jobs up to a place are those before it and the job there
pub take-place : (sequence : List ℕ) (place : ℕ) → place < length sequence →
    take (place + 1) sequence ≡ take place sequence ++ job_at sequence (place + 1) ∷ []
take-place sequence place below =
    let e : place + 1 - 1 ≡ place = omega arith in
    take_more sequence place 0 below ∙ ap (λ k. take place sequence ++ slice_index sequence k ∷ []) (sym e)

-- when a job leaves a machine, by when the job before it left, and it left the machine before
pub end-step : (shop : Shop) (sequence : List ℕ) (place machine : ℕ) → place < length sequence →
    end_at shop sequence (place + 1) (machine + 1)
    ≡ max (end_at shop sequence place (machine + 1)) (end_at shop sequence (place + 1) machine)
    + time shop (job_at sequence (place + 1)) (machine + 1)
end-step shop sequence place machine below =
    let longer = take-place sequence place below in
    let job = job_at sequence (place + 1) in
    ap (λ jobs. completion shop jobs (machine + 1)) longer
    ∙ completion-push shop (take place sequence) job machine
    ∙ ap (λ jobs. max (completion shop (take place sequence) (machine + 1)) (completion shop jobs machine)
    + time shop job (machine + 1)) (sym longer)

-- no job leaves before the first machine
pub end-first_machine : (shop : Shop) (sequence : List ℕ) (place : ℕ) → end_at shop sequence place 0 ≡ 0
end-first_machine shop sequence place =
    completion-is shop (take place sequence) 0 ∙ completed-zero shop (λ _. 0) (take place sequence) refl

-- no job leaves before the first place
pub end-first_job : (shop : Shop) (sequence : List ℕ) (machine : ℕ) → end_at shop sequence 0 machine ≡ 0
end-first_job shop sequence machine = completion-is shop (take 0 sequence) machine

-- a job starts where the machine and the job are free
pub start-step : (shop : Shop) (sequence : List ℕ) (place machine : ℕ) → place < length sequence →
    start_at shop sequence (place + 1) (machine + 1)
    ≡ max (end_at shop sequence place (machine + 1)) (end_at shop sequence (place + 1) machine)
start-step shop sequence place machine below =
    let e = end-step shop sequence place machine below in
    omega (arith, e)

-- no time is above the limit of a front
pub end-small : (shop : Shop) (sequence : List ℕ) (place machine : ℕ) → IsWithinLimits shop → place ≤ shop.jobs →
    machine ≤ shop.machines → end_at shop sequence place machine ≤ greatest_completion
end-small shop sequence place machine limits few low =
    let short : length (take place sequence) ≤ place = simp length-take (omega arith) in
    let jobs_limit : shop.jobs ≤ most_jobs = limits.jobs in
    let machines_limit : shop.machines ≤ most_machines = limits.machines in
    omega (arith, completion-small shop (take place sequence) machine limits)

-- the same at a place and a machine that are counted from 1
pub end-there : (shop : Shop) (sequence : List ℕ) (place machine : ℕ) → 1 ≤ place → place ≤ length sequence →
    1 ≤ machine → end_at shop sequence place machine
    ≡ max (end_at shop sequence (place - 1) machine) (end_at shop sequence place (machine - 1))
    + time shop (job_at sequence place) machine
end-there shop sequence place machine from to first =
    let p : place - 1 + 1 ≡ place = omega arith in
    let m : machine - 1 + 1 ≡ machine = omega arith in
    let step = end-step shop sequence (place - 1) (machine - 1) (omega arith) in
    let at_place : end_at shop sequence place (machine - 1 + 1)
    ≡ max (end_at shop sequence (place - 1) (machine - 1 + 1)) (end_at shop sequence place (machine - 1))
    + time shop (job_at sequence place) (machine - 1 + 1) =
    subst (λ (k : ℕ). end_at shop sequence k (machine - 1 + 1)
    ≡ max (end_at shop sequence (place - 1) (machine - 1 + 1)) (end_at shop sequence k (machine - 1))
    + time shop (job_at sequence k) (machine - 1 + 1)) p step in
    subst (λ (k : ℕ). end_at shop sequence place k
    ≡ max (end_at shop sequence (place - 1) k) (end_at shop sequence place (machine - 1))
    + time shop (job_at sequence place) k) m at_place

-- what the loop finds is the operation
pub operation-there : (shop : Shop) (sequence : List ℕ) (place machine free ready spent : ℕ) → 1 ≤ place →
    place ≤ length sequence → 1 ≤ machine → free ≡ end_at shop sequence (place - 1) machine →
    ready ≡ end_at shop sequence place (machine - 1) → spent ≡ time shop (job_at sequence place) machine →
    (max free ready + spent ≡ end_at shop sequence place machine)
    × (max free ready ≡ start_at shop sequence place machine)
operation-there shop sequence place machine free ready spent from to first is_free is_ready is_spent =
    let there = end-there shop sequence place machine from to first in
    (omega (arith, there), omega (arith, there))

-- an operation with the same times is the same
pub operation-same : (place job machine start end other_start other_end : ℕ) → start ≡ other_start →
    end ≡ other_end → made place job machine start end ≡ made place job machine other_start other_end
operation-same place job machine start end other_start other_end starts ends =
    ap (λ time. made place job machine time end) starts ∙ ap (made place job machine other_start) ends

-- no makespan is above it
pub span-small : (shop : Shop) (sequence : List ℕ) → IsWithinLimits shop → length sequence ≡ shop.jobs →
    span shop sequence ≤ greatest_completion
span-small shop sequence limits whole =
    let all : take (length sequence) sequence ≡ sequence = take_all (length sequence) sequence (omega arith) in
    subst (λ (list : List ℕ). completion shop list shop.machines ≤ greatest_completion) all
    (end-small shop sequence (length sequence) shop.machines limits (omega arith) (omega arith))
