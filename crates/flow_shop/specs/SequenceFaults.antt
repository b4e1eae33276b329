-- Why a list of jobs is no sequence.
use Rattle.std.specs.Prelude.{ℕ, ◌+◌, ◌==◌, not, List, [], ◌∷◌, ◌++◌, length, Option, Some, None}
use Rattle.std.specs.Int.{is_in_range}
use Rattle.std.specs.Option.{option_or}
use Rattle.flow_shop.specs.Refusals.{fault_unless, first_fault}
use Rattle.flow_shop.specs.Sequences.{has}
use Rattle.flow_shop.specs.declared.sequence.SequenceFault.{SequenceFault}
use Rattle.flow_shop.specs.declared.sequence.SequenceFault.TheVariants.{Length, Job, Twice, Memory}

-- the fault of a job after earlier ones: it is not from 1 to n, or it is one of the earlier ones
abbrev pub job_fault : ℕ → List ℕ → ℕ → Option SequenceFault
job_fault n earlier job = first_fault (
    fault_unless (is_in_range 1 n job) (Job (length earlier + 1))
    ∷ fault_unless (not (has earlier job)) (Twice (length earlier + 1))
    ∷ [])

-- the first fault of some jobs after earlier ones
abbrev pub place_fault : ℕ → List ℕ → List ℕ → Option SequenceFault
place_fault n earlier [] = None
place_fault n earlier (job ∷ jobs) = option_or (job_fault n earlier job) (place_fault n (earlier ++ job ∷ []) jobs)

-- why a list is no sequence of n jobs, if it is none: its length first, then the first job at fault
-- (law: sequences_have_no_fault)
abbrev pub sequence_fault : ℕ → List ℕ → Option SequenceFault
sequence_fault n jobs = first_fault (fault_unless (length jobs == n) Length ∷ place_fault n [] jobs ∷ [])

-- a fault of the list; none where memory ran out
abbrev pub but_memory : SequenceFault → Option SequenceFault
but_memory Memory = None
but_memory fault = Some fault
