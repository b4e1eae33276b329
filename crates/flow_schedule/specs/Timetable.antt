-- When each job of a sequence starts and ends on each machine.
use Rattle.std.specs.Prelude.{ℕ, ◌-◌, ◌≤◌, List, length, map, take, slice_index}
use Rattle.std.specs.List.{flat_map}
use Rattle.flow_limits.specs.Limits.{greatest_completion}
use Rattle.flow_shop.specs.Shop.{Shop, numbers, time}
use Rattle.flow_shop.specs.Paths.{completion}
use Rattle.flow_schedule.specs.declared.operations.Operation.{Operation}

-- Places in the sequence and machines are counted from 1.

-- the job at a place
abbrev pub job_at : List ℕ → ℕ → ℕ
job_at sequence place = slice_index sequence (place - 1)

-- when the job at a place leaves a machine: the completion time of the first so many jobs
-- (law: operation_starts_when_free)
abbrev pub end_at : Shop → List ℕ → ℕ → ℕ → ℕ
end_at shop sequence place machine = completion shop (take place sequence) machine

-- when the job at a place starts on a machine: when it leaves, less its time there (law: operation_starts_when_free)
abbrev pub start_at : Shop → List ℕ → ℕ → ℕ → ℕ
start_at shop sequence place machine =
    end_at shop sequence place machine - time shop (job_at sequence place) machine

-- the operation of the job at a place on a machine
abbrev pub operation : Shop → List ℕ → ℕ → ℕ → Operation
operation shop sequence place machine = record {
  place = place;
  job = job_at sequence place;
  machine = machine;
  start = start_at shop sequence place machine;
  end = end_at shop sequence place machine;
}

-- the operations of the job at a place, machine 1 first
abbrev pub operations_at : Shop → List ℕ → ℕ → List Operation
operations_at shop sequence place = map (operation shop sequence place) (numbers 1 shop.machines)

-- the timetable: the operations of each job in the order of the sequence
abbrev pub timetable : Shop → List ℕ → List Operation
timetable shop sequence = flat_map (operations_at shop sequence) (numbers 1 (length sequence))

-- an operation at a place of a sequence of the shop, on one of its machines, that ends within the limits
pub record IsOperationOf (shop : Shop) (operation : Operation) : Type 0 where
  pub place_from : 1 ≤ operation.place
  pub place_to : operation.place ≤ shop.jobs
  pub machine_from : 1 ≤ operation.machine
  pub machine_to : operation.machine ≤ shop.machines
  pub within : operation.end ≤ greatest_completion
