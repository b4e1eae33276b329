use Rattle.std.proofs.Common.{◌≡◌, ◌+◌, ◌≤◌, length}
use Rattle.flow_schedule.proofs.Stairs.{IsHeaviestFrom}
use Rattle.flow_schedule.proofs.path.heaviest_path.Given as goal

-- from the operation that was come to, the path is heaviest
abbrev pub invariant-loop-place : goal.invariant-loop-place
invariant-loop-place l = record {
  place_from : 1 ≤ l.place;
  place_to : l.place ≤ l.instance.jobs;
  machine_from : 1 ≤ l.machine;
  machine_to : l.machine ≤ l.instance.machines;
  each : length l.path.items ≡ length l.jobs;
  path : IsHeaviestFrom l.instance l.jobs l.path.items l.place l.machine;
}

-- the machines and the jobs before it
abbrev pub decreases-loop-place : goal.decreases-loop-place
decreases-loop-place l = l.place + l.machine
