use Rattle.std.proofs.Common.{◌≡◌, take, map}
use Rattle.flow_schedule.specs.declared.operations.Operation.{Operation}
use Rattle.flow_c.proofs.timetable.starts_and_ends.Given as goal

-- the starts and the ends of the operations so far
abbrev pub invariant-loop-operation : goal.invariant-loop-operation
invariant-loop-operation l =
    (l.starts.items ≡ map (λ (operation : Operation). operation.start) (take l.operation-index l.operations))
    × (l.ends.items ≡ map (λ (operation : Operation). operation.end) (take l.operation-index l.operations))
