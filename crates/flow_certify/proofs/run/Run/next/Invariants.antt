use Rattle.std.specs.Prelude.{◌≡◌, ◌-◌}
use Rattle.flow_certify.specs.Tasks.{HasSameBounds}
use Rattle.flow_certify.specs.Schedule.{IsNext}
use Rattle.flow_certify.specs.declared.run.Run.{Run}
use Rattle.flow_certify.specs.declared.task.Task.{Task}
use Rattle.flow_certify.proofs.run.Run.next.Given as goal

-- what is next from here is next from the beginning
abbrev pub invariant-acts : goal.invariant-acts
invariant-acts l =
    HasSameBounds l.initial.self l.self × (l.self.tasks ≡ l.initial.self.tasks)
    × ((after : Run) (task : Task) → IsNext l.effort l.self after task → IsNext l.effort l.initial.self after task)

abbrev pub decreases-acts : goal.decreases-acts
decreases-acts l = 4294967295 - l.self.act
