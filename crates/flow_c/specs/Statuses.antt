-- The numbers of statuses. `library/flowshop.h` has the same ones, and 3 and 4, which `library/cpu.s` answers.
use Rattle.std.specs.Prelude.{ℕ}
use Rattle.flow_shop.specs.declared.instance.InstanceFault.{InstanceFault}
use Rattle.flow_shop.specs.declared.instance.InstanceFault.TheVariants as instance
use Rattle.flow_shop.specs.declared.sequence.SequenceFault.{SequenceFault}
use Rattle.flow_shop.specs.declared.sequence.SequenceFault.TheVariants as sequence
use Rattle.flow_search.specs.declared.options.OptionFault.{OptionFault}
use Rattle.flow_search.specs.declared.options.OptionFault.TheVariants as choice
use Rattle.flow_search.specs.declared.plan.PlanFault.{PlanFault}
use Rattle.flow_search.specs.declared.plan.PlanFault.TheVariants as plan
use Rattle.flow_search.specs.declared.verdict.RunFault.{RunFault}
use Rattle.flow_search.specs.declared.verdict.RunFault.TheVariants as run
use Rattle.flow_check.specs.declared.fault.CheckFault.{CheckFault}
use Rattle.flow_check.specs.declared.fault.CheckFault.TheVariants as check
use Rattle.flow_text.specs.declared.text.fault.TextFault.{TextFault}
use Rattle.flow_text.specs.declared.text.fault.TextFault.TheVariants as text
use Rattle.flow_improve.specs.declared.effort.EffortFault.{EffortFault}
use Rattle.flow_improve.specs.declared.effort.EffortFault.TheVariants as effort
use Rattle.flow_c.specs.declared.fault.Fault.{Fault}
use Rattle.flow_c.specs.declared.fault.Fault.TheVariants.{Memory, Room, Instance, Sequence, Choice, Effort, Plan, Run}
use Rattle.flow_c.specs.declared.fault.Fault.TheVariants.{Certificate, Text, Index, Directions, NoAnswer}

-- the call was done
abbrev pub done : ℕ
done = 0

-- memory ran out
abbrev pub memory : ℕ
memory = 1

-- a slice for results is too short
abbrev pub room : ℕ
room = 2

-- the number of a fault of an instance
abbrev pub of_instance : InstanceFault → ℕ
of_instance instance.Memory = memory
of_instance instance.Jobs = 10
of_instance instance.Machines = 11
of_instance instance.Count = 12
of_instance (instance.Time place) = 13
of_instance instance.Seed = 14

-- the number of a fault of a sequence
abbrev pub of_sequence : SequenceFault → ℕ
of_sequence sequence.Memory = memory
of_sequence sequence.Length = 20
of_sequence (sequence.Job place) = 21
of_sequence (sequence.Twice place) = 22

-- the number of a fault of options
abbrev pub of_choice : OptionFault → ℕ
of_choice choice.Workers = 30
of_choice choice.Depth = 31
of_choice choice.Budget = 32
of_choice choice.Version = 33

-- the number of a fault of the numbers of an improvement; that of the seed is the generator's too
abbrev pub of_effort : EffortFault → ℕ
of_effort effort.Seed = 14
of_effort effort.Width = 34
of_effort effort.Rounds = 35
of_effort effort.Work = 36

-- the number of directions that are out of their limits
abbrev pub directions : ℕ
directions = 37

-- the number of a fault of a plan
abbrev pub of_plan : PlanFault → ℕ
of_plan plan.Memory = memory
of_plan plan.Depth = 40
of_plan plan.Prefixes = 41

-- the number of a fault of a run
abbrev pub of_run : RunFault → ℕ
of_run run.Memory = memory
of_run (run.OverBudget prefix) = 50

-- the number of a fault of a certificate
abbrev pub of_check : CheckFault → ℕ
of_check check.Memory = memory
of_check check.Header = 60
of_check check.Size = 61
of_check check.Value = 62
of_check check.Sequence = 63
of_check check.NotAttained = 64
of_check (check.Tree line) = 65
of_check (check.Weak line) = 66
of_check (check.Low line) = 67
of_check check.End = 68
of_check check.Most = 69

-- the number of a fault of a benchmark text
abbrev pub of_text : TextFault → ℕ
of_text text.Memory = memory
of_text text.NoBlock = 70
of_text (text.Label line) = 71
of_text (text.Byte line) = 72
of_text (text.Number line) = 73
of_text (text.Head line) = 74
of_text (text.Limits line) = 75
of_text (text.Times line) = 76

-- the number of a benchmark text that has no block of an index
abbrev pub index : ℕ
index = 77

-- the number of a fault
abbrev pub number : Fault → ℕ
number Memory = memory
number (Room needed) = room
number (Instance fault) = of_instance fault
number (Sequence fault) = of_sequence fault
number (Choice fault) = of_choice fault
number (Effort fault) = of_effort fault
number Directions = directions
number NoAnswer = 38
number (Plan fault) = of_plan fault
number (Run fault) = of_run fault
number (Certificate fault) = of_check fault
number (Text fault) = of_text fault
number (Index count) = index
