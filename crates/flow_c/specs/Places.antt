-- The places of faults: a line, a place in a slice, or how many entries it needs.
use Rattle.std.specs.Prelude.{ℕ}
use Rattle.flow_shop.specs.declared.instance.InstanceFault.{InstanceFault}
use Rattle.flow_shop.specs.declared.instance.InstanceFault.TheVariants as instance
use Rattle.flow_shop.specs.declared.sequence.SequenceFault.{SequenceFault}
use Rattle.flow_shop.specs.declared.sequence.SequenceFault.TheVariants as sequence
use Rattle.flow_search.specs.declared.verdict.RunFault.{RunFault}
use Rattle.flow_search.specs.declared.verdict.RunFault.TheVariants as run
use Rattle.flow_check.specs.declared.fault.CheckFault.{CheckFault}
use Rattle.flow_check.specs.declared.fault.CheckFault.TheVariants as check
use Rattle.flow_text.specs.declared.text.fault.TextFault.{TextFault}
use Rattle.flow_text.specs.declared.text.fault.TextFault.TheVariants as text
use Rattle.flow_c.specs.declared.fault.Fault.{Fault}
use Rattle.flow_c.specs.declared.fault.Fault.TheVariants.{Memory, Room, Instance, Sequence, Choice, Effort, Plan, Run}
use Rattle.flow_c.specs.declared.fault.Fault.TheVariants.{Certificate, Text, Index, Directions, NoAnswer}

-- the place of a fault of an instance; 0 where it has none
abbrev pub place_of_instance : InstanceFault → ℕ
place_of_instance (instance.Time place) = place
place_of_instance fault = 0

-- the place of a fault of a sequence; 0 where it has none
abbrev pub place_of_sequence : SequenceFault → ℕ
place_of_sequence (sequence.Job place) = place
place_of_sequence (sequence.Twice place) = place
place_of_sequence fault = 0

-- the prefix of a fault of a run, counted from 0
abbrev pub place_of_run : RunFault → ℕ
place_of_run run.Memory = 0
place_of_run (run.OverBudget prefix) = prefix

-- the line of a fault of a certificate; 0 where its number says the line
abbrev pub place_of_check : CheckFault → ℕ
place_of_check (check.Tree line) = line
place_of_check (check.Weak line) = line
place_of_check (check.Low line) = line
place_of_check fault = 0

-- the line of a fault of a benchmark text; 0 where it has none
abbrev pub place_of_text : TextFault → ℕ
place_of_text text.Memory = 0
place_of_text text.NoBlock = 0
place_of_text (text.Label line) = line
place_of_text (text.Byte line) = line
place_of_text (text.Number line) = line
place_of_text (text.Head line) = line
place_of_text (text.Limits line) = line
place_of_text (text.Times line) = line

-- the place of a fault, the length that a slice needs, or how many blocks a text has; 0 where it has none
abbrev pub place_of : Fault → ℕ
place_of Memory = 0
place_of (Room needed) = needed
place_of (Instance fault) = place_of_instance fault
place_of (Sequence fault) = place_of_sequence fault
place_of (Choice fault) = 0
place_of (Effort fault) = 0
place_of Directions = 0
place_of NoAnswer = 0
place_of (Plan fault) = 0
place_of (Run fault) = place_of_run fault
place_of (Certificate fault) = place_of_check fault
place_of (Text fault) = place_of_text fault
place_of (Index count) = count
