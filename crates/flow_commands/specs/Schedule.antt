-- What `schedule` answers.
use Rattle.std.specs.Prelude.{◌≡◌, ◌⊎◌, ℕ, List, Some, None, IfSome, Result, Ok, Err}
use Rattle.flow_core.specs.Sequences.{IsLowerBound, IsSequence}
use Rattle.flow_core.specs.Shop.{Shop}
use Rattle.flow_check.specs.Counted.{most_nodes}
use Rattle.flow_check.specs.Kinds.{IsReadAs}
use Rattle.flow_check.specs.Stated.{GivesAs}
use Rattle.flow_check.specs.declared.bounds.Bounds.{Bounds}
use Rattle.flow_check.specs.declared.kind.TextKind.{TextKind}
use Rattle.flow_schedule.specs.Table.{csv_text}
use Rattle.flow_schedule.specs.Picture.{IsPicture}
use Rattle.flow_requests.specs.declared.ScheduleForm.{ScheduleForm}
use Rattle.flow_requests.specs.declared.ScheduleForm.TheVariants.{Csv, Svg}
use Rattle.flow_commands.specs.Output.{Output}
use Rattle.flow_commands.specs.Check.{RefusesText}
use Rattle.flow_commands.specs.Files.{BeginsAsCertificate}
use Rattle.flow_commands.specs.Runs.{SinkRun, Took}
use Rattle.flow_commands.specs.Start.{GivesStart}
use Rattle.flow_commands.specs.declared.refusals.CommandFault.{CommandFault}
use Rattle.flow_commands.specs.declared.timed.TimedSequence.{TimedSequence}

-- the schedule of a sequence in a form: its table, or a picture of it with its lower bound
abbrev pub IsSchedule : ScheduleForm → Shop → TimedSequence → List ℕ → Type 0
IsSchedule Csv shop timed text = text ≡ csv_text shop timed.sequence
IsSchedule Svg shop timed text = IsPicture shop timed.sequence timed.lower text

-- what a certificate gives: its sequence, with the lower bound that it proves; or its first fault
abbrev pub GivesCertified : Shop → List ℕ → Result TimedSequence CommandFault → Type 0
GivesCertified shop text (Ok timed) =
    (kind : TextKind) × IsReadAs text kind × (bounds : Bounds) × GivesAs kind shop text bounds timed.sequence
    × (timed.lower ≡ Some bounds.lower)
GivesCertified shop text (Err fault) =
    (kind : TextKind) × IsReadAs text kind × RefusesText kind most_nodes shop text fault

-- what a start text gives: its sequence, without a lower bound; or its first fault
abbrev pub GivesUncertified : Shop → List ℕ → Result TimedSequence CommandFault → Type 0
GivesUncertified shop text (Ok timed) = GivesStart shop text (Ok timed.sequence) × (timed.lower ≡ None)
GivesUncertified shop text (Err fault) = GivesStart shop text (Err fault)

-- what a text gives: as a certificate, where it begins as one, and else as a start text
abbrev pub GivesTimed : Shop → List ℕ → Result TimedSequence CommandFault → Type 0
GivesTimed shop text given =
    (BeginsAsCertificate text × GivesCertified shop text given)
    ⊎ ((¬ BeginsAsCertificate text) × GivesUncertified shop text given)

-- what `schedule` answers for a shop and a text: the schedule of the sequence that the text gives, or the fault that it
-- gives
abbrev pub AnswersSchedule : ScheduleForm → Shop → List ℕ → Output → Type 0
AnswersSchedule form shop text answer =
    ((timed : TimedSequence) × GivesTimed shop text (Ok timed)
    × (schedule : List ℕ) × IsSchedule form shop timed schedule × (answer ≡ Ok schedule))
    ⊎ ((fault : CommandFault) × GivesTimed shop text (Err fault) × (answer ≡ Err fault))

-- a sink took the schedule of a sequence of a shop, and no sequence is below a lower bound that it shows
abbrev pub WroteSchedule : {K : Type 0} → ScheduleForm → Shop → SinkRun K → Type 0
WroteSchedule form shop sink =
    (timed : TimedSequence) × IsSequence shop.jobs timed.sequence × IfSome timed.lower (IsLowerBound shop)
    × (schedule : List ℕ) × IsSchedule form shop timed schedule × Took schedule sink
