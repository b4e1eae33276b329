-- What a run of a command comes to: what it reads and what it writes, how it ends, and which device refused.
use Rattle.std.specs.Prelude.{◌≡◌, ◌↔◌, ◌⊎◌, ℕ, Bool, true, List, Option, Some, None, unwrap_or}
use Rattle.std.specs.Prelude.{Result, Ok, Err, IfSome, OnOk, IfErr, IsErrOf}
use Rattle.std.specs.Io.KnownBytes.{Appends}
use Rattle.flow_core.specs.Shop.{Shop}
use Rattle.flow_core.specs.Bytes.{AddsProperPrefix, Grows}
use Rattle.flow_text.specs.declared.bytes.device.Sink as sinks
use Rattle.flow_text.specs.declared.bytes.device.Source as sources
use Rattle.flow_core.specs.declared.bytes.fault.ReadFault.TheVariants as read
use Rattle.flow_core.specs.declared.bytes.fault.WriteFault.TheVariants as write
use Rattle.flow_commands.specs.Output.{Output}
use Rattle.flow_commands.specs.Block.{IsPicked, Origin, Picks}
use Rattle.flow_commands.specs.Files.{IsWithin}
use Rattle.flow_commands.specs.declared.refusals.CommandFault.{CommandFault}
use Rattle.flow_commands.specs.declared.refusals.CommandFault.TheVariants as command
use Rattle.flow_commands.specs.declared.files.FileKind.{FileKind}
use Rattle.flow_commands.specs.declared.files.FileKind.TheVariants.{Text}

-- a source before and after a run; it shows the bytes that it has given, whether it has ended, and whether it has
-- refused
pub record SourceRun (S : Type 0) : Type 0 where
  pub given : S → Option (List ℕ)
  pub has_ended : S → Bool
  pub has_failed : S → Bool
  pub before : S
  pub after : S

-- a sink before and after a run; it shows the bytes that it has taken, and whether it has refused
pub record SinkRun (K : Type 0) : Type 0 where
  pub taken : K → Option (List ℕ)
  pub has_failed : K → Bool
  pub before : K
  pub after : K

-- the sources and the sink of a run: a text, a second file where there is one, and what is written
pub record CommandRun (S T K : Type 0) : Type 0 where
  pub text : SourceRun S
  pub second : Option (SourceRun T)
  pub sink : SinkRun K

-- the run of a source
abbrev pub source_run : {S : Type 0} → sources.Ghosts S → S → S → SourceRun S
source_run shows before after = record {
  given = shows.given;
  has_ended = shows.has_ended;
  has_failed = shows.has_failed;
  before = before;
  after = after;
}

-- the run of a sink
abbrev pub sink_run : {K : Type 0} → sinks.Ghosts K → K → K → SinkRun K
sink_run shows before after =
    record { taken = shows.taken; has_failed = shows.has_failed; before = before; after = after }

-- the run of a second file, by what stands in its place before and after
abbrev pub second_run : {T : Type 0} → sources.Ghosts T → Option T → Option T → Option (SourceRun T)
second_run shows None after = None
second_run shows (Some before) after = Some (source_run shows before (unwrap_or after before))

-- a run over a text, and a second file where there is one
abbrev pub run_of : {S : Type 0} → {T : Type 0} → {K : Type 0} → SourceRun S → Option (SourceRun T) → SinkRun K →
    CommandRun S T K
run_of text second sink = record { text = text; second = second; sink = sink }

-- a run over a text alone
abbrev pub run_alone : {S : Type 0} → {K : Type 0} → SourceRun S → SinkRun K → CommandRun S (Unit {0}) K
run_alone text sink = run_of text None sink

-- a source gave these bytes
abbrev pub Gave : {S : Type 0} → List ℕ → SourceRun S → Type 0
Gave bytes source = Appends (source.given source.before) (source.given source.after) bytes

-- a source gave bytes that a file of a kind may have
abbrev pub GaveWithin : {S : Type 0} → FileKind → SourceRun S → Type 0
GaveWithin kind source = (bytes : List ℕ) × IsWithin kind bytes × Gave bytes source

-- a source gave bytes that a file of a kind may not have
abbrev pub GaveBeyond : {S : Type 0} → FileKind → SourceRun S → Type 0
GaveBeyond kind source = (bytes : List ℕ) × (¬ IsWithin kind bytes) × Gave bytes source

-- a source takes back no byte
abbrev pub Stands : {S : Type 0} → SourceRun S → Type 0
Stands source = Grows (source.given source.before) (source.given source.after)

-- there is a second file, and it has refused
abbrev pub SecondFailed : {S : Type 0} → Option (SourceRun S) → Type 0
SecondFailed None = ⊥
SecondFailed (Some second) = second.has_failed second.after ≡ true

-- a second file was left unread
abbrev pub IsUnread : {S : Type 0} → Option (SourceRun S) → Type 0
IsUnread second = IfSome second (λ file. file.after ≡ file.before)

-- a sink was left unwritten
abbrev pub IsUnwritten : {K : Type 0} → SinkRun K → Type 0
IsUnwritten sink = sink.after ≡ sink.before

-- a sink took this text
abbrev pub Took : {K : Type 0} → List ℕ → SinkRun K → Type 0
Took text sink = Appends (sink.taken sink.before) (sink.taken sink.after) text

-- a sink took the whole text of an answer
abbrev pub Wrote : {K : Type 0} → (Output → Type 0) → SinkRun K → Type 0
Wrote Answers sink = (text : List ℕ) × Answers (Ok text) × Took text sink

-- a sink took a proper prefix of the text of an answer
abbrev pub WrotePart : {K : Type 0} → (Output → Type 0) → SinkRun K → Type 0
WrotePart Answers sink =
    (text : List ℕ) × Answers (Ok text)
    × AddsProperPrefix (sink.taken sink.before) (sink.taken sink.after) text

-- how a refused command ended that read nothing: nothing was written, since memory ran out or by its answer; or the
-- sink refused, and took a part
abbrev pub EndsAlone : {K : Type 0} → (Output → Type 0) → SinkRun K → CommandFault → Type 0
EndsAlone Answers sink fault =
    (IsUnwritten sink × ((fault ≡ command.Memory) ⊎ Answers (Err fault)))
    ⊎ ((fault ≡ command.Write write.Device) × WrotePart Answers sink)

-- what a command does that reads nothing: it writes its answer, or ends as a refused one; and it says that the sink
-- refused where that is so, and there alone
pub record Responds {K : Type 0} (Answers : Output → Type 0) (sink : SinkRun K)
    (result : Result (Unit {0}) CommandFault) : Type 0 where
  pub written : OnOk result (Wrote Answers sink)
  pub ended : IfErr result (EndsAlone Answers sink)
  pub write_device : IsErrOf result (command.Write write.Device) ↔ (sink.has_failed sink.after ≡ true)
  pub reads_nothing : IsErrOf result (command.Read read.Device) → ⊥

-- a source gave all bytes of a file of a kind and then its end, and this holds of the bytes
abbrev pub Came : {S : Type 0} → FileKind → (List ℕ → Type 0) → SourceRun S → Type 0
Came kind Holds source =
    (bytes : List ℕ) × IsWithin kind bytes × Gave bytes source × (source.has_ended source.after ≡ true)
    × Holds bytes

-- why a run stopped at a file: memory ran out, while its source had given no more than the file may have; the source
-- refused; it gave more; or what all bytes say
abbrev pub StopsAt :
    {S : Type 0} → FileKind → (List ℕ → CommandFault → Type 0) → SourceRun S → CommandFault → Type 0
StopsAt kind Refuses source fault =
    ((fault ≡ command.Memory) × GaveWithin kind source)
    ⊎ (fault ≡ command.Read read.Device)
    ⊎ ((fault ≡ command.Read read.TooLong) × GaveBeyond kind source)
    ⊎ Came kind (λ bytes. Refuses bytes fault) source

-- a second file of a kind came, where there is one, and this holds of its bytes
abbrev pub CameSecond : {T : Type 0} → FileKind → (Option (List ℕ) → Type 0) → Option (SourceRun T) → Type 0
CameSecond kind Holds None = Holds None
CameSecond kind Holds (Some second) = Came kind (λ bytes. Holds (Some bytes)) second

-- why a run stopped whose text came: at the second file, where there is one; else memory ran out, or by the answer
abbrev pub StopsAtSecond :
    {T : Type 0} → FileKind → (Option (List ℕ) → CommandFault → Type 0) → Option (SourceRun T) → CommandFault → Type 0
StopsAtSecond kind Refuses None fault = (fault ≡ command.Memory) ⊎ Refuses None fault
StopsAtSecond kind Refuses (Some second) fault = StopsAt kind (λ bytes. Refuses (Some bytes)) second fault

-- a text came, and this holds of the block that an index names
abbrev pub CameOf : {S : Type 0} → ℕ → (Origin → Type 0) → SourceRun S → Type 0
CameOf index Holds text = Came Text (λ bytes. (origin : Origin) × IsPicked bytes index origin × Holds origin) text

-- a text came, and this holds of the shop of the block that an index names
abbrev pub CameFor : {S : Type 0} → ℕ → (Shop → Type 0) → SourceRun S → Type 0
CameFor index Holds = CameOf index (λ origin. Holds origin.block.instance)

-- the text and the second file of a run came, and this holds of the block and of the bytes of that file
abbrev pub CameBoth :
    {S : Type 0} → {T : Type 0} → {K : Type 0} → FileKind → ℕ → (Origin → Option (List ℕ) → Type 0)
    → CommandRun S T K → Type 0
CameBoth kind index Holds run = CameOf index (λ origin. CameSecond kind (Holds origin) run.second) run.text

-- how a refused run ends: at the text or its index, before the second file is read; at the second file, or by the
-- answer, before a byte is written; or the sink refused, and took a part
abbrev pub Ends :
    {S : Type 0} → {T : Type 0} → {K : Type 0} → FileKind → (Origin → Option (List ℕ) → Output → Type 0) → ℕ
    → CommandRun S T K → CommandFault → Type 0
Ends kind Answers index run fault =
    (StopsAt Text (λ bytes refusal. Picks bytes index (Err refusal)) run.text fault
    × IsUnread run.second × IsUnwritten run.sink)
    ⊎ CameOf index (λ origin.
    StopsAtSecond kind (λ second refusal. Answers origin second (Err refusal)) run.second fault
    × IsUnwritten run.sink) run.text
    ⊎ ((fault ≡ command.Write write.Device)
    × CameBoth kind index (λ origin second. WrotePart (Answers origin second) run.sink) run)

-- what a run comes to: it writes the answer for the block that an index names and for the second file, of this kind, or
-- ends as a refused one; it says that a source or the sink refused where that is so, and there alone; and no source
-- takes back a byte
pub record Ran {S T K : Type 0} (kind : FileKind) (Answers : Origin → Option (List ℕ) → Output → Type 0)
    (index : ℕ) (run : CommandRun S T K) (result : Result (Unit {0}) CommandFault) : Type 0 where
  pub written : OnOk result (CameBoth kind index (λ origin second. Wrote (Answers origin second) run.sink) run)
  pub ended : IfErr result (Ends kind Answers index run)
  pub read_device : IsErrOf result (command.Read read.Device)
      ↔ ((run.text.has_failed run.text.after ≡ true) ⊎ SecondFailed run.second)
  pub write_device : IsErrOf result (command.Write write.Device) ↔ (run.sink.has_failed run.sink.after ≡ true)
  pub stands : Stands run.text
  pub second_stands : IfSome run.second Stands
