-- What a command does that reads nothing, by what it answers and what the sink took.
use Rattle.std.proofs.Common.{◌≡◌, ◌⊎◌, refl, inl, inr, List, ℕ, Result, Ok, Err, true}
use Rattle.std.specs.Prelude.{IfErr, OnOk}
use Rattle.flow_core.specs.Bytes.{AddsProperPrefix}
use Rattle.flow_core.specs.declared.bytes.fault.WriteFault.{WriteFault}
use Rattle.flow_core.specs.declared.bytes.fault.WriteFault.TheVariants as write
use Rattle.flow_commands.specs.Output.{Output}
use Rattle.flow_commands.specs.Runs.{EndsAlone, IsUnwritten, Responds, SinkRun, Took, Wrote}
use Rattle.flow_commands.specs.internal.Devices.{NamesNoDevice}
use Rattle.flow_commands.specs.declared.refusals.CommandFault.{CommandFault}
use Rattle.flow_commands.specs.declared.refusals.CommandFault.TheVariants as command

write-is : (fault : WriteFault) → command.Write fault ≡ command.Write write.Device
write-is write.Device = refl

-- the sink refused
pub part-written : {K : Type 0} (Answers : Output → Type 0) (sink : SinkRun K) (fault : WriteFault) (text : List ℕ) →
    Answers (Ok text) → AddsProperPrefix (sink.taken sink.before) (sink.taken sink.after) text →
    sink.has_failed sink.after ≡ true →
    Responds Answers sink (Err (command.Write fault))
part-written Answers sink fault text answers part failed = record {
  written = tt;
  ended = inr (write-is fault, (text, answers, part));
  write_device = (λ _. failed, λ _. (let e = write-is fault in cc));
  reads_nothing = λ named. cc named;
}

-- the sink took the text
pub all-written : {K : Type 0} (Answers : Output → Type 0) (sink : SinkRun K) (text : List ℕ) →
    Answers (Ok text) → Took text sink → (sink.has_failed sink.after ≡ true → ⊥) → Responds Answers sink (Ok tt)
all-written Answers sink text answers took works = record {
  written = (text, answers, took);
  ended = tt;
  write_device = (λ named. cc named, λ failed. absurd (works failed));
  reads_nothing = λ named. cc named;
}

-- nothing was written
pub refused : {K A : Type 0} (Answers : Output → Type 0) (sink : SinkRun K) (fault : CommandFault) →
    (fault ≡ command.Memory) ⊎ Answers (Err fault) → NamesNoDevice {T = A} (Err fault) → IsUnwritten sink →
    (sink.has_failed sink.after ≡ true → ⊥) → Responds Answers sink (Err fault)
refused Answers sink fault why no_device unwritten works = record {
  written = tt;
  ended = inl (unwritten, why);
  write_device = (λ named. absurd (no_device.1 (cc named)), λ failed. absurd (works failed));
  reads_nothing = λ named. no_device.0 (cc named);
}

-- one kind of answer is also one of another kind
pub weaker : {K : Type 0} (A B : Output → Type 0) (sink : SinkRun K) (result : Result (Unit {0}) CommandFault) →
    ((answer : Output) → A answer → B answer) → Responds A sink result → Responds B sink result
weaker A B sink result implies responds = record {
  written = wrote result responds.written;
  ended = ended result responds.ended;
  write_device = responds.write_device;
  reads_nothing = responds.reads_nothing;
}
  where
    wrote : (r : Result (Unit {0}) CommandFault) → OnOk r (Wrote A sink) → OnOk r (Wrote B sink)
    wrote (Ok done) h = (h.0, implies (Ok h.0) h.1, h.2)
    wrote (Err fault) h = tt

    ended : (r : Result (Unit {0}) CommandFault) → IfErr r (EndsAlone A sink) → IfErr r (EndsAlone B sink)
    ended (Ok done) h = tt
    ended (Err fault) (inl (unwritten, inl memory)) = inl (unwritten, inl memory)
    ended (Err fault) (inl (unwritten, inr answers)) = inl (unwritten, inr (implies (Err fault) answers))
    ended (Err fault) (inr (writing, part)) = inr (writing, (part.0, implies (Ok part.0) part.1, part.2))
