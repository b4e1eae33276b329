-- What a run of any command comes to, by what the reading of its files and its command come to.
use Rattle.std.proofs.Common.{◌≡◌, ◌⊎◌, ◌↔◌, refl, sym, subst, inl, inr, ℕ, List, Option, Some, None}
use Rattle.std.proofs.Common.{Result, Ok, Err, true}
use Rattle.std.specs.Prelude.{IfSome, IsErrOf, OnOk, IfErr}
use Rattle.flow_core.specs.declared.bytes.fault.ReadFault.{ReadFault}
use Rattle.flow_core.specs.declared.bytes.fault.ReadFault.TheVariants as read
use Rattle.flow_core.specs.declared.bytes.fault.WriteFault.TheVariants as write
use Rattle.flow_commands.specs.Output.{Output}
use Rattle.flow_commands.specs.Block.{IsPicked, Origin, Picks}
use Rattle.flow_commands.specs.Runs.{Came, CameBoth, CameSecond, Ends, EndsAlone, GaveBeyond, GaveWithin, IsUnread}
use Rattle.flow_commands.specs.Runs.{IsUnwritten, Ran, Responds}
use Rattle.flow_commands.specs.Runs.{SecondFailed, SinkRun, SourceRun, Stands, StopsAt, StopsAtSecond}
use Rattle.flow_commands.specs.Runs.{Wrote, WrotePart, run_of}
use Rattle.flow_commands.specs.declared.refusals.CommandFault.{CommandFault}
use Rattle.flow_commands.specs.declared.refusals.CommandFault.TheVariants as command
use Rattle.flow_commands.specs.declared.files.FileKind.{FileKind}
use Rattle.flow_commands.specs.declared.files.FileKind.TheVariants.{Text}
use Rattle.flow_commands.specs.internal.Reading.{SecondCame, SecondStops, bytes_of}
use Rattle.std.specs.declared.vec.Vec.{Vec}

-- a relation of a block, of the bytes of a second file, and of an answer
abbrev pub Relation : Type 1
Relation = Origin → Option (List ℕ) → Output → Type 0

-- a file that could not be read, by the fault of its reading
pub stops-by : {S : Type 0} (kind : FileKind) (file : SourceRun S) (fault : ReadFault) (given : CommandFault) →
    (fault ≡ read.Memory → GaveWithin kind file) → (fault ≡ read.TooLong → GaveBeyond kind file) →
    given ≡ (elim fault [ read.Memory ↦ command.Memory | other ↦ command.Read other ]) →
    StopsAt kind (λ _ _. ⊥) file given
stops-by kind file read.Memory given memory long is = inl (is, memory refl)
stops-by kind file read.Device given memory long is = inr (inl is)
stops-by kind file read.TooLong given memory long is = inr (inr (inl (is, long refl)))

-- a run that stopped at a file, before its bytes were judged
pub stops-for : {S : Type 0} (kind : FileKind) (Refuses : List ℕ → CommandFault → Type 0) (file : SourceRun S)
    (fault : CommandFault) → StopsAt kind (λ _ _. ⊥) file fault → StopsAt kind Refuses file fault
stops-for kind Refuses file fault (inl memory) = inl memory
stops-for kind Refuses file fault (inr (inl device)) = inr (inl device)
stops-for kind Refuses file fault (inr (inr (inl long))) = inr (inr (inl long))
stops-for kind Refuses file fault (inr (inr (inr came))) = absurd came.4

-- a run that stopped where its text came, and no block was picked
pub stops-at-pick : {S : Type 0} (Refuses : List ℕ → CommandFault → Type 0) (file : SourceRun S) (text : List ℕ)
    (fault : CommandFault) → Came Text (λ bytes. bytes ≡ text) file →
    (fault ≡ command.Memory) ⊎ Refuses text fault → StopsAt Text Refuses file fault
stops-at-pick Refuses file text fault (bytes, within, gave, whole, same) (inl memory) =
    inl (memory, (bytes, within, gave))
stops-at-pick Refuses file text fault (bytes, within, gave, whole, same) (inr refuses) =
    inr (inr (inr (bytes, within, gave, whole, subst (λ (b : List ℕ). Refuses b fault) (sym same) refuses)))

-- what holds of the bytes of a file that came
pub came-with : {S : Type 0} (kind : FileKind) (Holds : List ℕ → Type 0) (file : SourceRun S) (text : List ℕ) →
    Came kind (λ bytes. bytes ≡ text) file → Holds text → Came kind Holds file
came-with kind Holds file text (bytes, within, gave, whole, same) holds =
    (bytes, within, gave, whole, subst Holds (sym same) holds)

-- a run that stopped at its second file
stops-second : {T : Type 0} (kind : FileKind) (Refuses : Option (List ℕ) → CommandFault → Type 0)
    (second : Option (SourceRun T)) (fault : CommandFault) → SecondStops kind second fault →
    StopsAtSecond kind Refuses second fault
stops-second kind Refuses None fault stops = absurd stops
stops-second kind Refuses (Some file) fault stops =
    stops-for kind (λ bytes. Refuses (Some bytes)) file fault stops

-- a second file that came gave its bytes
came-second : {T A : Type 0} (kind : FileKind) (Holds : Option (List ℕ) → Type 0) (second : Option (SourceRun T))
    (bytes : Option (Vec ℕ A)) → SecondCame kind second bytes → Holds (bytes_of bytes) → CameSecond kind Holds second
came-second kind Holds None None came holds = holds
came-second kind Holds (Some file) (Some given) (bytes, within, gave, whole, same) holds =
    (bytes, within, gave, whole, subst (λ (b : List ℕ). Holds (Some b)) (sym same) holds)
came-second kind Holds None (Some given) came holds = absurd came
came-second kind Holds (Some file) None came holds = absurd came

-- how a run ended whose second file came, and whose command refused
ends-second : {T A : Type 0} (kind : FileKind) (Answers : Option (List ℕ) → Output → Type 0)
    (second : Option (SourceRun T)) (bytes : Option (Vec ℕ A)) (fault : CommandFault) → SecondCame kind second bytes →
    (fault ≡ command.Memory) ⊎ Answers (bytes_of bytes) (Err fault) →
    StopsAtSecond kind (λ given refusal. Answers given (Err refusal)) second fault
ends-second kind Answers None None fault came why = why
ends-second kind Answers (Some file) (Some given) fault (bytes, within, gave, whole, same) (inl memory) =
    inl (memory, (bytes, within, gave))
ends-second kind Answers (Some file) (Some given) fault (bytes, within, gave, whole, same) (inr answers) =
    let own = subst (λ (b : List ℕ). Answers (Some b) (Err fault)) (sym same) answers in
    inr (inr (inr (bytes, within, gave, whole, own)))
ends-second kind Answers None (Some given) fault came why = absurd came
ends-second kind Answers (Some file) None fault came why = absurd came

-- a run that stopped at its text
pub stopped-at-text : {S T K A : Type 0} (kind : FileKind) (Answers : Relation) (index : ℕ) (text : SourceRun S)
    (second : Option (SourceRun T)) (sink : SinkRun K) (fault : CommandFault) →
    StopsAt Text (λ bytes refusal. Picks bytes index (Err refusal)) text fault →
    (IsErrOf {T = A} (Err fault) (command.Read read.Device) ↔ (text.has_failed text.after ≡ true)) →
    (IsErrOf {T = A} (Err fault) (command.Write write.Device) → ⊥) → Stands text →
    IsUnread second → (SecondFailed second → ⊥) → IfSome second Stands →
    IsUnwritten sink → (sink.has_failed sink.after ≡ true → ⊥) →
    Ran kind Answers index (run_of text second sink) (Err fault)
stopped-at-text kind Answers index text second sink fault stops device writes_nothing stands unread second_works
    second_stands unwritten out_works = record {
      written = tt;
      ended = inl (stops, unread, unwritten);
      read_device = (
        λ named. inl (device.0 (cc named)),
        elim [
          | inl failed ↦ cc (device.1 failed)
          | inr failed ↦ absurd (second_works failed)
        ],
      );
      write_device = (λ named. absurd (writes_nothing (cc named)), λ failed. absurd (out_works failed));
      stands = stands;
      second_stands = second_stands;
    }

-- a run that stopped at its second file
pub stopped-at-second : {S T K A : Type 0} (kind : FileKind) (Answers : Relation) (index : ℕ) (origin : Origin)
    (text : SourceRun S) (second : Option (SourceRun T)) (sink : SinkRun K) (fault : CommandFault) →
    Came Text (λ bytes. IsPicked bytes index origin) text → (text.has_failed text.after ≡ true → ⊥) → Stands text →
    SecondStops kind second fault → (IsErrOf {T = A} (Err fault) (command.Read read.Device) ↔ SecondFailed second) →
    (IsErrOf {T = A} (Err fault) (command.Write write.Device) → ⊥) → IfSome second Stands →
    IsUnwritten sink → (sink.has_failed sink.after ≡ true → ⊥) →
    Ran kind Answers index (run_of text second sink) (Err fault)
stopped-at-second kind Answers index origin text second sink fault (bytes, within, gave, whole, picked) works stands
    stops device writes_nothing second_stands unwritten out_works = record {
      written = tt;
      ended = inr (inl (
        bytes,
        within,
        gave,
        whole,
        (
          origin,
          picked,
          (
            stops-second kind (λ given refusal. Answers origin given (Err refusal)) second fault stops,
            unwritten,
          ),
        ),
      ));
      read_device = (
        λ named. inr (device.0 (cc named)),
        elim [
          | inl failed ↦ absurd (works failed)
          | inr failed ↦ cc (device.1 failed)
        ],
      );
      write_device = (λ named. absurd (writes_nothing (cc named)), λ failed. absurd (out_works failed));
      stands = stands;
      second_stands = second_stands;
    }

-- a run whose files came, by what its command did
pub responded : {S T K A : Type 0} (kind : FileKind) (Answers : Relation) (index : ℕ) (origin : Origin)
    (bytes : Option (Vec ℕ A)) (text : SourceRun S) (second : Option (SourceRun T)) (sink : SinkRun K)
    (result : Result (Unit {0}) CommandFault) → Came Text (λ given. IsPicked given index origin) text →
    (text.has_failed text.after ≡ true → ⊥) → Stands text → SecondCame kind second bytes → (SecondFailed second → ⊥) →
    IfSome second Stands → Responds (Answers origin (bytes_of bytes)) sink result →
    Ran kind Answers index (run_of text second sink) result
responded kind Answers index origin bytes text second sink result (own, within, gave, whole, picked) works stands came
    second_works second_stands responds = record {
      written = wrote result responds.written;
      ended = ended result responds.ended;
      read_device = (
        λ named. absurd (responds.reads_nothing named),
        elim [
          | inl failed ↦ absurd (works failed)
          | inr failed ↦ absurd (second_works failed)
        ],
      );
      write_device = responds.write_device;
      stands = stands;
      second_stands = second_stands;
    }
  where
    wrote : (r : Result (Unit {0}) CommandFault) → OnOk r (Wrote (Answers origin (bytes_of bytes)) sink) →
        OnOk r (CameBoth kind index (λ o given. Wrote (Answers o given) sink) (run_of text second sink))
    wrote (Err fault) h = tt
    wrote (Ok done) h = (
      own,
      within,
      gave,
      whole,
      (origin, picked, came-second kind (λ given. Wrote (Answers origin given) sink) second bytes came h),
    )

    ended : (r : Result (Unit {0}) CommandFault) → IfErr r (EndsAlone (Answers origin (bytes_of bytes)) sink) →
        IfErr r (Ends kind Answers index (run_of text second sink))
    ended (Ok done) h = tt
    ended (Err fault) (inl (unwritten, why)) = inr (inl (
      own,
      within,
      gave,
      whole,
      (origin, picked, (ends-second kind (Answers origin) second bytes fault came why, unwritten)),
    ))
    ended (Err fault) (inr (writing, part)) = inr (inr (
      writing,
      (
        own,
        within,
        gave,
        whole,
        (origin, picked, came-second kind (λ given. WrotePart (Answers origin given) sink) second bytes came part),
      ),
    ))
