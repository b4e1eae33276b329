-- What the program does that a command line asks for, by what its names stand for.
use Rattle.std.specs.Prelude.{◌≡◌, ◌⊎◌, ℕ, List, Result, Ok, Err, IsErrOf}
use Rattle.flow_text.specs.declared.bytes.device.Source as sources
use Rattle.flow_requests.specs.declared.Invocation.{Invocation}
use Rattle.flow_requests.specs.declared.Invocation.TheVariants.{Gen, OfBlock}
use Rattle.flow_commands.specs.Generate.{AnswersGen}
use Rattle.flow_requests.specs.SecondFile.{file_in}
use Rattle.flow_commands.specs.Files.{kind_of}
use Rattle.flow_commands.specs.Request.{answers}
use Rattle.flow_commands.specs.Runs.{IsUnwritten, Ran, Responds, SinkRun, run_of}
use Rattle.flow_commands.specs.declared.refusals.CommandFault.{CommandFault}
use Rattle.flow_tool.specs.Inputs.{Names, RefusedSecond, RefusedText, RunOfSecond, RunOfText}
use Rattle.flow_tool.specs.declared.refusal.Stop.{Stop}
use Rattle.flow_tool.specs.declared.refusal.Stop.TheVariants.{CommandLine, Fault, Memory, Open}
use Rattle.flow_tool.specs.Words.{Meaning}

-- the program ended as its command did
abbrev pub EndsAs : (Result (Unit {0}) CommandFault → Type 0) → Result (Unit {0}) Stop → Type 0
EndsAs Comes (Ok done) = Comes (Ok done)
EndsAs Comes (Err (Fault fault)) = Comes (Err fault)
EndsAs Comes (Err stop) = ⊥

-- the program did what a command line asks for: it ran a command that reads nothing; or it ran the command of a request
-- over the files that the names stand for; or it stopped, since it could not open the text, or else the second file,
-- and had read and written nothing
abbrev pub Obeys :
    {A : Type 0} → {B : Type 0} → {K : Type 0} → sources.Ghosts A → sources.Ghosts B → Names A B → Invocation
    → SinkRun K → Result (Unit {0}) Stop → Type 0
Obeys standard file names (Gen jobs machines seed) sink result =
    EndsAs (Responds (AnswersGen jobs machines seed) sink) result
Obeys standard file names (OfBlock name index second request) sink result =
    (IsErrOf result Open × RefusedText names name.now × IsUnwritten sink)
    ⊎ RunOfText standard file names name.now (λ text.
    (IsErrOf result Open × RefusedSecond names (file_in second) × (text.after ≡ text.before) × IsUnwritten sink)
    ⊎ RunOfSecond file names second (λ opened given.
    EndsAs (Ran (kind_of opened) (answers request) index (run_of text given sink)) result))

-- the program did what words mean: what they ask for; or it wrote the text that explains them; or it stopped, and had
-- written nothing, since memory ran out or since they are no command line
abbrev pub Follows :
    {A : Type 0} → {B : Type 0} → {K : Type 0} → Meaning → sources.Ghosts A → sources.Ghosts B → Names A B
    → List (List ℕ) → SinkRun K → Result (Unit {0}) Stop → Type 0
Follows meaning standard file names words sink result =
    ((invocation : Invocation) × meaning.asks words invocation × Obeys standard file names invocation sink result)
    ⊎ ((text : List ℕ) × meaning.explains words text × EndsAs (Responds (λ answer. answer ≡ Ok text) sink) result)
    ⊎ ((IsErrOf result Memory ⊎ (IsErrOf result CommandLine × meaning.refused words)) × IsUnwritten sink)

-- the same of words that may not be given: then the program stopped, by this reason, and had written nothing
abbrev pub FollowsGiven :
    {A : Type 0} → {B : Type 0} → {K : Type 0} → Meaning → sources.Ghosts A → sources.Ghosts B → Names A B
    → Result (List (List ℕ)) Stop → SinkRun K → Result (Unit {0}) Stop → Type 0
FollowsGiven meaning standard file names (Ok words) sink result =
    Follows meaning standard file names words sink result
FollowsGiven meaning standard file names (Err stop) sink result = (result ≡ Err stop) × IsUnwritten sink
