-- What the names of a command line stand for.
use Rattle.std.specs.Prelude.{◌≡◌, ◌≢◌, ℕ, List, codes, Option, Some, None}
use Rattle.std.specs.Borrow.{Bor}
use Rattle.flow_text.specs.declared.bytes.device.Source as sources
use Rattle.flow_requests.specs.SecondFile.{file_in}
use Rattle.flow_requests.specs.declared.SecondFile.{SecondFile}
use Rattle.flow_requests.specs.declared.SecondFile.TheVariants as second
use Rattle.flow_commands.specs.Runs.{SourceRun, second_run}
use Rattle.flow_tool.specs.declared.inputs.Text.{Text}
use Rattle.flow_tool.specs.declared.inputs.Text.TheVariants.{Standard, File}

-- what names stand for: which source is standard input, which file a name opened, and which name opened none
pub record Names (A : Type 0) (B : Type 0) : Type 1 where
  pub is_standard : A → Type 0
  pub opened : List ℕ → B → Type 0
  pub refused : List ℕ → Type 0

-- names of which it is not known what they stand for
abbrev pub unknown_names : {A : Type 0} → {B : Type 0} → Names A B
unknown_names = record {
  is_standard = λ _. Unit {0};
  opened = λ _ _. Unit {0};
  refused = λ _. Unit {0};
}

-- what a text shows: what standard input or the file shows
abbrev pub shown : {A : Type 0} → {B : Type 0} → {C : Type 0} → (A → C) → (B → C) → Text A B → C
shown of_standard of_file (Standard source) = of_standard source
shown of_standard of_file (File file) = of_file file

-- the run of a text
abbrev pub text_run :
    {A : Type 0} → {B : Type 0} → sources.Ghosts A → sources.Ghosts B → Text A B → Text A B → SourceRun (Text A B)
text_run standard file before after = record {
  given = shown standard.given file.given;
  has_ended = shown standard.has_ended file.has_ended;
  has_failed = shown standard.has_failed file.has_failed;
  before = before;
  after = after;
}

-- a name stands for this text: for standard input the word of it, and for a file its own name, as it was opened
abbrev pub IsText : {A : Type 0} → {B : Type 0} → Names A B → List ℕ → Text A B → Type 0
IsText names name (Standard source) = (name ≡ codes "stdin") × names.is_standard source
IsText names name (File file) = (name ≢ codes "stdin") × names.opened name file

-- a name stands for no text: its file could not be opened
abbrev pub RefusedText : {A : Type 0} → {B : Type 0} → Names A B → List ℕ → Type 0
RefusedText names name = (name ≢ codes "stdin") × names.refused name

-- the name of a second file opened this file, which is read as the same; or there is neither
abbrev pub IsSecond : {A : Type 0} → {B : Type 0} → Names A B → SecondFile (Bor (List ℕ)) → SecondFile B → Type 0
IsSecond names second.Absent second.Absent = Unit {0}
IsSecond names (second.Start name) (second.Start file) = names.opened name.now file
IsSecond names (second.Certificate name) (second.Certificate file) = names.opened name.now file
IsSecond names (second.StartOrCertificate name) (second.StartOrCertificate file) = names.opened name.now file
IsSecond names name file = ⊥

-- a second file is named, and could not be opened
abbrev pub RefusedSecond : {A : Type 0} → {B : Type 0} → Names A B → Option (Bor (List ℕ)) → Type 0
RefusedSecond names None = ⊥
RefusedSecond names (Some name) = names.refused name.now

-- this fact holds of a run of a text that the name stands for
abbrev pub RunOfText :
    {A : Type 0} → {B : Type 0} → sources.Ghosts A → sources.Ghosts B → Names A B → List ℕ
    → (SourceRun (Text A B) → Type 0) → Type 0
RunOfText {A} {B} standard file names name Holds =
    (text : Text A B) × (after : Text A B) × IsText names name text × Holds (text_run standard file text after)

-- the same of a second file that the name stands for, which may be absent, and of its run
abbrev pub RunOfSecond :
    {A : Type 0} → {B : Type 0} → sources.Ghosts B → Names A B → SecondFile (Bor (List ℕ))
    → (SecondFile B → Option (SourceRun B) → Type 0) → Type 0
RunOfSecond {A} {B} file names name Holds =
    (second : SecondFile B) × (after : SecondFile B) × IsSecond names name second
    × Holds second (second_run file (file_in second) (file_in after))
