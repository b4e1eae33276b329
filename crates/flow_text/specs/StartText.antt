-- Start text: which texts are starts, what they say, and the first line at fault of any other text.
use Rattle.std.specs.Prelude.{◌≡◌, ℕ, ◌+◌, ◌⊎◌, Bool, true, ◌&&◌, nat_lt, nat_le, if◌then◌else◌, List, [], ◌∷◌}
use Rattle.std.specs.Prelude.{◌++◌, length, take, drop, Option, None, Some, codes}
use Rattle.std.specs.List.{list_all}
use Rattle.std.specs.Str.{bytes_eq}
use Rattle.flow_text.specs.Lines.{lines_of, is_blank, is_blank_line, after_blanks, is_plain, numbers_of, are_small}
use Rattle.flow_text.specs.declared.text.start.Claim.{Claim}
use Rattle.flow_text.specs.declared.text.start.StartFault.{StartFault}
use Rattle.flow_text.specs.declared.text.start.StartFault.TheVariants.{Line, Memory}

-- the word before the jobs of a sequence
unfoldable pub sequence_word : List ℕ
sequence_word = codes "sequence"

-- the word before a makespan
unfoldable pub makespan_word : List ℕ
makespan_word = codes "makespan"

-- whether a rest is empty, or begins with a blank
abbrev pub ends_word : List ℕ → Bool
ends_word [] = true
ends_word (b ∷ bs) = is_blank b

-- what stands behind a word, where the line begins with it after blanks, and a blank or the line's end follows
abbrev pub behind : List ℕ → List ℕ → Option (List ℕ)
behind word line =
    let text = after_blanks line in
    let rest = drop (length word) text in
    if bytes_eq (take (length word) text) word && ends_word rest then Some rest else None

-- the numbers on the rest of a line, where it has digits and blanks alone
abbrev pub numbers_on : List ℕ → Option (List ℕ)
numbers_on rest = if is_plain rest && are_small (numbers_of rest) then Some (numbers_of rest) else None

-- the numbers behind a word
abbrev pub numbers_behind : List ℕ → List ℕ → Option (List ℕ)
numbers_behind word line = elim (behind word line) [ None ↦ None | Some rest ↦ numbers_on rest ]

-- the greatest number that is read as a job
abbrev pub greatest_job_number : ℕ
greatest_job_number = 65535

-- whether each number may be read as a job
abbrev pub are_jobs : List ℕ → Bool
are_jobs numbers = list_all (λ n. nat_le n greatest_job_number) numbers

-- the jobs on the line of a sequence, which has one at least
abbrev pub jobs_on : List ℕ → Option (List ℕ)
jobs_on line =
    elim (numbers_behind sequence_word line)
    [ None ↦ None | Some numbers ↦ if nat_lt 0 (length numbers) && are_jobs numbers then Some numbers else None ]

-- the only number of a list
abbrev pub only : List ℕ → Option ℕ
only [] = None
only (number ∷ []) = Some number
only (number ∷ next ∷ others) = None

-- the makespan on its line
abbrev pub makespan_on : List ℕ → Option ℕ
makespan_on line = elim (numbers_behind makespan_word line) [ None ↦ None | Some numbers ↦ only numbers ]

-- a line with its number in the text
pub record Numbered : Type 0 where
  pub number : ℕ
  pub bytes : List ℕ

-- the lines that are not blank, where the first line has this number
abbrev pub solid_lines : ℕ → List (List ℕ) → List Numbered
solid_lines number [] = []
solid_lines number (line ∷ lines) =
    if is_blank_line line then solid_lines (number + 1) lines
    else record { number = number; bytes = line } ∷ solid_lines (number + 1) lines

-- the lines of a text that are not blank
abbrev pub solid_lines_of : List ℕ → List Numbered
solid_lines_of text = solid_lines 1 (lines_of text)

-- what a start says: jobs in an order, and the makespan that they are said to have, if there is one
pub record Said : Type 0 where
  pub jobs : List ℕ
  pub claim : Option Claim

-- the lines behind that of the jobs, and what they claim: no lines claim nothing, and one line the makespan on it
abbrev pub AreClaim : List Numbered → Option Claim → Type 0
AreClaim [] claim = claim ≡ None
AreClaim (line ∷ []) claim =
    (makespan : ℕ) × (makespan_on line.bytes ≡ Some makespan)
    × (claim ≡ Some (record { makespan = makespan; line = line.number }))
AreClaim lines claim = ⊥

-- lines that are a start, and what it says: a line of jobs, and behind it the lines of a claim
abbrev pub AreStart : List Numbered → Said → Type 0
AreStart [] said = ⊥
AreStart (line ∷ others) said = (jobs_on line.bytes ≡ Some said.jobs) × AreClaim others said.claim

-- lines with which a start may begin
abbrev pub BeginStart : List Numbered → Type 0
BeginStart lines = (others : List Numbered) × (said : Said) × AreStart (lines ++ others) said

-- a text is a start that says this (law: each_start_is_judged)
abbrev pub IsStart : List ℕ → Said → Type 0
IsStart text said = AreStart (solid_lines_of text) said

-- the first fault of a text that is no start: the number of the first line that is not blank and with which no start
-- goes on; or, where the text is only the beginning of a start, the number of the line after the last
-- (law: each_start_is_judged)
abbrev pub HasStartFault : List ℕ → StartFault → Type 0
HasStartFault text Memory = ⊥
HasStartFault text (Line number) =
    ((before : List Numbered) × (line : Numbered) × (others : List Numbered)
    × (solid_lines_of text ≡ before ++ line ∷ others) × BeginStart before × (¬ BeginStart (before ++ line ∷ []))
    × (number ≡ line.number))
    ⊎ (BeginStart (solid_lines_of text) × ((said : Said) → ¬ IsStart text said)
    × (number ≡ length (lines_of text) + 1))

-- a text is a start that says one thing, or has one first fault, and not both (law: each_start_is_judged)
pub record IsJudgedAsStart (text : List ℕ) : Type 0 where
  pub some : ((said : Said) × IsStart text said) ⊎ ((fault : StartFault) × HasStartFault text fault)
  pub apart : (said : Said) (fault : StartFault) → IsStart text said → ¬ HasStartFault text fault
  pub one : (said other : Said) → IsStart text said → IsStart text other → said ≡ other
  pub one_fault : (fault other : StartFault) → HasStartFault text fault → HasStartFault text other → fault ≡ other

-- each text is judged (law: each_start_is_judged)
abbrev pub EachStartIsJudged : Type 0
EachStartIsJudged = (text : List ℕ) → IsJudgedAsStart text
