-- How a start text is read, line by line. Only contracts of private functions and proofs speak of it.
use Rattle.std.specs.Prelude.{◌≡◌, ◌≢◌, ℕ, ◌+◌, List, [], ◌∷◌, length, Option, None, Some, Result, Ok, Err}
use Rattle.flow_text.specs.Lines.{lines_of}
use Rattle.flow_text.specs.StartText.{Numbered, Said, jobs_on, makespan_on, solid_lines_of}
use Rattle.flow_text.specs.declared.text.start.Claim.{Claim}
use Rattle.flow_text.specs.declared.text.fault.LineFault.{LineFault}
use Rattle.flow_text.specs.declared.text.fault.LineFault.TheVariants as line
use Rattle.flow_text.specs.declared.text.start.Solid.{Solid}
use Rattle.flow_text.specs.declared.text.start.StartFault.{StartFault}
use Rattle.flow_text.specs.declared.text.start.StartFault.TheVariants.{Line, Memory}

-- a line that is not blank, without the text behind it
abbrev pub numbered : Solid → Numbered
numbered solid = record { number = solid.number; bytes = solid.bytes.now }

-- the fault of a start, by what is wrong with a line
abbrev pub of_start : LineFault → ℕ → StartFault
of_start line.Memory number = Memory
of_start fault number = Line number

-- a fault is that of the line, which has nothing of what it should; `Memory` says nothing of it
abbrev pub IsOfLine : {A : Type 0} → Option A → ℕ → StartFault → Type 0
IsOfLine read number fault = fault ≢ Memory → (read ≡ None) × (fault ≡ Line number)

-- the claim, where no line follows; or the fault of the first that does
abbrev pub claim_before : Claim → List Numbered → Result (Option Claim) StartFault
claim_before claim [] = Ok (Some claim)
claim_before claim (line ∷ others) = Err (Line line.number)

-- what the lines behind the line of a sequence say: nothing, or its makespan alone
abbrev pub claim_of : List Numbered → Result (Option Claim) StartFault
claim_of [] = Ok None
claim_of (line ∷ others) =
    elim (makespan_on line.bytes) [
      | None ↦ Err (Line line.number)
      | Some makespan ↦ claim_before (record { makespan = makespan; line = line.number }) others
    ]

-- what jobs say with the lines behind them
abbrev pub said : List ℕ → Result (Option Claim) StartFault → Result Said StartFault
said jobs (Ok claim) = Ok (record { jobs = jobs; claim = claim })
said jobs (Err fault) = Err fault

-- what lines that are not blank say as a start, where a line behind the last would have this number
abbrev pub said_by : ℕ → List Numbered → Result Said StartFault
said_by after [] = Err (Line after)
said_by after (line ∷ others) =
    elim (jobs_on line.bytes) [ None ↦ Err (Line line.number) | Some jobs ↦ said jobs (claim_of others) ]

-- what a text says as a start, or its first fault
abbrev pub start_of : List ℕ → Result Said StartFault
start_of text = said_by (length (lines_of text) + 1) (solid_lines_of text)
