-- A text is a start, or has a first fault, as it is read in steps.
use Rattle.std.proofs.Common.{◌≡◌, ◌∙◌, refl, sym, ap, subst, ℕ, ◌+◌, List, [], ◌∷◌, length}
use Rattle.std.proofs.Common.{Option, Some, None, Result, Ok, Err}
use Rattle.flow_text.specs.Lines.{lines_of}
use Rattle.flow_text.specs.StartText.{Numbered, Said, AreClaim, AreStart}
use Rattle.flow_text.specs.StartText.{IsStart, jobs_on, makespan_on, solid_lines_of}
use Rattle.flow_text.specs.internal.StartSteps.{claim_before, claim_of, said, said_by, start_of}
use Rattle.flow_text.specs.declared.text.start.Claim.{Claim}
use Rattle.flow_text.specs.declared.text.start.StartFault.{StartFault}
use Rattle.flow_text.specs.declared.text.start.StartFault.TheVariants.{Line}

-- what is read of a line, by what stands on it
abbrev pub claim_by : Numbered → List Numbered → Option ℕ → Result (Option Claim) StartFault
claim_by line others read = elim read [
  | None ↦ Err (Line line.number)
  | Some makespan ↦ claim_before (record { makespan = makespan; line = line.number }) others
]

abbrev pub start_by : Numbered → List Numbered → Option (List ℕ) → Result Said StartFault
start_by line others read = elim read [ None ↦ Err (Line line.number) | Some jobs ↦ said jobs (claim_of others) ]

-- lines that are a start are read as what it says

claim-read : (lines : List Numbered) (claim : Option Claim) → AreClaim lines claim → claim_of lines ≡ Ok claim
claim-read [] claim none = ap Ok (sym none)
claim-read (line ∷ []) claim (makespan, read, is) = ap (claim_by line []) read ∙ ap Ok (sym is)
claim-read (line ∷ next ∷ others) claim never = absurd never

start-read : (after : ℕ) (lines : List Numbered) (says : Said) → AreStart lines says → said_by after lines ≡ Ok says
start-read after [] says never = absurd never
start-read after (line ∷ others) says (jobs, claim) =
    ap (start_by line others) jobs ∙ ap (said says.jobs) (claim-read others says.claim claim)

-- what lines are read as is what they say

claim-is : (lines : List Numbered) (claim : Option Claim) → claim_of lines ≡ Ok claim → AreClaim lines claim
claim-is [] claim e = let same : None ≡ claim = cc e in sym same
claim-is (line ∷ others) claim e = go (makespan_on line.bytes) refl e
  where
    go : (read : Option ℕ) → makespan_on line.bytes ≡ read → claim_by line others read ≡ Ok claim →
        AreClaim (line ∷ others) claim
    go None is h = absurd (cc h)
    go (Some makespan) is h = last others h
      where
        last : (rest : List Numbered) →
            claim_before (record { makespan = makespan; line = line.number }) rest ≡ Ok claim →
            AreClaim (line ∷ rest) claim
        last [] k =
            let same : Some (record { makespan = makespan; line = line.number }) ≡ claim = cc k in
            (makespan, is, sym same)
        last (next ∷ more) k = absurd (cc k)

start-is : (after : ℕ) (lines : List Numbered) (says : Said) → said_by after lines ≡ Ok says → AreStart lines says
start-is after [] says e = absurd (cc e)
start-is after (line ∷ others) says e = go (jobs_on line.bytes) refl e
  where
    go : (read : Option (List ℕ)) → jobs_on line.bytes ≡ read → start_by line others read ≡ Ok says →
        AreStart (line ∷ others) says
    go None is h = absurd (cc h)
    go (Some jobs) is h = behind (claim_of others) refl h
      where
        behind : (r : Result (Option Claim) StartFault) → claim_of others ≡ r → said jobs r ≡ Ok says →
            AreStart (line ∷ others) says
        behind (Ok claim) found k =
            let same : record { jobs = jobs; claim = claim } ≡ says = cc k in
            subst (AreStart (line ∷ others)) same (is, claim-is others claim found)
        behind (Err fault) found k = absurd (cc k)

pub is-start : (text : List ℕ) (says : Said) → start_of text ≡ Ok says → IsStart text says
is-start text says e = start-is (length (lines_of text) + 1) (solid_lines_of text) says e

pub reads-start : (text : List ℕ) (says : Said) → IsStart text says → start_of text ≡ Ok says
reads-start text says is = start-read (length (lines_of text) + 1) (solid_lines_of text) says is
