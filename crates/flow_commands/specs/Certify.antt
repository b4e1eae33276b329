-- What `certify` answers.
use Rattle.std.specs.Prelude.{◌≡◌, ℕ, ◌≤◌, nat_le, Bool, true, false, ◌&&◌, List, [], ◌∷◌, length}
use Rattle.std.specs.Prelude.{Option, Some, None, Ok, Err}
use Rattle.std.specs.Int.{is_in_range}
use Rattle.flow_core.specs.Shop.{Shop}
use Rattle.flow_core.specs.Ends.{end_bound}
use Rattle.flow_core.specs.Limits.{most_certificate, most_directions, most_workers}
use Rattle.flow_core.specs.Refusals.{fault_unless, first_fault}
use Rattle.flow_check.specs.Bounds.{AreProved}
use Rattle.flow_check.specs.Counted.{counted_text}
use Rattle.flow_check.specs.Kinds.{IsReadAs}
use Rattle.flow_check.specs.Stated.{GivesAs}
use Rattle.flow_check.specs.TwoEnded.{two_ended_text}
use Rattle.flow_check.specs.declared.bounds.Bounds.{Bounds}
use Rattle.flow_check.specs.declared.kind.TextKind.{TextKind}
use Rattle.flow_check.specs.declared.kind.TextKind.TheVariants.{Counted, TwoEnded}
use Rattle.flow_certify.specs.Searched.{IsSearched}
use Rattle.flow_certify.specs.Signs.{may_be_most}
use Rattle.flow_requests.specs.declared.CertifyRequest.{CertifyRequest}
use Rattle.flow_requests.specs.declared.ProofForm.{ProofForm}
use Rattle.flow_requests.specs.declared.ProofForm.TheVariants.{ByLength, Count, Signs}
use Rattle.flow_commands.specs.Output.{Output}
use Rattle.flow_commands.specs.Improve.{IsImproved, improve_fault}
use Rattle.flow_commands.specs.Runs.{SinkRun, Took}
use Rattle.flow_commands.specs.declared.refusals.CommandFault.{CommandFault}
use Rattle.flow_commands.specs.declared.refusals.CommandFault.TheVariants.{Directions, SignedDirections, Workers}

-- why a number of workers is refused, if it is
abbrev pub workers_fault : ℕ → Option CommandFault
workers_fault workers = fault_unless (is_in_range 1 most_workers workers) Workers

-- why a limit on the directions of a proof is refused, if it is, by the form that is asked for: as signs there may be
-- fewer
abbrev pub directions_fault : ProofForm → ℕ → Option CommandFault
directions_fault ByLength most = fault_unless (may_be_most most) Directions
directions_fault Signs most = fault_unless (is_in_range 1 most_directions most) SignedDirections
directions_fault Count most = fault_unless (may_be_most most) Directions

-- why `certify` refuses its numbers, if it does
abbrev pub certify_fault : CertifyRequest → Option CommandFault
certify_fault request = first_fault (
    improve_fault request.improve
    ∷ directions_fault request.proof request.directions
    ∷ workers_fault request.workers
    ∷ [])

-- the greatest limit on directions with which their signs are kept where no form is asked for
abbrev pub most_kept : ℕ
most_kept = 100000000

-- the most directions that are written as signs where no form is asked for
abbrev pub most_unasked : ℕ
most_unasked = 10000000

-- whether a run keeps the signs of its proof, by the form that is asked for and the limit on directions; else it keeps
-- their number alone
abbrev pub keeps_signs : ProofForm → ℕ → Bool
keeps_signs ByLength most = nat_le most most_kept
keeps_signs Signs most = true
keeps_signs Count most = false

-- whether a proof of so many directions is written as signs, by the form that is asked for and the limit on directions:
-- where they are kept, and where no form is asked for only few of them
abbrev pub writes_signs : ProofForm → ℕ → ℕ → Bool
writes_signs ByLength most count = keeps_signs ByLength most && nat_le count most_unasked
writes_signs Signs most count = true
writes_signs Count most count = false

-- whether these directions are written as signs, at a request
abbrev pub is_signed : CertifyRequest → List ℕ → Bool
is_signed request directions = writes_signs request.proof request.directions (length directions)

-- the text of bounds and a sequence, with a sign for each of these directions, or with their number
abbrev pub proof_text : Bool → Shop → Bounds → List ℕ → List ℕ → List ℕ
proof_text true shop bounds jobs directions = two_ended_text shop bounds jobs directions
proof_text false shop bounds jobs directions = counted_text shop bounds jobs (length directions)

-- the kind of this text
abbrev pub proof_kind : Bool → TextKind
proof_kind true = TwoEnded
proof_kind false = Counted

-- a lawful certificate in a form, short enough for `check`, with the directions of the search below its lower bound, at
-- most so many: its sequence is no worse than the one to start from, and its lower bound no less than that of the node
-- of two empty lists
pub record Certifies (shop : Shop) (given : Option (List ℕ)) (request : CertifyRequest) (text : List ℕ) : Type 0 where
  pub bounds : Bounds
  pub jobs : List ℕ
  pub directions : List ℕ
  pub searched : IsSearched shop bounds.lower directions
  pub written : text ≡ proof_text (is_signed request directions) shop bounds jobs directions
  pub read : IsReadAs text (proof_kind (is_signed request directions))
  pub lawful : GivesAs (proof_kind (is_signed request directions)) shop text bounds jobs
  pub improved : IsImproved shop given jobs
  pub floor : end_bound shop [] [] ≤ bounds.lower
  pub few : length directions ≤ request.directions
  pub short : length text ≤ most_certificate

-- what `certify` answers for a shop and a given sequence: such a text; or why its numbers are refused. Which bounds it
-- comes to, is not said
abbrev pub AnswersCertify : CertifyRequest → Shop → Option (List ℕ) → Output → Type 0
AnswersCertify request shop given answer = elim (certify_fault request) [
  | Some fault ↦ answer ≡ Err fault
  | None ↦ (text : List ℕ) × Certifies shop given request text × (answer ≡ Ok text)
]

-- a sink took a lawful certificate of a shop, of the kind as which it is read, whose bounds are proved
abbrev pub WroteProof : {K : Type 0} → Shop → SinkRun K → Type 0
WroteProof shop sink =
    (text : List ℕ) × (kind : TextKind) × (bounds : Bounds) × (jobs : List ℕ) × Took text sink × IsReadAs text kind
    × GivesAs kind shop text bounds jobs × AreProved shop bounds
