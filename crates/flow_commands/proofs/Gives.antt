-- For each shop, each text gives one sequence as a start, or one fault.
use Rattle.std.proofs.Common.{◌≡◌, ◌∙◌, refl, sym, ap, inl, inr, nat_eq, ℕ, ◌⊎◌, List, Option, Some, None}
use Rattle.std.proofs.Common.{Bool, true, false, cond, Result, Ok, Err}
use Rattle.std.specs.Prelude.{IfSome}
use Rattle.std.proofs.lemmas.Bool.{eq-eqb, eqb-false, eqb-true, ne_eqb}
use Rattle.flow_core.specs.Shop.{Shop}
use Rattle.flow_core.specs.Paths.{span}
use Rattle.flow_core.specs.Sequences.{IsSequence}
use Rattle.flow_core.specs.SequenceFaults.{sequence_fault}
use Rattle.flow_core.specs.StartText.{HasStartFault, IsStart, Said}
use Rattle.flow_core.specs.declared.sequence.SequenceFault.{SequenceFault}
use Rattle.flow_core.specs.declared.text.start.Claim.{Claim}
use Rattle.flow_core.specs.declared.text.start.StartFault.{StartFault}
use Rattle.flow_core.specs.declared.text.start.StartFault.TheVariants as start
use Rattle.flow_core.proofs.SequenceLemmas.{is-fault-none, sequence-fault-none-is}
use Rattle.flow_core.proofs.StartFaultLemmas.{each_start_is_judged}
use Rattle.flow_commands.specs.declared.refusals.CommandFault.{CommandFault}
use Rattle.flow_commands.specs.declared.refusals.CommandFault.TheVariants as command
use Rattle.flow_commands.specs.Start.{EachStartGivesOne, GivesStart}

-- what jobs give that are a sequence
abbrev claimed : Shop → List ℕ → Option Claim → Result (List ℕ) CommandFault
claimed shop jobs None = Ok jobs
claimed shop jobs (Some claim) =
    cond (nat_eq claim.makespan (span shop jobs)) (Ok jobs) (Err (command.Start (start.Line claim.line)))

-- what jobs give, by their fault
abbrev judged : Shop → Said → Option SequenceFault → Result (List ℕ) CommandFault
judged shop says (Some fault) = Err (command.Sequence fault)
judged shop says None = claimed shop says.jobs says.claim

-- what a start gives
abbrev given_by : Shop → Said → Result (List ℕ) CommandFault
given_by shop says = judged shop says (sequence_fault shop.jobs says.jobs)

-- a start gives it

claim-gives : (shop : Shop) (text jobs : List ℕ) (claim : Option Claim) →
    IsStart text (record { jobs = jobs; claim = claim }) → IsSequence shop.jobs jobs →
    GivesStart shop text (claimed shop jobs claim)
claim-gives shop text jobs None says is = (None, says, is, tt)
claim-gives shop text jobs (Some claim) says is = go (nat_eq claim.makespan (span shop jobs)) refl
  where
    go : (b : Bool) → nat_eq claim.makespan (span shop jobs) ≡ b →
        GivesStart shop text (cond b (Ok jobs) (Err (command.Start (start.Line claim.line))))
    go true e = (Some claim, says, is, eqb-true claim.makespan (span shop jobs) e)
    go false e = inr (jobs, claim, says, is, eqb-false claim.makespan (span shop jobs) e, refl)

start-gives : (shop : Shop) (text : List ℕ) (says : Said) → IsStart text says →
    GivesStart shop text (given_by shop says)
start-gives shop text says is = go (sequence_fault shop.jobs says.jobs) refl
  where
    go : (o : Option SequenceFault) → sequence_fault shop.jobs says.jobs ≡ o →
        GivesStart shop text (judged shop says o)
    go (Some fault) e = (says.jobs, says.claim, is, e)
    go None e =
        claim-gives shop text says.jobs says.claim is (sequence-fault-none-is shop.jobs says.jobs e)

-- it gives nothing else

-- a fault that a start gives is of one of two kinds
of-two-kinds : (shop : Shop) (text : List ℕ) (Holds : CommandFault → Type 0) →
    ((fault : StartFault) → GivesStart shop text (Err (command.Start fault)) → Holds (command.Start fault)) →
    ((fault : SequenceFault) → GivesStart shop text (Err (command.Sequence fault)) → Holds (command.Sequence fault)) →
    (fault : CommandFault) → GivesStart shop text (Err fault) → Holds fault
of-two-kinds shop text Holds of_text of_jobs (command.Start fault) gives = of_text fault gives
of-two-kinds shop text Holds of_text of_jobs (command.Sequence fault) gives = of_jobs fault gives
of-two-kinds shop text Holds of_text of_jobs command.Memory never = absurd never
of-two-kinds shop text Holds of_text of_jobs (command.Read fault) never = absurd never
of-two-kinds shop text Holds of_text of_jobs (command.Text fault) never = absurd never
of-two-kinds shop text Holds of_text of_jobs command.Index never = absurd never
of-two-kinds shop text Holds of_text of_jobs (command.Instance fault) never = absurd never
of-two-kinds shop text Holds of_text of_jobs (command.Improve fault) never = absurd never
of-two-kinds shop text Holds of_text of_jobs command.Directions never = absurd never
of-two-kinds shop text Holds of_text of_jobs command.SignedDirections never = absurd never
of-two-kinds shop text Holds of_text of_jobs command.Workers never = absurd never
of-two-kinds shop text Holds of_text of_jobs (command.Choice fault) never = absurd never
of-two-kinds shop text Holds of_text of_jobs (command.Plan fault) never = absurd never
of-two-kinds shop text Holds of_text of_jobs (command.Run fault) never = absurd never
of-two-kinds shop text Holds of_text of_jobs (command.Certificate fault) never = absurd never
of-two-kinds shop text Holds of_text of_jobs (command.Bounds lower upper) never = absurd never
of-two-kinds shop text Holds of_text of_jobs (command.Write fault) never = absurd never

claim-met : (shop : Shop) (jobs : List ℕ) (claim : Option Claim) →
    IfSome claim (λ said. said.makespan ≡ span shop jobs) → Ok jobs ≡ claimed shop jobs claim
claim-met shop jobs None met = refl
claim-met shop jobs (Some claim) met =
    sym (ap (λ b. cond b (Ok jobs) (Err (command.Start (start.Line claim.line))))
    (eq-eqb claim.makespan (span shop jobs) met))

-- what a text gives that is a start
given-is : (shop : Shop) (text : List ℕ) (says : Said) → IsStart text says →
    (given : Result (List ℕ) CommandFault) → GivesStart shop text given → given ≡ given_by shop says
given-is shop text says is (Ok jobs) (claim, own, sequence, met) =
    claim-met shop jobs claim met
    ∙ ap (judged shop (record { jobs = jobs; claim = claim })) (sym (is-fault-none shop.jobs jobs sequence))
    ∙ ap (given_by shop) ((each_start_is_judged text).one (record { jobs = jobs; claim = claim }) says own is)
given-is shop text says is (Err fault) gives =
    of-two-kinds shop text (λ f. Err f ≡ given_by shop says) of_text of_jobs fault gives
  where
    of_text : (at : StartFault) → GivesStart shop text (Err (command.Start at)) →
        Err (command.Start at) ≡ given_by shop says
    of_text at (inl has) = absurd ((each_start_is_judged text).apart says at is has)
    of_text at (inr (jobs, claim, own, sequence, other, line)) =
        ap (λ f. Err (command.Start f)) line
        ∙ sym (ap (λ b. cond b (Ok jobs) (Err (command.Start (start.Line claim.line))))
        (ne_eqb claim.makespan (span shop jobs) other))
        ∙ ap (judged shop (record { jobs = jobs; claim = Some claim })) (sym (is-fault-none shop.jobs jobs sequence))
        ∙ ap (given_by shop) ((each_start_is_judged text).one (record { jobs = jobs; claim = Some claim }) says own is)

    of_jobs : (at : SequenceFault) → GivesStart shop text (Err (command.Sequence at)) →
        Err (command.Sequence at) ≡ given_by shop says
    of_jobs at (jobs, claim, own, e) =
        ap (judged shop (record { jobs = jobs; claim = claim })) (sym e)
        ∙ ap (given_by shop) ((each_start_is_judged text).one (record { jobs = jobs; claim = claim }) says own is)

abbrev refusal : CommandFault → Result (List ℕ) CommandFault
refusal fault = Err fault

-- what a text gives that is none
fault-is : (shop : Shop) (text : List ℕ) (first : StartFault) → HasStartFault text first →
    (given : Result (List ℕ) CommandFault) → GivesStart shop text given → given ≡ Err (command.Start first)
fault-is shop text first has (Ok jobs) (claim, own, sequence, met) =
    absurd ((each_start_is_judged text).apart (record { jobs = jobs; claim = claim }) first own has)
fault-is shop text first has (Err fault) gives =
    of-two-kinds shop text (λ f. refusal f ≡ refusal (command.Start first)) of_text of_jobs fault gives
  where
    of_text : (at : StartFault) → GivesStart shop text (Err (command.Start at)) →
        refusal (command.Start at) ≡ refusal (command.Start first)
    of_text at (inl own) =
        ap (λ f. Err (command.Start f)) ((each_start_is_judged text).one_fault at first own has)
    of_text at (inr (jobs, claim, own, sequence, other, line)) =
        absurd ((each_start_is_judged text).apart (record { jobs = jobs; claim = Some claim }) first own has)

    of_jobs : (at : SequenceFault) → GivesStart shop text (Err (command.Sequence at)) →
        refusal (command.Sequence at) ≡ refusal (command.Start first)
    of_jobs at (jobs, claim, own, e) =
        absurd ((each_start_is_judged text).apart (record { jobs = jobs; claim = claim }) first own has)

pub each_start_gives_one : EachStartGivesOne
each_start_gives_one shop text = go ((each_start_is_judged text).some)
  where
    go : ((says : Said) × IsStart text says) ⊎ ((fault : StartFault) × HasStartFault text fault) →
        (given : Result (List ℕ) CommandFault) × GivesStart shop text given
        × ((other : Result (List ℕ) CommandFault) → GivesStart shop text other → other ≡ given)
    go (inl (says, is)) = (given_by shop says, start-gives shop text says is, given-is shop text says is)
    go (inr (fault, has)) = (Err (command.Start fault), inl has, fault-is shop text fault has)
