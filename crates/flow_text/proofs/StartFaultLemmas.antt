-- The first fault of a text is the one with which it is read in steps; each text is judged.
use Rattle.std.proofs.Common.{◌≡◌, ◌∙◌, refl, sym, ap, inl, inr, ℕ, ◌+◌, ◌⊎◌, List, [], ◌∷◌, ◌++◌, length}
use Rattle.std.proofs.Common.{Option, Some, None, Result, Ok, Err}
use Rattle.std.specs.Prelude.{◌≢◌, IfErr, codes}
use Rattle.flow_text.specs.Lines.{lines_of}
use Rattle.flow_text.specs.StartText.{Numbered, Said, AreStart, BeginStart, EachStartIsJudged, HasStartFault}
use Rattle.flow_text.specs.StartText.{IsStart, jobs_on, makespan_on, sequence_word, solid_lines_of}
use Rattle.flow_text.specs.internal.StartSteps.{claim_before, claim_of, said, said_by, start_of}
use Rattle.flow_text.specs.declared.text.start.Claim.{Claim}
use Rattle.flow_text.specs.declared.text.start.StartFault.{StartFault}
use Rattle.flow_text.specs.declared.text.start.StartFault.TheVariants.{Line, Memory}
use Rattle.flow_text.proofs.StartGrammar.{claim_by, start_by, is-start, reads-start}

-- the fault of lines, where a line behind the last would have this number
abbrev HaveFault : ℕ → List Numbered → StartFault → Type 0
HaveFault after lines Memory = ⊥
HaveFault after lines (Line number) =
    ((before : List Numbered) × (line : Numbered) × (others : List Numbered) × (lines ≡ before ++ line ∷ others)
    × BeginStart before × (¬ BeginStart (before ++ line ∷ [])) × (number ≡ line.number))
    ⊎ (BeginStart lines × ((says : Said) → ¬ AreStart lines says) × (number ≡ after))

-- some text is a start
abbrev a_line : Numbered
a_line = record { number = 1; bytes = codes "sequence 1" }

a-line-reads : jobs_on (codes "sequence 1") ≡ Some (1 ∷ [])
unfolding sequence_word
a-line-reads = refl

begin-none : BeginStart []
begin-none = (a_line ∷ [], record { jobs = 1 ∷ []; claim = None }, (a-line-reads, refl))

-- why no start goes on

no-jobs : (line : Numbered) → jobs_on line.bytes ≡ None → ¬ BeginStart (line ∷ [])
no-jobs line none (others, says, (jobs, claim)) =
    let bad : None ≡ Some says.jobs = sym none ∙ jobs in cc

no-makespan : (first line : Numbered) → makespan_on line.bytes ≡ None → ¬ BeginStart (first ∷ line ∷ [])
no-makespan first line none ([], says, (jobs, (makespan, read, is))) =
    let bad : None ≡ Some makespan = sym none ∙ read in cc
no-makespan first line none (next ∷ others, says, (jobs, never)) = absurd never

no-third : (first second line : Numbered) → ¬ BeginStart (first ∷ second ∷ line ∷ [])
no-third first second line (others, says, (jobs, never)) = absurd never

-- the fault with which lines are read is theirs

at : (after : ℕ) (lines : List Numbered) (fault : StartFault) (before : List Numbered) (line : Numbered)
    (others : List Numbered) → lines ≡ before ++ line ∷ others → BeginStart before →
    (¬ BeginStart (before ++ line ∷ [])) → Line line.number ≡ fault → HaveFault after lines fault
at after lines Memory before line others e begins stops is = absurd (cc is)
at after lines (Line number) before line others e begins stops is =
    let same : line.number ≡ number = cc is in
    inl (before, line, others, e, begins, stops, sym same)

third-fault : (after : ℕ) (first second : Numbered) (others : List Numbered) (jobs : List ℕ) (makespan : ℕ)
    (fault : StartFault) → jobs_on first.bytes ≡ Some jobs → makespan_on second.bytes ≡ Some makespan →
    claim_before (record { makespan = makespan; line = second.number }) others ≡ Err fault →
    HaveFault after (first ∷ second ∷ others) fault
third-fault after first second [] jobs makespan fault read more e = absurd (cc e)
third-fault after first second (line ∷ others) jobs makespan fault read more e =
    let same : Line line.number ≡ fault = cc e in
    at after (first ∷ second ∷ line ∷ others) fault (first ∷ second ∷ []) line others refl (
      [],
      record { jobs = jobs; claim = Some (record { makespan = makespan; line = second.number }) },
      (read, (makespan, more, refl)),
    )
    (no-third first second line) same

second-fault : (after : ℕ) (first : Numbered) (others : List Numbered) (jobs : List ℕ) (fault : StartFault) →
    jobs_on first.bytes ≡ Some jobs → claim_of others ≡ Err fault → HaveFault after (first ∷ others) fault
second-fault after first [] jobs fault read e = absurd (cc e)
second-fault after first (line ∷ others) jobs fault read e = go (makespan_on line.bytes) refl e
  where
    go : (on : Option ℕ) → makespan_on line.bytes ≡ on → claim_by line others on ≡ Err fault →
        HaveFault after (first ∷ line ∷ others) fault
    go None is h =
        let same : Line line.number ≡ fault = cc h in
        at after (first ∷ line ∷ others) fault (first ∷ []) line others refl
        ([], record { jobs = jobs; claim = None }, (read, refl)) (no-makespan first line is) same
    go (Some makespan) is h = third-fault after first line others jobs makespan fault read is h

said-err : (jobs : List ℕ) (r : Result (Option Claim) StartFault) (fault : StartFault) → said jobs r ≡ Err fault →
    r ≡ Err fault
said-err jobs (Ok claim) fault e = absurd (cc e)
said-err jobs (Err other) fault e = let same : other ≡ fault = cc e in ap Err same

none-is : (after : ℕ) (fault : StartFault) → Line after ≡ fault → HaveFault after [] fault
none-is after Memory e = absurd (cc e)
none-is after (Line number) e =
    let same : after ≡ number = cc e in inr (begin-none, (λ says never. never), sym same)

lines-have : (after : ℕ) (lines : List Numbered) (fault : StartFault) → said_by after lines ≡ Err fault →
    HaveFault after lines fault
lines-have after [] fault e = let same : Line after ≡ fault = cc e in none-is after fault same
lines-have after (line ∷ others) fault e = go (jobs_on line.bytes) refl e
  where
    go : (on : Option (List ℕ)) → jobs_on line.bytes ≡ on → start_by line others on ≡ Err fault →
        HaveFault after (line ∷ others) fault
    go None is h =
        let same : Line line.number ≡ fault = cc h in
        at after (line ∷ others) fault [] line others refl begin-none (no-jobs line is) same
    go (Some jobs) is h =
        second-fault after line others jobs fault is (said-err jobs (claim_of others) fault h)

-- lines are read with the fault that they have

line-read : (after : ℕ) (before : List Numbered) (line : Numbered) (others : List Numbered) → BeginStart before →
    (¬ BeginStart (before ++ line ∷ [])) → said_by after (before ++ line ∷ others) ≡ Err (Line line.number)
line-read after [] line others begins stops = go (jobs_on line.bytes) refl
  where
    go : (on : Option (List ℕ)) → jobs_on line.bytes ≡ on →
        start_by line others (jobs_on line.bytes) ≡ Err (Line line.number)
    go None is = ap (start_by line others) is
    go (Some jobs) is = absurd (stops ([], record { jobs = jobs; claim = None }, (is, refl)))
line-read after (first ∷ []) line others (more, says, (jobs, claim)) stops =
    ap (start_by first (line ∷ others)) jobs ∙ ap (said says.jobs) (go (makespan_on line.bytes) refl)
  where
    go : (on : Option ℕ) → makespan_on line.bytes ≡ on →
        claim_by line others (makespan_on line.bytes) ≡ Err (Line line.number)
    go None is = ap (claim_by line others) is
    go (Some makespan) is = absurd (stops (
      [],
      record { jobs = says.jobs; claim = Some (record { makespan = makespan; line = line.number }) },
      (jobs, (makespan, is, refl)),
    ))
line-read after (first ∷ second ∷ []) line others ([], says, (jobs, (makespan, read, is))) stops =
    ap (start_by first (second ∷ line ∷ others)) jobs
    ∙ ap (λ on. said says.jobs (claim_by second (line ∷ others) on)) read
line-read after (first ∷ second ∷ []) line others (next ∷ more, says, (jobs, never)) stops = absurd never
line-read after (first ∷ second ∷ third ∷ before) line others (more, says, (jobs, never)) stops = absurd never

end-read : (after : ℕ) (lines : List Numbered) → BeginStart lines → ((says : Said) → ¬ AreStart lines says) →
    said_by after lines ≡ Err (Line after)
end-read after [] begins none = refl
end-read after (first ∷ []) (more, says, (jobs, claim)) none =
    absurd (none (record { jobs = says.jobs; claim = None }) (jobs, refl))
end-read after (first ∷ second ∷ []) ([], says, is) none = absurd (none says is)
end-read after (first ∷ second ∷ []) (next ∷ more, says, (jobs, never)) none = absurd never
end-read after (first ∷ second ∷ third ∷ others) (more, says, (jobs, never)) none = absurd never

lines-read : (after : ℕ) (lines : List Numbered) (fault : StartFault) → HaveFault after lines fault →
    said_by after lines ≡ Err fault
lines-read after lines Memory never = absurd never
lines-read after lines (Line number) (inl (before, line, others, e, begins, stops, is)) =
    ap (said_by after) e ∙ line-read after before line others begins stops ∙ ap (λ n. Err (Line n)) (sym is)
lines-read after lines (Line number) (inr (begins, none, is)) =
    end-read after lines begins none ∙ ap (λ n. Err (Line n)) (sym is)

-- the same of a text

from-lines : (text : List ℕ) (fault : StartFault) → HaveFault (length (lines_of text) + 1) (solid_lines_of text) fault →
    HasStartFault text fault
from-lines text Memory never = never
from-lines text (Line number) has = has

of-lines : (text : List ℕ) (fault : StartFault) → HasStartFault text fault →
    HaveFault (length (lines_of text) + 1) (solid_lines_of text) fault
of-lines text Memory never = never
of-lines text (Line number) has = has

pub has-fault : (text : List ℕ) (fault : StartFault) → start_of text ≡ Err fault → HasStartFault text fault
has-fault text fault e =
    from-lines text fault (lines-have (length (lines_of text) + 1) (solid_lines_of text) fault e)

pub has-refused : {X : Type 0} (result : Result X StartFault) (text : List ℕ) →
    IfErr result (λ fault. fault ≢ Memory → start_of text ≡ Err fault) →
    IfErr result (λ fault. fault ≢ Memory → HasStartFault text fault)
has-refused (Ok start) text refused = tt
has-refused (Err fault) text refused = λ known. has-fault text fault (refused known)

fault-read : (text : List ℕ) (fault : StartFault) → HasStartFault text fault → start_of text ≡ Err fault
fault-read text fault has =
    lines-read (length (lines_of text) + 1) (solid_lines_of text) fault (of-lines text fault has)

either : (text : List ℕ) (r : Result Said StartFault) → start_of text ≡ r →
    ((says : Said) × IsStart text says) ⊎ ((fault : StartFault) × HasStartFault text fault)
either text (Ok says) e = inl (says, is-start text says e)
either text (Err fault) e = inr (fault, has-fault text fault e)

same-start : (r : Result Said StartFault) (says other : Said) → r ≡ Ok says → r ≡ Ok other → says ≡ other
same-start r says other e f = let both : Ok says ≡ Ok other = sym e ∙ f in cc

same-fault : (r : Result Said StartFault) (fault other : StartFault) → r ≡ Err fault → r ≡ Err other → fault ≡ other
same-fault r fault other e f = let both : Err fault ≡ Err other = sym e ∙ f in cc

not-both : (r : Result Said StartFault) (says : Said) (fault : StartFault) → r ≡ Ok says → r ≡ Err fault → ⊥
not-both r says fault e f = let both : Ok says ≡ Err fault = sym e ∙ f in cc

pub each_start_is_judged : EachStartIsJudged
each_start_is_judged text = record {
  some = either text (start_of text) refl;
  apart = λ says fault is has. not-both (start_of text) says fault (reads-start text says is)
      (fault-read text fault has);
  one = λ says other is also. same-start (start_of text) says other (reads-start text says is)
      (reads-start text other also);
  one_fault = λ fault other has also. same-fault (start_of text) fault other (fault-read text fault has)
      (fault-read text other also);
}
