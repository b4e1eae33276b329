-- How a text is judged, and what the judgement says of a fault that was found.
use Rattle.std.proofs.Common.{◌≡◌, ◌⊎◌, Result, Ok, Err, MatchResult, subst, inl, inr}
use Rattle.flow_check.specs.CertificateFaults.{UnlessMemory}
use Rattle.flow_check.specs.Judged.{IsJudgedBy}
use Rattle.flow_check.specs.declared.fault.CheckFault.{CheckFault}
use Rattle.flow_check.specs.declared.fault.CheckFault.TheVariants.{Memory}
use Rattle.flow_check.proofs.FaultsSaid.{follows, only-memory}

-- what is read is one thing

pub err-ok : {A : Type 0} (r : Result A CheckFault) (fault : CheckFault) (found : A) → r ≡ Err fault → r ≡ Ok found → ⊥
err-ok r fault found e f = cc

pub err-same : {A : Type 0} (r : Result A CheckFault) (fault other : CheckFault) → r ≡ Err fault → r ≡ Err other →
    fault ≡ other
err-same r fault other e f = cc

pub ok-same : {A : Type 0} (r : Result A CheckFault) (found other : A) → r ≡ Ok found → r ≡ Ok other → found ≡ other
ok-same r found other e f = cc

-- where a reading gives what a text is, and any lawful text and any fault are read so, the text is judged
pub by-reading : {A : Type 0} (Lawful : Type 0) (HasFault : CheckFault → Type 0) (r : Result A CheckFault) →
    MatchResult r (λ _. Lawful) HasFault → (Lawful → (found : A) × (r ≡ Ok found)) →
    ((fault : CheckFault) → HasFault fault → r ≡ Err fault) → IsJudgedBy Lawful HasFault
by-reading {A} Lawful HasFault r is lawful fails = record {
  some = either r is;
  apart = λ fault law has. let found = lawful law in err-ok r fault found.0 (fails fault has) found.1;
  one = λ fault other has another. err-same r fault other (fails fault has) (fails other another);
}
  where
    either : (r : Result A CheckFault) → MatchResult r (λ _. Lawful) HasFault →
        Lawful ⊎ ((fault : CheckFault) × HasFault fault)
    either (Ok found) is = inl is
    either (Err fault) is = inr (fault, is)

-- a text that is judged is judged in other words too
pub in-words : (Lawful Words : Type 0) (HasFault : CheckFault → Type 0) → (Lawful → Words) → (Words → Lawful) →
    IsJudgedBy Lawful HasFault → IsJudgedBy Words HasFault
in-words Lawful Words HasFault to from is = record {
  some = either is.some;
  apart = λ fault words has. is.apart fault (from words) has;
  one = is.one;
}
  where
    either : Lawful ⊎ ((fault : CheckFault) × HasFault fault) → Words ⊎ ((fault : CheckFault) × HasFault fault)
    either (inl law) = inl (to law)
    either (inr has) = inr has

module _ (Lawful : Type 0) (HasFault : CheckFault → Type 0) (is : IsJudgedBy Lawful HasFault) where
  -- a text with a fault is not lawful
  pub unlawful : (fault : CheckFault) → UnlessMemory HasFault fault → UnlessMemory (λ _. ¬ Lawful) fault
  unlawful fault bad = follows HasFault (λ _. ¬ Lawful) fault (λ has law. is.apart fault law has) bad

  -- a lawful text is refused where memory ran out alone
  pub refused : {A : Type 0} (answer : Result A CheckFault) (fault : CheckFault) → answer ≡ Err fault →
      UnlessMemory HasFault fault → Lawful → answer ≡ Err Memory
  refused answer fault e bad law =
      subst (λ f. answer ≡ Err f) (only-memory (λ _. ¬ Lawful) fault (λ no. no law) (unlawful fault bad)) e
