-- A text is judged where what follows its first four lines is.
use Rattle.std.proofs.Common.{◌≡◌, ◌⊎◌, ℕ, List, Result, Ok, Err, MatchResult, ap, sym, subst, inl, inr}
use Rattle.flow_shop.specs.Shop.{Shop, IsWithinLimits}
use Rattle.flow_check.specs.FourLinesFaults.{HasFourLines, FailsWithinFour, HasFaultBy}
use Rattle.flow_check.specs.Judged.{IsJudgedBy}
use Rattle.flow_check.specs.declared.bounds.Bounds.{Bounds}
use Rattle.flow_check.specs.declared.fault.CheckFault.{CheckFault}
use Rattle.flow_check.proofs.FourLinesReading.{Four, four_of, four-judged, four-read, four-fails}
use Rattle.flow_check.proofs.Judged.{err-ok, err-same, ok-same}

module _ (title : List ℕ) (shop : Shop) (text : List ℕ) (limits : IsWithinLimits shop) where
  -- a text has four lines in one way
  pub four-same : (bounds other : Bounds) (sequence jobs rest more : List ℕ) →
      HasFourLines title shop text bounds sequence rest → HasFourLines title shop text other jobs more →
      (bounds ≡ other) × (sequence ≡ jobs) × (rest ≡ more)
  four-same bounds other sequence jobs rest more one another =
      let same : (bounds, sequence, rest) ≡ (other, jobs, more) = ok-same (four_of title shop text)
      (bounds, sequence, rest) (other, jobs, more) (four-read title shop text limits bounds sequence rest one)
      (four-read title shop text limits other jobs more another) in
      (ap (λ (f : Four). f.0) same, ap (λ (f : Four). f.1) same, ap (λ (f : Four). f.2) same)

  -- it does not have four lines and a fault in them
  four-apart : (bounds : Bounds) (sequence rest : List ℕ) (fault : CheckFault) →
      HasFourLines title shop text bounds sequence rest → FailsWithinFour title shop text fault → ⊥
  four-apart bounds sequence rest fault four fails =
      err-ok (four_of title shop text) fault (bounds, sequence, rest) (four-fails title shop text limits fault fails)
      (four-read title shop text limits bounds sequence rest four)

  module _ (Lawful : ℕ → List ℕ → Type 0) (fails : ℕ → List ℕ → CheckFault → Type 0)
      (behind : (lower : ℕ) (rest : List ℕ) → IsJudgedBy (Lawful lower rest) (fails lower rest)) where
    -- four lines, and lawful text behind them
    pub record GoesOn : Type 0 where
      pub bounds : Bounds
      pub sequence : List ℕ
      pub rest : List ℕ
      pub four : HasFourLines title shop text bounds sequence rest
      pub lawful : Lawful bounds.lower rest

    abbrev HasFault : CheckFault → Type 0
    HasFault fault = HasFaultBy title shop fails text fault

    rest-judged : (four : Four) → HasFourLines title shop text four.0 four.1 four.2 →
        Lawful four.0.lower four.2 ⊎ ((fault : CheckFault) × fails four.0.lower four.2 fault) →
        GoesOn ⊎ ((fault : CheckFault) × HasFault fault)
    rest-judged four stands (inl lawful) = inl (record {
      bounds = four.0;
      sequence = four.1;
      rest = four.2;
      four = stands;
      lawful = lawful;
    })
    rest-judged four stands (inr (fault, bad)) = inr (
      fault,
      inr (record { bounds = four.0; sequence = four.1; rest = four.2; four = stands; faulty = bad }),
    )

    either : (r : Result Four CheckFault) →
        MatchResult r (λ four. HasFourLines title shop text four.0 four.1 four.2) (FailsWithinFour title shop text) →
        GoesOn ⊎ ((fault : CheckFault) × HasFault fault)
    either (Ok four) is = rest-judged four is (behind four.0.lower four.2).some
    either (Err fault) is = inr (fault, inl is)

    -- what is said behind one statement is said behind the same
    after-same : (bounds other : Bounds) (sequence jobs rest more : List ℕ) (fault : CheckFault) →
        HasFourLines title shop text bounds sequence rest → HasFourLines title shop text other jobs more →
        fails other.lower more fault → fails bounds.lower rest fault
    after-same bounds other sequence jobs rest more fault one another bad =
        let same = four-same bounds other sequence jobs rest more one another in
        subst (λ (b : Bounds). fails b.lower rest fault) (sym same.0)
        (subst (λ (t : List ℕ). fails other.lower t fault) (sym same.2) bad)

    lawful-apart : (fault : CheckFault) → GoesOn → HasFault fault → ⊥
    lawful-apart fault on (inl within) = four-apart on.bounds on.sequence on.rest fault on.four within
    lawful-apart fault on (inr after) =
        (behind on.bounds.lower on.rest).apart fault on.lawful (after-same on.bounds after.bounds on.sequence
        after.sequence on.rest after.rest fault on.four after.four after.faulty)

    one-fault : (fault other : CheckFault) → HasFault fault → HasFault other → fault ≡ other
    one-fault fault other (inl one) (inl another) =
        err-same (four_of title shop text) fault other (four-fails title shop text limits fault one)
        (four-fails title shop text limits other another)
    one-fault fault other (inl one) (inr another) =
        absurd (four-apart another.bounds another.sequence another.rest fault another.four one)
    one-fault fault other (inr one) (inl another) =
        absurd (four-apart one.bounds one.sequence one.rest other one.four another)
    one-fault fault other (inr one) (inr another) =
        (behind one.bounds.lower one.rest).one fault other one.faulty (after-same one.bounds another.bounds
        one.sequence another.sequence one.rest another.rest other one.four another.four another.faulty)

    pub judged-behind : IsJudgedBy GoesOn HasFault
    judged-behind = record {
      some = either (four_of title shop text) (four-judged title shop text limits);
      apart = lawful-apart;
      one = one-fault;
    }
