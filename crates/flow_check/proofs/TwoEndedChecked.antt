-- What the checker of two-ended certificates gives.
use Rattle.std.proofs.Common.{◌≡◌, ◌⊎◌, ℕ, List, [], ◌∷◌, Result, Err, take, drop, sym, subst, inl, inr}
use Rattle.std.proofs.lemmas.List.{take-append-drop}
use Rattle.flow_shop.specs.Characters.{line_feed}
use Rattle.flow_shop.specs.Shop.{Shop, IsWithinLimits}
use Rattle.flow_shop.specs.Directions.{Proves}
use Rattle.flow_check.specs.TextLines.{line, ending}
use Rattle.flow_check.specs.CertificateFaults.{UnlessMemory}
use Rattle.flow_check.specs.FourLinesFaults.{HasFourLines, FailsWithinFour}
use Rattle.flow_check.specs.TwoEnded.{two_ended_title, IsTwoEnded}
use Rattle.flow_check.specs.TwoEndedFaults.{HasDirectionsFault, HasLastFault, HasTwoEndedFault, IsTwoEndedFault}
use Rattle.flow_check.specs.TwoEndedFaults.{IsNotTwoEnded}
use Rattle.flow_check.specs.internal.DirectionsEnd.{IsEndFault}
use Rattle.flow_check.specs.declared.bounds.Bounds.{Bounds}
use Rattle.flow_check.specs.declared.fault.CheckFault.{CheckFault}
use Rattle.flow_check.specs.declared.fault.CheckFault.TheVariants.{Memory}
use Rattle.flow_check.proofs.FaultsSaid.{said, follows}
use Rattle.flow_check.proofs.Judged.{unlawful as none-lawful, refused as refused-by}
use Rattle.flow_check.proofs.TextBegins.{outer}
use Rattle.flow_check.proofs.TwoEndedLaws.{each_two_ended_is_judged, lawful-with}

module _ (shop : Shop) (text : List ℕ) where
  -- a fault of the first four lines
  pub four-fail : (fault : CheckFault) → UnlessMemory (FailsWithinFour two_ended_title shop text) fault →
      IsTwoEndedFault shop text fault
  four-fail fault bad =
      follows (FailsWithinFour two_ended_title shop text) (HasTwoEndedFault shop text) fault (λ has. inl has) bad

  abbrev Lawful : Type 0
  Lawful = (bounds : Bounds) × (sequence : List ℕ) × IsTwoEnded shop text bounds sequence

  -- a text with a fault is not lawful
  pub unlawful : IsWithinLimits shop → (fault : CheckFault) → IsTwoEndedFault shop text fault →
      IsNotTwoEnded shop text fault
  unlawful limits fault first =
      follows (λ _. ¬ Lawful) (λ _. (bounds : Bounds) (sequence : List ℕ) → ¬ IsTwoEnded shop text bounds sequence)
      fault (λ none bounds sequence is. none (bounds, sequence, is))
      (none-lawful Lawful (HasTwoEndedFault shop text) (each_two_ended_is_judged shop text limits) fault first)

  -- a lawful text is refused where memory ran out alone
  pub refused : {A : Type 0} (Q : Type 0) (answer : Result A CheckFault) (fault : CheckFault) → IsWithinLimits shop →
      answer ≡ Err fault → IsTwoEndedFault shop text fault → (bounds : Bounds) (sequence : List ℕ) →
      IsTwoEnded shop text bounds sequence → Q ⊎ (answer ≡ Err Memory)
  refused Q answer fault limits e bad bounds sequence is =
      inr (refused-by Lawful (HasTwoEndedFault shop text) (each_two_ended_is_judged shop text limits) answer fault e
      bad (bounds, sequence, is))

  module _ (bounds : Bounds) (sequence rest : List ℕ)
      (four : HasFourLines two_ended_title shop text bounds sequence rest) where
    -- a fault behind the first four lines
    last-fails : (fault : CheckFault) → HasLastFault shop bounds.lower rest fault → IsTwoEndedFault shop text fault
    last-fails fault bad = said (HasTwoEndedFault shop text) fault (inr (record {
      bounds = bounds;
      sequence = sequence;
      rest = rest;
      four = four;
      faulty = bad;
    }))

    -- a fault in the directions, or of memory
    pub directions-fail : (fault : CheckFault) →
        HasDirectionsFault shop bounds.lower shop.jobs [] [] rest fault ⊎ (fault ≡ Memory) →
        IsTwoEndedFault shop text fault
    directions-fail fault (inr none) = subst (IsTwoEndedFault shop text) (sym none) tt
    directions-fail fault (inl bad) = last-fails fault (inl bad)

    module _ (place : ℕ) (proved : Proves shop bounds.lower (take place rest)) where
      -- a fault behind them
      pub end-fails : (fault : CheckFault) → IsEndFault (drop place rest) fault → IsTwoEndedFault shop text fault
      end-fails fault (inl (is, none)) = last-fails fault (inr (inl (
        is,
        record {
          directions = take place rest;
          rest = drop place rest;
          goes_on = sym (take-append-drop place rest);
          proved = proved;
          no_end = none;
        },
      )))
      end-fails fault (inr (is, (last, e, other))) = last-fails fault (inr (inr (
        is,
        record {
          directions = take place rest;
          rest = last;
          goes_on = outer rest (take place rest) (drop place rest) (line_feed ∷ []) last
              (sym (take-append-drop place rest)) e;
          proved = proved;
          other = other;
        },
      )))

      -- or the text is lawful
      pub is-lawful : drop place rest ≡ line_feed ∷ line ending → IsTwoEnded shop text bounds sequence
      is-lawful e =
          lawful-with shop text bounds sequence rest (take place rest) four proved
          (outer rest (take place rest) (drop place rest) (line_feed ∷ []) (line ending)
          (sym (take-append-drop place rest)) e)
