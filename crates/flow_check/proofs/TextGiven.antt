-- What a lawful text of a kind gives, and what is said of one that is not lawful.
use Rattle.std.proofs.Common.{◌≡◌, ℕ, ◌≤◌, List, ap, sym, subst, ◌∙◌}
use Rattle.flow_shop.specs.Shop.{Shop}
use Rattle.flow_shop.specs.Paths.{span}
use Rattle.flow_shop.specs.Sequences.{IsSequence, IsLeastMakespan}
use Rattle.flow_check.specs.Bounds.{AreBounds}
use Rattle.flow_check.specs.Certificate.{IsCertificate}
use Rattle.flow_check.specs.Faults.{IsOfNoValue, IsUnlawfulAs}
use Rattle.flow_check.specs.TwoEnded.{IsTwoEnded}
use Rattle.flow_check.specs.TwoEndedFaults.{IsNotTwoEnded}
use Rattle.flow_check.specs.Stated.{GivesAs, both}
use Rattle.flow_check.specs.declared.bounds.Bounds.{Bounds}
use Rattle.flow_check.specs.declared.fault.CheckFault.{CheckFault}
use Rattle.flow_check.specs.declared.kind.TextKind.{TextKind}
use Rattle.flow_check.specs.declared.kind.TextKind.TheVariants.{Certificate, TwoEnded, Counted}
use Rattle.flow_check.proofs.FaultsSaid.{decides}
use Rattle.flow_check.proofs.Sound.{certificate_is_sound}
use Rattle.flow_check.proofs.TwoEndedLaws.{two_ended_is_sound}
use Rattle.flow_check.proofs.CountedLaws.{counted_is_sound}

-- bounds that hold and are one number are the least makespan
pub least-of : (shop : Shop) (bounds : Bounds) → AreBounds shop bounds → bounds.lower ≡ bounds.upper →
    IsLeastMakespan shop bounds.lower
least-of shop bounds are same = record {
  attained = (are.upper.0, are.upper.1, are.upper.2 ∙ sym same);
  least = are.lower;
}

-- the least makespan is both bounds
both-hold : (shop : Shop) (value : ℕ) → IsLeastMakespan shop value → AreBounds shop (both value)
both-hold shop value is = record {
  lower = is.least;
  upper = is.attained;
  between = λ least other. (
    subst (λ n. value ≤ n) other.attained.2 (is.least other.attained.0 other.attained.1),
    subst (λ n. least ≤ n) is.attained.2 (other.least is.attained.0 is.attained.1),
  );
}

-- the bounds of a text hold
pub given-bounds : (kind : TextKind) (shop : Shop) (bytes : List ℕ) (bounds : Bounds) (sequence : List ℕ) →
    GivesAs kind shop bytes bounds sequence → AreBounds shop bounds
given-bounds Certificate shop bytes bounds sequence (value, is, gives) =
    subst (AreBounds shop) (sym is) (both-hold shop value (certificate_is_sound shop bytes value (sequence, gives)))
given-bounds TwoEnded shop bytes bounds sequence gives =
    (two_ended_is_sound shop bytes bounds sequence gives).hold
given-bounds Counted shop bytes bounds sequence gives = (counted_is_sound shop bytes bounds sequence gives).hold

-- its sequence is one of the shop
pub given-sequence : (kind : TextKind) (shop : Shop) (bytes : List ℕ) (bounds : Bounds) (sequence : List ℕ) →
    GivesAs kind shop bytes bounds sequence → IsSequence shop.jobs sequence
given-sequence Certificate shop bytes bounds sequence gives = gives.2.3.whole
given-sequence TwoEnded shop bytes bounds sequence gives = gives.shows.upper.whole
given-sequence Counted shop bytes bounds sequence gives = gives.shows.upper.whole

-- with the upper bound as its makespan
pub given-upper : (kind : TextKind) (shop : Shop) (bytes : List ℕ) (bounds : Bounds) (sequence : List ℕ) →
    GivesAs kind shop bytes bounds sequence → span shop sequence ≡ bounds.upper
given-upper Certificate shop bytes bounds sequence (value, is, gives) =
    gives.3.attained ∙ sym (ap (λ (b : Bounds). b.upper) is)
given-upper TwoEnded shop bytes bounds sequence gives = gives.shows.upper.attained
given-upper Counted shop bytes bounds sequence gives = gives.shows.upper.attained

-- a text that is no lawful certificate gives nothing
pub gives-nothing : (shop : Shop) (bytes : List ℕ) (fault : CheckFault) → IsOfNoValue shop bytes fault →
    IsUnlawfulAs Certificate shop bytes fault
gives-nothing shop bytes fault none =
    decides (λ _. (value : ℕ) → ¬ IsCertificate shop bytes value)
    (λ _. (bounds : Bounds) (sequence : List ℕ) → ¬ GivesAs Certificate shop bytes bounds sequence) fault
    (λ _ no bounds sequence gives. no gives.0 (sequence, gives.2)) none

-- nor does one that is no lawful two-ended certificate
pub gives-no-directions : (shop : Shop) (bytes : List ℕ) (fault : CheckFault) → IsNotTwoEnded shop bytes fault →
    IsUnlawfulAs TwoEnded shop bytes fault
gives-no-directions shop bytes fault none =
    decides (λ _. (bounds : Bounds) (sequence : List ℕ) → ¬ IsTwoEnded shop bytes bounds sequence)
    (λ _. (bounds : Bounds) (sequence : List ℕ) → ¬ GivesAs TwoEnded shop bytes bounds sequence) fault
    (λ _ no. no) none
