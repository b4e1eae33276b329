-- What a text states: its bounds and its sequence.
use Rattle.std.specs.Prelude.{ℕ, ◌≡◌, List}
use Rattle.flow_shop.specs.Shop.{Shop}
use Rattle.flow_shop.specs.Paths.{span}
use Rattle.flow_check.specs.Certificate.{IsCertificateWith}
use Rattle.flow_check.specs.TwoEnded.{IsTwoEnded}
use Rattle.flow_check.specs.Counted.{IsCountedText, IsCountedAbove}
use Rattle.flow_check.specs.declared.bounds.Bounds.{Bounds}
use Rattle.flow_check.specs.declared.kind.TextKind.{TextKind}
use Rattle.flow_check.specs.declared.kind.TextKind.TheVariants.{Certificate, TwoEnded, Counted}

-- a text is a lawful certificate of the makespan of this sequence, which it states
abbrev pub GivesSequence : Shop → List ℕ → List ℕ → Type 0
GivesSequence shop bytes sequence = IsCertificateWith shop bytes (span shop sequence) sequence

-- bounds that are both this value
abbrev pub both : ℕ → Bounds
both value = record { lower = value; upper = value }

-- a text is a lawful one of a kind that states these bounds and this sequence; a certificate's value is both bounds
abbrev pub GivesAs : TextKind → Shop → List ℕ → Bounds → List ℕ → Type 0
GivesAs Certificate shop bytes bounds sequence =
    (value : ℕ) × (bounds ≡ both value) × IsCertificateWith shop bytes value sequence
GivesAs TwoEnded shop bytes bounds sequence = IsTwoEnded shop bytes bounds sequence
GivesAs Counted shop bytes bounds sequence = IsCountedText shop bytes bounds sequence

-- a lawful text of a kind states more nodes than a reader allows; none but a counted certificate states nodes
abbrev pub IsAbove : TextKind → ℕ → Shop → List ℕ → Type 0
IsAbove Counted most shop bytes = IsCountedAbove shop most bytes
IsAbove kind most shop bytes = ⊥
