-- The first fault of a text that states two bounds and a sequence in its first four lines. The text is lawful up to a
-- line, and does not go on lawfully there; the fault says what is missing.
use Rattle.std.specs.Prelude.{ℕ, ◌≡◌, ◌≢◌, ◌⊎◌, List, ◌++◌}
use Rattle.flow_shop.specs.Shop.{Shop}
use Rattle.flow_shop.specs.Paths.{span}
use Rattle.flow_shop.specs.Sequences.{Extends, IsSequence}
use Rattle.flow_check.specs.FourLines.{size_lines, bounds_lines, sequence_lines, AreInRange, ShowsUpper}
use Rattle.flow_check.specs.declared.bounds.Bounds.{Bounds}
use Rattle.flow_check.specs.declared.fault.CheckFault.{CheckFault}
use Rattle.flow_check.specs.declared.fault.CheckFault.TheVariants.{Header, Size, Value, Sequence, NotAttained}

-- the title is there, but no line of the jobs and machines follows
pub record HasNoSize (title : List ℕ) (shop : Shop) (text : List ℕ) : Type 0 where
  pub titled : Extends text title
  pub none : ¬ Extends text (size_lines title shop)

-- two lines are lawful, but no line of two bounds follows
pub record HasNoBounds (title : List ℕ) (shop : Shop) (text : List ℕ) : Type 0 where
  pub size : Extends text (size_lines title shop)
  pub none : (bounds : Bounds) → AreInRange bounds → ¬ Extends text (bounds_lines title shop bounds)

-- three lines are lawful, but no line of a sequence follows
pub record HasNoSequence (title : List ℕ) (shop : Shop) (text : List ℕ) : Type 0 where
  pub bounds : Bounds
  pub fit : AreInRange bounds
  pub begins : Extends text (bounds_lines title shop bounds)
  pub none : (sequence : List ℕ) → IsSequence shop.jobs sequence →
      ¬ Extends text (sequence_lines title shop bounds sequence)

-- four lines are in their form, but the sequence does not have the upper bound as its makespan
pub record MissesUpper (title : List ℕ) (shop : Shop) (text : List ℕ) : Type 0 where
  pub bounds : Bounds
  pub sequence : List ℕ
  pub fit : AreInRange bounds
  pub whole : IsSequence shop.jobs sequence
  pub begins : Extends text (sequence_lines title shop bounds sequence)
  pub other : span shop sequence ≢ bounds.upper

-- the first fault of the four lines
abbrev pub FailsWithinFour : List ℕ → Shop → List ℕ → CheckFault → Type 0
FailsWithinFour title shop text Header = ¬ Extends text title
FailsWithinFour title shop text Size = HasNoSize title shop text
FailsWithinFour title shop text Value = HasNoBounds title shop text
FailsWithinFour title shop text Sequence = HasNoSequence title shop text
FailsWithinFour title shop text NotAttained = MissesUpper title shop text
FailsWithinFour title shop text fault = ⊥

-- four lines are lawful, and a text follows
pub record HasFourLines (title : List ℕ) (shop : Shop) (text : List ℕ) (bounds : Bounds) (sequence rest : List ℕ) :
    Type 0 where
  pub shown : ShowsUpper shop bounds sequence
  pub lines : text ≡ sequence_lines title shop bounds sequence ++ rest

-- four lines are lawful, and what follows has this fault, as the lower bound decides
pub record FailsAfterFour (title : List ℕ) (shop : Shop) (fails : ℕ → List ℕ → CheckFault → Type 0) (text : List ℕ)
    (fault : CheckFault) : Type 0 where
  pub bounds : Bounds
  pub sequence : List ℕ
  pub rest : List ℕ
  pub four : HasFourLines title shop text bounds sequence rest
  pub faulty : fails bounds.lower rest fault

-- the first fault of a text with a title, where this is that of what follows four lines
abbrev pub HasFaultBy : List ℕ → Shop → (ℕ → List ℕ → CheckFault → Type 0) → List ℕ → CheckFault → Type 0
HasFaultBy title shop fails text fault =
    FailsWithinFour title shop text fault ⊎ FailsAfterFour title shop fails text fault
