-- What the lines before the trees begin with.
use Rattle.std.specs.Prelude.{ℕ, ◌≡◌, ◌⊎◌, ◌≤◌, ◌<◌, ◌+◌, ◌-◌, ◌*◌, ◌^◌, Bool, cond, ◌&&◌, not, nat_eq, nat_lt, List}
use Rattle.std.specs.Prelude.{[], ◌∷◌, ◌++◌}
use Rattle.std.specs.Fmt.{decimal}
use Rattle.flow_shop.specs.Limits.{greatest_depth}
use Rattle.flow_shop.specs.Digits.{is_digit}
use Rattle.flow_shop.specs.Sequences.{IsSequence}
use Rattle.flow_shop.specs.Shop.{Shop}
use Rattle.flow_shop.specs.Characters.{line_feed, space}
use Rattle.flow_check.specs.TextLines.{line, spaced, IsVersion, IsDepth}
use Rattle.flow_check.specs.TextLines.{heading as lines_before}
use Rattle.flow_check.specs.internal.Reading.{text_value}
use Rattle.flow_check.specs.internal.ReadTrees.{cut_value}
use Rattle.flow_check.specs.declared.fault.CheckFault.{CheckFault}
use Rattle.flow_check.specs.declared.fault.CheckFault.TheVariants.{Memory, Sequence}
use Rattle.flow_check.specs.declared.heading.Heading.{Heading}

-- a text begins with a number below 2^64 in decimal, and a byte that ends it
abbrev pub BeginsWithNumber : List ℕ → ℕ → ℕ → List ℕ → Type 0
BeginsWithNumber text end number rest = (number < 2 ^ 64) × (text ≡ decimal number ++ end ∷ rest)

-- whether a byte is a further digit of a number below 2^64 without leading zeros, after the value of earlier digits,
-- if any
abbrev pub is_further : ℕ → Bool → ℕ → Bool
is_further value started byte =
    is_digit byte && not (started && nat_eq value 0) && nat_lt (value * 10 + (byte - 48)) (2 ^ 64)

-- a text begins with one of the jobs from 1 to n, and a byte that ends it
abbrev pub BeginsWithJob : ℕ → List ℕ → ℕ → ℕ → List ℕ → Type 0
BeginsWithJob n text end job rest = (1 ≤ job) × (job ≤ n) × (text ≡ decimal job ++ end ∷ rest)

-- a text begins with two numbers, so many jobs and so many machines. A space ends the first, another byte the second
abbrev pub BeginsWithCounts : ℕ → ℕ → List ℕ → ℕ → List ℕ → Type 0
BeginsWithCounts jobs machines text end rest = text ≡ decimal jobs ++ space ∷ (decimal machines ++ end ∷ rest)

-- a text begins with the line of so many jobs and machines, and a depth
abbrev pub BeginsWithSize : ℕ → ℕ → List ℕ → ℕ → List ℕ → Type 0
BeginsWithSize jobs machines text depth rest =
    (depth ≤ jobs) × (depth ≤ greatest_depth) × (text ≡ line (spaced (jobs ∷ machines ∷ depth ∷ [])) ++ rest)

-- a text begins with the line of a sequence
abbrev pub BeginsWithSequence : ℕ → List ℕ → List ℕ → List ℕ → Type 0
BeginsWithSequence n text jobs rest = IsSequence n jobs × (text ≡ line (spaced jobs) ++ rest)

-- memory ran out, or a text begins with no line of a sequence
abbrev pub IsSequenceFault : ℕ → List ℕ → CheckFault → Type 0
IsSequenceFault jobs text fault =
    (fault ≡ Memory)
    ⊎ ((fault ≡ Sequence) × ((sequence : List ℕ) (rest : List ℕ) → ¬ BeginsWithSequence jobs text sequence rest))

-- the byte that ends a number of a line where so many are still to come, with this one
abbrev pub end_of : ℕ → ℕ
end_of left = cond (nat_eq left 1) line_feed space

-- the lines before the trees have no fault, and the trees decide what is read of the text
abbrev pub IsHeadingOf : Shop → List ℕ → Heading → Type 0
IsHeadingOf shop text heading =
    text_value shop text ≡ cut_value shop heading.version heading.depth heading.value heading.trees.now

-- a text begins with the lines before the trees that say this
pub record BeginsWithHeading (shop : Shop) (text : List ℕ) (heading : Heading) : Type 0 where
  pub known : IsVersion heading.version
  pub deep : IsDepth shop heading.depth
  pub fits : heading.value < 2 ^ 64
  pub whole : IsSequence shop.jobs heading.sequence
  pub lines : text ≡ lines_before shop heading.version heading.depth heading.value heading.sequence ++ heading.trees.now
