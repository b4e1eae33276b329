-- The first fault of a text that is no lawful counted certificate, or that states more nodes than a reader allows.
use Rattle.std.specs.Prelude.{ℕ, ◌≡◌, ◌≢◌, ◌^◌, ◌<◌, ◌≤◌, ◌⊎◌, List, [], ◌++◌, None}
use Rattle.std.specs.Fmt.{decimal}
use Rattle.flow_shop.specs.Shop.{Shop, IsWithinLimits}
use Rattle.flow_shop.specs.Sequences.{Extends}
use Rattle.flow_directions.specs.Search.{first_below}
use Rattle.flow_check.specs.TextLines.{line, ending}
use Rattle.flow_check.specs.FourLinesFaults.{HasFaultBy}
use Rattle.flow_check.specs.CertificateFaults.{UnlessMemory, UnlessOpen}
use Rattle.flow_check.specs.Judged.{IsJudgedBy}
use Rattle.flow_check.specs.Counted.{counted_title, nodes_below, OpensInAll, IsCountedText}
use Rattle.flow_check.specs.Counted.{IsCountedWithin, IsCountedAbove}
use Rattle.flow_check.specs.declared.bounds.Bounds.{Bounds}
use Rattle.flow_check.specs.declared.fault.CheckFault.{CheckFault}
use Rattle.flow_check.specs.declared.fault.CheckFault.TheVariants.{Value, Most, Tree, Low, End}

-- a text begins with the line of a count
pub record StartsWithCount (text : List ℕ) (count : ℕ) (rest : List ℕ) : Type 0 where
  pub fits : count < 2 ^ 64
  pub line_is : text ≡ line (decimal count) ++ rest

-- it begins with no such line
abbrev pub HasNoCount : List ℕ → Type 0
HasNoCount text = (count : ℕ) → count < 2 ^ 64 → ¬ Extends text (line (decimal count))

-- the search below a threshold, from the node of two empty lists, opens more nodes than a count before it ends or
-- reaches a sequence; or it reaches none, and opens fewer
abbrev pub OpensOther : Shop → ℕ → ℕ → Type 0
OpensOther shop threshold count =
    (count < nodes_below shop threshold)
    ⊎ ((first_below shop threshold [] [] ≡ None) × (nodes_below shop threshold < count))

-- it reaches a sequence, and opens no more nodes than a count before
abbrev pub ReachesWithin : Shop → ℕ → ℕ → Type 0
ReachesWithin shop threshold count =
    (first_below shop threshold [] [] ≢ None) × (nodes_below shop threshold ≤ count)

-- a count, which stands in line 5, is not how many nodes the search below a threshold opens, or this search reaches a
-- sequence. This is its fault
abbrev pub HasSearchFault : Shop → ℕ → ℕ → CheckFault → Type 0
HasSearchFault shop threshold count fault =
    ((fault ≡ Tree 5) × OpensOther shop threshold count) ⊎ ((fault ≡ Low 5) × ReachesWithin shop threshold count)

-- a text should be the line of a count, at most so many nodes, and the last line. This is its fault
abbrev pub HasCountFault : Shop → ℕ → ℕ → List ℕ → CheckFault → Type 0
HasCountFault shop most threshold text fault =
    ((fault ≡ Value) × HasNoCount text)
    ⊎ ((count : ℕ) × (rest : List ℕ) × StartsWithCount text count rest
    × (((fault ≡ Most) × (most < count))
    ⊎ ((count ≤ most) × HasSearchFault shop threshold count fault)
    ⊎ ((fault ≡ End) × (count ≤ most) × OpensInAll shop threshold count × (rest ≢ line ending))))

-- the first fault of a text (law: counted_fault_is_exact)
abbrev pub HasCountedFault : Shop → ℕ → List ℕ → CheckFault → Type 0
HasCountedFault shop most text fault = HasFaultBy counted_title shop (HasCountFault shop most) text fault

-- for any number of nodes that a reader allows, each text of an instance within the limits is a lawful counted
-- certificate that states no more, or has one first fault, and not both (law: counted_fault_is_exact)
abbrev pub EachCountedIsJudged : Type 0
EachCountedIsJudged =
    (shop : Shop) (most : ℕ) (text : List ℕ) → IsWithinLimits shop →
    IsJudgedBy (IsCountedWithin shop most text) (HasCountedFault shop most text)

-- a lawful text with more nodes than a reader allows has the fault `Most` (law: counted_fault_is_exact)
abbrev pub AboveIsMost : Type 0
AboveIsMost =
    (shop : Shop) (most : ℕ) (text : List ℕ) → IsCountedAbove shop most text → HasCountedFault shop most text Most

-- the first fault of a text; `Memory` says nothing of the text
abbrev pub IsCountedFault : Shop → ℕ → List ℕ → CheckFault → Type 0
IsCountedFault shop most text fault = UnlessMemory (HasCountedFault shop most text) fault

-- a text with this fault is no lawful counted certificate; `Memory` and `Most` leave that open
abbrev pub IsNotCounted : Shop → List ℕ → CheckFault → Type 0
IsNotCounted shop text fault =
    UnlessOpen (λ _. (bounds : Bounds) (sequence : List ℕ) → ¬ IsCountedText shop text bounds sequence) fault
