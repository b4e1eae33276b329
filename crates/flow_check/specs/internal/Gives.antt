-- What the text of the trees gives from a place on.
use Rattle.std.specs.Prelude.{ℕ, ◌+◌, ◌≤◌, Bool, List, length, drop, Result}
use Rattle.flow_shop.specs.Bound.{bound_of}
use Rattle.flow_check.specs.internal.ReadTrees.{read_tree}
use Rattle.flow_check.specs.internal.Reader.{children_read}
use Rattle.flow_check.specs.internal.PartsGive.{LetterGives, TreeGives, LinesGive}
use Rattle.flow_check.specs.declared.fault.CheckFault.{CheckFault}
use Rattle.flow_check.specs.declared.reader.Spot.{Spot}
use Rattle.flow_check.specs.declared.trees_text.TreesText.{TreesText}

-- a place of the text. The first tree is in line 5, and each byte before the place ends one line at most
abbrev pub IsSpotOf : TreesText → Spot → Type 0
IsSpotOf text spot = (spot.at ≤ length text.bytes.now) × (spot.line ≤ spot.at + 5)

-- what the byte at a place says of the tree of a list with so many jobs left
abbrev pub GivesLetter : TreesText → Spot → ℕ → List ℕ → Result Bool CheckFault → Type 0
GivesLetter text spot left list result =
    LetterGives text.shop.now text.version text.value spot.line left list spot.at text.bytes.now result

-- where the tree of a list with so many jobs left ends, or its fault
abbrev pub GivesTree : TreesText → Spot → ℕ → List ℕ → Result ℕ CheckFault → Type 0
GivesTree text spot left list result =
    TreeGives spot.at text.bytes.now result
    (read_tree text.shop.now (bound_of text.version) text.value spot.line left list (drop spot.at text.bytes.now))

-- where the trees of all children of a list end, with so many jobs left at each, or the first fault
abbrev pub GivesChildren : TreesText → Spot → ℕ → List ℕ → Result ℕ CheckFault → Type 0
GivesChildren text spot left list result =
    TreeGives spot.at text.bytes.now result
    (children_read text.shop.now text.version text.value spot.line left list (drop spot.at text.bytes.now))

-- where the lines of some prefixes end, with so many jobs left at each, or the first fault
abbrev pub GivesLines : TreesText → Spot → ℕ → List (List ℕ) → Result Spot CheckFault → Type 0
GivesLines text spot left prefixes result =
    LinesGive text.shop.now text.version text.value left prefixes spot.line spot.at text.bytes.now result
