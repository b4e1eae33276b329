-- What a part of the text gives where it is read: a letter, a tree, the lines of some trees, the end of a line.
use Rattle.std.specs.Prelude.{ℕ, ◌≡◌, ◌+◌, ◌≤◌, ◌<◌, Bool, true, false, List, ◌∷◌, ◌++◌, length}
use Rattle.std.specs.Prelude.{drop, Result, Ok, Err}
use Rattle.flow_shop.specs.Shop.{Shop}
use Rattle.flow_shop.specs.Characters.{line_feed}
use Rattle.flow_shop.specs.Bound.{bound_of, plus}
use Rattle.flow_check.specs.CertificateFaults.{UnlessMemory}
use Rattle.flow_check.specs.internal.ReadTrees.{read_tree, after_tree, trees_value}
use Rattle.flow_check.specs.declared.fault.CheckFault.{CheckFault}
use Rattle.flow_check.specs.declared.fault.CheckFault.TheVariants.{Tree}
use Rattle.flow_check.specs.declared.reader.Spot.{Spot}

-- what the byte at a place says: that the trees of the children follow, or that the tree is whole, or its fault
abbrev pub LetterGives : Shop → ℕ → ℕ → ℕ → ℕ → List ℕ → ℕ → List ℕ → Result Bool CheckFault → Type 0
LetterGives shop version value line left list at bytes (Ok true) =
    (0 < left) × (at < length bytes) × (drop at bytes ≡ plus ∷ drop (at + 1) bytes)
LetterGives shop version value line left list at bytes (Ok false) =
    (at < length bytes) × (read_tree shop (bound_of version) value line left list (drop at bytes)
    ≡ Ok (drop (at + 1) bytes))
LetterGives shop version value line left list at bytes (Err fault) =
    read_tree shop (bound_of version) value line left list (drop at bytes) ≡ Err fault

-- the place after what was read from a place on, or its fault
abbrev pub TreeGives : ℕ → List ℕ → Result ℕ CheckFault → Result (List ℕ) CheckFault → Type 0
TreeGives from bytes (Ok end) read = (read ≡ Ok (drop end bytes)) × (from ≤ end) × (end ≤ length bytes)
TreeGives from bytes (Err fault) read = UnlessMemory (λ f. read ≡ Err f) fault

-- what the trees of some prefixes give, whatever prefixes follow them
abbrev pub LinesGive : Shop → ℕ → ℕ → ℕ → List (List ℕ) → ℕ → ℕ → List ℕ → Result Spot CheckFault → Type 0
LinesGive shop version value left prefixes line from bytes (Ok spot) =
    (rest : List (List ℕ)) → trees_value shop (bound_of version) value left (prefixes ++ rest) line (drop from bytes)
    ≡ trees_value shop (bound_of version) value left rest spot.line (drop spot.at bytes)
LinesGive shop version value left prefixes line from bytes (Err fault) =
    UnlessMemory (λ f. (rest : List (List ℕ)) →
    trees_value shop (bound_of version) value left (prefixes ++ rest) line (drop from bytes) ≡ Err f) fault

-- what the byte after a tree says: that the line ends, or its fault
abbrev pub LineEnds : Spot → List ℕ → Result Spot CheckFault → Type 0
LineEnds spot bytes (Ok next) =
    (drop spot.at bytes ≡ line_feed ∷ drop next.at bytes) × (next.line ≡ spot.line + 1) × (next.at ≡ spot.at + 1)
    × (next.at ≤ length bytes)
LineEnds spot bytes (Err fault) =
    (fault ≡ Tree spot.line)
    × ((next : List ℕ → Result ℕ CheckFault) → after_tree spot.line next (Ok (drop spot.at bytes)) ≡ Err fault)
