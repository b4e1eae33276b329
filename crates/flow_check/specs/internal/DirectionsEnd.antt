-- What follows the directions of a two-ended certificate, as it is read.
use Rattle.std.specs.Prelude.{ℕ, ◌≡◌, ◌≢◌, ◌⊎◌, List, [], ◌∷◌}
use Rattle.flow_shop.specs.Characters.{line_feed}
use Rattle.flow_shop.specs.Sequences.{Extends}
use Rattle.flow_check.specs.TextLines.{line, ending}
use Rattle.flow_check.specs.declared.fault.CheckFault.{CheckFault}
use Rattle.flow_check.specs.declared.fault.CheckFault.TheVariants.{Tree, End}

-- a text is not the end of a line and the last line: it does not begin with the end of a line, or does not go on with
-- the last line alone
abbrev pub IsEndFault : List ℕ → CheckFault → Type 0
IsEndFault text fault =
    ((fault ≡ Tree 5) × ¬ Extends text (line_feed ∷ []))
    ⊎ ((fault ≡ End) × ((rest : List ℕ) × (text ≡ line_feed ∷ rest) × (rest ≢ line ending)))
