-- The lines of a certificate.
use Rattle.std.specs.Prelude.{ℕ, ◌≤◌, List, [], ◌∷◌, ◌++◌, map, codes}
use Rattle.std.specs.Fmt.{decimal}
use Rattle.std.specs.List.{flat_map, join_with_byte}
use Rattle.flow_shop.specs.Limits.{greatest_depth, least_version, greatest_version}
use Rattle.flow_shop.specs.Characters.{line_feed, space}
use Rattle.flow_shop.specs.Shop.{Shop}

-- a line: a text with its end
abbrev pub line : List ℕ → List ℕ
line text = text ++ line_feed ∷ []

-- numbers in decimal, with one space between them
abbrev pub spaced : List ℕ → List ℕ
spaced ns = join_with_byte space (map decimal ns)

-- the versions of certificates
abbrev pub IsVersion : ℕ → Type 0
IsVersion version = (least_version ≤ version) × (version ≤ greatest_version)

-- a depth of the cut
abbrev pub IsDepth : Shop → ℕ → Type 0
IsDepth shop depth = (depth ≤ shop.jobs) × (depth ≤ greatest_depth)

-- the first line
abbrev pub title : ℕ → List ℕ
title version = codes "flowshop certificate " ++ decimal version

-- the last line
abbrev pub ending : List ℕ
ending = codes "end"

-- a text up to its first line
abbrev pub upto_title : ℕ → List ℕ
upto_title version = line (title version)

-- up to the line of the sizes
abbrev pub upto_sizes : Shop → ℕ → ℕ → List ℕ
upto_sizes shop version depth = upto_title version ++ line (spaced (shop.jobs ∷ shop.machines ∷ depth ∷ []))

-- up to the line of the value
abbrev pub upto_value : Shop → ℕ → ℕ → ℕ → List ℕ
upto_value shop version depth value = upto_sizes shop version depth ++ line (decimal value)

-- up to the line of the sequence: all lines before the trees
abbrev pub heading : Shop → ℕ → ℕ → ℕ → List ℕ → List ℕ
heading shop version depth value sequence = upto_value shop version depth value ++ line (spaced sequence)

-- a whole certificate, with a tree for each prefix of the cut
abbrev pub certificate_text : Shop → ℕ → ℕ → ℕ → List ℕ → List (List ℕ) → List ℕ
certificate_text shop version depth value sequence trees =
    heading shop version depth value sequence ++ flat_map line trees ++ line ending
