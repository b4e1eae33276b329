-- The lines that commands print.
use Rattle.std.specs.Prelude.{ℕ, ◌++◌, List, [], ◌∷◌, codes, decimal}
use Rattle.std.specs.List.{flat_map}
use Rattle.flow_core.specs.Shop.{Shop}
use Rattle.flow_core.specs.Paths.{span}

-- a line of some words and a number
abbrev pub value_line : List ℕ → ℕ → List ℕ
value_line words value = words ++ decimal value ++ codes "\n"

-- a line of words, a value, words between, and another value
abbrev pub values_line : List ℕ → ℕ → List ℕ → ℕ → List ℕ
values_line words value between other = words ++ decimal value ++ between ++ decimal other ++ codes "\n"

-- a makespan's line
abbrev pub makespan_line : ℕ → List ℕ
makespan_line value = value_line (codes "makespan ") value

-- the line of a value that a text proves least
abbrev pub optimal_line : ℕ → List ℕ
optimal_line value = value_line (codes "optimal ") value

-- the line of the bounds that a text proves
abbrev pub bounds_line : ℕ → ℕ → List ℕ
bounds_line lower upper = values_line (codes "bounds ") lower (codes " ") upper

-- a sequence's line: the word, a space before each job number, and the line feed
abbrev pub sequence_line : List ℕ → List ℕ
sequence_line jobs = codes "sequence" ++ flat_map (λ job. 32 ∷ decimal job) jobs ++ 10 ∷ []

-- the lines of a sequence and its makespan
abbrev pub sequence_lines : Shop → List ℕ → List ℕ
sequence_lines shop jobs = sequence_line jobs ++ makespan_line (span shop jobs)
