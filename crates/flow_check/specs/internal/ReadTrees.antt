-- How trees are read, byte by byte: to the text behind them, or to the first fault.
use Rattle.std.specs.Prelude.{ℕ, zero, suc, ◌+◌, ◌-◌, Bool, cond, ◌&&◌, nat_eq, nat_lt, nat_le}
use Rattle.std.specs.Prelude.{List, [], ◌∷◌, ◌++◌, Result, Ok, Err}
use Rattle.std.specs.Str.{bytes_eq}
use Rattle.flow_shop.specs.Shop.{Shop}
use Rattle.flow_shop.specs.Paths.{span}
use Rattle.flow_shop.specs.Sequences.{jobs_left, cut}
use Rattle.flow_shop.specs.Bound.{Bound, bound_of, point, plus}
use Rattle.flow_shop.specs.Characters.{line_feed}
use Rattle.flow_check.specs.TextLines.{line, ending}
use Rattle.flow_check.specs.declared.fault.CheckFault.{CheckFault}
use Rattle.flow_check.specs.declared.fault.CheckFault.TheVariants.{Tree}
use Rattle.flow_check.specs.declared.fault.CheckFault.TheVariants.{Weak, Low, End}

-- whether a byte is the letter of a machine of the instance
abbrev pub is_letter : Shop → ℕ → Bool
is_letter shop byte = nat_lt 64 byte && nat_le (byte - 64) shop.machines

-- what is read next, from where the last part ended; a fault stays
abbrev pub then_read : Result (List ℕ) CheckFault → (List ℕ → Result (List ℕ) CheckFault) → Result (List ℕ) CheckFault
then_read (Ok rest) next = next rest
then_read (Err fault) next = Err fault

-- the trees of some jobs, one after the other
abbrev pub each_tree : (ℕ → List ℕ → Result (List ℕ) CheckFault) → List ℕ → List ℕ → Result (List ℕ) CheckFault
each_tree read [] bytes = Ok bytes
each_tree read (job ∷ jobs) bytes = then_read (read job bytes) (each_tree read jobs)

-- a letter: of a machine or not, its bound high enough or not
abbrev pub cut_fault : Bool → Bool → ℕ → List ℕ → Result (List ℕ) CheckFault
cut_fault known strong place rest = cond known (cond strong (Ok rest) (Err (Weak place))) (Err (Tree place))

-- a point, or not; its makespan high enough or not
abbrev pub leaf_fault : Bool → Bool → ℕ → List ℕ → Result (List ℕ) CheckFault
leaf_fault point high place rest = cond point (cond high (Ok rest) (Err (Low place))) (Err (Tree place))

-- the text after a tree that covers a value below a list with so many jobs left; or the fault of its first faulty
-- byte
abbrev pub read_tree : Shop → Bound → ℕ → ℕ → ℕ → List ℕ → List ℕ → Result (List ℕ) CheckFault
read_tree shop bound value place zero jobs [] = Err (Tree place)
read_tree shop bound value place zero jobs (byte ∷ rest) =
    leaf_fault (nat_eq byte point) (nat_le value (span shop jobs)) place rest
read_tree shop bound value place (suc left) jobs [] = Err (Tree place)
read_tree shop bound value place (suc left) jobs (byte ∷ rest) =
    cond (nat_eq byte plus)
    (each_tree (λ job. read_tree shop bound value place left (jobs ++ job ∷ [])) (jobs_left shop.jobs jobs) rest)
    (cut_fault (is_letter shop byte) (nat_le value (bound shop jobs (byte - 64))) place rest)

-- what follows a whole tree: the end of its line, and the next lines
abbrev pub after_tree : ℕ → (List ℕ → Result ℕ CheckFault) → Result (List ℕ) CheckFault → Result ℕ CheckFault
after_tree place next (Ok []) = Err (Tree place)
after_tree place next (Ok (byte ∷ rest)) = cond (nat_eq byte line_feed) (next rest) (Err (Tree place))
after_tree place next (Err fault) = Err fault

-- the last line, and nothing after it
abbrev pub end_value : ℕ → List ℕ → Result ℕ CheckFault
end_value value bytes = cond (bytes_eq bytes (line ending)) (Ok value) (Err End)

-- the lines from this one on: a tree for each prefix, and the last line
abbrev pub trees_value : Shop → Bound → ℕ → ℕ → List (List ℕ) → ℕ → List ℕ → Result ℕ CheckFault
trees_value shop bound value left [] place bytes = end_value value bytes
trees_value shop bound value left (prefix ∷ prefixes) place bytes =
    after_tree place (trees_value shop bound value left prefixes (place + 1))
    (read_tree shop bound value place left prefix bytes)

-- the lines from the first tree on
abbrev pub cut_value : Shop → ℕ → ℕ → ℕ → List ℕ → Result ℕ CheckFault
cut_value shop version depth value bytes =
    trees_value shop (bound_of version) value (shop.jobs - depth) (cut shop.jobs depth) 5 bytes
