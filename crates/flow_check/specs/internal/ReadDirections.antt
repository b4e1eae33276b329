-- How directions are read, byte by byte: to the text behind them, or to the first fault.
use Rattle.std.specs.Prelude.{ℕ, zero, suc, ◌≡◌, cond, nat_eq, nat_le, List, [], ◌∷◌, ◌++◌, drop}
use Rattle.std.specs.Prelude.{Option, Some, None, Result, Ok, Err, MatchResult}
use Rattle.flow_shop.specs.Shop.{Shop}
use Rattle.flow_shop.specs.Sequences.{jobs_left}
use Rattle.flow_shop.specs.Ends.{end_bound}
use Rattle.flow_shop.specs.Directions.{sign, first_with, last_with}
use Rattle.flow_shop.specs.declared.end.End.{End}
use Rattle.flow_shop.specs.declared.end.End.TheVariants.{Front, Back}
use Rattle.flow_check.specs.internal.ReadTrees.{each_tree}
use Rattle.flow_check.specs.declared.fault.CheckFault.{CheckFault}
use Rattle.flow_check.specs.declared.fault.CheckFault.TheVariants.{Tree, Low}

-- the text behind what was read, or a fault
abbrev pub Reading : Type 0
Reading = Result (List ℕ) CheckFault

-- the end whose sign a byte is
abbrev pub end_of_sign : ℕ → Option End
end_of_sign byte = cond (nat_eq byte (sign Front)) (Some Front) (cond (nat_eq byte (sign Back)) (Some Back) None)

-- the end whose sign a text begins with
abbrev pub first_end : List ℕ → Option End
first_end [] = None
first_end (byte ∷ text) = end_of_sign byte

-- what is read at an end, where a text begins with the sign of one
abbrev pub read_at : (End → List ℕ → Reading) → Option End → List ℕ → Reading
read_at read None text = Err (Tree 5)
read_at read (Some end) text = read end text

-- the text behind the directions that prove a threshold for a node with so many jobs left, or the first fault
abbrev pub read_node : Shop → ℕ → ℕ → List ℕ → List ℕ → List ℕ → Reading
read_node shop threshold zero first last text =
    cond (nat_le threshold (end_bound shop first last)) (Ok text) (Err (Low 5))
read_node shop threshold (suc left) first last text =
    cond (nat_le threshold (end_bound shop first last)) (Ok text)
    (read_at
    (λ end. each_tree (λ job. read_node shop threshold left (first_with end first job) (last_with end last job))
    (jobs_left shop.jobs (first ++ last)))
    (first_end text) (drop 1 text))

-- the place of a text where what is read ends, or its fault
abbrev pub EndsAt : List ℕ → Reading → Result ℕ CheckFault → Type 0
EndsAt text reading result =
    MatchResult result (λ place. reading ≡ Ok (drop place text)) (λ fault. reading ≡ Err fault)
