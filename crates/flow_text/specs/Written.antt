-- The one text that is written for a block.
use Rattle.std.specs.Prelude.{ℕ, List, [], ◌∷◌, ◌++◌, flat_map, decimal, codes}
use Rattle.flow_shop.specs.Characters.{line_feed, space}
use Rattle.flow_shop.specs.Shop.{Shop, numbers, times_on}
use Rattle.flow_text.specs.Text.{head_of}
use Rattle.flow_text.specs.declared.text.block.Block.{Block}

-- a line of numbers: a space between each two, and LF at its end
abbrev pub row_text : List ℕ → List ℕ
row_text [] = line_feed ∷ []
row_text (n ∷ ns) = decimal n ++ flat_map (λ m. space ∷ decimal m) ns ++ line_feed ∷ []

-- the label line of a head
unfoldable pub head_label : List ℕ
head_label = codes "number of jobs, number of machines, initial seed, upper bound and lower bound :\n"

-- the label line of the times
unfoldable pub times_label : List ℕ
times_label = codes "processing times :\n"

-- the lines of times of the machines from 1 to this one
abbrev pub rows_text : Shop → ℕ → List ℕ
rows_text shop machine = flat_map (λ k. row_text (times_on shop k)) (numbers 1 machine)

-- the text of a block: a label, the head, a label, and a line of times for each machine. That it reads as this block
-- alone says the contract of `block_text`
abbrev pub written : Block → List ℕ
written block =
    head_label ++ row_text (head_of block) ++ times_label ++ rows_text block.instance block.instance.machines
