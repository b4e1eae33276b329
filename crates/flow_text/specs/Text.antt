-- The grammar of benchmark text: which blocks a text reads as.
use Rattle.std.specs.Prelude.{◌≡◌, ℕ, ◌<◌, ◌≤◌, true, not, List, [], ◌∷◌, ◌++◌, length, filter, flat_map}
use Rattle.std.specs.List.{AllByRecursion}
use Rattle.flow_shop.specs.Shop.{IsWithinLimits}
use Rattle.flow_text.specs.Lines.{lines_of, is_blank_line, is_label_line, is_number_line, is_plain, numbers_of}
use Rattle.flow_limits.specs.Limits.{greatest_number}
use Rattle.flow_text.specs.declared.text.block.Block.{Block}

-- a number line that has only digits and blanks
pub record IsNumbers (line : List ℕ) : Type 0 where
  pub number : is_number_line line ≡ true
  pub plain : is_plain line ≡ true

-- the five numbers at the head of a block
abbrev pub head_of : Block → List ℕ
head_of block = block.instance.jobs ∷ block.instance.machines ∷ block.seed ∷ block.upper ∷ block.lower ∷ []

-- the numbers of a block are within the limits
pub record IsBlock (block : Block) : Type 0 where
  pub instance : IsWithinLimits block.instance
  pub seed : block.seed ≤ greatest_number
  pub upper : block.upper ≤ greatest_number
  pub lower : block.lower ≤ greatest_number

-- the lines are a label line, number lines with the head of the block, a label line, and number lines with its times
pub record IsGroup (lines : List (List ℕ)) (block : Block) : Type 0 where
  pub first_label : List ℕ
  pub head_lines : List (List ℕ)
  pub second_label : List ℕ
  pub rows : List (List ℕ)
  pub split : lines ≡ first_label ∷ head_lines ++ second_label ∷ rows
  pub first_is : is_label_line first_label ≡ true
  pub second_is : is_label_line second_label ≡ true
  pub head_lines_are : AllByRecursion IsNumbers head_lines
  pub rows_are : AllByRecursion IsNumbers rows
  pub head : flat_map numbers_of head_lines ≡ head_of block
  pub times : flat_map numbers_of rows ≡ block.instance.times
  pub within : IsBlock block

-- each group of lines is a block
abbrev pub AreGroups : List (List (List ℕ)) → List Block → Type 0
AreGroups [] [] = Unit {0}
AreGroups [] (block ∷ blocks) = ⊥
AreGroups (group ∷ groups) [] = ⊥
AreGroups (group ∷ groups) (block ∷ blocks) = IsGroup group block × AreGroups groups blocks

-- the lines of a text that are not blank are one or more groups, and these are the blocks in order
-- (law: texts_have_no_fault)
pub record Reads (text : List ℕ) (blocks : List Block) : Type 0 where
  pub groups : List (List (List ℕ))
  pub split : filter (λ line. not (is_blank_line line)) (lines_of text) ≡ flat_map (λ group. group) groups
  pub each : AreGroups groups blocks
  pub some : 0 < length blocks
