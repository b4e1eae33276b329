-- The lines of a text, their kinds, and the numbers on them.
use Rattle.std.specs.Prelude.{ℕ, Bool, true, false, not, ◌||◌, ◌==◌, nat_lt, nat_le, if◌then◌else◌, List, [], ◌∷◌}
use Rattle.std.specs.Prelude.{length, map, filter}
use Rattle.std.specs.List.{list_all, onto_first, slice_split}
use Rattle.std.specs.Str.Parse.{digits_value}
use Rattle.flow_limits.specs.Limits.{greatest_number}
use Rattle.flow_shop.specs.Characters.{tab, line_feed, carriage_return, space}
pub use Rattle.flow_shop.specs.Digits.{is_digit}

-- the lines of a text, without their ends: a line ends with LF or with the text
abbrev pub lines_of : List ℕ → List (List ℕ)
lines_of [] = []
lines_of (b ∷ bs) = if b == line_feed then [] ∷ lines_of bs else onto_first b (lines_of bs)

-- whether a byte is a space, a tab or a CR
abbrev pub is_blank : ℕ → Bool
is_blank b = b == space || b == tab || b == carriage_return

-- a line without the blanks at its front
abbrev pub after_blanks : List ℕ → List ℕ
after_blanks [] = []
after_blanks (b ∷ bs) = if is_blank b then after_blanks bs else b ∷ bs

-- whether a line is empty, or has only blanks
abbrev pub is_blank_line : List ℕ → Bool
is_blank_line line = elim (after_blanks line) [ [] ↦ true | b ∷ bs ↦ false ]

-- whether the first byte of a line that is not a blank is not a digit
abbrev pub is_label_line : List ℕ → Bool
is_label_line line = elim (after_blanks line) [ [] ↦ false | b ∷ bs ↦ not (is_digit b) ]

-- whether the first byte of a line that is not a blank is a digit
abbrev pub is_number_line : List ℕ → Bool
is_number_line line = elim (after_blanks line) [ [] ↦ false | b ∷ bs ↦ is_digit b ]

-- whether a line has only digits and blanks
abbrev pub is_plain : List ℕ → Bool
is_plain line = list_all (λ b. is_digit b || is_blank b) line

-- the parts of a line between its blanks
abbrev pub words : List ℕ → List (List ℕ)
words line = filter (λ word. nat_lt 0 (length word)) (slice_split is_blank line)

-- the numbers on a line of digits and blanks
abbrev pub numbers_of : List ℕ → List ℕ
numbers_of line = map (digits_value 10) (words line)

-- whether each number may stand in a text
abbrev pub are_small : List ℕ → Bool
are_small numbers = list_all (λ n. nat_le n greatest_number) numbers
