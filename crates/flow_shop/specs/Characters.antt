-- The bytes of texts, by their names.
use Rattle.std.specs.Prelude.{ℕ}

-- a tab
abbrev pub tab : ℕ
tab = 9

-- LF, which ends a line
abbrev pub line_feed : ℕ
line_feed = 10

-- CR
abbrev pub carriage_return : ℕ
carriage_return = 13

-- a space
abbrev pub space : ℕ
space = 32

-- the digit 0
abbrev pub digit_zero : ℕ
digit_zero = 48

-- the digit 9
abbrev pub digit_nine : ℕ
digit_nine = 57
