-- Decimal digits.
use Rattle.std.specs.Prelude.{ℕ, Bool, ◌&&◌, nat_le}
use Rattle.flow_shop.specs.Characters.{digit_zero, digit_nine}

-- whether a byte is a digit from 0 to 9
abbrev pub is_digit : ℕ → Bool
is_digit b = nat_le digit_zero b && nat_le b digit_nine
