-- Sums that do not pass 64 bits.
use Rattle.std.proofs.Common.{◌≡◌, ℕ, ◌+◌, ◌<◌, ◌^◌, min, arith}

pub sum-fits : (a b d sum : ℕ) → sum ≡ min (a + b) 18446744073709551615 → b ≡ d → a + d < 2 ^ 64 → sum ≡ a + d
sum-fits a b d sum are is less = omega (arith, are, is, less)
