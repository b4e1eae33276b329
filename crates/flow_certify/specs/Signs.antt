-- How many directions a certificate may have.
use Rattle.std.specs.Prelude.{ℕ, min, Bool, nat_le, if◌then◌else◌}
use Rattle.std.specs.Int.{is_in_range}
use Rattle.flow_limits.specs.Limits.{most_directions}

-- the greatest limit that a caller may set on the directions of a certificate
abbrev pub most_counted : ℕ
most_counted = 1000000000000000

-- whether a caller may set this limit
abbrev pub may_be_most : ℕ → Bool
may_be_most count = is_in_range 1 most_counted count

-- the most directions that fit, with the other lines of a two-ended certificate, into the text that `check` reads
abbrev pub most_signs : ℕ
most_signs = 999990000

-- how many directions one search may write at a caller's limit: up to `most_directions` no more than `check` reads as
-- signs; at a greater limit, where they are to be counted, as many as it says
abbrev pub most_searched : ℕ → ℕ
most_searched limit = if nat_le limit most_directions then min limit most_signs else limit
