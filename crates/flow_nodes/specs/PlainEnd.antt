-- The plain rule for the end at which a node is opened.
use Rattle.std.specs.Prelude.{ℕ, cond, nat_le, nat_lt}
use Rattle.flow_shop.specs.declared.end.End.{End}
use Rattle.flow_shop.specs.declared.end.End.TheVariants.{Front, Back}

-- by how many children are below the threshold at the front and at the back, and by the sums of the bounds there: the
-- end where fewer are; where as many are, the end whose bounds sum to more; and the front where these sums are equal
-- too
abbrev pub plain_end_by : ℕ → ℕ → ℕ → ℕ → End
plain_end_by front_count back_count front_sum back_sum =
    cond (nat_lt front_count back_count) Front
    (cond (nat_lt back_count front_count) Back
    (cond (nat_le back_sum front_sum) Front Back))
