-- At which end a beam opens a node.
use Rattle.std.specs.Prelude.{ℕ, ◌-◌, nat_lt, List, take, drop, count_by, sum_by}
use Rattle.flow_shop.specs.Shop.{Shop}
use Rattle.flow_shop.specs.declared.end.End.{End}
use Rattle.flow_shop.specs.declared.end.End.TheVariants.{Front, Back}
use Rattle.flow_nodes.specs.Groups.{child_bound}
use Rattle.flow_nodes.specs.PlainEnd.{plain_end_by}
use Rattle.flow_improve.specs.internal.Beams.{first_of, last_of}
use Rattle.flow_improve.specs.declared.two_ended.entry.Entry.{Entry}

-- the jobs of an entry between its two lists
abbrev pub left_of : Entry → List ℕ
left_of entry = take (entry.before - entry.first) (drop entry.first entry.jobs.items)

-- the bound of the child of an entry's node that puts a job at an end
abbrev pub bound_at_end : Shop → Entry → End → ℕ → ℕ
bound_at_end shop entry end job = child_bound shop end (first_of entry) (last_of entry) job

-- how many children at an end are below a threshold
abbrev pub count_below : Shop → Entry → End → ℕ → ℕ
count_below shop entry end threshold = count_by (λ job. nat_lt (bound_at_end shop entry end job) threshold)
    (left_of entry)

-- the sum of the bounds of all children at an end
abbrev pub bound_sum : Shop → Entry → End → ℕ
bound_sum shop entry end = sum_by (bound_at_end shop entry end) (left_of entry)

-- the end where fewer children are below a threshold; where as many are, the end whose bounds sum to more; and the
-- front where these sums are equal too
abbrev pub plain_end : Shop → Entry → ℕ → End
plain_end shop entry threshold =
    plain_end_by (count_below shop entry Front threshold) (count_below shop entry Back threshold)
    (bound_sum shop entry Front) (bound_sum shop entry Back)
