use Rattle.std.proofs.Common.{◌≡◌, ℕ, ◌<◌, ◌≤◌, min, max, length, slice_index}
use Rattle.flow_limits.specs.Limits.{most_machines}
use Rattle.flow_shop.proofs.least_pairs.LeastPairs.take.Given as goal

-- the places so far have the job's number taken in; the others are as they were
abbrev pub invariant-loop-place : goal.invariant-loop-place
invariant-loop-place l = record {
  least_size : length l.self.least ≡ most_machines;
  second_size : length l.self.second ≡ most_machines;
  done : (k : ℕ) → k < l.place →
      (slice_index l.self.least k ≡ min (slice_index l.fn.self.least k) (slice_index l.numbers k))
      × (slice_index l.self.second k
      ≡ min (slice_index l.fn.self.second k) (max (slice_index l.fn.self.least k) (slice_index l.numbers k)));
  others : (k : ℕ) → l.place ≤ k →
      (slice_index l.self.least k ≡ slice_index l.fn.self.least k)
      × (slice_index l.self.second k ≡ slice_index l.fn.self.second k);
}
