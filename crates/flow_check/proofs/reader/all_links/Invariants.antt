use Rattle.std.proofs.Common.{◌≡◌, ℕ, ◌+◌, ◌-◌, ◌<◌, length, slice_index}
use Rattle.flow_check.proofs.reader.all_links.Given as goal

abbrev pub invariant-loop-job : goal.invariant-loop-job
invariant-loop-job l = record {
  size : length l.links.items ≡ l.job - 1;
  each : (k : ℕ) → k < l.job - 1 → slice_index l.links.items k ≡ k + 1;
}
