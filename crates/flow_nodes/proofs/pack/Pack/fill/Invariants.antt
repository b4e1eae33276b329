use Rattle.std.proofs.Common.{◌≡◌, ℕ, ◌+◌, ◌++◌, ◌<◌, length, take}
use Rattle.flow_nodes.specs.Marks.{mark}
use Rattle.flow_nodes.specs.Packs.{HasRoom, jobs_at}
use Rattle.flow_nodes.proofs.pack.Pack.fill.Given as goal

-- the jobs so far, and those that are left to put
abbrev pub invariant-places : goal.invariant-places
invariant-places g l = record {
  room : HasRoom l.instance l.self;
  bytes : l.self.bytes ≡ l.fn.self.bytes;
  groups : length l.self.groups.items ≡ length l.fn.self.groups.items;
  size : length l.self.names.items ≡ length l.fn.self.names.items;
  count : l.count + length (jobs_at l.from l.rest) ≡ length (jobs_at l.from l.marks);
  before : (place : ℕ) → place < l.next → mark l.rest.words place ≡ 0;
  jobs : take l.count l.self.names.items ++ jobs_at l.from l.rest ≡ jobs_at l.from l.marks;
}

abbrev pub decreases-places : goal.decreases-places
decreases-places g l = length (jobs_at l.from l.rest)
