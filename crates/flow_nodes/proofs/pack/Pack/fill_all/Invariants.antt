use Rattle.std.proofs.Common.{◌≡◌, ◌-◌, [], length, take}
use Rattle.flow_shop.specs.Sequences.{jobs_left}
use Rattle.flow_nodes.specs.Packs.{HasRoom}
use Rattle.flow_nodes.proofs.pack.Pack.fill_all.Given as goal

-- the jobs so far
abbrev pub invariant-loop-job : goal.invariant-loop-job
invariant-loop-job g l = record {
  room : HasRoom l.instance l.self;
  bytes : l.self.bytes ≡ l.initial.self.bytes;
  groups : length l.self.groups.items ≡ length l.initial.self.groups.items;
  size : length l.self.names.items ≡ length l.initial.self.names.items;
  jobs : take (l.job - 1) l.self.names.items ≡ jobs_left (l.job - 1) [];
}
