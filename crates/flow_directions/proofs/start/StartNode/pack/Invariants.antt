use Rattle.std.proofs.Common.{◌≡◌, ℕ, ◌++◌, List, length, take}
use Rattle.flow_shop.proofs.Taken.{left_under}
use Rattle.flow_nodes.specs.Packs.{HasRoom}
use Rattle.flow_directions.specs.internal.Start.{IsStart}
use Rattle.flow_directions.proofs.start.StartNode.pack.Given as goal

-- the names so far are those of the jobs so far that are left
abbrev pub invariant-loop-job : goal.invariant-loop-job
invariant-loop-job g l = record {
  room : HasRoom l.instance l.pack;
  groups : length l.pack.groups.items ≡ length l.initial.pack.groups.items;
  size : length l.pack.names.items ≡ length l.initial.pack.names.items;
  names : (first last : List ℕ) → IsStart l.instance first last l.self →
      take l.count l.pack.names.items ≡ left_under (first ++ last) l.job;
  count : (first last : List ℕ) → IsStart l.instance first last l.self →
      l.count ≡ length (left_under (first ++ last) l.job);
}
