use Rattle.std.proofs.Common.{◌≡◌, ℕ, ◌*◌, ◌<◌, length, slice_index_or, take, drop}
use Rattle.std.specs.Global.{Vec}
use Rattle.flow_nodes.specs.Groups.{IsGroup}
use Rattle.flow_nodes.specs.Packs.{HasRoom}
use Rattle.flow_nodes.proofs.pack.Pack.load_groups.Given as goal

-- the groups so far have their times
abbrev pub invariant-loop-group : goal.invariant-loop-group
invariant-loop-group g l = record {
  room : HasRoom l.instance l.self;
  names : l.self.names ≡ l.fn.self.names;
  count : length l.self.groups.items ≡ length l.fn.self.groups.items;
  bytes : l.self.bytes ≡ l.fn.self.bytes;
  done : (group : ℕ) (none : Vec g.row.V.Denot) → group < l.group →
      IsGroup g.V.Vector.list g.V.Vector.CAP g.V.Vector.WIDTH l.instance
      (take 16 (drop (group * 16) l.self.names.items)) (slice_index_or l.self.groups.items group none).items;
}
