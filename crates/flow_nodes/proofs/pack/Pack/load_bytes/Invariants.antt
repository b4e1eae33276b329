use Rattle.std.proofs.Common.{◌≡◌, ℕ, ◌*◌, ◌<◌, List, length, slice_index_or, take, drop}
use Rattle.std.specs.Global.{Vec}
use Rattle.flow_nodes.specs.Groups.{IsGroup}
use Rattle.flow_nodes.specs.Packs.{HasByteRoom}
use Rattle.flow_nodes.proofs.pack.Pack.load_bytes.Given as goal

-- the groups so far have their times
abbrev pub invariant-loop-group : goal.invariant-loop-group
invariant-loop-group g l = record {
  groups : l.self.groups ≡ l.fn.self.groups;
  names : l.self.names ≡ l.fn.self.names;
  size : length l.self.bytes.items ≡ length l.fn.self.bytes.items;
  room : HasByteRoom l.instance l.fn.self → (group : ℕ) (none : Vec (List ℕ)) → group < length l.self.bytes.items →
      length (slice_index_or l.self.bytes.items group none).items ≡ l.instance.machines;
  done : HasByteRoom l.instance l.fn.self → (group : ℕ) (none : Vec (List ℕ)) → group < l.group →
      IsGroup (λ (lanes : List ℕ). lanes) 255 16 l.instance
      (take 16 (drop (group * 16) l.self.names.items)) (slice_index_or l.self.bytes.items group none).items;
}
