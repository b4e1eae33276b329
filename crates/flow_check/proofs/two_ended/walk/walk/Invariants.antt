use Rattle.std.proofs.Common.{◌≡◌, ◌+◌, ◌-◌, ◌*◌, ◌≤◌, [], length}
use Rattle.flow_nodes.specs.Vectors.{limit_of}
use Rattle.flow_check.specs.internal.Frames.{pack_groups}
use Rattle.flow_nodes.specs.Packs.{HasRoomFor}
use Rattle.flow_check.specs.internal.Frames.{ArePacks, here, above, names_at}
use Rattle.flow_check.specs.internal.ReadDirections.{read_node}
use Rattle.flow_check.proofs.WalkSteps.{Stands}
use Rattle.flow_check.proofs.two_ended.walk.walk.Given as goal

-- the walk stands at the place, and reads the children of the path's node
abbrev pub invariant-walk : goal.invariant-walk
invariant-walk g l = record {
  within : l.place ≤ length l.text;
  left : l.left + l.path.depth ≡ l.instance.jobs;
  some : 1 ≤ l.left;
  size : length l.path.frames.items ≡ l.instance.jobs;
  limit : l.path.opener.limit ≡ limit_of l.threshold;
  room : HasRoomFor l.instance l.path.opener;
  packs : ArePacks g.V.Vector.list g.V.Vector.CAP g.V.Vector.WIDTH l.instance l.left l.path.packs.items;
  stands : Stands l.instance l.threshold (read_node l.instance l.threshold l.instance.jobs [] [] l.text) l.text l.place
      (λ left. names_at l.path.packs.items (pack_groups left - 1)) (above l.path) (here l.path);
}

abbrev pub decreases-walk : goal.decreases-walk
decreases-walk g l = 2 * (length l.text - l.place) + l.path.depth
