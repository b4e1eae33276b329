use Rattle.std.proofs.Common.{arith}
use Rattle.flow_nodes.proofs.opener.Opener.open_of.Goals as goal

pub returns-clause-room : goal.returns-clause-room
returns-clause-room g c shop groups room = record {
  at_front = c.open_at.ensures.room shop groups room.at_front;
  at_back = c.open_at-2.ensures.room shop groups room.at_back;
  front_bounds = omega (arith, c.open_at.ensures.bound_count, room.front_bounds);
  back_bounds = omega (arith, c.open_at-2.ensures.bound_count, room.back_bounds);
}

pub returns-clause-node : goal.returns-clause-node
returns-clause-node g c shop threshold first last limit is is_pack has_left = record {
  is_node = is;
  has_left = has_left;
  at_front = c.open_at.ensures.children shop threshold first last limit is is_pack has_left;
  at_back = c.open_at-2.ensures.children shop threshold first last limit is is_pack has_left;
}
