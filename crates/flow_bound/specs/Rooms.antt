-- What insertions are computed in.
use Rattle.std.specs.Prelude.{◌≤◌, vec_len}
use Rattle.flow_shop.specs.Shop.{Shop}
use Rattle.flow_shop.specs.Rows.{AreRows}
use Rattle.flow_bound.specs.declared.start.insertion_room.InsertionRoom.{InsertionRoom}

-- a room has the rows of an instance, and an entry for each place of a list that lacks one of its jobs
pub record IsRoomFor (shop : Shop) (room : InsertionRoom) : Type 0 where
  pub rows : AreRows shop room.rows.items
  pub tails : shop.jobs ≤ vec_len room.tails
  pub spans : shop.jobs ≤ vec_len room.spans
