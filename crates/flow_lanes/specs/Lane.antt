-- What contracts see of the two ends of a lane, and of a settled lane.
use Rattle.std.specs.Prelude.{ℕ, List}
use denote.RawPtr.{Ptr}
use Rattle.rtrb.specs.Shared.{Names}

-- the most slots that a lane may be made with: enough for a task for each prefix that a plan may have, and one end; the
-- lanes of a run have 4
abbrev pub most_slots : ℕ
most_slots = 100001

-- what identifies a ring: where its words and its slots are in memory, and its names in proofs
pub record Ring : Type 0 where
  pub words : Ptr
  pub slots : Ptr
  pub names : Names

-- a lane: the ring that carries it, and how many slots it has
pub record Lane : Type 0 where
  pub ring : Ring
  pub capacity : ℕ

-- the end that sends: its lane, all items sent so far in order, and how many slots it knows to be free
pub record SendingEnd (T : Type 0) : Type 0 where
  pub lane : Lane
  pub sent : List T
  pub known_free : ℕ

-- the end that receives: its lane, all items received so far in order, and the next items, as many as it knows
pub record ReceivingEnd (T : Type 0) : Type 0 where
  pub lane : Lane
  pub received : List T
  pub known_items : List T

-- a settled lane, all items that were sent on it, and all that were received, each in order
pub record SettledLane (T : Type 0) : Type 0 where
  pub lane : Lane
  pub sent : List T
  pub received : List T
