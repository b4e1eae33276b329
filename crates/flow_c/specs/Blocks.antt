-- What is reported for the block of a benchmark text that an index names.
use Rattle.std.specs.Prelude.{ℕ, ◌≡◌, ◌*◌, ◌<◌, ◌⊎◌, List, take}
use Rattle.flow_text.specs.Picks.{HasBlock, IsPickFault}
use Rattle.flow_text.specs.declared.text.block.Block.{Block}
use Rattle.flow_text.specs.declared.text.pick.PickFault.TheVariants as pick
use Rattle.flow_c.specs.Faults.{HasFault, IsDone, RanOut}
use Rattle.flow_c.specs.declared.block.BlockRoom.{BlockRoom}
use Rattle.flow_c.specs.declared.outcome.Outcome.{Outcome}
use Rattle.flow_c.specs.declared.fault.Fault.{Fault}
use Rattle.flow_c.specs.declared.fault.Fault.TheVariants.{Index, Room, Text}

-- the block that stands in a record
abbrev pub block_in : BlockRoom → Block
block_in room = record {
  seed = room.seed;
  upper = room.upper;
  lower = room.lower;
  instance = record {
    jobs = room.jobs;
    machines = room.machines;
    times = take (room.jobs * room.machines) room.times.now;
  };
}

-- why no block is given: the index names none, or there are fewer entries than it has times
abbrev pub IsBlockFault : List ℕ → ℕ → ℕ → Fault → Type 0
IsBlockFault text index entries (Text fault) = IsPickFault text index (pick.Text fault)
IsBlockFault text index entries (Index count) = IsPickFault text index (pick.Index count)
IsBlockFault text index entries (Room needed) =
    (block : Block) × HasBlock text index block × (needed ≡ block.instance.jobs * block.instance.machines)
    × (entries < needed)
IsBlockFault text index entries fault = ⊥

-- What is reported for a block: that it is given, that memory ran out, or why it is not given.
abbrev pub ReportsBlock : List ℕ → ℕ → ℕ → Outcome → Type 0
ReportsBlock text index entries outcome =
    IsDone outcome ⊎ RanOut outcome ⊎ ((fault : Fault) × IsBlockFault text index entries fault × HasFault fault outcome)
