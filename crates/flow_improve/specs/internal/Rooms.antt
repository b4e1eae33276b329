-- What rounds compute in.
use Rattle.std.specs.Prelude.{◌≡◌}
use Rattle.flow_shop.specs.Shop.{Shop}
use Rattle.flow_shop.specs.Paths.{span}
use Rattle.flow_shop.specs.Sequences.{IsSequence}
use Rattle.flow_bound.specs.Rooms.{IsRoomFor}
use Rattle.flow_improve.specs.declared.round.Rounds.{Rounds}
use Rattle.flow_improve.specs.declared.rounds.Known.{Known}
use Rattle.flow_improve.specs.declared.rounds.RoundsRun.{RoundsRun}

-- there is room, and both lists have the jobs
pub record IsRoundsFor (shop : Shop) (rounds : Rounds) : Type 0 where
  pub room : IsRoomFor shop rounds.room.insertions
  pub jobs : IsSequence shop.jobs rounds.jobs.items
  pub order : IsSequence shop.jobs rounds.order.items

-- a sequence and its makespan
pub record IsKnown (shop : Shop) (known : Known) : Type 0 where
  pub jobs : IsSequence shop.jobs known.jobs.items
  pub makespan : known.makespan ≡ span shop known.jobs.items

-- a run of rounds holds three sequences, and room for the next one
pub record IsRunOf (shop : Shop) (run : RoundsRun) : Type 0 where
  pub search : IsRoundsFor shop run.search
  pub best : IsKnown shop run.best
  pub current : IsKnown shop run.current
  pub tried : IsKnown shop run.tried
