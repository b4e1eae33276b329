-- What a run that asks for directions may tell of itself.
use Rattle.std.specs.Prelude.{ℕ, ◌≡◌, List}
use Rattle.flow_shop.specs.Shop.{Shop}
use Rattle.flow_shop.specs.Paths.{span}
use Rattle.flow_shop.specs.Sequences.{IsSequence, IsLowerBound}
use Rattle.flow_directions.specs.declared.prover.News.{News}
use Rattle.flow_directions.specs.declared.prover.News.TheVariants.{Step, Bounds, Directions, Ended}

-- what may be told of an instance: bounds only where they are proved, so that no sequence has a makespan below the lower
-- one, and some sequence has the upper one
abbrev pub MayBeTold : Shop → News → Type 0
MayBeTold shop (Step step) = Unit {0}
MayBeTold shop (Bounds lower upper) =
    IsLowerBound shop lower × ((jobs : List ℕ) × IsSequence shop.jobs jobs × (span shop jobs ≡ upper))
MayBeTold shop (Directions count) = Unit {0}
MayBeTold shop Ended = Unit {0}
