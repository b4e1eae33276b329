-- What a search has reached.
use Rattle.std.specs.Prelude.{◌≡◌}
use Rattle.flow_shop.specs.Shop.{Shop}
use Rattle.flow_shop.specs.Paths.{span}
use Rattle.flow_shop.specs.Sequences.{IsSequence}
use Rattle.flow_improve.specs.declared.reached.Reached.{Reached}

-- a search has reached a sequence of the instance, with its makespan
pub record HasMakespan (shop : Shop) (reached : Reached) : Type 0 where
  pub sequence : IsSequence shop.jobs reached.sequence
  pub value : reached.value ≡ span shop reached.sequence
