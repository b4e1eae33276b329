-- Why the makespan of a sequence is no smaller: a heaviest staircase path.
use Rattle.std.specs.Prelude.{ℕ, ◌≡◌, List, length}
use Rattle.flow_shop.specs.Shop.{Shop}
use Rattle.flow_shop.specs.Paths.{IsPath, weight, span}

-- a staircase path over the sequence, by the last machine of each job, whose weight is the makespan
pub record IsHeaviestPath (shop : Shop) (sequence path : List ℕ) : Type 0 where
  pub each : length path ≡ length sequence
  pub stairs : IsPath 1 path shop.machines
  pub heaviest : weight shop sequence 1 path ≡ span shop sequence
