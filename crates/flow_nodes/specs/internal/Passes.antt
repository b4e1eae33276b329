-- Passes over the machines from an end, for jobs side by side: when the jobs are free, and what is greatest so far.
use Rattle.std.specs.Prelude.{ℕ, ◌+◌, List, [], ◌∷◌, ◌++◌, map}
use Rattle.flow_shop.specs.Shop.{Shop, numbers}
use Rattle.flow_shop.specs.Least.{greatest}
use Rattle.flow_shop.specs.Ends.{front, back}
use Rattle.flow_shop.specs.declared.end.End.{End}
use Rattle.flow_shop.specs.declared.end.End.TheVariants.{Front, Back}
use Rattle.flow_nodes.specs.Vectors.{HasLane}
use Rattle.flow_nodes.specs.declared.passes.Pass.{Pass}
use Rattle.flow_nodes.specs.internal.Children.{front_child_at, back_child_at}

-- when a job is free for the machine behind a place; or, counted from the other end, for the machine before it
abbrev pub free_at : Shop → End → List ℕ → List ℕ → ℕ → ℕ → ℕ
free_at shop Front first last job place = front shop (first ++ job ∷ []) place
free_at shop Back first last job place = back shop (job ∷ last) (place + 1)

-- the greatest number of the child on the machines up to a place; or, from the other end, on those behind it
abbrev pub greatest_up_to : Shop → End → List ℕ → List ℕ → ℕ → ℕ → ℕ
greatest_up_to shop Front first last job place =
    greatest (map (front_child_at shop first last job) (numbers 1 place))
greatest_up_to shop Back first last job place =
    greatest (map (back_child_at shop first last job) (numbers (place + 1) shop.machines))

-- a lane has both
pub record HasPassed {V : Type 0} (list : V → List ℕ) (cap width : ℕ) (shop : Shop) (end : End) (first last : List ℕ)
    (job lane place : ℕ) (pass : Pass V) : Type 0 where
  pub free : HasLane cap width (list pass.free) lane (free_at shop end first last job place)
  pub bounds : HasLane cap width (list pass.bounds) lane (greatest_up_to shop end first last job place)
