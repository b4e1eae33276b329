-- What the bounds of children are computed from, machine by machine; also for a job that is not left.
use Rattle.std.specs.Prelude.{ℕ, ◌+◌, ◌-◌, max, List, [], ◌∷◌, ◌++◌, map}
use Rattle.flow_shop.specs.Shop.{Shop, numbers}
use Rattle.flow_shop.specs.Least.{greatest}
use Rattle.flow_shop.specs.Ends.{front, back}
use Rattle.flow_shop.specs.declared.end.End.{End}
use Rattle.flow_shop.specs.declared.end.End.TheVariants.{Front, Back}
use Rattle.flow_nodes.specs.Nodes.{work}

-- the start of a job on a machine, the time of all jobs left there, and what is behind them
abbrev pub front_child_at : Shop → List ℕ → List ℕ → ℕ → ℕ → ℕ
front_child_at shop first last job machine =
    max (front shop (first ++ job ∷ []) (machine - 1)) (front shop first machine)
    + (work shop (first ++ last) machine + back shop last machine)

-- the same from the other end
abbrev pub back_child_at : Shop → List ℕ → List ℕ → ℕ → ℕ → ℕ
back_child_at shop first last job machine =
    max (back shop (job ∷ last) (machine + 1)) (back shop last machine)
    + (work shop (first ++ last) machine + front shop first machine)

-- the greatest over the machines
abbrev pub greatest_at : Shop → End → List ℕ → List ℕ → ℕ → ℕ
greatest_at shop Front first last job = greatest (map (front_child_at shop first last job) (numbers 1 shop.machines))
greatest_at shop Back first last job = greatest (map (back_child_at shop first last job) (numbers 1 shop.machines))
