-- Groups: jobs side by side, one for each lane, and the children of a node that put them at an end.
use Rattle.std.specs.Prelude.{ℕ, ◌≡◌, ◌+◌, ◌-◌, ◌*◌, ◌/◌, ◌<◌, ◌≤◌, false, min, List, ◌++◌, length, slice_index}
use Rattle.std.specs.Prelude.{slice_index_or}
use Rattle.std.specs.Global.{Vec}
use Rattle.flow_limits.specs.Limits.{most_jobs}
use Rattle.flow_shop.specs.Shop.{Shop, IsWithinLimits, time}
use Rattle.flow_shop.specs.Ends.{end_bound}
use Rattle.flow_shop.specs.Directions.{first_with, last_with}
use Rattle.flow_shop.specs.declared.end.End.{End}
use Rattle.flow_shop.specs.Sequences.{has}
use Rattle.flow_nodes.specs.Vectors.{HasLane, capped}
use Rattle.flow_nodes.specs.Nodes.{IsJob, IsNode}
use Rattle.flow_nodes.specs.declared.node.Node.{Node}

-- a group of jobs, one for each lane: for each machine, lanes that have their times there
pub record IsGroup {V : Type 0} (list : V → List ℕ) (cap width : ℕ) (shop : Shop) (jobs : List ℕ)
    (group : List V) : Type 0 where
  pub count : length jobs ≡ width
  pub each : (lane : ℕ) → lane < width → IsJob shop (slice_index jobs lane)
  pub machines : length group ≡ shop.machines
  pub times : (machine lane : ℕ) (none : V) → 1 ≤ machine → machine ≤ shop.machines → lane < width →
      HasLane cap width (list (slice_index_or group (machine - 1) none)) lane
      (time shop (slice_index jobs lane) machine)

-- the jobs of a group: sixteen after the groups before it; behind the last job of the instance that job stands again
abbrev pub AreNames : Shop → ℕ → List ℕ → Type 0
AreNames shop group names =
    (lane : ℕ) → lane < 16 → slice_index names lane ≡ min (group * 16 + lane + 1) shop.jobs

-- how many groups so many jobs have
abbrev pub group_count : ℕ → ℕ
group_count jobs = (jobs + 15) / 16

-- how many groups the most jobs have
abbrev pub most_groups : ℕ
most_groups = group_count most_jobs

-- the groups of all jobs, sixteen to a group
pub record AreGroups {V : Type 0} (list : V → List ℕ) (cap width : ℕ) (shop : Shop) (groups : List (Vec V)) :
    Type 0 where
  pub wide : width ≡ 16
  pub limits : IsWithinLimits shop
  pub count : length groups ≡ group_count shop.jobs
  pub each : (group : ℕ) (none : Vec V) → group < length groups → (names : List ℕ) × AreNames shop group names
      × IsGroup list cap width shop names (slice_index_or groups group none).items

-- the bound of the child that puts a job at an end
abbrev pub child_bound : Shop → End → List ℕ → List ℕ → ℕ → ℕ
child_bound shop end first last job = end_bound shop (first_with end first job) (last_with end last job)

-- a number is the bound of the child of a node that puts a job that is left at an end, or the cap where that is less;
-- of another job nothing is said
abbrev pub IsCappedBound : Shop → Node → End → ℕ → ℕ → ℕ → Type 0
IsCappedBound shop node end job cap threshold =
    (first last : List ℕ) → IsNode shop first last node → has (first ++ last) job ≡ false →
    threshold ≡ capped cap (child_bound shop end first last job)
