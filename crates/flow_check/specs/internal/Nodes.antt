-- What is kept of a list of jobs at which trees are read.
use Rattle.std.specs.Prelude.{ℕ, suc, ◌≡◌, ◌+◌, ◌-◌, ◌≤◌, ◌⊎◌, false, List, [], ◌∷◌, ◌++◌, length, sum_by}
use Rattle.std.specs.Prelude.{slice_index}
use Rattle.std.specs.Prelude.{Option, Some, None}
use Rattle.flow_shop.specs.Limits.{most_machines}
use Rattle.flow_shop.specs.Shop.{Shop, AreOf, time}
use Rattle.flow_shop.specs.Front.{IsFrontOf}
use Rattle.flow_shop.specs.Sequences.{has, jobs_left}
use Rattle.flow_shop.specs.TwoLeast.{tails, least_below, second_below, least_of_none}
use Rattle.flow_check.specs.internal.Links.{AreLinks}
use Rattle.flow_check.specs.declared.node.ListNode.{ListNode}
use Rattle.flow_shop.specs.declared.least_pairs.LeastPairs.{LeastPairs}
use Rattle.flow_shop.specs.declared.two_least.TwoLeast.{TwoLeast}

-- the two least tails of the jobs left after a machine
abbrev pub AreTwoLeastTails : Shop → List ℕ → ℕ → TwoLeast → Type 0
AreTwoLeastTails shop list machine two =
    (two.least ≡ least_below least_of_none (tails shop machine (jobs_left shop.jobs list)))
    × (two.second ≡ second_below least_of_none least_of_none (tails shop machine (jobs_left shop.jobs list)))

-- the two least tails after each machine. Where they are not known, the least is the number that stands for no tail
pub record AreKnown (shop : Shop) (list : List ℕ) (kept : LeastPairs) : Type 0 where
  pub each : (machine : ℕ) → 1 ≤ machine → machine ≤ shop.machines →
      (slice_index kept.least (machine - 1) ≡ least_of_none)
      ⊎ AreTwoLeastTails shop list machine
      (record { least = slice_index kept.least (machine - 1); second = slice_index kept.second (machine - 1) })
  pub least_size : length kept.least ≡ most_machines
  pub second_size : length kept.second ≡ most_machines

-- what is kept of a list with so many jobs left: its front, and the time of the jobs left on each machine
pub record IsListNode (shop : Shop) (list : List ℕ) (node : ListNode) (left : ℕ) : Type 0 where
  pub times : IsFrontOf shop list node.front
  pub work : AreOf shop (λ machine. sum_by (λ job. time shop job machine) (jobs_left shop.jobs list)) node.work
  pub size : length node.work ≡ most_machines
  pub known : AreKnown shop list node.tails
  pub count : length list + left ≡ shop.jobs
  pub some : length (jobs_left shop.jobs list) ≡ left

-- a list with its node, and its jobs left linked
pub record IsAt (shop : Shop) (list : List ℕ) (node : ListNode) (links : List ℕ) (left : ℕ) : Type 0 where
  pub is_node : IsListNode shop list node left
  pub are_links : AreLinks shop.jobs list links

-- a list, or a child of it
abbrev pub grown : List ℕ → Option ℕ → List ℕ
grown list None = list
grown list (Some job) = list ++ job ∷ []

-- a list itself, or a job from 1 to n that the list does not have
abbrev pub IsChild : ℕ → List ℕ → Option ℕ → Type 0
IsChild n list None = Unit {0}
IsChild n list (Some job) = (1 ≤ job) × (job ≤ n) × (has list job ≡ false)

-- the jobs left before a child is taken, from those after it
abbrev pub left_before : Option ℕ → ℕ → ℕ
left_before None left = left
left_before (Some job) left = suc left

-- the jobs left at a list or at its child, where so many are left at each child
abbrev pub left_here : Option ℕ → ℕ → ℕ
left_here None child_left = suc child_left
left_here (Some job) child_left = child_left
