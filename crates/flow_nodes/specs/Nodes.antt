-- Nodes: what is kept of a first list and a last list, and of the jobs in neither.
use Rattle.std.specs.Prelude.{ℕ, ◌≡◌, ◌+◌, ◌≤◌, List, ◌++◌, length, sum_by, All}
use Rattle.flow_shop.specs.Shop.{Shop, AreOf, IsWithinLimits, time}
use Rattle.flow_shop.specs.Sequences.{jobs_left}
use Rattle.flow_shop.specs.Ends.{front, back}
use Rattle.flow_nodes.specs.declared.node.Node.{Node}

-- a job of an instance
abbrev pub IsJob : Shop → ℕ → Type 0
IsJob shop job = (1 ≤ job) × (job ≤ shop.jobs)

-- a machine of an instance
abbrev pub IsMachine : Shop → ℕ → Type 0
IsMachine shop machine = (1 ≤ machine) × (machine ≤ shop.machines)

-- the time, on a machine, of the jobs that a list leaves
abbrev pub work : Shop → List ℕ → ℕ → ℕ
work shop list machine = sum_by (λ job. time shop job machine) (jobs_left shop.jobs list)

-- what is kept of a node: its fronts, its backs, and the time of the jobs left on each machine
pub record IsNode (shop : Shop) (first last : List ℕ) (node : Node) : Type 0 where
  pub limits : IsWithinLimits shop
  pub fronts : AreOf shop (front shop first) node.front
  pub backs : AreOf shop (back shop last) node.back
  pub works : AreOf shop (work shop (first ++ last)) node.work
  pub first_jobs : All (λ job. IsJob shop job) first
  pub last_jobs : All (λ job. IsJob shop job) last
  pub count : length first + length last + length (jobs_left shop.jobs (first ++ last)) ≡ shop.jobs
