-- Staircase paths through the times of a list.
use Rattle.std.specs.Prelude.{ℕ, ◌≡◌, ◌≤◌, List, [], ◌∷◌}
pub use Rattle.flow_shop.specs.LeastMakespan.{weight, paths, span}
unfoldable pub use Rattle.flow_shop.specs.LeastMakespan.{completion}

-- A staircase path over a list of jobs is a list of machines, the last machine of each job. Each job takes the machines
-- from its predecessor's last to its own last; the first job begins at machine 1. No machine is below the one before
-- it.

-- a path that begins at one machine, goes through these, and ends at the last
abbrev pub IsPath : ℕ → List ℕ → ℕ → Type 0
IsPath first [] last = first ≡ last
IsPath first (machine ∷ machines) last = (first ≤ machine) × IsPath machine machines last
