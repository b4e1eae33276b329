-- The two bounds on the makespan of every sequence that begins with a list of jobs: the machine bound, and the released
-- bound.
use Rattle.std.specs.Prelude.{ℕ, ◌+◌, ◌-◌, ◌≤◌, ◌<◌, cond, nat_eq, List, map, length, slice_index, sum_by}
use Rattle.flow_shop.specs.Shop.{Shop, numbers, time}
use Rattle.flow_shop.specs.Least.{greatest, least_between}
use Rattle.flow_shop.specs.Paths.{completion, span}
use Rattle.flow_shop.specs.Sequences.{jobs_left, IsSequence, Extends}

-- a bound gives a number for an instance, a list of jobs and a machine
abbrev pub Bound : Type 0
Bound = Shop → List ℕ → ℕ → ℕ

-- the machine bound: the front on the machine, plus the times there of the jobs left, plus the least of their tails. A
-- job's tail is its time on the later machines (law: bound_is_admissible)
abbrev pub machine_bound : Shop → List ℕ → List ℕ → ℕ → ℕ
machine_bound shop front left machine =
    slice_index front (machine - 1) + sum_by (λ job. time shop job machine) left
    + least_between shop left (machine + 1) shop.machines

-- the front of a list: its completion time on each machine
abbrev pub front_of : Shop → List ℕ → List ℕ
front_of shop jobs = map (completion shop jobs) (numbers 1 shop.machines)

-- the machine bound of a list (law: bound_is_admissible)
abbrev pub bound_at : Bound
bound_at shop jobs machine = machine_bound shop (front_of shop jobs) (jobs_left shop.jobs jobs) machine

-- the release of a machine, before which no job left starts on it: the greatest, over the machines up to this one, of
-- the front there plus the least time that a job left needs from there to the machine before this one (law:
-- released_bound_is_admissible, released_bound_is_stronger)
abbrev pub release : Shop → List ℕ → List ℕ → ℕ → ℕ
release shop front left machine =
    greatest (map
    (λ from. slice_index front (from - 1) + least_between shop left from (machine - 1))
    (numbers 1 machine))

-- the released bound: the machine bound with the release in place of the front
-- (law: released_bound_is_admissible, released_bound_is_stronger)
abbrev pub released_bound : Shop → List ℕ → List ℕ → ℕ → ℕ
released_bound shop front left machine =
    release shop front left machine + sum_by (λ job. time shop job machine) left
    + least_between shop left (machine + 1) shop.machines

-- the released bound of a list (law: released_bound_is_admissible, released_bound_is_stronger)
abbrev pub released_bound_at : Bound
released_bound_at shop jobs machine = released_bound shop (front_of shop jobs) (jobs_left shop.jobs jobs) machine

-- the bound of a certificate version: the released bound for version 2, the machine bound for version 1
abbrev pub bound_of : ℕ → Bound
bound_of version = cond (nat_eq version 2) released_bound_at bound_at

-- the letter of a machine in a tree: A for 1
abbrev pub letter : ℕ → ℕ
letter machine = 64 + machine

-- what stands in a tree for a sequence
abbrev pub point : ℕ
point = 46

-- what stands in a tree before the trees of the children
abbrev pub plus : ℕ
plus = 43

-- a bound is admissible where the makespan of a sequence that extends a list is at least the bound of the list on each
-- machine
abbrev pub IsAdmissible : Bound → Type 0
IsAdmissible bound =
    (shop : Shop) (jobs sequence : List ℕ) (machine : ℕ) → 1 ≤ machine → machine ≤ shop.machines →
    IsSequence shop.jobs sequence → Extends sequence jobs → length jobs < shop.jobs →
    bound shop jobs machine ≤ span shop sequence

-- a bound is at least another on each machine of each list
abbrev pub IsStronger : Bound → Bound → Type 0
IsStronger bound other =
    (shop : Shop) (jobs : List ℕ) (machine : ℕ) → 1 ≤ machine → other shop jobs machine ≤ bound shop jobs machine

-- the machine bound is admissible (law: bound_is_admissible)
abbrev pub BoundIsAdmissible : Type 0
BoundIsAdmissible = IsAdmissible bound_at

-- the released bound is admissible (law: released_bound_is_admissible)
abbrev pub ReleasedBoundIsAdmissible : Type 0
ReleasedBoundIsAdmissible = IsAdmissible released_bound_at

-- the released bound is at least the machine bound (law: released_bound_is_stronger)
abbrev pub ReleasedBoundIsStronger : Type 0
ReleasedBoundIsStronger = IsStronger released_bound_at bound_at
