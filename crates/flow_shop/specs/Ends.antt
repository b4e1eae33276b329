-- The two ends of a sequence. A node is two lists of jobs: its first list begins a sequence, and its last list ends it.
-- The sequences of the node have the other jobs, in any order, between the two.
use Rattle.std.specs.Prelude.{ℕ, ◌≡◌, ◌+◌, ◌-◌, ◌≤◌, List, [], ◌∷◌, ◌++◌, length, map, max, sum_by}
use Rattle.std.specs.Prelude.{All}
use Rattle.flow_shop.specs.Shop.{Shop, numbers, time, time_between}
use Rattle.flow_shop.specs.Least.{greatest, least}
use Rattle.flow_shop.specs.Paths.{weight, paths, completion, span}
use Rattle.flow_shop.specs.Sequences.{jobs_left, IsSequence}

-- the head of a machine: the least time that a job of the instance needs on the machines before it
abbrev pub head : Shop → ℕ → ℕ
head shop machine = least (map (λ job. time_between shop job 1 (machine - 1)) (numbers 1 shop.jobs))

-- the tail of a machine: the least time that a job of the instance needs on the machines after it
abbrev pub tail : Shop → ℕ → ℕ
tail shop machine = least (map (λ job. time_between shop job (machine + 1) shop.machines) (numbers 1 shop.jobs))

-- the front of a first list on a machine: when its last job leaves the machine; the head where the list is empty
-- (tied: ends_by_recurrence)
abbrev pub front : Shop → List ℕ → ℕ → ℕ
front shop [] machine = head shop machine
front shop (job ∷ jobs) machine = completion shop (job ∷ jobs) machine

-- the path tail of a list from a machine: the greatest weight of a path over the list from there to the last machine
-- (law: span_is_of_fronts_and_tails of flow_bound)
abbrev pub path_tail : Shop → List ℕ → ℕ → ℕ
path_tail shop jobs machine = greatest (map (weight shop jobs machine) (paths (length jobs) machine shop.machines))

-- the back of a last list on a machine: its path tail from there; the tail of the machine where the list is empty
-- (tied: ends_by_recurrence)
abbrev pub back : Shop → List ℕ → ℕ → ℕ
back shop [] machine = tail shop machine
back shop (job ∷ jobs) machine = path_tail shop (job ∷ jobs) machine

-- the work of a machine: the time on it of the jobs that are not in a list
abbrev pub work : Shop → List ℕ → ℕ → ℕ
work shop list machine = sum_by (λ job. time shop job machine) (jobs_left shop.jobs list)

-- the bound of a node on a machine: the front of its first list there, plus the time there of the jobs in neither list,
-- plus the back of its last list there
-- (law: end_bound_is_admissible, end_bound_is_exact)
abbrev pub end_bound_at : Shop → List ℕ → List ℕ → ℕ → ℕ
end_bound_at shop first last machine =
    front shop first machine + work shop (first ++ last) machine + back shop last machine

-- the bound of a node: the greatest of its bounds on the machines (law: end_bound_is_admissible, end_bound_is_exact)
unfoldable pub end_bound : Shop → List ℕ → List ℕ → ℕ
end_bound shop first last = greatest (map (end_bound_at shop first last) (numbers 1 shop.machines))

-- the front once a job is put behind a first list, machine by machine from the first on (law: ends_by_recurrence)
abbrev pub FrontByRecurrence : Type 0
FrontByRecurrence =
    (shop : Shop) (first : List ℕ) (job machine : ℕ) → All (λ job. (1 ≤ job) × (job ≤ shop.jobs)) first →
    1 ≤ job → job ≤ shop.jobs →
    (front shop (first ++ job ∷ []) 0 ≡ 0)
    × (front shop (first ++ job ∷ []) (machine + 1)
    ≡ max (front shop first (machine + 1)) (front shop (first ++ job ∷ []) machine) + time shop job (machine + 1))

-- the back once a job is put before a last list, machine by machine from the last down (law: ends_by_recurrence)
abbrev pub BackByRecurrence : Type 0
BackByRecurrence =
    (shop : Shop) (last : List ℕ) (job machine : ℕ) → 1 ≤ job → job ≤ shop.jobs → machine ≤ shop.machines →
    (back shop (job ∷ last) (shop.machines + 1) ≡ 0)
    × (back shop (job ∷ last) machine
    ≡ max (back shop (job ∷ last) (machine + 1)) (back shop last machine) + time shop job machine)

-- no sequence of a node is below the node's bound (law: end_bound_is_admissible)
abbrev pub EndBoundIsAdmissible : Type 0
EndBoundIsAdmissible =
    (shop : Shop) (first between last : List ℕ) → IsSequence shop.jobs (first ++ between ++ last) →
    end_bound shop first last ≤ span shop (first ++ between ++ last)

-- where no job is left, the bound of a node is the makespan of its one sequence (law: end_bound_is_exact)
abbrev pub EndBoundIsExact : Type 0
EndBoundIsExact =
    (shop : Shop) (first last : List ℕ) → IsSequence shop.jobs (first ++ last) →
    end_bound shop first last ≡ span shop (first ++ last)
