-- The least makespan of an instance of the permutation flow shop: all that has to be believed for the theorem of the
-- checker, clause `least` of `check_text`: where the bounds that it returns are one number, that is the least makespan.
use Rattle.std.specs.Prelude.{ℕ, zero, suc, ◌≡◌, ◌+◌, ◌-◌, ◌*◌, ◌≤◌, Bool, false, List, [], ◌∷◌, All, cond, nat_eq, max}
use Rattle.std.specs.Prelude.{length, map, slice_index, sum_by}
use Rattle.std.specs.List.{flat_map, list_any, range_with_len}

-- an instance: how many jobs and machines it has, and its times, machine by machine and for each machine job by job
pub record Shop : Type 0 where
  pub jobs : ℕ
  pub machines : ℕ
  pub times : List ℕ

-- the numbers from first to last; none where first is above last
abbrev pub numbers : ℕ → ℕ → List ℕ
numbers first last = range_with_len first (last + 1 - first)

-- the time of a job on a machine, both counted from 1
abbrev pub time : Shop → ℕ → ℕ → ℕ
time shop job machine = slice_index shop.times ((machine - 1) * shop.jobs + (job - 1))

-- the time of a job on the machines from first to last
abbrev pub time_between : Shop → ℕ → ℕ → ℕ → ℕ
time_between shop job first last = sum_by (time shop job) (numbers first last)

-- the weight of a path, which gives each job's last machine: the times of each job from its predecessor's to its own
abbrev pub weight : Shop → List ℕ → ℕ → List ℕ → ℕ
weight shop [] first path = 0
weight shop (job ∷ jobs) first [] = 0
weight shop (job ∷ jobs) first (last ∷ path) = time_between shop job first last + weight shop jobs last path

-- all paths of so many jobs from one machine to another (tied: completion_is_greatest, completion_by_recurrence)
abbrev pub paths : ℕ → ℕ → ℕ → List (List ℕ)
paths zero first last = cond (nat_eq first last) ([] ∷ []) []
paths (suc jobs) first last = flat_map (λ next. map (λ path. next ∷ path) (paths jobs next last)) (numbers first last)

-- the greatest number of a list; 0 for the empty one
abbrev pub greatest : List ℕ → ℕ
greatest [] = 0
greatest (x ∷ xs) = max x (greatest xs)

-- when the last job of a list leaves a machine (tied: completion_is_greatest, completion_by_recurrence)
unfoldable pub completion : Shop → List ℕ → ℕ → ℕ
completion shop jobs machine = greatest (map (weight shop jobs 1) (paths (length jobs) 1 machine))

-- the makespan of a list of jobs: when the last one leaves the last machine
abbrev pub span : Shop → List ℕ → ℕ
span shop jobs = completion shop jobs shop.machines

-- whether a list has a job
abbrev pub has : List ℕ → ℕ → Bool
has jobs job = list_any (nat_eq job) jobs

-- no job stands in the list twice
abbrev pub AreDistinct : List ℕ → Type 0
AreDistinct [] = Unit {0}
AreDistinct (job ∷ jobs) = (has jobs job ≡ false) × AreDistinct jobs

-- distinct jobs from 1 to n
pub record AreJobs (n : ℕ) (jobs : List ℕ) : Type 0 where
  pub range : All (λ job. (1 ≤ job) × (job ≤ n)) jobs
  pub distinct : AreDistinct jobs

-- a sequence: the jobs from 1 to n, each once
pub record IsSequence (n : ℕ) (jobs : List ℕ) : Type 0 where
  pub whole : length jobs ≡ n
  pub each : AreJobs n jobs

-- no sequence of an instance has a makespan below a threshold
abbrev pub IsLowerBound : Shop → ℕ → Type 0
IsLowerBound shop value = (jobs : List ℕ) → IsSequence shop.jobs jobs → value ≤ span shop jobs

-- the least makespan of an instance: some sequence has it, and none has a smaller one (law: least_makespan_is_one)
pub record IsLeastMakespan (shop : Shop) (value : ℕ) : Type 0 where
  pub attained : (jobs : List ℕ) × IsSequence shop.jobs jobs × (span shop jobs ≡ value)
  pub least : IsLowerBound shop value
