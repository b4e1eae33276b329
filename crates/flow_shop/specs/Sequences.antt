-- Lists of jobs, and the prefixes that sequences extend.
use Rattle.std.specs.Prelude.{ℕ, zero, suc, ◌≡◌, ◌++◌, not, List, [], ◌∷◌, filter}
use Rattle.std.specs.List.{flat_map}
use Rattle.flow_shop.specs.LeastMakespan.{numbers}
pub use Rattle.flow_shop.specs.LeastMakespan.{has, AreDistinct, AreJobs, IsSequence, IsLowerBound, IsLeastMakespan}

-- the jobs from 1 to n that a list does not have, in increasing order
abbrev pub jobs_left : ℕ → List ℕ → List ℕ
jobs_left n scheduled = filter (λ job. not (has scheduled job)) (numbers 1 n)

-- a list begins with another
abbrev pub Extends : List ℕ → List ℕ → Type 0
Extends jobs prefix = (rest : List ℕ) × (jobs ≡ prefix ++ rest)

-- the lists that begin with a list and have so many more jobs, none twice, in lexicographic order
abbrev pub extensions : ℕ → ℕ → List ℕ → List (List ℕ)
extensions n zero jobs = jobs ∷ []
extensions n (suc more) jobs = flat_map (λ job. extensions n more (jobs ++ job ∷ [])) (jobs_left n jobs)

-- the cut at a depth: all lists of so many distinct jobs from 1 to n, in lexicographic order
-- (law: cut_lists_have_depth of flow_search, cut_is_whole of flow_search, cut_is_ordered of flow_search, cut_parts of
-- flow_search)
abbrev pub cut : ℕ → ℕ → List (List ℕ)
cut n depth = extensions n depth []
