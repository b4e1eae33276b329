-- Laws of a cut: which lists it has, in which order, and that each sequence extends exactly one of them.
use Rattle.std.specs.Prelude.{ℕ, ◌≡◌, ◌<◌, ◌≤◌, true, List, [], length, slice_index_or, All, AllPairs, Contains}
use Rattle.flow_shop.specs.Sequences.{AreJobs, IsSequence, Extends, cut}
use Rattle.flow_search.specs.Search.{comes_before}

-- each list of a cut has distinct jobs of the instance, and the depth of the cut is how many
-- (law: cut_lists_have_depth)
abbrev pub CutHasDepth : Type 0
CutHasDepth = (n depth : ℕ) → All (λ jobs. (length jobs ≡ depth) × AreJobs n jobs) (cut n depth)

-- a cut has every list of distinct jobs of the instance whose length is its depth (law: cut_is_whole)
abbrev pub CutIsWhole : Type 0
CutIsWhole = (n depth : ℕ) (jobs : List ℕ) → length jobs ≡ depth → AreJobs n jobs → Contains (cut n depth) jobs

-- a cut is in lexicographic order, each list once (law: cut_is_ordered)
abbrev pub CutIsOrdered : Type 0
CutIsOrdered = (n depth : ℕ) → AllPairs (λ one other. comes_before one other ≡ true) (cut n depth)

-- a list of jobs extends exactly one list of a cut: that of one number (law: cut_parts)
pub record ExtendsOne (n depth : ℕ) (jobs : List ℕ) : Type 0 where
  pub number : ℕ
  pub low : number < length (cut n depth)
  pub extends : Extends jobs (slice_index_or (cut n depth) number [])
  pub only :
      (other : ℕ) → other < length (cut n depth) → Extends jobs (slice_index_or (cut n depth) other []) → other ≡ number

-- each sequence extends exactly one list of a cut (law: cut_parts)
abbrev pub CutParts : Type 0
CutParts = (n depth : ℕ) (jobs : List ℕ) → depth ≤ n → IsSequence n jobs → ExtendsOne n depth jobs
