-- The lists of a node, and of its children.
use Rattle.std.proofs.Common.{◌≡◌, ℕ, zero, suc, ◌+◌, ◌-◌, ◌≤◌, Bool, true, false, cond, not, List, []}
use Rattle.std.proofs.Common.{◌∷◌, ◌++◌, length, sym, subst, arith, append_assoc}
use Rattle.std.specs.List.{AllByRecursion}
use Rattle.std.proofs.lemmas.List.Elements.{recursion_from_All}
use Rattle.flow_shop.specs.Sequences.{has, jobs_left, AreJobs, IsSequence}
use Rattle.flow_shop.specs.declared.end.End.{End}
use Rattle.flow_shop.specs.declared.end.End.TheVariants.{Front, Back}
use Rattle.flow_shop.specs.Directions.{first_with, last_with}
use Rattle.flow_shop.proofs.JobsLeft.{kept, kept-more, kept-has, sum_by-ones, each-left}
use Rattle.flow_shop.proofs.EndSteps.{count-child}
use Rattle.flow_shop.proofs.JobLists.{jobs-insert}

-- the lists of a child have distinct jobs
pub child-jobs : (n : ℕ) (end : End) (first last : List ℕ) (job : ℕ) → AreJobs n (first ++ last) → 1 ≤ job → job ≤ n →
    has (first ++ last) job ≡ false → AreJobs n (first_with end first job ++ last_with end last job)
child-jobs n Front first last job are low high fresh =
    subst (AreJobs n) (sym (append_assoc first (job ∷ []) last)) (jobs-insert n first last job are low high fresh)
child-jobs n Back first last job are low high fresh = jobs-insert n first last job are low high fresh

-- those that a list has and those that it leaves are all
both-kept : (p : ℕ → Bool) (n : ℕ) → kept (λ _. 1) (λ k. not (p k)) n + kept (λ _. 1) p n ≡ n
both-kept p zero = omega arith
both-kept p (suc n) =
    omega (
      arith,
      kept-more (λ _. 1) (λ k. not (p k)) n,
      kept-more (λ _. 1) p n,
      both-kept p n,
      one (p (suc n)),
    )
  where
    one : (b : Bool) → cond {A = ℕ} (not b) 1 0 + cond {A = ℕ} b 1 0 ≡ 1
    one true = omega arith
    one false = omega arith

pub left-length : (n : ℕ) (list : List ℕ) → AreJobs n list → length (jobs_left n list) + length list ≡ n
left-length n list are =
    omega (
      arith,
      sum_by-ones (jobs_left n list),
      sum_by-ones list,
      kept-has (λ _. 1) n list (recursion_from_All (λ job. (1 ≤ job) × (job ≤ n)) list are.range) are.distinct,
      both-kept (has list) n,
    )

-- where no job is left, the lists are a sequence
pub whole-node : (n : ℕ) (list : List ℕ) → AreJobs n list → length (jobs_left n list) ≡ 0 → IsSequence n list
whole-node n list are none = record { whole = omega (arith, left-length n list are, none); each = are }

-- the child of a node that puts a job at an end: its lists have distinct jobs, and leave so many
abbrev pub IsChild : ℕ → End → List ℕ → List ℕ → ℕ → ℕ → Type 0
IsChild n end first last left job =
    AreJobs n (first_with end first job ++ last_with end last job)
    × (length (jobs_left n (first_with end first job ++ last_with end last job)) ≡ left)

pub each-child : (n : ℕ) (end : End) (first last : List ℕ) (left : ℕ) → AreJobs n (first ++ last) →
    length (jobs_left n (first ++ last)) ≡ suc left →
    AllByRecursion (IsChild n end first last left) (jobs_left n (first ++ last))
each-child n end first last left are some =
    each-left (IsChild n end first last left) (first ++ last) 1 (n + 1 - 1) (λ job from to fresh.
    let high : job ≤ n = omega (arith, to) in (
      child-jobs n end first last job are from high fresh,
      omega (arith, some, count-child n end first last job from high fresh),
    ))
