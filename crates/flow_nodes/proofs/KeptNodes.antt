-- What is kept of a node, and of its children.
use Rattle.std.proofs.Common.{◌≡◌, ℕ, suc, ◌+◌, ◌-◌, ◌*◌, ◌≤◌, false, not, List, [], ◌∷◌, ◌++◌, length, map}
use Rattle.std.proofs.Common.{slice_index, ap, sym, ◌∙◌, subst, arith, length-append, All}
use Rattle.std.proofs.lemmas.List.Elements.{recursion_from_All, All-from_recursion, All-nil}
use Rattle.flow_limits.specs.Limits.{most_jobs, greatest_time, greatest_completion}
use Rattle.flow_shop.specs.Shop.{Shop, IsWithinLimits, numbers, time, AreOf}
use Rattle.flow_shop.specs.Least.{greatest}
use Rattle.flow_shop.specs.Sequences.{has}
use Rattle.flow_shop.specs.Front.{IsWithinFront}
use Rattle.flow_shop.proofs.Recurrence.{after, after-same}
use Rattle.flow_shop.proofs.JobsLeft.{kept-small, none-has, range-push}
use Rattle.flow_shop.proofs.Fronts.{free_at, time-small}
use Rattle.flow_shop.specs.declared.end.End.{End}
use Rattle.flow_shop.specs.declared.end.End.TheVariants.{Front, Back}
use Rattle.flow_nodes.specs.declared.node.Node.{Node}
use Rattle.flow_shop.specs.Ends.{head, tail, front, back, end_bound_at, end_bound}
use Rattle.flow_shop.specs.Directions.{first_with, last_with}
use Rattle.flow_nodes.specs.Nodes.{IsJob, IsNode, work}
use Rattle.flow_shop.proofs.EndSteps.{front-after, sum-child, count-child}
use Rattle.flow_nodes.proofs.NodeSteps.{front-small, back-small}

pub end-bound-is : (shop : Shop) (first last : List ℕ) (n : ℕ) → n ≡ shop.machines →
    greatest (map (end_bound_at shop first last) (numbers 1 n)) ≡ end_bound shop first last
unfolding end_bound
end-bound-is shop first last n e = ap (λ n. greatest (map (end_bound_at shop first last) (numbers 1 n))) e

-- the numbers of a node fit
pub record Fits (node : Node) (k : ℕ) : Type 0 where
  pub front : slice_index node.front (k - 1) ≤ greatest_completion
  pub back : slice_index node.back (k - 1) ≤ greatest_completion
  pub work : slice_index node.work (k - 1) ≤ most_jobs * greatest_time

pub node-small : (shop : Shop) (first last : List ℕ) (node : Node) (k : ℕ) → IsNode shop first last node → 1 ≤ k →
    k ≤ shop.machines → Fits node k
node-small shop first last node k is low high =
    let jobs : shop.jobs ≤ most_jobs = is.limits.jobs in
    record {
      front = omega (arith, is.fronts k low high, front-small shop first k is.limits (omega (arith, is.count)) high);
      back = omega (
        arith,
        is.backs k low high,
        back-small shop last k is.limits (omega (arith, is.count))
            (recursion_from_All (λ job. (1 ≤ job) × (job ≤ shop.jobs)) last is.last_jobs) low high,
      );
      work = omega (
        arith,
        is.works k low high,
        kept-small (λ job. time shop job k) (λ job. not (has (first ++ last) job)) greatest_time shop.jobs
            (λ job. time-small shop job k is.limits),
      );
    }

pub fronts-within : (shop : Shop) (first last : List ℕ) (node : Node) → IsNode shop first last node →
    IsWithinFront shop node.front
fronts-within shop first last node is place below =
    subst (λ i. slice_index node.front i ≤ greatest_completion) (same place)
    (node-small shop first last node (place + 1) is (omega arith) (omega arith)).front
  where
    same : (i : ℕ) → i + 1 - 1 ≡ i
    same i = omega arith

pub backs-within : (shop : Shop) (first last : List ℕ) (node : Node) → IsNode shop first last node →
    IsWithinFront shop node.back
backs-within shop first last node is place below =
    subst (λ i. slice_index node.back i ≤ greatest_completion) (same place)
    (node-small shop first last node (place + 1) is (omega arith) (omega arith)).back
  where
    same : (i : ℕ) → i + 1 - 1 ≡ i
    same i = omega arith

-- the time of a job left is no more than that of all
pub work-covers : (shop : Shop) (first last : List ℕ) (node : Node) (job k : ℕ) → IsNode shop first last node →
    IsJob shop job → has (first ++ last) job ≡ false → 1 ≤ k → k ≤ shop.machines →
    time shop job k ≤ slice_index node.work (k - 1)
work-covers shop first last node job k is range fresh low high =
    omega (
      arith,
      is.works k low high,
      sum-child (λ job. time shop job k) shop.jobs Front first last job range.0 range.1 fresh,
    )

-- fronts that have the recurrence's values are those of the longer list
pub fronts-put : (shop : Shop) (first old new : List ℕ) (job : ℕ) →
    All (λ job. (1 ≤ job) × (job ≤ shop.jobs)) first → IsJob shop job → AreOf shop (front shop first) old →
    ((k : ℕ) → 1 ≤ k → k ≤ shop.machines → free_at new k ≡ after shop (free_at old) job k) →
    AreOf shop (front shop (first ++ job ∷ [])) new
fronts-put shop first old new job all range are values k low high =
    values k low high
    ∙ after-same shop job (free_at old) (front shop first) k (λ i a b. are i a (omega arith))
    ∙ sym (front-after shop first job k
    (recursion_from_All (λ job. (1 ≤ job) × (job ≤ shop.jobs)) first all) range.0 range.1)

module _ (shop : Shop) (job : ℕ) (range : IsJob shop job) where
  pub first-all : (end : End) (first : List ℕ) → All (λ job. (1 ≤ job) × (job ≤ shop.jobs)) first →
      All (λ job. (1 ≤ job) × (job ≤ shop.jobs)) (first_with end first job)
  first-all Front first all =
      All-from_recursion (λ job. (1 ≤ job) × (job ≤ shop.jobs)) (first ++ job ∷ [])
      (range-push shop.jobs first job (recursion_from_All (λ job. (1 ≤ job) × (job ≤ shop.jobs)) first all)
      range.0 range.1)
  first-all Back first all = all

  last-all : (end : End) (last : List ℕ) → All (λ job. (1 ≤ job) × (job ≤ shop.jobs)) last →
      All (λ job. (1 ≤ job) × (job ≤ shop.jobs)) (last_with end last job)
  last-all Front last all = all
  last-all Back last all =
      All-from_recursion (λ job. (1 ≤ job) × (job ≤ shop.jobs)) (job ∷ last)
      (range, recursion_from_All (λ job. (1 ≤ job) × (job ≤ shop.jobs)) last all)

-- a child has one job more
pub lengths : (end : End) (first last : List ℕ) (job : ℕ) →
    length (first_with end first job) + length (last_with end last job) ≡ suc (length first + length last)
lengths Front first last job = omega (arith, length-append first (job ∷ []))
lengths Back first last job = omega arith

-- a child
pub child-node : (shop : Shop) (end : End) (first last : List ℕ) (job : ℕ) (node child : Node) →
    IsNode shop first last node → IsJob shop job → has (first ++ last) job ≡ false →
    AreOf shop (front shop (first_with end first job)) child.front →
    AreOf shop (back shop (last_with end last job)) child.back →
    ((k : ℕ) → 1 ≤ k → k ≤ shop.machines →
    slice_index child.work (k - 1) + time shop job k ≡ slice_index node.work (k - 1)) →
    IsNode shop (first_with end first job) (last_with end last job) child
child-node shop end first last job node child is range fresh fronts backs less = record {
  limits = is.limits;
  fronts = fronts;
  backs = backs;
  works = λ k low high. omega (
    arith,
    less k low high,
    is.works k low high,
    sum-child (λ job. time shop job k) shop.jobs end first last job range.0 range.1 fresh,
  );
  first_jobs = first-all shop job range end first is.first_jobs;
  last_jobs = last-all shop job range end last is.last_jobs;
  count = omega (
    arith,
    is.count,
    lengths end first last job,
    count-child shop.jobs end first last job range.0 range.1 fresh,
  );
}

-- two empty lists
pub root-node : (shop : Shop) (node : Node) → IsWithinLimits shop → AreOf shop (head shop) node.front →
    AreOf shop (tail shop) node.back → AreOf shop (work shop []) node.work → IsNode shop [] [] node
root-node shop node limits fronts backs works = record {
  limits = limits;
  fronts = fronts;
  backs = backs;
  works = works;
  first_jobs = All-nil (λ job. (1 ≤ job) × (job ≤ shop.jobs));
  last_jobs = All-nil (λ job. (1 ≤ job) × (job ≤ shop.jobs));
  count = omega (arith, none-has shop.jobs);
}
