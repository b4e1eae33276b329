-- The bounds of nodes are small.
use Rattle.std.proofs.Common.{◌≡◌, ℕ, ◌+◌, ◌-◌, ◌<◌, ◌≤◌, List, ◌++◌, length, not, false}
use Rattle.std.proofs.Common.{arith}
use Rattle.std.proofs.lemmas.List.Elements.{recursion_from_All}
use Rattle.flow_shop.specs.Limits.{most_jobs, greatest_time}
use Rattle.flow_shop.specs.Shop.{Shop, IsWithinLimits, time}
use Rattle.flow_shop.specs.Sequences.{has}
use Rattle.flow_shop.specs.Ends.{end_bound, end_bound_at}
use Rattle.flow_shop.specs.Directions.{first_with, last_with}
use Rattle.flow_shop.specs.declared.end.End.{End}
use Rattle.flow_shop.specs.declared.end.End.TheVariants.{Front, Back}
use Rattle.flow_shop.proofs.Extremes.{greatest-range-le}
use Rattle.flow_shop.proofs.JobsLeft.{InRange, kept-small}
use Rattle.flow_shop.proofs.Fronts.{time-small}
use Rattle.flow_shop.proofs.EndSteps.{count-child}
use Rattle.flow_nodes.specs.Nodes.{IsJob, IsNode}
use Rattle.flow_nodes.specs.Groups.{child_bound}
use Rattle.flow_nodes.specs.declared.node.Node.{Node}
use Rattle.flow_nodes.proofs.NodeSteps.{front-small, back-small}
use Rattle.flow_nodes.proofs.KeptNodes.{lengths}

pub end-bound-small : (shop : Shop) (first last : List ℕ) → IsWithinLimits shop → length first ≤ shop.jobs →
    length last ≤ shop.jobs → InRange shop.jobs last → end_bound shop first last < 4294967295
unfolding end_bound
end-bound-small shop first last limits first-short last-short range =
    let jobs : shop.jobs ≤ most_jobs = limits.jobs in
    omega (
      arith,
      greatest-range-le (end_bound_at shop first last) 1 (shop.machines + 1 - 1) 2800000000
          (λ k low high. omega (
            arith,
            jobs,
            front-small shop first k limits first-short (omega (arith, high)),
            back-small shop last k limits last-short range low (omega (arith, high)),
            kept-small (λ job. time shop job k) (λ job. not (has (first ++ last) job)) greatest_time shop.jobs
                (λ job. time-small shop job k limits),
          )),
    )

last-range : (shop : Shop) (end : End) (last : List ℕ) (job : ℕ) → IsJob shop job → InRange shop.jobs last →
    InRange shop.jobs (last_with end last job)
last-range shop Front last job is range = range
last-range shop Back last job is range = (is, range)

-- also those of children
pub child-bound-small : (shop : Shop) (end : End) (first last : List ℕ) (job : ℕ) (node : Node) →
    IsNode shop first last node → IsJob shop job → has (first ++ last) job ≡ false →
    child_bound shop end first last job < 4294967295
child-bound-small shop end first last job node is range fresh =
    let short : length (first_with end first job) + length (last_with end last job) ≤ shop.jobs = omega (
      arith,
      is.count,
      lengths end first last job,
      count-child shop.jobs end first last job range.0 range.1 fresh,
    ) in
    end-bound-small shop (first_with end first job) (last_with end last job) is.limits (omega (arith, short))
    (omega (arith, short))
    (last-range shop end last job range
    (recursion_from_All (λ job. (1 ≤ job) × (job ≤ shop.jobs)) last is.last_jobs))
