use Rattle.std.proofs.Common.{◌≡◌, ℕ, suc, ◌+◌, ◌-◌, ◌*◌, ◌≤◌, List, [], Some, slice_index, ap, sym, subst, ◌∙◌, arith}
use Rattle.flow_shop.specs.Limits.{most_jobs, most_machines, greatest_time, greatest_completion}
use Rattle.flow_shop.specs.Shop.{time}
use Rattle.flow_shop.specs.Bound.{bound_at}
use Rattle.flow_check.specs.internal.Nodes.{IsAt, IsChild, grown, left_before}
use Rattle.flow_check.proofs.NodeSteps.{node-within, work-fits, work-covers, own-bound, child-bound}
use Rattle.flow_check.proofs.node.bound.Goals as goal
use Rattle.flow_check.proofs.node.bound.Goals.{After-tails_of-two, After-from, After-from-in-Some}
use Rattle.flow_check.proofs.node.bound.Goals.{After-from-in-Some-2}

pub tails_of-two-requires-clause-at : goal.tails_of-two-requires-clause-at
tails_of-two-requires-clause-at c = (c.requires.at.0, left_before c.args.child (suc c.requires.at.1), c.requires.at.2)

-- the list's time and the sum of the times of the jobs left fit
fits : (c : After-tails_of-two) →
    (slice_index c.tails_of-two.new.node.front (c.args.machine - 1) ≤ greatest_completion)
    × (slice_index c.tails_of-two.new.node.work (c.args.machine - 1) ≤ most_jobs * greatest_time)
fits c =
    let list : List ℕ = c.requires.at.0 in
    let left : ℕ = left_before c.args.child (suc c.requires.at.1) in
    let here = (c.tails_of-two.ensures.kept list left c.requires.at.2).is_node in (
      node-within c.args.text.now.shop.now list c.tails_of-two.new.node left c.args.text.now.are_rows.limits here
          (c.args.machine - 1) (omega (arith, c.requires.machine.0, c.requires.machine.1)),
      work-fits c.args.text.now.shop.now list c.tails_of-two.new.node left c.args.machine
          c.args.text.now.are_rows.limits
          here c.requires.machine.0 c.requires.machine.1,
    )

-- the bound of the list itself
own : (c : After-from) (list : List ℕ) (left : ℕ) →
    IsAt c.args.text.now.shop.now list c.args.node.now c.args.links.now (left_before c.args.child (suc left)) →
    (slice_index c.tails_of-two.new.node.front (c.args.machine - 1)
    + slice_index c.tails_of-two.new.node.work (c.args.machine - 1) + c.from.result
    ≡ bound_at c.args.text.now.shop.now (grown list c.args.child) c.args.machine)
    × (c.from.result ≤ most_machines * greatest_time)
own c list left at =
    let was : IsAt c.args.text.now.shop.now list c.args.node.now c.args.links.now (suc left) =
    subst (λ o. IsAt c.args.text.now.shop.now list c.args.node.now c.args.links.now (left_before o
    (suc left))) c.in-None.is at in
    let is = own-bound c.args.text.now.shop.now list c.tails_of-two.new.node left c.args.machine
    c.tails_of-two.result c.args.text.now.are_rows.limits
    (c.tails_of-two.ensures.kept list (suc left) was).is_node c.requires.machine.0 c.requires.machine.1
    (c.tails_of-two.ensures.tails list (suc left) was) in
    let whole : bound_at c.args.text.now.shop.now (grown list c.args.child) c.args.machine
    ≡ bound_at c.args.text.now.shop.now list c.args.machine =
    ap (λ o. bound_at c.args.text.now.shop.now (grown list o) c.args.machine) c.in-None.is in
    (omega (arith, c.from.ensures, is.0, whole), omega (arith, c.from.ensures, is.1))

-- the child's job is left, and its time is taken
taken : (c : After-from-in-Some) (list : List ℕ) → IsChild c.args.text.now.shop.now.jobs list c.args.child →
    IsChild c.args.text.now.shop.now.jobs list (Some c.in-Some.job)
    × (c.from-in-Some.result ≡ time c.args.text.now.shop.now c.in-Some.job c.args.machine)
taken c list kid =
    let is : IsChild c.args.text.now.shop.now.jobs list (Some c.in-Some.job) =
    subst (IsChild c.args.text.now.shop.now.jobs list) c.in-Some.is kid in (
      is,
      c.from-in-Some.ensures
          ∙ (c.args.text.now.are_rows.each c.in-Some.job (record {
            times = [];
            tails =
                [];
          }) is.0 is.1 c.args.machine c.requires.machine.0 c.requires.machine.1).0,
    )

-- the bound of the list's child
child : (c : After-from-in-Some-2) (list : List ℕ) (left : ℕ) →
    IsAt c.args.text.now.shop.now list c.args.node.now c.args.links.now (left_before c.args.child (suc left)) →
    IsChild c.args.text.now.shop.now.jobs list (Some c.in-Some.job)
    × (c.from-in-Some.result ≡ time c.args.text.now.shop.now c.in-Some.job c.args.machine) →
    (c.completion_of.result + (slice_index c.tails_of-two.new.node.work (c.args.machine - 1) - c.from-in-Some.result)
    + c.from-in-Some-2.result ≡ bound_at c.args.text.now.shop.now (grown list c.args.child) c.args.machine)
    × (c.from-in-Some-2.result ≤ most_machines * greatest_time)
child c list left at (kid, there) =
    let was : IsAt c.args.text.now.shop.now list c.args.node.now c.args.links.now (suc (suc left)) =
    subst (λ o. IsAt c.args.text.now.shop.now list c.args.node.now c.args.links.now (left_before o
    (suc left))) c.in-Some.is at in
    let here = (c.tails_of-two.ensures.kept list (suc (suc left)) was).is_node in
    let row = c.args.text.now.are_rows.each c.in-Some.job (record {
      times = [];
      tails =
          [];
    }) kid.0 kid.1 c.args.machine c.requires.machine.0 c.requires.machine.1 in
    let is = child-bound c.args.text.now.shop.now list c.tails_of-two.new.node left c.in-Some.job c.args.machine
    c.completion_of.result c.from-in-Some.result _ c.from-in-Some-2.result c.tails_of-two.result
    c.args.text.now.are_rows.limits here
    c.requires.machine.0 c.requires.machine.1 kid.0 kid.1 kid.2 (c.tails_of-two.ensures.tails list (suc (suc left)) was)
    (c.completion_of.ensures.value list here.times) there row.1 (
      λ e. c.from-in-Some-2.ensures ∙ c.without-tail.ensures.0 e,
      λ n. c.from-in-Some-2.ensures ∙ c.without-tail.ensures.1 n,
    ) in
    (is.0 ∙ ap (λ o. bound_at c.args.text.now.shop.now (grown list o) c.args.machine) (sym c.in-Some.is), is.1)

pub overflow_add-result : goal.overflow_add-result
overflow_add-result c =
    let small = fits (goal.at.overflow_add-result c).After-tails_of-two in
    omega (arith, small.0, small.1)

pub overflow_add-result-in-None : goal.overflow_add-result-in-None
overflow_add-result-in-None c =
    let small = fits (goal.at.overflow_add-result-in-None c).After-tails_of-two in
    omega (arith, small.0, small.1, (own c c.requires.at.0 c.requires.at.1 c.requires.at.2).1)

pub overflow_sub-work : goal.overflow_sub-work
overflow_sub-work c =
    let list : List ℕ = c.requires.at.0 in
    let left : ℕ = left_before c.args.child (suc c.requires.at.1) in
    let here = (c.tails_of-two.ensures.kept list left c.requires.at.2).is_node in
    let (kid, there) = taken c list c.requires.at.3 in
    omega (
      arith,
      there,
      work-covers c.args.text.now.shop.now list c.tails_of-two.new.node left c.in-Some.job
          c.args.machine here kid.0 kid.1 kid.2 c.requires.machine.0 c.requires.machine.1,
    )

pub completion_of-requires-clause-within : goal.completion_of-requires-clause-within
completion_of-requires-clause-within c =
    node-within c.args.text.now.shop.now c.requires.at.0 c.tails_of-two.new.node (left_before c.args.child
    (suc c.requires.at.1)) c.args.text.now.are_rows.limits (c.tails_of-two.ensures.kept c.requires.at.0
    (left_before c.args.child
    (suc c.requires.at.1)) c.requires.at.2).is_node

pub overflow_add-result-in-Some : goal.overflow_add-result-in-Some
overflow_add-result-in-Some c =
    let most : c.args.text.now.shop.now.machines ≤ most_machines = c.args.text.now.are_rows.limits.machines in
    omega (
      arith,
      (fits (goal.at.overflow_add-result-in-Some c).After-tails_of-two).1,
      c.completion_of.ensures.small,
      most,
      c.requires.machine.1,
    )

pub overflow_add-result-in-Some-2 : goal.overflow_add-result-in-Some-2
overflow_add-result-in-Some-2 c =
    let list : List ℕ = c.requires.at.0 in
    let most : c.args.text.now.shop.now.machines ≤ most_machines = c.args.text.now.are_rows.limits.machines in
    let is = child c list c.requires.at.1 c.requires.at.2 (taken
    (goal.at.overflow_add-result-in-Some-2 c).After-from-in-Some list c.requires.at.3) in
    omega (
      arith,
      (fits (goal.at.overflow_add-result-in-Some-2 c).After-tails_of-two).1,
      c.completion_of.ensures.small,
      most,
      c.requires.machine.1,
      is.1,
    )

pub returns-in-None-clause-value : goal.returns-in-None-clause-value
returns-in-None-clause-value c list left at kid = (own c list left at).0

pub returns-in-Some-clause-value : goal.returns-in-Some-clause-value
returns-in-Some-clause-value c list left at kid =
    (child c list left at (taken (goal.at.returns-in-Some-clause-value c).After-from-in-Some list kid)).0
