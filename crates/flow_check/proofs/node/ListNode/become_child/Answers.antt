use Rattle.std.proofs.Common.{◌≡◌, ℕ, ◌+◌, ◌-◌, ◌<◌, ◌≤◌, max, slice_index, refl, ap, sym, ◌∙◌, inl, inr, arith}
use Rattle.std.proofs.lemmas.Bool.Decides.{eqb_tells}
use Rattle.std.proofs.lemmas.List.{length-set}
use Rattle.flow_shop.specs.Limits.{most_machines, greatest_completion}
use Rattle.flow_shop.specs.Shop.{time}
use Rattle.flow_shop.proofs.Lists.{filled-more}
use Rattle.flow_shop.proofs.Recurrence.{after}
use Rattle.flow_shop.proofs.Fronts.{free_at, after-step, child-completion, time-small}
use Rattle.flow_check.proofs.NodeSteps.{node-within, work-covers, child-node}
use Rattle.flow_check.proofs.node.ListNode.become_child.Goals as goal
use Rattle.flow_check.proofs.node.ListNode.become_child.Goals.{After-max}

pub loop-machine-init : goal.loop-machine-init
loop-machine-init c = record {
  front_size = omega arith;
  work_size = omega arith;
  least_size = λ more. absurd (omega (arith, more));
  second_size = λ more. absurd (omega (arith, more));
  free = refl;
  small = omega arith;
  front = λ machine low high. absurd (omega (arith, low, high));
  work = λ machine low high. absurd (omega (arith, low, high));
  least = λ machine low high. absurd (omega (arith, low, high));
}

-- the machine is one of the instance's, the job's time there is known, and the list owes it
here : (c : After-max) → c.loop-machine.machine < c.machines-machines.result + 1 →
    (1 ≤ c.loop-machine.machine) × (c.loop-machine.machine ≤ c.args.text.now.shop.now.machines)
    × (c.from-time.result ≡ time c.args.text.now.shop.now c.args.job c.loop-machine.machine)
    × (c.from-time.result ≤ slice_index c.args.list.now.work (c.loop-machine.machine - 1))
    × (slice_index c.args.list.now.front (c.loop-machine.machine - 1) ≤ greatest_completion)
here c test =
    let low : 1 ≤ c.loop-machine.machine = c.loop-machine.auto.machine in
    let high : c.loop-machine.machine ≤ c.args.text.now.shop.now.machines =
    omega (arith, test, c.machines-machines.ensures.value) in
    let there : c.from-time.result ≡ time c.args.text.now.shop.now c.args.job c.loop-machine.machine =
    c.from-time.ensures ∙ (c.args.text.now.are_rows.each c.args.job _ c.requires.job.0 c.requires.job.1
    c.loop-machine.machine low
    high).0 in
    let covers = work-covers c.args.text.now.shop.now c.requires.at.0 c.args.list.now c.requires.at.1 c.args.job
    c.loop-machine.machine c.requires.at.2 c.requires.job.0 c.requires.job.1 c.requires.at.3 low high in
    let within = node-within c.args.text.now.shop.now c.requires.at.0 c.args.list.now c.requires.at.1
    c.args.text.now.are_rows.limits c.requires.at.2 (c.loop-machine.machine - 1) (omega (arith, low, high)) in
    (low, high, there, omega (arith, there, covers), within)

pub overflow_add-free : goal.overflow_add-free
overflow_add-free c =
    let is = here (goal.at.overflow_add-free c).After-max c.loop-machine-test.true in
    let most : c.args.text.now.shop.now.machines ≤ most_machines = c.args.text.now.are_rows.limits.machines in
    omega (
      arith,
      is.1,
      is.2,
      is.4,
      most,
      c.max.ensures,
      c.loop-machine.invariant.small,
      time-small
          c.args.text.now.shop.now c.args.job c.loop-machine.machine c.args.text.now.are_rows.limits,
    )

pub overflow_sub-self : goal.overflow_sub-self
overflow_sub-self c = (here (goal.at.overflow_sub-self c).After-max c.loop-machine-test.true).3

pub loop-machine-preserved : goal.loop-machine-preserved
loop-machine-preserved c =
    let is = here (goal.at.loop-machine-preserved c).After-max c.loop-machine-test.true in
    let most : c.args.text.now.shop.now.machines ≤ most_machines = c.args.text.now.are_rows.limits.machines in
    let i = c.loop-machine.invariant in
    let place : ℕ = c.loop-machine.machine - 1 in
    let free : ℕ = c.max.result + c.from-time.result in
    let work : ℕ = slice_index c.args.list.now.work place - c.from-time.result in
    let sum : free ≡ max (slice_index c.args.list.now.front place) c.loop-machine.free + c.from-time.result =
    omega (arith, c.max.ensures) in
    let value = after-step c.args.text.now.shop.now c.args.list.now.front c.args.list.now.front c.args.job
    c.loop-machine.machine c.loop-machine.free c.from-time.result free is.0 i.free refl is.2 sum in
    let next : c.loop-machine.machine + 1 - 1 ≡ c.loop-machine.machine = omega arith in
    record {
      front_size = length-set c.loop-machine.self.front place free ∙ i.front_size;
      work_size = length-set c.loop-machine.self.work place work ∙ i.work_size;
      least_size = λ _. c.forget_tails.ensures.least_size;
      second_size = λ _. c.forget_tails.ensures.second_size;
      free = value ∙ ap (after c.args.text.now.shop.now (free_at c.args.list.now.front) c.args.job) (sym next);
      small = omega (
        arith,
        sum,
        is.0,
        is.2,
        is.4,
        i.small,
        time-small c.args.text.now.shop.now c.args.job
            c.loop-machine.machine c.args.text.now.are_rows.limits,
      );
      front = filled-more (λ k v. v
          ≡ after c.args.text.now.shop.now
          (free_at c.args.list.now.front) c.args.job k) c.loop-machine.self.front c.loop-machine.machine free is.0
          (omega (arith, is.0, is.1, most, i.front_size)) value i.front;
      work = filled-more (λ k v. v + time c.args.text.now.shop.now c.args.job k
          ≡ slice_index c.args.list.now.work (k - 1)) c.loop-machine.self.work c.loop-machine.machine work is.0 (omega
          (arith, is.0, is.1, most, i.work_size)) (omega (arith, is.2, is.3)) i.work;
      least = λ k low high. elim (eqb_tells (k - 1) place) [
        | inl same ↦ ap (slice_index c.forget_tails.new.tails.least) same.1 ∙ c.forget_tails.ensures.none
        | inr other ↦
            c.forget_tails.ensures.others (k - 1) other.1
            ∙ i.least k low (omega (arith, high, low, is.0, other.1))
      ];
    }

pub returns : goal.returns
returns c jobs left is fresh =
    let i = c.loop-machine.invariant in
    let past : (machine : ℕ) → machine ≤ c.args.text.now.shop.now.machines → machine < c.loop-machine.machine =
    λ machine high. omega (arith, high, c.loop-machine-test.false, c.machines-machines.ensures.value) in
    let some : 1 < c.loop-machine.machine =
    omega (arith, past 1 c.args.text.now.are_rows.limits.some_machine) in
    child-node c.args.text.now.shop.now jobs c.args.list.now c.loop-machine.self left c.args.job
    c.args.text.now.are_rows.limits is c.requires.job.0 c.requires.job.1 fresh
    (λ machine low high. i.front machine low (past machine high)
    ∙ child-completion c.args.text.now.shop.now jobs c.args.list.now.front c.args.job machine high is.times)
    i.work_size (λ machine low high. i.work machine low (past machine high)) (λ machine low high. i.least machine low
    (past machine high)) (i.least_size some) (i.second_size some)
