use Rattle.std.proofs.Common.{◌≡◌, ℕ, ◌≤◌, ◌<◌, ◌+◌, ◌-◌, slice_index, ap, sym, ◌∙◌, subst, arith}
use Rattle.flow_shop.specs.Shop.{time, AreOf}
use Rattle.flow_shop.specs.Ends.{front, back}
use Rattle.flow_shop.specs.Directions.{first_with, last_with}
use Rattle.flow_nodes.proofs.KeptNodes.{fronts-within, backs-within, work-covers, child-node}
use Rattle.flow_nodes.proofs.NodeSteps.{row-small}
use Rattle.flow_nodes.proofs.ScanSteps.{row-tail-small}
use Rattle.flow_nodes.proofs.node.Node.become_child.Goals as goal
use Rattle.flow_nodes.proofs.node.Node.become_child.Goals.{in-Front, in-Back}

pub front_with-requires-clause-small : goal.front_with-requires-clause-small
front_with-requires-clause-small g c place low =
    fronts-within c.args.instance.now c.requires.at.0 c.requires.at.1 c.args.node.now c.requires.at.3 place
    (omega (arith, low, c.known_or-machines.ensures, c.from.ensures, c.machines.ensures.value))

pub front_with-requires-clause-times : goal.front_with-requires-clause-times
front_with-requires-clause-times g c place low =
    row-small c.args.instance.now c.requires.at.2 c.args.row.now place c.requires.at.3.limits c.requires.at.6
    (omega (arith, low, c.known_or-machines.ensures, c.from.ensures, c.machines.ensures.value))

pub front_with-requires-clause-tails : goal.front_with-requires-clause-tails
front_with-requires-clause-tails g c place low =
    row-tail-small c.args.instance.now c.requires.at.2 c.args.row.now c.requires.at.6 place c.requires.at.3.limits
    (omega (arith, low, c.known_or-machines.ensures, c.from.ensures, c.machines.ensures.value))

pub back_with-requires-clause-small : goal.back_with-requires-clause-small
back_with-requires-clause-small g c place low =
    backs-within c.args.instance.now c.requires.at.0 c.requires.at.1 c.args.node.now c.requires.at.3 place
    (omega (arith, low, c.known_or-machines.ensures, c.from.ensures, c.machines.ensures.value))

pub back_with-requires-clause-times : goal.back_with-requires-clause-times
back_with-requires-clause-times g c place low =
    row-small c.args.instance.now c.requires.at.2 c.args.row.now place c.requires.at.3.limits c.requires.at.6
    (omega (arith, low, c.known_or-machines.ensures, c.from.ensures, c.machines.ensures.value))

pub back_with-requires-clause-tails : goal.back_with-requires-clause-tails
back_with-requires-clause-tails g c place low =
    row-tail-small c.args.instance.now c.requires.at.2 c.args.row.now c.requires.at.6 place c.requires.at.3.limits
    (omega (arith, low, c.known_or-machines.ensures, c.from.ensures, c.machines.ensures.value))

pub work_without-requires-clause-covers : goal.work_without-requires-clause-covers
work_without-requires-clause-covers g c place low =
    let shop = c.args.instance.now in
    let within : place < shop.machines = omega (arith, low, c.known_or-machines.ensures, c.from.ensures, c.machines.ensures.value) in
    let same : place ≡ place + 1 - 1 = omega arith in
    omega (
      arith,
      ap (slice_index c.args.row.now.times) same,
      ap (slice_index c.args.node.now.work) same,
      (c.requires.at.6 (place + 1) (omega arith) (omega (arith, within))).0,
      work-covers shop c.requires.at.0 c.requires.at.1 c.args.node.now c.requires.at.2 (place + 1) c.requires.at.3 c.requires.at.4
          c.requires.at.5 (omega arith) (omega (arith, within)),
    )

pub returns : goal.returns
returns g c first last job is range fresh row =
    child-node c.args.instance.now c.args.end first last job c.args.node.now (record {
      front = c.match-end.self.front;
      back = c.match-end.self.back;
      work = c.work_without.new.fewer;
    }) is range fresh fronts backs works
  where
    few : c.known_or-machines.result ≡ c.args.instance.now.machines
    few = omega (arith, c.known_or-machines.ensures, c.from.ensures, c.machines.ensures.value)

    fronts : AreOf c.args.instance.now (front c.args.instance.now (first_with c.args.end first job))
        c.match-end.self.front
    fronts = elim c.match-end.branch [
      | in-Front w ↦ subst
          (λ end. AreOf c.args.instance.now (front c.args.instance.now (first_with end first job))
          c.match-end.self.front) (sym w.in-Front.is)
          (λ k low high. ap (λ n. slice_index n.front (k - 1)) w.self-is
          ∙ w.front_with.ensures c.args.instance.now first job few is.first_jobs range is.fronts row k low high)
      | in-Back w ↦ subst
          (λ end. AreOf c.args.instance.now (front c.args.instance.now (first_with end first job))
          c.match-end.self.front) (sym w.in-Back.is)
          (λ k low high. ap (λ n. slice_index n.front (k - 1)) w.self-is ∙ is.fronts k low high)
    ]

    backs : AreOf c.args.instance.now (back c.args.instance.now (last_with c.args.end last job))
        c.match-end.self.back
    backs = elim c.match-end.branch [
      | in-Front w ↦ subst
          (λ end. AreOf c.args.instance.now (back c.args.instance.now (last_with end last job))
          c.match-end.self.back) (sym w.in-Front.is)
          (λ k low high. ap (λ n. slice_index n.back (k - 1)) w.self-is ∙ is.backs k low high)
      | in-Back w ↦ subst
          (λ end. AreOf c.args.instance.now (back c.args.instance.now (last_with end last job))
          c.match-end.self.back) (sym w.in-Back.is)
          (λ k low high. ap (λ n. slice_index n.back (k - 1)) w.self-is
          ∙ w.back_with.ensures c.args.instance.now last job few range is.backs row k low high)
    ]

    works : (k : ℕ) → 1 ≤ k → k ≤ c.args.instance.now.machines →
        slice_index c.work_without.new.fewer (k - 1) + time c.args.instance.now job k
        ≡ slice_index c.args.node.now.work (k - 1)
    works k low high = omega (
      arith,
      c.work_without.ensures (k - 1) (omega (arith, low, high, few)),
      (row k low high).0,
    )
