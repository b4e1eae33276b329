use Rattle.std.proofs.Common.{◌≡◌, ℕ, ◌≤◌, ◌+◌, ◌-◌, slice_index, ap, sym, ◌∙◌, subst, arith}
use Rattle.flow_shop.specs.Shop.{time, AreOf}
use Rattle.flow_shop.specs.Ends.{front, back}
use Rattle.flow_shop.specs.Directions.{first_with, last_with}
use Rattle.flow_nodes.proofs.KeptNodes.{fronts-within, backs-within, work-covers, child-node}
use Rattle.flow_nodes.proofs.node.Node.put.Goals as goal
use Rattle.flow_nodes.proofs.node.Node.put.Goals.{in-Front, in-Back}

pub put_behind-requires-clause-within : goal.put_behind-requires-clause-within
put_behind-requires-clause-within c =
    fronts-within c.args.instance.now c.requires.left.0 c.requires.left.1 c.args.self.now c.requires.left.2

pub put_before-requires-clause-within : goal.put_before-requires-clause-within
put_before-requires-clause-within c =
    backs-within c.args.instance.now c.requires.left.0 c.requires.left.1 c.args.self.now c.requires.left.2

pub take_work-requires-clause-covers : goal.take_work-requires-clause-covers
take_work-requires-clause-covers c machine low high =
    let covers = work-covers c.args.instance.now c.requires.left.0 c.requires.left.1 c.args.self.now c.args.job machine
    c.requires.left.2 c.requires.job c.requires.left.3 low high in
    elim c.match-end.branch [
      | in-Front w ↦ omega (arith, covers, ap (λ n. slice_index n.work (machine - 1)) w.self-is)
      | in-Back w ↦ omega (arith, covers, ap (λ n. slice_index n.work (machine - 1)) w.self-is)
    ]

pub returns : goal.returns
returns c first last is fresh =
    child-node c.args.instance.now c.args.end first last c.args.job c.args.self.now (record {
      front = c.match-end.self.front;
      back = c.match-end.self.back;
      work = c.take_work.new.works;
    }) is c.requires.job fresh fronts backs works
  where
    fronts : AreOf c.args.instance.now (front c.args.instance.now (first_with c.args.end first c.args.job))
        c.match-end.self.front
    fronts = elim c.match-end.branch [
      | in-Front w ↦ subst
          (λ end. AreOf c.args.instance.now (front c.args.instance.now (first_with end first c.args.job))
          c.match-end.self.front) (sym w.in-Front.is)
          (λ k low high. ap (λ n. slice_index n.front (k - 1)) w.self-is
          ∙ w.put_behind.ensures first is.first_jobs is.fronts k low high)
      | in-Back w ↦ subst
          (λ end. AreOf c.args.instance.now (front c.args.instance.now (first_with end first c.args.job))
          c.match-end.self.front) (sym w.in-Back.is)
          (λ k low high. ap (λ n. slice_index n.front (k - 1)) w.self-is ∙ is.fronts k low high)
    ]

    backs : AreOf c.args.instance.now (back c.args.instance.now (last_with c.args.end last c.args.job))
        c.match-end.self.back
    backs = elim c.match-end.branch [
      | in-Front w ↦ subst
          (λ end. AreOf c.args.instance.now (back c.args.instance.now (last_with end last c.args.job))
          c.match-end.self.back) (sym w.in-Front.is)
          (λ k low high. ap (λ n. slice_index n.back (k - 1)) w.self-is ∙ is.backs k low high)
      | in-Back w ↦ subst
          (λ end. AreOf c.args.instance.now (back c.args.instance.now (last_with end last c.args.job))
          c.match-end.self.back) (sym w.in-Back.is)
          (λ k low high. ap (λ n. slice_index n.back (k - 1)) w.self-is
          ∙ w.put_before.ensures last is.backs k low high)
    ]

    works : (k : ℕ) → 1 ≤ k → k ≤ c.args.instance.now.machines →
        slice_index c.take_work.new.works (k - 1) + time c.args.instance.now c.args.job k
        ≡ slice_index c.args.self.now.work (k - 1)
    works k low high = elim c.match-end.branch [
      | in-Front w ↦ c.take_work.ensures k low high ∙ ap (λ n. slice_index n.work (k - 1)) w.self-is
      | in-Back w ↦ c.take_work.ensures k low high ∙ ap (λ n. slice_index n.work (k - 1)) w.self-is
    ]
