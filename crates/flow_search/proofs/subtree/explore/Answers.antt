use Rattle.std.proofs.Common.{◌≡◌, ℕ, ◌≤◌, suc, ◌-◌, nat_le, sym, subst, ◌∙◌, ap, arith}
use Rattle.std.specs.List.{find}
use Rattle.std.proofs.lemmas.Result.{on_ok_weaker}
use Rattle.flow_shop.specs.Shop.{numbers}
use Rattle.flow_shop.specs.Front.{IsFrontOf}
use Rattle.flow_shop.specs.JobSet.{members}
use Rattle.flow_shop.specs.Bound.{bound_of}
use Rattle.flow_bound.specs.Loads.{AreLoadsOf}
use Rattle.flow_search.specs.internal.Tails.{second_tail}
use Rattle.flow_search.specs.internal.Nodes.{IsAt, incumbent_of}
use Rattle.flow_search.specs.internal.Frames.{IsFrame}
use Rattle.flow_search.proofs.Nodes.{left-count, machine-is, pruned-here}
use Rattle.flow_search.proofs.NextChild.{frame-of}
use Rattle.flow_search.proofs.ColumnsWalked.{IsUnpruned, unpruned-found, node-done, node-over}
use Rattle.flow_search.proofs.subtree.explore.Goals as goal
use Rattle.flow_search.proofs.subtree.explore.Goals.{After-pruning_of_node, In_default}

suc-back : (n : ℕ) → 1 ≤ n → n ≡ suc (n - 1)
suc-back n some = omega (arith, some)

pub of-loads-requires-clause-some : goal.of-loads-requires-clause-some
of-loads-requires-clause-some c =
    let size = left-count c.args.setting.now.instance.now c.args.search.now.node.items c.args.front.now
    c.args.search.now.unscheduled c.args.count c.requires.at in
    omega (arith, size, c.if-count-eq0.false)

pub pruning_of_node-requires-clause-at : goal.pruning_of_node-requires-clause-at
pruning_of_node-requires-clause-at c =
    let more : c.args.count ≡ suc (c.args.count - 1) = omega (arith, c.if-count-eq0.false) in (
      c.args.search.now.node.items,
      c.args.count - 1,
      subst (IsAt c.args.setting.now.instance.now c.args.search.now.node.items c.args.front.now
          c.args.search.now.unscheduled) more c.requires.at,
    )

-- what the search for the machine found
found : (c : After-pruning_of_node) →
    c.pruning_of_node.result
    ≡ find (λ machine. nat_le c.args.search.now.value
    (bound_of c.args.setting.now.version c.args.setting.now.instance.now c.args.search.now.node.items machine))
    (numbers 1 c.args.setting.now.instance.now.machines)
found c =
    let more : c.args.count ≡ suc (c.args.count - 1) = omega (arith, c.if-count-eq0.false) in
    c.pruning_of_node.ensures c.args.search.now.node.items (c.args.count - 1)
    (subst (IsAt c.args.setting.now.instance.now c.args.search.now.node.items c.args.front.now
    c.args.search.now.unscheduled) more c.requires.at)

pub overflow_cast-machine : goal.overflow_cast-machine
overflow_cast-machine c =
    let is = machine-is c.args.setting.now.instance.now _ c.in-Some.machine c.args.setting.now.are_rows.limits
    (sym c.in-Some.is
    ∙ found (goal.at.overflow_cast-machine c).After-pruning_of_node) in
    omega (arith, is.1)

pub overflow_add-machine : goal.overflow_add-machine
overflow_add-machine c =
    let is = machine-is c.args.setting.now.instance.now _ c.in-Some.machine c.args.setting.now.are_rows.limits
    (sym c.in-Some.is
    ∙ found (goal.at.overflow_add-machine c).After-pruning_of_node) in
    omega (arith, is.1)

pub returns-in-Some-clause-done : goal.returns-in-Some-clause-done
returns-in-Some-clause-done c =
    pruned-here c.args.setting.now.instance.now (bound_of c.args.setting.now.version) c.args.setting.now.budget
    c.args.count
    (c.args.count - 1) c.in-Some.machine c.args.search.now c.write-in-Some.new.self
    (omega (arith, c.if-count-eq0.false)) (sym c.in-Some.is
    ∙ found (goal.at.returns-in-Some-clause-done c).After-pruning_of_node) c.in_ok-write-2.ensures.done

pub walk_children-requires-clause-frame : goal.walk_children-requires-clause-frame
walk_children-requires-clause-frame c =
    let shop = c.args.setting.now.instance.now in
    let old = c.args.search.now in
    let w = c.in_ok-write-3.ensures.done in
    let more : c.args.count ≡ suc (c.args.count - 1) = omega (arith, c.if-count-eq0.false) in
    let at : IsAt shop old.node.items c.args.front.now old.unscheduled (suc (c.args.count - 1)) =
    subst (IsAt shop old.node.items c.args.front.now old.unscheduled) more c.requires.at in
    subst (λ q. IsFrame shop q (suc (c.args.count - 1)) c.new-here.result) (sym w.node)
    (frame-of shop old.node.items c.args.front.now old.unscheduled (suc (c.args.count - 1)) c.new-here.result at
    (subst (IsFrontOf shop old.node.items) (sym c.new-here.ensures.front) c.requires.at.is_front)
    (subst (AreLoadsOf shop (members old.unscheduled)) (sym c.new-here.ensures.loads) c.of-loads.ensures.loads)
    (λ machine from to. c.new-here.ensures.second machine from to
    ∙ ap (λ u. second_tail shop (members u) machine) w.unscheduled))

-- no machine prunes the root
unpruned : (c : In_default) →
    IsUnpruned c.args.setting.now.instance.now (bound_of c.args.setting.now.version) c.args.count
    c.args.search.now.node.items
    (incumbent_of c.args.search.now)
unpruned c =
    unpruned-found c.args.setting.now.instance.now (bound_of c.args.setting.now.version) c.args.count c.args.search.now
    (omega (arith, c.if-count-eq0.false))
    (sym c.in_default.is
    ∙ c.pruning_of_node.ensures c.args.search.now.node.items (c.args.count - 1)
    (subst (IsAt c.args.setting.now.instance.now c.args.search.now.node.items c.args.front.now
    c.args.search.now.unscheduled) (suc-back c.args.count (omega (arith, c.if-count-eq0.false))) c.requires.at))

pub returns-then-count-le-FEW-clause-done : goal.returns-then-count-le-FEW-clause-done
returns-then-count-le-FEW-clause-done c =
    on_ok_weaker c.walk_few.result
    (node-done c.args.setting.now.instance.now (bound_of c.args.setting.now.version) c.args.setting.now.budget
    c.args.count c.args.search.now
    c.write-2.new.self c.walk_few.new.search
    (unpruned (goal.at.returns-then-count-le-FEW-clause-done c).In_default) c.in_ok-write-3.ensures.done)
    c.walk_few.ensures.done

pub returns-then-count-le-FEW-clause-over : goal.returns-then-count-le-FEW-clause-over
returns-then-count-le-FEW-clause-over c e =
    node-over c.args.setting.now.instance.now (bound_of c.args.setting.now.version) c.args.setting.now.budget
    c.args.count c.args.search.now
    c.write-2.new.self
    (unpruned (goal.at.returns-then-count-le-FEW-clause-over c).In_default) c.in_ok-write-3.ensures.done
    (c.walk_few.ensures.over e)

pub returns-clause-done : goal.returns-clause-done
returns-clause-done c =
    on_ok_weaker c.walk_children.result
    (node-done c.args.setting.now.instance.now (bound_of c.args.setting.now.version) c.args.setting.now.budget
    c.args.count c.args.search.now
    c.write-2.new.self c.walk_children.new.search
    (unpruned (goal.at.returns-clause-done c).In_default) c.in_ok-write-3.ensures.done)
    c.walk_children.ensures.done

pub returns-clause-over : goal.returns-clause-over
returns-clause-over c e =
    node-over c.args.setting.now.instance.now (bound_of c.args.setting.now.version) c.args.setting.now.budget
    c.args.count c.args.search.now
    c.write-2.new.self
    (unpruned (goal.at.returns-clause-over c).In_default) c.in_ok-write-3.ensures.done (c.walk_children.ensures.over e)
