use Rattle.std.proofs.Common.{suc, nat_le, ap, sym, ◌∙◌, arith}
use Rattle.std.specs.List.{find}
use Rattle.flow_shop.specs.Shop.{numbers}
use Rattle.flow_shop.specs.JobSet.{members}
use Rattle.flow_search.proofs.Nodes.{left-count, within-front, find-is, find-released, bound-one, bound-two}
use Rattle.flow_search.proofs.bounds.pruning_of_node.Goals as goal

pub pruning_of_node_released-requires-clause-some : goal.pruning_of_node_released-requires-clause-some
pruning_of_node_released-requires-clause-some c =
    omega (
      arith,
      left-count c.args.setting.now.instance.now c.requires.at.0 c.args.front.now c.args.set.now
          (suc c.requires.at.1) c.requires.at.2,
    )

pub pruning_of_node_released-requires-clause-within : goal.pruning_of_node_released-requires-clause-within
pruning_of_node_released-requires-clause-within c =
    within-front c.args.setting.now.instance.now c.requires.at.0 c.args.front.now c.args.set.now (suc c.requires.at.1)
    c.requires.at.2

pub pruning_of_node_plain-requires-clause-within : goal.pruning_of_node_plain-requires-clause-within
pruning_of_node_plain-requires-clause-within c =
    within-front c.args.setting.now.instance.now c.requires.at.0 c.args.front.now c.args.set.now (suc c.requires.at.1)
    c.requires.at.2

pub returns-then-has_releases : goal.returns-then-has_releases
returns-then-has_releases c node left at =
    c.pruning_of_node_released.ensures
    ∙ find-released c.args.setting.now.instance.now node c.args.front.now c.args.set.now (suc left) c.args.value at
    ∙ sym (ap (λ bound. find (λ machine. nat_le c.args.value (bound c.args.setting.now.instance.now node machine))
    (numbers 1 c.args.setting.now.instance.now.machines)) (bound-two c.args.setting.now.version c.has_releases.result
    c.has_releases.ensures
    c.if-has_releases.true))

pub returns-else-has_releases : goal.returns-else-has_releases
returns-else-has_releases c node left at =
    c.pruning_of_node_plain.ensures (members c.args.set.now) c.requires.loads
    ∙ find-is c.args.setting.now.instance.now node c.args.front.now c.args.set.now (suc left) c.args.value at
    ∙ sym (ap (λ bound. find (λ machine. nat_le c.args.value (bound c.args.setting.now.instance.now node machine))
    (numbers 1 c.args.setting.now.instance.now.machines)) (bound-one c.args.setting.now.version c.has_releases.result
    c.has_releases.ensures
    c.if-has_releases.false))
