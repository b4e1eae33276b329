use Rattle.std.proofs.Common.{◌≡◌, ◌+◌, ◌-◌, ◌*◌, length, reverse}
use Rattle.flow_shop.specs.Bound.{bound_of}
use Rattle.flow_search.specs.internal.Nodes.{children_walked}
use Rattle.flow_search.specs.internal.Frames.{IsWalking}
use Rattle.flow_search.specs.internal.Lags.{AreLeastLags}
use Rattle.flow_shop.specs.JobSet.{members}
use Rattle.flow_search.proofs.subtree.walk_children.Given as goal

abbrev pub invariant-walk : goal.invariant-walk
invariant-walk l = record {
  walking : IsWalking l.setting.instance.now (bound_of l.setting.version) l.setting.budget l.fn.search.node.items
      (children_walked l.setting.instance.now (bound_of l.setting.version) l.fn.left l.fn.search) l.fn.search l.here
      l.left
      (reverse l.stack.items) l.search;
  lags : l.setting.version ≡ 2 → AreLeastLags l.setting.instance.now (members l.search.unscheduled) l.lags;
}

abbrev pub decreases-walk : goal.decreases-walk
decreases-walk l = 2 * (l.setting.budget - length l.search.tree.items) + length l.stack.items
