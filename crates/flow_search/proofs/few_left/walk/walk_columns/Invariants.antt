use Rattle.std.proofs.Common.{◌≡◌, ◌+◌, ◌-◌, ◌*◌, ◌<◌, length, reverse, take}
use Rattle.flow_shop.specs.Bound.{bound_of}
use Rattle.flow_search.specs.internal.Nodes.{children_walked}
use Rattle.flow_search.specs.internal.ColumnWalks.{IsInColumns, frame_at}
use Rattle.flow_search.proofs.few_left.walk.walk_columns.Given as goal

abbrev pub invariant-walk : goal.invariant-walk
invariant-walk l = record {
  deep : l.depth < length l.frames;
  size : length l.frames ≡ length l.fn.frames;
  at : IsInColumns l.setting.instance.now (bound_of l.setting.version) l.setting.budget l.group l.fn.search.node.items
      (children_walked l.setting.instance.now (bound_of l.setting.version) (length l.fn.frames - 1) l.fn.search)
      l.fn.search
      (frame_at l.frames l.depth)
      (length l.fn.frames - 1 - l.depth) (reverse (take l.depth l.frames)) l.search;
}

abbrev pub decreases-walk : goal.decreases-walk
decreases-walk l = 2 * (l.setting.budget - length l.search.tree.items) + l.depth
