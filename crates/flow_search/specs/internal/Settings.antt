-- What a search at a node has, finds and gives, by its setting.
use Rattle.std.specs.Prelude.{ℕ, ◌≡◌, ◌+◌, ◌<◌, List, length, Bool, Option}
use Rattle.flow_shop.specs.Shop.{Shop}
use Rattle.flow_shop.specs.JobSet.{members}
use Rattle.flow_shop.specs.Bound.{Bound, bound_of}
use Rattle.flow_search.specs.Search.{first_reaching}
use Rattle.flow_search.specs.internal.Walk.{Walk}
use Rattle.flow_search.specs.internal.Nodes.{IsAt, walked, children_walked, child_walked}
use Rattle.flow_search.specs.internal.Frames.{IsFrame}
use Rattle.flow_search.specs.internal.Lags.{AreLeastLags}
use Rattle.flow_search.specs.declared.frame.Frame.{Frame}
use Rattle.flow_shop.specs.declared.least_pairs.LeastPairs.{LeastPairs}
use Rattle.flow_search.specs.declared.setting.Setting.{Setting}
use Rattle.flow_search.specs.declared.state.SearchState.{SearchState}

-- the instance
abbrev pub shop_of : Setting → Shop
shop_of setting = setting.instance.now

-- the bound by which nodes are pruned: that of the version
abbrev pub pruning_bound : Setting → Bound
pruning_bound setting = bound_of setting.version

-- the first machine that prunes a node, where the makespan of the incumbent is this value
abbrev pub pruned_at : Setting → ℕ → List ℕ → Option ℕ
pruned_at setting value node = first_reaching (shop_of setting) value (pruning_bound setting (shop_of setting) node)

-- the search stands at a node with this front and so many jobs left
abbrev pub StandsAt : Setting → SearchState → List ℕ → ℕ → Type 0
StandsAt setting search front count = IsAt (shop_of setting) search.node.items front search.unscheduled count

-- a frame is that of the search's node, which leaves so many jobs
abbrev pub HasFrame : Setting → SearchState → Frame → ℕ → Type 0
HasFrame setting search frame count = IsFrame (shop_of setting) search.node.items count frame

-- where the bound of the version has releases: the lags are the two least of the jobs of a set
abbrev pub HasLags : Setting → List Bool → List LeastPairs → Type 0
HasLags setting set lags = setting.version ≡ 2 → AreLeastLags (shop_of setting) (members set) lags

-- the walk from the search's node, with so many jobs left
abbrev pub node_walk : Setting → ℕ → SearchState → Walk
node_walk setting count search = walked (shop_of setting) (pruning_bound setting) count search

-- the walks of the children of the search's node, one after another, with so many jobs left at each
abbrev pub children_walk : Setting → ℕ → SearchState → Walk
children_walk setting left search = children_walked (shop_of setting) (pruning_bound setting) left search

-- the walk of the child of a job, with so many jobs left there
abbrev pub child_walk : Setting → ℕ → ℕ → SearchState → Walk
child_walk setting left job search = child_walked (shop_of setting) (pruning_bound setting) left job search

-- with what a walk writes, the tree of a search is longer than the budget
abbrev pub IsTooLong : Setting → Walk → SearchState → Type 0
IsTooLong setting walk search = setting.budget < length search.tree.items + length walk.0
