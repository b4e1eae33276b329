use Rattle.std.proofs.Common.{rules, ◌≡◌, ◌-◌, OnOk, length, set, take, ap, sym, subst, ◌∙◌, arith}
use Rattle.std.proofs.lemmas.List.{get_or-set_same, get_or-take, length-set, length-take-le}
use Rattle.flow_shop.specs.Bound.{bound_of}
use Rattle.flow_search.specs.internal.Nodes.{Gave}
use Rattle.flow_search.specs.internal.Columns.{IsFew, IsTested}
use Rattle.flow_search.specs.internal.ColumnWalks.{frame_at}
use Rattle.flow_search.specs.internal.Settings.{children_walk, IsTooLong}
use Rattle.flow_search.proofs.ColumnsEntered.{count-is, few-at}
use Rattle.flow_search.proofs.few_left.walk.walk_few.Goals as goal
use Rattle.flow_search.proofs.few_left.walk.walk_few.Goals.{After-jobs_of-jobs, After-test_children}

pub jobs_of-jobs-requires-clause-count : goal.jobs_of-jobs-requires-clause-count
jobs_of-jobs-requires-clause-count c =
    count-is c.args.setting.now.instance.now c.args.search.now.node.items c.args.front.now c.args.search.now.unscheduled
    c.args.count c.requires.at

-- the jobs that are left
few : (c : After-jobs_of-jobs) →
    IsFew c.args.setting.now.instance.now c.args.search.now.node.items c.args.front.now
    (take c.args.count c.jobs_of-jobs.result)
few c =
    few-at c.args.setting.now.instance.now c.args.search.now.node.items c.args.front.now
    c.args.search.now.unscheduled c.args.count
    c.jobs_of-jobs.result c.requires.at c.requires.to c.jobs_of-jobs.ensures

pub enter_few-requires : goal.enter_few-requires
enter_few-requires c = (c.args.search.now.node.items, few (goal.at.enter_few-requires c).After-jobs_of-jobs)

pub test_children-requires : goal.test_children-requires
test_children-requires c = (
  c.args.search.now.node.items,
  c.enter_few.ensures.at c.args.search.now.node.items (few (goal.at.test_children-requires c).After-jobs_of-jobs),
)

-- the first frame
first : (c : After-test_children) →
    frame_at (take c.args.count
    (set c.args.columns.now.frames 0 c.test_children.new.frame)) 0 ≡ c.test_children.new.frame
first c =
    let size : length c.args.columns.now.frames ≡ 8 = search rules in
    get_or-take c.args.count (set c.args.columns.now.frames 0 c.test_children.new.frame) 0 _
    (omega (arith, c.requires.from))
    ∙ get_or-set_same c.args.columns.now.frames 0 c.test_children.new.frame _ (omega (arith, size))

pub walk_columns-requires-clause-tested : goal.walk_columns-requires-clause-tested
walk_columns-requires-clause-tested c =
    subst (IsTested c.args.setting.now.instance.now (bound_of c.args.setting.now.version) c.args.search.now.node.items
    c.enter_few.new.group)
    (sym (first (goal.at.walk_columns-requires-clause-tested c).After-test_children))
    (c.test_children.ensures.tested c.args.search.now.node.items
    (c.enter_few.ensures.at c.args.search.now.node.items
    (few (goal.at.walk_columns-requires-clause-tested c).After-jobs_of-jobs)))

pub walk_columns-requires-clause-next : goal.walk_columns-requires-clause-next
walk_columns-requires-clause-next c =
    ap (λ frame. frame.next) (first (goal.at.walk_columns-requires-clause-next c).After-test_children)
    ∙ c.test_children.ensures.kept.next ∙ c.enter_few.ensures.next

-- there are as many frames as jobs left
size : (c : After-test_children) →
    length (take c.args.count (set c.args.columns.now.frames 0 c.test_children.new.frame)) ≡ c.args.count
size c =
    let all : length c.args.columns.now.frames ≡ 8 = search rules in
    length-take-le c.args.count (set c.args.columns.now.frames 0 c.test_children.new.frame)
    (omega (arith, all, length-set c.args.columns.now.frames 0 c.test_children.new.frame, c.requires.to))

pub walk_columns-requires-clause-some : goal.walk_columns-requires-clause-some
walk_columns-requires-clause-some c =
    omega (arith, size (goal.at.walk_columns-requires-clause-some c).After-test_children, c.requires.from)

pub walk_columns-requires-clause-few : goal.walk_columns-requires-clause-few
walk_columns-requires-clause-few c =
    omega (arith, size (goal.at.walk_columns-requires-clause-few c).After-test_children, c.requires.to)

pub walk_columns-requires-clause-count : goal.walk_columns-requires-clause-count
walk_columns-requires-clause-count c =
    omega (arith, size (goal.at.walk_columns-requires-clause-count c).After-test_children, c.requires.at.whole)

pub walk_columns-requires-clause-within : goal.walk_columns-requires-clause-within
walk_columns-requires-clause-within c = c.requires.within

pub returns-clause-done : goal.returns-clause-done
returns-clause-done c =
    subst (λ n. OnOk c.walk_columns.result (Gave c.args.setting.now.budget
    (children_walk c.args.setting.now (n - 1) c.args.search.now) c.args.search.now c.walk_columns.new.search))
    (size (goal.at.returns-clause-done c).After-test_children) c.walk_columns.ensures.done

pub returns-clause-over : goal.returns-clause-over
returns-clause-over c e =
    subst (λ n. IsTooLong c.args.setting.now (children_walk c.args.setting.now (n - 1) c.args.search.now)
    c.args.search.now) (size (goal.at.returns-clause-over c).After-test_children) (c.walk_columns.ensures.over e)
