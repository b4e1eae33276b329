use Rattle.std.proofs.Common.{◌≡◌, ℕ, suc, ◌+◌, ◌-◌, ◌≤◌, Bool, true, Some, Ok, Err, Result, List, [], ◌∷◌, ◌++◌}
use Rattle.std.proofs.Common.{length, reverse, take, slice_set, refl, sym, subst, ◌∙◌, ap, arith, length-append}
use Rattle.std.specs.List.{find}
use Rattle.std.proofs.lemmas.Result.{err_from_is_err_and}
use Rattle.flow_limits.specs.Limits.{most_jobs}
use Rattle.flow_shop.specs.Shop.{numbers}
use Rattle.flow_shop.specs.Front.{IsFrontOf}
use Rattle.flow_shop.specs.JobSet.{contains, members}
use Rattle.flow_shop.specs.Bound.{bound_of, front_of}
use Rattle.flow_search.specs.internal.Walk.{walk}
use Rattle.flow_bound.specs.Loads.{AreLoadsOf}
use Rattle.flow_search.specs.internal.Nodes.{IsAt, Left, Gave, Opens, children_walked, incumbent_of}
use Rattle.flow_search.specs.internal.Frames.{IsWalking, IsChild, path}
use Rattle.flow_search.specs.internal.Lags.{AreLeastLags}
use Rattle.flow_search.specs.declared.budget.SearchFault.{SearchFault}
use Rattle.flow_search.specs.declared.budget.SearchFault.TheVariants.{OverBudget}
use Rattle.flow_search.proofs.Nodes.{left-count, within-front}
use Rattle.flow_search.proofs.Resume.{walking-child, walking-whole, walking-over, walking-entered}
use Rattle.flow_search.proofs.NextChild.{walk-some}
use Rattle.flow_search.proofs.Resume.{walking-down, walking-up, walking-done}
use Rattle.flow_search.proofs.NextChild.{moved}
use Rattle.flow_shop.proofs.Lists.{reverse-push}
use Rattle.flow_search.proofs.subtree.walk_children.Goals as goal
use Rattle.flow_search.proofs.subtree.walk_children.Goals.{After-first_of, In-Some, In-Some-pop, In_ok-visit}
use Rattle.flow_search.proofs.subtree.walk_children.Goals.{In_ok-enter, After-leave, Then-branch}

-- what the search for the next child found
found : (c : After-first_of) →
    c.first_of.result ≡ find (contains c.walk.search.unscheduled)
    (numbers c.walk.here.next c.args.setting.now.instance.now.jobs)
found c = c.first_of.ensures
    ∙ ap (λ n. find (contains c.walk.search.unscheduled) (numbers c.walk.here.next n)) c.jobs-jobs.ensures.value

found-job : (c : In-Some) →
    Some c.in-Some.job ≡ find (contains c.walk.search.unscheduled)
    (numbers c.walk.here.next c.args.setting.now.instance.now.jobs)
found-job c = sym c.in-Some.is ∙ c.first_of.ensures
    ∙ ap (λ n. find (contains c.walk.search.unscheduled) (numbers c.walk.here.next n)) c.jobs-jobs.ensures.value

pub returns-in_default-pop-clause-done : goal.returns-in_default-pop-clause-done
returns-in_default-pop-clause-done c =
    let empty : c.walk.stack.items ≡ [] =
    c.in_default-pop.ensures.items
    ∙ ap (λ xs. xs ++ []) (c.in_default-pop.ensures.rest
    ∙ ap (λ n. take (n - 1) c.walk.stack.items) c.in_default-pop.ensures.cases.0) in
    walking-done c.walk.invariant.walking c.args.here.front (suc c.args.left)
    (sym c.in_default.is ∙ found (goal.at.returns-in_default-pop-clause-done c).After-first_of)
    (ap reverse empty) c.requires.at refl

-- the frame above, and the node after its child
above : (c : After-leave) →
    (reverse c.walk.stack.items ≡ c.in-Some-pop.parent ∷ reverse c.pop.new.self.items)
    × Left (c.in-Some-pop.parent.next - 1) (path c.args.search.now.node.items
    (reverse c.pop.new.self.items)) c.walk.search c.leave.new.self
above c =
    let popped = reverse-push c.pop.new.self.items c.walk.stack.items c.in-Some-pop.parent
    c.in-Some-pop.ensures.items in (
      popped,
      c.leave.ensures (path c.args.search.now.node.items (reverse c.pop.new.self.items))
          (c.walk.invariant.walking.node ∙ ap (path c.args.search.now.node.items) popped),
    )

pub walk-smaller-in_default : goal.walk-smaller-in_default
walk-smaller-in_default c =
    let left = (above (goal.at.walk-smaller-in_default c).After-leave).1 in
    let tree : length c.leave.new.self.tree.items ≡ length c.walk.search.tree.items = ap length left.tree in
    let stack : length c.walk.stack.items ≡ length (c.pop.new.self.items ++ c.in-Some-pop.parent ∷ []) =
    ap length c.in-Some-pop.ensures.items in
    omega (arith, tree, stack, length-append c.pop.new.self.items (c.in-Some-pop.parent ∷ []))

-- the walk goes on in the frame above
up : (c : After-leave) →
    IsWalking c.args.setting.now.instance.now (bound_of c.args.setting.now.version) c.args.setting.now.budget
    c.args.search.now.node.items
    (children_walked c.args.setting.now.instance.now (bound_of c.args.setting.now.version) c.args.left
    c.args.search.now) c.args.search.now c.in-Some-pop.parent (c.walk.left + 1) (reverse c.pop.new.self.items)
    c.leave.new.self
up c =
    let shop = c.args.setting.now.instance.now in
    let old = c.args.search.now in
    let up = walking-up c.walk.invariant.walking c.in-Some-pop.parent (reverse c.pop.new.self.items) c.leave.new.self
    (sym c.in_default.is ∙ found (goal.at.After-leave c).After-first_of) (above c).0 (above c).1 in
    let more : suc c.walk.left ≡ c.walk.left + 1 = omega arith in
    subst (λ n. IsWalking shop (bound_of c.args.setting.now.version) c.args.setting.now.budget old.node.items
    (children_walked shop (bound_of c.args.setting.now.version) c.args.left old) old c.in-Some-pop.parent n
    (reverse c.pop.new.self.items) c.leave.new.self) more up

pub renew_lags-requires-in_default : goal.renew_lags-requires-in_default
renew_lags-requires-in_default c =
    record { jobs = (up (goal.at.renew_lags-requires-in_default c).After-leave).at.none }

pub walk-preserved-in_default : goal.walk-preserved-in_default
walk-preserved-in_default c = record {
  walking = up (goal.at.walk-preserved-in_default c).After-leave;
  lags = c.renew_lags-in_default.ensures;
}

pub visit-requires-clause-lags : goal.visit-requires-clause-lags
visit-requires-clause-lags c = c.walk.invariant.lags

-- the child's job
kid : (c : In-Some) →
    IsChild c.args.setting.now.instance.now.jobs (path c.args.search.now.node.items
    (reverse c.walk.stack.items)) c.in-Some.job
    × (contains c.walk.search.unscheduled c.in-Some.job ≡ true)
    × (c.args.setting.now.instance.now.jobs ≤ most_jobs)
kid c = let next = walking-child c.walk.invariant.walking c.in-Some.job (found-job c) in
    (next.1, next.2, c.args.setting.now.are_rows.limits.jobs)

pub overflow_add-here : goal.overflow_add-here
overflow_add-here c = let k = kid c in omega (arith, k.0.to, k.2)

pub visit-requires-clause-job : goal.visit-requires-clause-job
visit-requires-clause-job c =
    let k = kid (goal.at.visit-requires-clause-job c).In-Some in
    record { from = k.0.from; to = k.0.to; left = k.1 }

pub returns-in_err-visit-clause-over : goal.returns-in_err-visit-clause-over
returns-in_err-visit-clause-over c e =
    let p = err_from_is_err_and c.from_residual.result c.from_residual.ensures.1 in
    let put : SearchFault → Result (Unit {0}) SearchFault = λ stop. Err stop in
    let put_bool : SearchFault → Result Bool SearchFault = λ stop. Err stop in
    let was : p.0 ≡ OverBudget = let r : put p.0 ≡ put OverBudget = sym p.1 ∙ e in cc in
    let same : put_bool c.in_err-visit.field-0.0 ≡ put_bool OverBudget = ap put_bool (sym p.2 ∙ was) in
    walking-over c.walk.invariant.walking c.in-Some.job (found-job (goal.at.returns-in_err-visit-clause-over c).In-Some)
    (c.in_err-visit.ensures.over same)

pub enter-requires-clause-from : goal.enter-requires-clause-from
enter-requires-clause-from c = (kid (goal.at.enter-requires-clause-from c).In-Some).0.from

pub enter-requires-clause-to : goal.enter-requires-clause-to
enter-requires-clause-to c = let k = kid (goal.at.enter-requires-clause-to c).In-Some in omega (arith, k.0.to, k.2)

-- the plus that was written
opens : (c : Then-branch) →
    Opens c.args.setting.now.instance.now (bound_of c.args.setting.now.version) c.args.setting.now.budget
    c.in-Some.job c.walk.search c.visit.new.search
    × (9 ≤ c.walk.left)
opens c =
    let put : Bool → Result Bool SearchFault = λ b. Ok b in
    let true_is = ap put c.if-branch.true in
    (c.in_ok-visit.ensures.opens true_is, c.in_ok-visit.ensures.more true_is)

-- the child's node
entered : (c : In_ok-enter) →
    IsAt c.args.setting.now.instance.now c.enter.new.self.node.items (front_of c.args.setting.now.instance.now
    (c.walk.search.node.items ++ c.in-Some.job ∷ [])) c.enter.new.self.unscheduled c.walk.left
    × AreLoadsOf c.args.setting.now.instance.now (members (slice_set c.enter.new.self.unscheduled
    (c.in-Some.job - 1) true)) c.walk.here.loads
    × (1 ≤ c.walk.left)
entered c =
    let put : Bool → Result Bool SearchFault = λ b. Ok b in
    let o = c.in_ok-visit.ensures.opens (ap put c.if-branch.true) in
    let found : Some c.in-Some.job
    ≡ find (contains c.walk.search.unscheduled) (numbers c.walk.here.next c.args.setting.now.instance.now.jobs) =
    sym c.in-Some.is ∙ c.first_of.ensures
    ∙ ap (λ n. find (contains c.walk.search.unscheduled) (numbers c.walk.here.next n)) c.jobs-jobs.ensures.value in
    let is = walking-entered c.walk.invariant.walking c.in-Some.job c.visit.new.search c.enter.new.self found o
    c.in_ok-enter.ensures in
    (is.0, is.1, omega (arith, c.in_ok-visit.ensures.more (ap put c.if-branch.true)))

pub step-loads-requires-clause-job_from : goal.step-loads-requires-clause-job_from
step-loads-requires-clause-job_from c = (kid (goal.at.step-loads-requires-clause-job_from c).In-Some).0.from

pub step-loads-requires-clause-job_to : goal.step-loads-requires-clause-job_to
step-loads-requires-clause-job_to c = (kid (goal.at.step-loads-requires-clause-job_to c).In-Some).0.to

pub step-loads-requires-clause-some : goal.step-loads-requires-clause-some
step-loads-requires-clause-some c =
    let is = entered (goal.at.step-loads-requires-clause-some c).In_ok-enter in
    let size = left-count c.args.setting.now.instance.now c.enter.new.self.node.items
    (front_of c.args.setting.now.instance.now (c.walk.search.node.items ++ c.in-Some.job ∷ []))
    c.enter.new.self.unscheduled c.walk.left is.0 in
    omega (arith, size, is.2)

pub step-loads-requires-clause-loads : goal.step-loads-requires-clause-loads
step-loads-requires-clause-loads c = (entered (goal.at.step-loads-requires-clause-loads c).In_ok-enter).1

pub front_push-requires-clause-job_from : goal.front_push-requires-clause-job_from
front_push-requires-clause-job_from c = (kid (goal.at.front_push-requires-clause-job_from c).In-Some).0.from

pub front_push-requires-clause-job_to : goal.front_push-requires-clause-job_to
front_push-requires-clause-job_to c = (kid (goal.at.front_push-requires-clause-job_to c).In-Some).0.to

pub front_push-requires-clause-within : goal.front_push-requires-clause-within
front_push-requires-clause-within c =
    within-front c.args.setting.now.instance.now c.walk.search.node.items c.walk.here.front c.walk.search.unscheduled
    (suc c.walk.left) c.walk.invariant.walking.at

pub new-here-requires : goal.new-here-requires
new-here-requires c = record { jobs = (entered (goal.at.new-here-requires c).In_ok-enter).0.none }

pub walk-smaller-then-branch : goal.walk-smaller-then-branch
walk-smaller-then-branch c =
    let o = opens (goal.at.walk-smaller-then-branch c).Then-branch in
    let tree : length c.enter.new.self.tree.items ≡ length c.visit.new.search.tree.items =
    ap length c.in_ok-enter.ensures.tree in
    let wrote : length c.visit.new.search.tree.items ≡ length (c.walk.search.tree.items ++ 43 ∷ []) =
    ap length o.0.wrote.tree in
    let stack : length c.push.new.self.items
    ≡ length (c.walk.stack.items ++ moved c.walk.here (c.in-Some.job + 1) ∷ []) =
    ap length c.in_ok-push.ensures.items in
    omega (
      arith,
      tree,
      wrote,
      stack,
      o.0.wrote.within,
      length-append c.walk.search.tree.items (43 ∷ []),
      length-append c.walk.stack.items (moved c.walk.here (c.in-Some.job + 1) ∷ []),
    )

pub renew_lags-requires-then-branch : goal.renew_lags-requires-then-branch
renew_lags-requires-then-branch c =
    record { jobs = (entered (goal.at.renew_lags-requires-then-branch c).In_ok-enter).0.none }

pub walk-preserved-then-branch : goal.walk-preserved-then-branch
walk-preserved-then-branch c =
    let shop = c.args.setting.now.instance.now in
    let old = c.args.search.now in
    let opened = opens (goal.at.walk-preserved-then-branch c).Then-branch in
    let pushed : reverse c.push.new.self.items ≡ moved c.walk.here (c.in-Some.job + 1) ∷ reverse c.walk.stack.items =
    reverse-push c.walk.stack.items c.push.new.self.items (moved c.walk.here (c.in-Some.job
    + 1)) c.in_ok-push.ensures.items in
    let bound = bound_of c.args.setting.now.version in
    let down = subst (λ xs. IsWalking shop bound c.args.setting.now.budget old.node.items
    (children_walked shop bound c.args.left old) old c.new-here.result (c.walk.left
    - 1) xs c.enter.new.self)
    (sym pushed)
    (walking-down c.walk.invariant.walking c.in-Some.job c.visit.new.search c.enter.new.self c.new-here.result
    (found-job (goal.at.walk-preserved-then-branch c).In-Some) opened.1 opened.0 c.in_ok-enter.ensures
    (subst (IsFrontOf shop (c.walk.search.node.items ++ c.in-Some.job
    ∷ [])) (sym c.new-here.ensures.front)
    (c.front_push.ensures.front c.walk.search.node.items c.walk.invariant.walking.at.is_front))
    (subst (AreLoadsOf shop (members c.enter.new.self.unscheduled))
    (sym c.new-here.ensures.loads) c.step-loads.ensures.loads)
    c.new-here.ensures.second c.new-here.ensures.next) in
    record { walking = down; lags = c.renew_lags-then-branch.ensures }

-- the child's subtree that was walked
whole : (c : goal.Else-branch) → Gave c.args.setting.now.budget
    (walk c.args.setting.now.instance.now (bound_of c.args.setting.now.version) c.walk.left (c.walk.search.node.items
    ++ c.in-Some.job
    ∷ []) (incumbent_of c.walk.search)) c.walk.search c.visit.new.search
whole c = let put : Bool → Result Bool SearchFault = λ b. Ok b in c.in_ok-visit.ensures.whole (ap put c.if-branch.false)

pub walk-smaller : goal.walk-smaller
walk-smaller c =
    let shop = c.args.setting.now.instance.now in
    let g = whole c in
    let text : List ℕ = (walk shop (bound_of c.args.setting.now.version) c.walk.left (c.walk.search.node.items ++
    c.in-Some.job
    ∷ []) (incumbent_of c.walk.search)).0 in
    let some : 1 ≤ length text =
    walk-some shop (bound_of c.args.setting.now.version) c.walk.left (c.walk.search.node.items ++ c.in-Some.job ∷ [])
    (incumbent_of c.walk.search) in
    let tree : length c.visit.new.search.tree.items ≡ length (c.walk.search.tree.items ++ text) = ap length g.tree in
    omega (arith, some, tree, g.within, length-append c.walk.search.tree.items text)

pub walk-preserved : goal.walk-preserved
walk-preserved c = record {
  walking = walking-whole c.walk.invariant.walking c.in-Some.job c.visit.new.search
      (found-job (goal.at.walk-preserved c).In-Some) (whole c);
  lags = λ two. subst (λ set. AreLeastLags c.args.setting.now.instance.now (members set) c.walk.lags)
      (sym (whole c).unscheduled) (c.walk.invariant.lags two);
}

pub visit-requires-clause-at : goal.visit-requires-clause-at
visit-requires-clause-at c = c.walk.invariant.walking.at

pub visit-requires-clause-many : goal.visit-requires-clause-many
visit-requires-clause-many c = c.walk.invariant.walking.many

pub first_of-requires-clause-from : goal.first_of-requires-clause-from
first_of-requires-clause-from c = c.walk.invariant.walking.next

pub overflow_sub-left : goal.overflow_sub-left
overflow_sub-left c = (entered (goal.at.overflow_sub-left c).In_ok-enter).2

pub renew_lags-requires : goal.renew_lags-requires
renew_lags-requires c = record { jobs = c.requires.at.none }
