use Rattle.std.proofs.Common.{◌≡◌, ◌+◌, ◌-◌, ◌<◌, ◌≤◌, [], ◌∷◌, ◌++◌, length, take, drop, slice_index}
use Rattle.std.proofs.Common.{refl, ap, sym, ◌∙◌, subst, arith, append-nil, length-take, length-drop, rules}
use Rattle.std.proofs.lemmas.List.{take_more, take_all, drop_all}
use Rattle.flow_shop.specs.JobSet.{AreTaken}
use Rattle.flow_shop.specs.Sequences.{has}
use Rattle.flow_shop.proofs.JobLists.{none-taken, jobs-first, next-at}
use Rattle.flow_shop.proofs.Lists.{drop-at}
use Rattle.flow_nodes.specs.Nodes.{IsNode}
use Rattle.flow_directions.specs.internal.Lists.{HasLists}
use Rattle.flow_directions.proofs.FoundSteps.{no-jobs-fault}
use Rattle.flow_directions.proofs.StartLists.{next-back, count-both, not-taken, first-taken, both-taken}
use Rattle.flow_directions.proofs.start.StartNode.new.Goals as goal
use Rattle.flow_directions.proofs.start.StartNode.new.Goals.{After-none-taken, Else-is_some, Else-is_some-2}
use Rattle.flow_directions.proofs.start.StartNode.new.Goals.{then-is_some-via-then-is_some}
use Rattle.flow_directions.proofs.start.StartNode.new.Goals.{then-is_some-via-else-is_some+then-is_some-2}

-- no job is taken at first
none : (c : After-none-taken) → AreTaken c.args.instance.now [] 0 c.none-taken.result
none c = none-taken c.args.instance.now c.none-taken.result c.none-taken.ensures.size c.none-taken.ensures.empty

pub insert_all-requires : goal.insert_all-requires
insert_all-requires c = ([], none (goal.at.insert_all-requires c).After-none-taken)

-- then those of the first list
first-are : (c : Else-is_some) →
    AreTaken c.args.instance.now c.args.first.now (length c.args.first.now) c.insert_all.new.taken
first-are c =
    first-taken _ _ _ _ (c.insert_all.ensures.taken [] (none (goal.at.Else-is_some c).After-none-taken))
    (sym c.is_some.ensures ∙ c.if-is_some.false)

pub insert_all-requires-else-is_some : goal.insert_all-requires-else-is_some
insert_all-requires-else-is_some c =
    (c.args.first.now, first-are (goal.at.insert_all-requires-else-is_some c).Else-is_some)

pub returns-then-is_some-clause-refused : goal.returns-then-is_some-clause-refused
returns-then-is_some-clause-refused c =
    let shop = c.args.instance.now in
    let first = c.args.first.now in
    let last = c.args.last.now in
    let none = none (goal.at.returns-then-is_some-clause-refused c).After-none-taken in (
      λ e are. elim c.then-is_some.branch [
        | then-is_some-via-then-is_some w ↦
            not-taken shop.jobs [] first c.insert_all.result (c.insert_all.ensures.fault [] none)
            (sym c.is_some.ensures ∙ w.if-is_some.true) (jobs-first shop.jobs first last are)
        | then-is_some-via-else-is_some+then-is_some-2 w ↦
            let taken = first-taken shop first c.insert_all.new.taken c.insert_all.result
            (c.insert_all.ensures.taken [] none) (sym c.is_some.ensures ∙ w.if-is_some.false) in
            not-taken shop.jobs first last w.insert_all-else-is_some.result
            (w.insert_all-else-is_some.ensures.fault first taken)
            (sym w.is_some-else-is_some.ensures ∙ w.if-is_some-2.true) are
      ],
      λ _. refl,
    )

-- and at last those of both
both : (c : Else-is_some-2) →
    AreTaken c.args.instance.now (c.args.first.now ++ c.args.last.now)
    (length c.args.first.now + length c.args.last.now) c.insert_all-else-is_some.new.taken
both c =
    both-taken _ _ _ _ _
    (c.insert_all-else-is_some.ensures.taken c.args.first.now (first-are (goal.at.Else-is_some-2 c).Else-is_some))
    (sym c.is_some-else-is_some.ensures ∙ c.if-is_some-2.false)

pub returns-in_err-lists-clause-refused : goal.returns-in_err-lists-clause-refused
returns-in_err-lists-clause-refused c = (
  λ e are. no-jobs-fault c.from_residual.result (search rules) e,
  λ refused. absurd (refused (both (goal.at.returns-in_err-lists-clause-refused c).Else-is_some-2).are_jobs),
)

pub loop-job-init : goal.loop-job-init
loop-job-init c =
    let both = both (goal.at.loop-job-init c).Else-is_some-2 in
    record {
      are_jobs = both.are_jobs;
      holds = both.holds;
      is_node = c.root-node.ensures;
      has_lists = subst (λ n. HasLists n [] [] c.in_ok-lists.lists) c.jobs.ensures.value c.in_ok-lists.ensures;
    }

pub put-requires-clause-job : goal.put-requires-clause-job
put-requires-clause-job c =
    let n = c.args.instance.now.jobs in
    let first = c.args.first.now in
    let next = next-at n [] first c.loop-job.job-index (omega arith)
    (jobs-first n first c.args.last.now c.loop-job.invariant.are_jobs) in
    (next.from, next.to)

pub put-requires-clause-left : goal.put-requires-clause-left
put-requires-clause-left c =
    let n = c.args.instance.now.jobs in
    let first = c.args.first.now in
    let index = c.loop-job.job-index in
    let next = next-at n [] first index (omega arith)
    (jobs-first n first c.args.last.now c.loop-job.invariant.are_jobs) in (
      take index first,
      [],
      c.loop-job.invariant.is_node,
      ap (λ xs. has xs (slice_index first index)) (append-nil (take index first)) ∙ next.fresh,
    )

pub put-requires-in-loop-job : goal.put-requires-in-loop-job
put-requires-in-loop-job c =
    let first = c.args.first.now in
    let lists = c.loop-job.invariant.has_lists in
    let long : c.loop-job.job-index < length first = omega arith in
    omega (
      arith,
      long,
      lists.size,
      lists.first_count,
      lists.last_count,
      length-take c.loop-job.job-index first,
      count-both c.args.instance.now.jobs first c.args.last.now c.loop-job.invariant.are_jobs,
    )

pub loop-job-preserved : goal.loop-job-preserved
loop-job-preserved c =
    let shop = c.args.instance.now in
    let first = c.args.first.now in
    let index = c.loop-job.job-index in
    let here = c.loop-job.invariant in
    let long : index < length first = omega arith in
    let next = next-at shop.jobs [] first index long (jobs-first shop.jobs first c.args.last.now here.are_jobs) in
    let more : take index first ++ slice_index first index ∷ [] ≡ take (index + 1) first =
    sym (take_more first index 0 long) in
    record {
      are_jobs = here.are_jobs;
      holds = here.holds;
      is_node = subst (λ xs. IsNode shop xs [] c.put.new.self) more
          (c.put.ensures (take index first) [] here.is_node
          (ap (λ xs. has xs (slice_index first index)) (append-nil (take index first)) ∙ next.fresh));
      has_lists = subst (λ xs. HasLists shop.jobs xs [] c.put-in-loop-job.new.self) more
          (c.put-in-loop-job.ensures shop.jobs (take index first) [] here.has_lists);
    }

pub put-requires-in-loop-place-clause-job : goal.put-requires-in-loop-place-clause-job
put-requires-in-loop-place-clause-job c =
    let next = next-back c.args.instance.now.jobs c.args.first.now c.args.last.now c.loop-place.place
    (omega arith) (omega (arith, c.loop-place.invariant.within)) c.loop-place.invariant.are_jobs in
    (next.from, next.to)

pub put-requires-in-loop-place-clause-left : goal.put-requires-in-loop-place-clause-left
put-requires-in-loop-place-clause-left c =
    let next = next-back c.args.instance.now.jobs c.args.first.now c.args.last.now c.loop-place.place
    (omega arith) (omega (arith, c.loop-place.invariant.within)) c.loop-place.invariant.are_jobs in
    (c.args.first.now, drop c.loop-place.place c.args.last.now, c.loop-place.invariant.is_node, next.fresh)

pub put-requires-in-loop-place-2 : goal.put-requires-in-loop-place-2
put-requires-in-loop-place-2 c =
    let last = c.args.last.now in
    let lists = c.loop-place.invariant.has_lists in
    let low : 1 ≤ c.loop-place.place = omega arith in
    omega (
      arith,
      low,
      c.loop-place.invariant.within,
      lists.size,
      lists.first_count,
      lists.last_count,
      length-drop c.loop-place.place last,
      count-both c.args.instance.now.jobs c.args.first.now last c.loop-place.invariant.are_jobs,
    )

pub loop-place-init : goal.loop-place-init
loop-place-init c =
    let shop = c.args.instance.now in
    let first = c.args.first.now in
    let last = c.args.last.now in
    let here = c.loop-job.invariant in
    let all : take c.loop-job.job-index first ≡ first =
    take_all c.loop-job.job-index first (omega (arith, c.loop-job-test.false)) in
    let none : [] ≡ drop (length last) last = sym (drop_all (length last) last (omega arith)) in
    record {
      are_jobs = here.are_jobs;
      holds = here.holds;
      within = omega arith;
      is_node = subst (λ xs. IsNode shop first xs c.loop-job.node) none
          (subst (λ xs. IsNode shop xs [] c.loop-job.node) all here.is_node);
      has_lists = subst (λ xs. HasLists shop.jobs first xs c.loop-job.lists) none
          (subst (λ xs. HasLists shop.jobs xs [] c.loop-job.lists) all here.has_lists);
    }

pub loop-place-preserved : goal.loop-place-preserved
loop-place-preserved c =
    let shop = c.args.instance.now in
    let first = c.args.first.now in
    let last = c.args.last.now in
    let place = c.loop-place.place in
    let here = c.loop-place.invariant in
    let low : 1 ≤ place = omega arith in
    let next = next-back shop.jobs first last place low here.within here.are_jobs in
    let more : slice_index last (place - 1) ∷ drop place last ≡ drop (place - 1) last =
    sym (drop-at last place low here.within) in
    record {
      are_jobs = here.are_jobs;
      holds = here.holds;
      within = omega (arith, here.within);
      is_node = subst (λ xs. IsNode shop first xs c.put-in-loop-place.new.self) more
          (c.put-in-loop-place.ensures first (drop place last) here.is_node next.fresh);
      has_lists = subst (λ xs. HasLists shop.jobs first xs c.put-in-loop-place-2.new.self) more
          (c.put-in-loop-place-2.ensures shop.jobs first (drop place last) here.has_lists);
    }

pub returns-clause-start : goal.returns-clause-start
returns-clause-start c =
    let shop = c.args.instance.now in
    let first = c.args.first.now in
    let last = c.args.last.now in
    let here = c.loop-place.invariant in
    let none : c.loop-place.place ≡ 0 = omega arith in
    record {
      are_jobs = here.are_jobs;
      is_node = subst (λ k. IsNode shop first (drop k last) c.loop-place.node) none here.is_node;
      has_lists = subst (λ k. HasLists shop.jobs first (drop k last) c.loop-place.lists) none here.has_lists;
      holds = here.holds;
      left = omega (arith, c.jobs-2.ensures.value, count-both shop.jobs first last here.are_jobs);
    }

pub returns-clause-refused : goal.returns-clause-refused
returns-clause-refused c = (λ e. absurd (cc), λ not. absurd (not c.loop-place.invariant.are_jobs))
