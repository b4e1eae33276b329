use Rattle.std.proofs.Common.{◌≡◌, ◌∙◌, None, Some, length, map, sym, ap, rules, arith}
use Rattle.flow_search.specs.Verdicts.{first_refusal}
use Rattle.flow_pool.specs.declared.messages.Answer.{Answer}
use Rattle.flow_pool.specs.internal.Settling.{pair_tasks, worker_tasks}
use Rattle.flow_pool.proofs.Over.{IsSolveFault-first, none-over_budget}
use Rattle.flow_pool.proofs.Whole.{answers-of-run, lawful-outcomes, All-IsDoneAnswer, AreWholeWork-from_parts}
use Rattle.flow_pool.proofs.Whole.{HasCollected-dealt, same-length}
use Rattle.flow_pool.proofs.run.solve.run_made.Goals as goal

pub returns-in-UsedUp : goal.returns-in-UsedUp
returns-in-UsedUp g c =
    let started = rw c.in-UsedUp.is at c.run_workers-ended.ensures.start in
    let all = same-length pair_tasks worker_tasks _ _ c.settle_all.ensures.tasks.1 in
    (omega (arith, started.1, c.requires.workers), omega (arith, all, started.0))

pub returns-in-Refused : goal.returns-in-Refused
returns-in-Refused g c =
    let started = rw c.in-Refused.is at c.run_workers-ended.ensures.start in
    let all = same-length pair_tasks worker_tasks _ _ c.settle_all.ensures.tasks.1 in
    (omega (arith, all, started.0), omega (arith, all, started.1, c.requires.workers))

pub first_refusal-requires : goal.first_refusal-requires
first_refusal-requires g c =
    let directed = c.run_workers-ended.ensures.directed c.in-Complete.is in
    let settled = c.settle_all.ensures in
    let lawful = lawful-outcomes c.args.plan.now _ _ _ _ _ _ directed
    c.run_workers-ended.ensures.ended.served
    settled.tasks settled.answers c.requires.some c.outcomes_of-outcomes.ensures in
    omega (arith, directed.few, c.requires.few, lawful.1, ap length c.deref.ensures.value)

pub returns-in-Some : goal.returns-in-Some
returns-in-Some g c =
    let directed = c.run_workers-ended.ensures.directed c.in-Complete.is in
    let settled = c.settle_all.ensures in
    let outcomes = c.outcomes_of-outcomes.result.items in
    let lawful = lawful-outcomes c.args.plan.now _ _ _ _ _ _ directed
    c.run_workers-ended.ensures.ended.served
    settled.tasks settled.answers c.requires.some c.outcomes_of-outcomes.ensures in
    let started = rw c.in-Complete.is at c.run_workers-ended.ensures.start in
    let all = same-length pair_tasks worker_tasks _ _ settled.tasks.1 in
    let first : first_refusal 0 outcomes ≡ Some c.in-Some.fault =
    ap (first_refusal 0) (sym c.deref.ensures.value) ∙ (sym c.first_refusal.ensures ∙ c.in-Some.is) in (
      IsSolveFault-first c.args.plan.now outcomes c.in-Some.fault (omega (arith, lawful.1, directed.few))
          lawful.0 first,
      (
        omega (arith, started.1, c.requires.workers),
        omega (arith, all, started.0, c.requires.workers),
      ),
    )

pub conclude-requires-clause-count : goal.conclude-requires-clause-count
conclude-requires-clause-count g c =
    let directed = c.run_workers-ended.ensures.directed c.in-Complete.is in
    let settled = c.settle_all.ensures in
    let answers = c.run_workers-ended.result.hub.answers.items in
    let lawful = lawful-outcomes c.args.plan.now _ _ _ _ _ _ directed
    c.run_workers-ended.ensures.ended.served
    settled.tasks settled.answers c.requires.some c.outcomes_of-outcomes.ensures in
    let none : first_refusal 0 (map (λ (a : Answer). a.outcome) answers) ≡ None =
    ap (first_refusal 0) (sym (c.deref.ensures.value ∙ c.outcomes_of-outcomes.ensures))
    ∙ (sym c.first_refusal.ensures ∙ c.in_default.is) in
    c.outcomes_of-outcomes.result.ok.0 ∙ (lawful.1 ∙ directed.whole (none-over_budget 0 answers none))

pub conclude-requires-clause-lawful : goal.conclude-requires-clause-lawful
conclude-requires-clause-lawful g c =
    let directed = c.run_workers-ended.ensures.directed c.in-Complete.is in
    let settled = c.settle_all.ensures in
    (lawful-outcomes c.args.plan.now _ _ _ _ _ _ directed c.run_workers-ended.ensures.ended.served
    settled.tasks settled.answers c.requires.some c.outcomes_of-outcomes.ensures).0

pub returns-in-Ok : goal.returns-in-Ok
returns-in-Ok g c =
    let p = c.args.plan.now in
    let directed = c.run_workers-ended.ensures.directed c.in-Complete.is in
    let served = c.run_workers-ended.ensures.ended.served in
    let settled = c.settle_all.ensures in
    let t = settled.tasks in
    let a = settled.answers in
    let answers = c.run_workers-ended.result.hub.answers.items in
    let none : first_refusal 0 (map (λ (a : Answer). a.outcome) answers) ≡ None =
    ap (first_refusal 0) (sym (c.deref.ensures.value ∙ c.outcomes_of-outcomes.ensures))
    ∙ (sym c.first_refusal.ensures ∙ c.in_default.is) in
    let all = directed.whole (none-over_budget 0 answers none) in
    let collected = HasCollected-dealt p _ _ answers directed.dealt all in
    let run = answers-of-run p _ _ _ answers _ directed.dealt served t a c.requires.some in
    let found = c.in-Ok.ensures in
    let done = All-IsDoneAnswer p answers _ directed.few run.0 run.1 c.outcomes_of-outcomes.ensures found.done in (
      record {
        lanes = AreWholeWork-from_parts p _ _ _ answers _ collected served done t.0 t.1 a.0 a.1 settled.received
            settled.lanes c.requires.slots;
        within = search rules;
        verdict = found.verdict;
        least = record { least = found.least; attained = found.attained; sequence = found.sequence };
      },
      search rules,
    )
