use Rattle.std.proofs.Common.{rules, sym, subst, ◌∙◌}
use Rattle.flow_certify.specs.Schedule.{IsNext, none, asked, further}
use Rattle.flow_certify.specs.declared.run.Run.{Run}
use Rattle.flow_certify.specs.declared.task.Task.TheVariants.{End}
use Rattle.flow_certify.proofs.run.Run.next.Goals as goal

pub returns-in-Some-task_of-clause-next : goal.returns-in-Some-task_of-clause-next
returns-in-Some-task_of-clause-next c =
    c.acts.invariant.2 c.acts.self c.in-Some-task_of.task (asked c.acts.self c.in-Some.act c.in-Some-task_of.task
    (sym c.act_at_hand.ensures.act ∙ c.in-Some.is) (sym c.task_of.ensures.task ∙ c.in-Some-task_of.is))

pub acts-preserved : goal.acts-preserved
acts-preserved c = (
  search rules,
  search rules,
  λ after task next.
      c.acts.invariant.2 after task (further c.acts.self after c.in-Some.act task
      (sym c.act_at_hand.ensures.act ∙ c.in-Some.is) (sym c.task_of.ensures.task ∙ c.in_default-task_of.is)
      (subst (λ (run : Run). IsNext c.args.effort.now run after task) c.pass.ensures.passed next)),
)

pub returns-clause-next : goal.returns-clause-next
returns-clause-next c =
    c.acts.invariant.2 c.acts.self End (none c.acts.self (sym c.act_at_hand.ensures.act ∙ c.in_default.is))
