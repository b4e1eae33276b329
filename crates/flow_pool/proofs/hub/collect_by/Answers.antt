use Rattle.std.proofs.Common.{◌∙◌, arith}
use Rattle.std.proofs.lemmas.Grind.{common_steps}
use Rattle.flow_pool.proofs.hub.collect_by.Goals as goal

pub returns-clause-directed : goal.returns-clause-directed
returns-clause-directed g c =
    let rest = c.take_rest.ensures in
    let sent = c.send_prefixes-count.ensures in
    record {
      dealt = record {
        lanes = grind (arith, common_steps);
        sent = grind (arith, common_steps);
        received = grind (arith, common_steps);
      };
      few = omega (arith, rest.all, sent.few, c.prefixes.ensures.value);
      whole = λ none. rest.all ∙ (sent.whole (c.send_ends.ensures.kept (rest.kept none)) ∙ c.prefixes.ensures.value);
    }

pub returns-clause-all : goal.returns-clause-all
returns-clause-all g c early =
    c.take_rest.ensures.all ∙ (c.send_prefixes-count.ensures.all early ∙ c.prefixes.ensures.value)

pub returns-clause-some : goal.returns-clause-some
returns-clause-some g c = c.prefixes.ensures.plan.option_limits.some_worker
