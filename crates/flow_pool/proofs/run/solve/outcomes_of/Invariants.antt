use Rattle.std.proofs.Common.{◌≡◌, map, vec_capacity}
use Rattle.flow_pool.proofs.run.solve.outcomes_of.Given as goal

abbrev pub invariant-each : goal.invariant-each
invariant-each l =
    record {
      items : l.outcomes.items ≡ map (λ a. a.outcome) l.yielded;
      room : vec_capacity l.outcomes ≡ vec_capacity l.fn.room;
    }
