use Rattle.std.proofs.Common.{◌≡◌, map, vec_len}
use Rattle.std.specs.Prelude.{All}
use Rattle.flow_pool.specs.Report.{run_slots}
use Rattle.flow_pool.specs.Deal.{by_worker}
use Rattle.flow_pool.specs.Work.{IsFresh, worker_lanes}
use Rattle.flow_pool.specs.Hub.{hub_lanes}
use Rattle.flow_pool.specs.internal.HubSteps.{hub_slots}
use Rattle.flow_pool.specs.internal.Settling.{IsReadyHub}
use Rattle.flow_pool.proofs.run.make.make_lanes.Given as goal

abbrev pub invariant-made : goal.invariant-made
invariant-made l =
    record {
      count : (vec_len l.hubs ≡ l.made) × (vec_len l.ends ≡ l.made);
      lanes : map hub_lanes l.hubs.items ≡ map worker_lanes l.ends.items;
      fresh : All IsReadyHub l.hubs.items × All IsFresh l.ends.items;
      slots : map hub_slots l.hubs.items ≡ by_worker l.made (λ worker. (run_slots, run_slots));
    }
