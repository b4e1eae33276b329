use Rattle.std.proofs.Common.{◌≡◌, map, length}
use Rattle.std.specs.List.{AllWithin}
use Rattle.flow_pool.specs.Hub.{hub_lanes}
use Rattle.flow_pool.specs.internal.Settling.{IsReadyHub, IsCollected}
use Rattle.flow_pool.proofs.threads.end_each.Given as goal

abbrev pub invariant-each : goal.invariant-each
invariant-each l =
    record {
      lanes : map hub_lanes l.hubs ≡ map hub_lanes l.fn.hubs;
      ended : AllWithin IsCollected l.hubs 0 l.worker;
      ready : AllWithin IsReadyHub l.hubs l.worker (length l.fn.hubs);
    }
