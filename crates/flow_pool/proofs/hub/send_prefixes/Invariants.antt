use Rattle.std.proofs.Common.{◌≡◌, length, map, vec_capacity}
use Rattle.flow_pool.specs.Deal.{by_worker}
use Rattle.flow_pool.specs.internal.HubSteps.{asked}
use Rattle.flow_pool.specs.Hub.{hub_lanes, sent_lists}
use Rattle.flow_pool.specs.internal.HubSteps.{HasTaken}
use Rattle.flow_pool.proofs.hub.send_prefixes.Given as goal

abbrev pub invariant-asking : goal.invariant-asking
invariant-asking g l =
    let k = length l.fn.hubs in
    record {
      lanes : map hub_lanes l.hubs ≡ map hub_lanes l.fn.hubs;
      sent : sent_lists l.hubs ≡ by_worker k (asked k l.number);
      taken : HasTaken l.hubs l.answers l.number;
      capacity : vec_capacity l.answers ≡ vec_capacity l.fn.answers;
    }
