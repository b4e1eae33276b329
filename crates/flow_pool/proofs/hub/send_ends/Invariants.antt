use Rattle.std.proofs.Common.{◌≡◌, false, length, map}
use Rattle.flow_pool.specs.Deal.{by_worker}
use Rattle.flow_pool.specs.Hub.{hub_lanes, sent_lists}
use Rattle.flow_pool.specs.internal.HubSteps.{HasTaken, any_over_budget}
use Rattle.flow_pool.proofs.Asked.{ended}
use Rattle.flow_pool.proofs.hub.send_ends.Given as goal

abbrev pub invariant-ending : goal.invariant-ending
invariant-ending g l =
    let k = length l.fn.hubs in
    record {
      lanes : map hub_lanes l.hubs ≡ map hub_lanes l.fn.hubs;
      sent : sent_lists l.hubs ≡ by_worker k (ended k l.count l.worker);
      taken : HasTaken l.hubs l.answers l.limit;
      kept : any_over_budget l.answers.items ≡ false → any_over_budget l.fn.answers.items ≡ false;
    }
