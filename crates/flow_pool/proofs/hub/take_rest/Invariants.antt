use Rattle.std.proofs.Common.{◌≡◌, false, map}
use Rattle.flow_pool.specs.Hub.{hub_lanes, sent_lists}
use Rattle.flow_pool.specs.internal.HubSteps.{HasTaken, any_over_budget}
use Rattle.flow_pool.proofs.hub.take_rest.Given as goal

abbrev pub invariant-draining : goal.invariant-draining
invariant-draining g l =
    record {
      lanes : map hub_lanes l.hubs ≡ map hub_lanes l.fn.hubs;
      sent : sent_lists l.hubs ≡ sent_lists l.fn.hubs;
      taken : HasTaken l.hubs l.answers l.count;
      kept : any_over_budget l.answers.items ≡ false → any_over_budget l.fn.answers.items ≡ false;
    }
