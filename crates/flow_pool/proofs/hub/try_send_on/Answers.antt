use Rattle.std.proofs.Common.{ap}
use Rattle.std.proofs.Math.Seq.{map-set_same}
use Rattle.flow_pool.specs.declared.lane_ends.HubEnds.{HubEnds}
use Rattle.flow_pool.specs.Hub.{hub_lanes}
use Rattle.flow_pool.proofs.Hubs.{map-set-pushed}
use Rattle.flow_pool.proofs.hub.try_send_on.Goals as goal

pub returns-in-Ok-clause-lanes : goal.returns-in-Ok-clause-lanes
returns-in-Ok-clause-lanes c = map-set_same hub_lanes _ _ _ c.index-hubs-worker.result cc

pub returns-in-Ok-clause-sent : goal.returns-in-Ok-clause-sent
returns-in-Ok-clause-sent c =
    map-set-pushed (λ (h :
    HubEnds). h.tasks.sent) _ _ _ c.index-hubs-worker.result _ c.requires c.in-Ok.ensures.at_the_end

pub returns-in-Ok-clause-received : goal.returns-in-Ok-clause-received
returns-in-Ok-clause-received c = map-set_same (λ (h : HubEnds). h.answers.received) _ _ _ c.index-hubs-worker.result cc

pub returns-in-Err-clause-lanes : goal.returns-in-Err-clause-lanes
returns-in-Err-clause-lanes c = map-set_same hub_lanes _ _ _ c.index-hubs-worker.result cc

pub returns-in-Err-clause-sent : goal.returns-in-Err-clause-sent
returns-in-Err-clause-sent c =
    map-set_same (λ (h : HubEnds). h.tasks.sent) _ _ _ c.index-hubs-worker.result (ap
    (λ s. s.sent) c.in-Err.ensures.handed_back.1)

pub returns-in-Err-clause-received : goal.returns-in-Err-clause-received
returns-in-Err-clause-received c =
    map-set_same (λ (h : HubEnds). h.answers.received) _ _ _ c.index-hubs-worker.result cc
