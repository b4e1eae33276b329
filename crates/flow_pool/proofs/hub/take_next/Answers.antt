use Rattle.std.proofs.Common.{◌%◌, ◌∙◌, length, ap, arith}
use Rattle.std.proofs.Math.Seq.{map-set_same}
use Rattle.flow_pool.specs.declared.lane_ends.HubEnds.{HubEnds}
use Rattle.flow_pool.specs.Hub.{hub_lanes}
use Rattle.flow_pool.proofs.Hubs.{all_dealt-push}
use Rattle.flow_pool.proofs.Over.{any_over_budget-push}
use Rattle.flow_pool.proofs.hub.take_next.Goals as goal

pub returns-in_default-clause-lanes : goal.returns-in_default-clause-lanes
returns-in_default-clause-lanes c = map-set_same hub_lanes _ _ _ c.index-hubs-turn.result cc

pub returns-in_default-clause-sent : goal.returns-in_default-clause-sent
returns-in_default-clause-sent c = map-set_same (λ (h : HubEnds). h.tasks.sent) _ _ _ c.index-hubs-turn.result cc

pub returns-in_default-clause-dealt : goal.returns-in_default-clause-dealt
returns-in_default-clause-dealt c =
    map-set_same (λ (h : HubEnds). h.answers.received) _ _ _ c.index-hubs-turn.result (ap
    (λ r. r.received) c.in_default.ensures.unchanged_at_none) ∙ c.requires.dealt

pub returns-clause-lanes : goal.returns-clause-lanes
returns-clause-lanes c = map-set_same hub_lanes _ _ _ c.index-hubs-turn.result cc

pub returns-clause-sent : goal.returns-clause-sent
returns-clause-sent c = map-set_same (λ (h : HubEnds). h.tasks.sent) _ _ _ c.index-hubs-turn.result cc

pub returns-clause-dealt : goal.returns-clause-dealt
returns-clause-dealt c =
    all_dealt-push c.args.hubs.now c.args.answers.now.items _ _ _ c.index-hubs-turn.result c.in-Some.answer
    (ap (λ n. n % length c.args.hubs.now) (omega arith))
    (omega arith) c.push_reserved.ensures.items c.in-Some.ensures.at_the_end c.requires.dealt

pub returns-clause-kept : goal.returns-clause-kept
returns-clause-kept c =
    any_over_budget-push c.args.answers.now.items _ c.in-Some.answer c.push_reserved.ensures.items
