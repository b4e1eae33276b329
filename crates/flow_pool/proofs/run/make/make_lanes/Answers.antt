use Rattle.std.proofs.Common.{ℕ, ◌∙◌, ◌∷◌, [], ◌++◌, ap, map, sym, arith}
use Rattle.std.proofs.lemmas.List.{map_push}
use Rattle.std.proofs.lemmas.List.Elements.{All-push, All-same}
use Rattle.std.proofs.lemmas.List.FromFn.{map-range_with_len_more}
use Rattle.flow_pool.specs.Report.{run_slots}
use Rattle.flow_pool.specs.Deal.{by_worker}
use Rattle.flow_pool.specs.Work.{IsFresh, worker_lanes}
use Rattle.flow_pool.specs.Hub.{hub_lanes}
use Rattle.flow_pool.specs.internal.HubSteps.{hub_slots}
use Rattle.flow_pool.specs.internal.Settling.{IsReadyHub}
use Rattle.flow_pool.proofs.Pops.{map-push-both}
use Rattle.flow_pool.proofs.run.make.make_lanes.Goals as goal

abbrev slots_of : ℕ → ℕ × ℕ
slots_of worker = (run_slots, run_slots)

pub made-preserved : goal.made-preserved
made-preserved c =
    let i = c.made.invariant in
    let hubs = c.in_ok-push.ensures.items in
    let ends = c.in_ok-push-2.ensures.items in
    let made = c.in_ok-hub.ensures in
    record {
      count = (omega (arith, c.in_ok-push.ensures.len), omega (arith, c.in_ok-push-2.ensures.len));
      lanes = map-push-both hub_lanes worker_lanes _ _ _ _ _ _ hubs ends i.lanes made.lanes;
      fresh = (
        All-same IsReadyHub _ _ hubs (All-push IsReadyHub _ _ i.fresh.0 made.fresh.0),
        All-same IsFresh _ _ ends (All-push IsFresh _ _ i.fresh.1 made.fresh.1),
      );
      slots =
          ap (map hub_slots) hubs
          ∙ (map_push hub_slots c.made.hubs.items c.in_ok-hub.hub
          ∙ (ap (λ l. l ++ hub_slots c.in_ok-hub.hub ∷ []) i.slots
          ∙ (ap (λ q. by_worker c.made.made slots_of ++ q ∷ []) made.slots
          ∙ sym (map-range_with_len_more slots_of 0 c.made.made c.made.made (omega arith)))));
    }
