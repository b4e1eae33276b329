use Rattle.std.proofs.Common.{◌≡◌, ◌∙◌, ◌+◌, ◌++◌, [], ◌∷◌, ap, sym, subst, length, arith}
use Rattle.std.proofs.Math.Nat.{le_refl}
use Rattle.std.proofs.Math.Seq.{map-set_same}
use Rattle.std.proofs.lemmas.List.{get_or-set_other}
use Rattle.std.proofs.lemmas.List.Elements.{AllWithin-more_set}
use Rattle.flow_pool.specs.declared.messages.Task.TheVariants.{End}
use Rattle.flow_pool.specs.Hub.{hub_lanes}
use Rattle.flow_pool.specs.internal.Settling.{IsReadyHub, IsCollected, ends_once}
use Rattle.flow_pool.proofs.threads.end_each.Goals as goal

pub each-preserved : goal.each-preserved
each-preserved c =
    let i = c.each.invariant in
    let hubs = c.each.hubs in
    let worker = c.each.worker in
    let hub = c.index-hubs-worker.result in
    let ready = i.ready worker hub (le_refl worker) (omega arith) in
    let sent : c.try_send.new.self.sent ≡ End ∷ [] = c.in-Ok.ensures.at_the_end ∙ ap (λ l. l ++ End ∷ []) ready.sent in
    record {
      lanes = map-set_same hub_lanes _ _ _ hub (cc) ∙ i.lanes;
      ended = AllWithin-more_set hubs worker _ (omega arith) IsCollected i.ended (record {
        ends =
            ap ends_once sent;
        count = ap length sent ∙ sym (ap (λ l. length l + 1) ready.received);
      });
      ready = λ k d low high. subst IsReadyHub (sym (get_or-set_other hubs worker k _ d (λ e. absurd (omega arith))))
          (i.ready k d (omega arith) high);
    }
