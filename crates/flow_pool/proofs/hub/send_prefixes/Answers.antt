use Rattle.std.proofs.Common.{[], length, refl, ap, rules, arith, ◌∙◌}
use Rattle.flow_pool.specs.declared.lane_ends.HubEnds.{HubEnds}
use Rattle.flow_pool.specs.Deal.{dealt}
use Rattle.flow_pool.specs.internal.HubSteps.{asked}
use Rattle.flow_pool.proofs.Asked.{map-by_worker, asked-none, pushed_at-asked}
use Rattle.flow_pool.proofs.Undeal.{dealt_from-nil}
use Rattle.flow_pool.proofs.hub.send_prefixes.Goals as goal

pub asking-init : goal.asking-init
asking-init g c =
    let hubs = c.args.hubs.now in
    let k = length hubs in
    record {
      lanes = refl;
      sent = map-by_worker (λ (h : HubEnds). h.tasks.sent) (asked k 0) hubs (λ i d l. (c.requires.fresh i d l).0)
          (asked-none k);
      taken = record {
        dealt = rw c.requires.empty (map-by_worker (λ (h : HubEnds). h.answers.received) (λ worker. dealt k worker [])
            hubs (λ i d l. (c.requires.fresh i d l).1) (λ worker. dealt_from-nil k worker 0));
        few = omega (arith, c.args.answers.now.ok.0, ap length c.requires.empty);
        room = search rules;
      };
      capacity = refl;
    }

pub asking-preserved : goal.asking-preserved
asking-preserved g c =
    let next = pushed_at-asked (length c.args.hubs.now) c.asking.number c.requires.some in
    let e = c.send_on.ensures in
    let here = rw c.if-not-send_on.false at e.sent in
    record {
      lanes = cc;
      sent = cc;
      taken = record {
        dealt = e.taken.dealt;
        few = omega (arith, e.taken.few);
        room = omega (arith, e.capacity, c.asking.invariant.capacity, c.requires.room);
      };
      capacity = e.capacity ∙ c.asking.invariant.capacity;
    }
