use Rattle.std.proofs.Common.{◌≡◌, ◌∙◌, length, refl, arith}
use Rattle.flow_pool.proofs.Asked.{ended-none, ended-all, pushed_at-ended}
use Rattle.flow_pool.proofs.hub.send_ends.Goals as goal

pub ending-init : goal.ending-init
ending-init g c = record {
  lanes = refl;
  sent = c.requires.asked
      ∙ ended-none (length c.args.hubs.now) c.args.count;
  taken = c.requires.taken;
  kept = λ none. none;
}

pub ending-preserved : goal.ending-preserved
ending-preserved g c =
    let next = pushed_at-ended (length c.args.hubs.now) c.args.count c.ending.worker (omega arith) in
    let e = c.send_on-ended.ensures in
    let here = rw c.if-prove.false at e.sent in
    record { lanes = cc; sent = cc; taken = e.taken; kept = λ none. c.ending.invariant.kept (e.kept none) }

pub returns-clause-sent : goal.returns-clause-sent
returns-clause-sent g c =
    let last : c.ending.worker ≡ length c.args.hubs.now = omega arith in
    let all = ended-all (length c.args.hubs.now) c.args.count in
    cc
