use Rattle.std.proofs.Common.{◌∙◌, ap}
use Rattle.std.proofs.lemmas.Bool.{false≢true}
use Rattle.flow_pool.specs.Work.{answered}
use Rattle.flow_pool.specs.internal.Settling.{ends_once}
use Rattle.flow_pool.proofs.Settles.{ends_once-asking, prefix-ended}
use Rattle.flow_pool.proofs.settling.settle_pair.Goals as goal

pub unreachable-requires : goal.unreachable-requires
unreachable-requires c =
    let e = c.in_default.ensures in
    false≢true (e.ok_where_all_received.1 (prefix-ended _ _ (ap ends_once c.requires.worker
    ∙ ends_once-asking (answered c.args.worker.answers.sent)) c.requires.hub.ends e.received_in_order))
