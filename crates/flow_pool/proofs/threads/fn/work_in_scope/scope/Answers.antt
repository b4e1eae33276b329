use Rattle.std.proofs.Common.{[], ◌∙◌, sym, append-nil}
use Rattle.flow_pool.proofs.threads.fn.work_in_scope.scope.Goals as goal

pub returns : goal.returns
returns g c =
    let e = c.work_in_threads.ensures in
    let same = c.requires.0.same in (
      record {
        lanes = e.lanes [] (same ∙ sym (append-nil _)) ∙ append-nil _;
        served = e.served;
        collected = e.collected;
      },
      e.few,
      e.directed,
      e.start,
    )
