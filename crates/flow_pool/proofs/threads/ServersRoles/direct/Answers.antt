use Rattle.flow_pool.proofs.Whole.{All-IsCollected}
use Rattle.flow_pool.proofs.threads.ServersRoles.direct.Goals as goal

pub returns-clause-collected : goal.returns-clause-collected
returns-clause-collected g c =
    All-IsCollected c.args.self.now.plan.now.options.workers _ _ _ c.collect_by-hubs.ensures.directed.dealt
