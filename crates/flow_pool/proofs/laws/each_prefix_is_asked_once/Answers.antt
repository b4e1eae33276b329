use Rattle.flow_pool.proofs.Shares.{times_asked-of_own, times_asked-of_other, times_asked-beyond}
use Rattle.flow_pool.proofs.laws.each_prefix_is_asked_once.Goals as goal

pub returns-clause-of_its_worker : goal.returns-clause-of_its_worker
returns-clause-of_its_worker c = times_asked-of_own

pub returns-clause-of_no_other : goal.returns-clause-of_no_other
returns-clause-of_no_other c = times_asked-of_other

pub returns-clause-none_beyond : goal.returns-clause-none_beyond
returns-clause-none_beyond c = times_asked-beyond
