use Rattle.std.proofs.Common.{refl}
use Rattle.flow_search.proofs.ColumnsOpened.{opened-same}
use Rattle.flow_search.proofs.few_left.releases.test_releases.Goals as goal

pub returns-clause-tested : goal.returns-clause-tested
returns-clause-tested c list tested = record {
  opened = opened-same c.args.instance.now list c.args.group.now c.args.frame.now _ refl refl refl refl
      tested.opened.at tested.opened.free;
  unpruned = λ column other here there differ.
      c.unpruned_by_releases-frame.ensures list column other tested (record { within = here.within; left = here.left })
      (record { within = there.within; left = there.left }) differ;
}
