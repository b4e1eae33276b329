use Rattle.flow_check.proofs.KindsRead.{kind_is_one}
use Rattle.flow_check.proofs.laws.kind_is_one.Goals as goal

pub returns : goal.returns
returns c = kind_is_one
