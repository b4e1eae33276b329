use Rattle.flow_shop.proofs.InstanceLemmas.{instance-fault-none-is, is-instance-fault-none}
use Rattle.flow_shop.proofs.laws.instances_have_no_fault.Goals as goal

pub returns-clause-is : goal.returns-clause-is
returns-clause-is c = instance-fault-none-is

pub returns-clause-has : goal.returns-clause-has
returns-clause-has c = is-instance-fault-none
