use Rattle.flow_shop.proofs.SequenceLemmas.{sequence-fault-none-is, is-fault-none}
use Rattle.flow_shop.proofs.laws.sequences_have_no_fault.Goals as goal

pub returns-clause-is : goal.returns-clause-is
returns-clause-is c = sequence-fault-none-is

pub returns-clause-has : goal.returns-clause-has
returns-clause-has c = is-fault-none
