use Rattle.flow_text.proofs.TextAnswers.{none-reads, reads-none, reads-one}
use Rattle.flow_text.proofs.laws.texts_have_no_fault.Goals as goal

pub returns-clause-is : goal.returns-clause-is
returns-clause-is c = none-reads

pub returns-clause-has : goal.returns-clause-has
returns-clause-has c = reads-none

pub returns-clause-one : goal.returns-clause-one
returns-clause-one c = reads-one
