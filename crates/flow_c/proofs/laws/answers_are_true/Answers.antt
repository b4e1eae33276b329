use Rattle.flow_c.proofs.Answered.{proved-goes-on, answers-are-true}
use Rattle.flow_c.proofs.laws.answers_are_true.Goals as goal

pub returns-clause-goes_on : goal.returns-clause-goes_on
returns-clause-goes_on c = proved-goes-on

pub returns-clause-answers : goal.returns-clause-answers
returns-clause-answers c = answers-are-true
