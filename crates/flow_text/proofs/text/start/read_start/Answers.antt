use Rattle.std.proofs.Common.{rules}
use Rattle.flow_text.specs.declared.text.start.StartFault.TheVariants.{Line}
use Rattle.flow_text.proofs.StartGrammar.{is-start}
use Rattle.flow_text.proofs.StartFaultLemmas.{has-fault, has-refused}
use Rattle.flow_text.proofs.text.start.read_start.Goals as goal

pub returns-in_err-jobs-in-Ok-clause-refused : goal.returns-in_err-jobs-in-Ok-clause-refused
returns-in_err-jobs-in-Ok-clause-refused c =
    has-refused c.from_residual.result c.args.text.now (search rules)

pub returns-in_err-claim-in-Ok-clause-refused : goal.returns-in_err-claim-in-Ok-clause-refused
returns-in_err-claim-in-Ok-clause-refused c =
    has-refused c.from_residual-in_err-claim-in-Ok.result c.args.text.now (search rules)

pub returns-in_ok-claim-in-Ok-clause-value : goal.returns-in_ok-claim-in-Ok-clause-value
returns-in_ok-claim-in-Ok-clause-value c = is-start c.args.text.now _ (search rules)

pub returns-in-Err-clause-refused : goal.returns-in-Err-clause-refused
returns-in-Err-clause-refused c = λ known. has-fault c.args.text.now (Line c.in-Err.number) (search rules)
