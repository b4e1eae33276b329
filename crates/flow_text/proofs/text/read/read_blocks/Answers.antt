use Rattle.flow_text.proofs.TextAnswers.{reads-of-answer, accepted-of-answer, refused-of-answer, only-of-answer}
use Rattle.flow_text.proofs.text.read.read_blocks.Goals as goal

pub returns-clause-value : goal.returns-clause-value
returns-clause-value c = reads-of-answer (λ blocks. blocks.items) c.walk_text.result c.args.text.now c.walk_text.ensures

pub returns-clause-accepted : goal.returns-clause-accepted
returns-clause-accepted c =
    accepted-of-answer (λ blocks. blocks.items) c.walk_text.result c.args.text.now c.walk_text.ensures

pub returns-clause-refused : goal.returns-clause-refused
returns-clause-refused c =
    refused-of-answer (λ blocks. blocks.items) c.walk_text.result c.args.text.now c.walk_text.ensures

pub returns-clause-only : goal.returns-clause-only
returns-clause-only c = only-of-answer (λ blocks. blocks.items) c.walk_text.result c.args.text.now c.walk_text.ensures
