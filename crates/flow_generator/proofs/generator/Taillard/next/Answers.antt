use Rattle.flow_generator.proofs.GeneratorLemmas.{state_after-step}
use Rattle.flow_generator.proofs.generator.Taillard.next.Goals as goal

pub returns-clause-state : goal.returns-clause-state
returns-clause-state c seed steps before =
    state_after-step seed steps c.args.self.now c.step.new.self before c.step.ensures
