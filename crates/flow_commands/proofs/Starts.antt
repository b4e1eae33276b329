-- What is answered for the sequence that a start text gives, or without one.
use Rattle.std.proofs.Common.{◌≡◌, ◌⊎◌, inl, inr, ℕ, List, Option, Some, None, Err}
use Rattle.flow_core.specs.Shop.{Shop}
use Rattle.flow_commands.specs.Output.{Output}
use Rattle.flow_commands.specs.Block.{Origin}
use Rattle.flow_commands.specs.Start.{FromStart}
use Rattle.flow_commands.specs.declared.refusals.CommandFault.{CommandFault}
use Rattle.flow_commands.specs.declared.refusals.CommandFault.TheVariants.{Memory}
use Rattle.flow_commands.specs.internal.Given.{GivesSequence}

module _ (A : Shop → Option (List ℕ) → Output → Type 0) (origin : Origin) where
  -- the answer for the sequence that it gives
  pub given-answers : (text jobs : Option (List ℕ)) (answer : Output) →
      GivesSequence origin.block.instance text jobs → A origin.block.instance jobs answer →
      FromStart A origin text answer
  given-answers None None answer gives answers = answers
  given-answers (Some text) (Some jobs) answer gives answers = inl (jobs, gives, answers)
  given-answers None (Some jobs) answer gives answers = absurd gives
  given-answers (Some text) None answer gives answers = absurd gives

  -- the same of a fault, or that memory ran out
  pub given-refused : (text jobs : Option (List ℕ)) (fault : CommandFault) →
      GivesSequence origin.block.instance text jobs →
      (fault ≡ Memory) ⊎ A origin.block.instance jobs (Err fault) →
      (fault ≡ Memory) ⊎ FromStart A origin text (Err fault)
  given-refused text jobs fault gives (inl memory) = inl memory
  given-refused text jobs fault gives (inr answers) = inr (given-answers text jobs (Err fault) gives answers)
