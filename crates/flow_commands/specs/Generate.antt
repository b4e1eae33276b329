-- What `gen` answers.
use Rattle.std.specs.Prelude.{◌≡◌, ℕ, List, Some, None, Ok, Err}
use Rattle.flow_core.specs.Shop.{Shop}
use Rattle.flow_core.specs.Paths.{span}
use Rattle.flow_core.specs.Generator.{generated, generator_fault}
use Rattle.flow_core.specs.Written.{written}
use Rattle.flow_core.specs.declared.instance.InstanceFault.{InstanceFault}
use Rattle.flow_bound.specs.Neh.{IsNeh}
use Rattle.flow_bound.specs.Taillard.{taillard_bound}
use Rattle.flow_commands.specs.Output.{Output}
use Rattle.flow_commands.specs.declared.refusals.CommandFault.TheVariants.{Instance}

-- the text of a generated instance: upper bound is the makespan of the starting sequence, lower bound Taillard's
abbrev pub IsGeneratedText : ℕ → Shop → List ℕ → Type 0
IsGeneratedText seed shop text =
    (sequence : List ℕ) × IsNeh shop sequence
    × (text ≡ written (record {
      seed = seed;
      upper = span shop sequence;
      lower = taillard_bound shop;
      instance = shop;
    }))

-- what `gen` answers for its numbers
abbrev pub AnswersGen : ℕ → ℕ → ℕ → Output → Type 0
AnswersGen jobs machines seed (Ok text) =
    (generator_fault jobs machines seed ≡ None) × IsGeneratedText seed (generated jobs machines seed) text
AnswersGen jobs machines seed (Err fault) =
    (refusal : InstanceFault) × (generator_fault jobs machines seed ≡ Some refusal) × (fault ≡ Instance refusal)
