-- How much a search of better sequences may do, and why numbers are refused. Steps are given in millions.
use Rattle.std.specs.Prelude.{ℕ, ◌*◌, ◌/◌, nat_le, [], ◌∷◌, Option}
use Rattle.std.specs.Int.{is_in_range}
use Rattle.flow_limits.specs.Limits.{most_width, most_rounds, greatest_seed, most_work}
use Rattle.flow_shop.specs.Refusals.{fault_unless, first_fault}
use Rattle.flow_improve.specs.declared.effort.EffortFault.{EffortFault}
use Rattle.flow_improve.specs.declared.effort.EffortFault.TheVariants.{Width, Rounds, Seed, Work}

-- how much a run of rounds may do: the most rounds, the seed of its random numbers, and how many steps end it
pub record RunLimits : Type 0 where
  pub rounds : ℕ
  pub seed : ℕ
  pub work : ℕ

-- how much a search may do: the greatest width of the beam, the most rounds of each run, the seed of each run, and the
-- most steps of beam and rounds
pub record Effort : Type 0 where
  pub width : ℕ
  pub rounds : ℕ
  pub seed : ℕ
  pub work : ℕ

-- why rounds and a seed are refused, if they are
abbrev pub run_fault : ℕ → ℕ → Option EffortFault
run_fault rounds seed = first_fault (
    fault_unless (nat_le rounds most_rounds) Rounds
    ∷ fault_unless (is_in_range 1 greatest_seed seed) Seed
    ∷ [])

-- why four numbers are no effort, if they are none
abbrev pub effort_fault : ℕ → ℕ → ℕ → ℕ → Option EffortFault
effort_fault width rounds seed work = first_fault (
    fault_unless (nat_le width most_width) Width
    ∷ run_fault rounds seed
    ∷ fault_unless (nat_le work most_work) Work
    ∷ [])

-- the most steps of the beam: 12 of 17 parts
abbrev pub beam_steps : ℕ → ℕ
beam_steps millions = millions * 1000000 * 12 / 17

-- the limits of the rounds from the start, which have 1 of 17 parts of the steps
abbrev pub run_from_start : Effort → RunLimits
run_from_start effort =
    record { rounds = effort.rounds; seed = effort.seed; work = effort.work * 1000000 / 17 }

-- the limits of the rounds from the best of the beam, which have 4 of 17 parts of the steps
abbrev pub run_from_beam : Effort → RunLimits
run_from_beam effort =
    record { rounds = effort.rounds; seed = effort.seed; work = effort.work * 1000000 * 4 / 17 }
