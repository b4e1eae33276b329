-- Taillard's generator of random numbers and instances.
use Rattle.std.specs.Prelude.{ℕ, ◌+◌, ◌-◌, ◌*◌, ◌/◌, ◌%◌, ◌^◌, [], ◌∷◌, ◌++◌, Option, map}
use Rattle.std.specs.Int.{is_in_range}
use Rattle.flow_shop.specs.Shop.{Shop, numbers}
use Rattle.flow_shop.specs.Refusals.{fault_unless, first_fault}
use Rattle.flow_limits.specs.Limits.{greatest_seed}
use Rattle.flow_shop.specs.InstanceFaults.{size_tests}
use Rattle.flow_shop.specs.declared.instance.InstanceFault.{InstanceFault}
use Rattle.flow_shop.specs.declared.instance.InstanceFault.TheVariants.{Seed}

-- the multiplier of a step
abbrev pub multiplier : ℕ
multiplier = 16807

-- the modulus of a step
abbrev pub modulus : ℕ
modulus = 2147483647

-- the least time of a generated instance
abbrev pub least_drawn : ℕ
least_drawn = 1

-- the greatest time of a generated instance
abbrev pub greatest_drawn : ℕ
greatest_drawn = 99

-- the state after so many steps from a seed
abbrev pub state_after : ℕ → ℕ → ℕ
state_after seed steps = seed * multiplier ^ steps % modulus

-- the number from low to high that a state stands for
abbrev pub drawn : ℕ → ℕ → ℕ → ℕ
drawn low high state = low + state * (high - low + 1) / modulus

-- the time that the state after so many steps stands for
abbrev pub drawn_time : ℕ → ℕ → ℕ
drawn_time seed steps = drawn least_drawn greatest_drawn (state_after seed steps)

-- the instance of a seed: one step for each time, machine by machine and for each machine job by job
abbrev pub generated : ℕ → ℕ → ℕ → Shop
generated jobs machines seed =
    record { jobs = jobs; machines = machines; times = map (drawn_time seed) (numbers 1 (jobs * machines)) }

-- why no instance is generated, if none is
abbrev pub generator_fault : ℕ → ℕ → ℕ → Option InstanceFault
generator_fault jobs machines seed =
    first_fault (size_tests jobs machines ++ fault_unless (is_in_range 1 greatest_seed seed) Seed ∷ [])
