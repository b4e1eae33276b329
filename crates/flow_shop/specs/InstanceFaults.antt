-- Why numbers are no instance.
use Rattle.std.specs.Prelude.{ℕ, ◌+◌, ◌*◌, ◌==◌, nat_lt, List, [], ◌∷◌, ◌++◌, length, Option, Some, None, position}
use Rattle.std.specs.Int.{is_in_range}
use Rattle.std.specs.Option.{option_map}
use Rattle.flow_shop.specs.Refusals.{fault_unless, first_fault}
use Rattle.flow_limits.specs.Limits.{most_jobs, most_machines, greatest_time}
use Rattle.flow_shop.specs.declared.instance.InstanceFault.{InstanceFault}
use Rattle.flow_shop.specs.declared.instance.InstanceFault.TheVariants.{Jobs, Machines, Count, Time, Memory}

-- the fault of the first time that is too great, with its place in the list, counted from 1
abbrev pub time_fault : List ℕ → Option InstanceFault
time_fault times = option_map (λ index. Time (index + 1)) (position (λ time. nat_lt greatest_time time) times)

-- the tests of how many jobs and machines there are
abbrev pub size_tests : ℕ → ℕ → List (Option InstanceFault)
size_tests jobs machines =
    fault_unless (is_in_range 1 most_jobs jobs) Jobs
    ∷ fault_unless (is_in_range 1 most_machines machines) Machines
    ∷ []

-- why these numbers are no instance, if they are none (law: instances_have_no_fault)
abbrev pub instance_fault : ℕ → ℕ → List ℕ → Option InstanceFault
instance_fault jobs machines times = first_fault (size_tests jobs machines
    ++ fault_unless (length times == jobs * machines) Count
    ∷ time_fault times
    ∷ [])

-- a fault of the numbers; none where memory ran out
abbrev pub but_memory : InstanceFault → Option InstanceFault
but_memory Memory = None
but_memory fault = Some fault
