-- The options of a run, and why numbers are no options. But for these, no definition of the crate names a worker, and
-- none a thread.
use Rattle.std.specs.Prelude.{ℕ, ◌≤◌, nat_le, [], ◌∷◌, Option, Some, None, Result, Ok, Err}
use Rattle.std.specs.Int.{is_in_range}
use Rattle.flow_shop.specs.Refusals.{fault_unless, first_fault}
use Rattle.flow_limits.specs.Limits.{greatest_depth, least_version, greatest_version, most_workers, greatest_budget}
use Rattle.flow_search.specs.declared.options.OptionFault.{OptionFault}
use Rattle.flow_search.specs.declared.options.OptionFault.TheVariants.{Workers, Depth, Budget, Version}

-- options: how many workers there are, the depth of the cut, how many bytes a tree may have, and the version of the
-- certificate, which says by which bound the search prunes
pub record Choices : Type 0 where
  pub workers : ℕ
  pub depth : ℕ
  pub budget : ℕ
  pub version : ℕ

-- options are within the limits
pub record AreWithinLimits (options : Choices) : Type 0 where
  pub some_worker : 1 ≤ options.workers
  pub workers : options.workers ≤ most_workers
  pub depth : options.depth ≤ greatest_depth
  pub some_byte : 1 ≤ options.budget
  pub budget : options.budget ≤ greatest_budget
  pub first_version : least_version ≤ options.version
  pub last_version : options.version ≤ greatest_version

-- why three numbers are no options, if they are none
abbrev pub option_fault : ℕ → ℕ → ℕ → Option OptionFault
option_fault workers depth budget = first_fault (
    fault_unless (is_in_range 1 most_workers workers) Workers
    ∷ fault_unless (nat_le depth greatest_depth) Depth
    ∷ fault_unless (is_in_range 1 greatest_budget budget) Budget
    ∷ [])

-- the options of three numbers, in version 1; or the first fault
abbrev pub options_or_fault : ℕ → ℕ → ℕ → Result Choices OptionFault
options_or_fault workers depth budget =
    elim (option_fault workers depth budget) [
      | None ↦ Ok (record { workers = workers; depth = depth; budget = budget; version = 1 })
      | Some fault ↦ Err fault
    ]

-- the same options with a version
abbrev pub in_version : Choices → ℕ → Choices
in_version options version =
    record { workers = options.workers; depth = options.depth; budget = options.budget; version = version }

-- why a number is no version, if it is none
abbrev pub version_fault : ℕ → Option OptionFault
version_fault version = fault_unless (is_in_range least_version greatest_version version) Version

-- the same options with a version; or the fault that there is no such version
abbrev pub version_or_fault : Choices → ℕ → Result Choices OptionFault
version_or_fault options version =
    elim (version_fault version) [ None ↦ Ok (in_version options version) | Some fault ↦ Err fault ]

-- why four numbers are no options, if they are none
abbrev pub versioned_fault : ℕ → ℕ → ℕ → ℕ → Option OptionFault
versioned_fault workers depth budget version = first_fault (
    option_fault workers depth budget
    ∷ version_fault version
    ∷ [])

-- the options of four numbers; or the first fault
abbrev pub versioned_or_fault : ℕ → ℕ → ℕ → ℕ → Result Choices OptionFault
versioned_or_fault workers depth budget version =
    elim (versioned_fault workers depth budget version) [
      | None ↦ Ok (record { workers = workers; depth = depth; budget = budget; version = version })
      | Some fault ↦ Err fault
    ]
