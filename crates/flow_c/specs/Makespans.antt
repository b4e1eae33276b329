-- Many sequences that stand one behind the other, and their makespans.
use Rattle.std.specs.Prelude.{ℕ, ◌≡◌, ◌+◌, ◌*◌, ◌/◌, ◌<◌, ◌==◌, List, [], ◌∷◌, length, map, slice_index, Option}
use Rattle.std.specs.List.{range_with_len}
use Rattle.std.specs.Option.{option_map}
use Rattle.std.specs.Fork.{slice_chunk}
use Rattle.flow_shop.specs.Refusals.{fault_unless, first_fault}
use Rattle.flow_shop.specs.Shop.{Shop}
use Rattle.flow_shop.specs.Paths.{span}
use Rattle.flow_shop.specs.Sequences.{AreJobs}
use Rattle.flow_shop.specs.SequenceFaults.{place_fault}
use Rattle.flow_shop.specs.declared.sequence.SequenceFault.{SequenceFault}
use Rattle.flow_shop.specs.declared.sequence.SequenceFault.TheVariants.{Length, Job, Twice}
use Rattle.flow_c.specs.Faults.{numbers_fault, room_fault}
use Rattle.flow_c.specs.declared.shop.ShopNumbers.{ShopNumbers}
use Rattle.flow_c.specs.declared.fault.Fault.{Fault}
use Rattle.flow_c.specs.declared.fault.Fault.TheVariants.{Instance, Sequence}

-- a fault of a list that stands behind so many jobs, with its place among all jobs
abbrev pub moved : ℕ → SequenceFault → SequenceFault
moved before (Job place) = Job (before + place)
moved before (Twice place) = Twice (before + place)
moved before fault = fault

-- the first fault of one of some lists of n jobs, counted from 0
abbrev pub list_fault : ℕ → List ℕ → ℕ → Option SequenceFault
list_fault n lists index = option_map (moved (index * n)) (place_fault n [] (slice_chunk lists n index))

-- the first fault of so many of these lists
abbrev pub lists_fault : ℕ → List ℕ → ℕ → Option SequenceFault
lists_fault n lists count = first_fault (map (list_fault n lists) (range_with_len 0 count))

-- each of so many lists has distinct jobs from 1 to n (inner)
abbrev pub AreLists : ℕ → List ℕ → ℕ → Type 0
AreLists n lists count = (index : ℕ) → index < count → AreJobs n (slice_chunk lists n index)

-- why there are no makespans: the numbers are no instance, the jobs not some sequences of it one behind the other, by
-- their number; there is no room for so many makespans; or a job is at fault
abbrev pub makespans_fault : ShopNumbers → List ℕ → ℕ → Option Fault
makespans_fault numbers sequences entries = let count = length sequences / numbers.jobs in first_fault (
    option_map Instance (numbers_fault numbers)
    ∷ fault_unless (count * numbers.jobs == length sequences) (Sequence Length)
    ∷ room_fault count entries
    ∷ option_map Sequence (lists_fault numbers.jobs sequences count)
    ∷ [])

-- the first numbers are the makespans of so many sequences of the instance
abbrev pub AreSpans : Shop → List ℕ → ℕ → List ℕ → Type 0
AreSpans shop sequences count numbers = (index : ℕ) → index < count →
    slice_index numbers index ≡ span shop (slice_chunk sequences shop.jobs index)
