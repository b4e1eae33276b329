-- What a check of a text gives. Its caller says how many nodes a counted certificate may state.
use Rattle.std.specs.Prelude.{ℕ, ◌≡◌, ◌⊎◌, List, Option, Some, None, length, take, drop}
use Rattle.flow_shop.specs.Paths.{span}
use Rattle.flow_shop.specs.Sequences.{IsSequence, IsLeastMakespan}
use Rattle.flow_shop.specs.Shop.{Shop}
use Rattle.flow_check.specs.Bounds.{AreBounds}
use Rattle.flow_check.specs.Faults.{HasFaultAs, IsUnlawfulAs}
use Rattle.flow_check.specs.Kinds.{IsReadAs}
use Rattle.flow_check.specs.Stated.{GivesAs, IsAbove}
use Rattle.flow_check.specs.declared.bounds.Bounds.{Bounds}
use Rattle.flow_check.specs.declared.fault.CheckFault.{CheckFault}
use Rattle.flow_check.specs.declared.kind.TextKind.{TextKind}
use Rattle.flow_c.specs.Statuses.{done, memory}
use Rattle.flow_c.specs.Faults.{HasFault, IsDone, RanOut, instance_room_fault, numbers_fault, shop_of}
use Rattle.flow_c.specs.Rooms.{IsSameRoom, bounds_in}
use Rattle.flow_c.specs.declared.bounds.BoundsRoom.{BoundsRoom}
use Rattle.flow_c.specs.declared.outcome.Outcome.{Outcome}
use Rattle.flow_c.specs.declared.shop.ShopNumbers.{ShopNumbers}
use Rattle.flow_c.specs.declared.fault.Fault.{Fault}
use Rattle.flow_c.specs.declared.fault.Fault.TheVariants.{Certificate}

-- bytes are a lawful text of the kind as which they are read, state these bounds and this sequence, and no more nodes
-- than these
abbrev pub ShowsText : ℕ → Shop → List ℕ → Bounds → List ℕ → Type 0
ShowsText most shop bytes bounds sequence =
    (kind : TextKind) × IsReadAs bytes kind × GivesAs kind shop bytes bounds sequence × ¬ IsAbove kind most shop bytes

-- the first fault of bytes, of the kind as which they are read; they are no lawful text of it, which the fault `Most`
-- alone leaves open
abbrev pub IsRefusedText : ℕ → Shop → List ℕ → Fault → Type 0
IsRefusedText most shop bytes fault =
    (kind : TextKind) × (first : CheckFault) × (fault ≡ Certificate first)
    × IsReadAs bytes kind × HasFaultAs kind most shop bytes first × IsUnlawfulAs kind shop bytes first

-- What a check reports that was lent arguments with this first fault, and bytes of which another fault may be true: the
-- number of the fault and its place, that it was done, or that memory ran out. A fault of the arguments comes first.
abbrev pub ReportsCheck : Option Fault → (Fault → Type 0) → Outcome → Type 0
ReportsCheck (Some fault) IsOfBytes outcome = HasFault fault outcome ⊎ RanOut outcome
ReportsCheck None IsOfBytes outcome =
    IsDone outcome ⊎ RanOut outcome ⊎ ((fault : Fault) × IsOfBytes fault × HasFault fault outcome)

-- what a check gives: it reports a fault, or that memory ran out, and leaves the room as it was; or it is done, and the
-- first entries of the room are the sequence that the text states, with bounds between which the least makespan lies
pub record GivesChecked (numbers : ShopNumbers) (most : ℕ) (bytes : List ℕ) (old new : BoundsRoom)
    (outcome : Outcome) : Type 0 where
  pub status : ReportsCheck (instance_room_fault numbers (length old.sequence.now))
      (IsRefusedText most (shop_of numbers) bytes) outcome
  pub memory : outcome.status ≡ memory → numbers_fault numbers ≡ None
  pub bounds : outcome.status ≡ done → AreBounds (shop_of numbers) (bounds_in new)
  pub least : outcome.status ≡ done → new.lower ≡ new.upper → IsLeastMakespan (shop_of numbers) new.lower
  pub shows : outcome.status ≡ done →
      ShowsText most (shop_of numbers) bytes (bounds_in new) (take numbers.jobs new.sequence.now)
  pub each : outcome.status ≡ done → IsSequence numbers.jobs (take numbers.jobs new.sequence.now)
  pub upper : outcome.status ≡ done → span (shop_of numbers) (take numbers.jobs new.sequence.now) ≡ new.upper
  pub rest : drop numbers.jobs new.sequence.now ≡ drop numbers.jobs old.sequence.now
  pub room : IsSameRoom new.sequence old.sequence
  pub stays : outcome.status ≡ done → outcome.place ≡ 0
  pub kept : (outcome.status ≡ done) ⊎ (new ≡ old)
