-- Slices for results that stand in a record.
use Rattle.std.specs.Prelude.{ℕ, ◌≡◌, List, length, take}
use Rattle.std.specs.Borrow.{MutBor}
use Rattle.flow_check.specs.declared.bounds.Bounds.{Bounds}
use Rattle.flow_c.specs.declared.bounds.BoundsRoom.{BoundsRoom}
use Rattle.flow_c.specs.declared.text.TextRoom.{TextRoom}

-- it is the same slice, with the same entries or with others
abbrev pub IsSameRoom : MutBor (List ℕ) → MutBor (List ℕ) → Type 0
IsSameRoom new old = (new.ref_ptr ≡ old.ref_ptr) × (length new.now ≡ length old.now)

-- the bounds that stand in a record
abbrev pub bounds_in : BoundsRoom → Bounds
bounds_in room = record { lower = room.lower; upper = room.upper }

-- the bytes of a text that stands in a record
abbrev pub text_in : TextRoom → List ℕ
text_in room = take room.length room.bytes.now
