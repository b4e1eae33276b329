-- The certificates of a run, and what a call gives that writes one. Nothing tests that the lower bound is proved.
use Rattle.std.specs.Prelude.{ℕ, ◌≡◌, ◌≤◌, ◌⊎◌, List, [], ◌∷◌, length, drop, Option, None}
use Rattle.flow_shop.specs.Paths.{span}
use Rattle.flow_shop.specs.Refusals.{first_fault}
use Rattle.flow_shop.specs.Shop.{Shop}
use Rattle.flow_check.specs.Counted.{counted_text}
use Rattle.flow_check.specs.TwoEnded.{two_ended_text}
use Rattle.flow_check.specs.declared.bounds.Bounds.{Bounds}
use Rattle.flow_c.specs.Statuses.{done, memory}
use Rattle.flow_c.specs.Faults.{Reports, makespan_fault, numbers_fault, room_fault}
use Rattle.flow_c.specs.Rooms.{IsSameRoom, text_in}
use Rattle.flow_c.specs.declared.fault.Fault.{Fault}
use Rattle.flow_c.specs.declared.outcome.Outcome.{Outcome}
use Rattle.flow_c.specs.declared.shop.ShopNumbers.{ShopNumbers}
use Rattle.flow_c.specs.declared.text.TextRoom.{TextRoom}

-- a lower bound, and the makespan of a sequence
abbrev pub kept_bounds : Shop → ℕ → List ℕ → Bounds
kept_bounds shop lower sequence = record { lower = lower; upper = span shop sequence }

-- the two-ended certificate of these bounds, with the sequence and directions
abbrev pub kept_text : Shop → ℕ → List ℕ → List ℕ → List ℕ
kept_text shop lower sequence directions = two_ended_text shop (kept_bounds shop lower sequence) sequence directions

-- the counted certificate of these bounds, with the sequence and how many directions there are
abbrev pub kept_count : Shop → ℕ → List ℕ → ℕ → List ℕ
kept_count shop lower sequence count = counted_text shop (kept_bounds shop lower sequence) sequence count

-- why a text of a sequence is not written: the numbers are no instance, the jobs no sequence of it, or the text has no
-- room
abbrev pub text_fault : ShopNumbers → List ℕ → List ℕ → ℕ → Option Fault
text_fault numbers sequence text bytes = first_fault (
    makespan_fault numbers sequence
    ∷ room_fault (length text) bytes
    ∷ [])

-- what a call gives that writes a text of a sequence: it reports the fault, or that memory ran out, and leaves the room
-- as it was; or it is done, and the room begins with the text
pub record WritesText (numbers : ShopNumbers) (sequence bytes : List ℕ) (old new : TextRoom) (outcome : Outcome) :
    Type 0 where
  pub status : Reports (text_fault numbers sequence bytes (length old.bytes.now)) outcome
  pub memory : outcome.status ≡ memory → numbers_fault numbers ≡ None
  pub text : outcome.status ≡ done → text_in new ≡ bytes
  pub within : outcome.status ≡ done → new.length ≤ length old.bytes.now
  pub beyond : outcome.status ≡ done → drop new.length new.bytes.now ≡ drop new.length old.bytes.now
  pub room : IsSameRoom new.bytes old.bytes
  pub stays : outcome.status ≡ done → outcome.place ≡ 0
  pub kept : (outcome.status ≡ done) ⊎ (new ≡ old)
