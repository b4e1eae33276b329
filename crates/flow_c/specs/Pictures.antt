-- Why the picture of a sequence is not given.
use Rattle.std.specs.Prelude.{ℕ, ◌≡◌, ◌<◌, nat_eq, if◌then◌else◌, Option, Some, None, List, length}
use Rattle.flow_shop.specs.Shop.{Shop}
use Rattle.flow_schedule.specs.Picture.{IsPicture}
use Rattle.flow_c.specs.declared.fault.Fault.{Fault}
use Rattle.flow_c.specs.declared.fault.Fault.TheVariants.{Room}

-- a lower bound as a number; 0 says that there is none
abbrev pub bound_of : ℕ → Option ℕ
bound_of lower = if nat_eq lower 0 then None else Some lower

-- there is a picture of the sequence with a lower bound, and fewer entries than it has bytes; the fault says how many
-- it has
abbrev pub IsPictureTooLong : Shop → List ℕ → Option ℕ → ℕ → Fault → Type 0
IsPictureTooLong shop sequence lower entries fault =
    (text : List ℕ) × IsPicture shop sequence lower text × (fault ≡ Room (length text)) × (entries < length text)
