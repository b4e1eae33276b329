-- What a search for a two-ended certificate gives, and why it gives nothing.
use Rattle.std.specs.Prelude.{ℕ, ◌≡◌, ◌+◌, ◌<◌, ◌≤◌, List, [], ◌∷◌, length, Option}
use Rattle.std.specs.Int.{is_in_range}
use Rattle.std.specs.Option.{option_map}
use Rattle.flow_limits.specs.Limits.{most_directions}
use Rattle.flow_shop.specs.Refusals.{fault_unless, first_fault}
use Rattle.flow_shop.specs.Shop.{Shop}
use Rattle.flow_shop.specs.Ends.{end_bound}
use Rattle.flow_shop.specs.Paths.{span}
use Rattle.flow_check.specs.TwoEnded.{IsTwoEnded}
use Rattle.flow_check.specs.declared.bounds.Bounds.{Bounds}
use Rattle.flow_c.specs.Faults.{makespan_fault, fault_of_effort, room_fault}
use Rattle.flow_c.specs.declared.shop.ShopNumbers.{ShopNumbers}
use Rattle.flow_c.specs.declared.effort.EffortNumbers.{EffortNumbers}
use Rattle.flow_c.specs.declared.fault.Fault.{Fault}
use Rattle.flow_c.specs.declared.fault.Fault.TheVariants.{Room, Effort, Directions}

-- why a number of directions is refused, where it may be 1 to a greatest limit
abbrev pub directions_fault : ℕ → ℕ → Option Fault
directions_fault greatest directions = fault_unless (is_in_range 1 greatest directions) Directions

-- why nothing is searched: the numbers are no instance, the jobs no sequence of it, the other numbers not within their
-- limits, or a sequence has no room
abbrev pub certify_fault : ShopNumbers → List ℕ → EffortNumbers → ℕ → ℕ → Option Fault
certify_fault numbers start effort directions entries = first_fault (
    makespan_fault numbers start
    ∷ option_map Effort (fault_of_effort effort)
    ∷ directions_fault most_directions directions
    ∷ room_fault numbers.jobs entries
    ∷ [])

-- the most bytes of a two-ended certificate beside its directions
abbrev pub most_beside : ℕ
most_beside = 3300

-- bytes are a lawful two-ended certificate of these bounds, with this sequence, which is no worse than the start, and
-- with at most so many directions; the lower bound is no less than that of the node of two empty lists
pub record IsTextFrom (shop : Shop) (start : List ℕ) (most : ℕ) (bytes : List ℕ) (bounds : Bounds)
    (sequence : List ℕ) : Type 0 where
  pub lawful : IsTwoEnded shop bytes bounds sequence
  pub no_worse : bounds.upper ≤ span shop start
  pub floor : end_bound shop [] [] ≤ bounds.lower
  pub few : length lawful.directions ≤ most
  pub short : length bytes ≤ most + most_beside

-- there is such a text, and fewer entries than it has bytes; the fault says how many it has
abbrev pub IsTextTooLong : Shop → List ℕ → ℕ → ℕ → Fault → Type 0
IsTextTooLong shop start most entries fault =
    (text : List ℕ) × (bounds : Bounds) × (sequence : List ℕ) × IsTextFrom shop start most text bounds sequence
    × (fault ≡ Room (length text)) × (entries < length text)
