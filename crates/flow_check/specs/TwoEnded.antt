-- Two-ended certificates: texts that prove bounds by a string of directions. Such a text states a lower bound, an upper
-- bound and a sequence. Where both bounds are the same, they are the least makespan.
use Rattle.std.specs.Prelude.{ℕ, ◌≡◌, List, ◌++◌, codes}
use Rattle.flow_shop.specs.Shop.{Shop, IsWithinLimits}
use Rattle.flow_shop.specs.Directions.{Proves}
use Rattle.flow_check.specs.Bounds.{AreProved}
use Rattle.flow_check.specs.TextLines.{line, ending}
use Rattle.flow_check.specs.FourLines.{sequence_lines, ShowsUpper}
use Rattle.flow_check.specs.declared.bounds.Bounds.{Bounds}

-- the first line, with its end
abbrev pub two_ended_title : List ℕ
two_ended_title = line (codes "flowshop two-ended 1")

-- a whole text, with its directions
abbrev pub two_ended_text : Shop → Bounds → List ℕ → List ℕ → List ℕ
two_ended_text shop bounds sequence directions =
    sequence_lines two_ended_title shop bounds sequence ++ line directions ++ line ending

-- what a text shows: a sequence whose makespan is the upper bound, and directions that prove the lower bound
pub record ShowsBounds (shop : Shop) (bounds : Bounds) (sequence directions : List ℕ) : Type 0 where
  pub upper : ShowsUpper shop bounds sequence
  pub proved : Proves shop bounds.lower directions

-- a text is a lawful two-ended certificate of these bounds, with this sequence
-- (law: two_ended_is_sound, two_ended_states_one)
pub record IsTwoEnded (shop : Shop) (bytes : List ℕ) (bounds : Bounds) (sequence : List ℕ) : Type 0 where
  pub directions : List ℕ
  pub shows : ShowsBounds shop bounds sequence directions
  pub text : bytes ≡ two_ended_text shop bounds sequence directions

-- two statements are one: the same bounds, sequence and directions (law: two_ended_states_one)
pub record AreOne (bounds other : Bounds) (sequence jobs directions signs : List ℕ) : Type 0 where
  pub bounds_same : bounds ≡ other
  pub sequence_same : sequence ≡ jobs
  pub directions_same : directions ≡ signs

-- the bounds of a lawful text, whoever made it, are proved (law: two_ended_is_sound)
abbrev pub TwoEndedIsSound : Type 0
TwoEndedIsSound =
    (shop : Shop) (bytes : List ℕ) (bounds : Bounds) (sequence : List ℕ) → IsTwoEnded shop bytes bounds sequence →
    AreProved shop bounds

-- a text states one pair of bounds, one sequence and one string of directions (law: two_ended_states_one)
abbrev pub TwoEndedStatesOne : Type 0
TwoEndedStatesOne =
    (shop : Shop) (bytes : List ℕ) (bounds other : Bounds) (sequence jobs : List ℕ) → IsWithinLimits shop →
    (one : IsTwoEnded shop bytes bounds sequence) (another : IsTwoEnded shop bytes other jobs) →
    AreOne bounds other sequence jobs one.directions another.directions
