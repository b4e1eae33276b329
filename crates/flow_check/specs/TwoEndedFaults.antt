-- The first fault of a text that is no lawful two-ended certificate. The text is lawful up to a line, or up to a node
-- in the line of the directions, and does not go on lawfully there; the fault says what is missing or too low.
use Rattle.std.specs.Prelude.{ℕ, zero, suc, ◌≡◌, ◌≢◌, ◌<◌, ◌⊎◌, List, [], ◌∷◌, ◌++◌}
use Rattle.flow_shop.specs.Characters.{line_feed}
use Rattle.flow_shop.specs.Shop.{Shop, IsWithinLimits}
use Rattle.flow_shop.specs.Sequences.{Extends, jobs_left}
use Rattle.flow_shop.specs.Ends.{end_bound}
use Rattle.flow_shop.specs.Directions.{sign, first_with, last_with, ProvesWith, Proves}
use Rattle.flow_shop.specs.declared.end.End.{End as SequenceEnd}
use Rattle.flow_check.specs.TextLines.{line, ending}
use Rattle.flow_check.specs.CertificateFaults.{UnlessMemory, HasFaultAmong}
use Rattle.flow_check.specs.FourLinesFaults.{HasFaultBy}
use Rattle.flow_check.specs.Judged.{IsJudgedBy}
use Rattle.flow_check.specs.TwoEnded.{two_ended_title, IsTwoEnded}
use Rattle.flow_check.specs.declared.bounds.Bounds.{Bounds}
use Rattle.flow_check.specs.declared.fault.CheckFault.{CheckFault}
use Rattle.flow_check.specs.declared.fault.CheckFault.TheVariants.{Tree, Low, End}

-- a text should begin with directions that prove a threshold for a node with so many jobs left, and has this fault in
-- them. The node's bound is below the threshold. Where no job is left, so is the makespan of its sequence. Where jobs
-- are left, the text begins with no sign; or after a sign the directions of the node's children there have the fault.
-- The directions stand in line 5
abbrev pub HasDirectionsFault : Shop → ℕ → ℕ → List ℕ → List ℕ → List ℕ → CheckFault → Type 0
HasDirectionsFault shop threshold zero first last text fault =
    (fault ≡ Low 5) × (end_bound shop first last < threshold)
HasDirectionsFault shop threshold (suc left) first last text fault =
    (end_bound shop first last < threshold)
    × (((fault ≡ Tree 5) × ((end : SequenceEnd) → ¬ Extends text (sign end ∷ [])))
    ⊎ ((end : SequenceEnd) × (children : List ℕ) × (text ≡ sign end ∷ children)
    × HasFaultAmong (λ job. ProvesWith shop threshold left (first_with end first job) (last_with end last job))
    (λ job. HasDirectionsFault shop threshold left (first_with end first job) (last_with end last job))
    (jobs_left shop.jobs (first ++ last)) children fault))

-- directions that prove a threshold begin a text, but no line ends after them
pub record LineGoesOn (shop : Shop) (threshold : ℕ) (text : List ℕ) : Type 0 where
  pub directions : List ℕ
  pub rest : List ℕ
  pub goes_on : text ≡ directions ++ rest
  pub proved : Proves shop threshold directions
  pub no_end : ¬ Extends rest (line_feed ∷ [])

-- the line of directions that prove a threshold begins a text, but what follows is not the last line alone
pub record EndsOtherwise (shop : Shop) (threshold : ℕ) (text : List ℕ) : Type 0 where
  pub directions : List ℕ
  pub rest : List ℕ
  pub goes_on : text ≡ line directions ++ rest
  pub proved : Proves shop threshold directions
  pub other : rest ≢ line ending

-- a text should be the line of directions that prove a threshold, and the last line. This is its fault
abbrev pub HasLastFault : Shop → ℕ → List ℕ → CheckFault → Type 0
HasLastFault shop threshold text fault =
    HasDirectionsFault shop threshold shop.jobs [] [] text fault
    ⊎ ((fault ≡ Tree 5) × LineGoesOn shop threshold text)
    ⊎ ((fault ≡ End) × EndsOtherwise shop threshold text)

-- the first fault of a text (law: two_ended_fault_is_exact)
abbrev pub HasTwoEndedFault : Shop → List ℕ → CheckFault → Type 0
HasTwoEndedFault shop text fault = HasFaultBy two_ended_title shop (HasLastFault shop) text fault

-- each text of an instance within the limits is a lawful two-ended certificate of some bounds, with a sequence, or has
-- one first fault, and not both (law: two_ended_fault_is_exact)
abbrev pub EachTwoEndedIsJudged : Type 0
EachTwoEndedIsJudged =
    (shop : Shop) (text : List ℕ) → IsWithinLimits shop →
    IsJudgedBy ((bounds : Bounds) × (sequence : List ℕ) × IsTwoEnded shop text bounds sequence)
    (HasTwoEndedFault shop text)

-- the first fault of a text; `Memory` says nothing of the text
abbrev pub IsTwoEndedFault : Shop → List ℕ → CheckFault → Type 0
IsTwoEndedFault shop text fault = UnlessMemory (HasTwoEndedFault shop text) fault

-- a text with this fault is no lawful two-ended certificate; `Memory` says nothing of the text
abbrev pub IsNotTwoEnded : Shop → List ℕ → CheckFault → Type 0
IsNotTwoEnded shop text fault =
    UnlessMemory (λ _. (bounds : Bounds) (sequence : List ℕ) → ¬ IsTwoEnded shop text bounds sequence) fault
