-- The first fault of a text that is no lawful certificate. The text is lawful up to a line, or up to a tree in a line,
-- and does not go on lawfully there; the fault says what is missing or too low.
use Rattle.std.specs.Prelude.{ℕ, zero, suc, ◌≡◌, ◌≢◌, ◌+◌, ◌-◌, ◌^◌, ◌<◌, ◌≤◌, ◌⊎◌, List, [], ◌∷◌, ◌++◌}
use Rattle.flow_shop.specs.Characters.{line_feed}
use Rattle.flow_shop.specs.Shop.{Shop, IsWithinLimits}
use Rattle.flow_shop.specs.Paths.{span}
use Rattle.flow_shop.specs.Sequences.{Extends, IsSequence, jobs_left, cut}
use Rattle.flow_shop.specs.Bound.{Bound, bound_of, letter, point, plus}
use Rattle.flow_check.specs.Certificate.{Covers, IsCertificate}
use Rattle.flow_check.specs.Judged.{IsJudgedBy}
use Rattle.flow_check.specs.TextLines.{IsVersion, IsDepth}
use Rattle.flow_check.specs.TextLines.{line, ending, upto_title, upto_sizes, upto_value, heading}
use Rattle.flow_check.specs.declared.fault.CheckFault.{CheckFault}
use Rattle.flow_check.specs.declared.fault.CheckFault.TheVariants.{Memory, Header, Size, Value, Sequence, NotAttained}
use Rattle.flow_check.specs.declared.fault.CheckFault.TheVariants.{Most, Tree, Weak, Low, End}

-- what a fault says; `Memory` says nothing
abbrev pub UnlessMemory : (CheckFault → Type 0) → CheckFault → Type 0
UnlessMemory says Memory = Unit {0}
UnlessMemory says fault = says fault

-- what a fault says of whether a text is lawful; `Memory` and `Most` leave that open
abbrev pub UnlessOpen : (CheckFault → Type 0) → CheckFault → Type 0
UnlessOpen says Memory = Unit {0}
UnlessOpen says Most = Unit {0}
UnlessOpen says fault = says fault

-- a text should have a lawful part for each item, one after the other. The parts of the first items are lawful, and
-- this is the fault of the next item's
abbrev pub HasFaultAmong :
    (ℕ → List ℕ → Type 0) → (ℕ → List ℕ → CheckFault → Type 0) → List ℕ → List ℕ → CheckFault → Type 0
HasFaultAmong lawful faulty [] text fault = ⊥
HasFaultAmong lawful faulty (item ∷ items) text fault =
    faulty item text fault
    ⊎ ((part : List ℕ) × (rest : List ℕ) × (text ≡ part ++ rest) × lawful item part
    × HasFaultAmong lawful faulty items rest fault)

-- a text should begin with a tree that covers a value below a list with so many jobs left, and has this fault in it.
-- Where no job is left: it begins with no point, or the makespan is below the value. Where jobs are left: it begins
-- neither with a plus nor with the letter of a machine, or with the letter of a machine whose bound is below the value;
-- or, after a plus, the trees of the list's children have the fault
abbrev pub HasTreeFault : Shop → Bound → ℕ → ℕ → ℕ → List ℕ → List ℕ → CheckFault → Type 0
HasTreeFault shop bound value place zero jobs text fault =
    ((fault ≡ Tree place) × ¬ Extends text (point ∷ []))
    ⊎ ((fault ≡ Low place) × Extends text (point ∷ []) × (span shop jobs < value))
HasTreeFault shop bound value place (suc left) jobs text fault =
    ((fault ≡ Tree place) × (¬ Extends text (plus ∷ []))
    × ((machine : ℕ) → 1 ≤ machine → machine ≤ shop.machines → ¬ Extends text (letter machine ∷ [])))
    ⊎ ((machine : ℕ) × (1 ≤ machine) × (machine ≤ shop.machines) × (fault ≡ Weak place)
    × Extends text (letter machine ∷ []) × (bound shop jobs machine < value))
    ⊎ ((children : List ℕ) × (text ≡ plus ∷ children)
    × HasFaultAmong (λ job. Covers shop bound value left (jobs ++ job ∷ []))
    (λ job. HasTreeFault shop bound value place left (jobs ++ job ∷ [])) (jobs_left shop.jobs jobs) children fault)

-- a text should be a line for each prefix, with a tree for it, and then the last line. It has this fault. Where no
-- prefix is left, the text is not the last line. Else the fault is in the tree of the first prefix; or the line goes on
-- after this tree; or the fault is in what follows the line
abbrev pub HasLineFault : Shop → Bound → ℕ → ℕ → List (List ℕ) → ℕ → List ℕ → CheckFault → Type 0
HasLineFault shop bound value left [] place text fault = (fault ≡ End) × (text ≢ line ending)
HasLineFault shop bound value left (prefix ∷ prefixes) place text fault =
    HasTreeFault shop bound value place left prefix text fault
    ⊎ ((tree : List ℕ) × (rest : List ℕ) × (text ≡ tree ++ rest) × Covers shop bound value left prefix tree
    × (((fault ≡ Tree place) × ¬ Extends rest (line_feed ∷ []))
    ⊎ ((lines : List ℕ) × (rest ≡ line_feed ∷ lines)
    × HasLineFault shop bound value left prefixes (place + 1) lines fault)))

-- the first fault of a text that is no lawful certificate. The first tree stands in line 5 (law: fault_is_exact)
abbrev pub HasFirstFault : Shop → List ℕ → CheckFault → Type 0
HasFirstFault shop text Memory = ⊥
HasFirstFault shop text Most = ⊥
HasFirstFault shop text Header = (version : ℕ) → IsVersion version → ¬ Extends text (upto_title version)
HasFirstFault shop text Size =
    (version : ℕ) × IsVersion version × Extends text (upto_title version)
    × ((depth : ℕ) → IsDepth shop depth → ¬ Extends text (upto_sizes shop version depth))
HasFirstFault shop text Value =
    (version : ℕ) × (depth : ℕ) × IsVersion version × IsDepth shop depth
    × Extends text (upto_sizes shop version depth)
    × ((value : ℕ) → value < 2 ^ 64 → ¬ Extends text (upto_value shop version depth value))
HasFirstFault shop text Sequence =
    (version : ℕ) × (depth : ℕ) × (value : ℕ) × IsVersion version × IsDepth shop depth
    × (value < 2 ^ 64) × Extends text (upto_value shop version depth value)
    × ((sequence : List ℕ) → IsSequence shop.jobs sequence →
    ¬ Extends text (heading shop version depth value sequence))
HasFirstFault shop text NotAttained =
    (version : ℕ) × (depth : ℕ) × (value : ℕ) × (sequence : List ℕ) × IsVersion version
    × IsDepth shop depth × (value < 2 ^ 64) × IsSequence shop.jobs sequence
    × Extends text (heading shop version depth value sequence) × (span shop sequence ≢ value)
HasFirstFault shop text fault =
    (version : ℕ) × (depth : ℕ) × (value : ℕ) × (sequence : List ℕ) × IsVersion version
    × IsDepth shop depth × (value < 2 ^ 64) × IsSequence shop.jobs sequence × (span shop sequence ≡ value)
    × (lines : List ℕ) × (text ≡ heading shop version depth value sequence ++ lines)
    × HasLineFault shop (bound_of version) value (shop.jobs - depth) (cut shop.jobs depth) 5 lines fault

-- each text of an instance within the limits is a lawful certificate of a value, or has one first fault, and not both
-- (law: fault_is_exact)
abbrev pub EachTextIsJudged : Type 0
EachTextIsJudged =
    (shop : Shop) (text : List ℕ) → IsWithinLimits shop →
    IsJudgedBy ((value : ℕ) × IsCertificate shop text value) (HasFirstFault shop text)
