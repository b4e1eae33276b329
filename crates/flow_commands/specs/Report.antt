-- The report of `check`: of which block a certificate proves what it proves, and by how long a proof.
use Rattle.std.specs.Prelude.{ℕ, ◌≡◌, ◌-◌, ◌==◌, ◌||◌, Bool, false, true, cond, nat_eq, List, length, ◌++◌}
use Rattle.std.specs.Prelude.{codes, [], decimal, slice_get, unwrap_or, Some, None}
use Rattle.std.specs.List.{count_by, slice_split}
use Rattle.flow_core.specs.Bound.{plus}
use Rattle.flow_core.specs.Characters.{line_feed}
use Rattle.flow_core.specs.Generator.{generated, generator_fault}
use Rattle.flow_core.specs.Shop.{IsWithinLimits, Shop, is_same_shop}
use Rattle.flow_core.specs.declared.text.block.Block.{Block}
use Rattle.flow_check.specs.Certificate.{Shows}
use Rattle.flow_check.specs.Counted.{IsCountedText}
use Rattle.flow_check.specs.TextLines.{certificate_text}
use Rattle.flow_check.specs.TwoEnded.{IsTwoEnded}
use Rattle.flow_check.specs.declared.bounds.Bounds.{Bounds}
use Rattle.flow_check.specs.declared.kind.TextKind.{TextKind}
use Rattle.flow_check.specs.declared.kind.TextKind.TheVariants.{Certificate, Counted, TwoEnded}
use Rattle.flow_commands.specs.Block.{Origin}
use Rattle.flow_commands.specs.Printed.{value_line, values_line}
use Rattle.hex.specs.Hex.{encode_lower}
use Rattle.sha2.specs.Sha256.{sha256}

-- the byte `-`
abbrev pub minus : ℕ
minus = 45

-- whether a byte is a direction
abbrev pub is_direction : ℕ → Bool
is_direction byte = byte == plus || byte == minus

-- the directions of a two-ended certificate: all but the minus of its first line (tied: report_states_lengths)
abbrev pub directions_in : List ℕ → ℕ
directions_in text = count_by is_direction text - 1

-- whether a byte ends a line
abbrev pub is_line_end : ℕ → Bool
is_line_end byte = byte == line_feed

-- the trees of a certificate: a line for each, beside the four lines before them and the last one
-- (tied: report_states_lengths)
abbrev pub trees_in : List ℕ → ℕ
trees_in text = count_by is_line_end text - 5

-- the nodes that a counted certificate states, in digits: its fifth line (tied: report_states_lengths)
abbrev pub nodes_in : List ℕ → List ℕ
nodes_in text = unwrap_or (slice_get (slice_split is_line_end text) 4) []

-- the line of how long a proof is
abbrev pub proof_line : TextKind → List ℕ → List ℕ
proof_line Certificate text = value_line (codes "trees ") (trees_in text)
proof_line TwoEnded text = value_line (codes "directions ") (directions_in text)
proof_line Counted text = codes "nodes " ++ nodes_in text ++ codes "\n"

-- whether Taillard's generator draws a shop from a seed
abbrev pub is_drawn : Shop → ℕ → Bool
is_drawn shop seed =
    elim (generator_fault shop.jobs shop.machines seed)
    [ None ↦ is_same_shop (generated shop.jobs shop.machines seed) shop | Some fault ↦ false ]

-- the line of whether the times of a shop are those of a seed
abbrev pub seed_line : Bool → ℕ → List ℕ
seed_line true seed = value_line (codes "the times are those of seed ") seed
seed_line false seed = value_line (codes "the times are not those of seed ") seed

-- the line of whether the times of a block are those of the seed in its head, which is 0 where there is none
abbrev pub times_line : Block → List ℕ
times_line block =
    cond (nat_eq block.seed 0) (codes "the head has no seed\n")
    (seed_line (is_drawn block.instance block.seed) block.seed)

-- the line of the SHA-256 of some bytes, in lower case digits
abbrev pub sum_line : List ℕ → List ℕ → List ℕ
sum_line words bytes = words ++ encode_lower (sha256 bytes) ++ codes "\n"

-- the line of a block's number, and of how many blocks the text has
abbrev pub block_line : ℕ → ℕ → List ℕ
block_line index count = values_line (codes "block ") index (codes " of ") count

-- the lines of the jobs and the machines
abbrev pub size_lines : Shop → List ℕ
size_lines shop = value_line (codes "jobs ") shop.jobs ++ value_line (codes "machines ") shop.machines

-- the lines on a block: its number, of so many; its jobs and machines; whether its times are those of its seed; and the
-- sum of its text
abbrev pub block_lines : Origin → List ℕ
block_lines origin =
    block_line origin.index origin.count ++ size_lines origin.block.instance ++ times_line origin.block
    ++ sum_line (codes "SHA-256 of the text ") origin.text

-- the lines of a report: on the block, and on the certificate
abbrev pub report_lines : Origin → TextKind → List ℕ → List ℕ
report_lines origin kind bytes =
    block_lines origin ++ proof_line kind bytes ++ sum_line (codes "SHA-256 of the certificate ") bytes

-- a report states how many directions a lawful two-ended certificate has (law: report_states_lengths)
abbrev pub ReportStatesDirections : Type 0
ReportStatesDirections =
    (shop : Shop) (bytes : List ℕ) (bounds : Bounds) (sequence : List ℕ) → IsWithinLimits shop →
    (lawful : IsTwoEnded shop bytes bounds sequence) → directions_in bytes ≡ length lawful.directions

-- a report states how many trees a lawful certificate has (law: report_states_lengths)
abbrev pub ReportStatesTrees : Type 0
ReportStatesTrees =
    (shop : Shop) (version value depth : ℕ) (sequence : List ℕ) (trees : List (List ℕ)) → IsWithinLimits shop →
    Shows shop version value depth sequence trees →
    trees_in (certificate_text shop version depth value sequence trees) ≡ length trees

-- a report states how many nodes a lawful counted certificate has (law: report_states_lengths)
abbrev pub ReportStatesNodes : Type 0
ReportStatesNodes =
    (shop : Shop) (bytes : List ℕ) (bounds : Bounds) (sequence : List ℕ) → IsWithinLimits shop →
    (lawful : IsCountedText shop bytes bounds sequence) → nodes_in bytes ≡ decimal lawful.count
