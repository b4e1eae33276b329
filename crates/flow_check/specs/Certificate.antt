-- Certificates: texts that prove a least makespan by trees. Each version of certificates has its own bound of lists.
use Rattle.std.specs.Prelude.{ℕ, zero, suc, ◌≡◌, ◌-◌, ◌^◌, ◌<◌, ◌≤◌, ◌⊎◌, List, [], ◌∷◌, ◌++◌}
use Rattle.std.specs.List.{AllZip, concat}
use Rattle.flow_shop.specs.Limits.{greatest_depth}
use Rattle.flow_shop.specs.Shop.{Shop, IsWithinLimits}
use Rattle.flow_shop.specs.Paths.{span}
use Rattle.flow_shop.specs.Sequences.{IsSequence, IsLeastMakespan, jobs_left, cut}
use Rattle.flow_shop.specs.Bound.{Bound, bound_of, letter, point, plus}
use Rattle.flow_check.specs.TextLines.{IsVersion, certificate_text}

-- a text is a tree that covers a value below a list with so many jobs left: a point where none is left, the letter of
-- a machine whose bound reaches the value, or a plus before the trees of the list's children in increasing order
abbrev pub Covers : Shop → Bound → ℕ → ℕ → List ℕ → List ℕ → Type 0
Covers shop bound value zero jobs text = (text ≡ point ∷ []) × (value ≤ span shop jobs)
Covers shop bound value (suc left) jobs text =
    ((machine : ℕ) × (1 ≤ machine) × (machine ≤ shop.machines)
    × (text ≡ letter machine ∷ []) × (value ≤ bound shop jobs machine))
    ⊎ ((parts : List (List ℕ)) × (text ≡ plus ∷ concat parts)
    × AllZip (λ job part. Covers shop bound value left (jobs ++ job ∷ []) part) (jobs_left shop.jobs jobs) parts)

-- what a certificate of a version shows: a sequence whose makespan is the value, and below each prefix a tree that
-- covers the value by the version's bound of lists
pub record Shows (shop : Shop) (version value depth : ℕ) (sequence : List ℕ) (trees : List (List ℕ)) : Type 0 where
  pub known : IsVersion version
  pub jobs_enough : depth ≤ shop.jobs
  pub shallow : depth ≤ greatest_depth
  pub fits : value < 2 ^ 64
  pub whole : IsSequence shop.jobs sequence
  pub attained : span shop sequence ≡ value
  pub covered : AllZip (λ prefix tree. Covers shop (bound_of version) value (shop.jobs - depth) prefix tree)
      (cut shop.jobs depth) trees

-- a text is a lawful certificate of a value, in one of the versions, with this sequence
abbrev pub IsCertificateWith : Shop → List ℕ → ℕ → List ℕ → Type 0
IsCertificateWith shop bytes value sequence =
    (version depth : ℕ) × (trees : List (List ℕ)) × Shows shop version value depth sequence trees
    × (bytes ≡ certificate_text shop version depth value sequence trees)

-- a text is a lawful certificate of a value (law: certificate_is_sound, value_is_exact, text_states_one)
abbrev pub IsCertificate : Shop → List ℕ → ℕ → Type 0
IsCertificate shop bytes value = (sequence : List ℕ) × IsCertificateWith shop bytes value sequence

-- the value of a lawful certificate, whoever made it, is the least makespan (law: certificate_is_sound)
abbrev pub CertificateIsSound : Type 0
CertificateIsSound =
    (shop : Shop) (bytes : List ℕ) (value : ℕ) → IsCertificate shop bytes value → IsLeastMakespan shop value

-- a text is a certificate of one value at most (law: certificate_is_sound)
abbrev pub ValueIsOne : Type 0
ValueIsOne =
    (shop : Shop) (bytes : List ℕ) (v w : ℕ) → IsCertificate shop bytes v → IsCertificate shop bytes w → v ≡ w

-- a text states one value and one sequence (law: text_states_one)
abbrev pub StatesOne : Type 0
StatesOne =
    (shop : Shop) (bytes : List ℕ) (value other : ℕ) (one another : List ℕ) → IsWithinLimits shop →
    IsCertificateWith shop bytes value one → IsCertificateWith shop bytes other another →
    (value ≡ other) × (one ≡ another)
