-- The jobs at the marked places of a pack: those left, and those whose children are below a threshold.
use Rattle.std.proofs.Common.{◌≡◌, ℕ, zero, suc, ◌+◌, ◌*◌, ◌<◌, true, false, not}
use Rattle.std.proofs.Common.{List, [], ◌∷◌, length, slice_index, take, drop, sym}
use Rattle.std.proofs.Common.{◌∙◌, subst, inl, inr, arith}
use Rattle.std.specs.List.{AllByRecursion}
use Rattle.std.proofs.lemmas.Bool.{cases_eq, not-true}
use Rattle.std.proofs.lemmas.List.{get_or-take, get_or-drop}
use Rattle.std.proofs.lemmas.List.Elements.{filter_passes, recursion_from_All}
use Rattle.flow_shop.specs.Shop.{numbers}
use Rattle.flow_shop.specs.Sequences.{has, jobs_left}
use Rattle.flow_nodes.specs.Marks.{mark, chosen}
use Rattle.flow_nodes.proofs.MarkedNames.{kept, kept-yes, kept-no}
use Rattle.flow_nodes.proofs.ChosenNames.{chosen-kept}

-- what holds of the names kept holds of the name of a marked place
pub kept-each : (P : ℕ → Type 0) (marks : ℕ → ℕ) (names : List ℕ) → AllByRecursion P (kept marks names) → (place : ℕ) →
    place < length names → marks place ≡ 1 → P (slice_index names place)
kept-each P marks [] each place within marked = absurd (omega arith)
kept-each P marks (name ∷ names) each zero within marked =
    let all : AllByRecursion P (name ∷ kept (λ i. marks (suc i)) names) =
    subst (AllByRecursion P) (kept-yes marks name names marked) each in
    all.0
kept-each P marks (name ∷ names) each (suc place) within marked = elim (cases_eq (marks 0) 1) [
  | inl first ↦
      let all : AllByRecursion P (name ∷ kept (λ i. marks (suc i)) names) =
      subst (AllByRecursion P) (kept-yes marks name names first) each in
      kept-each P (λ i. marks (suc i)) names all.1 place (omega arith) marked
  | inr other ↦
      kept-each P (λ i. marks (suc i)) names (subst (AllByRecursion P) (kept-no marks name names other) each) place
      (omega arith) marked
]

-- where the jobs at marked places are those that a list leaves, the list does not have the job at a marked place
pub marked-left : (n : ℕ) (list words names : List ℕ) → chosen words names ≡ jobs_left n list → (place : ℕ) →
    place < length names → mark words place ≡ 1 → has list (slice_index names place) ≡ false
marked-left n list words names is place within marked =
    let all : AllByRecursion (λ job. not (has list job) ≡ true) (jobs_left n list) =
    recursion_from_All (λ job. not (has list job) ≡ true) (jobs_left n list)
    (filter_passes (λ job. not (has list job)) (numbers 1 n)) in
    not-true (has list (slice_index names place))
    (kept-each (λ job. not (has list job) ≡ true) (mark words) names
    (subst (AllByRecursion (λ job. not (has list job) ≡ true)) (sym is ∙ chosen-kept words names) all) place within
    marked)

-- a name of a group
pub group-name : (names : List ℕ) (group lane : ℕ) → lane < 16 →
    slice_index (take 16 (drop (group * 16) names)) lane ≡ slice_index names (group * 16 + lane)
group-name names group lane low =
    get_or-take 16 (drop (group * 16) names) lane 0 low ∙ get_or-drop (group * 16) names lane 0
