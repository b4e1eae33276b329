-- The first job at fault of two lists that stand one behind the other.
use Rattle.std.proofs.Common.{◌≡◌, refl, ap, sym, ◌∙◌, ℕ, List, [], ◌∷◌, ◌++◌, Option, Some, None, append-nil}
use Rattle.std.proofs.Common.{append_assoc}
use Rattle.std.specs.Option.{option_or}
use Rattle.flow_shop.specs.SequenceFaults.{job_fault, place_fault}
use Rattle.flow_shop.specs.declared.sequence.SequenceFault.{SequenceFault}

-- three tests, one after the other
or-assoc : {F : Type 0} (first second third : Option F) →
    option_or first (option_or second third) ≡ option_or (option_or first second) third
or-assoc None second third = refl
or-assoc (Some fault) second third = refl

-- it stands in the first list, or else in the last one, behind the first
joined : (n : ℕ) (earlier first last : List ℕ) →
    place_fault n earlier (first ++ last)
    ≡ option_or (place_fault n earlier first) (place_fault n (earlier ++ first) last)
joined n earlier [] last = ap (λ list. place_fault n list last) (sym (append-nil earlier))
joined n earlier (job ∷ jobs) last =
    let more : List ℕ = earlier ++ job ∷ [] in
    ap (option_or (job_fault n earlier job))
    (joined n more jobs last
    ∙ ap (λ list. option_or (place_fault n more jobs) (place_fault n list last))
    (append_assoc earlier (job ∷ []) jobs))
    ∙ or-assoc (job_fault n earlier job) (place_fault n more jobs) (place_fault n (earlier ++ job ∷ jobs) last)

-- where the first list has a fault
pub at-first : (n : ℕ) (first last : List ℕ) (fault : SequenceFault) → place_fault n [] first ≡ Some fault →
    place_fault n [] (first ++ last) ≡ Some fault
at-first n first last fault is =
    joined n [] first last ∙ ap (λ test. option_or test (place_fault n first last)) is

-- where it has none
pub at-last : (n : ℕ) (first last : List ℕ) → place_fault n [] first ≡ None →
    place_fault n [] (first ++ last) ≡ place_fault n first last
at-last n first last none =
    joined n [] first last ∙ ap (λ test. option_or test (place_fault n first last)) none
