-- The order of the places of a search, and what is counted along it.
use Rattle.std.specs.Prelude.{ℕ, ◌≡◌, ◌+◌, ◌⊎◌, ◌==◌, Bool, cond, nat_lt, List, [], ◌∷◌}
use Rattle.std.specs.Prelude.{slice_index_or}
use Rattle.flow_parts.specs.declared.place.Place.{Place}

-- what is at a place of the array; behind its end, a place that was dropped
abbrev pub place_at : List Place → ℕ → Place
place_at places number =
    slice_index_or places number (record { written = 0; next = 0; state = 4; skip = 0 })

-- whether a place waits or is given: it is still to be searched
abbrev pub is_open : Place → Bool
is_open place = nat_lt place.state 2

-- 1 where a place is open, else 0
abbrev pub open_in : Place → ℕ
open_in place = cond (is_open place) 1 0

-- how many directions of a place count: none where it is open
abbrev pub counted_in : Place → ℕ
counted_in place = cond (is_open place) 0 place.written

-- a number is one of these
abbrev pub IsOneOf : ℕ → List ℕ → Type 0
IsOneOf number [] = ⊥
IsOneOf number (first ∷ more) = (number ≡ first) ⊎ IsOneOf number more

-- places one behind the other: each by the link of the one before it, which is one more than its number, and the first
-- by the start; the link of the last one is 0
abbrev pub IsLinked : (ℕ → ℕ) → ℕ → List ℕ → Type 0
IsLinked link start [] = start ≡ 0
IsLinked link start (number ∷ more) = (start ≡ number + 1) × IsLinked link (link number) more

-- one more than the first of these places; 0 where there is none
abbrev pub link_to : List ℕ → ℕ
link_to [] = 0
link_to (number ∷ more) = number + 1

-- how many directions were written before the first open place
abbrev pub settled_in : (ℕ → Place) → List ℕ → ℕ
settled_in at [] = 0
settled_in at (number ∷ more) = cond (is_open (at number)) 0 ((at number).written + settled_in at more)

-- one more than the first open place; 0 where none is open
abbrev pub first_open_in : (ℕ → Place) → List ℕ → ℕ
first_open_in at [] = 0
first_open_in at (number ∷ more) = cond (is_open (at number)) (number + 1) (first_open_in at more)

-- one more than the first place at which a sequence was reached; 0 where none was
abbrev pub reached_in : (ℕ → Place) → List ℕ → ℕ
reached_in at [] = 0
reached_in at (number ∷ more) = cond ((at number).state == 3) (number + 1) (reached_in at more)

-- nothing stands behind a place at which a sequence was reached
abbrev pub EndsWhereReached : (ℕ → Place) → List ℕ → Type 0
EndsWhereReached at [] = Unit {0}
EndsWhereReached at (number ∷ more) = ((at number).state ≡ 3 → more ≡ []) × EndsWhereReached at more

-- these places were searched, up to the place of a link, and that one too
abbrev pub AreSkipped : (ℕ → Place) → List ℕ → ℕ → Type 0
AreSkipped at [] link = ⊥
AreSkipped at (number ∷ more) link =
    ((at number).state ≡ 2) × ((link ≡ number + 1) ⊎ AreSkipped at more link)

-- each place skips none of those behind it; or it was searched, and so were those that it skips
abbrev pub SkipsSearched : (ℕ → Place) → List ℕ → Type 0
SkipsSearched at [] = Unit {0}
SkipsSearched at (number ∷ more) =
    (((at number).skip ≡ 0) ⊎ (((at number).state ≡ 2) × AreSkipped at more (at number).skip)) × SkipsSearched at more

-- a place is as it was; or it is one of these, was searched, and only what it skips is another
abbrev pub IsSameButSkip : List ℕ → (ℕ → Place) → (ℕ → Place) → ℕ → Type 0
IsSameButSkip passed at at' number =
    (at' number ≡ at number)
    ⊎ (IsOneOf number passed × ((at number).state ≡ 2)
    × (at' number ≡ record (at number) { skip = (at' number).skip }))
