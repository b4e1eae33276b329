-- The tails of jobs behind a machine, the lags of jobs to a machine, and the two least of some numbers.
use Rattle.std.specs.Prelude.{ℕ, ◌≡◌, ◌≢◌, ◌+◌, ◌-◌, ◌<◌, ◌≤◌, List, [], ◌∷◌, ◌++◌, map, min, max, slice_index}
use Rattle.flow_shop.specs.Shop.{Shop, time_between}
use Rattle.flow_shop.specs.declared.least_pairs.LeastPairs.{LeastPairs}

-- the tails of some jobs behind a machine (inner)
abbrev pub tails : Shop → ℕ → List ℕ → List ℕ
tails shop machine jobs = map (λ job. time_between shop job (machine + 1) shop.machines) jobs

-- the least of some numbers and of one more (tied: least_is_least)
abbrev pub least_below : ℕ → List ℕ → ℕ
least_below a [] = a
least_below a (x ∷ xs) = least_below (min a x) xs

-- the second least of some numbers and of two more, the lesser one first (tied: second_is_second)
abbrev pub second_below : ℕ → ℕ → List ℕ → ℕ
second_below a b [] = b
second_below a b (x ∷ xs) = second_below (min a x) (min b (max a x)) xs

-- what stands for the least of no numbers: the greatest number of 32 bits
abbrev pub least_of_none : ℕ
least_of_none = 4294967295

-- the value that is taken for the least of some numbers without one of them: their second least where this one is the
-- least, and else the least (tied: least_without_one)
abbrev pub IsLeastWithout : ℕ → ℕ → ℕ → ℕ → Type 0
IsLeastWithout one least second value = (one ≡ least → value ≡ second) × (one ≢ least → value ≡ least)

-- what is taken for the least of some numbers without one of them is the least of the others, whichever two numbers
-- the two least begin with, the lesser one first (law: least_without_one)
abbrev pub LeastWithoutOneIsFound : Type 0
LeastWithoutOneIsFound =
    (first second one value : ℕ) (before after : List ℕ) → first ≤ second →
    IsLeastWithout one (least_below first (before ++ one ∷ after)) (second_below first second (before ++ one ∷ after))
    value →
    value ≡ least_below first (before ++ after)

-- the lag of a job from the machine at a place, counted from 0, to one that is no earlier: its time on the machines
-- from the first to the one before the second
abbrev pub time_to : Shop → ℕ → ℕ → ℕ → ℕ
time_to shop machine place job = time_between shop job (place + 1) (machine - 1)

-- the two least of the numbers that some jobs have at the first places: 4294967295 stands for the second least where
-- there is no second job, and for both where there is no job
abbrev pub AreTwoLeast : (ℕ → ℕ → ℕ) → ℕ → List ℕ → LeastPairs → Type 0
AreTwoLeast number count jobs two =
    (place : ℕ) → place < count →
    (slice_index two.least place ≡ least_below least_of_none (map (number place) jobs))
    × (slice_index two.second place ≡ second_below least_of_none least_of_none (map (number place) jobs))
