-- What walks through the places of a search come to.
use Rattle.std.specs.Prelude.{ℕ, zero, suc, ◌≡◌, ◌≢◌, ◌==◌, ◌+◌, ◌-◌, ◌<◌, ◌≤◌, ◌^◌, ◌⊎◌, cond, List, ◌∷◌, ◌++◌, length}
use Rattle.std.specs.Prelude.{sum_by}
use Rattle.std.specs.List.{AllByRecursion, range_with_len}
use Rattle.flow_parts.specs.declared.place.Place.{Place}
use Rattle.flow_parts.specs.declared.walks.Dropped.{Dropped}
use Rattle.flow_parts.specs.declared.walks.Settled.{Settled}
use Rattle.flow_parts.specs.Orders.{place_at, open_in, counted_in, settled_in, first_open_in, IsLinked}
use Rattle.flow_parts.specs.Orders.{SkipsSearched, IsSameButSkip}

-- these places were dropped, nothing else of them changed, and the others are as they were
pub record AreDropped (at at' : ℕ → Place) (gone : List ℕ) : Type 0 where
  pub dropped : AllByRecursion (λ number. at' number ≡ record (at number) { state = 4 }) gone
  pub others : (number : ℕ) → AllByRecursion (λ other. other ≢ number) gone → at' number ≡ at number
  pub states : (number : ℕ) → ((at' number).state ≡ (at number).state) ⊎ ((at' number).state ≡ 4)

-- what is counted at places that were dropped
pub record IsCounted (at : ℕ → Place) (gone : List ℕ) (dropped : Dropped) : Type 0 where
  pub opened : dropped.open ≡ sum_by (λ number. open_in (at number)) gone
  pub written : dropped.written ≡ sum_by (λ number. counted_in (at number)) gone

-- the places of an array, and what is counted at them fits
pub record AreCountable (places : List Place) (start : ℕ) (rest : List ℕ) : Type 0 where
  pub linked : IsLinked (λ number. (place_at places number).next) start rest
  pub short : length rest ≤ length places
  pub within : AllByRecursion (λ number. number < length places) rest
  pub opened : sum_by (λ number. open_in (place_at places number)) rest < 2 ^ 64
  pub written : sum_by (λ number. counted_in (place_at places number)) rest < 2 ^ 64

-- the link of the first of some new places, or else another link
abbrev pub start_of : ℕ → ℕ → ℕ → ℕ
start_of first zero otherwise = otherwise
start_of first (suc count) otherwise = first + 1

-- so many new places wait, from a number on, one behind the other
pub record AreAdded (at at' : ℕ → Place) (first count behind_link : ℕ) : Type 0 where
  pub others : (number : ℕ) → number < first → at' number ≡ at number
  pub beyond : (number : ℕ) → first + count ≤ number → at' number ≡ at number
  pub waits : AllByRecursion (λ number. (at' number).state ≡ 0) (range_with_len first count)
  pub blank : AllByRecursion (λ number. ((at' number).written ≡ 0) × ((at' number).skip ≡ 0))
      (range_with_len first count)
  pub next : (behind : List ℕ) → AllByRecursion (λ number. number < first) behind →
      IsLinked (λ number. (at number).next) behind_link behind →
      IsLinked (λ number. (at' number).next) (start_of first count behind_link) (range_with_len first count ++ behind)

-- from a place on, some are passed over that are not open, up to the first open one
pub record IsPassed (at : ℕ → Place) (before after : Settled) (rest : List ℕ) : Type 0 where
  pub written : after.written ≡ before.written + settled_in at rest
  pub first_open : after.first_open ≡ first_open_in at rest

-- one more than a place further on, where those between were searched: by its skip, or else the place behind it
abbrev pub onward_of : Place → ℕ
onward_of place = cond (place.skip == 0) place.next place.skip

-- places in order, of which those before the place of a link do not wait
pub record IsBegun (places : List Place) (start : ℕ) (order : List ℕ) : Type 0 where
  pub above : List ℕ
  pub below : List ℕ
  pub are : order ≡ above ++ below
  pub passed : AllByRecursion (λ number. (place_at places number).state ≢ 0) above
  pub linked : IsLinked (λ number. (place_at places number).next) 1 order
  pub then : IsLinked (λ number. (place_at places number).next) start below
  pub short : length below ≤ length places
  pub skips : SkipsSearched (place_at places) order

-- the first place of a run of searched places that goes on with the place of a link: that place, where there was no run;
-- else the first place of the run stays, may skip to that place now, and nothing else has changed
pub record IsRunTo (at at' : ℕ → Place) (run link run' : ℕ) : Type 0 where
  pub begins : run ≡ 0 → run' ≡ link
  pub others : (number : ℕ) → number + 1 ≢ run → at' number ≡ at number
  pub goes_on : run ≢ 0 → (run' ≡ run) × ((at' (run - 1) ≡ at (run - 1))
      ⊎ (at' (run - 1) ≡ record (at (run - 1)) { skip = link }))

-- the link of the first of some places that waits, or 0, where none waits; nothing has changed but what searched places
-- before it skip, and what is skipped was searched
pub record IsFirstWaiting (at at' : ℕ → Place) (order : List ℕ) (link : ℕ) : Type 0 where
  pub passed : List ℕ
  pub same : (number : ℕ) → IsSameButSkip passed at at' number
  pub skips : SkipsSearched at' order
  pub none_waits : AllByRecursion (λ number. (at number).state ≢ 0) passed
  pub found : ((link ≡ 0) × (passed ≡ order))
      ⊎ ((number : ℕ) × (below : List ℕ) × (link ≡ number + 1) × (order ≡ passed ++ number ∷ below)
      × ((at number).state ≡ 0))
