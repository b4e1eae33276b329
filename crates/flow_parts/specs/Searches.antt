-- What a search says of its places, and what its calls change.
use Rattle.std.specs.Prelude.{ℕ, ◌≡◌, ◌≢◌, ◌+◌, ◌-◌, ◌<◌, ◌≤◌, nat_lt, nat_le, ◌==◌, ◌&&◌, ◌||◌, ◌^◌, Option}
use Rattle.std.specs.Prelude.{Some, None, Bool, true, false, cond, List, [], ◌∷◌, ◌++◌, length, sum_by}
use Rattle.std.specs.List.{AllByRecursion, range_with_len}
use Rattle.flow_parts.specs.declared.place.Place.{Place}
use Rattle.flow_parts.specs.declared.search.Search.{Search}
use Rattle.flow_parts.specs.declared.answer.Searched.{Searched}
use Rattle.flow_parts.specs.declared.answer.Put.{Put}
use Rattle.flow_parts.specs.declared.answer.Put.TheVariants.{Taken, Late, NoRoom, TooMany}
use Rattle.flow_parts.specs.declared.answer.Decided.{Decided}
use Rattle.flow_parts.specs.declared.answer.Decided.TheVariants.{Proved, Below, Over}
use Rattle.flow_parts.specs.Orders.{place_at, open_in, counted_in, settled_in, first_open_in, reached_in}
use Rattle.flow_parts.specs.Orders.{IsOneOf, IsLinked, EndsWhereReached, link_to, SkipsSearched, IsSameButSkip}

-- These places, one behind the other from place 0 on, are the order of a search. They are the places that are used and
-- were not dropped; nothing stands behind a place at which a sequence was reached; skips lead past searched places
-- alone; and the numbers of the search are those that are counted along the order.
pub record IsSearch (search : Search) (places : List Place) (order : List ℕ) : Type 0 where
  pub room : search.places ≤ length places
  pub linked : IsLinked (λ number. (place_at places number).next) 1 order
  pub within : AllByRecursion (λ number. number < search.places) order
  pub few : length order ≤ search.places
  pub kept : AllByRecursion (λ number. (place_at places number).state < 4) order
  pub each : (number : ℕ) → number < search.places → (place_at places number).state < 4 → IsOneOf number order
  pub ends : EndsWhereReached (place_at places) order
  pub skips : SkipsSearched (place_at places) order
  pub reached : search.reached ≡ reached_in (place_at places) order
  pub opened : search.open ≡ sum_by (λ number. open_in (place_at places number)) order
  pub written : search.written ≡ sum_by (λ number. counted_in (place_at places number)) order
  pub settled : search.settled ≡ settled_in (place_at places) order
  pub first_open : search.first_open ≡ first_open_in (place_at places) order

-- whether a place is given: it is used, and a worker has it
abbrev pub is_given : Search → List Place → ℕ → Bool
is_given search places number = nat_lt number search.places && ((place_at places number).state == 1)

-- a place is given: the first one in order that waits; all else is as it was, but for the skips of searched places
-- before it
pub record GivesPlace (search : Search) (old new : List Place) (order : List ℕ) (number : ℕ) : Type 0 where
  pub first : List ℕ
  pub behind : List ℕ
  pub was : order ≡ first ++ number ∷ behind
  pub passed : AllByRecursion (λ other. (place_at old other).state ≢ 0) first
  pub waits : (place_at old number).state ≡ 0
  pub place : place_at new number ≡ record (place_at old number) { state = 1 }
  pub others : (other : ℕ) → other ≢ number → IsSameButSkip first (place_at old) (place_at new) other
  pub is : IsSearch search new order

-- no place in order waits, and none is given; all is as it was, but for the skips of searched places
pub record GivesNone (search : Search) (old new : List Place) (order : List ℕ) : Type 0 where
  pub none : AllByRecursion (λ other. (place_at old other).state ≢ 0) order
  pub same : (other : ℕ) → IsSameButSkip order (place_at old) (place_at new) other
  pub is : IsSearch search new order

-- what stands behind a place that was searched: nothing where a sequence was reached; else the new places, and then
-- what stood behind it
abbrev pub behind_searched : Searched → ℕ → List ℕ → List ℕ
behind_searched searched first behind = cond searched.reached [] (range_with_len first searched.left ++ behind)

-- what becomes of an answer: a place that is not given is late; there may be no 2 to the 64th directions or more, and
-- no more new places than the array has room for
abbrev pub put_of : Search → List Place → ℕ → Searched → Put
put_of search places number searched =
    cond (is_given search places number)
    (cond (nat_lt (search.written + searched.written) (2 ^ 64))
    (cond (searched.reached || nat_le (search.places + searched.left) (length places)) (Taken search.places) NoRoom)
    TooMany)
    Late

-- A search in which a place of the order was searched. The order is as it was before that place, and what stands behind
-- it is as `behind_searched` says. The place has its directions, links to what stands behind it, and skips none of it;
-- the new places wait; what is not in the order any more was dropped. All else is as it was.
pub record IsPut (before after : Search) (old new : List Place) (order : List ℕ) (number : ℕ) (searched : Searched) :
    Type 0 where
  pub first : List ℕ
  pub behind : List ℕ
  pub was : order ≡ first ++ number ∷ behind
  pub is : IsSearch after new (first ++ number ∷ behind_searched searched before.places behind)
  pub budget : after.budget ≡ before.budget
  pub places : after.places ≡ before.places + cond searched.reached 0 searched.left
  pub place : place_at new number ≡ record (place_at old number) {
    written = searched.written;
    next = link_to (behind_searched searched before.places behind);
    state = cond searched.reached 3 2;
    skip = 0;
  }
  pub first_same : AllByRecursion (λ other. place_at new other ≡ place_at old other) first
  pub waits : searched.reached ≡ false →
      AllByRecursion (λ other. (place_at new other).state ≡ 0) (range_with_len before.places searched.left)
  pub blank : searched.reached ≡ false →
      AllByRecursion (λ other. ((place_at new other).written ≡ 0) × ((place_at new other).skip ≡ 0))
      (range_with_len before.places searched.left)
  pub unused : (other : ℕ) → after.places ≤ other → place_at new other ≡ place_at old other
  pub behind_same : searched.reached ≡ false →
      AllByRecursion (λ other. place_at new other ≡ place_at old other) behind
  pub dropped : searched.reached ≡ true →
      AllByRecursion (λ other. place_at new other ≡ record (place_at old other) { state = 4 }) behind
  pub gone : (other : ℕ) → other < before.places → 4 ≤ (place_at old other).state →
      place_at new other ≡ place_at old other

-- what a search came to
abbrev pub decided_of : Search → Option Decided
decided_of search =
    cond (nat_lt search.budget search.settled) (Some Over)
    (cond (nat_lt 0 search.open) None
    (cond (nat_lt 0 search.reached) (Some (Below (search.reached - 1) search.settled)) (Some (Proved search.settled))))
