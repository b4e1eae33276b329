-- What the places of a search stand for, and the laws of what it comes to.
use Rattle.std.specs.Prelude.{ℕ, ◌≡◌, ◌==◌, true, false, cond, List, [], ◌∷◌, ◌++◌, length, Option, Some, None}
use Rattle.std.specs.Prelude.{MatchBool}
use Rattle.std.specs.Global.{Vec}
use Rattle.std.specs.List.{AllByRecursion, flat_map, range_with_len}
use Rattle.flow_shop.specs.Shop.{Shop}
use Rattle.flow_shop.specs.Paths.{span}
use Rattle.flow_directions.specs.Search.{Visit, signs, first_reached, visits, Continues, IsFound}
use Rattle.flow_directions.specs.declared.found.Found.TheVariants as found
use Rattle.flow_parts.specs.declared.place.Place.{Place}
use Rattle.flow_parts.specs.declared.search.Search.{Search}
use Rattle.flow_parts.specs.declared.answer.Searched.{Searched}
use Rattle.flow_parts.specs.declared.answer.Decided.{Decided}
use Rattle.flow_parts.specs.declared.answer.Decided.TheVariants.{Proved, Below, Over}
use Rattle.flow_parts.specs.Orders.{place_at, is_open}
use Rattle.flow_parts.specs.Searches.{GivesNone, GivesPlace, IsSearch, IsPut, is_given, decided_of}

-- what a search meets: the signs of the nodes that it opens before a sequence is reached, and that sequence
abbrev pub Met : Type 0
Met = List ℕ × Option (List ℕ)

-- what is met in a list of visits
abbrev pub met : List Visit → Met
met visits = (signs visits, first_reached visits)

-- signs, a sequence where one is reached, and what is met behind them: nothing behind a sequence
abbrev pub joined : List ℕ → Option (List ℕ) → Met → Met
joined text None more = (text ++ more.0, more.1)
joined text (Some jobs) more = (text, Some jobs)

-- what is met, and then something else
abbrev pub behind : Met → Met → Met
behind first more = joined first.0 first.1 more

-- what the places of a search stand for, by their numbers: what the parts of a place meet; the directions that were
-- written there, once it is searched; and the sequence that is reached there, where one is
pub record Meaning : Type 0 where
  pub parts : ℕ → List Visit
  pub text : ℕ → List ℕ
  pub sequence : ℕ → List ℕ

-- what a place stands for: what its parts meet, while it is open; then its directions, and its sequence
abbrev pub place_met : Meaning → (ℕ → Place) → ℕ → Met
place_met meaning at number =
    cond (is_open (at number)) (met (meaning.parts number))
    (meaning.text number, cond ((at number).state == 3) (Some (meaning.sequence number)) None)

-- what places stand for, one after the other
abbrev pub order_met : Meaning → (ℕ → Place) → List ℕ → Met
order_met meaning at [] = ([], None)
order_met meaning at (number ∷ more) = behind (place_met meaning at number) (order_met meaning at more)

-- the places of an order stand for what is met in all, and those that are not open have as many directions as they say
pub record StandsFor (meaning : Meaning) (places : List Place) (order : List ℕ) (all : List Visit) : Type 0 where
  pub met_in_all : order_met meaning (place_at places) order ≡ met all
  pub lengths : AllByRecursion (λ number. is_open (place_at places number) ≡ false →
      length (meaning.text number) ≡ (place_at places number).written) order

-- an answer is true: what the place stood for meets so many directions first, and then the sequence that is reached; or
-- what the new places stand for, one after the other
pub record IsTrueAnswer (meaning : Meaning) (number first : ℕ) (searched : Searched) : Type 0 where
  pub written : length (meaning.text number) ≡ searched.written
  pub then : MatchBool searched.reached
      ((signs (meaning.parts number) ≡ meaning.text number)
      × (first_reached (meaning.parts number) ≡ Some (meaning.sequence number)))
      (Continues (meaning.parts number) (meaning.text number)
      (flat_map meaning.parts (range_with_len first searched.left)))

-- the one place of a search that begins stands for what is met in all (law: places_stand_for_the_search)
abbrev pub BeginsRight : Type 0
BeginsRight =
    (places : List Place) (meaning : Meaning) → (place_at places 0).state ≡ 0 →
    StandsFor meaning places (0 ∷ []) (meaning.parts 0)

-- a place that is given stands for the same (law: places_stand_for_the_search)
abbrev pub GivesKeep : Type 0
GivesKeep =
    (search : Search) (old new : List Place) (order : List ℕ) (number : ℕ) (meaning : Meaning) (all : List Visit) →
    GivesPlace search old new order number → StandsFor meaning old order all →
    StandsFor meaning new order all

-- where no place is given, the places stand for the same (law: places_stand_for_the_search)
abbrev pub GivesNoneKeeps : Type 0
GivesNoneKeeps =
    (search : Search) (old new : List Place) (order : List ℕ) (meaning : Meaning) (all : List Visit) →
    GivesNone search old new order → StandsFor meaning old order all → StandsFor meaning new order all

-- after true answers the places still stand for what is met in all, in whatever order the answers came (law:
-- places_stand_for_the_search)
abbrev pub AnswersKeep : Type 0
AnswersKeep =
    (before after : Search) (old new : List Place) (order order_after : List ℕ) (number : ℕ)
    (searched : Searched) (meaning : Meaning) (all : List Visit) →
    IsSearch before old order → is_given before old number ≡ true →
    IsPut before after old new order number searched → IsSearch after new order_after →
    IsTrueAnswer meaning number before.places searched → StandsFor meaning old order all →
    StandsFor meaning new order_after all

-- what a search came to is what `prove` finds of a node: the directions of all places, in order;
-- the sequence of the place at which one was reached, and how many directions come before it; or that there are more
-- than the budget
abbrev pub Agrees : Shop → ℕ → ℕ → List ℕ → List ℕ → Meaning → List ℕ → Option Decided → Type 0
Agrees shop threshold budget first last meaning order None = Unit {0}
Agrees shop threshold budget first last meaning order (Some (Proved directions)) =
    (text : Vec ℕ) → text.items ≡ flat_map meaning.text order →
    (length text.items ≡ directions) × IsFound shop threshold budget first last (found.Proved text)
Agrees shop threshold budget first last meaning order (Some (Below place directions)) =
    IsFound shop threshold budget first last
    (found.Below (meaning.sequence place) (span shop (meaning.sequence place)) directions)
Agrees shop threshold budget first last meaning order (Some Over) = IsFound shop threshold budget first last found.Over

-- where the places stand for the search of a node below a threshold, what `found` says is so (law:
-- decided_is_found)
abbrev pub DecidedAgrees : Type 0
DecidedAgrees =
    (search : Search) (places : List Place) (order : List ℕ) (meaning : Meaning) (shop : Shop) (threshold : ℕ)
    (first last : List ℕ) → IsSearch search places order →
    StandsFor meaning places order (visits shop threshold first last) →
    Agrees shop threshold search.budget first last meaning order (decided_of search)
