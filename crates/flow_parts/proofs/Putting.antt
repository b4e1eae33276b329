-- Where a place that was given is searched.
use Rattle.std.proofs.Common.{◌≡◌, ◌≢◌, ℕ, zero, suc, ◌+◌, ◌-◌, ◌<◌, ◌≤◌, ◌^◌, ◌⊎◌, inl, inr, Bool, true, false, cond}
use Rattle.std.proofs.Common.{List, [], ◌∷◌, ◌++◌, length, refl, ap, sym, ◌∙◌, subst, arith, sum_by, ltb, eqb, lit≤}
use Rattle.std.proofs.Common.{length-append}
use Rattle.std.specs.List.{AllByRecursion, range_with_len}
use Rattle.std.proofs.lemmas.Bool.{cases_eq, cases_lt, eqb-true, ltb-true, and_parts}
use Rattle.std.proofs.lemmas.List.Sums.{sum_by-cons, sum_by-append}
use Rattle.flow_parts.specs.declared.place.Place.{Place}
use Rattle.flow_parts.specs.declared.search.Search.{Search}
use Rattle.flow_parts.specs.declared.answer.Searched.{Searched}
use Rattle.flow_parts.specs.declared.walks.Dropped.{Dropped}
use Rattle.flow_parts.specs.Orders.{place_at, is_open, open_in, counted_in, IsOneOf, IsLinked, settled_in}
use Rattle.flow_parts.specs.Orders.{first_open_in, reached_in, EndsWhereReached, link_to, SkipsSearched}
use Rattle.flow_parts.specs.Searches.{IsSearch, IsPut, is_given}
use Rattle.flow_parts.specs.internal.Walks.{AreDropped, IsCounted, AreCountable, AreAdded, start_of}
use Rattle.flow_parts.proofs.Numbers.{all-first, all-rest, all-append, all-one, all-each, all-both, all-weaker}
use Rattle.flow_parts.proofs.Numbers.{one-first, one-rest, one-cases, one-split, range-above}
use Rattle.flow_parts.proofs.Links.{linked-start, linked-rest, linked-with, linked-kept, apart-first, apart-rest}
use Rattle.flow_parts.proofs.Counts.{sum-kept, ends-with, reached-with, settled-with}
use Rattle.flow_parts.proofs.Skips.{skips-with, skips-rest, skips-none, skips-same}
use Rattle.flow_parts.proofs.Writing.{IsWritten}

pub given-used : (search : Search) (places : List Place) (number : ℕ) → is_given search places number ≡ true →
    number < search.places
given-used search places number given =
    ltb-true number search.places
    (and_parts (ltb number search.places) (eqb (place_at places number).state 1) given).0

pub given-state : (search : Search) (places : List Place) (number : ℕ) → is_given search places number ≡ true →
    (place_at places number).state ≡ 1
given-state search places number given =
    eqb-true (place_at places number).state 1
    (and_parts (ltb number search.places) (eqb (place_at places number).state 1) given).1

-- a sum along an order, at a place of it
sum-at : (f : ℕ → ℕ) (xs : List ℕ) (p : ℕ) (ys : List ℕ) →
    sum_by f (xs ++ p ∷ ys) ≡ sum_by f xs + (f p + sum_by f ys)
sum-at f xs p ys = sum_by-append f xs (p ∷ ys) ∙ ap (λ n. sum_by f xs + n) (sum_by-cons f p ys)

range-below : (m k : ℕ) → AllByRecursion (λ q. q < m + k) (range_with_len m k)
range-below m zero = tt
range-below m (suc k) = (
  omega arith,
  all-weaker (λ q. q < m + 1 + k) (λ q. q < m + suc k) (range_with_len (m + 1) k) (λ q less. omega (arith, less))
      (range-below (m + 1) k),
)

range-has : (q m k : ℕ) → m ≤ q → q < m + k → IsOneOf q (range_with_len m k)
range-has q m zero from to = absurd (omega (arith, from, to))
range-has q m (suc k) from to = elim (cases_eq q m) [
  | inl same ↦ inl same
  | inr not ↦ inr (range-has q (m + 1) k (omega (arith, from, not)) (omega (arith, to)))
]

length-range : (m k : ℕ) → length (range_with_len m k) ≡ k
length-range m zero = refl
length-range m (suc k) = omega (arith, length-range (m + 1) k)

-- what is counted at new places
module _ (at : ℕ → Place) where
  open-fresh : (m k : ℕ) → AllByRecursion (λ q. (at q).state ≡ 0) (range_with_len m k) →
      sum_by (λ q. open_in (at q)) (range_with_len m k) ≡ k
  open-fresh m zero waits = refl
  open-fresh m (suc k) waits =
      let here : open_in (at m) ≡ 1 = ap (λ n. cond (ltb n 2) (suc zero) zero) waits.0 in
      omega (
        arith,
        here,
        open-fresh (m + 1) k waits.1,
        sum_by-cons (λ q. open_in (at q)) m (range_with_len (m + 1) k),
      )

  counted-fresh : (m k : ℕ) → AllByRecursion (λ q. (at q).state ≡ 0) (range_with_len m k) →
      sum_by (λ q. counted_in (at q)) (range_with_len m k) ≡ 0
  counted-fresh m zero waits = refl
  counted-fresh m (suc k) waits =
      let here : counted_in (at m) ≡ 0 = ap (λ n. cond (ltb n 2) zero (at m).written) waits.0 in
      omega (
        arith,
        here,
        counted-fresh (m + 1) k waits.1,
        sum_by-cons (λ q. counted_in (at q)) m (range_with_len (m + 1) k),
      )

  ends-fresh : (m k : ℕ) (ys : List ℕ) → AllByRecursion (λ q. (at q).state ≡ 0) (range_with_len m k) →
      EndsWhereReached at ys → EndsWhereReached at (range_with_len m k ++ ys)
  ends-fresh m zero ys waits ends = ends
  ends-fresh m (suc k) ys waits ends =
      ((λ same. absurd (omega (arith, same, waits.0))), ends-fresh (m + 1) k ys waits.1 ends)

  reached-fresh : (m k : ℕ) (ys : List ℕ) → AllByRecursion (λ q. (at q).state ≡ 0) (range_with_len m k) →
      reached_in at (range_with_len m k ++ ys) ≡ reached_in at ys
  reached-fresh m zero ys waits = refl
  reached-fresh m (suc k) ys waits =
      ap (λ n. cond (eqb n 3) (m + 1) (reached_in at (range_with_len (m + 1) k ++ ys))) waits.0
      ∙ reached-fresh (m + 1) k ys waits.1

  ends-rest : (xs : List ℕ) (p : ℕ) (ys : List ℕ) → EndsWhereReached at (xs ++ p ∷ ys) → EndsWhereReached at ys
  ends-rest [] p ys ends = ends.1
  ends-rest (x ∷ xs) p ys ends = ends-rest xs p ys ends.1

module _ (at at' : ℕ → Place) where
  ends-kept : (xs : List ℕ) → AllByRecursion (λ q. at' q ≡ at q) xs → EndsWhereReached at xs → EndsWhereReached at' xs
  ends-kept [] same ends = tt
  ends-kept (x ∷ xs) same ends =
      ((λ is. ends.0 (sym (ap (λ p. p.state) same.0) ∙ is)), ends-kept xs same.1 ends.1)

  reached-kept : (xs : List ℕ) → AllByRecursion (λ q. at' q ≡ at q) xs → reached_in at' xs ≡ reached_in at xs
  reached-kept [] same = refl
  reached-kept (x ∷ xs) same =
      ap (λ p. cond (eqb p.state 3) (x + 1) (reached_in at' xs)) same.0
      ∙ ap (λ n. cond (eqb (at x).state 3) (x + 1) n) (reached-kept xs same.1)

-- what stands behind each place before another one is apart from it
apart-across : (link : ℕ → ℕ) (start : ℕ) (xs : List ℕ) (p : ℕ) (ys : List ℕ) → IsLinked link start (xs ++ p ∷ ys) →
    AllByRecursion (λ q. AllByRecursion (λ r. r ≢ q) ys) xs
apart-across link start [] p ys linked = tt
apart-across link start (x ∷ xs) p ys linked = (
  (all-rest (λ r. r ≢ x) xs (p ∷ ys) (apart-rest link start [] x (xs ++ p ∷ ys) linked)).1,
  apart-across link (link x) xs p ys linked.1,
)

-- at most as many places are open as there are
pub open-few : (at : ℕ → Place) (xs : List ℕ) → sum_by (λ q. open_in (at q)) xs ≤ length xs
open-few at [] = lit≤ tt
open-few at (x ∷ xs) =
    omega (arith, at-most-one (is_open (at x)), open-few at xs, sum_by-cons (λ q. open_in (at q)) x xs)
  where
    at-most-one : (b : Bool) → cond b 1 0 ≤ 1
    at-most-one true = lit≤ tt
    at-most-one false = lit≤ tt

-- what is settled is among what is counted
settled-few : (at : ℕ → Place) (xs : List ℕ) → settled_in at xs ≤ sum_by (λ q. counted_in (at q)) xs
settled-few at [] = lit≤ tt
settled-few at (x ∷ xs) = elim (cases-open (is_open (at x))) [
  | inl is ↦ omega (arith, ap (λ b. cond b 0 ((at x).written + settled_in at xs)) is)
  | inr not ↦ omega (
    arith,
    ap (λ b. cond b 0 ((at x).written + settled_in at xs)) not,
    ap (λ b. cond b 0 (at x).written) not,
    settled-few at xs,
    sum_by-cons (λ q. counted_in (at q)) x xs,
  )
] where
  cases-open : (b : Bool) → (b ≡ true) ⊎ (b ≡ false)
  cases-open true = inl refl
  cases-open false = inr refl

-- the numbers after an answer, with those of the walk from the first open one on
pub record IsMade (before after : Search) (new : List Place) (opened written places reached : ℕ) : Type 0 where
  pub fields : (rest : List ℕ) → IsLinked (λ q. (place_at new q).next) before.first_open rest →
      length rest ≤ length new → before.settled + settled_in (place_at new) rest < 2 ^ 64 →
      after ≡ record {
        budget = before.budget;
        written = written;
        settled = before.settled + settled_in (place_at new) rest;
        first_open = first_open_in (place_at new) rest;
        «open» = opened;
        places = places;
        reached = reached;
      }

module _ (before : Search) (old : List Place) (order : List ℕ) (number : ℕ) (searched : Searched)
    (is : IsSearch before old order) (given : is_given before old number ≡ true) where
  used : number < before.places
  used = given-used before old number given

  was_given : (place_at old number).state ≡ 1
  was_given = given-state before old number given

  not-searched : (place_at old number).state ≢ 2
  not-searched searched_too = absurd (omega (arith, was_given, searched_too))

  was_open : is_open (place_at old number) ≡ true
  was_open = ap (λ n. ltb n 2) was_given

  pub at-order : (first : List ℕ) × (behind : List ℕ) × (order ≡ first ++ number ∷ behind)
  at-order = one-split number order (is.each number used (omega (arith, was_given)))

  -- the order is that of these places, and this is where the place stands
  module _ (first behind : List ℕ) (was : order ≡ first ++ number ∷ behind) where
    linked : IsLinked (λ q. (place_at old q).next) 1 (first ++ number ∷ behind)
    linked = subst (λ xs. IsLinked (λ q. (place_at old q).next) 1 xs) was is.linked

    within : AllByRecursion (λ q. q < before.places) (first ++ number ∷ behind)
    within = subst (λ xs. AllByRecursion (λ q. q < before.places) xs) was is.within

    kept : AllByRecursion (λ q. (place_at old q).state < 4) (first ++ number ∷ behind)
    kept = subst (λ xs. AllByRecursion (λ q. (place_at old q).state < 4) xs) was is.kept

    ends : EndsWhereReached (place_at old) (first ++ number ∷ behind)
    ends = subst (EndsWhereReached (place_at old)) was is.ends

    skips : SkipsSearched (place_at old) (first ++ number ∷ behind)
    skips = subst (SkipsSearched (place_at old)) was is.skips

    first-apart : AllByRecursion (λ q. q ≢ number) first
    first-apart = apart-first (λ q. (place_at old q).next) 1 first number behind linked

    behind-apart : AllByRecursion (λ q. q ≢ number) behind
    behind-apart = apart-rest (λ q. (place_at old q).next) 1 first number behind linked

    -- a place that was dropped before is another one
    not-number : (q : ℕ) → 4 ≤ (place_at old q).state → q ≢ number
    not-number q states same = omega (arith, ap (λ n. (place_at old n).state) same, was_given, states)

    opens : before.open ≡ sum_by (λ q. open_in (place_at old q)) first
        + (1 + sum_by (λ q. open_in (place_at old q)) behind)
    opens = is.opened ∙ ap (sum_by (λ q. open_in (place_at old q))) was
        ∙ sum-at (λ q. open_in (place_at old q)) first number behind
        ∙ ap (λ b. sum_by (λ q. open_in (place_at old q)) first
        + (cond b 1 0 + sum_by (λ q. open_in (place_at old q)) behind)) was_open

    writes : before.written ≡ sum_by (λ q. counted_in (place_at old q)) first
        + (0 + sum_by (λ q. counted_in (place_at old q)) behind)
    writes = is.written ∙ ap (sum_by (λ q. counted_in (place_at old q))) was
        ∙ sum-at (λ q. counted_in (place_at old q)) first number behind
        ∙ ap (λ b. sum_by (λ q. counted_in (place_at old q)) first
        + (cond b 0 (place_at old number).written + sum_by (λ q. counted_in (place_at old q)) behind)) was_open

    few : length first + suc (length behind) ≤ before.places
    few = omega (arith, is.few, ap length was, length-append first (number ∷ behind))

    -- what stands behind it can be counted
    pub countable : before.open < 2 ^ 64 → before.written < 2 ^ 64 → AreCountable old (place_at old number).next behind
    countable fits fits2 = record {
      linked = linked-rest (λ q. (place_at old q).next) 1 first number behind linked;
      short = omega (arith, few, is.room);
      within = all-weaker (λ q. q < before.places) (λ q. q < length old) behind
          (λ q less. omega (arith, less, is.room))
          (all-rest (λ q. q < before.places) first (number ∷ behind) within).1;
      opened = omega (arith, opens, fits);
      written = omega (arith, writes, fits2);
    }

    -- where a sequence was reached there
    module _ (after : Search) (mid new : List Place) (dropped : Dropped) (opened written : ℕ)
        (reached : searched.reached ≡ true) (fits : before.open < 2 ^ 64)
        (fits2 : before.written + searched.written < 2 ^ 64)
        (drops : AreDropped (place_at old) (place_at mid) behind) (counts : IsCounted (place_at old) behind dropped)
        (size : length new ≡ length old)
        (writes_place : IsWritten (place_at mid) (place_at new) number
        (record (place_at old number) { written = searched.written; next = 0; state = 3; skip = 0 }))
        (open_is : opened ≡ before.open - 1 - dropped.open)
        (written_is : before.written - dropped.written + searched.written < 2 ^ 64 →
        written ≡ before.written - dropped.written + searched.written)
        (made : IsMade before after new opened written before.places (number + 1)) where
      first-same : AllByRecursion (λ q. place_at new q ≡ place_at old q) first
      first-same = all-both (λ q. q ≢ number) (λ q. AllByRecursion (λ r. r ≢ q) behind)
          (λ q. place_at new q ≡ place_at old q) first
          (λ q not apart. writes_place.others q not ∙ drops.others q apart) first-apart
          (apart-across (λ q. (place_at old q).next) 1 first number behind linked)

      state : (place_at new number).state ≡ 3
      state = ap (λ p. p.state) writes_place.value

      new-linked : IsLinked (λ q. (place_at new q).next) 1 (first ++ number ∷ [])
      new-linked = linked-with (λ q. (place_at old q).next) (λ q. (place_at new q).next) 1 first number behind [] linked
          (all-weaker (λ q. place_at new q ≡ place_at old q) (λ q. (place_at new q).next ≡ (place_at old q).next) first
          (λ q same. ap (λ p. p.next) same) first-same)
          (ap (λ p. p.next) writes_place.value)

      -- a place that is not dropped is as it was
      states-new : (q : ℕ) → q ≢ number → (place_at new q).state ≢ 4 →
          (place_at new q).state ≡ (place_at old q).state
      states-new q not stays = elim (drops.states q) [
        | inl same ↦ ap (λ p. p.state) (writes_place.others q not) ∙ same
        | inr gone ↦ absurd (stays (ap (λ p. p.state) (writes_place.others q not) ∙ gone))
      ]

      each : (q : ℕ) → q < before.places → (place_at new q).state < 4 → IsOneOf q (first ++ number ∷ [])
      each q used_q less = elim (cases_eq q number) [
        | inl same ↦ one-rest q first (number ∷ []) (inl same)
        | inr not ↦
            let old_state = states-new q not (λ gone. absurd (omega (arith, less, gone))) in
            elim (one-cases q first (number ∷ behind)
            (subst (IsOneOf q) was (is.each q used_q (omega (arith, less, old_state))))) [
              | inl one ↦ one-first q first (number ∷ []) one
              | inr rest ↦ elim rest [
                | inl same ↦ absurd (not same)
                | inr gone ↦
                    let gone_place = all-one (λ r. place_at mid r ≡ record (place_at old r) { state = 4 }) behind q
                    drops.dropped gone in
                    absurd (omega (arith, less, ap (λ p. p.state) (writes_place.others q not ∙ gone_place)))
              ]
            ]
      ]

      closed-here : open_in (place_at new number) ≡ 0
      closed-here = ap (λ n. cond (ltb n 2) (suc zero) zero) state

      opens-new : opened ≡ sum_by (λ q. open_in (place_at new q)) (first ++ number ∷ [])
      opens-new = omega (
        arith,
        open_is,
        opens,
        counts.opened,
        sum-at (λ q. open_in (place_at new q)) first number [],
        closed-here,
        sum-kept (λ q. open_in (place_at old q)) (λ q. open_in (place_at new q)) first
            (all-weaker (λ q. place_at new q ≡ place_at old q)
            (λ q. open_in (place_at new q) ≡ open_in (place_at old q)) first (λ q same. ap open_in same) first-same),
      )

      counted-here : counted_in (place_at new number) ≡ searched.written
      counted-here = ap counted_in writes_place.value

      written-new : written ≡ sum_by (λ q. counted_in (place_at new q)) (first ++ number ∷ [])
      written-new = omega (
        arith,
        written_is (omega (arith, fits2)),
        writes,
        counts.written,
        sum-at (λ q. counted_in (place_at new q)) first number [],
        counted-here,
        sum-kept (λ q. counted_in (place_at old q)) (λ q. counted_in (place_at new q)) first
            (all-weaker (λ q. place_at new q ≡ place_at old q)
            (λ q. counted_in (place_at new q) ≡ counted_in (place_at old q)) first (λ q same. ap counted_in same)
            first-same),
      )

      made-places : before.places ≡ before.places + cond searched.reached 0 searched.left
      made-places = omega (arith, ap (λ b. cond b zero searched.left) reached)

      pub reach-is : IsPut before after old new order number searched
      reach-is =
          let walk = settled-with (place_at old) (place_at new) (λ q. (place_at new q).next) 1 first number behind []
          was_open first-same new-linked in
          let sum = settled-few (place_at new) (first ++ number ∷ []) in
          let first_open : first_open_in (place_at old) (first ++ number ∷ behind) ≡ before.first_open =
          sym (is.first_open ∙ ap (first_open_in (place_at old)) was) in
          let settled : before.settled ≡ settled_in (place_at old) (first ++ number ∷ behind) =
          is.settled ∙ ap (settled_in (place_at old)) was in
          let fields = made.fields walk.0
          (subst (λ n. IsLinked (λ q. (place_at new q).next) n walk.0) first_open walk.1)
          (omega (arith, walk.4, length-append first (number ∷ []), few, is.room, size))
          (omega (arith, walk.2, settled, sum, written-new, written_is (omega (arith, fits2)), fits2)) in
          let ends_new = ends-with (place_at old) (place_at new) first number behind [] ends first-same
          ((λ _. refl), tt) in
          let made_search : IsSearch after new (first ++ number ∷ []) =
          subst (λ search. IsSearch search new (first ++ number ∷ [])) (sym fields) (record {
            room = omega (arith, is.room, size);
            linked = new-linked;
            within = all-append (λ q. q < before.places) first (number ∷ [])
                (all-first (λ q. q < before.places) first (number ∷ behind) within) (used, tt);
            few = omega (arith, few, length-append first (number ∷ []));
            kept = all-append (λ q. (place_at new q).state < 4) first (number ∷ [])
                (all-both (λ q. place_at new q ≡ place_at old q) (λ q. (place_at old q).state < 4)
                (λ q. (place_at new q).state < 4) first
                (λ q same less. subst (λ p. p.state < 4) (sym same) less) first-same
                (all-first (λ q. (place_at old q).state < 4) first (number ∷ behind) kept))
                (omega (arith, state), tt);
            each = each;
            ends = ends_new;
            skips = skips-with (place_at old) (place_at new) first number behind [] not-searched first-same
                (inl (ap (λ p. p.skip) writes_place.value), tt) skips;
            reached = sym (reached-with (place_at old) (place_at new) first number behind [] ends first-same
                ∙ ap (λ n. cond (eqb n 3) (number + 1) 0) state);
            opened = opens-new;
            written = written-new;
            settled = ap (λ n. n + settled_in (place_at new) walk.0) settled ∙ walk.2;
            first_open = walk.3;
          }) in
          record {
            first = first;
            behind = behind;
            was = was;
            is = subst (λ xs. IsSearch after new (first ++ number ∷ xs))
                (sym (ap (λ b. cond b [] (range_with_len before.places searched.left ++ behind)) reached)) made_search;
            budget = ap (λ search. search.budget) fields;
            places = ap (λ search. search.places) fields ∙ made-places;
            place = writes_place.value ∙ sym (ap (λ b. record (place_at old number) {
              written = searched.written;
              next = link_to (cond b [] (range_with_len before.places searched.left ++ behind));
              state = cond b 3 2;
              skip = 0;
            }) reached);
            first_same = first-same;
            waits = λ not. absurd (cc (reached, not));
            blank = λ not. absurd (cc (reached, not));
            unused = λ q from.
                let above : before.places ≤ q = omega (arith, from, ap (λ search. search.places) fields) in
                writes_place.others q (λ same. omega (arith, same, above, used))
                ∙ drops.others q (all-weaker (λ r. r < before.places) (λ r. r ≢ q) behind
                (λ r less same. omega (arith, less, same, above))
                (all-rest (λ r. r < before.places) first (number ∷ behind) within).1);
            behind_same = λ not. absurd (cc (reached, not));
            dropped = λ _. all-both (λ q. place_at mid q ≡ record (place_at old q) { state = 4 }) (λ q. q ≢ number)
                (λ q. place_at new q ≡ record (place_at old q) { state = 4 }) behind
                (λ q gone not. writes_place.others q not ∙ gone) drops.dropped behind-apart;
            gone = λ q below states.
                writes_place.others q (not-number q states)
                ∙ drops.others q (all-weaker (λ r. (place_at old r).state < 4) (λ r. r ≢ q) behind
                (λ r less same. omega (arith, less, ap (λ n. (place_at old n).state) same, states))
                (all-rest (λ r. (place_at old r).state < 4) first (number ∷ behind) kept).1);
          }

    -- where the search goes on there
    module _ (after : Search) (mid new : List Place) (opened written places : ℕ)
        (reached : searched.reached ≡ false) (fits2 : before.written + searched.written < 2 ^ 64)
        (room : before.places + searched.left ≤ length old)
        (adds : AreAdded (place_at old) (place_at mid) before.places searched.left (place_at old number).next)
        (size : length new ≡ length old)
        (writes_place : IsWritten (place_at mid) (place_at new) number
        (record (place_at old number) {
          written = searched.written;
          next = start_of before.places searched.left (place_at old number).next;
          state = 2;
          skip = 0;
        }))
        (open_is : opened ≡ before.open - 1 + searched.left)
        (written_is : written ≡ before.written + searched.written)
        (places_is : places ≡ before.places + searched.left)
        (made : IsMade before after new opened written places before.reached) where
      abbrev then : List ℕ
      then = range_with_len before.places searched.left ++ behind

      same-below : (q : ℕ) → q < before.places → q ≢ number → place_at new q ≡ place_at old q
      same-below q less not = writes_place.others q not ∙ adds.others q less

      same-list : (xs : List ℕ) → AllByRecursion (λ q. q < before.places) xs → AllByRecursion (λ q. q ≢ number) xs →
          AllByRecursion (λ q. place_at new q ≡ place_at old q) xs
      same-list xs less apart = all-both (λ q. q < before.places) (λ q. q ≢ number)
          (λ q. place_at new q ≡ place_at old q) xs same-below less apart

      first-less : AllByRecursion (λ q. q < before.places) first
      first-less = all-first (λ q. q < before.places) first (number ∷ behind) within

      behind-less : AllByRecursion (λ q. q < before.places) behind
      behind-less = (all-rest (λ q. q < before.places) first (number ∷ behind) within).1

      first-same2 : AllByRecursion (λ q. place_at new q ≡ place_at old q) first
      first-same2 = same-list first first-less first-apart

      behind-same : AllByRecursion (λ q. place_at new q ≡ place_at old q) behind
      behind-same = same-list behind behind-less behind-apart

      fresh-apart : AllByRecursion (λ q. q ≢ number) (range_with_len before.places searched.left)
      fresh-apart = all-weaker (λ q. number < q) (λ q. q ≢ number) (range_with_len before.places searched.left)
          (λ q less same. omega (arith, less, same)) (range-above number before.places searched.left used)

      fresh-waits : AllByRecursion (λ q. (place_at new q).state ≡ 0) (range_with_len before.places searched.left)
      fresh-waits = all-both (λ q. (place_at mid q).state ≡ 0) (λ q. q ≢ number) (λ q. (place_at new q).state ≡ 0)
          (range_with_len before.places searched.left)
          (λ q waits not. ap (λ p. p.state) (writes_place.others q not) ∙ waits) adds.waits fresh-apart

      state2 : (place_at new number).state ≡ 2
      state2 = ap (λ p. p.state) writes_place.value

      -- the links of the places that are added, and of those behind them
      relinked : (start : ℕ) (ys : List ℕ) → AllByRecursion (λ q. q ≢ number) ys →
          IsLinked (λ q. (place_at mid q).next) start (range_with_len before.places searched.left ++ ys) →
          IsLinked (λ q. (place_at new q).next) start (range_with_len before.places searched.left ++ ys)
      relinked start ys apart links =
          linked-kept (λ q. (place_at mid q).next) (λ q. (place_at new q).next) start
          (range_with_len before.places searched.left ++ ys) links
          (all-weaker (λ q. q ≢ number) (λ q. (place_at new q).next ≡ (place_at mid q).next)
          (range_with_len before.places searched.left ++ ys) (λ q not. ap (λ p. p.next) (writes_place.others q not))
          (all-append (λ q. q ≢ number) (range_with_len before.places searched.left) ys fresh-apart apart))

      new-linked2 : IsLinked (λ q. (place_at new q).next) 1 (first ++ number ∷ then)
      new-linked2 = linked-with (λ q. (place_at old q).next) (λ q. (place_at new q).next) 1 first number behind then
          linked
          (all-weaker (λ q. place_at new q ≡ place_at old q) (λ q. (place_at new q).next ≡ (place_at old q).next) first
          (λ q same. ap (λ p. p.next) same) first-same2)
          (subst (λ n. IsLinked (λ q. (place_at new q).next) n then) (sym (ap (λ p. p.next) writes_place.value))
          (relinked (start_of before.places searched.left (place_at old number).next) behind behind-apart
          (adds.next behind behind-less (linked-rest (λ q. (place_at old q).next) 1 first number behind linked))))

      -- the link of the place is to what stands behind it
      start-is : start_of before.places searched.left (place_at old number).next ≡ link_to then
      start-is = sym (ap (λ p. p.next) writes_place.value)
          ∙ linked-start (λ q. (place_at new q).next) (place_at new number).next then
          (linked-rest (λ q. (place_at new q).next) 1 first number then new-linked2)

      fresh-less : AllByRecursion (λ q. q < places) (range_with_len before.places searched.left)
      fresh-less = all-weaker (λ q. q < before.places + searched.left) (λ q. q < places)
          (range_with_len before.places searched.left) (λ q less. omega (arith, less, places_is))
          (range-below before.places searched.left)

      less-more : (xs : List ℕ) → AllByRecursion (λ q. q < before.places) xs → AllByRecursion (λ q. q < places) xs
      less-more xs less = all-weaker (λ q. q < before.places) (λ q. q < places) xs
          (λ q below. omega (arith, below, places_is)) less

      each2 : (q : ℕ) → q < places → (place_at new q).state < 4 → IsOneOf q (first ++ number ∷ then)
      each2 q less states = elim (cases_lt q before.places) [
        | inl below ↦ elim (cases_eq q number) [
          | inl same ↦ one-rest q first (number ∷ then) (inl same)
          | inr not ↦ elim (one-cases q first (number ∷ behind) (subst (IsOneOf q) was (is.each q below
              (subst (λ p. p.state < 4) (same-below q below not) states)))) [
                | inl one ↦ one-first q first (number ∷ then) one
                | inr rest ↦ one-rest q first (number ∷ then) (elim rest [
                  | inl same ↦ inl same
                  | inr one ↦ inr (one-rest q (range_with_len before.places searched.left) behind one)
                ])
              ]
        ]
        | inr above ↦ one-rest q first (number ∷ then) (inr (one-first q
            (range_with_len before.places searched.left) behind
            (range-has q before.places searched.left above (omega (arith, less, places_is)))))
      ]

      closed-here2 : open_in (place_at new number) ≡ 0
      closed-here2 = ap (λ n. cond (ltb n 2) (suc zero) zero) state2

      opens-new2 : opened ≡ sum_by (λ q. open_in (place_at new q)) (first ++ number ∷ then)
      opens-new2 = omega (
        arith,
        open_is,
        opens,
        sum-at (λ q. open_in (place_at new q)) first number then,
        closed-here2,
        sum_by-append (λ q. open_in (place_at new q)) (range_with_len before.places searched.left) behind,
        open-fresh (place_at new) before.places searched.left fresh-waits,
        sum-kept (λ q. open_in (place_at old q)) (λ q. open_in (place_at new q)) first
            (all-weaker (λ q. place_at new q ≡ place_at old q)
            (λ q. open_in (place_at new q) ≡ open_in (place_at old q)) first (λ q same. ap open_in same) first-same2),
        sum-kept (λ q. open_in (place_at old q)) (λ q. open_in (place_at new q)) behind
            (all-weaker (λ q. place_at new q ≡ place_at old q)
            (λ q. open_in (place_at new q) ≡ open_in (place_at old q)) behind (λ q same. ap open_in same) behind-same),
      )

      counted-here2 : counted_in (place_at new number) ≡ searched.written
      counted-here2 = ap counted_in writes_place.value

      written-new2 : written ≡ sum_by (λ q. counted_in (place_at new q)) (first ++ number ∷ then)
      written-new2 = omega (
        arith,
        written_is,
        writes,
        sum-at (λ q. counted_in (place_at new q)) first number then,
        counted-here2,
        sum_by-append (λ q. counted_in (place_at new q)) (range_with_len before.places searched.left) behind,
        counted-fresh (place_at new) before.places searched.left fresh-waits,
        sum-kept (λ q. counted_in (place_at old q)) (λ q. counted_in (place_at new q)) first
            (all-weaker (λ q. place_at new q ≡ place_at old q)
            (λ q. counted_in (place_at new q) ≡ counted_in (place_at old q)) first (λ q same. ap counted_in same)
            first-same2),
        sum-kept (λ q. counted_in (place_at old q)) (λ q. counted_in (place_at new q)) behind
            (all-weaker (λ q. place_at new q ≡ place_at old q)
            (λ q. counted_in (place_at new q) ≡ counted_in (place_at old q)) behind (λ q same. ap counted_in same)
            behind-same),
      )

      behind-ends : EndsWhereReached (place_at new) then
      behind-ends = ends-fresh (place_at new) before.places searched.left behind fresh-waits
          (ends-kept (place_at old) (place_at new) behind behind-same
          (ends-rest (place_at old) first number behind ends))

      fresh-blank : AllByRecursion (λ q. ((place_at new q).written ≡ 0) × ((place_at new q).skip ≡ 0))
          (range_with_len before.places searched.left)
      fresh-blank = all-both (λ q. ((place_at mid q).written ≡ 0) × ((place_at mid q).skip ≡ 0)) (λ q. q ≢ number)
          (λ q. ((place_at new q).written ≡ 0) × ((place_at new q).skip ≡ 0))
          (range_with_len before.places searched.left)
          (λ q both not. (
            ap (λ p. p.written) (writes_place.others q not) ∙ both.0,
            ap (λ p. p.skip) (writes_place.others q not) ∙ both.1,
          )) adds.blank fresh-apart

      behind-skips : SkipsSearched (place_at new) then
      behind-skips = skips-none (place_at new) (range_with_len before.places searched.left) behind
          (all-weaker (λ q. ((place_at new q).written ≡ 0) × ((place_at new q).skip ≡ 0))
          (λ q. (place_at new q).skip ≡ 0) (range_with_len before.places searched.left) (λ q both. both.1) fresh-blank)
          (skips-same (place_at old) (place_at new) behind behind-same
          (skips-rest (place_at old) first (number ∷ behind) skips).1)

      reached-new : before.reached ≡ reached_in (place_at new) (first ++ number ∷ then)
      reached-new =
          is.reached ∙ ap (reached_in (place_at old)) was
          ∙ reached-with (place_at old) (place_at old) first number behind behind ends
          (all-each (λ q. place_at old q ≡ place_at old q) first (λ q one. refl))
          ∙ ap (λ n. cond (eqb n 3) (number + 1) (reached_in (place_at old) behind)) was_given
          ∙ sym (reached-kept (place_at old) (place_at new) behind behind-same)
          ∙ sym (reached-fresh (place_at new) before.places searched.left behind fresh-waits)
          ∙ sym (ap (λ n. cond (eqb n 3) (number + 1) (reached_in (place_at new) then)) state2)
          ∙ sym (reached-with (place_at old) (place_at new) first number behind then ends first-same2)

      new-few : length (first ++ number ∷ then) ≤ places
      new-few = omega (
        arith,
        few,
        places_is,
        length-append first (number ∷ then),
        length-append (range_with_len before.places searched.left) behind,
        length-range before.places searched.left,
      )

      pub go-on-is : IsPut before after old new order number searched
      go-on-is =
          let walk = settled-with (place_at old) (place_at new) (λ q. (place_at new q).next) 1 first number behind
          then was_open first-same2 new-linked2 in
          let sum = settled-few (place_at new) (first ++ number ∷ then) in
          let first_open : first_open_in (place_at old) (first ++ number ∷ behind) ≡ before.first_open =
          sym (is.first_open ∙ ap (first_open_in (place_at old)) was) in
          let settled : before.settled ≡ settled_in (place_at old) (first ++ number ∷ behind) =
          is.settled ∙ ap (settled_in (place_at old)) was in
          let fields = made.fields walk.0
          (subst (λ n. IsLinked (λ q. (place_at new q).next) n walk.0) first_open walk.1)
          (omega (arith, walk.4, new-few, places_is, room, size))
          (omega (arith, walk.2, settled, sum, written-new2, written_is, fits2)) in
          let ends_new = ends-with (place_at old) (place_at new) first number behind then ends first-same2
          ((λ same. absurd (omega (arith, same, state2))), behind-ends) in
          let made_search : IsSearch after new (first ++ number ∷ then) =
          subst (λ search. IsSearch search new (first ++ number ∷ then)) (sym fields) (record {
            room = omega (arith, places_is, room, size);
            linked = new-linked2;
            within = all-append (λ q. q < places) first (number ∷ then) (less-more first first-less) (
              omega (arith, used, places_is),
              all-append (λ q. q < places) (range_with_len before.places searched.left) behind fresh-less
                  (less-more behind behind-less),
            );
            few = new-few;
            kept = all-append (λ q. (place_at new q).state < 4) first (number ∷ then)
                (all-both (λ q. place_at new q ≡ place_at old q) (λ q. (place_at old q).state < 4)
                (λ q. (place_at new q).state < 4) first
                (λ q same less. subst (λ p. p.state < 4) (sym same) less) first-same2
                (all-first (λ q. (place_at old q).state < 4) first (number ∷ behind) kept)) (
                  omega (arith, state2),
                  all-append (λ q. (place_at new q).state < 4) (range_with_len before.places searched.left) behind
                      (all-weaker (λ q. (place_at new q).state ≡ 0) (λ q. (place_at new q).state < 4)
                      (range_with_len before.places searched.left) (λ q waits. omega (arith, waits)) fresh-waits)
                      (all-both (λ q. place_at new q ≡ place_at old q) (λ q. (place_at old q).state < 4)
                      (λ q. (place_at new q).state < 4) behind
                      (λ q same less. subst (λ p. p.state < 4) (sym same) less) behind-same
                      (all-rest (λ q. (place_at old q).state < 4) first (number ∷ behind) kept).1),
                );
            each = each2;
            ends = ends_new;
            skips = skips-with (place_at old) (place_at new) first number behind then not-searched first-same2
                (inl (ap (λ p. p.skip) writes_place.value), behind-skips) skips;
            reached = reached-new;
            opened = opens-new2;
            written = written-new2;
            settled = ap (λ n. n + settled_in (place_at new) walk.0) settled ∙ walk.2;
            first_open = walk.3;
          }) in
          record {
            first = first;
            behind = behind;
            was = was;
            is = subst (λ xs. IsSearch after new (first ++ number ∷ xs)) (sym (ap (λ b. cond b [] then) reached))
                made_search;
            budget = ap (λ search. search.budget) fields;
            places = ap (λ search. search.places) fields ∙ places_is
                ∙ sym (ap (λ b. before.places + cond b zero searched.left) reached);
            place = writes_place.value
                ∙ ap (λ n. record (place_at old number) { written = searched.written; next = n; state = 2; skip = 0 })
                start-is
                ∙ sym (ap (λ b. record (place_at old number) {
                  written = searched.written;
                  next = link_to (cond b [] then);
                  state = cond b 3 2;
                  skip = 0;
                }) reached);
            first_same = first-same2;
            waits = λ _. fresh-waits;
            blank = λ _. fresh-blank;
            unused = λ q from.
                let above : before.places + searched.left ≤ q =
                omega (arith, from, ap (λ search. search.places) fields, places_is) in
                writes_place.others q (λ same. omega (arith, same, above, used))
                ∙ adds.beyond q above;
            behind_same = λ _. behind-same;
            dropped = λ not. absurd (cc (reached, not));
            gone = λ q below states. same-below q below (not-number q states);
          }
