-- Where a place is given, or waits again.
use Rattle.std.proofs.Common.{◌≡◌, ◌≢◌, ℕ, ◌+◌, ◌-◌, ◌<◌, ◌≤◌, ◌⊎◌, inl, inr, true, false, cond, List, [], ◌∷◌, ◌++◌}
use Rattle.std.proofs.Common.{length, length-append, refl, ap, sym, ◌∙◌, subst, arith, ltb, eqb, lit<, lit≤}
use Rattle.std.specs.List.{AllByRecursion, IsDistinct, list_any}
use Rattle.std.proofs.lemmas.Bool.{cases_eq, eqb-true, ltb-true, ne_eqb}
use Rattle.std.proofs.lemmas.List.Sums.{sum_by-cons}
use Rattle.std.proofs.lemmas.Map.Steps.{length-le_from_distinct_below}
use Rattle.flow_parts.specs.declared.place.Place.{Place}
use Rattle.flow_parts.specs.declared.search.Search.{Search}
use Rattle.flow_parts.specs.Orders.{place_at, is_open, open_in, counted_in, IsLinked, settled_in, first_open_in}
use Rattle.flow_parts.specs.Orders.{reached_in, EndsWhereReached, SkipsSearched, IsSameButSkip}
use Rattle.flow_parts.specs.Searches.{IsSearch, GivesPlace, GivesNone}
use Rattle.flow_parts.specs.internal.Walks.{AreAdded, IsBegun, IsFirstWaiting}
use Rattle.flow_parts.proofs.Numbers.{all-rest, all-each, all-both, all-weaker}
use Rattle.flow_parts.proofs.Links.{linked-kept, apart-rest}
use Rattle.flow_parts.proofs.Skips.{same-next, same-place, same-open, same-again, skips-kept}
use Rattle.flow_parts.proofs.Counts.{sum-kept, tested}
use Rattle.flow_parts.proofs.Writing.{IsWritten}

-- places one behind the other are distinct
distinct : (link : ℕ → ℕ) (start : ℕ) (xs : List ℕ) → IsLinked link start xs → IsDistinct eqb xs
unfolding IsDistinct
distinct link start [] linked = tt
distinct link start (x ∷ xs) linked = (
  all-weaker (λ q. q ≢ x) (λ q. eqb x q ≡ false) xs (λ q not. ne_eqb x q (λ is. not (sym is)))
      (apart-rest link start [] x xs linked),
  distinct link (link x) xs linked.1,
)

below-any : (n : ℕ) (xs : List ℕ) → AllByRecursion (λ q. q < n) xs → (q : ℕ) → list_any (eqb q) xs ≡ true → q < n
below-any n [] all q any = absurd (cc)
below-any n (x ∷ xs) all q any = elim (cases_eq q x) [
  | inl is ↦ omega (arith, is, all.0)
  | inr not ↦ below-any n xs all.1 q (grind (arith, any, ne_eqb q x not))
]

-- there are at most as many as places
pub linked-short : (link : ℕ → ℕ) (start n : ℕ) (xs : List ℕ) → IsLinked link start xs →
    AllByRecursion (λ q. q < n) xs → length xs ≤ n
linked-short link start n xs linked within =
    length-le_from_distinct_below xs n (distinct link start xs linked) (below-any n xs within)

-- a place is as it was, but for its skip, or was open and is
abbrev pub IsAlike : Place → Place → Type 0
IsAlike old new = ((is_open old ≡ true) × (is_open new ≡ true)) ⊎ (new ≡ record old { skip = new.skip })

not-reached : (state : ℕ) → ltb state 2 ≡ true → eqb state 3 ≡ false
not-reached state less = ne_eqb state 3 (λ is. absurd (cc (ap (λ s. ltb s 2) is, less)))

alike-open : (old new : Place) → IsAlike old new → is_open new ≡ is_open old
alike-open old new (inl both) = both.1 ∙ sym both.0
alike-open old new (inr same) = ap is_open same

alike-counted : (old new : Place) → IsAlike old new → counted_in new ≡ counted_in old
alike-counted old new (inl both) = ap (λ b. cond b 0 new.written) both.1 ∙ sym (ap (λ b. cond b 0 old.written) both.0)
alike-counted old new (inr same) = ap counted_in same

alike-reached : (old new : Place) → IsAlike old new → eqb new.state 3 ≡ eqb old.state 3
alike-reached old new (inl both) = not-reached new.state both.1 ∙ sym (not-reached old.state both.0)
alike-reached old new (inr same) = ap (λ place. eqb place.state 3) same

module _ (at at' : ℕ → Place) where
  settled-alike : (xs : List ℕ) → AllByRecursion (λ q. IsAlike (at q) (at' q)) xs → settled_in at' xs ≡ settled_in at xs
  settled-alike [] alike = refl
  settled-alike (x ∷ xs) alike = elim alike.0 [
    | inl both ↦ ap (λ b. cond b 0 ((at' x).written + settled_in at' xs)) both.1
        ∙ sym (ap (λ b. cond b 0 ((at x).written + settled_in at xs)) both.0)
    | inr same ↦ ap (λ p. cond (is_open p) 0 (p.written + settled_in at' xs)) same
        ∙ ap (λ n. cond (is_open (at x)) 0 ((at x).written + n)) (settled-alike xs alike.1)
  ]

  first-open-alike : (xs : List ℕ) → AllByRecursion (λ q. IsAlike (at q) (at' q)) xs →
      first_open_in at' xs ≡ first_open_in at xs
  first-open-alike [] alike = refl
  first-open-alike (x ∷ xs) alike =
      ap (λ b. cond b (x + 1) (first_open_in at' xs)) (alike-open (at x) (at' x) alike.0)
      ∙ ap (λ n. cond (is_open (at x)) (x + 1) n) (first-open-alike xs alike.1)

  reached-alike : (xs : List ℕ) → AllByRecursion (λ q. IsAlike (at q) (at' q)) xs →
      reached_in at' xs ≡ reached_in at xs
  reached-alike [] alike = refl
  reached-alike (x ∷ xs) alike =
      ap (λ b. cond b (x + 1) (reached_in at' xs)) (alike-reached (at x) (at' x) alike.0)
      ∙ ap (λ n. cond (eqb (at x).state 3) (x + 1) n) (reached-alike xs alike.1)

  ends-alike : (xs : List ℕ) → AllByRecursion (λ q. IsAlike (at q) (at' q)) xs → EndsWhereReached at xs →
      EndsWhereReached at' xs
  ends-alike [] alike ends = tt
  ends-alike (x ∷ xs) alike ends = (
    (λ is. ends.0 (eqb-true (at x).state 3
        (sym (alike-reached (at x) (at' x) alike.0) ∙ ap (λ s. eqb s 3) is))),
    ends-alike xs alike.1 ends.1,
  )

open-kept : (state : ℕ) → ltb state 2 ≡ true → state < 4
open-kept state less = omega (arith, ltb-true state 2 less)

-- a search in which no place is another one, but for its skip, or one that is open
alike-search : (search : Search) (old new : List Place) (order : List ℕ) → IsSearch search old order →
    ((q : ℕ) → IsAlike (place_at old q) (place_at new q)) → ((q : ℕ) → (place_at new q).next ≡ (place_at old q).next) →
    SkipsSearched (place_at new) order → length new ≡ length old → IsSearch search new order
alike-search search old new order is alike nexts skips size =
    let at = place_at old in
    let at' = place_at new in
    let all = all-each (λ q. IsAlike (at q) (at' q)) order (λ q one. alike q) in
    record {
      room = omega (arith, is.room, size);
      linked = linked-kept (λ q. (at q).next) (λ q. (at' q).next) 1 order is.linked
          (all-each (λ q. (at' q).next ≡ (at q).next) order (λ q one. nexts q));
      within = is.within;
      few = is.few;
      kept = all-both (λ q. (at q).state < 4) (λ q. IsAlike (at q) (at' q)) (λ q. (at' q).state < 4) order
          (λ q less alike_q. elim alike_q [
            | inl both ↦ open-kept (at' q).state both.1
            | inr same ↦ subst (λ n. n < 4) (sym (ap (λ p. p.state) same)) less
          ]) is.kept all;
      each = λ q used_q less. is.each q used_q (elim (alike q) [
        | inl both ↦ open-kept (at q).state both.0
        | inr same ↦ subst (λ n. n < 4) (ap (λ p. p.state) same) less
      ]);
      ends = ends-alike at at' order all is.ends;
      skips = skips;
      reached = is.reached ∙ sym (reached-alike at at' order all);
      opened = is.opened ∙ sym (sum-kept (λ q. open_in (at q)) (λ q. open_in (at' q)) order
          (all-each (λ q. open_in (at' q) ≡ open_in (at q)) order
          (λ q one. ap (λ b. cond b 1 0) (alike-open (at q) (at' q) (alike q)))));
      written = is.written ∙ sym (sum-kept (λ q. counted_in (at q)) (λ q. counted_in (at' q)) order
          (all-each (λ q. counted_in (at' q) ≡ counted_in (at q)) order
          (λ q one. alike-counted (at q) (at' q) (alike q))));
      settled = is.settled ∙ sym (settled-alike at at' order all);
      first_open = is.first_open ∙ sym (first-open-alike at at' order all);
    }

-- from the first open one on, the order goes on; none of the places before it is open
pub open-rest : (at : ℕ → Place) (link : ℕ → ℕ) (start : ℕ) (xs : List ℕ) → IsLinked link start xs →
    (ys : List ℕ) × (zs : List ℕ) × (xs ≡ ys ++ zs) × IsLinked link (first_open_in at xs) zs
    × AllByRecursion (λ q. (at q).state ≢ 0) ys
open-rest at link start [] linked = ([], [], refl, refl, tt)
open-rest at link start (x ∷ xs) linked = elim (tested (is_open (at x))) [
  | inl is ↦ (
    [],
    x ∷ xs,
    refl,
    (ap (λ b. cond b (x + 1) (first_open_in at xs)) is, linked.1),
    tt,
  )
  | inr not ↦
      let more = open-rest at link (link x) xs linked.1 in (
        x ∷ more.0,
        more.1,
        ap (λ ys. x ∷ ys) more.2,
        subst (λ n. IsLinked link n more.1) (sym (ap (λ b. cond b (x + 1) (first_open_in at xs)) not)) more.3,
        ((λ waits. absurd (cc (ap (λ n. ltb n 2) waits, not))), more.4),
      )
]

-- where the walk begins
pub begun : (search : Search) (places : List Place) (order : List ℕ) → IsSearch search places order →
    IsBegun places search.first_open order
begun search places order is =
    let next : ℕ → ℕ = λ q. (place_at places q).next in
    let split = open-rest (place_at places) next 1 order is.linked in
    record {
      above = split.0;
      below = split.1;
      are = split.2;
      passed = split.4;
      linked = is.linked;
      then = subst (λ n. IsLinked next n split.1) (sym is.first_open) split.3;
      short = omega (arith, is.few, is.room, ap length split.2, length-append split.0 split.1);
      skips = is.skips;
    }

module _ (search : Search) (old mid : List Place) (order : List ℕ) (link : ℕ) (is : IsSearch search old order)
    (found : IsFirstWaiting (place_at old) (place_at mid) order link) where
  abbrev pub at : ℕ → Place
  at = place_at old

  abbrev pub at' : ℕ → Place
  at' = place_at mid

  -- the first place that waits is one of the order
  pub first-within : link ≢ 0 → link - 1 < search.places
  first-within some = elim found.found [
    | inl none ↦ absurd (some none.0)
    | inr one ↦ omega (
      arith,
      one.2,
      (all-rest (λ q. q < search.places) found.passed (one.0 ∷ one.1)
          (subst (λ xs. AllByRecursion (λ q. q < search.places) xs) one.3 is.within)).0,
    )
  ]

  -- the search after the walk
  walked : length mid ≡ length old → IsSearch search mid order
  walked size = alike-search search old mid order is
      (λ q. inr (same-place found.passed at at' q (found.same q)))
      (λ q. same-next found.passed at at' q (found.same q)) found.skips size

  -- where a place is given after it
  module _ (new : List Place)
      (written : IsWritten at' (place_at new) (link - 1) (record (at' (link - 1)) { state = 1 }))
      (size : length new ≡ length old) (waits : (at (link - 1)).state ≡ 0) where
    abbrev at'' : ℕ → Place
    at'' = place_at new

    still : at' (link - 1) ≡ at (link - 1)
    still = same-open found.passed at at' (link - 1) (λ e. absurd (omega (arith, waits, e))) (found.same (link - 1))

    value : at'' (link - 1) ≡ record (at (link - 1)) { state = 1 }
    value = written.value ∙ ap {A = Place} {B = Place} (λ place. record place { state = 1 }) still

    others : (q : ℕ) → q ≢ link - 1 → IsSameButSkip found.passed at at'' q
    others q not = same-again found.passed at at' at'' q (written.others q not) (found.same q)

    given-search : IsSearch search new order
    given-search = alike-search search old new order is
        (λ q. elim (cases_eq q (link - 1)) [
          | inl same ↦ inl (
            ap (λ n. is_open (at n)) same ∙ ap (λ n. ltb n 2) waits,
            ap (λ n. is_open (at'' n)) same ∙ ap is_open value,
          )
          | inr not ↦ inr (same-place found.passed at at'' q (others q not))
        ])
        (λ q. elim (cases_eq q (link - 1)) [
          | inl same ↦ ap (λ n. (at'' n).next) same ∙ ap (λ p. p.next) value ∙ ap (λ n. (at n).next) (sym same)
          | inr not ↦ same-next found.passed at at'' q (others q not)
        ])
        (skips-kept at' at'' order
        (all-each (λ q. (at' q).state ≡ 2 → (at'' q).state ≡ 2) order
        (λ q one searched. ap (λ p. p.state) (written.others q (λ same. absurd (omega (
          arith,
          waits,
          ap (λ p. p.state) still,
          ap (λ n. (at' n).state) (sym same),
          searched,
        )))) ∙ searched))
        (all-each (λ q. (at'' q).skip ≡ (at' q).skip) order (λ q one. elim (cases_eq q (link - 1)) [
          | inl same ↦ ap (λ n. (at'' n).skip) same ∙ ap (λ p. p.skip) written.value ∙ ap (λ n. (at' n).skip) (sym same)
          | inr not ↦ ap (λ p. p.skip) (written.others q not)
        ])) found.skips)
        size

  -- the first place that waits is given
  pub gives-place : (new : List Place) → link ≢ 0 →
      IsWritten at' (place_at new) (link - 1) (record (at' (link - 1)) { state = 1 }) → length new ≡ length old →
      GivesPlace search old new order (link - 1)
  gives-place new some written size = elim found.found [
    | inl none ↦ absurd (some none.0)
    | inr one ↦
        let here : one.0 ≡ link - 1 = omega (arith, one.2) in
        let waits : (at (link - 1)).state ≡ 0 = subst (λ n. (at n).state ≡ 0) here one.4 in
        record {
          first = found.passed;
          behind = one.1;
          was = subst (λ n. order ≡ found.passed ++ n ∷ one.1) here one.3;
          passed = found.none_waits;
          waits = waits;
          place = value new written size waits;
          others = others new written size waits;
          is = given-search new written size waits;
        }
  ]

  -- no place waits
  pub gives-none : link ≡ 0 → length mid ≡ length old → GivesNone search old mid order
  gives-none none size = elim found.found [
    | inr one ↦ absurd (omega (arith, one.2, none))
    | inl all ↦ record {
      none = subst (λ xs. AllByRecursion (λ q. (at q).state ≢ 0) xs) all.1 found.none_waits;
      same = λ q. subst (λ xs. IsSameButSkip xs at at' q) all.1 (found.same q);
      is = walked size;
    }
  ]

-- the place of a search that begins
pub first-place : (at : ℕ → Place) (new : List Place) → AreAdded at (place_at new) 0 1 0 →
    place_at new 0 ≡ record { written = 0; next = 0; state = 0; skip = 0 }
first-place at new are =
    let place : Place = place_at new 0 in
    ap (λ n. record place { written = n }) are.blank.0.0
    ∙ ap (λ n. record place { written = 0; next = n }) (are.next [] tt refl).1
    ∙ ap (λ n. record place { written = 0; next = 0; state = n }) are.waits.0
    ∙ ap (λ n. record place { written = 0; next = 0; state = 0; skip = n }) are.blank.0.1

-- a search whose one place waits
pub first-search : (at : ℕ → Place) (budget : ℕ) (new : List Place) → AreAdded at (place_at new) 0 1 0 →
    1 ≤ length new →
    IsSearch (record {
      budget = budget;
      written = 0;
      settled = 0;
      first_open = 1;
      «open» = 1;
      places = 1;
      reached = 0;
    }) new (0 ∷ [])
first-search at budget new are room =
    let at' = place_at new in
    let state : (at' 0).state ≡ 0 = are.waits.0 in
    let opened : is_open (at' 0) ≡ true = ap (λ n. ltb n 2) state in
    record {
      room = room;
      linked = are.next [] tt refl;
      within = (lit< tt, tt);
      few = lit≤ tt;
      kept = (subst (λ n. n < 4) (sym state) (lit< tt), tt);
      each = λ q used less. inl (omega (arith, used));
      ends = ((λ is. refl), tt);
      skips = (inl are.blank.0.1, tt);
      reached = sym (ap (λ n. cond (eqb n 3) 1 0) state);
      opened = sym (sum_by-cons (λ q. open_in (at' q)) 0 [] ∙ ap (λ b. cond b 1 0 + 0) opened);
      written = sym (sum_by-cons (λ q. counted_in (at' q)) 0 [] ∙ ap (λ b. cond b 0 (at' 0).written + 0) opened);
      settled = sym (ap (λ b. cond b 0 ((at' 0).written + 0)) opened);
      first_open = sym (ap (λ b. cond b 1 0) opened);
    }
