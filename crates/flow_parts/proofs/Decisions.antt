-- What a search came to.
use Rattle.std.proofs.Common.{◌≡◌, ◌≢◌, ℕ, ◌+◌, ◌-◌, ◌<◌, ◌≤◌, inl, inr, true, false, cond, List, [], ◌∷◌, ◌++◌, length}
use Rattle.std.proofs.Common.{Some, None, refl, ap, sym, ◌∙◌, arith, sum_by, ltb, eqb, append-nil, length-append, lit≤}
use Rattle.std.specs.List.{AllByRecursion, flat_map}
use Rattle.std.proofs.lemmas.Bool.{cases_Bool, cond_both, eqb-true, ltb-true, ltb-false}
use Rattle.std.proofs.lemmas.List.Sums.{sum_by-cons}
use Rattle.flow_shop.specs.Shop.{Shop}
use Rattle.flow_directions.specs.Search.{visits}
use Rattle.flow_parts.specs.declared.place.Place.{Place}
use Rattle.flow_parts.specs.declared.search.Search.{Search}
use Rattle.flow_parts.specs.declared.answer.Decided.TheVariants.{Proved, Below, Over}
use Rattle.flow_parts.specs.Orders.{place_at, is_open, open_in, settled_in, reached_in, EndsWhereReached}
use Rattle.flow_parts.specs.Searches.{IsSearch, decided_of}
use Rattle.flow_parts.specs.Meanings.{behind, Meaning, place_met, order_met, StandsFor, Agrees, DecidedAgrees}
use Rattle.flow_parts.proofs.Behind.{pair}
use Rattle.flow_parts.proofs.Meetings.{closed-met}

module _ (meaning : Meaning) (at : ℕ → Place) where
  abbrev HasLengths : List ℕ → Type 0
  HasLengths xs = AllByRecursion (λ q. is_open (at q) ≡ false → length (meaning.text q) ≡ (at q).written) xs

  abbrev AreClosed : List ℕ → Type 0
  AreClosed xs = AllByRecursion (λ q. is_open (at q) ≡ false) xs

  -- a place that was searched, and what is met behind it
  searched-met : (q : ℕ) → is_open (at q) ≡ false → eqb (at q).state 3 ≡ false →
      place_met meaning at q ≡ (meaning.text q, None)
  searched-met q closed not = closed-met meaning at q closed
      ∙ ap (λ b. (meaning.text q, cond b (Some (meaning.sequence q)) None)) not

  -- a place at which a sequence was reached
  reached-met : (q : ℕ) → is_open (at q) ≡ false → eqb (at q).state 3 ≡ true →
      place_met meaning at q ≡ (meaning.text q, Some (meaning.sequence q))
  reached-met q closed is = closed-met meaning at q closed
      ∙ ap (λ b. (meaning.text q, cond b (Some (meaning.sequence q)) None)) is

  -- what is settled is met
  settled-met : (xs : List ℕ) → EndsWhereReached at xs → HasLengths xs →
      settled_in at xs ≤ length (order_met meaning at xs).0
  settled-met [] ends lengths = lit≤ tt
  settled-met (x ∷ xs) ends lengths = elim (cases_Bool (is_open (at x))) [
    | inl opened ↦ omega (arith, ap (λ b. cond b 0 ((at x).written + settled_in at xs)) opened)
    | inr closed ↦
        let settled = ap (λ b. cond b 0 ((at x).written + settled_in at xs)) closed in
        elim (cases_Bool (eqb (at x).state 3)) [
          | inl is ↦
              let nothing : xs ≡ [] = ends.0 (eqb-true (at x).state 3 is) in
              omega (
                arith,
                settled,
                ap (settled_in at) nothing,
                lengths.0 closed,
                ap (λ one. length (behind one (order_met meaning at xs)).0) (reached-met x closed is),
              )
          | inr not ↦ omega (
            arith,
            settled,
            settled-met xs ends.1 lengths.1,
            lengths.0 closed,
            ap (λ one. length (behind one (order_met meaning at xs)).0) (searched-met x closed not),
            length-append (meaning.text x) (order_met meaning at xs).0,
          )
        ]
  ]

  -- where no place is open
  all-closed : (xs : List ℕ) → sum_by (λ q. open_in (at q)) xs ≡ 0 → AreClosed xs
  all-closed [] none = tt
  all-closed (x ∷ xs) none =
      let sum = sum_by-cons (λ q. open_in (at q)) x xs in (
        elim (cases_Bool (is_open (at x))) [
          | inl opened ↦
              let one : open_in (at x) ≡ 1 = ap (λ b. cond b 1 0) opened in absurd (omega (arith, one, sum, none))
          | inr closed ↦ closed
        ],
        all-closed xs (omega (arith, sum, none)),
      )

  closed-length : (xs : List ℕ) → AreClosed xs → HasLengths xs →
      length (flat_map meaning.text xs) ≡ settled_in at xs
  closed-length [] closed lengths = refl
  closed-length (x ∷ xs) closed lengths = omega (
    arith,
    ap (λ b. cond b 0 ((at x).written + settled_in at xs)) closed.0,
    lengths.0 closed.0,
    closed-length xs closed.1 lengths.1,
    length-append (meaning.text x) (flat_map meaning.text xs),
  )

  -- where no sequence was reached
  closed-none : (xs : List ℕ) → AreClosed xs → reached_in at xs ≡ 0 →
      order_met meaning at xs ≡ (flat_map meaning.text xs, None)
  closed-none [] closed none = refl
  closed-none (x ∷ xs) closed none = elim (cases_Bool (eqb (at x).state 3)) [
    | inl is ↦ absurd (omega (arith, none, ap (λ b. cond b (x + 1) (reached_in at xs)) is))
    | inr not ↦
        let more = closed-none xs closed.1 (sym (ap (λ b. cond b (x + 1) (reached_in at xs)) not) ∙ none) in
        ap (λ one. behind one (order_met meaning at xs)) (searched-met x closed.0 not)
        ∙ ap (behind (meaning.text x, None)) more
  ]

  -- where one was
  closed-reached : (xs : List ℕ) (reached : ℕ) → AreClosed xs → EndsWhereReached at xs → reached_in at xs ≡ reached →
      reached ≢ 0 →
      order_met meaning at xs ≡ (flat_map meaning.text xs, Some (meaning.sequence (reached - 1)))
  closed-reached [] reached closed ends is some = absurd (some (sym is))
  closed-reached (x ∷ xs) reached closed ends is some = elim (cases_Bool (eqb (at x).state 3)) [
    | inl here ↦
        let nothing : xs ≡ [] = ends.0 (eqb-true (at x).state 3 here) in
        let same : x ≡ reached - 1 = omega (arith, is, ap (λ b. cond b (x + 1) (reached_in at xs)) here) in
        ap (λ one. behind one (order_met meaning at xs)) (reached-met x closed.0 here)
        ∙ pair (meaning.text x) (flat_map meaning.text (x ∷ xs)) (Some (meaning.sequence x))
        (Some (meaning.sequence (reached - 1)))
        (sym (ap (λ ys. meaning.text x ++ flat_map meaning.text ys) nothing ∙ append-nil (meaning.text x)))
        (ap (λ n. Some (meaning.sequence n)) same)
    | inr not ↦
        let more = closed-reached xs reached closed.1 ends.1
        (sym (ap (λ b. cond b (x + 1) (reached_in at xs)) not) ∙ is) some in
        ap (λ one. behind one (order_met meaning at xs)) (searched-met x closed.0 not)
        ∙ ap (behind (meaning.text x, None)) more
  ]

module _ (search : Search) (places : List Place) (order : List ℕ) (meaning : Meaning) (shop : Shop)
    (threshold : ℕ) (begin end : List ℕ) (is : IsSearch search places order)
    (stands : StandsFor meaning places order (visits shop threshold begin end)) where
  over : search.budget < search.settled → Agrees shop threshold search.budget begin end meaning order (Some Over)
  over more = omega (
    arith,
    more,
    is.settled,
    settled-met meaning (place_at places) order is.ends stands.lengths,
    ap (λ m. length m.0) stands.met_in_all,
  )

  module _ (within : search.settled ≤ search.budget) (none : search.open ≡ 0) where
    closed : AllByRecursion (λ q. is_open (place_at places q) ≡ false) order
    closed = all-closed meaning (place_at places) order (sym is.opened ∙ none)

    settled-is : length (flat_map meaning.text order) ≡ search.settled
    settled-is = closed-length meaning (place_at places) order closed stands.lengths ∙ sym is.settled

    proved : search.reached ≡ 0 →
        Agrees shop threshold search.budget begin end meaning order (Some (Proved search.settled))
    proved nothing text is_text =
        let all = sym (closed-none meaning (place_at places) order closed (sym is.reached ∙ nothing))
        ∙ stands.met_in_all in (
          ap length is_text ∙ settled-is,
          (sym (ap (λ m. m.1) all), is_text ∙ ap (λ m. m.0) all, omega (arith, ap length is_text, settled-is, within)),
        )

    below : search.reached ≢ 0 →
        Agrees shop threshold search.budget begin end meaning order (Some (Below (search.reached - 1) search.settled))
    below some =
        let all = sym (closed-reached meaning (place_at places) order search.reached closed is.ends (sym is.reached)
        some) ∙ stands.met_in_all in
        (sym (ap (λ m. m.1) all), refl, sym settled-is ∙ ap (λ m. length m.0) all, within)

  pub agrees : Agrees shop threshold search.budget begin end meaning order (decided_of search)
  agrees =
      cond_both (ltb search.budget search.settled) (Some Over) _
      (Agrees shop threshold search.budget begin end meaning order)
      (λ more. over (ltb-true search.budget search.settled more))
      (λ fits. let within : search.settled ≤ search.budget = ltb-false search.budget search.settled fits in
      cond_both (ltb 0 search.open) None _ (Agrees shop threshold search.budget begin end meaning order)
      (λ _. tt)
      (λ not. let none : search.open ≡ 0 = omega (arith, ltb-false 0 search.open not) in
      cond_both (ltb 0 search.reached) (Some (Below (search.reached - 1) search.settled))
      (Some (Proved search.settled)) (Agrees shop threshold search.budget begin end meaning order)
      (λ some. below within none (λ zero_reached. absurd (omega (arith, ltb-true 0 search.reached some, zero_reached))))
      (λ nothing. proved within none (omega (arith, ltb-false 0 search.reached nothing)))))

pub decided-agrees : DecidedAgrees
decided-agrees search places order meaning shop threshold begin end is stands =
    agrees search places order meaning shop threshold begin end is stands
