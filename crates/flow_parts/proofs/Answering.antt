-- What the places of a search stand for, after an answer.
use Rattle.std.proofs.Common.{◌≡◌, ℕ, false, cond, List, [], ◌∷◌, ◌++◌, length, Some, None, ap, sym, ◌∙◌, subst, ltb}
use Rattle.std.proofs.Common.{eqb, inl, inr}
use Rattle.std.specs.List.{AllByRecursion, flat_map, range_with_len}
use Rattle.std.proofs.lemmas.Bool.{cases_Bool, MatchBool-at_true, MatchBool-at_false}
use Rattle.flow_directions.specs.Search.{Visit, signs, first_reached, Continues}
use Rattle.flow_parts.specs.declared.place.Place.{Place}
use Rattle.flow_parts.specs.Orders.{place_at, is_open}
use Rattle.flow_parts.specs.Searches.{behind_searched}
use Rattle.flow_parts.specs.Meanings.{Met, met, behind, Meaning, place_met, order_met, StandsFor, AnswersKeep}
use Rattle.flow_parts.proofs.Numbers.{all-first, all-rest, all-append, all-both, all-weaker}
use Rattle.flow_parts.proofs.Links.{linked-same}
use Rattle.flow_parts.proofs.Putting.{given-state}
use Rattle.flow_parts.proofs.Behind.{pair, behind-assoc}
use Rattle.flow_parts.proofs.Meetings.{order-append, order-kept, open-met, closed-met, fresh-met}

module _ (meaning : Meaning) (old new : List Place) (first last : List ℕ) (number : ℕ) (all : List Visit)
    (given : (place_at old number).state ≡ 1)
    (same : AllByRecursion (λ q. place_at new q ≡ place_at old q) first)
    (stands : StandsFor meaning old (first ++ number ∷ last) all) where
  -- what is before the place, the place, and what is behind it
  parted : behind (order_met meaning (place_at old) first)
      (behind (met (meaning.parts number)) (order_met meaning (place_at old) last)) ≡ met all
  parted =
      ap (λ one. behind (order_met meaning (place_at old) first) (behind one (order_met meaning (place_at old) last)))
      (sym (open-met meaning (place_at old) number (ap (λ n. ltb n 2) given)))
      ∙ sym (order-append meaning (place_at old) first (number ∷ last)) ∙ stands.met_in_all

  first-lengths : AllByRecursion (λ q. is_open (place_at new q) ≡ false →
      length (meaning.text q) ≡ (place_at new q).written) first
  first-lengths = all-both (λ q. place_at new q ≡ place_at old q)
      (λ q. is_open (place_at old q) ≡ false → length (meaning.text q) ≡ (place_at old q).written)
      (λ q. is_open (place_at new q) ≡ false → length (meaning.text q) ≡ (place_at new q).written) first
      (λ q is known closed. known (ap is_open (sym is) ∙ closed) ∙ ap (λ p. p.written) (sym is)) same
      (all-first (λ q. is_open (place_at old q) ≡ false → length (meaning.text q) ≡ (place_at old q).written) first
      (number ∷ last) stands.lengths)

  -- where a sequence was reached
  pub reached-keeps : (place_at new number).state ≡ 3 → length (meaning.text number) ≡ (place_at new number).written →
      signs (meaning.parts number) ≡ meaning.text number →
      first_reached (meaning.parts number) ≡ Some (meaning.sequence number) →
      StandsFor meaning new (first ++ number ∷ []) all
  reached-keeps state written text sequence =
      let here : place_met meaning (place_at new) number ≡ (meaning.text number, Some (meaning.sequence number)) =
      closed-met meaning (place_at new) number (ap (λ n. ltb n 2) state)
      ∙ ap (λ n. (meaning.text number, cond (eqb n 3) (Some (meaning.sequence number)) None)) state in
      let was : met (meaning.parts number) ≡ (meaning.text number, Some (meaning.sequence number)) =
      pair (signs (meaning.parts number)) (meaning.text number) (first_reached (meaning.parts number))
      (Some (meaning.sequence number)) text sequence in
      record {
        met_in_all =
            order-append meaning (place_at new) first (number ∷ [])
            ∙ ap (λ one. behind (order_met meaning (place_at new) first) (behind one ([], None))) here
            ∙ ap (λ one. behind one (meaning.text number, Some (meaning.sequence number)))
            (order-kept meaning (place_at old) (place_at new) first same)
            ∙ sym (ap (λ one. behind (order_met meaning (place_at old) first)
            (behind one (order_met meaning (place_at old) last))) was)
            ∙ parted;
        lengths = all-append (λ q. is_open (place_at new q) ≡ false →
            length (meaning.text q) ≡ (place_at new q).written) first (number ∷ []) first-lengths
            ((λ _. written), tt);
      }

  -- where the search goes on
  pub going-on-keeps : (m k : ℕ) → (place_at new number).state ≡ 2 →
      length (meaning.text number) ≡ (place_at new number).written →
      AllByRecursion (λ q. (place_at new q).state ≡ 0) (range_with_len m k) →
      AllByRecursion (λ q. place_at new q ≡ place_at old q) last →
      Continues (meaning.parts number) (meaning.text number) (flat_map meaning.parts (range_with_len m k)) →
      StandsFor meaning new (first ++ number ∷ (range_with_len m k ++ last)) all
  going-on-keeps m k state written waits last_same goes =
      let then : List Visit = flat_map meaning.parts (range_with_len m k) in
      let rest : Met = order_met meaning (place_at old) last in
      let here : place_met meaning (place_at new) number ≡ (meaning.text number, None) =
      closed-met meaning (place_at new) number (ap (λ n. ltb n 2) state)
      ∙ ap (λ n. (meaning.text number, cond (eqb n 3) (Some (meaning.sequence number)) None)) state in
      let was : met (meaning.parts number) ≡ behind (meaning.text number, None) (met then) =
      pair (signs (meaning.parts number)) (meaning.text number ++ signs then)
      (first_reached (meaning.parts number)) (first_reached then) goes.0 goes.1 in
      let behind_it : order_met meaning (place_at new) (range_with_len m k ++ last) ≡ behind (met then) rest =
      order-append meaning (place_at new) (range_with_len m k) last
      ∙ ap (λ one. behind one (order_met meaning (place_at new) last)) (fresh-met meaning (place_at new) m k waits)
      ∙ ap (behind (met then)) (order-kept meaning (place_at old) (place_at new) last last_same) in
      record {
        met_in_all =
            order-append meaning (place_at new) first (number ∷ (range_with_len m k ++ last))
            ∙ ap (λ one. behind (order_met meaning (place_at new) first)
            (behind one (order_met meaning (place_at new) (range_with_len m k ++ last)))) here
            ∙ ap (λ one. behind (order_met meaning (place_at new) first) (behind (meaning.text number, None) one))
            behind_it
            ∙ ap (λ one. behind one (behind (meaning.text number, None) (behind (met then) rest)))
            (order-kept meaning (place_at old) (place_at new) first same)
            ∙ ap (behind (order_met meaning (place_at old) first))
            (sym (behind-assoc (meaning.text number, None) (met then) rest) ∙ ap (λ one. behind one rest) (sym was))
            ∙ parted;
        lengths = all-append (λ q. is_open (place_at new q) ≡ false →
            length (meaning.text q) ≡ (place_at new q).written) first (number ∷ (range_with_len m k ++ last))
            first-lengths (
              (λ _. written),
              all-append (λ q. is_open (place_at new q) ≡ false →
                  length (meaning.text q) ≡ (place_at new q).written) (range_with_len m k) last
                  (all-weaker (λ q. (place_at new q).state ≡ 0) (λ q. is_open (place_at new q) ≡ false →
                  length (meaning.text q) ≡ (place_at new q).written) (range_with_len m k)
                  (λ q wait closed. absurd (cc (ap (λ n. ltb n 2) wait, closed))) waits)
                  (all-both (λ q. place_at new q ≡ place_at old q)
                  (λ q. is_open (place_at old q) ≡ false → length (meaning.text q) ≡ (place_at old q).written)
                  (λ q. is_open (place_at new q) ≡ false → length (meaning.text q) ≡ (place_at new q).written) last
                  (λ q is known closed. known (ap is_open (sym is) ∙ closed) ∙ ap (λ p. p.written) (sym is)) last_same
                  (all-rest (λ q. is_open (place_at old q) ≡ false → length (meaning.text q) ≡ (place_at old q).written)
                  first (number ∷ last) stands.lengths).1),
            );
      }

pub answers-keep : AnswersKeep
answers-keep before after old new order order_after number searched meaning all is given put now answer stands =
    let stands_at : StandsFor meaning old (put.first ++ number ∷ put.behind) all =
    subst (λ xs. StandsFor meaning old xs all) put.was stands in
    let state = given-state before old number given in
    let written : length (meaning.text number) ≡ (place_at new number).written =
    answer.written ∙ sym (ap (λ p. p.written) put.place) in
    let same = linked-same (λ q. (place_at new q).next) 1
    (put.first ++ number ∷ behind_searched searched before.places put.behind) order_after put.is.linked now.linked in
    subst (λ xs. StandsFor meaning new xs all) same (elim (cases_Bool searched.reached) [
      | inl reached ↦
          let true_answer = MatchBool-at_true _ _ reached answer.then in
          subst (λ xs. StandsFor meaning new (put.first ++ number ∷ xs) all)
          (sym (ap (λ b. cond b [] (range_with_len before.places searched.left ++ put.behind)) reached))
          (reached-keeps meaning old new put.first put.behind number all state put.first_same stands_at
          (ap (λ p. p.state) put.place ∙ ap (λ b. cond b 3 2) reached) written true_answer.0 true_answer.1)
      | inr not ↦
          subst (λ xs. StandsFor meaning new (put.first ++ number ∷ xs) all)
          (sym (ap (λ b. cond b [] (range_with_len before.places searched.left ++ put.behind)) not))
          (going-on-keeps meaning old new put.first put.behind number all state put.first_same stands_at
          before.places searched.left (ap (λ p. p.state) put.place ∙ ap (λ b. cond b 3 2) not) written (put.waits not)
          (put.behind_same not) (MatchBool-at_false _ _ not answer.then))
    ])
