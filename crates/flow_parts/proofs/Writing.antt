-- Writes into the array of places.
use Rattle.std.proofs.Common.{◌≡◌, ◌≢◌, ℕ, suc, ◌+◌, ◌-◌, ◌<◌, ◌≤◌, ◌^◌, inl, inr, List, [], ◌∷◌, ◌++◌, length, refl}
use Rattle.std.proofs.Common.{ap, sym, ◌∙◌, subst, arith, sum_by, slice_set}
use Rattle.std.proofs.Common.{append_assoc, append-nil}
use Rattle.std.specs.List.{AllByRecursion, range_with_len}
use Rattle.std.proofs.lemmas.Bool.{cases_eq}
use Rattle.std.proofs.lemmas.List.{get_or-set_same, get_or-set_other}
use Rattle.std.proofs.lemmas.List.Sums.{sum_by_push, sum_by-append, sum_by-cons}
use Rattle.flow_parts.specs.declared.place.Place.{Place}
use Rattle.flow_parts.specs.declared.walks.Dropped.{Dropped}
use Rattle.flow_parts.specs.Orders.{place_at, open_in, counted_in, IsLinked}
use Rattle.flow_parts.specs.internal.Walks.{AreDropped, IsCounted, AreAdded, start_of}
use Rattle.flow_parts.proofs.Numbers.{all-first, all-rest, all-append, all-both, all-weaker, range-above}
use Rattle.flow_parts.proofs.Links.{linked-kept, apart-first}
use Rattle.flow_parts.proofs.Walking.{linked-none, linked-some, none-long}

-- one place was written
pub record IsWritten (at at' : ℕ → Place) (here : ℕ) (place : Place) : Type 0 where
  pub value : at' here ≡ place
  pub others : (number : ℕ) → number ≢ here → at' number ≡ at number

pub written-at : (places : List Place) (here : ℕ) (place : Place) → here < length places →
    IsWritten (place_at places) (place_at (slice_set places here place)) here place
written-at places here place within = record {
  value = get_or-set_same places here place _ within;
  others = λ number not. get_or-set_other places here number place _ not;
}

-- a place that was read was written
pub written-read : (old new : List Place) (here : ℕ) (read : Place) (change : Place → Place) →
    read ≡ place_at old here → new ≡ slice_set old here (change read) → here < length old →
    IsWritten (place_at old) (place_at new) here (change (place_at old here))
written-read old new here read change is set within =
    subst (λ place. IsWritten (place_at old) (place_at new) here (change place)) is
    (subst (λ places. IsWritten (place_at old) (place_at places) here (change read)) (sym set)
    (written-at old here (change read) within))

-- a walk that drops places, after so many steps of those that an array has
pub record Dropping (at at' : ℕ → Place) (size step link : ℕ) (dropped : Dropped) (rest : List ℕ) : Type 0 where
  pub gone : List ℕ
  pub more : List ℕ
  pub are : rest ≡ gone ++ more
  pub linked : IsLinked (λ number. (at number).next) link more
  pub short : length more + step ≤ size
  pub are_dropped : AreDropped at at' gone
  pub counted : IsCounted at gone dropped

module _ (at at' : ℕ → Place) (size step link : ℕ) (dropped : Dropped) (rest : List ℕ)
    (walk : Dropping at at' size step link dropped rest) where
  gone-all : walk.more ≡ [] → walk.gone ≡ rest
  gone-all is = sym (walk.are ∙ ap (λ xs. walk.gone ++ xs) is ∙ append-nil walk.gone)

  dropping-nil : walk.more ≡ [] → AreDropped at at' rest × IsCounted at rest dropped
  dropping-nil is = (
    subst (λ xs. AreDropped at at' xs) (gone-all is) walk.are_dropped,
    subst (λ xs. IsCounted at xs dropped) (gone-all is) walk.counted,
  )

  pub dropping-none : link ≡ 0 → AreDropped at at' rest × IsCounted at rest dropped
  dropping-none none = dropping-nil (linked-none (λ number. (at number).next) link walk.more walk.linked none)

  pub dropping-end : size ≤ step → AreDropped at at' rest × IsCounted at rest dropped
  dropping-end all = dropping-nil (none-long walk.more (omega (arith, walk.short, all)))

  pub dropping-within : (count : ℕ) → AllByRecursion (λ q. q < count) rest → link ≢ 0 → link - 1 < count
  dropping-within count within some =
      let first = linked-some (λ number. (at number).next) link walk.more walk.linked some in
      (all-rest (λ q. q < count) walk.gone ((link - 1) ∷ first.0)
      (subst (λ xs. AllByRecursion (λ q. q < count) xs) (walk.are ∙ ap (λ xs. walk.gone ++ xs) first.1) within)).0

-- the places that were dropped, and one more
dropped-more : (at at' at'' : ℕ → Place) (gone : List ℕ) (here : ℕ) → AreDropped at at' gone →
    AllByRecursion (λ q. q ≢ here) gone → at' here ≡ at here →
    IsWritten at' at'' here (record (at' here) { state = 4 }) → AreDropped at at'' (gone ++ here ∷ [])
dropped-more at at' at'' gone here are apart same written = record {
  dropped = all-append (λ q. at'' q ≡ record (at q) { state = 4 }) gone (here ∷ [])
      (all-both (λ q. at' q ≡ record (at q) { state = 4 }) (λ q. q ≢ here)
      (λ q. at'' q ≡ record (at q) { state = 4 }) gone (λ q is not. written.others q not ∙ is) are.dropped apart)
      (written.value ∙ ap {A = Place} {B = Place} (λ place. record place { state = 4 }) same, tt);
  others = λ q not.
      written.others q (λ is. (all-rest (λ r. r ≢ q) gone (here ∷ []) not).0 (sym is))
      ∙ are.others q (all-first (λ r. r ≢ q) gone (here ∷ []) not);
  states = λ q. elim (cases_eq q here) [
    | inl is ↦ inr (ap (λ n. (at'' n).state) is ∙ ap (λ place. place.state) written.value)
    | inr not ↦ elim (are.states q) [
      | inl stays ↦ inl (ap (λ place. place.state) (written.others q not) ∙ stays)
      | inr gone_too ↦ inr (ap (λ place. place.state) (written.others q not) ∙ gone_too)
    ]
  ];
}

pub dropping-more : (at at' at'' : ℕ → Place) (size step link start : ℕ) (dropped after : Dropped) (rest : List ℕ)
    (next : ℕ) → Dropping at at' size step link dropped rest → IsLinked (λ number. (at number).next) start rest →
    link ≢ 0 → IsWritten at' at'' (link - 1) (record (at' (link - 1)) { state = 4 }) →
    sum_by (λ number. open_in (at number)) rest < 2 ^ 64 → sum_by (λ number. counted_in (at number)) rest < 2 ^ 64 →
    (dropped.open + open_in (at' (link - 1)) < 2 ^ 64 → after.open ≡ dropped.open + open_in (at' (link - 1))) →
    (dropped.written + counted_in (at' (link - 1)) < 2 ^ 64 →
    after.written ≡ dropped.written + counted_in (at' (link - 1))) →
    next ≡ (at' (link - 1)).next →
    Dropping at at'' size (step + 1) next after rest
dropping-more at at' at'' size step link start dropped after rest next walk whole some written fits fits2 opened
    counted is =
    let first = linked-some (λ number. (at number).next) link walk.more walk.linked some in
    let here : ℕ = link - 1 in
    let are : rest ≡ walk.gone ++ here ∷ first.0 = walk.are ∙ ap (λ xs. walk.gone ++ xs) first.1 in
    let apart = apart-first (λ number. (at number).next) start walk.gone here first.0
    (subst (λ xs. IsLinked (λ number. (at number).next) start xs) are whole) in
    let same : at' here ≡ at here = walk.are_dropped.others here apart in
    let opens : open_in (at' here) ≡ open_in (at here) = ap open_in same in
    let counts : counted_in (at' here) ≡ counted_in (at here) = ap counted_in same in
    let open_sum = ap (sum_by (λ number. open_in (at number))) are
    ∙ sum_by-append (λ number. open_in (at number)) walk.gone (here ∷ first.0) in
    let open_first = sum_by-cons (λ number. open_in (at number)) here first.0 in
    let count_sum = ap (sum_by (λ number. counted_in (at number))) are
    ∙ sum_by-append (λ number. counted_in (at number)) walk.gone (here ∷ first.0) in
    let count_first = sum_by-cons (λ number. counted_in (at number)) here first.0 in
    let now_open : after.open ≡ dropped.open + open_in (at' here) =
    opened (omega (arith, walk.counted.opened, opens, open_sum, open_first, fits)) in
    let now_written : after.written ≡ dropped.written + counted_in (at' here) =
    counted (omega (arith, walk.counted.written, counts, count_sum, count_first, fits2)) in
    record {
      gone = walk.gone ++ here ∷ [];
      more = first.0;
      are = are ∙ sym (append_assoc walk.gone (here ∷ []) first.0);
      linked = subst (λ n. IsLinked (λ number. (at number).next) n first.0)
          (sym (is ∙ ap (λ place. place.next) same)) first.2;
      short = omega (arith, walk.short, ap length first.1);
      are_dropped = dropped-more at at' at'' walk.gone here walk.are_dropped apart same written;
      counted = record {
        opened = now_open ∙ omega (arith, walk.counted.opened, opens)
            ∙ sym (sum_by_push (λ number. open_in (at number)) walk.gone here);
        written = now_written ∙ omega (arith, walk.counted.written, counts)
            ∙ sym (sum_by_push (λ number. counted_in (at number)) walk.gone here);
      };
    }

module _ (at at' at'' : ℕ → Place) (here m k next_link : ℕ) (place : Place) (are : AreAdded at at' m k next_link)
    (is : m ≡ here + 1) (written : IsWritten at' at'' here place) where
  above : AllByRecursion (λ q. q ≢ here) (range_with_len m k)
  above = all-weaker (λ q. here < q) (λ q. q ≢ here) (range_with_len m k) (λ q less same. omega (arith, less, same))
      (range-above here m k (omega (arith, is)))

  range-is : range_with_len here (suc k) ≡ here ∷ range_with_len m k
  range-is = ap (λ n. here ∷ range_with_len n k) (sym is)

  added-linked : place.next ≡ start_of m k next_link → (behind : List ℕ) →
      AllByRecursion (λ number. number < here) behind → IsLinked (λ number. (at number).next) next_link behind →
      IsLinked (λ number. (at'' number).next) (here + 1) (range_with_len here (suc k) ++ behind)
  added-linked starts behind within linked =
      let old = are.next behind
      (all-weaker (λ q. q < here) (λ q. q < m) behind (λ q less. omega (arith, less, is)) within)
      linked in
      let apart = all-append (λ q. q ≢ here) (range_with_len m k) behind above
      (all-weaker (λ q. q < here) (λ q. q ≢ here) behind (λ q less same. omega (arith, less, same)) within) in
      let kept = linked-kept (λ number. (at' number).next) (λ number. (at'' number).next) (start_of m k next_link)
      (range_with_len m k ++ behind) old
      (all-weaker (λ q. q ≢ here) (λ q. (at'' q).next ≡ (at' q).next) (range_with_len m k ++ behind)
      (λ q not. ap (λ p. p.next) (written.others q not)) apart) in
      subst (λ xs. IsLinked (λ number. (at'' number).next) (here + 1) (xs ++ behind)) (sym range-is) (
        refl,
        subst (λ n. IsLinked (λ number. (at'' number).next) n (range_with_len m k ++ behind))
            (sym (ap (λ p. p.next) written.value ∙ starts)) kept,
      )

  pub added-more : place.state ≡ 0 → place.next ≡ start_of m k next_link → place.written ≡ 0 → place.skip ≡ 0 →
      AreAdded at at'' here (suc k) next_link
  added-more waits nexts none zeros = record {
    beyond = λ q from.
        written.others q (λ same. omega (arith, same, from)) ∙ are.beyond q (omega (arith, from, is));
    blank = subst (λ xs. AllByRecursion (λ number. ((at'' number).written ≡ 0) × ((at'' number).skip ≡ 0)) xs)
        (sym range-is) (
          (ap (λ p. p.written) written.value ∙ none, ap (λ p. p.skip) written.value ∙ zeros),
          all-both (λ q. ((at' q).written ≡ 0) × ((at' q).skip ≡ 0)) (λ q. q ≢ here)
              (λ q. ((at'' q).written ≡ 0) × ((at'' q).skip ≡ 0)) (range_with_len m k)
              (λ q both not. (
                ap (λ p. p.written) (written.others q not) ∙ both.0,
                ap (λ p. p.skip) (written.others q not) ∙ both.1,
              )) are.blank above,
        );
    others = λ q less. written.others q (λ same. omega (arith, less, same)) ∙ are.others q (omega (arith, less, is));
    waits = subst (λ xs. AllByRecursion (λ number. (at'' number).state ≡ 0) xs) (sym range-is) (
      ap (λ p. p.state) written.value ∙ waits,
      all-both (λ q. (at' q).state ≡ 0) (λ q. q ≢ here) (λ q. (at'' q).state ≡ 0) (range_with_len m k)
          (λ q zero_state not. ap (λ p. p.state) (written.others q not) ∙ zero_state) are.waits above,
    );
    next = added-linked nexts;
  }

-- no place is added
pub added-none : (at : ℕ → Place) (m next_link : ℕ) → AreAdded at at m 0 next_link
added-none at m next_link = record {
  others = λ q less. refl;
  beyond = λ q from. refl;
  waits = tt;
  blank = tt;
  next = λ behind within linked. linked;
}

-- a walk that adds places, down to the one at an index
pub record Adding (at at' : ℕ → Place) (first count index next_link next : ℕ) : Type 0 where
  pub m : ℕ
  pub k : ℕ
  pub m_is : m ≡ first + index
  pub k_is : index + k ≡ count
  pub added : AreAdded at at' m k next_link
  pub next_is : next ≡ start_of m k next_link

pub adding-none : (at : ℕ → Place) (first count next_link : ℕ) → Adding at at first count count next_link next_link
adding-none at first count next_link = record {
  m = first + count;
  k = 0;
  m_is = refl;
  k_is = omega arith;
  added = added-none at (first + count) next_link;
  next_is = refl;
}

pub adding-more : (at at' at'' : ℕ → Place) (first count index from here next_link next after : ℕ) (place : Place) →
    Adding at at' first count from next_link next → from ≡ index + 1 → here ≡ first + index → after ≡ here + 1 →
    IsWritten at' at'' here place → place.state ≡ 0 → place.next ≡ next → place.written ≡ 0 → place.skip ≡ 0 →
    Adding at at'' first count index next_link after
adding-more at at' at'' first count index from here next_link next after place walk more is then written waits nexts
    none zeros =
    record {
      m = here;
      k = suc walk.k;
      m_is = is;
      k_is = omega (arith, walk.k_is, more);
      added = added-more at at' at'' here walk.m walk.k next_link place walk.added (omega (arith, walk.m_is, is, more))
          written waits (nexts ∙ walk.next_is) none zeros;
      next_is = then;
    }

pub adding-end : (at at' : ℕ → Place) (first count next_link next : ℕ) →
    Adding at at' first count 0 next_link next → AreAdded at at' first count next_link
adding-end at at' first count next_link next walk =
    let m_is : walk.m ≡ first = omega (arith, walk.m_is) in
    let k_is : walk.k ≡ count = omega (arith, walk.k_is) in
    subst (λ m. AreAdded at at' m count next_link) m_is
    (subst (λ k. AreAdded at at' walk.m k next_link) k_is walk.added)
