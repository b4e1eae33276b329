-- What is kept of the children of a node at an end, and of those of its own children.
use Rattle.std.proofs.Common.{◌≡◌, ◌≢◌, ◌↔◌, ℕ, zero, suc, ◌+◌, ◌-◌, ◌/◌, ◌%◌, ◌<◌, ◌≤◌, min, Bool, true, false}
use Rattle.std.proofs.Common.{cond, ◌||◌, nat_eq, nat_lt, filter, List, [], ◌∷◌, ◌++◌, length, slice_index}
use Rattle.std.proofs.Common.{slice_index_or, set, refl, ap, sym, ◌∙◌, subst, inl, inr, arith, All}
use Rattle.std.specs.Prelude.{IsBitSet, bit_and, Some, None}
use Rattle.std.specs.Int.{bit_at}
use Rattle.std.specs.Global.{Vec}
use Rattle.std.specs.List.{AllByRecursion}
use Rattle.std.proofs.lemmas.Bool.{cases_eq, cases_Bool, eq-eqb, ne_eqb, false≢true, cond-true, cond-false}
use Rattle.std.proofs.lemmas.Bool.Decides.{Decides-ltb}
use Rattle.std.proofs.lemmas.Nat.Bits.{bit_at-lt, bit_at_and, bit_at-zero}
use Rattle.std.proofs.lemmas.List.{get_or-set_same, get_or-set_other, length-set}
use Rattle.std.proofs.lemmas.List.Elements.{filter_passes, recursion_from_All}
use Rattle.flow_shop.specs.Shop.{Shop, time}
use Rattle.flow_shop.specs.Sequences.{has, jobs_left}
use Rattle.flow_shop.specs.Ends.{front, end_bound, end_bound_at}
use Rattle.flow_shop.specs.Directions.{first_with, last_with}
use Rattle.flow_shop.specs.declared.end.End.{End}
use Rattle.flow_shop.specs.declared.end.End.TheVariants.{Front, Back}
use Rattle.flow_shop.proofs.Extremes.{range-le-greatest, greatest-range-le}
use Rattle.flow_shop.proofs.EndSteps.{front_by_recurrence, back-is, sum-child, has-child}
use Rattle.flow_shop.proofs.Taken.{has-push}
use Rattle.flow_nodes.specs.Vectors.{HasLane, limit_of}
use Rattle.flow_nodes.specs.Nodes.{IsJob, IsNode}
use Rattle.flow_nodes.specs.Groups.{child_bound}
use Rattle.flow_nodes.specs.Marks.{mark, chosen}
use Rattle.flow_nodes.specs.Packs.{HasLeft, left_below}
use Rattle.flow_nodes.specs.Open.{start_at, AreChildren, HasStartRoom, HasStarts, HasStartsAndBound}
use Rattle.flow_nodes.specs.declared.node.Node.{Node}
use Rattle.flow_nodes.specs.declared.marks.Marks.{Marks}
use Rattle.flow_nodes.specs.declared.open.Children.{Children}
use Rattle.flow_nodes.proofs.ChildBounds.{child-bound-small}
use Rattle.flow_nodes.proofs.KeptNodes.{first-all}
use Rattle.flow_nodes.proofs.MarkedNames.{kept, kept-yes, kept-no, kept-filter}
use Rattle.flow_nodes.proofs.ChosenNames.{chosen-kept, chosen-filter}
use Rattle.flow_nodes.proofs.MarkSteps.{bit-set, set-bit, mark-there}
use Rattle.flow_nodes.proofs.JobsMarked.{kept-each, marked-left}

-- the starts of a group are written
module _ {V : Type 0} (starts : List (Vec V)) (group : ℕ) (vector : Vec V) (within : group < length starts) where
  -- a fact about each group
  pub starts-each : (P : ℕ → Vec V → Type 0) → P group vector → (place : ℕ) (none : Vec V) →
      (place ≢ group → P place (slice_index_or starts place none)) →
      P place (slice_index_or (set starts group vector) place none)
  starts-each P here place none other = elim (cases_eq place group) [
    | inl same ↦
        let there : slice_index_or (set starts group vector) place none ≡ vector =
        ap (λ p. slice_index_or (set starts group vector) p none) same
        ∙ get_or-set_same starts group vector none within in
        subst (P place) (sym there) (subst (λ p. P p vector) (sym same) here)
    | inr apart ↦
        subst (P place) (sym (get_or-set_other starts group place vector none apart)) (other apart)
  ]

  -- the memory stays
  pub start-room : (shop : Shop) (count : ℕ) → HasStartRoom shop count starts →
      length vector.items ≡ length (slice_index_or starts group vector).items →
      HasStartRoom shop count (set starts group vector)
  start-room shop count room size =
      let long : length (set starts group vector) ≡ length starts = length-set starts group vector in
      record {
        enough = omega (arith, long, room.enough);
        machines = λ place none low.
            starts-each (λ p v. length v.items ≡ shop.machines) (size ∙ room.machines group vector within) place none
            (λ apart. room.machines place none (omega (arith, low, long)));
      }

-- names that are kept by few marks are kept by more
kept-fewer : (few many : ℕ → ℕ) (names : List ℕ) → ((i : ℕ) → i < length names → few i ≡ 1 → many i ≡ 1) →
    length (kept few names) ≤ length (kept many names)
kept-fewer few many [] within = omega arith
kept-fewer few many (name ∷ names) within =
    let rest = kept-fewer (λ i. few (suc i)) (λ i. many (suc i)) names (λ i low. within (suc i) (omega arith)) in
    elim (cases_eq (few 0) 1) [
      | inl marked ↦ omega (
        arith,
        rest,
        ap length (kept-yes few name names marked),
        ap length (kept-yes many name names (within 0 (omega arith) marked)),
      )
      | inr unmarked ↦ elim (cases_eq (many 0) 1) [
        | inl more ↦ omega (
          arith,
          rest,
          ap length (kept-no few name names unmarked),
          ap length (kept-yes many name names more),
        )
        | inr none ↦ omega (
          arith,
          rest,
          ap length (kept-no few name names unmarked),
          ap length (kept-no many name names none),
        )
      ]
    ]

-- where few marks keep as many names as more marks, they are the same marks
kept-full : (few many : ℕ → ℕ) (names : List ℕ) → ((i : ℕ) → i < length names → few i ≡ 1 → many i ≡ 1) →
    length (kept many names) ≤ length (kept few names) → (i : ℕ) → i < length names → many i ≡ 1 → few i ≡ 1
kept-full few many [] within enough i low marked = absurd (omega (arith, low))
kept-full few many (name ∷ names) within enough i low marked =
    let inside : (k : ℕ) → k < length names → few (suc k) ≡ 1 → many (suc k) ≡ 1 =
    λ k under. within (suc k) (omega (arith, under)) in
    let fewer = kept-fewer (λ k. few (suc k)) (λ k. many (suc k)) names inside in
    elim (cases_eq (few 0) 1) [
      | inl first ↦
          let rest = kept-full (λ k. few (suc k)) (λ k. many (suc k)) names inside (omega (
            arith,
            enough,
            ap length (kept-yes few name names first),
            ap length (kept-yes many name names (within 0 (omega arith) first)),
          )) in
          behind rest first i low marked
      | inr none ↦ elim (cases_eq (many 0) 1) [
        | inl more ↦ absurd (omega (
          arith,
          enough,
          fewer,
          ap length (kept-no few name names none),
          ap length (kept-yes many name names more),
        ))
        | inr neither ↦
            let rest = kept-full (λ k. few (suc k)) (λ k. many (suc k)) names inside (omega (
              arith,
              enough,
              ap length (kept-no few name names none),
              ap length (kept-no many name names neither),
            )) in
            apart rest neither i low marked
      ]
    ]
  where
    behind : ((k : ℕ) → k < length names → many (suc k) ≡ 1 → few (suc k) ≡ 1) → few 0 ≡ 1 → (k : ℕ) →
        k < suc (length names) → many k ≡ 1 → few k ≡ 1
    behind rest first zero under is = first
    behind rest first (suc k) under is = rest k (omega (arith, under)) is

    apart : ((k : ℕ) → k < length names → many (suc k) ≡ 1 → few (suc k) ≡ 1) → many 0 ≢ 1 → (k : ℕ) →
        k < suc (length names) → many k ≡ 1 → few k ≡ 1
    apart rest neither zero under is = absurd (neither is)
    apart rest neither (suc k) under is = rest k (omega (arith, under)) is

-- where the names at marked places are those of a list that pass a test, each of them passes it
marked-passes : (p : ℕ → Bool) (words names list : List ℕ) → chosen words names ≡ filter p list → (place : ℕ) →
    place < length names → mark words place ≡ 1 → p (slice_index names place) ≡ true
marked-passes p words names list is place within marked =
    let all : AllByRecursion (λ job. p job ≡ true) (filter p list) =
    recursion_from_All (λ job. p job ≡ true) (filter p list) (filter_passes p list) in
    kept-each (λ job. p job ≡ true) (mark words) names
    (subst (AllByRecursion (λ job. p job ≡ true)) (sym is ∙ chosen-kept words names) all) place within marked

-- what the marks of the children of a node at an end say of one place
module _ {V : Type 0} (list : V → List ℕ) (cap width : ℕ) (shop : Shop) (threshold : ℕ) (end : End)
    (first last names : List ℕ) (left : Marks) (children : Children V)
    (are : AreChildren list cap width shop threshold end first last names left children) (place : ℕ)
    (inside : place < length names) where
  abbrev bound : ℕ → ℕ
  bound job = child_bound shop end first last job

  abbrev passes : ℕ → Bool
  passes job = nat_lt (bound job) threshold

  -- the child of a marked place is below the threshold
  pub below-threshold : mark children.below.words place ≡ 1 →
      child_bound shop end first last (slice_index names place) < threshold
  below-threshold marked =
      (Decides-ltb (bound (slice_index names place)) threshold).0
      (marked-passes passes children.below.words names (jobs_left shop.jobs (first ++ last)) are.below place inside
      marked)

  abbrev many : ℕ → ℕ
  many i = cond (passes (slice_index names i)) (mark left.words i) 0

  both : (i : ℕ) → (many i ≡ 1) ↔ ((mark left.words i ≡ 1) × (passes (slice_index names i) ≡ true))
  both i = elim (cases_Bool (passes (slice_index names i))) [
    | inl good ↦
        let is : many i ≡ mark left.words i = cond-true _ _ _ good in
        (λ one. (sym is ∙ one, good), λ pair. is ∙ pair.0)
    | inr bad ↦
        let is : many i ≡ 0 = cond-false _ _ _ bad in
        (λ one. absurd (omega (arith, is, one)), λ pair. absurd (false≢true (sym bad ∙ pair.1)))
  ]

  -- and each place left whose child is below the threshold is marked
  pub below-marked : HasLeft shop first last names left → mark left.words place ≡ 1 →
      child_bound shop end first last (slice_index names place) < threshold → mark children.below.words place ≡ 1
  below-marked has_left was under =
      let few : ℕ → ℕ = mark children.below.words in
      let same : kept many names ≡ kept few names =
      kept-filter passes (mark left.words) many names (λ i low. both i)
      ∙ ap (filter passes) (sym (chosen-kept left.words names) ∙ has_left)
      ∙ sym are.below ∙ chosen-kept children.below.words names in
      kept-full few many names
      (λ i low one. (both i).1 (
        are.within i low one,
        marked-passes passes children.below.words names (jobs_left shop.jobs (first ++ last)) are.below i low one,
      ))
      (omega (arith, ap length same)) place inside
      ((both place).1 (was, (Decides-ltb (bound (slice_index names place)) threshold).1 under))

-- a word of the places that are marked twice is met with bits, and written
module _ (one two words : List ℕ) (group bits word place : ℕ) (within : group < length words)
    (word_is : word ≡ bit_and (slice_index one group) (slice_index two group)) (there : place / 16 ≡ group) where
  meets : bit_at word (place % 16) ≡ min (mark one place) (mark two place)
  meets =
      ap (λ w. bit_at w (place % 16)) word_is
      ∙ bit_at_and (slice_index one group) (slice_index two group) (place % 16)
      ∙ ap (λ g. min (bit_at (slice_index one g) (place % 16)) (bit_at (slice_index two g) (place % 16))) (sym there)

  met : mark (set words group (bit_and bits word)) place
      ≡ min (bit_at bits (place % 16)) (min (mark one place) (mark two place))
  met =
      mark-there words group (bit_and bits word) place within there
      ∙ bit_at_and bits word (place % 16)
      ∙ ap (min (bit_at bits (place % 16))) meets

  small-one : mark one place < 2
  small-one = bit_at-lt (slice_index one (place / 16)) (place % 16)

  small-two : mark two place < 2
  small-two = bit_at-lt (slice_index two (place / 16)) (place % 16)

  -- a place that is marked then was marked twice
  pub met-within : mark (set words group (bit_and bits word)) place ≡ 1 → (mark one place ≡ 1) × (mark two place ≡ 1)
  met-within marked = (omega (arith, marked, met, small-one), omega (arith, marked, met, small-two))

  -- a place that was marked twice is marked then just where its bit is 1
  pub met-exact : (bound threshold : ℕ) → mark one place ≡ 1 → mark two place ≡ 1 →
      bit_at bits (place % 16) ≡ 1 ↔ (bound < threshold) →
      mark (set words group (bit_and bits word)) place ≡ 1 ↔ (bound < threshold)
  met-exact bound threshold is also tells =
      let few : bit_at bits (place % 16) < 2 = bit_at-lt bits (place % 16) in (
        λ marked. tells.0 (omega (arith, marked, met, is, also, few)),
        λ under. omega (arith, met, is, also, tells.1 under),
      )

  -- where the word is 0, no place of it was marked twice
  pub none-twice : word ≡ 0 → mark one place ≡ 1 → mark two place ≢ 1
  none-twice none is also =
      omega (arith, is, also, meets, ap (λ w. bit_at w (place % 16)) none, bit_at-zero (place % 16))

-- what a bit says of the child that puts a job
pub job-tells : (shop : Shop) (threshold limit : ℕ) (end : End) (first last : List ℕ) (node : Node) (job bits lane : ℕ) →
    IsNode shop first last node → IsJob shop job → limit ≡ limit_of threshold → has (first ++ last) job ≡ false →
    IsBitSet bits lane ↔ (child_bound shop end first last job < limit) →
    bit_at bits lane ≡ 1 ↔ (child_bound shop end first last job < threshold)
job-tells shop threshold limit end first last node job bits lane is range limit_is fresh says =
    let small : child_bound shop end first last job < 4294967295 =
    child-bound-small shop end first last job node is range fresh in (
      λ one. omega (arith, limit_is, says.0 (set-bit bits lane one)),
      λ under. bit-set bits lane (says.1 (omega (arith, limit_is, under, small))),
    )

-- the bound of a node is no more than that of its child
pub bound-grows : (shop : Shop) (end : End) (first last : List ℕ) (job : ℕ) → All (λ job. IsJob shop job) first →
    IsJob shop job → has (first ++ last) job ≡ false →
    end_bound shop first last ≤ child_bound shop end first last job
unfolding end_bound
bound-grows shop Front first last job all range fresh =
    greatest-range-le (end_bound_at shop first last) 1 (shop.machines + 1 - 1)
    (end_bound shop (first ++ job ∷ []) last)
    (λ k low high.
    let same : k - 1 + 1 ≡ k = omega (arith, low) in
    omega (
      arith,
      (front_by_recurrence shop first job (k - 1) all range.0 range.1).1,
      ap (front shop first) same,
      ap (front shop (first ++ job ∷ [])) same,
      ap (time shop job) same,
      sum-child (λ job. time shop job k) shop.jobs Front first last job range.0 range.1 fresh,
      range-le-greatest (end_bound_at shop (first ++ job ∷ []) last) 1 (shop.machines + 1 - 1) k low high,
    ))
bound-grows shop Back first last job all range fresh =
    greatest-range-le (end_bound_at shop first last) 1 (shop.machines + 1 - 1) (end_bound shop first (job ∷ last))
    (λ k low high. omega (
      arith,
      back-is shop last job k range.0 range.1 (omega (arith, high)),
      sum-child (λ job. time shop job k) shop.jobs Back first last job range.0 range.1 fresh,
      range-le-greatest (end_bound_at shop first (job ∷ last)) 1 (shop.machines + 1 - 1) k low high,
    ))

-- the other end
abbrev pub opposite : End → End
opposite Front = Back
opposite Back = Front

or-none : (a b : Bool) → (a || b) ≡ false → (a ≡ false) × (b ≡ false)
or-none true b none = absurd (false≢true (sym none))
or-none false b none = (refl, none)

-- a job that is put at one end, and another one that is left then and is put at the other end
module _ (shop : Shop) (first last : List ℕ) (put job : ℕ) (put_fresh : has (first ++ last) put ≡ false) where
  -- the other one was left before
  pub left-before : (end : End) → has (first_with end first put ++ last_with end last put) job ≡ false →
      has (first ++ last) job ≡ false
  left-before end fresh =
      (or-none (has (first ++ last) job) (nat_eq job put)
      (sym (has-push (first ++ last) put job) ∙ sym (has-child end first last put job) ∙ fresh)).0

  -- the first one is left once the other one is put
  left-after : (end other : End) → has (first_with end first put ++ last_with end last put) job ≡ false →
      has (first_with other first job ++ last_with other last job) put ≡ false
  left-after end other fresh =
      let differs : nat_eq job put ≡ false =
      (or-none (has (first ++ last) job) (nat_eq job put)
      (sym (has-push (first ++ last) put job) ∙ sym (has-child end first last put job) ∙ fresh)).1 in
      has-child other first last job put
      ∙ has-push (first ++ last) job put
      ∙ ap (λ b. b || nat_eq put job) put_fresh
      ∙ (elim (cases_eq put job) [
        | inl same ↦ absurd (false≢true (sym differs ∙ eq-eqb job put (sym same)))
        | inr apart ↦ ne_eqb put job apart
      ])

  -- the bound of the child at the other end has not become less
  pub other-grows : (end : End) → All (λ job. IsJob shop job) first → IsJob shop put → IsJob shop job →
      has (first_with end first put ++ last_with end last put) job ≡ false →
      child_bound shop (opposite end) first last job
      ≤ child_bound shop (opposite end) (first_with end first put) (last_with end last put) job
  other-grows Front all range also fresh =
      bound-grows shop Front first (job ∷ last) put all range (left-after Front Back fresh)
  other-grows Back all range also fresh =
      bound-grows shop Back (first ++ job ∷ []) last put (first-all shop job also Front first all) range
      (left-after Back Front fresh)

-- the starts at the other end stay
pub same-start : (shop : Shop) (end : End) (first last : List ℕ) (put job machine : ℕ) →
    start_at shop (opposite end) (first_with end first put) (last_with end last put) job machine
    ≡ start_at shop (opposite end) first last job machine
same-start shop Front first last put job machine = refl
same-start shop Back first last put job machine = refl

-- so a job left has them at the child, where the bounds of its group are known at the parent
pub kept-starts : {V : Type 0} (list : V → List ℕ) (cap width : ℕ) (shop : Shop) {threshold : ℕ} (end : End)
    (first last names : List ℕ) (put : ℕ) (old : Marks) (parent : Children V) →
    AreChildren list cap width shop threshold (opposite end) first last names old parent →
    (place : ℕ) (none : Vec V) (bounds : V) → place < length names → mark old.words place ≡ 1 →
    slice_index_or parent.bounds.items (place / 16) None ≡ Some bounds →
    HasStarts list cap width shop (opposite end) (first_with end first put) (last_with end last put)
    (slice_index names place) (place % 16) (slice_index_or parent.starts.items (place / 16) none).items
kept-starts list cap width shop end first last names put old parent are place none bounds inside was same machine
    vector on =
    subst (HasLane cap width (list (slice_index_or (slice_index_or parent.starts.items (place / 16) none).items
    (machine - 1) vector)) (place % 16))
    (sym (same-start shop end first last put (slice_index names place) machine))
    ((are.whole place none bounds inside was same).start machine vector on)

-- what is kept of the children at the other end
pub kept-children : {V : Type 0} (list : V → List ℕ) (cap width : ℕ) (shop : Shop) (threshold : ℕ) (end : End)
    (first last names : List ℕ) (put : ℕ) (node : Node) (old left : Marks) (parent children : Children V) →
    IsNode shop first last node → IsJob shop put → has (first ++ last) put ≡ false →
    HasLeft shop first last names old → HasLeft shop (first_with end first put) (last_with end last put) names left →
    ((place : ℕ) → mark left.words place ≡ 1 → mark old.words place ≡ 1) →
    ((place : ℕ) → place < length names → IsJob shop (slice_index names place)) →
    AreChildren list cap width shop threshold (opposite end) first last names old parent →
    ((place : ℕ) → place < length names → mark children.below.words place ≡ 1 →
    (mark left.words place ≡ 1) × (mark parent.below.words place ≡ 1)) →
    ((place : ℕ) → place < length names → mark left.words place ≡ 1 → mark parent.below.words place ≡ 1 →
    mark children.below.words place ≡ 1
    ↔ (child_bound shop (opposite end) (first_with end first put) (last_with end last put) (slice_index names place)
    < threshold)) →
    ((place : ℕ) (before : V) → place < length names → mark children.below.words place ≡ 1 →
    slice_index_or parent.bounds.items (place / 16) None ≡ Some before →
    (bounds : V) × (slice_index_or children.bounds.items (place / 16) None ≡ Some bounds)) →
    ((place : ℕ) (none : Vec V) (bounds : V) → place < length names → mark left.words place ≡ 1 →
    slice_index_or children.bounds.items (place / 16) None ≡ Some bounds →
    ((before : V) → slice_index_or parent.bounds.items (place / 16) None ≡ Some before →
    HasStarts list cap width shop (opposite end) (first_with end first put) (last_with end last put)
    (slice_index names place) (place % 16) (slice_index_or parent.starts.items (place / 16) none).items) →
    HasStartsAndBound list cap width shop (opposite end) (first_with end first put) (last_with end last put)
    (slice_index names place) (place % 16) (slice_index_or children.starts.items (place / 16) none).items bounds) →
    children.count ≡ length (chosen children.below.words names) →
    AreChildren list cap width shop threshold (opposite end) (first_with end first put) (last_with end last put) names
    left children
kept-children list cap width shop threshold end first last names put node old left parent children is range fresh old_left
    has_left fewer jobs are within exact known whole count =
    let bound : ℕ → ℕ =
    child_bound shop (opposite end) (first_with end first put) (last_with end last put) in
    let below : chosen children.below.words names
    ≡ left_below shop threshold (opposite end) (first_with end first put) (last_with end last put) =
    chosen-filter (λ job. nat_lt (bound job) threshold) left.words children.below.words names
    (λ place inside. (
      λ marked.
          let were = within place inside marked in (
            were.0,
            (Decides-ltb (bound (slice_index names place)) threshold).1 ((exact place inside were.0 were.1).0 marked),
          ),
      λ pair.
          let under : bound (slice_index names place) < threshold =
          (Decides-ltb (bound (slice_index names place)) threshold).0 pair.1 in
          let new : has (first_with end first put ++ last_with end last put) (slice_index names place) ≡ false =
          marked-left shop.jobs (first_with end first put ++ last_with end last put) left.words names has_left place
          inside pair.0 in
          let grows = other-grows shop first last put (slice_index names place) fresh end is.first_jobs range
          (jobs place inside) new in
          let was = below-marked list cap width shop threshold (opposite end) first last names old parent are place inside
          old_left (fewer place pair.0) (omega (arith, grows, under)) in
          (exact place inside pair.0 was).1 under,
    ))
    ∙ ap (filter (λ job. nat_lt (bound job) threshold)) has_left in
    record {
      below = below;
      within = λ place inside marked. (within place inside marked).0;
      count = count ∙ ap length below;
      known = λ place inside marked.
          let was = are.known place inside (within place inside marked).1 in known place was.0 inside marked was.1;
      whole = λ place none bounds inside marked same. whole place none bounds inside marked same
          (λ before was.
          kept-starts list cap width shop end first last names put old parent are place none before inside
          (fewer place marked) was);
    }
