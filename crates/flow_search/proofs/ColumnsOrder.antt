-- The columns that are left, in increasing order, have the jobs that are left, in increasing order.
use Rattle.std.proofs.Common.{◌≡◌, ℕ, zero, suc, ◌+◌, ◌-◌, ◌<◌, ◌≤◌, Bool, true, false, cond, not, nat_eq, List}
use Rattle.std.proofs.Common.{[], ◌∷◌, length, map, slice_index, refl, ap, sym, ◌∙◌, inl, inr, arith}
use Rattle.std.specs.List.{filter, range_with_len}
use Rattle.std.proofs.lemmas.Bool.{false≢true, eq-eqb, eqb-true, or_left, or_right, or_cases}
use Rattle.std.proofs.lemmas.List.{length-map}
use Rattle.std.proofs.lemmas.Bool.Decides.{eqb_tells}
use Rattle.flow_shop.specs.Shop.{Shop}
use Rattle.flow_shop.specs.Sequences.{has, jobs_left}
use Rattle.flow_shop.proofs.JobsLeft.{bool_cases}
use Rattle.flow_shop.proofs.Lists.{has-first}
use Rattle.flow_search.specs.declared.few_left.group.Group.{Group}
use Rattle.flow_search.specs.declared.few_left.group.ColumnFrame.{ColumnFrame}
use Rattle.flow_search.specs.internal.Columns.{IsColumnLeft, IsFrameOf, job_of, columns_of}
use Rattle.flow_search.proofs.JobsTaken.{has-cases, range-has, filter-has, left-here}
use Rattle.flow_bound.proofs.Places.{has-at}
use Rattle.flow_search.proofs.Increasing.{Increases, increases-filter, increases-from, place-of}

has-rest : (x k : ℕ) (xs : List ℕ) → has xs k ≡ true → has (x ∷ xs) k ≡ true
has-rest x k xs h = or_right (nat_eq k x) (has xs k) h

increases-has : (from : ℕ) (xs : List ℕ) (k : ℕ) → Increases from xs → has xs k ≡ true → from ≤ k
increases-has from xs k is h = let at = place-of xs k h in omega (arith, increases-from from xs at.0 is at.1, at.2)

-- two increasing lists that have the same numbers
same-increasing : (a b : ℕ) (xs ys : List ℕ) → Increases a xs → Increases b ys →
    ((k : ℕ) → has xs k ≡ true → has ys k ≡ true) → ((k : ℕ) → has ys k ≡ true → has xs k ≡ true) → xs ≡ ys
same-increasing a b [] [] i j there back = refl
same-increasing a b [] (y ∷ ys) i j there back = absurd (false≢true (back y (has-first y ys)))
same-increasing a b (x ∷ xs) [] i j there back = absurd (false≢true (there x (has-first x xs)))
same-increasing a b (x ∷ xs) (y ∷ ys) i j there back =
    let low : y ≤ x = increases-has y (y ∷ ys) x (omega arith, j.1) (there x (has-first x xs)) in
    let high : x ≤ y = increases-has x (x ∷ xs) y (omega arith, i.1) (back y (has-first y ys)) in
    let e : x ≡ y = omega (arith, low, high) in
    ap (λ v. v ∷ xs) e
    ∙ ap (λ vs. y ∷ vs) (same-increasing (x + 1) (y + 1) xs ys i.1 j.1
    (λ k h. has-cases y k ys (there k (has-rest x k xs h)) (λ same. omega (
      arith,
      increases-has (x
          + 1) xs k i.1 h,
      same,
      e,
    )))
    (λ k h. has-cases x k xs (back k (has-rest y k ys h)) (λ same. omega (
      arith,
      increases-has (y
          + 1) ys k j.1 h,
      same,
      e,
    ))))

-- an increasing list, mapped
increases-map : (f : ℕ → ℕ) (columns : List ℕ) (a b : ℕ) → Increases a columns →
    ((i j : ℕ) → has columns i ≡ true → has columns j ≡ true → i < j → f i < f j) →
    ((k : ℕ) → has columns k ≡ true → b ≤ f k) → Increases b (map f columns)
increases-map f [] a b is order low = tt
increases-map f (x ∷ xs) a b is order low = (
  low x (has-first x xs),
  increases-map f xs (x + 1) (f x + 1) is.1 (λ i j h k. order i j (has-rest x i xs h) (has-rest x j xs k))
      (λ k h. omega (
        arith,
        order x k (has-first x xs) (has-rest x k xs h) (omega (
          arith,
          increases-has (x
              + 1) xs k is.1 h,
        )),
      )),
)

map-has : (f : ℕ → ℕ) (xs : List ℕ) (k : ℕ) → has xs k ≡ true → has (map f xs) (f k) ≡ true
map-has f [] k h = absurd (false≢true h)
map-has f (x ∷ xs) k h = elim (or_cases (nat_eq k x) (has xs k) h) [
  | inl same ↦ or_left (nat_eq (f k) (f x)) (has (map f xs) (f k)) (eq-eqb (f k) (f x) (ap f (eqb-true k x same)))
  | inr there ↦ or_right (nat_eq (f k) (f x)) (has (map f xs) (f k)) (map-has f xs k there)
]

has-map : (f : ℕ → ℕ) (xs : List ℕ) (j : ℕ) → has (map f xs) j ≡ true → (k : ℕ) × (has xs k ≡ true) × (f k ≡ j)
has-map f [] j h = absurd (false≢true h)
has-map f (x ∷ xs) j h = elim (or_cases (nat_eq j (f x)) (has (map f xs) j) h) [
  | inl same ↦ (x, has-first x xs, sym (eqb-true j (f x) same))
  | inr there ↦ let rest = has-map f xs j there in (rest.0, has-rest x rest.0 xs rest.1, rest.2)
]

-- what passes a test of a range
has-range : (p : ℕ → Bool) (a n k : ℕ) → p k ≡ true → a ≤ k → k < a + n → has (filter p (range_with_len a n)) k ≡ true
has-range p a zero k pass low high = absurd (omega (arith, low, high))
has-range p a (suc n) k pass low high = elim (eqb_tells k a) [
  | inl same ↦
      ap (λ b. has (cond b (a ∷ filter p (range_with_len (a + 1) n)) (filter p (range_with_len (a
      + 1) n))) k) (sym (ap p same.1) ∙ pass)
      ∙ or_left (nat_eq k a) (has (filter p (range_with_len (a + 1) n)) k) same.0
  | inr differ ↦
      let rest : has (filter p (range_with_len (a + 1) n)) k ≡ true =
      has-range p (a + 1) n k pass (omega (arith, low, differ.1)) (omega (arith, high)) in
      elim (p a) as (λ b. has (cond b (a ∷ filter p (range_with_len (a + 1) n)) (filter p (range_with_len (a + 1) n))) k
      ≡ true) [
        | true ↦ or_right (nat_eq k a) (has (filter p (range_with_len (a + 1) n)) k) rest
        | false ↦ rest
      ]
]

pub columns-are-jobs : (shop : Shop) (list : List ℕ) (group : Group) (frame : ColumnFrame) →
    IsFrameOf shop list group frame → map (job_of group) (columns_of frame) ≡ jobs_left shop.jobs list
columns-are-jobs shop list group frame at =
    let p : ℕ → Bool = λ column. nat_eq (slice_index frame.gone column) 0 in
    let left : (column : ℕ) → has (columns_of frame) column ≡ true → IsColumnLeft frame column =
    λ column h. let is = range-has p 0 8 column h in
    record { within = omega (arith, is.1); left = eqb-true (slice_index frame.gone column) 0 is.0 } in
    same-increasing 1 1 (map (job_of group) (columns_of frame)) (jobs_left shop.jobs list)
    (increases-map (job_of group) (columns_of frame) 0 1 (increases-filter p 0 8) (λ i j a b. at.order i j (left i a)
    (left j b)) (λ k h. at.from k (left k h)))
    (increases-filter (λ k. not (has list k)) 1 (shop.jobs + 1 - 1))
    (λ j h.
    let stands = has-map (job_of group) (columns_of frame) j h in
    let here = left stands.0 stands.1 in
    ap (has (jobs_left shop.jobs list)) (sym stands.2)
    ∙ left-here shop.jobs list (job_of group stands.0) (at.from stands.0 here) (at.to stands.0 here)
    (at.fresh stands.0 here))
    (λ j h.
    let is = filter-has (λ k. not (has list k)) shop.jobs j h in
    let fresh : has list j ≡ false =
    elim (bool_cases (has list j)) [ inl old ↦ absurd (false≢true (sym (ap not old) ∙ is.0)) | inr none ↦ none ] in
    let stands = at.each j is.1 is.2 fresh in
    let column = has-range p 0 8 stands.0 (eq-eqb (slice_index frame.gone stands.0) 0 stands.1.left) (omega arith)
    (omega
    (arith, stands.1.within)) in
    sym (ap (has (map (job_of group) (columns_of frame))) stands.2)
    ∙ map-has (job_of group) (columns_of frame) stands.0 column)

-- how many they are
pub columns-count : (shop : Shop) (list : List ℕ) (group : Group) (frame : ColumnFrame) →
    IsFrameOf shop list group frame →
    length list + length (columns_of frame) ≡ shop.jobs
columns-count shop list group frame at =
    omega (
      arith,
      at.count,
      ap length (columns-are-jobs shop list group frame at),
      length-map (columns_of frame) (job_of group),
    )

-- each of them is left
pub column-left : (frame : ColumnFrame) (place : ℕ) → place < length (columns_of frame) →
    IsColumnLeft frame (slice_index (columns_of frame) place)
column-left frame place low =
    let is = range-has (λ column. nat_eq (slice_index frame.gone column) 0) 0 8 (slice_index (columns_of frame) place)
    (has-at (columns_of frame) place low) in
    record { within = omega (arith, is.1); left = eqb-true (slice_index frame.gone _) 0 is.0 }
