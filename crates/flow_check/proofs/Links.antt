-- The jobs that a list leaves, and the links between them.
use Rattle.std.proofs.Common.{◌≡◌, ◌≢◌, ℕ, zero, suc, ◌+◌, ◌-◌, ◌<◌, ◌≤◌, Bool, false, cond, not, List, [], ◌∷◌, ◌++◌}
use Rattle.std.proofs.Common.{length, slice_index, slice_set, refl, ap, sym, ◌∙◌, subst, inl, inr, arith, set}
use Rattle.std.specs.List.{filter, range_with_len}
use Rattle.std.proofs.lemmas.List.{get_or-set_same, get_or-set_other, set-set, set-get_or, length-set, length_push}
use Rattle.std.proofs.lemmas.List.{get_or_append_left, get_or_at}
use Rattle.std.proofs.lemmas.Bool.Decides.{eqb_tells}
use Rattle.std.proofs.lemmas.Bool.{cases_lt, false≢true}
use Rattle.flow_shop.specs.Sequences.{has}
use Rattle.flow_shop.proofs.Ranges.{numbers-first}
use Rattle.flow_shop.proofs.Taken.{has-other, has-same, has-more, left_from}
use Rattle.flow_check.specs.internal.Links.{IsNext, IsPlace, AreLinks}

-- the jobs left from one on

skip : (p : ℕ → Bool) (a e d : ℕ) → ((k : ℕ) → a ≤ k → k < a + e → p k ≡ false) →
    filter p (range_with_len a (e + d)) ≡ filter p (range_with_len (a + e) d)
skip p a zero d h = ap (λ n. filter p (range_with_len n (0 + d))) (omega arith)
    ∙ ap (λ n. filter p (range_with_len (a + 0) n)) (omega arith)
skip p a (suc e) d h =
    let n : suc e + d ≡ suc (e + d) = omega arith in
    let m : a + 1 + e ≡ a + suc e = omega arith in
    ap (λ k. filter p (range_with_len a k)) n
    ∙ ap (λ b. cond b (a ∷ filter p (range_with_len (a + 1) (e + d))) (filter p (range_with_len (a + 1) (e
    + d)))) (h a (omega arith) (omega arith))
    ∙ skip p (a + 1) e d (λ k low high. h k (omega arith) (omega arith))
    ∙ ap (λ k. filter p (range_with_len k d)) m

pub left-none : (n : ℕ) (list : List ℕ) (last job : ℕ) → IsNext n list last job → job ≡ 0 →
    left_from n list (last + 1) ≡ []
left-none n list last (suc job) is e = absurd (omega (arith, e))
left-none n list last zero is e =
    let p : ℕ → Bool = λ k. not (has list k) in
    let len : n + 1 - (last + 1) ≡ (n - last) + 0 = omega arith in
    ap (λ m. filter p (range_with_len (last + 1) m)) len
    ∙ skip p (last + 1) (n - last) 0 (λ k low high. ap not (is k (omega arith) (omega arith)))

pub left-take : (n : ℕ) (list : List ℕ) (job : ℕ) → job ≤ n → has list job ≡ false →
    left_from n list job ≡ job ∷ left_from n list (job + 1)
left-take n list job high fresh =
    ap (filter (λ k. not (has list k))) (numbers-first job n high)
    ∙ ap (λ b. cond (not b) (job ∷ left_from n list (job + 1)) (left_from n list (job + 1))) fresh

pub left-after : (n : ℕ) (list : List ℕ) (last job : ℕ) → IsNext n list last job → job ≢ 0 →
    left_from n list (last + 1) ≡ left_from n list job
left-after n list last zero is some = absurd (some refl)
left-after n list last (suc job) is some =
    let p : ℕ → Bool = λ k. not (has list k) in
    let len : n + 1 - (last + 1) ≡ (suc job - (last + 1)) + (n + 1 - suc job) = omega (arith, is.0, is.1) in
    let start : last + 1 + (suc job - (last + 1)) ≡ suc job = omega (arith, is.0) in
    ap (λ m. filter p (range_with_len (last + 1) m)) len
    ∙ skip p (last + 1) (suc job - (last + 1)) (n
    + 1 - suc job) (λ k low high. ap not (is.3 k (omega arith) (omega (arith, is.0))))
    ∙ ap (λ m. filter p (range_with_len m (n + 1 - suc job))) start

pub next-some : (n : ℕ) (list : List ℕ) (last job : ℕ) → IsNext n list last job → job ≢ 0 → (last < job) × (1 ≤ job)
    × (job ≤ n) × (has list job ≡ false)
next-some n list last zero is some = absurd (some refl)
next-some n list last (suc job) is some = (is.0, omega arith, is.1, is.2)

pub left-next : (n : ℕ) (list : List ℕ) (last job : ℕ) → IsNext n list last job → job ≢ 0 →
    left_from n list (last + 1) ≡ job ∷ left_from n list (job + 1)
left-next n list last job is some =
    let h = next-some n list last job is some in
    left-after n list last job is some ∙ left-take n list job h.2 h.3

-- a link's job is a place
pub next-place : (n : ℕ) (list : List ℕ) (last job : ℕ) → IsNext n list last job → IsPlace n list job
next-place n list last zero is = (omega arith, λ low. absurd (omega (arith, low)))
next-place n list last (suc job) is = (is.1, λ low. is.2)

pub start-place : (n : ℕ) (list : List ℕ) → IsPlace n list 0
start-place n list = (omega arith, λ low. absurd (omega (arith, low)))

-- at first the link of each place leads to the next job, and that of the last one to 0
pub all-linked : (n : ℕ) (links : List ℕ) → length links ≡ n → ((k : ℕ) → k < n → slice_index links k ≡ k + 1) →
    AreLinks n [] (links ++ 0 ∷ [])
all-linked n links size each = record {
  each = λ job at. elim (cases_lt job n) [
    | inl under ↦
        let next : slice_index (links ++ 0 ∷ []) job ≡ suc job =
        get_or_append_left links (0 ∷ []) 0 job (omega (arith, size, under)) ∙ each job under ∙ omega arith in
        subst (IsNext n [] job) (sym next) (
          omega arith,
          omega (arith, under),
          refl,
          λ k low high.
              absurd (omega (arith, low, high)),
        )
    | inr over ↦
        subst (IsNext n [] job) (sym (get_or_at links 0 [] 0 job (omega (arith, size, over, at.0))))
        (λ k low high. absurd (omega (arith, over, low, high)))
  ];
  size = length_push links 0 ∙ ap (λ count. count + 1) size;
}

-- a job is taken out of the links

next-joined : (n : ℕ) (list : List ℕ) (last job next : ℕ) → IsNext n list last job → job ≢ 0 → IsNext n list job next →
    IsNext n (list ++ job ∷ []) last next
next-joined n list last zero next a some b = absurd (some refl)
next-joined n list last (suc job) zero a some b = λ k low high. elim (cases_lt k (suc job)) [
  | inl under ↦ has-more list (suc job) k (a.3 k low under)
  | inr over ↦ elim (eqb_tells k (suc job)) [
    | inl same ↦ ap (has (list ++ suc job ∷ [])) same.1 ∙ has-same list (suc job)
    | inr other ↦ has-more list (suc job) k (b k (omega (arith, over, other.1)) high)
  ]
]
next-joined n list last (suc job) (suc next) a some b = (
  omega (arith, a.0, b.0),
  b.1,
  has-other list (suc job) (suc next) (omega (arith, b.0)) ∙ b.2,
  λ k low high. elim (cases_lt k (suc job)) [
    | inl under ↦ has-more list (suc job) k (a.3 k low under)
    | inr over ↦ elim (eqb_tells k (suc job)) [
      | inl same ↦ ap (has (list ++ suc job ∷ [])) same.1 ∙ has-same list (suc job)
      | inr other ↦ has-more list (suc job) k (b.3 k (omega (arith, over, other.1)) high)
    ]
  ],
)

next-kept : (n : ℕ) (list : List ℕ) (from job next : ℕ) → IsNext n list from next → next ≢ job →
    IsNext n (list ++ job ∷ []) from next
next-kept n list from job zero is other = λ k low high. has-more list job k (is k low high)
next-kept n list from job (suc next) is other =
    (is.0, is.1, has-other list job (suc next) other ∙ is.2, λ k low high. has-more list job k (is.3 k low high))

-- no two places lead to one job
one-before : (n : ℕ) (list : List ℕ) (a b job : ℕ) → IsPlace n list a → IsPlace n list b → IsNext n list a job →
    IsNext n list b job → job ≢ 0 → a ≢ b → ⊥
one-before n list a b zero at_a at_b from_a from_b some other = some refl
one-before n list a b (suc job) at_a at_b from_a from_b some other = elim (cases_lt a b) [
  | inl under ↦ false≢true (sym (at_b.1 (omega (arith, under))) ∙ from_a.3 b under from_b.0)
  | inr over ↦
      let below : b < a = omega (arith, over, other) in
      false≢true (sym (at_a.1 (omega (arith, below))) ∙ from_b.3 a below from_a.0)
]

same-next : (n : ℕ) (list : List ℕ) (from a b : ℕ) → a ≡ b → IsNext n list from a → IsNext n list from b
same-next n list from a b e is = subst (IsNext n list from) e is

pub links-out : (n : ℕ) (list links : List ℕ) (last job next : ℕ) → AreLinks n list links → IsPlace n list last →
    slice_index links last ≡ job → job ≢ 0 → next ≡ slice_index links job →
    AreLinks n (list ++ job ∷ []) (slice_set links last next)
links-out n list links last job next are at leads some is =
    let a : IsNext n list last job = same-next n list last (slice_index links last) job leads (are.each last at) in
    let place : IsPlace n list job = next-place n list last job a in
    let b : IsNext n list job next = same-next n list job (slice_index links job) next (sym is) (are.each job place) in
    record {
      each = λ k here. elim (eqb_tells k last) [
        | inl same ↦
            let value : next ≡ slice_index (slice_set links last next) k = sym (ap (slice_index
            (slice_set links last next)) same.1
            ∙ get_or-set_same links last next 0 (omega (arith, are.size, at.0))) in
            subst (λ f. IsNext n (list ++ job ∷ []) f (slice_index (slice_set links last next) k)) (sym same.1)
            (same-next n (list ++ job
            ∷ []) last next (slice_index (slice_set links last next) k) value
            (next-joined n list last job next a some b))
        | inr other ↦
            let value : slice_index links k ≡ slice_index (slice_set links last next) k =
            sym (get_or-set_other links last k next 0 other.1) in
            let there : IsPlace n list k = (
              here.0,
              λ low. elim (eqb_tells k job) [
                | inl same ↦ absurd (false≢true (sym (here.1 low) ∙ ap (has (list ++ job ∷ [])) same.1
                    ∙ has-same list job))
                | inr apart ↦ sym (has-other list job k apart.1) ∙ here.1 low
              ],
            ) in
            let from_k : IsNext n list k (slice_index links k) = are.each k there in
            let away : slice_index links k ≢ job =
            λ e. one-before n list k last job there at (same-next n list k
            (slice_index links k) job e from_k) a some other.1 in
            same-next n (list ++ job
            ∷ []) k (slice_index links k) (slice_index (slice_set links last next) k) value (next-kept n list k job
            (slice_index links k) from_k away)
      ];
      size = length-set links last next ∙ are.size;
    }

-- and put back
pub links-back : (links : List ℕ) (last job next : ℕ) → slice_index links last ≡ job →
    slice_set (slice_set links last next) last job ≡ links
links-back links last job next leads = set-set links last next job ∙ ap (set links last) (sym leads)
    ∙ set-get_or links last 0
