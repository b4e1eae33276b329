-- The jobs in neither list of a node.
use Rattle.std.proofs.Common.{◌≡◌, ℕ, Bool, true, false, not, ◌||◌, nat_eq, List, ◌++◌, length, refl, ap, sym, ◌∙◌}
use Rattle.std.specs.List.{filter, sum_by}
use Rattle.std.proofs.lemmas.Bool.{false≢true}
use Rattle.std.proofs.lemmas.List.Folds.{list_any-append}
use Rattle.flow_shop.specs.Shop.{numbers}
use Rattle.flow_shop.specs.Sequences.{has, jobs_left, IsSequence}
use Rattle.flow_shop.proofs.JobsLeft.{InRange, InRange-first, InRange-rest, in-range, distinct-first, distinct-rest}
use Rattle.flow_shop.proofs.JobsLeft.{filter-same, kept-has, sum_by-ones, sequence-has, apart}

-- whether three lists have a job
has-three : (first between last : List ℕ) (k : ℕ) →
    has (first ++ (between ++ last)) k ≡ (has first k || (has between k || has last k))
has-three first between last k =
    list_any-append (nat_eq k) first (between ++ last)
    ∙ ap (λ b. has first k || b) (list_any-append (nat_eq k) between last)

-- a job of two lists is in one of them alone
one-of : (a b c : Bool) → (a || (b || c)) ≡ true → (a ≡ true → (b || c) ≡ false) → (b ≡ true → c ≡ false) →
    not (a || c) ≡ b
one-of true true c some first between = absurd (false≢true (sym (first refl)))
one-of true false c some first between = refl
one-of false true true some first between = absurd (false≢true (sym (between refl)))
one-of false true false some first between = refl
one-of false false true some first between = refl
one-of false false false some first between = absurd (false≢true some)

-- the jobs in neither list are those between the two
pub left-between : (n : ℕ) (first between last : List ℕ) → IsSequence n (first ++ (between ++ last)) →
    jobs_left n (first ++ last) ≡ filter (has between) (numbers 1 n)
left-between n first between last is = filter-same (λ k. not (has (first ++ last) k)) (has between) n (λ k low high.
    ap not (list_any-append (nat_eq k) first last)
    ∙ one-of (has first k) (has between k) (has last k)
    (sym (has-three first between last k) ∙ sequence-has n (first ++ (between ++ last)) is k low high)
    (λ h. sym (list_any-append (nat_eq k) between last) ∙ apart first (between ++ last) k is.each.distinct h)
    (λ h. apart between last k (distinct-rest first (between ++ last) is.each.distinct) h))

module _ (n : ℕ) (first between last : List ℕ) (is : IsSequence n (first ++ (between ++ last))) where
  pub range-between : InRange n between
  range-between = InRange-first n between last
      (InRange-rest n first (between ++ last) (in-range n (first ++ (between ++ last)) is))

  pub sum-between : (f : ℕ → ℕ) → sum_by f (jobs_left n (first ++ last)) ≡ sum_by f between
  sum-between f =
      ap (sum_by f) (left-between n first between last is)
      ∙ kept-has f n between range-between
      (distinct-first between last (distinct-rest first (between ++ last) is.each.distinct))

  pub count-between : length (jobs_left n (first ++ last)) ≡ length between
  count-between =
      sym (sum_by-ones (jobs_left n (first ++ last))) ∙ sum-between (λ _. 1) ∙ sum_by-ones between
