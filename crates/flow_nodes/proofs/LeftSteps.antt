-- The jobs left once one of them is put.
use Rattle.std.proofs.Common.{◌≡◌, ◌≢◌, ℕ, zero, suc, ◌+◌, ◌-◌, ◌<◌, ◌≤◌, Bool, false, not, cond, ◌||◌, nat_eq}
use Rattle.std.proofs.Common.{List, [], ◌∷◌, ◌++◌, filter, refl, ap, sym, ◌∙◌, inl, inr, arith}
use Rattle.std.specs.List.{range_with_len}
use Rattle.std.proofs.lemmas.Bool.{cases_Bool, ne_eqb, false≢true}
use Rattle.flow_shop.specs.Sequences.{has, jobs_left}
use Rattle.flow_shop.specs.Directions.{first_with, last_with}
use Rattle.flow_shop.specs.declared.end.End.{End}
use Rattle.flow_shop.proofs.Lists.{has-first}
use Rattle.flow_shop.proofs.EndSteps.{left-child}
use Rattle.flow_shop.proofs.JobLists.{later-has}
use Rattle.flow_shop.proofs.Taken.{left_under, left_from, left-split, left-without}

-- what is not in a range is not in a part of it
none-range : (p : ℕ → Bool) (k a len : ℕ) → ((i : ℕ) → a ≤ i → i < a + len → k ≢ i) →
    has (filter p (range_with_len a len)) k ≡ false
none-range p k a zero apart = refl
none-range p k a (suc len) apart =
    let rest : List ℕ = filter p (range_with_len (a + 1) len) in
    let more : has rest k ≡ false =
    none-range p k (a + 1) len (λ i low high. apart i (omega (arith, low)) (omega (arith, high))) in
    elim (cases_Bool (p a)) [
      | inl is ↦ ap (λ b. has (cond b (a ∷ rest) rest) k) is
          ∙ ap (λ b. b || has rest k) (ne_eqb k a (apart a (omega arith) (omega arith))) ∙ more
      | inr is ↦ ap (λ b. has (cond b (a ∷ rest) rest) k) is ∙ more
    ]

head-is : (x y : ℕ) (xs ys : List ℕ) → x ∷ xs ≡ y ∷ ys → x ≡ y
head-is x y xs ys e = ap head_of e
  where
    head_of : List ℕ → ℕ
    head_of [] = 0
    head_of (z ∷ zs) = z

tail-is : (x y : ℕ) (xs ys : List ℕ) → x ∷ xs ≡ y ∷ ys → xs ≡ ys
tail-is x y xs ys e = ap tail_of e
  where
    tail_of : List ℕ → List ℕ
    tail_of [] = []
    tail_of (z ∷ zs) = zs

behind-has : (x job : ℕ) (xs : List ℕ) → has (x ∷ xs) job ≡ false → has xs job ≡ false
behind-has x job xs none = elim (cases_Bool (nat_eq job x)) [
  | inl is ↦ absurd (false≢true (sym none ∙ ap (λ b. b || has xs job) is))
  | inr is ↦ sym (ap (λ b. b || has xs job) is) ∙ none
]

-- a list is parted in one way at an element that it has once
parted-one : (job : ℕ) (us fs xs ys : List ℕ) → has us job ≡ false → has fs job ≡ false →
    us ++ job ∷ fs ≡ xs ++ job ∷ ys → us ++ fs ≡ xs ++ ys
parted-one job [] fs [] ys before behind e = tail-is job job fs ys e
parted-one job [] fs (x ∷ xs) ys before behind e =
    absurd (false≢true (sym behind ∙ ap (λ l. has l job) (tail-is job x fs (xs ++ job ∷ ys) e) ∙ later-has job xs ys))
parted-one job (u ∷ us) fs [] ys before behind e =
    absurd (false≢true (sym before
    ∙ ap (λ j. has (j ∷ us) job) (head-is u job (us ++ job ∷ fs) ys e) ∙ has-first job us))
parted-one job (u ∷ us) fs (x ∷ xs) ys before behind e =
    ap (λ l. u ∷ l) (parted-one job us fs xs ys (behind-has u job us before) behind
    (tail-is u x (us ++ job ∷ fs) (xs ++ job ∷ ys) e))
    ∙ ap (λ j. j ∷ xs ++ ys) (head-is u x (us ++ job ∷ fs) (xs ++ job ∷ ys) e)

-- the jobs left at a child, by those left at the node
pub left-parted : (n : ℕ) (end : End) (first last : List ℕ) (job : ℕ) (before behind : List ℕ) → 1 ≤ job → job ≤ n →
    has (first ++ last) job ≡ false → jobs_left n (first ++ last) ≡ before ++ job ∷ behind →
    jobs_left n (first_with end first job ++ last_with end last job) ≡ before ++ behind
left-parted n end first last job before behind low high fresh parts =
    let list : List ℕ = first ++ last in
    left-child n end first last job
    ∙ left-without n list job low high
    ∙ parted-one job (left_under list job) (left_from n list (job + 1)) before behind
    (none-range (λ k. not (has list k)) job 1 (job - 1 + 1 - 1) (λ i from to e. omega (arith, e, to)))
    (none-range (λ k. not (has list k)) job (job + 1) (n + 1 - (job + 1)) (λ i from to e. omega (arith, e, from)))
    (sym (left-split n list job low high fresh) ∙ parts)
