-- Lists of distinct jobs, job by job; and the set of the jobs of a list.
use Rattle.std.proofs.Common.{◌≡◌, ◌≢◌, ℕ, ◌+◌, ◌-◌, ◌<◌, ◌≤◌, Bool, true, false, ◌||◌, nat_eq, List, [], ◌∷◌, ◌++◌}
use Rattle.std.proofs.Common.{length, take, drop, slice_index, slice_set, refl, ap, sym, ◌∙◌, subst, inl, inr, arith}
use Rattle.std.proofs.Common.{append-nil, append_assoc, length-append, length-set, Option, Some, None}
use Rattle.std.specs.Prelude.{IfNone}
use Rattle.std.specs.List.{AllByRecursion}
use Rattle.std.proofs.lemmas.Bool.{cases_Bool, cases_eq, eq-eqb, false≢true}
use Rattle.std.proofs.lemmas.List.{get_or-set_same, get_or-set_other, drop_more, take_more, take-append-drop}
use Rattle.std.proofs.lemmas.List.Elements.{recursion_from_All, All-from_recursion}
use Rattle.flow_limits.specs.Limits.{most_jobs}
use Rattle.flow_shop.specs.Shop.{Shop}
use Rattle.flow_shop.specs.JobSet.{contains, Holds, AreTaken}
use Rattle.flow_shop.specs.Sequences.{has, AreDistinct, AreJobs}
use Rattle.flow_shop.proofs.JobsLeft.{InRange-first, InRange-rest, distinct-first, apart, or_false, kept-has}
use Rattle.flow_shop.proofs.JobsLeft.{kept-le, sum_by-ones}
use Rattle.flow_shop.proofs.Lists.{not_eq-sym}
use Rattle.flow_shop.proofs.SequenceLemmas.{no-jobs}
use Rattle.flow_shop.proofs.Taken.{has-same, has-other}

swap-or : (a b c : Bool) → (a || (b || c)) ≡ (b || (a || c))
swap-or true true c = refl
swap-or true false c = refl
swap-or false b c = refl

-- a job put into a list: the jobs that the list has then
pub has-insert : (first last : List ℕ) (job k : ℕ) →
    has (first ++ job ∷ last) k ≡ (nat_eq k job || has (first ++ last) k)
has-insert [] last job k = refl
has-insert (j ∷ js) last job k =
    ap (λ b. nat_eq k j || b) (has-insert js last job k) ∙ swap-or (nat_eq k j) (nat_eq k job) (has (js ++ last) k)

-- it has the job that was put in
pub later-has : (job : ℕ) (first last : List ℕ) → has (first ++ job ∷ last) job ≡ true
later-has job first last =
    has-insert first last job job ∙ ap (λ b. b || has (first ++ last) job) (eq-eqb job job refl)

-- its jobs are distinct
pub distinct-insert : (first last : List ℕ) (job : ℕ) → AreDistinct (first ++ last) →
    has (first ++ last) job ≡ false → AreDistinct (first ++ job ∷ last)
distinct-insert [] last job distinct fresh = (fresh, distinct)
distinct-insert (j ∷ js) last job distinct fresh =
    let parts = or_false (nat_eq job j) (has (js ++ last) job) fresh in (
      has-insert js last job j ∙ ap (λ b. b || has (js ++ last) j) (not_eq-sym job j parts.0) ∙ distinct.0,
      distinct-insert js last job distinct.1 parts.1,
    )

-- what holds of each holds of each then
pub all-insert : {X : Type 0} (P : X → Type 0) (first last : List X) (x : X) → AllByRecursion P (first ++ last) →
    P x → AllByRecursion P (first ++ x ∷ last)
all-insert P [] last x all here = (here, all)
all-insert P (y ∷ ys) last x all here = (all.0, all-insert P ys last x all.1 here)

-- and they are distinct jobs of the instance
pub jobs-insert : (n : ℕ) (first last : List ℕ) (job : ℕ) → AreJobs n (first ++ last) → 1 ≤ job → job ≤ n →
    has (first ++ last) job ≡ false → AreJobs n (first ++ job ∷ last)
jobs-insert n first last job are low high fresh =
    let P : ℕ → Type 0 = λ job. (1 ≤ job) × (job ≤ n) in
    record {
      range = All-from_recursion P (first ++ job ∷ last)
          (all-insert P first last job (recursion_from_All P (first ++ last) are.range) (low, high));
      distinct = distinct-insert first last job are.distinct fresh;
    }

-- a job that may be put behind a list
pub record IsNext (n : ℕ) (list : List ℕ) (job : ℕ) : Type 0 where
  pub from : 1 ≤ job
  pub to : job ≤ n
  pub fresh : has list job ≡ false

-- once it is there
pub jobs-push : (n : ℕ) (list : List ℕ) (job : ℕ) → AreJobs n list → IsNext n list job → AreJobs n (list ++ job ∷ [])
jobs-push n list job are next =
    jobs-insert n list [] job (subst (AreJobs n) (sym (append-nil list)) are) next.from next.to
    (ap (λ xs. has xs job) (append-nil list) ∙ next.fresh)

-- the beginning of a list of distinct jobs
pub jobs-first : (n : ℕ) (first rest : List ℕ) → AreJobs n (first ++ rest) → AreJobs n first
jobs-first n first rest are =
    let P : ℕ → Type 0 = λ job. (1 ≤ job) × (job ≤ n) in
    record {
      range = All-from_recursion P first
          (InRange-first n first rest (recursion_from_All P (first ++ rest) are.range));
      distinct = distinct-first first rest are.distinct;
    }

-- a list of distinct jobs has no more of them than there are
pub few-jobs : (n : ℕ) (list : List ℕ) → AreJobs n list → length list ≤ n
few-jobs n list are =
    omega (
      arith,
      sum_by-ones list,
      kept-has (λ _. 1) n list (recursion_from_All (λ job. (1 ≤ job) × (job ≤ n)) list are.range) are.distinct,
      kept-le (has list) n,
    )

-- a job does not stand before its place
pub apart-before : (first rest : List ℕ) (job : ℕ) → AreDistinct (first ++ job ∷ rest) → has first job ≡ false
apart-before first rest job distinct = elim (cases_Bool (has first job)) [
  | inl there ↦
      let here : has (job ∷ rest) job ≡ true = ap (λ b. b || has rest job) (eq-eqb job job refl) in
      absurd (false≢true (sym (apart first (job ∷ rest) job distinct there) ∙ here))
  | inr none ↦ none
]

-- each job of a list is one that may be put behind those before it
pub next-job : (n : ℕ) (first rest : List ℕ) (job : ℕ) → AreJobs n (first ++ job ∷ rest) → IsNext n first job
next-job n first rest job are =
    let range = InRange-rest n first (job ∷ rest)
    (recursion_from_All (λ job. (1 ≤ job) × (job ≤ n)) (first ++ job ∷ rest) are.range) in
    record { from = range.0.0; to = range.0.1; fresh = apart-before first rest job are.distinct }

-- a list, parted at one of its jobs
pub jobs-split : (jobs : List ℕ) (index : ℕ) → index < length jobs →
    take index jobs ++ slice_index jobs index ∷ drop (index + 1) jobs ≡ jobs
jobs-split jobs index long =
    ap (λ xs. take index jobs ++ xs) (sym (drop_more jobs index 0 long)) ∙ take-append-drop index jobs

-- the job at an index of a list that stands behind another
pub next-at : (n : ℕ) (list jobs : List ℕ) (index : ℕ) → index < length jobs → AreJobs n (list ++ jobs) →
    IsNext n (list ++ take index jobs) (slice_index jobs index)
next-at n list jobs index long are =
    let rest : List ℕ = slice_index jobs index ∷ drop (index + 1) jobs in
    next-job n (list ++ take index jobs) (drop (index + 1) jobs) (slice_index jobs index)
    (subst (AreJobs n)
    (ap (λ xs. list ++ xs) (sym (jobs-split jobs index long)) ∙ sym (append_assoc list (take index jobs) rest)) are)

-- one more job of it
pub at-more : (list jobs : List ℕ) (index : ℕ) → index < length jobs →
    list ++ take (index + 1) jobs ≡ list ++ take index jobs ++ slice_index jobs index ∷ []
at-more list jobs index long =
    ap (λ xs. list ++ xs) (take_more jobs index 0 long)
    ∙ sym (append_assoc list (take index jobs) (slice_index jobs index ∷ []))

-- a set of the jobs of a list, once one more job is in both
pub holds-push : (shop : Shop) (list : List ℕ) (set : List Bool) (job : ℕ) → Holds shop list set → 1 ≤ job →
    job ≤ most_jobs → Holds shop (list ++ job ∷ []) (slice_set set (job - 1) true)
holds-push shop list set job holds low high = record {
  size = length-set set (job - 1) true ∙ holds.size;
  each = λ k from to. elim (cases_eq k job) [
    | inl same ↦
        ap (contains (slice_set set (job - 1) true)) same
        ∙ get_or-set_same set (job - 1) true false (omega (arith, holds.size))
        ∙ sym (ap (has (list ++ job ∷ [])) same ∙ has-same list job)
    | inr other ↦
        let apart : k - 1 ≢ job - 1 = omega arith in
        get_or-set_other set (job - 1) (k - 1) true false apart
        ∙ holds.each k from to
        ∙ sym (has-other list job k other)
  ];
}

-- before any job is taken
pub none-taken : (shop : Shop) (set : List Bool) → length set ≡ most_jobs → ((job : ℕ) → contains set job ≡ false) →
    AreTaken shop [] 0 set
none-taken shop set size empty = record {
  are_jobs = no-jobs shop.jobs;
  size = refl;
  holds = record { size = size; each = λ job from to. empty job };
}

-- one more job is taken
pub taken-push : (shop : Shop) (list : List ℕ) (count : ℕ) (set : List Bool) (job : ℕ) → shop.jobs ≤ most_jobs →
    AreTaken shop list count set → IsNext shop.jobs list job →
    AreTaken shop (list ++ job ∷ []) (count + 1) (slice_set set (job - 1) true)
taken-push shop list count set job within taken next = record {
  are_jobs = jobs-push shop.jobs list job taken.are_jobs next;
  size = omega (arith, length-append list (job ∷ []), taken.size);
  holds = holds-push shop list set job taken.holds next.from (omega (arith, next.to));
}

-- no more are taken than there are
pub few-taken : (shop : Shop) (list : List ℕ) (count : ℕ) (set : List Bool) → AreTaken shop list count set →
    count ≤ shop.jobs
few-taken shop list count set taken = omega (arith, few-jobs shop.jobs list taken.are_jobs, taken.size)

-- where all are taken, they are distinct jobs of the instance
pub jobs-taken : {F : Type 0} (shop : Shop) (list : List ℕ) (count : ℕ) (set : List Bool) (fault : Option F) →
    IfNone fault (AreTaken shop list count set) → IfNone fault (AreJobs shop.jobs list)
jobs-taken shop list count set None taken = taken.are_jobs
jobs-taken shop list count set (Some fault) taken = tt
