-- A job put in at each place of a list: the earliest best place, and the jobs that the list then has.
use Rattle.std.proofs.Common.{◌≡◌, ℕ, zero, suc, ◌+◌, ◌<◌, ◌≤◌, Bool, true, false, cond, ◌||◌, ◌&&◌, nat_eq, nat_le}
use Rattle.std.proofs.Common.{List, [], ◌∷◌, ◌++◌, length, map, take, drop, slice_index, slice_index_or, Option, Some}
use Rattle.std.proofs.Common.{refl, ap, sym, ◌∙◌, subst, inl, inr, arith}
use Rattle.std.specs.Prelude.{unwrap_or}
use Rattle.std.specs.List.{insert, list_all, All}
use Rattle.std.specs.Option.{option_map}
use Rattle.std.proofs.lemmas.Bool.{false≢true, eq-eqb, le-leb, lt-leb}
use Rattle.std.proofs.lemmas.Bool.Decides.{eqb_tells}
use Rattle.std.proofs.Math.Bool.{and-false, or_comm}
use Rattle.std.proofs.lemmas.List.{get_or-take, take-append-drop}
use Rattle.std.proofs.lemmas.List.Folds.{list_all-map, list_any_at}
use Rattle.std.proofs.lemmas.List.Elements.{All-append, All-cons, All-take, All-drop}
use Rattle.flow_shop.specs.Shop.{Shop}
use Rattle.flow_shop.specs.Least.{first_least}
use Rattle.flow_shop.specs.Paths.{span}
use Rattle.flow_shop.specs.Sequences.{has, AreDistinct, AreJobs}
use Rattle.flow_shop.proofs.Recurrence.{completion-is}
use Rattle.flow_shop.proofs.JobLists as JobLists
use Rattle.flow_shop.proofs.Taken.{has-push}
use Rattle.flow_bound.specs.Neh.{insertions, inserted, all_inserted}

first_least-map : {X Y : Type 0} (value : Y → ℕ) (g : X → Y) (xs : List X) →
    first_least value (map g xs) ≡ option_map g (first_least (λ x. value (g x)) xs)
first_least-map value g [] = refl
first_least-map {X} {Y} value g (x ∷ xs) =
    let here : Bool = list_all (λ y. nat_le (value (g x)) (value (g y))) xs in
    ap (λ b. cond b (Some (g x)) (first_least value (map g xs))) (list_all-map (λ y. nat_le (value (g x))
    (value y)) g xs)
    ∙ ap (λ o. cond here (Some (g x)) o) (first_least-map value g xs)
    ∙ outside here (first_least (λ x. value (g x)) xs)
  where
    outside : (b : Bool) (o : Option X) → cond b (Some (g x)) (option_map g o) ≡ option_map g (cond b (Some x) o)
    outside true o = refl
    outside false o = refl

all-insertions : (p : List ℕ → Bool) (job : ℕ) (jobs : List ℕ) →
    ((at : ℕ) → at ≤ length jobs → p (insert jobs at job) ≡ true) → list_all p (insertions job jobs) ≡ true
all-insertions p job [] h = ap (λ b. b && true) (h 0 (omega arith))
all-insertions p job (first ∷ rest) h =
    ap (λ b. b && list_all p (map (λ jobs. first ∷ jobs) (insertions job rest))) (h 0 (omega arith))
    ∙ list_all-map p (λ jobs. first ∷ jobs) (insertions job rest)
    ∙ all-insertions (λ jobs. p (first ∷ jobs)) job rest (λ at within. h (suc at) (omega arith))

some-insertion : (p : List ℕ → Bool) (job : ℕ) (jobs : List ℕ) (at : ℕ) → at ≤ length jobs →
    p (insert jobs at job) ≡ false → list_all p (insertions job jobs) ≡ false
some-insertion p job [] zero within h = ap (λ b. b && true) h
some-insertion p job [] (suc at) within h = absurd (omega arith)
some-insertion p job (first ∷ rest) zero within h =
    ap (λ b. b && list_all p (map (λ jobs. first ∷ jobs) (insertions job rest))) h
some-insertion p job (first ∷ rest) (suc at) within h =
    ap (λ b. p (job ∷ first ∷ rest) && b)
    (list_all-map p (λ jobs. first ∷ jobs) (insertions job rest)
    ∙ some-insertion (λ jobs. p (first ∷ jobs)) job rest at (omega arith) h)
    ∙ and-false (p (job ∷ first ∷ rest))

-- a place that no other undercuts, and no earlier one equals, is the first best
first-best : (value : List ℕ → ℕ) (job : ℕ) (jobs : List ℕ) (at : ℕ) → at ≤ length jobs →
    ((p : ℕ) → p ≤ length jobs → value (insert jobs at job) ≤ value (insert jobs p job)) →
    ((p : ℕ) → p < at → value (insert jobs at job) < value (insert jobs p job)) →
    first_least value (insertions job jobs) ≡ Some (insert jobs at job)
first-best value job [] zero within least first = refl
first-best value job [] (suc at) within least first = absurd (omega arith)
first-best value job (head ∷ rest) zero within least first =
    ap (λ b. cond b (Some (job ∷ head ∷ rest)) (first_least value (map (λ jobs. head ∷ jobs) (insertions job rest))))
    (list_all-map (λ jobs. nat_le (value (job ∷ head ∷ rest)) (value jobs)) (λ jobs. head ∷ jobs) (insertions job rest)
    ∙ all-insertions (λ jobs. nat_le (value (job ∷ head ∷ rest)) (value (head ∷ jobs))) job rest
    (λ p low. le-leb (value (job ∷ head ∷ rest)) (value (head ∷ insert rest p job)) (least (suc p) (omega arith))))
first-best value job (head ∷ rest) (suc at) within least first =
    ap (λ b. cond b (Some (job ∷ head ∷ rest)) (first_least value (map (λ jobs. head ∷ jobs) (insertions job rest))))
    (list_all-map (λ jobs. nat_le (value (job ∷ head ∷ rest)) (value jobs)) (λ jobs. head ∷ jobs) (insertions job rest)
    ∙ some-insertion (λ jobs. nat_le (value (job ∷ head ∷ rest)) (value (head ∷ jobs))) job rest at (omega arith)
    (lt-leb (value (job ∷ head ∷ rest)) (value (head ∷ insert rest at job)) (first 0 (omega arith))))
    ∙ first_least-map value (λ jobs. head ∷ jobs) (insertions job rest)
    ∙ ap (option_map (λ jobs. head ∷ jobs))
    (first-best (λ jobs. value (head
    ∷ jobs)) job rest at (omega arith) (λ p low. least (suc p) (omega arith)) (λ p low. first (suc p)
    (omega arith)))

-- the place of a makespan that is least, and less than that of each earlier place, is the earliest best place
pub inserted-is : (shop : Shop) (job : ℕ) (jobs : List ℕ) (at makespan : ℕ) → at ≤ length jobs →
    makespan ≡ span shop (insert jobs at job) →
    ((p : ℕ) → p ≤ length jobs → makespan ≤ span shop (insert jobs p job)) →
    ((p : ℕ) → p < at → makespan < span shop (insert jobs p job)) → insert jobs at job ≡ inserted shop jobs job
inserted-is shop job jobs at makespan within here least first =
    sym (ap (λ o. unwrap_or o []) (first-best (span shop) job jobs at within
    (λ p low. omega (arith, here, least p low)) (λ p low. omega (arith, here, first p low))))

-- the makespan at a place, of those of a list with a job put in at each place
pub at-place : (shop : Shop) (jobs spans : List ℕ) (job place : ℕ) →
    ((at : ℕ) → at ≤ length jobs → slice_index spans at ≡ span shop (insert jobs at job)) → place ≤ length jobs →
    slice_index (take (length jobs + 1) spans) place ≡ span shop (insert jobs place job)
at-place shop jobs spans job place each within =
    get_or-take (length jobs + 1) spans place 0 (omega arith) ∙ each place within

pub all_inserted-push : (shop : Shop) (jobs order : List ℕ) (job : ℕ) →
    all_inserted shop jobs (order ++ job ∷ []) ≡ inserted shop (all_inserted shop jobs order) job
all_inserted-push shop jobs [] job = refl
all_inserted-push shop jobs (first ∷ order) job = all_inserted-push shop (inserted shop jobs first) order job

-- a list with a job put in: the jobs that it has
pub has-insert : (jobs : List ℕ) (at job k : ℕ) → has (insert jobs at job) k ≡ (nat_eq k job || has jobs k)
has-insert jobs at job k =
    JobLists.has-insert (take at jobs) (drop at jobs) job k
    ∙ ap (λ xs. nat_eq k job || has xs k) (take-append-drop at jobs)

-- and they are distinct
pub jobs-insert : (n : ℕ) (jobs : List ℕ) (at job : ℕ) → AreJobs n jobs → 1 ≤ job → job ≤ n → has jobs job ≡ false →
    AreJobs n (insert jobs at job)
jobs-insert n jobs at job are low high fresh =
    let whole = take-append-drop at jobs in
    JobLists.jobs-insert n (take at jobs) (drop at jobs) job (subst (AreJobs n) (sym whole) are) low high
    (ap (λ xs. has xs job) whole ∙ fresh)

pub All-insert : (P : ℕ → Type 0) (jobs : List ℕ) (at job : ℕ) → All P jobs → P job → All P (insert jobs at job)
All-insert P jobs at job all here =
    All-append P (take at jobs) (job
    ∷ drop at jobs) (All-take P at jobs all) (All-cons P job (drop at jobs) here (All-drop P at jobs all))

-- a list has the job at each of its places
pub has-at : (jobs : List ℕ) (place : ℕ) → place < length jobs → has jobs (slice_index jobs place) ≡ true
has-at jobs place within =
    list_any_at (nat_eq (slice_index jobs place)) jobs place 0 within
    (eq-eqb (slice_index jobs place) (slice_index jobs place) refl)

-- a job of a list of distinct jobs does not stand before its place
pub before-lacks : (jobs : List ℕ) (index : ℕ) → AreDistinct jobs → index < length jobs →
    has (take index jobs) (slice_index_or jobs index 0) ≡ false
before-lacks [] index distinct within = absurd (omega arith)
before-lacks (first ∷ rest) zero distinct within = refl
before-lacks (first ∷ rest) (suc index) distinct within =
    elim (eqb_tells (slice_index_or rest index 0) first) [
      | inl same ↦ absurd (false≢true (sym distinct.0 ∙ sym (ap (has rest) same.1) ∙ has-at rest index (omega arith)))
      | inr other ↦ ap (λ b. b || has (take index rest) (slice_index_or rest index 0)) other.0
          ∙ before-lacks rest index distinct.1 (omega arith)
    ]

-- the jobs put in so far are those of the order so far
pub has-more : (jobs done : List ℕ) (at job k : ℕ) → has jobs k ≡ has done k →
    has (insert jobs at job) k ≡ has (done ++ job ∷ []) k
has-more jobs done at job k same =
    has-insert jobs at job k
    ∙ ap (λ b. nat_eq k job || b) same
    ∙ or_comm (nat_eq k job) (has done k)
    ∙ sym (has-push done job k)

-- the empty list has no time
pub span-none : (shop : Shop) → span shop [] ≡ 0
span-none shop = completion-is shop [] shop.machines
