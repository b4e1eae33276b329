-- The sum of the times and the least tail over a set of jobs, and over the same set with one job more.
use Rattle.std.proofs.Common.{◌≡◌, ◌≢◌, ℕ, zero, suc, ◌+◌, ◌-◌, ◌<◌, ◌≤◌, min, Bool, true, false, cond, ◌||◌}
use Rattle.std.proofs.Common.{List, length, map, set, slice_index, slice_set, ap, sym, ◌∙◌, inl, inr, arith}
use Rattle.std.specs.List.{filter, sum_by}
use Rattle.std.proofs.lemmas.Bool.{cases_lt, eq-eqb, ne_eqb}
use Rattle.std.proofs.lemmas.Bool.Decides.{eqb_tells}
use Rattle.std.proofs.lemmas.List.{get_or-set_other, get_or-set_same, set_past}
use Rattle.flow_shop.specs.Shop.{Shop, numbers, time, time_between}
use Rattle.flow_shop.specs.Least.{least}
use Rattle.flow_shop.specs.JobSet.{contains, members}
use Rattle.flow_shop.specs.Sequences.{has}
use Rattle.flow_shop.proofs.Recurrence.{time_between-first}
use Rattle.flow_shop.proofs.JobsLeft.{kept, kept-step, filter-same, has-filter, least-le, sum_by-ones}
use Rattle.flow_shop.proofs.JobsLeft.{with_one, filter-before, kept-from}
use Rattle.flow_shop.proofs.JobSetLemmas.{members-is}
use Rattle.flow_shop.specs.TwoLeast.{least_below}
use Rattle.flow_shop.proofs.TwoLeastSteps.{least-below-cap}
use Rattle.flow_bound.proofs.Steps.{least_below-step}

-- the sum over the first numbers that a test passes
pub sum-take : (f : ℕ → ℕ) (p : ℕ → Bool) (job : ℕ) → 1 ≤ job → p job ≡ true →
    kept f p (job + 1 - 1) ≡ kept f p (job - 1) + f job
sum-take f p job low there = kept-step f p job low ∙ ap (λ b. kept f p (job - 1) + cond {A = ℕ} b (f job) 0) there

pub sum-skip : (f : ℕ → ℕ) (p : ℕ → Bool) (job : ℕ) → 1 ≤ job → p job ≡ false →
    kept f p (job + 1 - 1) ≡ kept f p (job - 1)
sum-skip f p job low out =
    let none : cond {A = ℕ} (p job) (f job) 0 ≡ 0 = ap (λ b. cond {A = ℕ} b (f job) 0) out in
    omega (arith, kept-step f p job low, none)

-- and the least over them, with a cap
abbrev pub least_kept : ℕ → (ℕ → ℕ) → (ℕ → Bool) → ℕ → ℕ
least_kept cap f p n = least_below cap (map f (filter p (numbers 1 n)))

pub least-take : (cap : ℕ) (f : ℕ → ℕ) (p : ℕ → Bool) (job : ℕ) → 1 ≤ job → p job ≡ true →
    least_kept cap f p (job + 1 - 1) ≡ min (least_kept cap f p (job - 1)) (f job)
least-take cap f p job low there =
    least_below-step cap f p job low
    ∙ ap (λ b. cond b (min (least_kept cap f p (job - 1)) (f job)) (least_kept cap f p (job - 1))) there

pub least-skip : (cap : ℕ) (f : ℕ → ℕ) (p : ℕ → Bool) (job : ℕ) → 1 ≤ job → p job ≡ false →
    least_kept cap f p (job + 1 - 1) ≡ least_kept cap f p (job - 1)
least-skip cap f p job low out =
    least_below-step cap f p job low
    ∙ ap (λ b. cond b (min (least_kept cap f p (job - 1)) (f job)) (least_kept cap f p (job - 1))) out

-- the least over a set, and what is at most as great as each
pub least-whole : (cap bound : ℕ) (f : ℕ → ℕ) (set : List Bool) (n job : ℕ) → ((j : ℕ) → f j ≤ bound) → bound ≤ cap →
    0 < length (members set) → ((k : ℕ) → n < k → contains set k ≡ false) → job ≡ n + 1 →
    least_kept cap f (contains set) (job - 1) ≡ least (map f (members set))
least-whole cap bound f set n job small below some none end =
    let e : job - 1 ≡ n = omega arith in
    ap (least_kept cap f (contains set)) e
    ∙ ap (λ xs. least_below cap (map f xs)) (sym (members-is set n none))
    ∙ (least-below-cap cap bound f (members set) some small below).0

pub sum-whole : (f : ℕ → ℕ) (set : List Bool) (n job : ℕ) → ((k : ℕ) → n < k → contains set k ≡ false) → job ≡ n + 1 →
    kept f (contains set) (job - 1) ≡ sum_by f (members set)
sum-whole f set n job none end =
    let e : job - 1 ≡ n = omega arith in
    ap (kept f (contains set)) e ∙ ap (sum_by f) (sym (members-is set n none))

pub least-member : (f : ℕ → ℕ) (set : List Bool) (n job : ℕ) → ((k : ℕ) → n < k → contains set k ≡ false) →
    1 ≤ job → job ≤ n → contains set job ≡ true → least (map f (members set)) ≤ f job
least-member f set n job none low high there =
    least-le f (members set) job (ap (λ xs. has xs job) (members-is set n none)
    ∙ has-filter (contains set) n job there low high)

-- a floor under all is the least, once it is met
pub least-until : (f : ℕ → ℕ) (set : List Bool) (n job floor : ℕ) → ((k : ℕ) → n < k → contains set k ≡ false) →
    1 ≤ job → job ≤ n → contains set job ≡ true → floor ≤ least (map f (members set)) → f job ≡ floor →
    floor ≡ least (map f (members set))
least-until f set n job floor none low high there under met =
    omega (arith, least-member f set n job none low high there, under, met)

-- a set with one job more

abbrev with_job : List Bool → ℕ → ℕ → Bool
with_job after job = with_one (contains after) job

contains-with : (after : List Bool) (job k : ℕ) → 1 ≤ job → 1 ≤ k → job - 1 < length after →
    contains (slice_set after (job - 1) true) k ≡ with_job after job k
contains-with after job k low from within =
    elim (eqb_tells k job) [
      | inl same ↦
          let e : k ≡ job = same.1 in
          ap (contains (slice_set after (job - 1) true)) e
          ∙ get_or-set_same after (job - 1) true false within
          ∙ ap (λ b. b || contains after k) (sym (eq-eqb k job e))
      | inr other ↦
          let n : k ≢ job = other.1 in
          let far : k - 1 ≢ job - 1 = omega arith in
          get_or-set_other after (job - 1) (k - 1) true false far ∙ ap (λ b. b || contains after k) (sym other.0)
    ]

members-with : (after : List Bool) (n job : ℕ) → 1 ≤ job → job ≤ n → job - 1 < length after →
    ((k : ℕ) → n < k → contains after k ≡ false) →
    members (slice_set after (job - 1) true) ≡ filter (with_job after job) (numbers 1 n)
members-with after n job low high within none =
    members-is (slice_set after (job - 1) true) n (λ k past.
    let far : k - 1 ≢ job - 1 = omega arith in
    get_or-set_other after (job - 1) (k - 1) true false far ∙ none k past)
    ∙ filter-same (contains (slice_set after (job - 1) true)) (with_job after job) n
    (λ k from to. contains-with after job k low from within)

pub sum-with : (f : ℕ → ℕ) (after : List Bool) (n job : ℕ) → 1 ≤ job → job ≤ n → job - 1 < length after →
    ((k : ℕ) → n < k → contains after k ≡ false) → contains after job ≡ false →
    sum_by f (members (slice_set after (job - 1) true)) ≡ f job + sum_by f (members after)
sum-with f after n job low high within none out =
    ap (sum_by f) (members-with after n job low high within none)
    ∙ kept-from f (contains after) job out n low high
    ∙ ap (λ xs. f job + sum_by f xs) (sym (members-is after n none))

least-more : (cap : ℕ) (f : ℕ → ℕ) (p : ℕ → Bool) (n : ℕ) →
    least_kept cap f p (suc n) ≡ cond (p (suc n)) (min (least_kept cap f p n) (f (suc n))) (least_kept cap f p n)
least-more cap f p n =
    let a : suc n ≡ suc n + 1 - 1 = omega arith in
    let b : suc n - 1 ≡ n = omega arith in
    ap (least_kept cap f p) a ∙ least_below-step cap f p (suc n) (omega arith)
    ∙ ap (λ m. cond (p (suc n)) (min (least_kept cap f p m) (f (suc n))) (least_kept cap f p m)) b

least-from : (cap : ℕ) (f : ℕ → ℕ) (after : List Bool) (job : ℕ) → contains after job ≡ false → (n : ℕ) → 1 ≤ job →
    job ≤ n →
    least_kept cap f (with_job after job) n ≡ min (f job) (least_kept cap f (contains after) n)
least-from cap f after job out zero low high = absurd (omega arith)
least-from cap f after job out (suc n) low high =
    let p : ℕ → Bool = contains after in
    let q : ℕ → Bool = with_job after job in
    let old = least-more cap f p n in
    let new = least-more cap f q n in
    elim (cases_lt n job) [
      | inl here ↦
          let e : suc n ≡ job = omega arith in
          let pass : q (suc n) ≡ true = ap (λ b. b || p (suc n)) (eq-eqb (suc n) job e) in
          let fail : p (suc n) ≡ false = ap p e ∙ out in
          let before : least_kept cap f q n ≡ least_kept cap f p n =
          ap (λ xs. least_below cap (map f xs)) (filter-before (contains after) job n here) in
          let taken : cond (q (suc n)) (min (least_kept cap f q n) (f (suc n))) (least_kept cap f q n)
          ≡ min (least_kept cap f q n) (f (suc n)) =
          ap (λ b. cond b (min (least_kept cap f q n) (f (suc n))) (least_kept cap f q n)) pass in
          let kept_out : cond (p (suc n)) (min (least_kept cap f p n) (f (suc n))) (least_kept cap f p n)
          ≡ least_kept cap f p n =
          ap (λ b. cond b (min (least_kept cap f p n) (f (suc n))) (least_kept cap f p n)) fail in
          let value : f (suc n) ≡ f job = ap f e in
          omega (arith, old, new, taken, kept_out, before, value)
      | inr below ↦
          let same : q (suc n) ≡ p (suc n) = ap (λ b. b || p (suc n)) (ne_eqb (suc n) job (omega arith)) in
          let ih = least-from cap f after job out n low below in
          both (p (suc n)) (least_kept cap f q n) (least_kept cap f p n) (f (suc n)) ih
          (new ∙ ap (λ b. cond b (min (least_kept cap f q n) (f (suc n))) (least_kept cap f q n)) same) old
    ]
  where
    both : (b : Bool) (x y v : ℕ) → x ≡ min (f job) y → least_kept cap f (with_job after job) (suc n)
        ≡ cond b (min x v) x →
        least_kept cap f (contains after) (suc n) ≡ cond b (min y v) y →
        least_kept cap f (with_job after job) (suc n) ≡ min (f job) (least_kept cap f (contains after) (suc n))
    both true x y v h new old = omega (arith, h, new, old)
    both false x y v h new old = omega (arith, h, new, old)

pub least-with : (cap bound : ℕ) (f : ℕ → ℕ) (after : List Bool) (n job : ℕ) → ((j : ℕ) → f j ≤ bound) → bound ≤ cap →
    1 ≤ job → job ≤ n → job - 1 < length after → ((k : ℕ) → n < k → contains after k ≡ false) →
    contains after job ≡ false →
    0 < length (members after) →
    least (map f (members (slice_set after (job - 1) true))) ≡ min (f job) (least (map f (members after)))
least-with cap bound f after n job small below low high within none out some =
    let more = sum-with (λ _. 1) after n job low high within none out in
    let is = members-with after n job low high within none in
    let longer : 0 < length (members (slice_set after (job - 1) true)) =
    omega (arith, more, sum_by-ones (members (slice_set after (job - 1) true))) in
    let new = least-below-cap cap bound f (members (slice_set after (job - 1) true)) longer small below in
    let old = least-below-cap cap bound f (members after) some small below in
    let step : least_below cap (map f (members (slice_set after (job - 1) true)))
    ≡ min (f job) (least_below cap (map f (members after))) =
    ap (λ xs. least_below cap (map f xs)) is ∙ least-from cap f after job out n low high
    ∙ ap (λ xs. min (f job) (least_below cap (map f xs))) (sym (members-is after n none)) in
    omega (arith, new.0, old.0, step)

-- a set that has no place for a job stays as it is when the job is put in
members-past : (after : List Bool) (job : ℕ) → length after ≤ job - 1 →
    members (slice_set after (job - 1) true) ≡ members after
members-past after job past = ap members (set_past after (job - 1) true past)

-- once a job has left a set: the least with it is at most the new least, and is the new one where it is not the job's
-- own
pub least-left : (cap bound : ℕ) (f : ℕ → ℕ) (after : List Bool) (n job least_with : ℕ) → ((j : ℕ) → f j ≤ bound) →
    bound ≤ cap → 1 ≤ job → job ≤ n → ((k : ℕ) → n < k → contains after k ≡ false) → contains after job ≡ false →
    0 < length (members after) → least_with ≡ least (map f (members (slice_set after (job - 1) true))) →
    (least_with ≤ least (map f (members after))) × (f job ≢ least_with → least_with ≡ least (map f (members after)))
least-left cap bound f after n job least_with small below low high none out some is =
    elim (cases_lt (job - 1) (length after)) [
      | inl within ↦
          let lower = least-with cap bound f after n job small below low high within none out some in
          (omega (arith, is, lower), λ other. omega (arith, is, lower, other))
      | inr past ↦
          let same = ap (λ xs. least (map f xs)) (members-past after job (omega (arith, past))) in
          (omega (arith, is, same), λ other. omega (arith, is, same))
    ]

-- arrays that are written from the last machine down

pub written : (f : ℕ → ℕ) (xs : List ℕ) (k value last : ℕ) → 1 ≤ k → k - 1 < length xs → value ≡ f k →
    ((j : ℕ) → k < j → j ≤ last → slice_index xs (j - 1) ≡ f j) → (j : ℕ) → k - 1 < j → j ≤ last →
    slice_index (set xs (k - 1) value) (j - 1) ≡ f j
written f xs k value last from within is done j low high =
    elim (cases_lt k j) [
      | inl above ↦ let other : j - 1 ≢ k - 1 = omega arith in rw get_or-set_other (done j above high)
      | inr here ↦
          let e : j ≡ k = omega arith in
          ap (λ n. slice_index (set xs (k - 1) value) (n - 1)) e ∙ get_or-set_same xs (k - 1) value 0 within ∙ is
          ∙ ap f (sym e)
    ]

-- and the values of the numbers before it stay
pub below-stay : (f : ℕ → ℕ) (xs : List ℕ) (k value : ℕ) → 1 ≤ k →
    ((j : ℕ) → 1 ≤ j → j ≤ k → slice_index xs (j - 1) ≡ f j) → (j : ℕ) → 1 ≤ j → j ≤ k - 1 →
    slice_index (set xs (k - 1) value) (j - 1) ≡ f j
below-stay f xs k value from others j low high =
    let other : j - 1 ≢ k - 1 = omega arith in rw get_or-set_other (others j low (omega arith))

-- the tail before a machine, from that behind it
pub tail-before : (shop : Shop) (job k tail value m : ℕ) → 1 ≤ k → k ≤ m → tail ≡ time_between shop job (k + 1) m →
    value ≡ time shop job k →
    tail + value ≡ time_between shop job (k - 1 + 1) m
tail-before shop job k tail value m low high is there =
    let e : k ≡ k - 1 + 1 = omega arith in
    omega (arith, is, there, time_between-first shop job k m high, ap (λ n. time_between shop job n m) e)
