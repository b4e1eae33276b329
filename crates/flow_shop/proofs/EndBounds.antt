-- The bound of a node: no sequence of it is below, and it is exact where no job is left.
use Rattle.std.proofs.Common.{◌≡◌, ℕ, zero, suc, ◌+◌, ◌-◌, ◌<◌, ◌≤◌, List, [], ◌∷◌, ◌++◌, length, map, refl, ap, sym}
use Rattle.std.proofs.Common.{◌∙◌, subst, arith, append_assoc, length-append}
use Rattle.std.specs.List.{sum_by}
use Rattle.std.proofs.lemmas.List.Sums.{sum_by-cons}
use Rattle.flow_shop.specs.Shop.{Shop, numbers, time, time_between}
use Rattle.flow_shop.specs.Least.{least}
use Rattle.flow_shop.specs.Paths.{IsPath, weight, completion, span}
use Rattle.flow_shop.specs.Sequences.{jobs_left, IsSequence}
use Rattle.flow_shop.specs.Ends.{head, tail, front, back, end_bound_at, end_bound}
use Rattle.flow_shop.specs.Ends.{EndBoundIsAdmissible, EndBoundIsExact}
use Rattle.flow_shop.proofs.Extremes.{range-le-greatest, greatest-range-le}
use Rattle.flow_shop.proofs.Recurrence.{after, completed, completion-is, completed-attained, weight-le-completed}
use Rattle.flow_shop.proofs.Recurrence.{completed-zero, after-first, after-same, path-up}
use Rattle.flow_shop.proofs.Admissible.{completed-append, after-here, after-later}
use Rattle.flow_shop.proofs.PathTails.{weight-le-tail, tail-below}
use Rattle.flow_shop.proofs.JobsLeft.{InRange, InRange-first, InRange-rest, in-range, sequence-has, least-le}
use Rattle.flow_shop.proofs.LeastFound.{in-order}
use Rattle.flow_shop.proofs.NodeJobs.{sum-between}

-- heads and tails

pub head-le : (shop : Shop) (job k : ℕ) → 1 ≤ job → job ≤ shop.jobs → head shop k ≤ time_between shop job 1 (k - 1)
head-le shop job k low high =
    least-le (λ job. time_between shop job 1 (k - 1)) (numbers 1 shop.jobs) job
    (sequence-has shop.jobs (numbers 1 shop.jobs) (in-order shop.jobs) job low high)

pub tail-le : (shop : Shop) (job k : ℕ) → 1 ≤ job → job ≤ shop.jobs →
    tail shop k ≤ time_between shop job (k + 1) shop.machines
tail-le shop job k low high =
    least-le (λ job. time_between shop job (k + 1) shop.machines) (numbers 1 shop.jobs) job
    (sequence-has shop.jobs (numbers 1 shop.jobs) (in-order shop.jobs) job low high)

-- the first job leaves each machine at the same time, whether the machines are free at 0 or at their heads
after-head : (shop : Shop) (job k : ℕ) → 1 ≤ job → job ≤ shop.jobs →
    after shop (head shop) job k ≡ after shop (λ _. 0) job k
after-head shop job zero low high = refl
after-head shop job (suc k) low high =
    let before : suc k - 1 ≡ k = omega arith in
    let same : time_between shop job 1 (suc k - 1) ≡ time_between shop job 1 k = ap (time_between shop job 1) before in
    omega (arith, head-le shop job (suc k) low high, same, after-head shop job k low high, after-first shop job k)

completed-same : (shop : Shop) (f g : ℕ → ℕ) (jobs : List ℕ) (k : ℕ) → ((i : ℕ) → f i ≡ g i) →
    completed shop f jobs k ≡ completed shop g jobs k
completed-same shop f g [] k same = same k
completed-same shop f g (j ∷ js) k same =
    completed-same shop (after shop f j) (after shop g j) js k (λ i. after-same shop j f g i (λ l _ _. same l))

-- so do all later ones
completed-head : (shop : Shop) (jobs : List ℕ) (k : ℕ) → 0 < length jobs → InRange shop.jobs jobs →
    completed shop (head shop) jobs k ≡ completion shop jobs k
completed-head shop [] k some range = absurd (omega arith)
completed-head shop (j ∷ js) k some range =
    completed-same shop (after shop (head shop) j) (after shop (λ _. 0) j) js k
    (λ i. after-head shop j i range.0.0 range.0.1)
    ∙ sym (completion-is shop (j ∷ js) k)

-- the front of a list is what the recurrence computes from the heads
pub front-is : (shop : Shop) (jobs : List ℕ) (k : ℕ) → InRange shop.jobs jobs →
    front shop jobs k ≡ completed shop (head shop) jobs k
front-is shop [] k range = refl
front-is shop (j ∷ js) k range = sym (completed-head shop (j ∷ js) k (omega arith) range)

-- the parts of a path

-- jobs follow one another on a machine
along : (shop : Shop) (free : ℕ → ℕ) (jobs : List ℕ) (k : ℕ) → 1 ≤ k →
    free k + sum_by (λ job. time shop job k) jobs ≤ completed shop free jobs k
along shop free [] k low = omega arith
along shop free (j ∷ js) k low =
    omega (
      arith,
      after-here shop free j k low,
      along shop (after shop free j) js k low,
      sum_by-cons (λ job. time shop job k) j js,
    )

-- the last of some jobs has its tail
to-end : (shop : Shop) (free : ℕ → ℕ) (jobs : List ℕ) (k : ℕ) → k ≤ shop.machines → 0 < length jobs →
    InRange shop.jobs jobs → completed shop free jobs k + tail shop k ≤ completed shop free jobs shop.machines
to-end shop free [] k high some range = absurd (omega arith)
to-end shop free (j ∷ []) k high some range =
    omega (arith, after-later shop free j k shop.machines high, tail-le shop j k range.0.0 range.0.1)
to-end shop free (j ∷ i ∷ is) k high some range = to-end shop (after shop free j) (i ∷ is) k high (omega arith) range.1

-- a last list goes on from a machine with its back
pub through : (shop : Shop) (free : ℕ → ℕ) (j : ℕ) (js : List ℕ) (k : ℕ) → 1 ≤ k → k ≤ shop.machines →
    InRange shop.jobs (j ∷ js) → free k + back shop (j ∷ js) k ≤ completed shop free (j ∷ js) shop.machines
through shop free j js k low high range =
    let m : ℕ = shop.machines in
    let path = tail-below shop (j ∷ js) k (completed shop free (j ∷ js) m - free k)
    (λ machines e path. omega (arith, weight-le-completed shop free (j ∷ js) machines k m low e path)) in
    omega (arith, path, along shop free (j ∷ js) k low, to-end shop free (j ∷ js) k high (omega arith) range)

-- each back is at least the weight of each path
pub back-above : (shop : Shop) (jobs machines : List ℕ) (k : ℕ) → length machines ≡ length jobs →
    IsPath k machines shop.machines → weight shop jobs k machines ≤ back shop jobs k
back-above shop [] machines k e path = omega arith
back-above shop (j ∷ js) machines k e path =
    weight-le-tail shop (j ∷ js) machines k e path

-- no sequence is below

-- a list that is not empty, by its three parts
in-parts : (shop : Shop) (first between last : List ℕ) → 0 < length (first ++ (between ++ last)) →
    InRange shop.jobs (first ++ (between ++ last)) →
    completed shop (completed shop (completed shop (head shop) first) between) last shop.machines
    ≡ span shop (first ++ (between ++ last))
in-parts shop first between last some range =
    sym (ap (λ f. f shop.machines) (completed-append shop (completed shop (head shop) first) between last))
    ∙ sym (ap (λ f. f shop.machines) (completed-append shop (head shop) first (between ++ last)))
    ∙ completed-head shop (first ++ (between ++ last)) shop.machines some range

-- the front and the jobs between
up-to : (shop : Shop) (first between last : List ℕ) (k : ℕ) → 1 ≤ k →
    IsSequence shop.jobs (first ++ (between ++ last)) →
    front shop first k + sum_by (λ job. time shop job k) (jobs_left shop.jobs (first ++ last))
    ≤ completed shop (completed shop (head shop) first) between k
up-to shop first between last k low is =
    omega (
      arith,
      front-is shop first k
          (InRange-first shop.jobs first (between ++ last) (in-range shop.jobs (first ++ (between ++ last)) is)),
      sum-between shop.jobs first between last is (λ job. time shop job k),
      along shop (completed shop (head shop) first) between k low,
    )

-- an instance without jobs
no-head : (shop : Shop) (k : ℕ) → 0 ≡ shop.jobs → head shop k ≡ 0
no-head shop k none = sym (ap (λ n. least (map (λ job. time_between shop job 1 (k - 1)) (numbers 1 n))) none)

no-tail : (shop : Shop) (k : ℕ) → 0 ≡ shop.jobs → tail shop k ≡ 0
no-tail shop k none =
    sym (ap (λ n. least (map (λ job. time_between shop job (k + 1) shop.machines) (numbers 1 n))) none)

-- no last list
open-end : (shop : Shop) (first between : List ℕ) (k : ℕ) → 1 ≤ k → k ≤ shop.machines →
    IsSequence shop.jobs (first ++ (between ++ [])) →
    end_bound_at shop first [] k ≤ span shop (first ++ (between ++ []))
open-end shop [] [] k low high is =
    let whole : 0 ≡ shop.jobs = is.whole in
    omega (
      arith,
      no-head shop k whole,
      no-tail shop k whole,
      sum-between shop.jobs [] [] [] is (λ job. time shop job k),
    )
open-end shop [] (i ∷ is) k low high seq =
    let range = in-range shop.jobs ([] ++ ((i ∷ is) ++ [])) seq in
    omega (
      arith,
      up-to shop [] (i ∷ is) [] k low seq,
      to-end shop (head shop) (i ∷ is) k high (omega arith) (InRange-first shop.jobs (i ∷ is) [] range),
      in-parts shop [] (i ∷ is) [] (omega arith) range,
    )
open-end shop (j ∷ js) between k low high seq =
    let range = in-range shop.jobs ((j ∷ js) ++ (between ++ [])) seq in
    let parts : completed shop (head shop) ((j ∷ js) ++ between)
    ≡ completed shop (completed shop (head shop) (j ∷ js)) between =
    completed-append shop (head shop) (j ∷ js) between in
    omega (
      arith,
      up-to shop (j ∷ js) between [] k low seq,
      to-end shop (head shop) ((j ∷ js) ++ between) k high (omega arith)
          (InRange-first shop.jobs ((j ∷ js) ++ between) []
          (subst (InRange shop.jobs) (sym (append_assoc (j ∷ js) between [])) range)),
      ap (λ f. f k) parts,
      ap (λ f. f shop.machines) parts,
      in-parts shop (j ∷ js) between [] (omega arith) range,
    )

admissible-at : (shop : Shop) (first between last : List ℕ) (k : ℕ) → 1 ≤ k → k ≤ shop.machines →
    IsSequence shop.jobs (first ++ (between ++ last)) →
    end_bound_at shop first last k ≤ span shop (first ++ (between ++ last))
admissible-at shop first between [] k low high is = open-end shop first between k low high is
admissible-at shop first between (l ∷ ls) k low high is =
    let range = in-range shop.jobs (first ++ (between ++ l ∷ ls)) is in
    let free = completed shop (completed shop (head shop) first) between in
    omega (
      arith,
      up-to shop first between (l ∷ ls) k low is,
      through shop free l ls k low high
          (InRange-rest shop.jobs between (l ∷ ls) (InRange-rest shop.jobs first (between ++ l ∷ ls) range)),
      in-parts shop first between (l ∷ ls)
          (omega (arith, length-append first (between ++ l ∷ ls), length-append between (l ∷ ls))) range,
    )

pub admissible-parts : (shop : Shop) (first between last : List ℕ) →
    IsSequence shop.jobs (first ++ (between ++ last)) →
    end_bound shop first last ≤ span shop (first ++ (between ++ last))
unfolding end_bound
admissible-parts shop first between last is =
    greatest-range-le (end_bound_at shop first last) 1 (shop.machines + 1 - 1) (span shop (first ++ (between ++ last)))
    (λ k low high. admissible-at shop first between last k low (omega arith) is)

pub end_bound_is_admissible : EndBoundIsAdmissible
end_bound_is_admissible shop first between last is =
    let same : first ++ between ++ last ≡ first ++ (between ++ last) = append_assoc first between last in
    subst (λ jobs. end_bound shop first last ≤ span shop jobs) (sym same)
    (admissible-parts shop first between last (subst (IsSequence shop.jobs) same is))

-- exact where no job is left

pub end_bound_at_most : (shop : Shop) (first last : List ℕ) (k : ℕ) → 1 ≤ k → k ≤ shop.machines →
    end_bound_at shop first last k ≤ end_bound shop first last
unfolding end_bound
end_bound_at_most shop first last k low high =
    range-le-greatest (end_bound_at shop first last) 1 (shop.machines + 1 - 1) k low (omega arith)

-- a path through two lists steps from one to the other on some machine
within : (shop : Shop) (first last : List ℕ) (m : ℕ) → m ≡ shop.machines → InRange shop.jobs (first ++ last) →
    0 < length (first ++ last) → completed shop (λ _. 0) (first ++ last) m ≤ end_bound shop first last
within shop first last zero e range some = omega (arith, completed-zero shop (λ _. 0) (first ++ last) refl)
within shop first last (suc m) e range some =
    let path = completed-attained shop (completed shop (head shop) first) last (suc m) (omega arith) in
    let up = path-up path.1 path.0 (suc m) path.4 in
    let bound = end_bound_at_most shop first last path.0 path.2 (omega (arith, up)) in
    let step : completed shop (head shop) (first ++ last) (suc m)
    ≡ completed shop (completed shop (head shop) first) last (suc m) =
    ap (λ f. f (suc m)) (completed-append shop (head shop) first last) in
    omega (
      arith,
      completion-is shop (first ++ last) (suc m),
      completed-head shop (first ++ last) (suc m) some range,
      step,
      path.5,
      front-is shop first path.0 (InRange-first shop.jobs first last range),
      back-above shop last path.1 path.0 path.3 (subst (λ m. IsPath path.0 path.1 m) e path.4),
      bound,
    )

span-within : (shop : Shop) (jobs first last : List ℕ) → jobs ≡ first ++ last → InRange shop.jobs (first ++ last) →
    span shop jobs ≤ end_bound shop first last
span-within shop [] first last e range = omega (arith, completion-is shop [] shop.machines)
span-within shop (j ∷ js) first last e range =
    let some : 0 < length (first ++ last) = omega (arith, ap length e) in
    omega (
      arith,
      ap (span shop) e,
      completion-is shop (first ++ last) shop.machines,
      within shop first last shop.machines refl range some,
    )

pub end_bound_is_exact : EndBoundIsExact
end_bound_is_exact shop first last is =
    omega (
      arith,
      admissible-parts shop first [] last is,
      span-within shop (first ++ last) first last refl (in-range shop.jobs (first ++ last) is),
    )
