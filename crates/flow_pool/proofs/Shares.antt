-- How often a prefix stands among the tasks of a worker.
use Rattle.std.proofs.Common.{◌≡◌, ℕ, ◌+◌, ◌%◌, ◌<◌, ◌≤◌, List, [], ◌∷◌, ◌++◌, sym, ap, ◌∙◌, arith, inl, inr}
use Rattle.std.proofs.Common.{zero, suc, ◌≢◌}
use Rattle.std.specs.Prelude.{cond, nat_eq}
use Rattle.std.specs.List.{range_with_len}
use Rattle.std.proofs.lemmas.Bool.Decides.{nat_tests, eqb_tells}
use Rattle.flow_pool.specs.declared.messages.Task.TheVariants.{End}
use Rattle.flow_pool.specs.Deal.{dealt_from}
use Rattle.flow_pool.specs.Work.{asking, tasks_of, times_asked}
use Rattle.flow_pool.proofs.Undeal.{dealt_from-nil, dealt_from-here, dealt_from-other}

-- how often the tasks of these prefixes ask for one
abbrev times_among : ℕ → List ℕ → ℕ
times_among number numbers = times_asked number (asking numbers ++ End ∷ [])

-- how often a prefix stands among the tasks that a worker has of the n prefixes from a on
abbrev times : ℕ → ℕ → ℕ → ℕ → ℕ → ℕ
times k worker number a n = times_among number (dealt_from k worker a (range_with_len a n))

times-none : (k worker number a : ℕ) → times k worker number a 0 ≡ 0
times-none k worker number a = ap (times_among number) (dealt_from-nil {X = ℕ} k worker a)

times-here : (k worker number a n : ℕ) → a % k ≡ worker →
    times k worker number a (suc n) ≡ cond (nat_eq a number) 1 0 + times k worker number (a + 1) n
times-here k worker number a n e =
    ap (times_among number) (dealt_from-here k worker a a (range_with_len (a + 1) n) e)

times-other : (k worker number a n : ℕ) → a % k ≢ worker →
    times k worker number a (suc n) ≡ times k worker number (a + 1) n
times-other k worker number a n e =
    ap (times_among number) (dealt_from-other k worker a a (range_with_len (a + 1) n) e)

-- a head that is another prefix changes nothing
times-skip : (k worker number a n : ℕ) → a ≢ number →
    times k worker number a (suc n) ≡ times k worker number (a + 1) n
times-skip k worker number a n away =
    elim (eqb_tells (a % k) worker) [
      | inl e ↦ (let here = times-here k worker number a n e.1 in grind (arith, nat_tests))
      | inr e ↦ times-other k worker number a n e.1
    ]

-- a prefix of another worker
times-of_other : (k worker number a n : ℕ) → worker ≢ number % k → times k worker number a n ≡ 0
times-of_other k worker number a zero away = times-none k worker number a
times-of_other k worker number a (suc n) away =
    let rest = times-of_other k worker number (a + 1) n away in
    elim (eqb_tells a number) [
      | inl e ↦ times-other k worker number a n (λ same. away (sym same ∙ ap (λ m. m % k) e.1)) ∙ rest
      | inr e ↦ times-skip k worker number a n e.1 ∙ rest
    ]

-- a prefix that is below or beyond the list
times-below : (k worker number a n : ℕ) → number < a → times k worker number a n ≡ 0
times-below k worker number a zero l = times-none k worker number a
times-below k worker number a (suc n) l =
    times-skip k worker number a n (λ e. absurd (omega arith))
    ∙ times-below k worker number (a + 1) n (omega arith)

times-beyond : (k worker number a n : ℕ) → a + n ≤ number → times k worker number a n ≡ 0
times-beyond k worker number a zero l = times-none k worker number a
times-beyond k worker number a (suc n) l =
    times-skip k worker number a n (λ e. absurd (omega arith))
    ∙ times-beyond k worker number (a + 1) n (omega arith)

-- a prefix of the worker
times-of_own : (k number a n : ℕ) → a ≤ number → number < a + n → times k (number % k) number a n ≡ 1
times-of_own k number a zero l m = absurd (omega arith)
times-of_own k number a (suc n) l m =
    elim (eqb_tells a number) [
      | inl e ↦ (
          let same : a ≡ number = e.1 in
          let here = times-here k (number % k) number a n (ap (λ j. j % k) same) in
          let rest = times-below k (number % k) number (a + 1) n (omega arith) in
          grind (arith, nat_tests))
      | inr e ↦ (
          let away : a ≢ number = e.1 in
          times-skip k (number % k) number a n away ∙ times-of_own k number (a + 1) n (omega arith) (omega arith))
    ]

pub times_asked-of_own : (k n number : ℕ) → number < n → times_asked number (tasks_of k n (number % k)) ≡ 1
times_asked-of_own k n number l = times-of_own k number 0 n (omega arith) (omega arith)

pub times_asked-of_other : (k n number worker : ℕ) → worker ≢ number % k → times_asked number (tasks_of k n worker) ≡ 0
times_asked-of_other k n number worker away = times-of_other k worker number 0 n away

pub times_asked-beyond : (k n number worker : ℕ) → n ≤ number → times_asked number (tasks_of k n worker) ≡ 0
times_asked-beyond k n number worker l = times-beyond k worker number 0 n (omega arith)
