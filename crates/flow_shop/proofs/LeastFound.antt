-- An instance has a least makespan: of finitely many lists, one of those that are sequences has the least.
use Rattle.std.proofs.Common.{◌≡◌, ◌⊎◌, ℕ, zero, suc, ◌+◌, ◌-◌, ◌<◌, ◌≤◌, Bool, true, false, ◌||◌, List, [], ◌∷◌}
use Rattle.std.proofs.Common.{length, Option, None, Some, refl, ap, sym, ◌∙◌, subst, inl, inr, arith}
use Rattle.std.specs.List.{range_with_len}
use Rattle.std.proofs.lemmas.Bool.{cases_lt, false≢true}
use Rattle.std.proofs.lemmas.Bool.Decides.{eqb_tells}
use Rattle.std.proofs.lemmas.List.FromFn.{length-range_with_len}
use Rattle.std.proofs.lemmas.List.Elements.{All-from_recursion}
use Rattle.flow_shop.specs.Shop.{Shop, numbers}
use Rattle.flow_shop.specs.Paths.{span}
use Rattle.flow_shop.specs.Sequences.{has, AreDistinct, IsSequence, IsLeastMakespan}
use Rattle.flow_shop.specs.SequenceFaults.{sequence_fault}
use Rattle.flow_shop.specs.declared.sequence.SequenceFault.{SequenceFault}
use Rattle.flow_shop.proofs.JobsLeft.{InRange, in-range}
use Rattle.flow_shop.proofs.SequenceLemmas.{sequence-fault-none-is, is-fault-none}

-- no list of so many numbers from 1 to n passes a test
abbrev NonePasses : ℕ → ℕ → (List ℕ → Bool) → Type 0
NonePasses n count test = (xs : List ℕ) → length xs ≡ count → InRange n xs → test xs ≡ true → ⊥

-- a list passes, and none of those lists that pass has a smaller value
record IsLeastOf (n count : ℕ) (test : List ℕ → Bool) (value : List ℕ → ℕ) (best : List ℕ) : Type 0 where
  passes : test best ≡ true
  least : (xs : List ℕ) → length xs ≡ count → InRange n xs → test xs ≡ true → value best ≤ value xs

abbrev Searched : ℕ → ℕ → (List ℕ → Bool) → (List ℕ → ℕ) → Type 0
Searched n count test value = NonePasses n count test ⊎ ((best : List ℕ) × IsLeastOf n count test value best)

-- the same of the lists whose first number is at most some number
abbrev NoneBelow : ℕ → ℕ → (List ℕ → Bool) → ℕ → Type 0
NoneBelow n count test m = (k : ℕ) (xs : List ℕ) → 1 ≤ k → k ≤ m → length xs ≡ count → InRange n xs →
    test (k ∷ xs) ≡ true → ⊥

record IsLeastBelow (n count : ℕ) (test : List ℕ → Bool) (value : List ℕ → ℕ) (m : ℕ) (best : List ℕ) : Type 0 where
  passes : test best ≡ true
  least : (k : ℕ) (xs : List ℕ) → 1 ≤ k → k ≤ m → length xs ≡ count → InRange n xs → test (k ∷ xs) ≡ true →
      value best ≤ value (k ∷ xs)

abbrev SearchedBelow : ℕ → ℕ → (List ℕ → Bool) → (List ℕ → ℕ) → ℕ → Type 0
SearchedBelow n count test value m =
    NoneBelow n count test m ⊎ ((best : List ℕ) × IsLeastBelow n count test value m best)

module _ (n count : ℕ) (test : List ℕ → Bool) (value : List ℕ → ℕ) where
  -- a fact of the lists with a smaller first number and of those with the next
  both : (P : List ℕ → Type 0) (m : ℕ) →
      ((k : ℕ) (xs : List ℕ) → 1 ≤ k → k ≤ m → length xs ≡ count → InRange n xs → test (k ∷ xs) ≡ true → P (k ∷ xs)) →
      ((xs : List ℕ) → length xs ≡ count → InRange n xs → test (suc m ∷ xs) ≡ true → P (suc m ∷ xs)) →
      (k : ℕ) (xs : List ℕ) → 1 ≤ k → k ≤ suc m → length xs ≡ count → InRange n xs → test (k ∷ xs) ≡ true → P (k ∷ xs)
  both P m smaller next k xs low high whole range pass =
      elim (cases_lt k (suc m)) [
        | inl below ↦ smaller k xs low (omega arith) whole range pass
        | inr above ↦
            let same : suc m ≡ k = omega arith in
            subst (λ first. P (first ∷ xs)) same
            (next xs whole range (ap (λ first. test (first ∷ xs)) same ∙ pass))
      ]

  next-first : (m : ℕ) → SearchedBelow n count test value m →
      Searched n count (λ xs. test (suc m ∷ xs)) (λ xs. value (suc m ∷ xs)) → SearchedBelow n count test value (suc m)
  next-first m (inl none) (inl nothing) = inl (both (λ _. ⊥) m none nothing)
  next-first m (inl none) (inr next) = inr (
    suc m ∷ next.0,
    record {
      passes = next.1.passes;
      least = both (λ xs. value (suc m ∷ next.0) ≤ value xs) m
          (λ k xs low high whole range pass. absurd (none k xs low high whole range pass)) next.1.least;
    },
  )
  next-first m (inr some) (inl nothing) = inr (
    some.0,
    record {
      passes = some.1.passes;
      least = both (λ xs. value some.0 ≤ value xs) m some.1.least
          (λ xs whole range pass. absurd (nothing xs whole range pass));
    },
  )
  next-first m (inr some) (inr next) =
      elim (cases_lt (value some.0) (value (suc m ∷ next.0))) [
        | inl less ↦ inr (
          some.0,
          record {
            passes = some.1.passes;
            least = both (λ xs. value some.0 ≤ value xs) m some.1.least
                (λ xs whole range pass. omega (arith, less, next.1.least xs whole range pass));
          },
        )
        | inr more ↦ inr (
          suc m ∷ next.0,
          record {
            passes = next.1.passes;
            least = both (λ xs. value (suc m ∷ next.0) ≤ value xs) m
                (λ k xs low high whole range pass. omega (arith, more, some.1.least k xs low high whole range pass))
                next.1.least;
          },
        )
      ]

  firsts : ((k : ℕ) → Searched n count (λ xs. test (k ∷ xs)) (λ xs. value (k ∷ xs))) → (m : ℕ) →
      SearchedBelow n count test value m
  firsts each zero = inl (λ k xs low high whole range pass. absurd (omega arith))
  firsts each (suc m) = next-first m (firsts each m) (each (suc m))

  one-longer : SearchedBelow n count test value n → Searched n (suc count) test value
  one-longer (inl none) = inl (λ xs whole range pass. nothing xs whole range pass)
    where
      nothing : NonePasses n (suc count) test
      nothing [] whole range pass = absurd (omega arith)
      nothing (k ∷ xs) whole range pass = none k xs range.0.0 range.0.1 (omega arith) range.1 pass
  one-longer (inr some) = inr (some.0, record { passes = some.1.passes; least = least })
    where
      least : (xs : List ℕ) → length xs ≡ suc count → InRange n xs → test xs ≡ true → value some.0 ≤ value xs
      least [] whole range pass = absurd (omega arith)
      least (k ∷ xs) whole range pass = some.1.least k xs range.0.0 range.0.1 (omega arith) range.1 pass

empty-list : (n : ℕ) (test : List ℕ → Bool) (value : List ℕ → ℕ) (b : Bool) → test [] ≡ b → Searched n 0 test value
empty-list n test value true pass = inr ([], record { passes = pass; least = least })
  where
    least : (xs : List ℕ) → length xs ≡ 0 → InRange n xs → test xs ≡ true → value [] ≤ value xs
    least [] whole range passes = omega arith
    least (k ∷ xs) whole range passes = absurd (omega arith)
empty-list n test value false fail = inl none
  where
    none : NonePasses n 0 test
    none [] whole range passes = false≢true (sym fail ∙ passes)
    none (k ∷ xs) whole range passes = absurd (omega arith)

searched : (n count : ℕ) (test : List ℕ → Bool) (value : List ℕ → ℕ) → Searched n count test value
searched n zero test value = empty-list n test value (test []) refl
searched n (suc count) test value =
    one-longer n count test value (firsts n count test value (λ k.
    searched n count (λ xs. test (k ∷ xs)) (λ xs. value (k ∷ xs))) n)

-- the jobs in the order of their numbers are a sequence
range-within : (n a len : ℕ) → 1 ≤ a → a + len ≤ n + 1 → InRange n (range_with_len a len)
range-within n a zero low high = tt
range-within n a (suc len) low high = ((low, omega arith), range-within n (a + 1) len (omega arith) (omega arith))

range-lacks : (a len k : ℕ) → k < a → has (range_with_len a len) k ≡ false
range-lacks a zero k below = refl
range-lacks a (suc len) k below =
    elim (eqb_tells k a) [
      | inl same ↦ let e : k ≡ a = same.1 in absurd (omega arith)
      | inr other ↦ ap (λ b. b || has (range_with_len (a + 1) len) k) other.0
          ∙ range-lacks (a + 1) len k (omega arith)
    ]

range-distinct : (a len : ℕ) → AreDistinct (range_with_len a len)
range-distinct a zero = tt
range-distinct a (suc len) = (range-lacks (a + 1) len a (omega arith), range-distinct (a + 1) len)

pub in-order : (n : ℕ) → IsSequence n (numbers 1 n)
in-order n = record {
  whole = length-range_with_len 1 (n + 1 - 1) ∙ omega arith;
  each = record {
    range = All-from_recursion (λ job. (1 ≤ job) × (job ≤ n)) (numbers 1 n)
        (range-within n 1 (n + 1 - 1) (omega arith) (omega arith));
    distinct = range-distinct 1 (n + 1 - 1);
  };
}

-- whether there is no fault
abbrev is_sound : Option SequenceFault → Bool
is_sound None = true
is_sound (Some fault) = false

sound-is-none : (fault : Option SequenceFault) → is_sound fault ≡ true → fault ≡ None
sound-is-none None e = refl
sound-is-none (Some fault) e = absurd (false≢true e)

abbrev test_sequence : ℕ → List ℕ → Bool
test_sequence n jobs = is_sound (sequence_fault n jobs)

passes-if-sequence : (n : ℕ) (jobs : List ℕ) → IsSequence n jobs → test_sequence n jobs ≡ true
passes-if-sequence n jobs is = ap is_sound (is-fault-none n jobs is)

some-least : (shop : Shop) → Searched shop.jobs shop.jobs (test_sequence shop.jobs) (span shop) →
    (value : ℕ) × IsLeastMakespan shop value
some-least shop (inl none) =
    let first = in-order shop.jobs in
    absurd (none (numbers 1 shop.jobs) first.whole (in-range shop.jobs (numbers 1 shop.jobs) first)
    (passes-if-sequence shop.jobs (numbers 1 shop.jobs) first))
some-least shop (inr some) =
    let is = sequence-fault-none-is shop.jobs some.0
    (sound-is-none (sequence_fault shop.jobs some.0) some.1.passes) in (
      span shop some.0,
      record {
        attained = (some.0, is, refl);
        least = λ jobs other. some.1.least jobs other.whole (in-range shop.jobs jobs other)
            (passes-if-sequence shop.jobs jobs other);
      },
    )

pub least-found : (shop : Shop) → (value : ℕ) × IsLeastMakespan shop value
least-found shop = some-least shop (searched shop.jobs shop.jobs (test_sequence shop.jobs) (span shop))
