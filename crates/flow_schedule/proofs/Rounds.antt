-- Round numbers, and the step of the ticks.
use Rattle.std.proofs.Common.{◌≡◌, ◌∙◌, ◌⊎◌, inl, inr, ℕ, ◌+◌, ◌*◌, ◌^◌, ◌<◌, ◌≤◌, ap, sym, arith}
use Rattle.std.proofs.Math.Nat.{one-le-pow, pow-le-pow_right, mul-le-mul_right, lt_of_mul-lt-mul_right, le_trans}
use Rattle.std.proofs.lemmas.Grind.{pow_more, div_ceil_times}
use Rattle.std.specs.Int.{div_ceil}
use Rattle.std.proofs.lemmas.Bool.{cases_lt}
use Rattle.flow_schedule.specs.Scale.{IsRound, IsRoundUp, IsTickStep}

-- a greater exponent gives at least ten times the power
power-up : (j k : ℕ) → j < k → 10 * 10 ^ j ≤ 10 ^ k
power-up j k low =
    let more : 10 ^ (j + 1) ≤ 10 ^ k = pow-le-pow_right (omega arith) (omega arith) in
    omega (arith, more, pow_more 10 j)

-- two powers of ten are equal, or one is at least ten times the other
powers : (j k : ℕ) → (10 * 10 ^ j ≤ 10 ^ k) ⊎ (10 ^ j ≡ 10 ^ k) ⊎ (10 * 10 ^ k ≤ 10 ^ j)
powers j k = elim (cases_lt j k) [
  | inl low ↦ inl (power-up j k low)
  | inr high ↦ elim (cases_lt k j) [
    | inl low ↦ inr (inr (power-up k j low))
    | inr same ↦ let equal : j ≡ k = omega arith in inr (inl (ap (λ n. 10 ^ n) equal))
  ]
]

-- a round number is at least 1
pub round-some : (number : ℕ) → IsRound number → 1 ≤ number
round-some number round =
    let some : 1 ≤ 10 ^ round.exponent = one-le-pow round.exponent 10 (omega arith) in
    elim round.leading [
      | inl one ↦ omega arith
      | inr more ↦ elim more [ inl two ↦ omega arith | inr five ↦ omega arith ]
    ]

-- between a power of ten and the next one only twice and five times the power are round
pub round-next : (number k : ℕ) → IsRound number → 10 ^ k < number →
    (2 * 10 ^ k ≡ number) ⊎ (5 * 10 ^ k ≡ number) ⊎ (10 * 10 ^ k ≤ number)
round-next number k round above = elim (powers round.exponent k) [
  | inl low ↦ absurd (elim round.leading [
    | inl one ↦ omega arith
    | inr more ↦ elim more [ inl two ↦ omega arith | inr five ↦ omega arith ]
  ])
  | inr other ↦ elim other [
    | inl same ↦ elim round.leading [
      | inl one ↦ absurd (omega arith)
      | inr more ↦ elim more [ inl two ↦ inl (omega arith) | inr five ↦ inr (inl (omega arith)) ]
    ]
    | inr high ↦ elim round.leading [
      | inl one ↦ inr (inr (omega arith))
      | inr more ↦ elim more [ inl two ↦ inr (inr (omega arith)) | inr five ↦ inr (inr (omega arith)) ]
    ]
  ]
]

-- a power of ten below the threshold, or 1
pub record IsUnit (number unit : ℕ) : Type 0 where
  pub exponent : ℕ
  pub power : unit ≡ 10 ^ exponent
  pub below : (unit ≡ 1) ⊎ (unit < number)

-- the next unit
pub unit-more : (number unit : ℕ) → IsUnit number unit → 10 * unit < number → IsUnit number (unit * 10)
unit-more number unit is low = record {
  exponent = is.exponent + 1;
  power = ap (λ n. n * 10) is.power ∙ sym (pow_more 10 is.exponent);
  below = inr (omega arith);
}

-- the unit is the step
pub step-one : (number unit : ℕ) → IsUnit number unit → number ≤ unit → IsRoundUp number unit
step-one number unit is enough = record {
  is = record { exponent = is.exponent; leading = inl is.power };
  enough = enough;
  least = λ other round reaches. elim is.below [
    | inl one ↦ let some = round-some other round in omega arith
    | inr low ↦ absurd (omega arith)
  ];
}

-- twice the unit is the step
pub step-two : (number unit : ℕ) → IsUnit number unit → unit < number → number ≤ 2 * unit →
    IsRoundUp number (2 * unit)
step-two number unit is low enough = record {
  is = record { exponent = is.exponent; leading = inr (inl (ap (λ n. 2 * n) is.power)) };
  enough = omega arith;
  least = λ other round reaches. elim (round-next other is.exponent round (omega (arith, is.power))) [
    | inl two ↦ omega (arith, is.power)
    | inr more ↦ elim more [ inl five ↦ omega (arith, is.power) | inr ten ↦ omega (arith, is.power) ]
  ];
}

-- five times the unit is the step
pub step-five : (number unit : ℕ) → IsUnit number unit → 2 * unit < number → number ≤ 5 * unit →
    IsRoundUp number (5 * unit)
step-five number unit is low enough = record {
  is = record { exponent = is.exponent; leading = inr (inr (ap (λ n. 5 * n) is.power)) };
  enough = omega arith;
  least = λ other round reaches. elim (round-next other is.exponent round (omega (arith, is.power))) [
    | inl two ↦ absurd (omega (arith, is.power))
    | inr more ↦ elim more [ inl five ↦ omega (arith, is.power) | inr ten ↦ omega (arith, is.power) ]
  ];
}

-- ten times the unit is the step
pub step-ten : (number unit : ℕ) → IsUnit number unit → 5 * unit < number → number ≤ 10 * unit →
    IsRoundUp number (10 * unit)
step-ten number unit is low enough = record {
  is = record {
    exponent = is.exponent + 1;
    leading = inl (omega (arith, is.power, pow_more 10 is.exponent));
  };
  enough = omega arith;
  least = λ other round reaches. elim (round-next other is.exponent round (omega (arith, is.power))) [
    | inl two ↦ absurd (omega (arith, is.power))
    | inr more ↦ elim more [ inl five ↦ absurd (omega (arith, is.power)) | inr ten ↦ omega (arith, is.power) ]
  ];
}

-- a number of which so many reach the makespan is no smaller than the makespan divided by them
ceil-least : (makespan steps other : ℕ) → 0 < steps → makespan ≤ other * steps → div_ceil makespan steps ≤ other
ceil-least makespan steps other some reaches =
    let bounds = div_ceil_times makespan steps some in
    let more : (other + 1) * steps ≡ other * steps + steps = grind arith in
    let below : div_ceil makespan steps * steps < (other + 1) * steps = omega (arith, bounds.1, more, reaches) in
    let low : div_ceil makespan steps < other + 1 = lt_of_mul-lt-mul_right steps below in
    omega (arith, low)

-- what is rounded up to a round number is the step, where so many steps reach the makespan
pub step-of : (makespan steps step : ℕ) → 0 < steps → IsRoundUp (div_ceil makespan steps) step →
    IsTickStep makespan steps step
step-of makespan steps step some rounded =
    let bounds = div_ceil_times makespan steps some in
    record {
      round = rounded.is;
      enough = le_trans bounds.0 (mul-le-mul_right steps rounded.enough);
      least = λ other round reaches. rounded.least other round (ceil-least makespan steps other some reaches);
    }
