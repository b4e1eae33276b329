-- The steps of the generator.
use Rattle.std.proofs.Common.{◌≡◌, ℕ, zero, suc, ◌+◌, ◌-◌, ◌*◌, ◌%◌, ◌^◌, ◌<◌, ◌≤◌, List, [], ◌∷◌, ◌++◌, map, ap, sym}
use Rattle.std.proofs.Common.{◌∙◌, subst, add-one, arith}
use Rattle.std.proofs.Math.Nat.{pow-suc, mul_assoc}
use Rattle.std.proofs.lemmas.Grind.{common_steps}
use Rattle.std.proofs.lemmas.Nat.{mul-mod_first, mod_below}
use Rattle.std.proofs.lemmas.List.{map-append}
use Rattle.std.proofs.lemmas.List.Elements.{All-from_recursion}
use Rattle.std.specs.List.{All, AllByRecursion, range_with_len}
use Rattle.flow_shop.specs.Shop.{numbers}
use Rattle.flow_generator.specs.Generator.{state_after, drawn, drawn_time}
use Rattle.flow_generator.specs.Generator.{multiplier, modulus, least_drawn, greatest_drawn}
use Rattle.flow_limits.specs.Limits.{greatest_time}
use Rattle.flow_shop.proofs.JobsLeft.{numbers-more}

pub state_after-step : (seed steps state next : ℕ) → state ≡ state_after seed steps → next ≡ state_after state 1 →
    next ≡ state_after seed (steps + 1)
state_after-step seed steps state next before step =
    step
    ∙ ap (λ s. s * multiplier ^ 1 % modulus) before
    ∙ mul-mod_first (seed * multiplier ^ steps) (multiplier ^ 1) modulus
    ∙ ap (λ p. p % modulus) product
  where
    product : seed * multiplier ^ steps * multiplier ^ 1 ≡ seed * multiplier ^ (steps + 1)
    product = mul_assoc seed (multiplier ^ steps) (multiplier ^ 1) ∙ ap (λ p. seed * p) power
      where
        power : multiplier ^ steps * multiplier ^ 1 ≡ multiplier ^ (steps + 1)
        power = sym (ap (λ k. multiplier ^ k) (add-one steps) ∙ pow-suc multiplier steps)

-- one more drawn time
pub drawn-more : (f : ℕ → ℕ) (times : List ℕ) (steps number : ℕ) → times ≡ map f (numbers 1 steps) →
    number ≡ f (steps + 1) → times ++ number ∷ [] ≡ map f (numbers 1 (steps + 1))
drawn-more f times steps number before is =
    let next : steps + 1 ≡ suc steps = omega arith in
    let value : number ≡ f (suc steps) = is ∙ ap f next in
    ap (λ xs. xs ++ number ∷ []) before
    ∙ ap (λ x. map f (numbers 1 steps) ++ x ∷ []) value
    ∙ sym (map-append f (numbers 1 steps) (suc steps ∷ []))
    ∙ ap (map f) (sym (numbers-more steps) ∙ ap (numbers 1) (sym next))

-- what is drawn from low to high, in a state below the modulus
within : (low high state : ℕ) → low ≤ high → state < modulus → drawn low high state ≤ high
within low high state order small = grind (arith, common_steps)

drawn_time-small : (seed steps : ℕ) → drawn_time seed steps ≤ greatest_drawn
drawn_time-small seed steps =
    within least_drawn greatest_drawn (state_after seed steps) (omega arith) (mod_below
    (seed * multiplier ^ steps) modulus (omega arith))

times-small : (seed first count : ℕ) →
    AllByRecursion (λ time. time ≤ greatest_time) (map (drawn_time seed) (range_with_len first count))
times-small seed first zero = tt
times-small seed first (suc count) = (omega (arith, drawn_time-small seed first), times-small seed (first + 1) count)

-- the drawn times are within the limit
pub drawn-are-times : (seed count : ℕ) (times : List ℕ) → times ≡ map (drawn_time seed) (numbers 1 count) →
    All (λ time. time ≤ greatest_time) times
drawn-are-times seed count times is =
    All-from_recursion (λ time. time ≤ greatest_time) times (subst (AllByRecursion (λ time. time
    ≤ greatest_time)) (sym is) (times-small seed 1 (count + 1 - 1)))
