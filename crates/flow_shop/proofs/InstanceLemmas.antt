-- Numbers have no fault exactly where they are an instance within the limits.
use Rattle.std.proofs.Common.{◌≡◌, ℕ, ◌+◌, ◌*◌, ◌<◌, ◌≤◌, Bool, true, false, nat_eq, nat_lt, cond, get_or, List, []}
use Rattle.std.proofs.Common.{◌∷◌, length, Option, Some, None, refl, ap, sym, arith}
use Rattle.std.specs.Int.{is_in_range}
use Rattle.std.specs.Prelude.{All, position}
use Rattle.std.specs.List.{position_or_len}
use Rattle.std.specs.Option.{option_map}
use Rattle.std.proofs.lemmas.List.Sums.{fails_before_first, passes_at_first}
use Rattle.std.proofs.lemmas.Bool.{eq-eqb, false≢true}
use Rattle.std.proofs.lemmas.Option.{none-some}
use Rattle.std.proofs.lemmas.Bool.Decides.{nat_tests}
use Rattle.flow_shop.specs.Shop.{Shop, IsWithinLimits}
use Rattle.flow_shop.specs.Refusals.{fault_unless, first_fault}
use Rattle.flow_shop.specs.InstanceFaults.{instance_fault, time_fault}
use Rattle.flow_limits.specs.Limits.{most_jobs, most_machines, greatest_time}
use Rattle.flow_shop.specs.declared.instance.InstanceFault.{InstanceFault}
use Rattle.flow_shop.specs.declared.instance.InstanceFault.TheVariants.{Jobs, Machines, Count, Time}

tests-none : (p q r : Bool) (times : Option InstanceFault) →
    first_fault (fault_unless p Jobs ∷ fault_unless q Machines ∷ fault_unless r Count ∷ times ∷ []) ≡ None → (p ≡ true)
    × (q ≡ true) × (r ≡ true) × (times ≡ None)
tests-none true true true None e = (refl, refl, refl, refl)
tests-none true true true (Some f) e = absurd (none-some f (sym e))
tests-none true true false times e = absurd (none-some Count (sym e))
tests-none true false r times e = absurd (none-some Machines (sym e))
tests-none false q r times e = absurd (none-some Jobs (sym e))

-- whether a time is too great
abbrev is_too_great : ℕ → Bool
is_too_great time = nat_lt greatest_time time

mapped-none : (o : Option ℕ) → option_map (λ index. Time (index + 1)) o ≡ None → o ≡ None
mapped-none None e = refl
mapped-none (Some index) e = absurd (none-some (Time (index + 1)) (sym e))

none-tested : (b : Bool) (index : ℕ) → cond b (Some index) None ≡ None → b ≡ false
none-tested true index e = absurd (none-some index (sym e))
none-tested false index e = refl

times-within : (times : List ℕ) → time_fault times ≡ None → All (λ time. time ≤ greatest_time) times
times-within times e k d below =
    let past = none-tested (nat_lt (position_or_len is_too_great times) (length times))
    (position_or_len is_too_great times) (mapped-none (position is_too_great times) e) in
    let before : k < position_or_len is_too_great times = grind (arith, nat_tests) in
    let small : nat_lt greatest_time (get_or times k d) ≡ false = fails_before_first is_too_great times k d before in
    grind (arith, nat_tests)

within-times : (times : List ℕ) → All (λ time. time ≤ greatest_time) times → time_fault times ≡ None
within-times times small = split (nat_lt (position_or_len is_too_great times) (length times)) refl
  where
    split : (b : Bool) → nat_lt (position_or_len is_too_great times) (length times) ≡ b → time_fault times ≡ None
    split false e = ap (λ b. option_map (λ index. Time (index
        + 1)) (cond b (Some (position_or_len is_too_great times)) None)) e
    split true e =
        let below : position_or_len is_too_great times < length times = grind (arith, nat_tests) in
        let great : nat_lt greatest_time (get_or times (position_or_len is_too_great times) 0) ≡ true =
        passes_at_first is_too_great times 0 below in
        let fits : get_or times (position_or_len is_too_great times) 0 ≤ greatest_time =
        small (position_or_len is_too_great times) 0 below in
        absurd (false≢true (grind (arith, nat_tests)))

pub range-in : (most n : ℕ) → is_in_range 1 most n ≡ true → (1 ≤ n) × (n ≤ most)
range-in most n e = grind (arith, nat_tests)

pub in-range : (most n : ℕ) → 1 ≤ n → n ≤ most → is_in_range 1 most n ≡ true
in-range most n low high = grind (arith, nat_tests)

pub instance-fault-none-is : (shop : Shop) → instance_fault shop.jobs shop.machines shop.times ≡ None →
    IsWithinLimits shop
instance-fault-none-is shop e =
    let tests = tests-none (is_in_range 1 most_jobs shop.jobs) (is_in_range 1 most_machines shop.machines) (nat_eq
    (length shop.times) (shop.jobs * shop.machines)) (time_fault shop.times) e in
    let jobs = range-in most_jobs shop.jobs tests.0 in
    let machines = range-in most_machines shop.machines tests.1 in
    let count : nat_eq (length shop.times) (shop.jobs * shop.machines) ≡ true = tests.2 in
    record {
      some_job = jobs.0;
      jobs = jobs.1;
      some_machine = machines.0;
      machines = machines.1;
      count = grind (arith, nat_tests);
      times = times-within shop.times tests.3;
    }

tests-pass : (p q r : Bool) (times : Option InstanceFault) → p ≡ true → q ≡ true → r ≡ true → times ≡ None →
    first_fault (fault_unless p Jobs ∷ fault_unless q Machines ∷ fault_unless r Count ∷ times ∷ []) ≡ None
tests-pass p q r times e f g h = rw (e, f, g, h) refl

pub is-instance-fault-none : (shop : Shop) → IsWithinLimits shop →
    instance_fault shop.jobs shop.machines shop.times ≡ None
is-instance-fault-none shop is =
    tests-pass (is_in_range 1 most_jobs shop.jobs) (is_in_range 1 most_machines shop.machines) (nat_eq
    (length shop.times) (shop.jobs * shop.machines)) (time_fault shop.times)
    (in-range most_jobs shop.jobs is.some_job is.jobs)
    (in-range most_machines shop.machines is.some_machine is.machines) (eq-eqb _ _ is.count)
    (within-times shop.times is.times)
