-- Times that are taken column by column, and back.
use Rattle.std.proofs.Common.{◌≡◌, Bool, true, false, ◌&&◌, nat_eq, refl, ℕ, ◌+◌, ◌-◌, ◌*◌, ◌/◌, ◌%◌, ◌<◌, ◌≤◌, List}
use Rattle.std.proofs.Common.{length, slice_index, subst, ap, sym, ◌∙◌, arith}
use Rattle.std.proofs.Math.Nat.{mod-lt, div-lt_iff_lt-mul, mul-le-mul_right, mul_comm, add-mul}
use Rattle.std.proofs.lemmas.Nat.{mod-mul-add, div-mul-add, div-add-mod'}
use Rattle.std.proofs.lemmas.List.{ext_get_or}
use Rattle.std.proofs.lemmas.Bool.{eqb-true, and_parts}
use Rattle.std.specs.Cmp.Lexicographic.{pointwise, bytes_decides}
use Rattle.std.proofs.lemmas.List.FromFn.{get_or-map-range_with_len, length-map-range_with_len}
use Rattle.flow_shop.specs.Shop.{Shop, time}
use Rattle.flow_shop.specs.internal.Transposed.{transposed}

-- where the number of a place is taken from
abbrev pub taken_from : ℕ → ℕ → ℕ → ℕ
taken_from n m place = place % n * m + place / n

pub transposed-length : (n m : ℕ) (xs : List ℕ) → length (transposed n m xs) ≡ n * m
transposed-length n m xs = length-map-range_with_len (λ place. slice_index xs (taken_from n m place)) 0 (n * m)

pub transposed-at : (n m place : ℕ) (xs : List ℕ) → place < n * m →
    slice_index (transposed n m xs) place ≡ slice_index xs (taken_from n m place)
transposed-at n m place xs below =
    get_or-map-range_with_len (λ place. slice_index xs (taken_from n m place)) 0 (n * m) place place 0 below
    (omega arith)

column-below : (n m place : ℕ) → 0 < n → place < n * m → place / n < m
column-below n m place some below = (div-lt_iff_lt-mul some).1 (subst (λ count. place < count) (mul_comm n m) below)

-- of the places of n lists of m numbers, each is taken from one of them
pub taken-within : (n m place : ℕ) → 0 < n → place < n * m → taken_from n m place < n * m
taken-within n m place some below =
    let list : place % n < n = mod-lt place some in
    let column = column-below n m place some below in
    let lists : (place % n + 1) * m ≤ n * m = mul-le-mul_right m (let h : place % n + 1 ≤ n = omega arith in h) in
    let one : (place % n + 1) * m ≡ place % n * m + 1 * m = add-mul (place % n) 1 m in
    omega (arith, column, lists, one)

-- what was taken column by column, taken so again, is as it was
pub transposed-twice : (n m : ℕ) (xs : List ℕ) → 0 < n → length xs ≡ n * m → transposed n m (transposed m n xs) ≡ xs
transposed-twice n m xs some count =
    ext_get_or 0 (transposed n m (transposed m n xs)) xs (transposed-length n m (transposed m n xs) ∙ sym count)
    (λ place below.
    let here : place < n * m = subst (λ size. place < size) (transposed-length n m (transposed m n xs)) below in
    let column = column-below n m place some here in
    let there : taken_from n m place < m * n =
    subst (λ size. taken_from n m place < size) (mul_comm n m) (taken-within n m place some here) in
    let back : taken_from m n (taken_from n m place) ≡ place =
    ap (λ r. r * n + taken_from n m place / m) (mod-mul-add (place % n) m (place / n) column)
    ∙ ap (λ q. place / n * n + q) (div-mul-add (place % n) m (place / n) column)
    ∙ div-add-mod' place n in
    transposed-at n m place (transposed m n xs) here ∙ transposed-at m n (taken_from n m place) xs there
    ∙ ap (slice_index xs) back)

-- a job's time is the number of its row that stands at the machine
pub row-time : (shop : Shop) (rows : List ℕ) (job machine : ℕ) → shop.times ≡ transposed shop.jobs shop.machines rows →
    1 ≤ job → job ≤ shop.jobs → 1 ≤ machine → machine ≤ shop.machines →
    slice_index rows ((job - 1) * shop.machines + (machine - 1)) ≡ time shop job machine
row-time shop rows job machine is from to first last =
    let place = (machine - 1) * shop.jobs + (job - 1) in
    let job_below : job - 1 < shop.jobs = omega arith in
    let lists : (machine - 1 + 1) * shop.jobs ≤ shop.machines * shop.jobs =
    mul-le-mul_right shop.jobs (let h : machine - 1 + 1 ≤ shop.machines = omega arith in h) in
    let one : (machine - 1 + 1) * shop.jobs ≡ (machine - 1) * shop.jobs + 1 * shop.jobs =
    add-mul (machine - 1) 1 shop.jobs in
    let swapped : shop.jobs * shop.machines ≡ shop.machines * shop.jobs = mul_comm shop.jobs shop.machines in
    let below : place < shop.jobs * shop.machines = omega (arith, job_below, lists, one, swapped) in
    let from_row : taken_from shop.jobs shop.machines place ≡ (job - 1) * shop.machines + (machine - 1) =
    ap (λ r. r * shop.machines + place / shop.jobs) (mod-mul-add (machine - 1) shop.jobs (job - 1) job_below)
    ∙ ap (λ q. (job - 1) * shop.machines + q) (div-mul-add (machine - 1) shop.jobs (job - 1) job_below) in
    sym (ap (λ times. slice_index times place) is ∙ transposed-at shop.jobs shop.machines place rows below
    ∙ ap (slice_index rows) from_row)

-- a row's number stands within the rows
pub row-within : (jobs machines job machine : ℕ) → 1 ≤ job → job ≤ jobs → 1 ≤ machine → machine ≤ machines →
    (job - 1) * machines + (machine - 1) < jobs * machines
row-within jobs machines job machine from to first last =
    let rows : (job - 1 + 1) * machines ≤ jobs * machines =
    mul-le-mul_right machines (let h : job - 1 + 1 ≤ jobs = omega arith in h) in
    let one : (job - 1 + 1) * machines ≡ (job - 1) * machines + 1 * machines = add-mul (job - 1) 1 machines in
    omega (arith, rows, one)

-- two truth values are one where each is true with the other
both-ways : (p q : Bool) → (p ≡ true → q ≡ true) → (q ≡ true → p ≡ true) → p ≡ q
both-ways true q onward back = sym (onward refl)
both-ways false true onward back = back refl
both-ways false false onward back = refl

-- rows are the same exactly where their times are
pub transposed-same : (n m : ℕ) (xs ys : List ℕ) → 0 < m → length xs ≡ n * m → length ys ≡ n * m →
    pointwise nat_eq xs ys ≡ pointwise nat_eq (transposed n m xs) (transposed n m ys)
transposed-same n m xs ys some xs_count ys_count =
    let back : (zs : List ℕ) → length zs ≡ n * m → transposed m n (transposed n m zs) ≡ zs =
    λ zs count. transposed-twice m n zs some (count ∙ mul_comm n m) in
    both-ways (pointwise nat_eq xs ys) (pointwise nat_eq (transposed n m xs) (transposed n m ys))
    (λ same. (bytes_decides (transposed n m xs) (transposed n m ys)).1
    (ap (transposed n m) ((bytes_decides xs ys).0 same)))
    (λ same. (bytes_decides xs ys).1
    (sym (back xs xs_count) ∙ ap (transposed m n) ((bytes_decides (transposed n m xs) (transposed n m ys)).0 same)
    ∙ back ys ys_count))

-- whether two instances are the same, where their sizes are
pub same-sizes : (n m k l : ℕ) (xs ys : List ℕ) → (nat_eq n k && nat_eq m l) ≡ true → 0 < m →
    length xs ≡ n * m → length ys ≡ k * l →
    pointwise nat_eq xs ys ≡ (nat_eq n k && nat_eq m l) && pointwise nat_eq (transposed n m xs) (transposed k l ys)
same-sizes n m k l xs ys tests some xs_count ys_count =
    let both = and_parts (nat_eq n k) (nat_eq m l) tests in
    let jobs = eqb-true n k both.0 in
    let machines = eqb-true m l both.1 in
    transposed-same n m xs ys some xs_count (rw (jobs, machines) ys_count)
    ∙ ap (λ b. pointwise nat_eq (transposed n m xs) (transposed b m ys)) jobs
    ∙ ap (λ b. pointwise nat_eq (transposed n m xs) (transposed k b ys)) machines
    ∙ ap (λ b. b && pointwise nat_eq (transposed n m xs) (transposed k l ys)) (sym tests)
