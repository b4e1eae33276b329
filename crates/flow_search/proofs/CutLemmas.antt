-- How many lists a cut has, and where each stands among all of them.
use Rattle.std.proofs.Common.{◌≡◌, ℕ, zero, suc, ◌+◌, ◌-◌, ◌*◌, ◌<◌, ◌≤◌, true, false, not, List, [], ◌∷◌, ◌++◌, length}
use Rattle.std.proofs.Common.{take, drop, slice_index_or, refl, ap, sym, ◌∙◌, arith, append_assoc, length-append}
use Rattle.std.proofs.Math.Nat.{mul_assoc}
use Rattle.std.proofs.Math.Seq.{take-append_seam, drop-append-add}
use Rattle.std.specs.List.{filter, flat_map, concat, AllByRecursion}
use Rattle.std.proofs.lemmas.List.Folds.{concat-append}
use Rattle.flow_shop.specs.Shop.{numbers}
use Rattle.flow_shop.specs.Sequences.{has, jobs_left, extensions, cut}
use Rattle.flow_shop.proofs.JobsLeft.{kept, kept-has, sum_by-ones}
use Rattle.flow_search.proofs.Walk.{Fresh, IsLeft, jobs_left-are, fresh-push}
use Rattle.flow_search.proofs.Nodes.{filter-here, filter-skip, kept-both}

-- the product of so many numbers, from one down
abbrev pub falling : ℕ → ℕ → ℕ
falling m zero = 1
falling m (suc k) = m * falling (m - 1) k

pub falling-some : (m k : ℕ) → k ≤ m → 1 ≤ falling m k
falling-some m zero h = omega arith
falling-some m (suc k) h = positive m (falling (m - 1) k) (omega arith) (falling-some (m - 1) k (omega arith))
  where
    positive : (a b : ℕ) → 1 ≤ a → 1 ≤ b → 1 ≤ a * b
    positive zero b h k = absurd (omega arith)
    positive (suc a) b h k = omega arith

times-some : (a b : ℕ) → 1 ≤ b → a ≤ a * b
times-some zero b h = omega arith
times-some (suc a) b h = omega (arith, times-some a b h)

left-size : (n : ℕ) (jobs : List ℕ) → Fresh n jobs → length (jobs_left n jobs) ≡ n - length jobs
left-size n jobs f =
    let used : kept (λ _. 1) (has jobs) n ≡ length jobs = kept-has (λ _. 1) n jobs f.0 f.1 ∙ sum_by-ones jobs in
    let both = kept-both (has jobs) n in
    let ones : kept (λ _. 1) (λ k. not (has jobs k)) n ≡ length (jobs_left n jobs) = sum_by-ones (jobs_left n jobs) in
    omega (arith, used, both, ones)

-- pieces of one size
pieces-size : (R : ℕ → Type 0) (g : ℕ → List (List ℕ)) (size : ℕ) (xs : List ℕ) →
    ((x : ℕ) → R x → length (g x) ≡ size) → AllByRecursion R xs → length (flat_map g xs) ≡ length xs * size
pieces-size R g size [] h r = omega arith
pieces-size R g size (x ∷ xs) h r =
    let here : length (g x) ≡ size = h x r.0 in
    let all : length (flat_map g (x ∷ xs)) ≡ length (g x) + length (flat_map g xs) =
    length-append (g x) (flat_map g xs) in
    omega (arith, here, all, pieces-size R g size xs h r.1)

pub extensions-size : (n more : ℕ) (jobs : List ℕ) → Fresh n jobs →
    length (extensions n more jobs) ≡ falling (n - length jobs) more
extensions-size n zero jobs f = refl
extensions-size n (suc more) jobs f =
    pieces-size (IsLeft n jobs) (λ job. extensions n more (jobs ++ job
    ∷ [])) (falling (n - length jobs - 1) more) (jobs_left n jobs)
    (λ job l.
    let shorter : n - length (jobs ++ job ∷ []) ≡ n - length jobs - 1 = omega (arith, length-append jobs (job ∷ [])) in
    extensions-size n more (jobs ++ job ∷ []) (fresh-push n jobs job f l) ∙ ap (λ m. falling m more) shorter)
    (jobs_left-are n jobs)
    ∙ ap (λ c. c * falling (n - length jobs - 1) more) (left-size n jobs f)

pub cut-size : (n depth : ℕ) → length (cut n depth) ≡ falling n depth
cut-size n depth = let whole : n - 0 ≡ n = omega arith in extensions-size n depth [] (tt, tt)
    ∙ ap (λ m. falling m depth) whole

-- one more factor
pub factor : (n depth used count : ℕ) → used < depth →
    count * falling (n - used) (depth - used) ≡ (count * (n - used)) * falling (n - (used + 1)) (depth - (used + 1))
factor n depth used count h =
    let more : depth - used ≡ suc (depth - (used + 1)) = omega arith in
    let less : n - used - 1 ≡ n - (used + 1) = omega arith in
    ap (λ k. count * falling (n - used) k) more
    ∙ ap (λ m. count * ((n - used) * falling m (depth - (used + 1)))) less
    ∙ sym (mul_assoc count (n - used) (falling (n - (used + 1)) (depth - (used + 1))))

-- factors that are left make a product no less
pub at-least : (count m k : ℕ) → k ≤ m → count ≤ count * falling m k
at-least count m k h = times-some count (falling m k) (falling-some m k h)

-- what the children of a list from a job on add
abbrev pub added : ℕ → ℕ → List ℕ → ℕ → List (List ℕ)
added n below list job =
    flat_map (λ k. extensions n below (list ++ k ∷ [])) (filter (λ k. not (has list k)) (numbers job n))

pub added-skip : (n below : ℕ) (list : List ℕ) (job : ℕ) → job ≤ n → has list job ≡ true →
    added n below list (job + 1) ≡ added n below list job
added-skip n below list job high there =
    ap (flat_map (λ k. extensions n below (list ++ k
    ∷ []))) (sym (filter-skip (λ k. not (has list k)) job n high (ap not there)))

pub added-here : (n below : ℕ) (list : List ℕ) (job : ℕ) → job ≤ n → has list job ≡ false →
    added n below list job ≡ extensions n below (list ++ job ∷ []) ++ added n below list (job + 1)
added-here n below list job high free =
    ap (flat_map (λ k. extensions n below (list ++ k
    ∷ []))) (filter-here (λ k. not (has list k)) job n high (ap not free))

pub added-taken : (n below : ℕ) (list : List ℕ) (job : ℕ) (now next whole : List ℕ) → job ≤ n → has list job ≡ false →
    next ≡ now ++ concat (extensions n below (list ++ job ∷ [])) → now ++ concat (added n below list job) ≡ whole →
    next ++ concat (added n below list (job + 1)) ≡ whole
added-taken n below list job now next whole high free e w =
    let here : List (List ℕ) = extensions n below (list ++ job ∷ []) in
    let rest : List (List ℕ) = added n below list (job + 1) in
    ap (λ xs. xs ++ concat rest) e
    ∙ append_assoc now (concat here) (concat rest)
    ∙ ap (λ xs. now ++ xs) (sym (concat-append here rest))
    ∙ ap (λ ls. now ++ concat ls) (sym (added-here n below list job high free))
    ∙ w

-- lists of one length, one after another
pub joined-size : (size : ℕ) (lists : List (List ℕ)) → AllByRecursion (λ l. length l ≡ size) lists →
    length (concat lists) ≡ length lists * size
joined-size size [] h = omega arith
joined-size size (l ∷ ls) h =
    let here : length l ≡ size = h.0 in
    let all : length (concat (l ∷ ls)) ≡ length l + length (concat ls) = length-append l (concat ls) in
    omega (arith, here, all, joined-size size ls h.1)

pub joined-at : (size : ℕ) (lists : List (List ℕ)) (i : ℕ) → AllByRecursion (λ l. length l ≡ size) lists →
    i < length lists →
    take size (drop (i * size) (concat lists)) ≡ slice_index_or lists i []
joined-at size [] i h low = absurd (omega arith)
joined-at size (l ∷ ls) zero h low =
    let none : 0 * size ≡ 0 = omega arith in
    ap (λ k. take size (drop k (l ++ concat ls))) none ∙ ap (λ k. take k (l ++ concat ls)) (sym h.0)
    ∙ take-append_seam l (concat ls)
joined-at size (l ∷ ls) (suc i) h low =
    let size_is : length l ≡ size = h.0 in
    let at : suc i * size ≡ length l + i * size = omega (arith, size_is) in
    ap (λ k. take size (drop k (l ++ concat ls))) at ∙ ap (take size) (drop-append-add l (concat ls) (i * size))
    ∙ joined-at size ls i h.1 (omega arith)

pub joined-fits : (size count i : ℕ) → i < count → i * size + size ≤ count * size
joined-fits size zero i h = absurd (omega arith)
joined-fits size (suc count) zero h = omega (arith, nonneg (count * size))
  where
    nonneg : (a : ℕ) → 0 ≤ a
    nonneg a = omega arith
joined-fits size (suc count) (suc i) h = omega (arith, joined-fits size count i (omega arith))
