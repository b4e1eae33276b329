-- A cut has all lists of its depth in lexicographic order, and each sequence extends exactly one of them.
use Rattle.std.proofs.Common.{◌≡◌, ℕ, zero, suc, ◌+◌, ◌-◌, ◌<◌, ◌≤◌, true, false, not, ◌||◌, List, [], ◌∷◌}
use Rattle.std.proofs.Common.{◌++◌, length, take, slice_index_or, refl, ap, sym, subst, ◌∙◌, inl, inr, arith}
use Rattle.std.proofs.Common.{append_assoc}
use Rattle.std.proofs.Math.Seq.{take-append_seam}
use Rattle.std.specs.List.{flat_map, AllPairs, AllByRecursion, Contains}
use Rattle.std.proofs.lemmas.List.{append-nil}
use Rattle.std.proofs.lemmas.List.Elements.{All-from_recursion, recursion_from_All, All-contains_itself}
use Rattle.std.proofs.lemmas.List.Kept.{AllPairs-cons}
use Rattle.std.proofs.lemmas.Bool.{cases_order, false≢true}
use Rattle.std.proofs.lemmas.Bool.Decides.{eqb_tells}
use Rattle.flow_shop.specs.Sequences.{has, jobs_left, AreDistinct, AreJobs, extensions, cut, Extends}
use Rattle.flow_shop.proofs.JobsLeft.{has-filter}
use Rattle.flow_shop.proofs.Lists.{all-at, all-has}
use Rattle.flow_search.specs.Search.{comes_before}
use Rattle.flow_search.specs.Cuts.{CutHasDepth, CutIsWhole, CutIsOrdered, CutParts}
use Rattle.flow_search.proofs.Lists.{all-append, all-weaken, all-flat_map, Above, above-range}
use Rattle.flow_search.proofs.Earlier.{before-less, before-self, all-extend}
use Rattle.flow_search.proofs.Walk.{Fresh, has-at}
use Rattle.flow_search.proofs.LeastVerdict.{all-pieces, at-extension, cut-fresh}
use Rattle.flow_search.proofs.Prefixes.{cut-prefixes}

-- each list comes before all later ones
abbrev Ordered : List (List ℕ) → Type 0
Ordered [] = Unit {0}
Ordered (x ∷ xs) = AllByRecursion (λ y. comes_before x y ≡ true) xs × Ordered xs

ordered-append : (xs ys : List (List ℕ)) → Ordered xs → Ordered ys →
    AllByRecursion (λ x. AllByRecursion (λ y. comes_before x y ≡ true) ys) xs → Ordered (xs ++ ys)
ordered-append [] ys h k all = k
ordered-append (x ∷ xs) ys h k all =
    (all-append (λ y. comes_before x y ≡ true) xs ys h.0 all.0, ordered-append xs ys h.1 k all.1)

above-all : (a : ℕ) (xs : List ℕ) → Above a xs → AllByRecursion (λ k. a < k) xs
above-all a [] h = tt
above-all a (x ∷ xs) h = let low : a < x = h.0 in
    (low, all-weaken (λ k. x < k) (λ k. a < k) xs (λ k m. omega arith) (above-all x xs h.1))

ordered-pieces : (n more a : ℕ) (base xs : List ℕ) → Above a xs →
    ((job : ℕ) → Ordered (extensions n more (base ++ job ∷ []))) →
    Ordered (flat_map (λ job. extensions n more (base ++ job ∷ [])) xs)
ordered-pieces n more a base [] h each = tt
ordered-pieces n more a base (x ∷ xs) h each =
    let g : ℕ → List (List ℕ) = λ job. extensions n more (base ++ job ∷ []) in
    ordered-append (g x) (flat_map g xs) (each x) (ordered-pieces n more x base xs h.1 each)
    (all-weaken (λ s. (t : List ℕ)
    × (s ≡ (base ++ x ∷ []) ++ t)) (λ s. AllByRecursion (λ y. comes_before s y ≡ true) (flat_map g xs)) (g x)
    (λ s is. all-flat_map (λ y. comes_before s y ≡ true) (λ k. x < k) g xs
    (λ k low. all-weaken (λ y. (t : List ℕ) × (y ≡ (base ++ k ∷ []) ++ t)) (λ y. comes_before s y ≡ true) (g k)
    (λ y other.
    ap (λ s. comes_before s y) is.1
    ∙ ap (comes_before ((base ++ x ∷ []) ++ is.0)) (other.1 ∙ append_assoc base (k ∷ []) other.0)
    ∙ before-less base is.0 other.0 x k low)
    (all-extend n more (base ++ k ∷ [])))
    (above-all x xs h.1))
    (all-extend n more (base ++ x ∷ [])))

extensions-ordered : (n more : ℕ) (base : List ℕ) → Ordered (extensions n more base)
extensions-ordered n zero base = (tt, tt)
extensions-ordered n (suc more) base =
    ordered-pieces n more 0 base (jobs_left n base) (above-range (λ job. not (has base job)) 0 1 (n
    + 1 - 1) (omega arith)) (λ job. extensions-ordered n more (base ++ job ∷ []))

pairs : (xs : List (List ℕ)) → Ordered xs → AllPairs (λ one other. comes_before one other ≡ true) xs
pairs [] h = λ i j d low high. absurd (omega arith)
pairs (x ∷ xs) h = AllPairs-cons (λ one other. comes_before one other
    ≡ true) x xs (All-from_recursion (λ y. comes_before x y ≡ true) xs h.0) (pairs xs h.1)

pub cut_is_ordered : CutIsOrdered
cut_is_ordered n depth = pairs (cut n depth) (extensions-ordered n depth [])

abbrev Numbered : List (List ℕ) → List ℕ → Type 0
Numbered xs x = (number : ℕ) × (number < length xs) × (slice_index_or xs number [] ≡ x)

numbered : (xs : List (List ℕ)) → AllByRecursion (Numbered xs) xs
numbered [] = tt
numbered (x ∷ xs) = (
  (0, omega arith, refl),
  all-weaken (Numbered xs) (Numbered (x ∷ xs)) xs (λ y h. let low : h.0 < length xs = h.1 in
      (suc h.0, omega arith, h.2)) (numbered xs),
)

same-front : (xs ys rest more : List ℕ) → xs ++ rest ≡ ys ++ more → length xs ≡ length ys → xs ≡ ys
same-front xs ys rest more e size = sym (take-append_seam xs rest) ∙ ap (take (length xs)) e
    ∙ ap (λ k. take k (ys ++ more)) size ∙ take-append_seam ys more

-- two numbers whose lists the same jobs extend are not one before the other
not-before : (n depth one other : ℕ) (jobs : List ℕ) → one < other → other < length (cut n depth) →
    Extends jobs (slice_index_or (cut n depth) one []) → Extends jobs (slice_index_or (cut n depth) other []) → ⊥
not-before n depth one other jobs less low e f =
    let xs : List ℕ = slice_index_or (cut n depth) one [] in
    let ys : List ℕ = slice_index_or (cut n depth) other [] in
    let size : length xs ≡ length ys = (cut-prefixes n depth one (omega arith)).size
    ∙ sym (cut-prefixes n depth other low).size in
    let same : xs ≡ ys = same-front xs ys e.0 f.0 (sym e.1 ∙ f.1) size in
    let self : comes_before ys ys ≡ false = ap (λ zs. comes_before zs ys) (sym (append-nil ys)) ∙ before-self ys [] in
    false≢true (sym self ∙ ap (λ zs. comes_before zs ys) (sym same) ∙ cut_is_ordered n depth one other [] less low)

pub cut_parts : CutParts
cut_parts n depth jobs short is =
    let at = at-extension n depth (Numbered (cut n depth)) [] jobs (numbered (cut n depth)) (omega
    (arith, short, is.whole)) is in
    let found : Numbered (cut n depth) at.0 = at.4 in
    let extends : Extends jobs (slice_index_or (cut n depth) found.0 []) =
    (at.1, at.2 ∙ ap (λ p. p ++ at.1) (sym found.2)) in
    record {
      number = found.0;
      low = found.1;
      extends = extends;
      only = λ other low e. elim (cases_order other found.0) [
        | inl same ↦ same
        | inr differ ↦ elim differ [
          | inl less ↦ absurd (not-before n depth other found.0 jobs less found.1 e extends)
          | inr more ↦ absurd (not-before n depth found.0 other jobs more low extends e)
        ]
      ];
    }

pub cut_has_depth : CutHasDepth
cut_has_depth n depth =
    All-from_recursion (λ jobs. (length jobs ≡ depth) × AreJobs n jobs) (cut n depth)
    (all-weaken (λ jobs. Fresh n jobs × (length jobs ≡ 0 + depth)) (λ jobs. (length jobs ≡ depth)
    × AreJobs n jobs) (cut n depth)
    (λ jobs h. (
      omega (arith, h.1),
      record {
        range =
            All-from_recursion (λ job. (1 ≤ job) × (job ≤ n)) jobs h.0.0;
        distinct = h.0.1;
      },
    ))
    (cut-fresh n depth [] (tt, tt)))

-- no job of a list of distinct ones stands among those before it
not-earlier : (jobs : List ℕ) (job : ℕ) (rest : List ℕ) → AreDistinct (jobs ++ job ∷ rest) → has jobs job ≡ false
not-earlier [] job rest d = refl
not-earlier (x ∷ xs) job rest d = elim (eqb_tells job x) [
  | inl same ↦ absurd (false≢true (sym d.0 ∙ ap (has (xs ++ job ∷ rest)) (sym same.1) ∙ has-at xs job rest))
  | inr other ↦ ap (λ b. b || has xs job) other.0 ∙ not-earlier xs job rest d.1
]

-- what holds of all extensions of a list holds of each list of distinct jobs that begins with it
at-extension-of : (n : ℕ) (P : List ℕ → Type 0) (jobs rest : List ℕ) →
    AllByRecursion P (extensions n (length rest) jobs) → Fresh n (jobs ++ rest) → P (jobs ++ rest)
at-extension-of n P jobs [] h f = subst P (sym (append-nil jobs)) h.0
at-extension-of n P jobs (job ∷ rest) h f =
    let range = all-at (λ job. (1 ≤ job) × (job ≤ n)) jobs job rest f.0 in
    let free = has-filter (λ job. not (has jobs job)) n job (ap not (not-earlier jobs job rest f.1)) range.0 range.1 in
    let each = all-pieces P (λ job. extensions n (length rest) (jobs ++ job ∷ [])) (jobs_left n jobs) h in
    let below = all-has (λ job. AllByRecursion P (extensions n (length rest) (jobs ++ job
    ∷ []))) (jobs_left n jobs) job each free in
    let same : (jobs ++ job ∷ []) ++ rest ≡ jobs ++ job ∷ rest = append_assoc jobs (job ∷ []) rest in
    subst P same (at-extension-of n P (jobs ++ job ∷ []) rest below (subst (Fresh n) (sym same) f))

pub cut_is_whole : CutIsWhole
cut_is_whole n depth jobs size are =
    let lists : List (List ℕ) = cut n depth in
    at-extension-of n (Contains lists) [] jobs
    (subst (λ d. AllByRecursion (Contains lists) (extensions n d [])) (sym size) (recursion_from_All
    (Contains lists) lists (All-contains_itself lists)))
    (recursion_from_All (λ job. (1 ≤ job) × (job ≤ n)) jobs are.range, are.distinct)
