-- The value of a lawful certificate is the least makespan.
use Rattle.std.proofs.Common.{◌≡◌, ℕ, zero, suc, ◌+◌, ◌-◌, ◌<◌, ◌≤◌, Bool, true, false, cond, ◌||◌, nat_eq, List, []}
use Rattle.std.proofs.Common.{◌∷◌, ◌++◌, length, refl}
use Rattle.std.proofs.Common.{ap, sym, subst, ◌∙◌, inl, inr, arith, append_assoc, length-append}
use Rattle.std.specs.List.{AllZip, flat_map}
use Rattle.std.proofs.lemmas.List.{append-nil}
use Rattle.std.proofs.lemmas.Bool.{false≢true, eqb-true, cases_Bool}
use Rattle.flow_shop.specs.Shop.{Shop}
use Rattle.flow_shop.specs.Paths.{span}
use Rattle.flow_shop.specs.Sequences.{has, jobs_left, extensions, IsSequence, Extends}
use Rattle.flow_shop.proofs.JobsLeft.{next-left}
use Rattle.flow_shop.proofs.Admissible.{bound_is_admissible, released_bound_is_admissible}
use Rattle.flow_shop.specs.Bound.{bound_at, released_bound_at, bound_of}
use Rattle.flow_shop.proofs.Lists.{zip-at}
use Rattle.flow_check.specs.Certificate.{Covers, Shows, CertificateIsSound, ValueIsOne}

zip-append : {A B : Type 0} (R : A → B → Type 0) (xs ys : List A) (zs : List B) → AllZip R (xs ++ ys) zs →
    ((zs_x : List B) × AllZip R xs zs_x) × ((zs_y : List B) × AllZip R ys zs_y)
zip-append R [] ys zs z = (([], tt), (zs, z))
zip-append R (x ∷ xs) ys [] z = absurd z
zip-append R (x ∷ xs) ys (c ∷ cs) z = let r = zip-append R xs ys cs z.1 in ((c ∷ r.0.0, (z.0, r.0.1)), r.1)

zip-flat_map : {A B : Type 0} (R : A → B → Type 0) (g : ℕ → List A) (xs : List ℕ) (zs : List B) (j : ℕ) →
    AllZip R (flat_map g xs) zs → has xs j ≡ true → (zs_j : List B) × AllZip R (g j) zs_j
zip-flat_map R g [] zs j z h = absurd (false≢true h)
zip-flat_map {A} {B} R g (x ∷ xs) zs j z h =
    let parts = zip-append R (g x) (flat_map g xs) zs z in
    elim (cases_Bool (nat_eq j x)) [
      | inl same ↦ (parts.0.0, subst (λ k. AllZip R (g k) parts.0.0) (sym (eqb-true j x same)) parts.0.1)
      | inr other ↦ zip-flat_map R g xs parts.1.0 j parts.1.1 (sym (ap (λ b. b || has xs j) other) ∙ h)
    ]

-- no sequence that extends a list is below its bound, in either version
pub bound_of_is_admissible : (version : ℕ) (shop : Shop) (jobs sequence : List ℕ) (machine : ℕ) →
    1 ≤ machine → machine ≤ shop.machines → IsSequence shop.jobs sequence → Extends sequence jobs →
    length jobs < shop.jobs → bound_of version shop jobs machine ≤ span shop sequence
bound_of_is_admissible version shop jobs sequence machine from to is extends some =
    one (nat_eq version 2)
  where
    one : (b : Bool) → cond b released_bound_at bound_at shop jobs machine ≤ span shop sequence
    one true = released_bound_is_admissible shop jobs sequence machine from to is extends some
    one false = bound_is_admissible shop jobs sequence machine from to is extends some

-- no sequence that extends a list is below a value that a tree of the list covers
covered : (shop : Shop) (version value left : ℕ) (jobs text rest : List ℕ) → length jobs + left ≡ shop.jobs →
    Covers shop (bound_of version) value left jobs text → IsSequence shop.jobs (jobs ++ rest) →
    value ≤ span shop (jobs ++ rest)
covered shop version value zero jobs text [] e c is = subst (λ s. value ≤ span shop s) (sym (append-nil jobs)) c.1
covered shop version value zero jobs text (j ∷ rest) e c is = absurd
    (omega (arith, is.whole, e, length-append jobs (j ∷ rest)))
covered shop version value (suc left) jobs text [] e c is = absurd (omega (arith, is.whole, e, length-append jobs []))
covered shop version value (suc left) jobs text (j ∷ rest) e (inl cut_here) is =
    let bound = bound_of_is_admissible version shop jobs (jobs ++ j ∷ rest) cut_here.0 cut_here.1 cut_here.2 is (
      j
          ∷ rest,
      refl,
    ) (omega (arith, e)) in
    omega (arith, cut_here.4, bound)
covered shop version value (suc left) jobs text (j ∷ rest) e (inr branch) is =
    let part = zip-at (λ job part. Covers shop (bound_of version) value left (jobs ++ job
    ∷ []) part) (jobs_left shop.jobs jobs) branch.0 j branch.2 (next-left shop.jobs jobs j rest is) in
    let same : (jobs ++ j ∷ []) ++ rest ≡ jobs ++ j ∷ rest = append_assoc jobs (j ∷ []) rest in
    subst (λ s. value ≤ span shop s) same
    (covered shop version value left (jobs ++ j ∷ []) part.0 rest (omega (
      arith,
      e,
      length-append jobs (j
          ∷ []),
    )) part.1 (subst (IsSequence shop.jobs) (sym same) is))

-- each sequence extends a member of the cut
pub in-cut : {B : Type 0} (n depth : ℕ) (R : List ℕ → B → Type 0) (jobs rest : List ℕ) (parts : List B) →
    AllZip R (extensions n depth jobs) parts → depth ≤ length rest → IsSequence n (jobs ++ rest) →
    (prefix : List ℕ) × (more : List ℕ) × (part : B) × (jobs ++ rest ≡ prefix ++ more)
    × (length prefix ≡ length jobs + depth) × R prefix part
in-cut n zero R jobs rest [] z short is = absurd z
in-cut n zero R jobs rest (part ∷ parts) z short is = (jobs, rest, part, refl, omega arith, z.0)
in-cut n (suc depth) R jobs [] parts z short is = absurd (omega arith)
in-cut n (suc depth) R jobs (j ∷ rest) parts z short is =
    let below = zip-flat_map R (λ job. extensions n depth (jobs ++ job
    ∷ [])) (jobs_left n jobs) parts j z (next-left n jobs j rest is) in
    let same : (jobs ++ j ∷ []) ++ rest ≡ jobs ++ j ∷ rest = append_assoc jobs (j ∷ []) rest in
    let ih = in-cut n depth R (jobs ++ j
    ∷ []) rest below.0 below.1 (omega arith) (subst (IsSequence n) (sym same) is) in
    (ih.0, ih.1, ih.2, sym same ∙ ih.3, omega (arith, ih.4, length-append jobs (j ∷ [])), ih.5)

-- no sequence is below the value that the trees of a certificate cover
shown-low : (shop : Shop) (version value depth : ℕ) (sequence : List ℕ) (parts : List (List ℕ)) →
    Shows shop version value depth sequence parts → (jobs : List ℕ) → IsSequence shop.jobs jobs →
    value ≤ span shop jobs
shown-low shop version value depth sequence parts shows jobs is =
    let depth_low : depth ≤ shop.jobs = shows.jobs_enough in
    let at = in-cut shop.jobs depth (λ prefix part. Covers shop (bound_of version) value
    (shop.jobs - depth) prefix part) [] jobs parts shows.covered (omega (arith, is.whole)) is in
    subst (λ s. value ≤ span shop s) (sym at.3)
    (covered shop version value (shop.jobs - depth) at.0 at.2 at.1 (omega (arith, at.4)) at.5 (subst
    (IsSequence shop.jobs) at.3 is))

pub certificate_is_sound : CertificateIsSound
certificate_is_sound shop bytes value (sequence, (version, depth, parts, shows, text)) = record {
  attained = (sequence, shows.whole, shows.attained);
  least = shown-low shop version value depth sequence parts shows;
}

pub value_is_one : ValueIsOne
value_is_one shop bytes v w a b =
    let v_least = certificate_is_sound shop bytes v a in
    let w_least = certificate_is_sound shop bytes w b in
    let low : v ≤ w = subst (λ n. v ≤ n) w_least.attained.2 (v_least.least w_least.attained.0 w_least.attained.1) in
    let high : w ≤ v = subst (λ n. w ≤ n) v_least.attained.2 (w_least.least v_least.attained.0 v_least.attained.1) in
    omega (arith, low, high)
