-- No sequence is below a threshold that directions prove.
use Rattle.std.proofs.Common.{◌≡◌, ℕ, zero, suc, ◌<◌, ◌≤◌, true, ◌||◌, List, [], ◌∷◌, ◌++◌, length, refl, ap, sym}
use Rattle.std.proofs.Common.{◌∙◌, subst, inl, inr, arith, append_assoc, append-nil, length-append}
use Rattle.std.proofs.lemmas.Bool.{eq-eqb}
use Rattle.flow_shop.specs.Shop.{Shop}
use Rattle.flow_shop.specs.Paths.{span}
use Rattle.flow_shop.specs.Sequences.{has, jobs_left, IsSequence}
use Rattle.flow_shop.specs.declared.end.End.{End}
use Rattle.flow_shop.specs.declared.end.End.TheVariants.{Front, Back}
use Rattle.flow_shop.specs.Directions.{first_with, last_with, ProvesWith, DirectionsAreSound, ProvedIsLowerBound}
use Rattle.flow_shop.proofs.Lists.{all-has, zip-at}
use Rattle.flow_shop.proofs.JobsLeft.{has-filter}
use Rattle.flow_shop.proofs.Taken.{has-same}
use Rattle.flow_shop.proofs.NodeJobs.{left-between, range-between, count-between}
use Rattle.flow_shop.proofs.EndBounds.{admissible-parts}

-- the last of some jobs
ending : (jobs : List ℕ) → 0 < length jobs → (rest : List ℕ) × (job : ℕ) × (jobs ≡ rest ++ job ∷ [])
ending [] some = absurd (omega arith)
ending (j ∷ []) some = ([], j, refl)
ending (j ∷ i ∷ is) some =
    let more = ending (i ∷ is) (omega arith) in
    (j ∷ more.0, more.1, ap (λ xs. j ∷ xs) more.2)

-- a job of those between two lists is left
is-left : (n : ℕ) (first between last : List ℕ) (job : ℕ) → IsSequence n (first ++ (between ++ last)) →
    has between job ≡ true → has (jobs_left n (first ++ last)) job ≡ true
is-left n first between last job is found =
    let range = all-has (λ job. (1 ≤ job) × (job ≤ n)) between job (range-between n first between last is) found in
    ap (λ xs. has xs job) (left-between n first between last is)
    ∙ has-filter (has between) n job found range.0 range.1

-- a sequence of a node with jobs left is one of a child at each end
record Child (end : End) (first between last : List ℕ) (job : ℕ) (rest : List ℕ) : Type 0 where
  found : has between job ≡ true
  shorter : length between ≡ suc (length rest)
  same : first ++ (between ++ last) ≡ first_with end first job ++ (rest ++ last_with end last job)

child-at : (end : End) (first between last : List ℕ) → 0 < length between →
    (job : ℕ) × (rest : List ℕ) × Child end first between last job rest
child-at end first [] last some = absurd (omega arith)
child-at Front first (j ∷ js) last some = (
  j,
  js,
  record {
    found = ap (λ b. b || has js j) (eq-eqb j j refl);
    shorter = omega arith;
    same = sym (append_assoc first (j ∷ []) (js ++ last));
  },
)
child-at Back first (j ∷ js) last some =
    let parts = ending (j ∷ js) some in (
      parts.1,
      parts.0,
      record {
        found = ap (λ xs. has xs parts.1) parts.2 ∙ has-same parts.0 parts.1;
        shorter = omega (arith, ap length parts.2, length-append parts.0 (parts.1 ∷ []));
        same = ap (λ xs. first ++ (xs ++ last)) parts.2
            ∙ ap (λ xs. first ++ xs) (append_assoc parts.0 (parts.1 ∷ []) last);
      },
    )

module _ (shop : Shop) (threshold : ℕ) where
  proved : (left : ℕ) (first between last text : List ℕ) → ProvesWith shop threshold left first last text →
      length between ≡ left → IsSequence shop.jobs (first ++ (between ++ last)) →
      threshold ≤ span shop (first ++ (between ++ last))
  proved zero first between last text p count is = omega (arith, p.1, admissible-parts shop first between last is)
  proved (suc left) first between last text (inl reached) count is =
      omega (arith, reached.1, admissible-parts shop first between last is)
  proved (suc left) first between last text (inr (end, parts, low, is_text, each)) count is =
      let child = child-at end first between last (omega arith) in
      let job = child.0 in
      let rest = child.1 in
      let part = zip-at
      (λ job part. ProvesWith shop threshold left (first_with end first job) (last_with end last job) part)
      (jobs_left shop.jobs (first ++ last)) parts job each
      (is-left shop.jobs first between last job is child.2.found) in
      subst (λ jobs. threshold ≤ span shop jobs) (sym child.2.same)
      (proved left (first_with end first job) rest (last_with end last job) part.0 part.1
      (omega (arith, child.2.shorter)) (subst (IsSequence shop.jobs) child.2.same is))

pub directions_are_sound : DirectionsAreSound
directions_are_sound shop threshold first between last text p is =
    let same : first ++ between ++ last ≡ first ++ (between ++ last) = append_assoc first between last in
    let is' : IsSequence shop.jobs (first ++ (between ++ last)) = subst (IsSequence shop.jobs) same is in
    subst (λ jobs. threshold ≤ span shop jobs) (sym same)
    (proved shop threshold (length (jobs_left shop.jobs (first ++ last))) first between last text p
    (sym (count-between shop.jobs first between last is')) is')

pub proved_is_lower_bound : ProvedIsLowerBound
proved_is_lower_bound shop threshold text p jobs is =
    let same : [] ++ jobs ++ [] ≡ jobs = append-nil jobs in
    subst (λ jobs. threshold ≤ span shop jobs) same
    (directions_are_sound shop threshold [] jobs [] text p (subst (IsSequence shop.jobs) (sym same) is))
