-- What the search meets, where lists of it are joined, and at a node.
use Rattle.std.proofs.Common.{◌⊎◌, ◌≡◌, ℕ, zero, suc, ◌+◌, ◌-◌, ◌<◌, ◌≤◌, cond, List, [], ◌∷◌, ◌++◌, length}
use Rattle.std.proofs.Common.{Option, Some, None, refl, ap, sym, ◌∙◌, inl, inr, arith}
use Rattle.std.specs.List.{flat_map, AllByRecursion}
use Rattle.std.proofs.lemmas.Bool.{le-leb, lt-leb}
use Rattle.std.proofs.lemmas.Option.{none-some}
use Rattle.flow_shop.specs.Shop.{Shop}
use Rattle.flow_shop.specs.Sequences.{jobs_left}
use Rattle.flow_shop.specs.declared.end.End.{End}
use Rattle.flow_shop.specs.Ends.{end_bound}
use Rattle.flow_shop.specs.Directions.{sign, first_with, last_with}
use Rattle.flow_shop.proofs.JobsLeft.{each-left}
use Rattle.flow_shop.proofs.EndSteps.{count-child}
use Rattle.flow_directions.specs.Search.{end_taken, Visit, opens, reaches, visits_with, visits, signs, first_reached}
use Rattle.flow_directions.specs.Search.{child_visits}

-- a first sequence is reached, or none
pub none-or-reached : (reached : Option (List ℕ)) → (reached ≡ None) ⊎ ((jobs : List ℕ) × (reached ≡ Some jobs))
none-or-reached None = inl refl
none-or-reached (Some jobs) = inr (jobs, refl)

-- two lists that are joined

-- where the first of them reaches no sequence, the signs are those of both
pub signs-append : (xs ys : List Visit) → first_reached xs ≡ None → signs (xs ++ ys) ≡ signs xs ++ signs ys
signs-append [] ys none = refl
signs-append (opens end ∷ xs) ys none = ap (λ s. sign end ∷ s) (signs-append xs ys none)
signs-append (reaches jobs ∷ xs) ys none = absurd (none-some jobs (sym none))

-- and the first sequence is that of the second
pub first_reached-append : (xs ys : List Visit) → first_reached xs ≡ None →
    first_reached (xs ++ ys) ≡ first_reached ys
first_reached-append [] ys none = refl
first_reached-append (opens end ∷ xs) ys none = first_reached-append xs ys none
first_reached-append (reaches jobs ∷ xs) ys none = absurd (none-some jobs (sym none))

-- where the first of them reaches a sequence, the signs are its own
pub signs-append-reached : (xs ys : List Visit) (jobs : List ℕ) → first_reached xs ≡ Some jobs →
    signs (xs ++ ys) ≡ signs xs
signs-append-reached [] ys jobs reached = absurd (none-some jobs reached)
signs-append-reached (opens end ∷ xs) ys jobs reached =
    ap (λ s. sign end ∷ s) (signs-append-reached xs ys jobs reached)
signs-append-reached (reaches found ∷ xs) ys jobs reached = refl

-- and so is the first sequence
pub first_reached-append-reached : (xs ys : List Visit) (jobs : List ℕ) → first_reached xs ≡ Some jobs →
    first_reached (xs ++ ys) ≡ Some jobs
first_reached-append-reached [] ys jobs reached = absurd (none-some jobs reached)
first_reached-append-reached (opens end ∷ xs) ys jobs reached = first_reached-append-reached xs ys jobs reached
first_reached-append-reached (reaches found ∷ xs) ys jobs reached = reached

-- where both together reach none, neither does
pub none-both : (xs ys : List Visit) → first_reached (xs ++ ys) ≡ None →
    (first_reached xs ≡ None) × (first_reached ys ≡ None)
none-both [] ys none = (refl, none)
none-both (opens end ∷ xs) ys none = none-both xs ys none
none-both (reaches jobs ∷ xs) ys none = absurd (none-some jobs (sym none))

-- the lists of some jobs, one after another

-- the job whose list reaches the first sequence: those before it reach none
pub record ReachedAt (visits_at : ℕ → List Visit) (jobs found before : List ℕ) (job : ℕ)
    (after : List ℕ) : Type 0 where
  pub jobs_are : jobs ≡ before ++ job ∷ after
  pub none_before : first_reached (flat_map visits_at before) ≡ None
  pub reached : first_reached (visits_at job) ≡ Some found

module _ (visits_at : ℕ → List Visit) where
  -- where they reach no sequence, none of them does
  pub none-each : (jobs : List ℕ) → first_reached (flat_map visits_at jobs) ≡ None →
      AllByRecursion (λ job. first_reached (visits_at job) ≡ None) jobs
  none-each [] none = tt
  none-each (job ∷ jobs) none =
      let both = none-both (visits_at job) (flat_map visits_at jobs) none in
      (both.0, none-each jobs both.1)

  -- then the signs are those of each, one after another
  pub signs-flat_map : (jobs : List ℕ) → first_reached (flat_map visits_at jobs) ≡ None →
      signs (flat_map visits_at jobs) ≡ flat_map (λ job. signs (visits_at job)) jobs
  signs-flat_map [] none = refl
  signs-flat_map (job ∷ jobs) none =
      let both = none-both (visits_at job) (flat_map visits_at jobs) none in
      signs-append (visits_at job) (flat_map visits_at jobs) both.0
      ∙ ap (λ s. signs (visits_at job) ++ s) (signs-flat_map jobs both.1)

  -- where they reach a sequence, one of them does
  pub reached-flat_map : (jobs found : List ℕ) → first_reached (flat_map visits_at jobs) ≡ Some found →
      (before : List ℕ) × (job : ℕ) × (after : List ℕ) × ReachedAt visits_at jobs found before job after
  reached-flat_map [] found reached = absurd (none-some found reached)
  reached-flat_map (job ∷ jobs) found reached =
      elim (none-or-reached (first_reached (visits_at job))) [
        | inl none ↦
            let more = reached-flat_map jobs found
            (sym (first_reached-append (visits_at job) (flat_map visits_at jobs) none) ∙ reached) in (
              job ∷ more.0,
              more.1,
              more.2,
              record {
                jobs_are = ap (λ xs. job ∷ xs) more.3.jobs_are;
                none_before = first_reached-append (visits_at job) (flat_map visits_at more.0) none
                    ∙ more.3.none_before;
                reached = more.3.reached;
              },
            )
        | inr here ↦ (
          [],
          job,
          jobs,
          record {
            jobs_are = refl;
            none_before = refl;
            reached = here.1
                ∙ sym (first_reached-append-reached (visits_at job) (flat_map visits_at jobs) here.0 here.1)
                ∙ reached;
          },
        )
      ]

-- the same lists of each job
pub flat_map-same : {B : Type 0} (f g : ℕ → List B) (jobs : List ℕ) → AllByRecursion (λ job. f job ≡ g job) jobs →
    flat_map f jobs ≡ flat_map g jobs
flat_map-same f g [] same = refl
flat_map-same f g (job ∷ jobs) same =
    ap (λ xs. xs ++ flat_map f jobs) same.0 ∙ ap (λ xs. g job ++ xs) (flat_map-same f g jobs same.1)

-- a node

module _ (shop : Shop) (threshold : ℕ) where
  -- whose bound is at least the threshold
  visits_with-high : (left : ℕ) (first last : List ℕ) → threshold ≤ end_bound shop first last →
      visits_with shop threshold left first last ≡ []
  unfolding visits_with
  visits_with-high zero first last high =
      ap (λ b. cond b [] (reaches (first ++ last) ∷ [])) (le-leb threshold (end_bound shop first last) high)
  visits_with-high (suc left) first last high =
      let end : End = end_taken shop threshold first last in
      ap (λ b. cond b [] (opens end ∷ flat_map
      (λ job. visits_with shop threshold left (first_with end first job) (last_with end last job))
      (jobs_left shop.jobs (first ++ last)))) (le-leb threshold (end_bound shop first last) high)

  -- below the threshold, without jobs left
  visits_with-whole : (first last : List ℕ) → end_bound shop first last < threshold →
      visits_with shop threshold 0 first last ≡ reaches (first ++ last) ∷ []
  unfolding visits_with
  visits_with-whole first last low =
      ap (λ b. cond b [] (reaches (first ++ last) ∷ [])) (lt-leb threshold (end_bound shop first last) low)

  -- below the threshold, with jobs left
  visits_with-open : (left : ℕ) (first last : List ℕ) → end_bound shop first last < threshold →
      visits_with shop threshold (suc left) first last
      ≡ opens (end_taken shop threshold first last) ∷ flat_map
      (λ job. visits_with shop threshold left (first_with (end_taken shop threshold first last) first job)
      (last_with (end_taken shop threshold first last) last job))
      (jobs_left shop.jobs (first ++ last))
  unfolding visits_with
  visits_with-open left first last low =
      let end : End = end_taken shop threshold first last in
      ap (λ b. cond b [] (opens end ∷ flat_map
      (λ job. visits_with shop threshold left (first_with end first job) (last_with end last job))
      (jobs_left shop.jobs (first ++ last)))) (lt-leb threshold (end_bound shop first last) low)

  -- nothing is met at a node whose bound is at least the threshold
  pub visits-high : (first last : List ℕ) → threshold ≤ end_bound shop first last → visits shop threshold first last ≡ []
  visits-high first last high =
      visits_with-high (length (jobs_left shop.jobs (first ++ last))) first last high

  -- below the threshold, its sequence where no job is left
  pub visits-whole : (first last : List ℕ) → length (jobs_left shop.jobs (first ++ last)) ≡ 0 →
      end_bound shop first last < threshold → visits shop threshold first last ≡ reaches (first ++ last) ∷ []
  visits-whole first last none low =
      ap (λ left. visits_with shop threshold left first last) none ∙ visits_with-whole first last low

  visits-child : (end : End) (first last : List ℕ) (left : ℕ) →
      length (jobs_left shop.jobs (first ++ last)) ≡ suc left →
      AllByRecursion (λ job. visits_with shop threshold left (first_with end first job) (last_with end last job)
      ≡ child_visits shop threshold end first last job) (jobs_left shop.jobs (first ++ last))
  visits-child end first last left some =
      each-left (λ job. visits_with shop threshold left (first_with end first job) (last_with end last job)
      ≡ child_visits shop threshold end first last job) (first ++ last) 1 (shop.jobs + 1 - 1) (λ job from to fresh.
      let high : job ≤ shop.jobs = omega (arith, to) in
      let same : left ≡ length (jobs_left shop.jobs (first_with end first job ++ last_with end last job)) =
      omega (arith, some, count-child shop.jobs end first last job from high fresh) in
      ap (λ left. visits_with shop threshold left (first_with end first job) (last_with end last job)) same)

  opened : (first last : List ℕ) (left : ℕ) → length (jobs_left shop.jobs (first ++ last)) ≡ left → 0 < left →
      end_bound shop first last < threshold →
      visits shop threshold first last
      ≡ opens (end_taken shop threshold first last) ∷ flat_map
      (child_visits shop threshold (end_taken shop threshold first last) first last) (jobs_left shop.jobs (first ++ last))
  opened first last zero is some low = absurd (omega arith)
  opened first last (suc left) is some low =
      let end : End = end_taken shop threshold first last in
      ap (λ left. visits_with shop threshold left first last) is
      ∙ visits_with-open left first last low
      ∙ ap (λ xs. opens end ∷ xs) (flat_map-same
      (λ job. visits_with shop threshold left (first_with end first job) (last_with end last job))
      (child_visits shop threshold end first last) (jobs_left shop.jobs (first ++ last))
      (visits-child end first last left is))

  -- or else the node, and what is met at its children
  pub visits-open : (first last : List ℕ) → 0 < length (jobs_left shop.jobs (first ++ last)) →
      end_bound shop first last < threshold →
      visits shop threshold first last
      ≡ opens (end_taken shop threshold first last) ∷ flat_map
      (child_visits shop threshold (end_taken shop threshold first last) first last) (jobs_left shop.jobs (first ++ last))
  visits-open first last some low =
      opened first last (length (jobs_left shop.jobs (first ++ last))) refl some low
