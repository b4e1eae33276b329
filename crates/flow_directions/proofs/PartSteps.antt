-- The parts of a search: what is met there, and that they are parts.
use Rattle.std.proofs.Common.{◌≡◌, ℕ, ◌-◌, ◌≤◌, List, [], ◌∷◌, ◌++◌, length, ap, sym, ◌∙◌, subst}
use Rattle.std.specs.List.{flat_map, AllByRecursion}
use Rattle.std.specs.Prelude.{All}
use Rattle.std.specs.Global.{Vec}
use Rattle.std.proofs.lemmas.List.Elements.{All-from_recursion, All-push}
use Rattle.flow_shop.specs.Shop.{Shop}
use Rattle.flow_shop.specs.Sequences.{AreDistinct, AreJobs}
use Rattle.flow_shop.specs.Directions.{first_with, last_with}
use Rattle.flow_shop.specs.declared.end.End.{End}
use Rattle.flow_directions.specs.Search.{IsPart, child_visits, part_visits, parts_visits, visits}
use Rattle.flow_directions.specs.internal.Lists.{HasLists}
use Rattle.flow_directions.specs.internal.Left.{AreChildrenPart, IsNodePart}
use Rattle.flow_directions.specs.internal.Levels.{AreLevels, IsOpen, IsStopped, StandsBelow, first_of, jobs_of, last_of}
use Rattle.flow_directions.specs.internal.Levels.{met_with}
use Rattle.flow_directions.specs.declared.found.Part.{Part}
use Rattle.flow_directions.specs.declared.level.Level.{Level}
use Rattle.flow_directions.specs.declared.lists.Lists.{Lists}
use Rattle.flow_directions.proofs.LevelSteps.{levels-pop, lists-pop}
use Rattle.flow_directions.proofs.MetSteps.{met-push}
use Rattle.flow_directions.proofs.NodeLists.{child-jobs}
use Rattle.flow_directions.proofs.WalkSteps.{parts-more}

-- a node

pub met-node : (shop : Shop) (threshold : ℕ) (first last : List ℕ) (part : Part) → IsNodePart first last part →
    part_visits shop threshold part ≡ visits shop threshold first last
met-node shop threshold first last part is =
    let begin : Vec ℕ = is.0 in
    let behind : Vec ℕ = is.1 in
    ap (part_visits shop threshold) is.4
    ∙ ap (λ xs. visits shop threshold xs behind.items) is.2
    ∙ ap (λ xs. visits shop threshold first xs) is.3

pub node-part : (shop : Shop) (first last : List ℕ) (part : Part) → IsNodePart first last part →
    AreJobs shop.jobs (first ++ last) → IsPart shop part
node-part shop first last part is are =
    let begin : Vec ℕ = is.0 in
    let behind : Vec ℕ = is.1 in
    subst (IsPart shop) (sym is.4)
    (subst (λ xs. AreJobs shop.jobs (xs ++ behind.items)) (sym is.2)
    (subst (λ xs. AreJobs shop.jobs (first ++ xs)) (sym is.3) are))

-- some children

pub met-children : (shop : Shop) (threshold : ℕ) (end : End) (first last jobs : List ℕ) (part : Part) →
    AreChildrenPart first last end jobs part →
    part_visits shop threshold part ≡ flat_map (child_visits shop threshold end first last) jobs
met-children shop threshold end first last jobs part is =
    let begin : Vec ℕ = is.0 in
    let behind : Vec ℕ = is.1 in
    let named : Vec ℕ = is.2 in
    ap (part_visits shop threshold) is.6
    ∙ ap (λ js. flat_map (child_visits shop threshold end begin.items behind.items) js) is.5
    ∙ ap (λ begins. flat_map (child_visits shop threshold end begins behind.items) jobs) is.3
    ∙ ap (λ ends. flat_map (child_visits shop threshold end first ends) jobs) is.4

module _ (shop : Shop) (threshold : ℕ) (end : End) (first last : List ℕ) where
  each-child-is : AreJobs shop.jobs (first ++ last) → (jobs : List ℕ) →
      AllByRecursion (IsOpen shop threshold end first last) jobs →
      AllByRecursion (λ job. AreJobs shop.jobs (first_with end first job ++ last_with end last job)) jobs
  each-child-is are [] each = tt
  each-child-is are (other ∷ jobs) each = (
    child-jobs shop.jobs end first last other are each.0.is_job.0 each.0.is_job.1 each.0.left,
    each-child-is are jobs each.1,
  )

  each-job-is : (jobs : List ℕ) → AllByRecursion (IsOpen shop threshold end first last) jobs →
      AllByRecursion (λ job. (1 ≤ job) × (job ≤ shop.jobs)) jobs
  each-job-is [] each = tt
  each-job-is (other ∷ jobs) each = (each.0.is_job, each-job-is jobs each.1)

  -- each of them is a node
  each-are : (jobs : List ℕ) (begin behind named : Vec ℕ) → begin.items ≡ first → behind.items ≡ last →
      named.items ≡ jobs → AllByRecursion (IsOpen shop threshold end first last) jobs →
      AreJobs shop.jobs (first ++ last) →
      All (λ job. AreJobs shop.jobs (first_with end begin.items job ++ last_with end behind.items job)) named.items
  each-are jobs begin behind named first_is last_is named_is each are =
      let all = All-from_recursion (λ job. AreJobs shop.jobs (first_with end first job ++ last_with end last job)) jobs
      (each-child-is are jobs each) in
      subst (λ js. All (λ job. AreJobs shop.jobs (first_with end begin.items job
      ++ last_with end behind.items job)) js) (sym named_is)
      (subst (λ begins. All (λ job. AreJobs shop.jobs (first_with end begins job
      ++ last_with end behind.items job)) jobs) (sym first_is)
      (subst (λ ends. All (λ job. AreJobs shop.jobs (first_with end first job
      ++ last_with end ends job)) jobs) (sym last_is) all))

  pub children-part : (jobs : List ℕ) (part : Part) → AreChildrenPart first last end jobs part →
      AllByRecursion (IsOpen shop threshold end first last) jobs → AreDistinct jobs →
      AreJobs shop.jobs (first ++ last) → IsPart shop part
  children-part jobs part is each distinct are =
      let begin : Vec ℕ = is.0 in
      let behind : Vec ℕ = is.1 in
      let named : Vec ℕ = is.2 in
      let are_jobs : AreJobs shop.jobs jobs = record {
        range = All-from_recursion (λ job. (1 ≤ job) × (job ≤ shop.jobs)) jobs (each-job-is jobs each);
        distinct = distinct;
      } in
      subst (IsPart shop) (sym is.6) (
        subst (λ xs. AreJobs shop.jobs (xs ++ behind.items)) (sym is.3)
            (subst (λ xs. AreJobs shop.jobs (first ++ xs)) (sym is.4) are),
        subst (AreJobs shop.jobs) (sym is.5) are_jobs,
        each-are jobs begin behind named is.3 is.4 is.5 each are,
      )

-- the lists to which levels lead have distinct jobs
pub levels-jobs : (shop : Shop) (threshold : ℕ) (names : ℕ → List ℕ) (left : ℕ) (first last : List ℕ)
    (levels : List Level) → AreLevels (IsStopped shop threshold names) left first last levels →
    AreJobs shop.jobs (first ++ last) → AreJobs shop.jobs (first_of first levels ++ last_of last levels)
levels-jobs shop threshold names left first last [] above are = are
levels-jobs shop threshold names left first last (l ∷ ls) above are =
    let job = above.0.opened in
    levels-jobs shop threshold names (left - 1) (first_with l.end first l.job) (last_with l.end last l.job) ls above.1
    (child-jobs shop.jobs l.end first last l.job are job.is_job.0 job.is_job.1 job.left)

-- the last of some levels is left
module _ (shop : Shop) (threshold : ℕ) (names : ℕ → List ℕ) (first last : List ℕ) (left : ℕ) (lists : Lists)
    (levels rest : List Level) (level : Level) (stands : StandsBelow shop threshold names first last left lists levels)
    (is : levels ≡ rest ++ level ∷ []) where
  pub left-lists : HasLists shop.jobs (first_with level.end (first_of first rest) level.job)
      (last_with level.end (last_of last rest) level.job) lists
  left-lists = lists-pop (λ f l. HasLists shop.jobs f l lists) first last levels rest level is stands.has_lists

  popped : AreLevels (IsStopped shop threshold names) left first last rest
      × IsStopped shop threshold names (left - length rest) (first_of first rest) (last_of last rest) level
  popped =
      levels-pop (IsStopped shop threshold names) left first last rest level
      (subst (AreLevels (IsStopped shop threshold names) left first last) is stands.are_levels)

  pub left-stands : (lists2 : Lists) → HasLists shop.jobs (first_of first rest) (last_of last rest) lists2 →
      StandsBelow shop threshold names first last left lists2 rest
  left-stands lists2 has_lists = record { are_levels = popped.0; has_lists = has_lists }

  module _ (parts : List Part) (part : Part) (jobs : List ℕ) (jobs_are : jobs ≡ jobs_of names (left - length rest)
      level)
      (are : AreChildrenPart (first_of first rest) (last_of last rest) level.end jobs part) where
    pub left-met : met_with shop threshold names left first last rest (parts_visits shop threshold (parts ++ part ∷ []))
        ≡ met_with shop threshold names left first last levels (parts_visits shop threshold parts)
    left-met =
        ap (met_with shop threshold names left first last rest)
        (parts-more shop threshold parts part
        ∙ ap (λ v. parts_visits shop threshold parts ++ v)
        (met-children shop threshold level.end (first_of first rest) (last_of last rest) jobs part are
        ∙ ap (flat_map (child_visits shop threshold level.end (first_of first rest) (last_of last rest))) jobs_are))
        ∙ sym (met-push shop threshold names left first last rest level (parts_visits shop threshold parts))
        ∙ ap (λ ls. met_with shop threshold names left first last ls (parts_visits shop threshold parts)) (sym is)

    pub left-each : AreJobs shop.jobs (first ++ last) → All (IsPart shop) parts → All (IsPart shop) (parts ++ part ∷ [])
    left-each nodes each =
        All-push (IsPart shop) parts part each
        (children-part shop threshold level.end (first_of first rest) (last_of last rest) jobs part are
        (subst (AllByRecursion (IsOpen shop threshold level.end (first_of first rest) (last_of last rest))) (sym jobs_are)
        popped.1.each)
        (subst AreDistinct (sym jobs_are) popped.1.distinct)
        (levels-jobs shop threshold names left first last rest popped.0 nodes))
