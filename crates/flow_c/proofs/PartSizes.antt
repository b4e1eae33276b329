-- How many numbers the parts have that a search leaves.
use Rattle.std.proofs.Common.{◌≡◌, ℕ, ◌+◌, ◌*◌, ◌≤◌, false, not, ◌||◌, nat_eq, List, [], ◌∷◌, ◌++◌, length, ap}
use Rattle.std.proofs.Common.{◌∙◌, subst, arith, append_assoc, length-append}
use Rattle.std.specs.Global.{Vec}
use Rattle.std.specs.List.{flat_map, AllByRecursion}
use Rattle.std.proofs.Math.Nat.{mul-le-mul_left}
use Rattle.std.proofs.lemmas.List.Elements.{recursion_from_All}
use Rattle.std.proofs.lemmas.List.Folds.{list_any-append}
use Rattle.flow_shop.specs.Shop.{Shop}
use Rattle.flow_shop.specs.Sequences.{has, jobs_left, AreDistinct, AreJobs}
use Rattle.flow_shop.specs.Directions.{first_with, last_with}
use Rattle.flow_shop.specs.declared.end.End.{End}
use Rattle.flow_shop.specs.declared.end.End.TheVariants.{Front, Back}
use Rattle.flow_shop.proofs.JobLists.{apart-before, few-jobs, jobs-insert}
use Rattle.flow_shop.proofs.JobsLeft.{InRange, distinct-rest, kept-le, sum_by-ones}
use Rattle.flow_directions.specs.Search.{IsPart}
use Rattle.flow_directions.specs.declared.found.Part.{Part}
use Rattle.flow_directions.specs.declared.found.Part.TheVariants.{Node, Children}
use Rattle.flow_c.specs.Searches.{most_rest, numbers_of, IsCome}
use Rattle.flow_c.specs.declared.node.NodeLists.{NodeLists}
use Rattle.flow_c.specs.declared.came.Came.TheVariants.{Rest}

-- distinct jobs before others, none of which is among these
joined : (n : ℕ) (jobs list : List ℕ) → InRange n jobs → AreDistinct jobs → AreJobs n list →
    AllByRecursion (λ job. has list job ≡ false) jobs → AreJobs n (jobs ++ list)
joined n [] list range distinct are others = are
joined n (job ∷ jobs) list range distinct are others =
    jobs-insert n [] (jobs ++ list) job (joined n jobs list range.1 distinct.1 are others.1) range.0.0 range.0.1
    (list_any-append (nat_eq job) jobs list ∙ ap (λ b. b || has list job) distinct.0 ∙ others.0)

-- a job that stands between two lists stands in none of them
between : (first last : List ℕ) (job : ℕ) → AreDistinct (first ++ job ∷ last) → has (first ++ last) job ≡ false
between first last job distinct =
    list_any-append (nat_eq job) first last
    ∙ ap (λ b. b || has last job) (apart-before first last job distinct)
    ∙ (distinct-rest first (job ∷ last) distinct).0

-- a job that a child puts does not stand in the lists of the node
put-apart : (n : ℕ) (end : End) (first last : List ℕ) (job : ℕ) →
    AreJobs n (first_with end first job ++ last_with end last job) → has (first ++ last) job ≡ false
put-apart n Front first last job are =
    between first last job (subst AreDistinct (append_assoc first (job ∷ []) last) are.distinct)
put-apart n Back first last job are = between first last job are.distinct

each-apart : (n : ℕ) (end : End) (first last jobs : List ℕ) →
    AllByRecursion (λ job. AreJobs n (first_with end first job ++ last_with end last job)) jobs →
    AllByRecursion (λ job. has (first ++ last) job ≡ false) jobs
each-apart n end first last [] each = tt
each-apart n end first last (job ∷ jobs) each =
    (put-apart n end first last job each.0, each-apart n end first last jobs each.1)

-- a part has no more numbers than jobs, and four
part-size : (shop : Shop) (part : Part) → IsPart shop part → length (numbers_of part) ≤ shop.jobs + 4
part-size shop (Node first last) are =
    omega (
      arith,
      length-append (first.items ++ last.items) [],
      few-jobs shop.jobs (first.items ++ last.items) are,
    )
part-size shop (Children first last end jobs) is =
    let list : List ℕ = first.items ++ last.items in
    let P : ℕ → Type 0 = λ job. AreJobs shop.jobs (first_with end first.items job ++ last_with end last.items job) in
    let all : AreJobs shop.jobs (jobs.items ++ list) =
    joined shop.jobs jobs.items list (recursion_from_All (λ job. (1 ≤ job) × (job ≤ shop.jobs)) jobs.items is.1.range)
    is.1.distinct is.0
    (each-apart shop.jobs end first.items last.items jobs.items (recursion_from_All P jobs.items is.2)) in
    omega (
      arith,
      length-append list jobs.items,
      length-append jobs.items list,
      few-jobs shop.jobs (jobs.items ++ list) all,
    )

parts-size : (shop : Shop) (parts : List Part) → AllByRecursion (IsPart shop) parts →
    length (flat_map numbers_of parts) ≤ length parts * (shop.jobs + 4)
parts-size shop [] each = omega arith
parts-size shop (part ∷ parts) each =
    omega (
      arith,
      length-append (numbers_of part) (flat_map numbers_of parts),
      part-size shop part each.0,
      parts-size shop parts each.1,
    )

-- the parts that a search leaves have no more numbers than are always enough
pub rest-size : (shop : Shop) (threshold budget : ℕ) (node : NodeLists) (text : List ℕ) (parts : Vec Part) →
    IsCome shop threshold budget node text (Rest parts) →
    length (flat_map numbers_of parts.items) ≤ most_rest shop.jobs
rest-size shop threshold budget node text parts is =
    let few : length parts.items ≤ shop.jobs = omega (
      arith,
      is.4,
      sum_by-ones (jobs_left shop.jobs (node.first.now ++ node.last.now)),
      kept-le (λ job. not (has (node.first.now ++ node.last.now) job)) shop.jobs,
    ) in
    omega (
      arith,
      parts-size shop parts.items (recursion_from_All (IsPart shop) parts.items is.3),
      mul-le-mul_left (shop.jobs + 4) few,
    )
