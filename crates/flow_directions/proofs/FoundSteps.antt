-- What a search found: at a node where nothing is opened, and what it shows.
use Rattle.std.proofs.Common.{◌≡◌, ℕ, ◌<◌, ◌≤◌, List, [], ◌∷◌, ◌++◌, length, length-append, Some, refl, ap, sym, ◌∙◌}
use Rattle.std.proofs.Common.{subst}
use Rattle.std.proofs.Common.{arith}
use Rattle.std.specs.Prelude.{Result, Ok, Err, IfOk, IfErr, All}
use Rattle.std.specs.List.{flat_map}
use Rattle.std.specs.Global.{Vec}
use Rattle.flow_shop.specs.Shop.{Shop}
use Rattle.flow_shop.specs.Paths.{span}
use Rattle.flow_shop.specs.Sequences.{jobs_left, AreJobs}
use Rattle.flow_shop.specs.Ends.{end_bound}
use Rattle.flow_shop.specs.Directions.{ProvesFrom, sign}
use Rattle.flow_shop.specs.declared.end.End.{End}
use Rattle.flow_directions.specs.Search.{Continues, IsPart, Visit, child_visits, end_taken, opens, parts_visits, visits}
use Rattle.flow_directions.specs.Search.{signs, first_reached, directions_of, first_below, IsFound, Shows}
use Rattle.flow_directions.specs.declared.found.Found.{Found}
use Rattle.flow_directions.specs.declared.found.Outcome.{Outcome}
use Rattle.flow_directions.specs.declared.found.Outcome.TheVariants as outcome
use Rattle.flow_directions.specs.declared.found.Found.TheVariants.{Proved, Below, Over}
use Rattle.flow_directions.specs.declared.found.ProveFault.{ProveFault}
use Rattle.flow_directions.specs.declared.found.ProveFault.TheVariants.{Jobs, Memory}
use Rattle.flow_directions.specs.internal.Outcomes.{IsOutcome, IsReached}
use Rattle.flow_directions.specs.internal.Levels.{first_of, last_of, met_with}
use Rattle.flow_directions.specs.declared.found.Part.{Part}
use Rattle.flow_directions.specs.declared.level.Level.{Level}
use Rattle.flow_directions.proofs.MetSteps.{met-opens}
use Rattle.flow_directions.proofs.VisitSteps.{visits-open}
use Rattle.flow_directions.proofs.VisitSteps.{visits-high, visits-whole}
use Rattle.flow_directions.proofs.SearchProves.{directions_prove}
use Rattle.flow_directions.proofs.SearchReaches.{reached_is_below}

-- a sequence that is reached, with its makespan
pub found-below : (shop : Shop) (threshold budget : ℕ) (first last jobs text : List ℕ) (outcome : Outcome) →
    first_below shop threshold first last ≡ Some jobs → text ≡ directions_of shop threshold first last →
    length text ≤ budget → IsReached shop jobs outcome → IsOutcome shop threshold budget first last text outcome
found-below shop threshold budget first last jobs text outcome.Proved reached written within is = absurd is
found-below shop threshold budget first last jobs text (outcome.Below sequence makespan) reached written within is = (
  (reached ∙ ap Some (sym is.0), is.1 ∙ ap (span shop) (sym is.0), ap length written, within),
  written,
)
found-below shop threshold budget first last jobs text (outcome.Rest parts) reached written within is = absurd is

-- what is found at a node whose bound is at least the threshold
pub found-high : (shop : Shop) (threshold budget : ℕ) (first last : List ℕ) → threshold ≤ end_bound shop first last →
    IsOutcome shop threshold budget first last [] outcome.Proved
found-high shop threshold budget first last high =
    let nothing = visits-high shop threshold first last high in
    (ap first_reached nothing, sym (ap signs nothing), omega arith)

-- and at one below the threshold, without jobs left
pub found-whole : (shop : Shop) (threshold budget : ℕ) (first last : List ℕ) (outcome : Outcome) →
    length (jobs_left shop.jobs (first ++ last)) ≡ 0 → end_bound shop first last < threshold →
    IsReached shop (first ++ last) outcome → IsOutcome shop threshold budget first last [] outcome
found-whole shop threshold budget first last outcome none low is =
    let one = visits-whole shop threshold first last none low in
    found-below shop threshold budget first last (first ++ last) [] outcome (ap first_reached one)
    (sym (ap signs one)) (omega arith) is

-- what is found shows that the number is proved, or a sequence below it
pub found-shows : (shop : Shop) (threshold budget : ℕ) (first last : List ℕ) (found : Found) →
    AreJobs shop.jobs (first ++ last) → IsFound shop threshold budget first last found →
    Shows shop threshold first last found
found-shows shop threshold budget first last (Proved text) are is =
    subst (ProvesFrom shop threshold first last) (sym is.1) (directions_prove shop threshold first last are is.0)
found-shows shop threshold budget first last (Below sequence makespan directions) are is =
    let reached = reached_is_below shop threshold first last sequence are is.0 in
    (reached.0, sym is.1, omega (arith, reached.1, is.1))
found-shows shop threshold budget first last Over are is = tt

-- of what is returned where something is found
pub each-ok : {T E : Type 0} (P Q : T → Type 0) (result : Result T E) → ((found : T) → P found → Q found) →
    IfOk result P → IfOk result Q
each-ok P Q (Ok found) follows is = follows found is
each-ok P Q (Err fault) follows is = tt

-- where memory runs out at most, the lists are no fault
pub no-jobs-fault : {T : Type 0} (result : Result T ProveFault) → IfErr result (λ fault. fault ≡ Memory) →
    result ≡ Err Jobs → ⊥
no-jobs-fault (Ok found) is e = absurd (cc)
no-jobs-fault (Err fault) is e =
    let same : fault ≡ Jobs = cc in
    let apart : Memory ≡ Jobs = sym is ∙ same in
    absurd (cc)

-- what is found past the budget
pub found-over : (shop : Shop) (threshold budget left : ℕ) (first last text : List ℕ) (parts : Vec Part)
    (names : ℕ → List ℕ) (levels : List Level) → length text ≡ budget →
    Continues (visits shop threshold first last) text
    (met_with shop threshold names left first last levels
    (visits shop threshold (first_of first levels) (last_of last levels))) →
    end_bound shop (first_of first levels) (last_of last levels) < threshold →
    0 < length (jobs_left shop.jobs (first_of first levels ++ last_of last levels)) →
    parts_visits shop threshold parts.items
    ≡ met_with shop threshold names left first last levels
    (visits shop threshold (first_of first levels) (last_of last levels)) →
    All (IsPart shop) parts.items → length parts.items ≤ length (jobs_left shop.jobs (first ++ last)) →
    IsOutcome shop threshold budget first last text (outcome.Rest parts)
found-over shop threshold budget left first last text parts names levels full continues low some met each few =
    let first2 : List ℕ = first_of first levels in
    let last2 : List ℕ = last_of last levels in
    let end : End = end_taken shop threshold first2 last2 in
    let more : List Visit = flat_map (child_visits shop threshold end first2 last2) (jobs_left shop.jobs (first2 ++ last2))
    in
    let opened : met_with shop threshold names left first last levels (visits shop threshold first2 last2)
    ≡ opens end ∷ met_with shop threshold names left first last levels more =
    ap (met_with shop threshold names left first last levels) (visits-open shop threshold first2 last2 some low)
    ∙ met-opens shop threshold names left first last levels end more in
    let longer = ap length (continues.0 ∙ ap (λ v. text ++ signs v) opened) in (
      omega (
        arith,
        longer,
        full,
        length-append text (sign end ∷ signs (met_with shop threshold names left first last levels more)),
      ),
      full,
      subst (Continues (visits shop threshold first last) text) (sym met) continues,
      each,
      few,
    )

-- and where nothing may be written
pub found-none : (shop : Shop) (threshold budget : ℕ) (first last : List ℕ) (parts : Vec Part) → budget ≡ 0 →
    end_bound shop first last < threshold → 0 < length (jobs_left shop.jobs (first ++ last)) →
    parts_visits shop threshold parts.items ≡ visits shop threshold first last →
    All (IsPart shop) parts.items → length parts.items ≤ length (jobs_left shop.jobs (first ++ last)) →
    IsOutcome shop threshold budget first last [] (outcome.Rest parts)
found-none shop threshold budget first last parts full low some met each few =
    found-over shop threshold budget 0 first last [] parts (λ left. []) [] (sym full) (refl, refl) low some met each few
