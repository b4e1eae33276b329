-- The schedule of a run of `certify`: what it is at its beginning, what each act asks for, which task is next, and what
-- an answer changes. The acts are the list `ACTS` of src/acts.rt; other names in capitals are constants too.
use Rattle.std.specs.Prelude.{ℕ, ◌≡◌, ◌+◌, ◌-◌, ◌*◌, ◌/◌, ◌^◌, min, max, Bool, ◌||◌, ◌&&◌, ◌==◌, nat_lt, nat_le}
use Rattle.std.specs.Prelude.{if◌then◌else◌, List, [], ◌∷◌, take, drop, Option, Some, None, option_and_then, slice_get}
use Rattle.flow_limits.specs.Limits.{most_width}
use Rattle.flow_shop.specs.Shop.{Shop}
use Rattle.flow_shop.specs.Paths.{span}
use Rattle.flow_shop.specs.Ends.{end_bound}
use Rattle.flow_bound.specs.Taillard.{taillard_bound}
use Rattle.flow_improve.specs.Effort.{Effort, RunLimits, beam_steps, run_from_start, run_from_beam}
use Rattle.flow_certify.specs.Funds.{held, first_fund, granted, charged, released}
use Rattle.flow_certify.specs.Tasks.{is_better}
use Rattle.flow_certify.specs.declared.acts.Act.{Act}
use Rattle.flow_certify.specs.declared.acts.Act.TheVariants.{Step, Release, PassOver, EndUnlessRaised}
use Rattle.flow_certify.specs.declared.acts.Act.TheVariants.{Upper, Raise, RaiseEarly, NarrowBeam, WideBeam}
use Rattle.flow_certify.specs.declared.acts.Act.TheVariants.{RoundsOfStart, RoundsOfBest, Aim, Halve}
use Rattle.flow_certify.specs.declared.acts.TheConstants.{ACTS, WHOLE}
use Rattle.flow_certify.specs.declared.budgets.Budget.{Budget}
use Rattle.flow_certify.specs.declared.budgets.Budget.TheVariants.{Most}
use Rattle.flow_certify.specs.declared.run.Run.{Run}
use Rattle.flow_certify.specs.declared.run.TheConstants.{NARROW, AIMED_SHARE, MOST_TASKS}
use Rattle.flow_certify.specs.declared.task.Task.{Task}
use Rattle.flow_certify.specs.declared.task.Task.TheVariants.{Search, Beam, Rounds, End}
use Rattle.flow_certify.specs.declared.task.Origin.{Origin}
use Rattle.flow_certify.specs.declared.task.Origin.TheVariants.{Start, Best, Before}
use Rattle.flow_certify.specs.declared.task.Answer.{Answer}
use Rattle.flow_certify.specs.declared.task.Answer.TheVariants.{Proved, Below, Over, Reached}

-- the greatest number of 64 bits, which stands for a threshold that there is not
abbrev pub no_threshold : ℕ
no_threshold = 2 ^ 64 - 1

-- a run at its beginning; where the start has Taillard's lower bound, it begins at the act at which no better sequence
-- is looked for
abbrev pub first_run : Shop → List ℕ → ℕ → Bool → Run
first_run shop start limit is_limited = record {
  lower = end_bound shop [] [];
  upper = span shop start;
  least = taillard_bound shop;
  start = span shop start;
  fund = first_fund shop (span shop start) limit;
  over = 0;
  step_lower = end_bound shop [] [];
  step_upper = span shop start;
  stride = 1;
  top = no_threshold;
  missed = 0;
  tasks = MOST_TASKS;
  step = 1;
  act = if span shop start == taillard_bound shop then WHOLE else 0;
  limited = if is_limited then 1 else 0;
}

-- a search below a threshold: none where it may write nothing, or where the threshold is the makespan of the best
-- sequence and the search below that was over with as great a budget
abbrev pub search_of : Run → Budget → ℕ → Option Task
search_of run budget threshold =
    if granted run.fund budget == 0 || (threshold == run.upper && nat_le (granted run.fund budget) run.over)
    then None else Some (Search threshold (granted run.fund budget))

-- half of the way from the lower bound to the least threshold whose search was over since the act began, or to the
-- number after the upper bound where that is less
abbrev pub half_way : Run → ℕ
half_way run = (min run.top (run.upper + 1) - run.lower) / 2

-- the threshold by which the lower bound is raised, if there is one to try: the stride above it, but no more than half
-- of the way
abbrev pub raised : Run → Option ℕ
raised run = if half_way run == 0 then None else Some (run.lower + min (max run.stride 1) (half_way run))

-- a search that raises the lower bound
abbrev pub raise_of : Run → Budget → Option Task
raise_of run budget = option_and_then (search_of run budget) (raised run)

-- a beam, where it has a width
abbrev pub beam_of : Origin → Option ℕ → ℕ → ℕ → Option Task
beam_of from below width work =
    if width == 0 then None else Some (Beam from (record { below = below; width = width; work = work }))

-- rounds, where there are some, and the best sequence has not Taillard's lower bound
abbrev pub rounds_of : Run → Origin → RunLimits → Option Task
rounds_of run from limits =
    if limits.rounds == 0 || nat_le run.upper run.least then None else Some (Rounds from limits)

-- a beam from the best sequence that is aimed at the threshold after the lower bound, with eight times the width and
-- `AIMED_SHARE` times the steps; none where a beam missed that threshold
abbrev pub aiming_of : Effort → Run → Option Task
aiming_of effort run =
    if nat_lt run.lower run.missed then None
    else beam_of Best (Some (run.lower + 1)) (min (effort.width * 8) most_width)
    (held 64 (beam_steps effort.work * AIMED_SHARE))

-- the greatest threshold that a beam missed, or the one after the lower bound where that is greater
abbrev pub missed_up_to : Run → ℕ
missed_up_to run = max run.missed (run.lower + 1)

-- the threshold half of the way from there to the upper bound, if there is one to aim at
abbrev pub halved : Run → Option ℕ
halved run =
    if (run.upper - missed_up_to run) / 2 == 0 then None
    else Some (missed_up_to run + (run.upper - missed_up_to run) / 2)

-- a beam from the best sequence that is aimed at that threshold, with a quarter of the width and half of the steps
abbrev pub halving_of : Effort → Run → Option Task
halving_of effort run =
    option_and_then (λ threshold. beam_of Best (Some threshold) (effort.width / 4) (beam_steps effort.work / 2))
    (halved run)

-- what an act asks for
abbrev pub asked_of : Effort → Run → Act → Option Task
asked_of effort run (Step step) = None
asked_of effort run Release = None
asked_of effort run (PassOver acts) = None
asked_of effort run EndUnlessRaised = None
asked_of effort run (Upper budget) = search_of run budget run.upper
asked_of effort run (Raise budget) = raise_of run budget
asked_of effort run (RaiseEarly budget) = if run.limited == 0 then None else raise_of run budget
asked_of effort run NarrowBeam = beam_of Start None (min effort.width NARROW) (beam_steps effort.work)
asked_of effort run WideBeam =
    if nat_le effort.width NARROW then None else beam_of Start None effort.width (beam_steps effort.work)
asked_of effort run RoundsOfStart =
    if nat_le run.start run.upper then None else rounds_of run Start (run_from_start effort)
asked_of effort run RoundsOfBest =
    rounds_of run (if nat_lt run.upper run.step_upper then Before else Best) (run_from_beam effort)
asked_of effort run Aim = aiming_of effort run
asked_of effort run Halve = halving_of effort run

-- a place behind all acts
abbrev pub behind_all : ℕ
behind_all = 2 ^ 32 - 1

-- a run in which the act at a place begins: the stride is 1, no search was over, and no beam missed its threshold
abbrev pub begun : ℕ → Run → Run
begun place run = record run { act = held 32 place; stride = 1; top = no_threshold; missed = 0 }

-- a run that has passed an act: a step is noted, with the bounds at its beginning; what was kept is released; so many
-- more are passed over; or all, where the step did not raise the lower bound; any other act changes nothing else
abbrev pub passed : Act → Run → Run
passed (Step step) run =
    record (begun (run.act + 1) run) { step = step; step_lower = run.lower; step_upper = run.upper }
passed Release run = record (begun (run.act + 1) run) { fund = released run.fund }
passed (PassOver acts) run = begun (run.act + 1 + acts) run
passed EndUnlessRaised run = begun (if run.lower == run.step_lower then behind_all else run.act + 1) run
passed _ run = begun (run.act + 1) run

-- the act at hand; none where the best sequence is proved, no task may follow, or all acts are passed
unfoldable pub act_at_hand : Run → Option Act
act_at_hand run =
    if nat_le run.upper run.lower || run.tasks == 0 then None else slice_get ACTS run.act

-- where a run stands when its next task is known, and that task: there is none where no act is at hand; it is what the
-- act at hand asks for; or, where that asks for nothing, what is next in the run that has passed it
-- (law: one_task_is_next)
pub data IsNext (effort : Effort) : Run → Run → Task → Type 0 where
  none : (run : Run) → act_at_hand run ≡ None → IsNext effort run run End
  asked : (run : Run) (act : Act) (task : Task) → act_at_hand run ≡ Some act → asked_of effort run act ≡ Some task →
      IsNext effort run run task
  further : (run after : Run) (act : Act) (task : Task) → act_at_hand run ≡ Some act → asked_of effort run act ≡ None →
      IsNext effort (passed act run) after task → IsNext effort run after task

-- after a search that was not over: its directions are charged, and the next one raises the lower bound twice as far
abbrev pub went_on : ℕ → Run → Run
went_on directions run = record run { fund = charged directions run.fund; stride = held 64 (run.stride * 2) }

-- after a search that was over: its budget is charged, and its threshold noted; the budget too, where the threshold is
-- the upper bound
abbrev pub ran_over : ℕ → ℕ → Run → Run
ran_over threshold budget run = record run {
  fund = charged budget run.fund;
  top = threshold;
  over = if threshold == run.upper then budget else run.over;
}

-- a makespan becomes the upper bound; no search below it was over
abbrev pub improved : ℕ → Run → Run
improved makespan run = record run { upper = makespan; over = 0 }

-- after a beam: one that was aimed at a threshold notes it where no better sequence was found; after any other the next
-- act follows, or, where it was whole, the act at which no better sequence is looked for
abbrev pub beam_made : Option ℕ → Bool → Bool → Run → Run
beam_made None better whole run = record run { act = if whole then WHOLE else held 32 (run.act + 1) }
beam_made (Some threshold) better whole run = if better then run else record run { missed = threshold }

-- a run with the answer to a task
abbrev pub answered : Task → Answer → Run → Run
answered (Search threshold budget) (Proved directions) run =
    record (went_on directions run) { lower = threshold }
answered (Search threshold budget) (Below makespan directions) run = improved makespan (went_on directions run)
answered (Search threshold budget) Over run = ran_over threshold budget run
answered (Beam from limits) (Reached makespan whole) run =
    beam_made limits.below (nat_lt makespan run.upper) whole
    (if nat_lt makespan run.upper then improved makespan run else run)
answered (Rounds from limits) (Reached makespan whole) run =
    record (if is_better run.upper (Rounds from limits) (Reached makespan whole) then improved makespan run else run)
    { act = held 32 (run.act + 1) }
answered _ _ run = run

-- the run after the answer to a task: one task less may follow
abbrev pub run_after : Run → Task → Answer → Run
run_after run task answer = answered task answer (record run { tasks = run.tasks - 1 })

-- in each run one task is next (law: one_task_is_next)
abbrev pub OneTaskIsNext : Type 0
OneTaskIsNext =
    (effort : Effort) (run one other : Run) (task another : Task) →
    IsNext effort run one task → IsNext effort run other another → (one ≡ other) × (task ≡ another)

-- the numbers of the steps that begin among some acts
abbrev pub steps_of : List Act → List ℕ
steps_of [] = []
steps_of (Step step ∷ acts) = step ∷ steps_of acts
steps_of (_ ∷ acts) = steps_of acts

-- the acts begin eight steps, one after the other (law: acts_are_in_order)
abbrev pub StepsAreInOrder : Type 0
StepsAreInOrder = steps_of ACTS ≡ 1 ∷ 2 ∷ 3 ∷ 4 ∷ 5 ∷ 6 ∷ 7 ∷ 8 ∷ []

-- where no better sequence is looked for, what is kept is released, and the search below the upper bound has the
-- greatest budget; a run that comes there act by act passes over both (law: acts_are_in_order)
abbrev pub WholeIsPassedOver : Type 0
WholeIsPassedOver = take 3 (drop (WHOLE - 1) ACTS) ≡ PassOver 2 ∷ Release ∷ Upper Most ∷ []
