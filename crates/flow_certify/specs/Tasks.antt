-- What a run of `certify` asks for, and what an answer changes.
use Rattle.std.specs.Prelude.{ℕ, ◌≡◌, ◌<◌, ◌≤◌, ◌-◌, ◌⊎◌, ◌&&◌, Bool, true, false, cond, nat_lt, nat_le, length}
use Rattle.flow_certify.specs.declared.acts.TheConstants.{ACTS}
use Rattle.flow_certify.specs.declared.run.Run.{Run}
use Rattle.flow_certify.specs.declared.task.Task.{Task}
use Rattle.flow_certify.specs.declared.task.Task.TheVariants.{Search, Beam, Rounds, End}
use Rattle.flow_certify.specs.declared.task.Origin.TheVariants.{Start, Best, Before}
use Rattle.flow_certify.specs.declared.task.Answer.{Answer}
use Rattle.flow_certify.specs.declared.task.Answer.TheVariants.{Proved, Below, Over, Reached}

-- how many acts a run has
abbrev pub acts : ℕ
acts = length ACTS

-- what a run may ask for: a search below a threshold above its lower bound, up to its upper one, that writes at least
-- one direction, and no more than its greatest budget and than are left; a beam; rounds; or nothing, where its best
-- sequence is proved, it has made its acts, or no task more may follow
abbrev pub IsAsked : Run → Task → Type 0
IsAsked run (Search threshold budget) =
    (run.lower < threshold) × (threshold ≤ run.upper) × (0 < budget) × (budget ≤ run.fund.most)
    × (budget ≤ run.fund.left)
IsAsked run (Beam from limits) = run.lower < run.upper
IsAsked run (Rounds from limits) = run.lower < run.upper
IsAsked run End = (run.upper ≤ run.lower) ⊎ (acts ≤ run.act) ⊎ (run.tasks ≡ 0)

-- whether an answer to a task is taken, as far as its bounds tell: of a search above the lower bound, up to the upper
-- one, within the greatest budget; of a beam or of rounds
abbrev pub may_ask : Run → Task → Bool
may_ask run (Search threshold budget) =
    nat_lt run.lower threshold && nat_le threshold run.upper && nat_le budget run.fund.most
may_ask run (Beam from limits) = true
may_ask run (Rounds from limits) = true
may_ask run End = false

-- two runs have the same bounds, and the same greatest budget
pub record HasSameBounds (before after : Run) : Type 0 where
  pub lower : after.lower ≡ before.lower
  pub upper : after.upper ≡ before.upper
  pub most : after.fund.most ≡ before.fund.most

-- whether this may become of a task: within its budget a proof, or a sequence below its threshold, of a search; or that
-- the search was over; a sequence of a beam or of rounds
abbrev pub may_become : Task → Answer → Bool
may_become (Search threshold budget) (Proved directions) = nat_le directions budget
may_become (Search threshold budget) (Below makespan directions) =
    nat_lt makespan threshold && nat_le directions budget
may_become (Search threshold budget) Over = true
may_become (Search threshold budget) (Reached makespan whole) = false
may_become (Beam from limits) (Proved directions) = false
may_become (Beam from limits) (Below makespan directions) = false
may_become (Beam from limits) Over = false
may_become (Beam from limits) (Reached makespan whole) = true
may_become (Rounds from limits) (Proved directions) = false
may_become (Rounds from limits) (Below makespan directions) = false
may_become (Rounds from limits) Over = false
may_become (Rounds from limits) (Reached makespan whole) = true
may_become End answer = false

-- the lower bound after an answer: the threshold, where that is proved
abbrev pub lower_after : ℕ → Task → Answer → ℕ
lower_after lower (Search threshold budget) (Proved directions) = threshold
lower_after lower (Search threshold budget) (Below makespan directions) = lower
lower_after lower (Search threshold budget) Over = lower
lower_after lower (Search threshold budget) (Reached makespan whole) = lower
lower_after lower (Beam from limits) answer = lower
lower_after lower (Rounds from limits) answer = lower
lower_after lower End answer = lower

-- the makespan of the sequence of an answer, which is 0 where it has none
abbrev pub makespan_of : Answer → ℕ
makespan_of (Proved directions) = 0
makespan_of (Below makespan directions) = makespan
makespan_of Over = 0
makespan_of (Reached makespan whole) = makespan

-- whether the sequence of an answer becomes the best one: it does where its makespan is smaller, and that of rounds
-- from the one before the best also where it is the same
abbrev pub is_better : ℕ → Task → Answer → Bool
is_better upper (Search threshold budget) (Proved directions) = false
is_better upper (Search threshold budget) (Below makespan directions) = true
is_better upper (Search threshold budget) Over = false
is_better upper (Search threshold budget) (Reached makespan whole) = false
is_better upper (Beam from limits) (Proved directions) = false
is_better upper (Beam from limits) (Below makespan directions) = false
is_better upper (Beam from limits) Over = false
is_better upper (Beam from limits) (Reached makespan whole) = nat_lt makespan upper
is_better upper (Rounds from limits) (Proved directions) = false
is_better upper (Rounds from limits) (Below makespan directions) = false
is_better upper (Rounds from limits) Over = false
is_better upper (Rounds Start limits) (Reached makespan whole) = nat_lt makespan upper
is_better upper (Rounds Best limits) (Reached makespan whole) = nat_lt makespan upper
is_better upper (Rounds Before limits) (Reached makespan whole) = nat_le makespan upper
is_better upper End answer = false

-- after an answer to a task: the bounds are those that it shows, the greatest budget is the same, and one task less may
-- follow; `better` says whether its sequence becomes the best one
pub record IsAnswered (before after : Run) (task : Task) (answer : Answer) (better : Bool) : Type 0 where
  pub taken : better ≡ is_better before.upper task answer
  pub lower : after.lower ≡ lower_after before.lower task answer
  pub upper : after.upper ≡ cond better (makespan_of answer) before.upper
  pub most : after.fund.most ≡ before.fund.most
  pub tasks : after.tasks ≡ before.tasks - 1
