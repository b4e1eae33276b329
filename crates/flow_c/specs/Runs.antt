-- Runs of `certify`, task by task, as numbers: what is asked for, and what an answer changes. Which task is next, and
-- what the run is after an answer, flow_certify says.
use Rattle.std.specs.Prelude.{ℕ, ◌≡◌, ◌&&◌, Bool, false, cond, nat_eq, not, Option, Some, None, ◌∷◌, [], List}
use Rattle.std.specs.Option.{option_map}
use Rattle.flow_shop.specs.Refusals.{first_fault}
use Rattle.flow_certify.specs.Schedule.{IsNext, run_after}
use Rattle.flow_certify.specs.Signs.{most_counted}
use Rattle.flow_certify.specs.Tasks.{HasSameBounds, IsAnswered, IsAsked, may_ask, may_become}
use Rattle.flow_certify.specs.declared.run.Run.{Run}
use Rattle.flow_certify.specs.declared.task.Task.{Task}
use Rattle.flow_certify.specs.declared.task.Task.TheVariants as task
use Rattle.flow_certify.specs.declared.task.Origin.{Origin}
use Rattle.flow_certify.specs.declared.task.Origin.TheVariants.{Start, Best, Before}
use Rattle.flow_certify.specs.declared.task.Answer.{Answer}
use Rattle.flow_certify.specs.declared.task.Answer.TheVariants.{Proved, Below, Over, Reached}
use Rattle.flow_c.specs.Certify.{directions_fault}
use Rattle.flow_c.specs.Faults.{effort_of, makespan_fault}
use Rattle.flow_improve.specs.Effort as effort
use Rattle.flow_improve.specs.declared.effort.EffortFault.{EffortFault}
use Rattle.flow_improve.specs.declared.effort.RunLimits.{RunLimits}
use Rattle.flow_improve.specs.declared.two_ended.BeamLimits.{BeamLimits}
use Rattle.flow_c.specs.declared.fault.Fault.{Fault}
use Rattle.flow_c.specs.declared.effort.EffortNumbers.{EffortNumbers}
use Rattle.flow_c.specs.declared.run.TaskNumbers.{TaskNumbers}
use Rattle.flow_c.specs.declared.run.AnswerNumbers.{AnswerNumbers}
use Rattle.flow_c.specs.declared.shop.ShopNumbers.{ShopNumbers}

-- why there is no run: the numbers are no instance, the jobs no sequence of it, or the directions not within their
-- limits
abbrev pub run_fault : ShopNumbers → List ℕ → ℕ → Option Fault
run_fault numbers start directions = first_fault (
    makespan_fault numbers start
    ∷ directions_fault most_counted directions
    ∷ [])

-- the number of the sequence from which a beam or rounds begin
abbrev pub origin_number : Origin → ℕ
origin_number Start = 0
origin_number Best = 1
origin_number Before = 2

-- the number at which a beam is aimed, which is 0 where there is none
abbrev pub aim_number : Option ℕ → ℕ
aim_number None = 0
aim_number (Some number) = number

-- a task as numbers; those that it has not are 0
abbrev pub task_numbers : Task → TaskNumbers
task_numbers task.End = record {
  kind = 0;
  from = 0;
  number = 0;
  budget = 0;
  beam = record { number = 0; width = 0; steps = 0 };
  rounds = record { rounds = 0; seed = 0; steps = 0 };
}
task_numbers (task.Search threshold budget) = record {
  kind = 1;
  from = 0;
  number = threshold;
  budget = budget;
  beam = record { number = 0; width = 0; steps = 0 };
  rounds = record { rounds = 0; seed = 0; steps = 0 };
}
task_numbers (task.Beam from limits) = record {
  kind = 2;
  from = origin_number from;
  number = 0;
  budget = 0;
  beam = record { number = aim_number limits.below; width = limits.width; steps = limits.work };
  rounds = record { rounds = 0; seed = 0; steps = 0 };
}
task_numbers (task.Rounds from limits) = record {
  kind = 3;
  from = origin_number from;
  number = 0;
  budget = 0;
  beam = record { number = 0; width = 0; steps = 0 };
  rounds = record { rounds = limits.rounds; seed = limits.seed; steps = limits.work };
}

-- what became of a task, as numbers say it
abbrev pub answer_of : AnswerNumbers → Option Answer
answer_of answer =
    cond (nat_eq answer.found 1) (Some (Proved answer.directions))
    (cond (nat_eq answer.found 2) (Some (Below answer.makespan answer.directions))
    (cond (nat_eq answer.found 3) (Some Over)
    (cond (nat_eq answer.found 4) (Some (Reached answer.makespan (not (nat_eq answer.whole 0)))) None)))

-- what a run asks for with an effort: the task that is next, which it may ask for, as numbers
pub record AsksFor (effort : EffortNumbers) (old new : Run) (numbers : TaskNumbers) : Type 0 where
  pub next : (task : Task) × IsNext (effort_of effort) old new task × IsAsked new task × (numbers ≡ task_numbers task)
  pub bounds : HasSameBounds old new
  pub tasks : new.tasks ≡ old.tasks

-- the sequence of a number, from which a beam or rounds begin
abbrev pub origin_of : ℕ → Option Origin
origin_of number =
    cond (nat_eq number 0) (Some Start)
    (cond (nat_eq number 1) (Some Best) (cond (nat_eq number 2) (Some Before) None))

-- how far a beam goes, as numbers say it
abbrev pub beam_of : TaskNumbers → BeamLimits
beam_of numbers = record {
  below = cond (nat_eq numbers.beam.number 0) None (Some numbers.beam.number);
  width = numbers.beam.width;
  work = numbers.beam.steps;
}

-- when rounds end, as numbers say it, where these have no fault
abbrev pub rounds_of : Option EffortFault → TaskNumbers → Option RunLimits
rounds_of None numbers = Some (record {
  rounds = numbers.rounds.rounds;
  seed = numbers.rounds.seed;
  work = numbers.rounds.steps;
})
rounds_of (Some fault) numbers = None

-- rounds from a sequence, where there are both
abbrev pub rounds_from : Option Origin → Option RunLimits → Option Task
rounds_from None limits = None
rounds_from (Some from) None = None
rounds_from (Some from) (Some limits) = Some (task.Rounds from limits)

-- the task that numbers say, where it is one that is to be answered
abbrev pub task_of : TaskNumbers → Option Task
task_of numbers =
    cond (nat_eq numbers.kind 1) (Some (task.Search numbers.number numbers.budget))
    (cond (nat_eq numbers.kind 2)
    (option_map (λ from. task.Beam from (beam_of numbers)) (origin_of numbers.from))
    (cond (nat_eq numbers.kind 3)
    (rounds_from (origin_of numbers.from)
    (rounds_of (effort.run_fault numbers.rounds.rounds numbers.rounds.seed) numbers))
    None))

-- whether an answer to a task is taken: there are both, the run may ask for the task, and this may become of it
abbrev pub is_taken : Run → Option Task → Option Answer → Bool
is_taken run None answer = false
is_taken run (Some asked) None = false
is_taken run (Some asked) (Some answer) = may_ask run asked && may_become asked answer

-- the run after an answer to a task, and whether the sequence of the answer becomes the best one
abbrev pub IsPut : Run → Run → Option Task → Option Answer → Bool → Type 0
IsPut old new None answer better = ⊥
IsPut old new (Some asked) None better = ⊥
IsPut old new (Some asked) (Some answer) better =
    (new ≡ run_after old asked answer) × IsAnswered old new asked answer better
