-- Why a call refuses what it is lent, and what it reports.
use Rattle.std.specs.Prelude.{ℕ, ◌≡◌, ◌*◌, ◌⊎◌, nat_le, List, [], ◌∷◌, length, Option, Some, None}
use Rattle.std.specs.Option.{option_map}
use Rattle.flow_limits.specs.Limits.{most_width}
use Rattle.flow_shop.specs.Refusals.{fault_unless, first_fault}
use Rattle.flow_shop.specs.Shop.{Shop}
use Rattle.flow_shop.specs.Paths.{span}
use Rattle.flow_shop.specs.InstanceFaults.{instance_fault}
use Rattle.flow_shop.specs.declared.instance.InstanceFault.{InstanceFault}
use Rattle.flow_shop.specs.SequenceFaults.{sequence_fault}
use Rattle.flow_generator.specs.Generator.{generator_fault}
use Rattle.flow_improve.specs.Effort.{effort_fault, run_fault}
use Rattle.flow_improve.specs.Effort as efforts
use Rattle.flow_improve.specs.declared.effort.EffortFault.{EffortFault}
use Rattle.flow_improve.specs.declared.effort.EffortFault.TheVariants.{Width}
use Rattle.flow_search.specs.Choices.{Choices, versioned_fault}
use Rattle.flow_search.specs.Plans.{Planned, plan_fault}
use Rattle.flow_search.specs.Outcomes.{first_over_budget}
use Rattle.flow_search.specs.declared.verdict.RunFault.TheVariants.{OverBudget}
use Rattle.flow_cert.specs.PlanCertificates.{certificate_of}
use Rattle.flow_c.specs.Statuses.{number, done, memory}
use Rattle.flow_c.specs.Places.{place_of}
use Rattle.flow_c.specs.declared.outcome.Outcome.{Outcome}
use Rattle.flow_c.specs.declared.shop.ShopNumbers.{ShopNumbers}
use Rattle.flow_c.specs.declared.effort.EffortNumbers.{EffortNumbers}
use Rattle.flow_c.specs.declared.beam.BeamOptions.{BeamOptions}
use Rattle.flow_c.specs.declared.rounds.RoundsOptions.{RoundsOptions}
use Rattle.flow_c.specs.declared.solve.PlanNumbers.{PlanNumbers}
use Rattle.flow_c.specs.declared.fault.Fault.{Fault}
use Rattle.flow_c.specs.declared.fault.Fault.TheVariants.{Room, Instance, Sequence, Choice, Effort, Plan, Run}

-- the instance of these numbers
abbrev pub shop_of : ShopNumbers → Shop
shop_of numbers = record { jobs = numbers.jobs; machines = numbers.machines; times = numbers.times.now }

-- why numbers are no instance
abbrev pub numbers_fault : ShopNumbers → Option InstanceFault
numbers_fault numbers = instance_fault numbers.jobs numbers.machines numbers.times.now

-- a call answers a fault: the first one of what it was lent; or memory ran out (inner)
abbrev pub IsFaultOf : Option Fault → Fault → Type 0
IsFaultOf first fault = (first ≡ Some fault) ⊎ (number fault ≡ memory)

-- the outcome of a call that is done, which has no place
abbrev pub IsDone : Outcome → Type 0
IsDone outcome = (outcome.status ≡ done) × (outcome.place ≡ 0)

-- that of a call for which memory ran out, which has no place
abbrev pub RanOut : Outcome → Type 0
RanOut outcome = (outcome.status ≡ memory) × (outcome.place ≡ 0)

-- that of a call with a fault
abbrev pub HasFault : Fault → Outcome → Type 0
HasFault fault outcome = (outcome.status ≡ number fault) × (outcome.place ≡ place_of fault)

-- What a call reports that was lent arguments with this first fault: the number of the fault and its place, or that
-- memory ran out. Where there is no fault it reports that it was done, or that memory ran out.
abbrev pub Reports : Option Fault → Outcome → Type 0
Reports (Some fault) outcome = HasFault fault outcome ⊎ RanOut outcome
Reports None outcome = IsDone outcome ⊎ RanOut outcome

-- the fault of a slice for results that has fewer entries than are needed
abbrev pub room_fault : ℕ → ℕ → Option Fault
room_fault needed entries = fault_unless (nat_le needed entries) (Room needed)

-- why numbers are no instance, or jobs no sequence of it
abbrev pub makespan_fault : ShopNumbers → List ℕ → Option Fault
makespan_fault numbers sequence = first_fault (
    option_map Instance (numbers_fault numbers)
    ∷ option_map Sequence (sequence_fault numbers.jobs sequence)
    ∷ [])

-- why numbers are no instance, or why a sequence of it has no room
abbrev pub instance_room_fault : ShopNumbers → ℕ → Option Fault
instance_room_fault numbers entries = first_fault (
    option_map Instance (numbers_fault numbers)
    ∷ room_fault numbers.jobs entries
    ∷ [])

-- why no instance is generated, or why its times have no room
abbrev pub generate_fault : ℕ → ℕ → ℕ → ℕ → Option Fault
generate_fault jobs machines seed entries = first_fault (
    option_map Instance (generator_fault jobs machines seed)
    ∷ room_fault (jobs * machines) entries
    ∷ [])

-- why there is no timetable: the numbers are no instance, the jobs no sequence of it, or the starts or the ends have no
-- room
abbrev pub timetable_fault : ShopNumbers → List ℕ → ℕ → ℕ → Option Fault
timetable_fault numbers sequence starts ends = first_fault (
    makespan_fault numbers sequence
    ∷ room_fault (numbers.jobs * numbers.machines) starts
    ∷ room_fault (numbers.jobs * numbers.machines) ends
    ∷ [])

-- the effort of these numbers
abbrev pub effort_of : EffortNumbers → efforts.Effort
effort_of effort =
    record { width = effort.width; rounds = effort.rounds; seed = effort.seed; work = effort.work }

-- why the numbers of an improvement are refused
abbrev pub fault_of_effort : EffortNumbers → Option EffortFault
fault_of_effort effort = effort_fault effort.width effort.rounds effort.seed effort.work

-- why nothing is improved: the numbers are no instance, the jobs no sequence of it, the other numbers not within their
-- limits, or a sequence has no room
abbrev pub improve_fault : ShopNumbers → List ℕ → EffortNumbers → ℕ → Option Fault
improve_fault numbers start effort entries = first_fault (
    makespan_fault numbers start
    ∷ option_map Effort (fault_of_effort effort)
    ∷ room_fault numbers.jobs entries
    ∷ [])

-- why no beam search is made: the numbers are no instance, the jobs no sequence of it, the width is above its limit, or
-- a sequence has no room
abbrev pub beam_fault : ShopNumbers → List ℕ → BeamOptions → ℕ → Option Fault
beam_fault numbers start options entries = first_fault (
    makespan_fault numbers start
    ∷ fault_unless (nat_le options.width most_width) (Effort Width)
    ∷ room_fault numbers.jobs entries
    ∷ [])

-- why no rounds are made: the numbers are no instance, the jobs no sequence of it, rounds or seed not within their
-- limits, or a sequence has no room
abbrev pub rounds_fault : ShopNumbers → List ℕ → RoundsOptions → ℕ → Option Fault
rounds_fault numbers start options entries = first_fault (
    makespan_fault numbers start
    ∷ option_map Effort (run_fault options.rounds options.seed)
    ∷ room_fault numbers.jobs entries
    ∷ [])

-- the options of a run on one thread
abbrev pub options_of : PlanNumbers → Choices
options_of plan = record { workers = 1; depth = plan.depth; budget = plan.budget; version = plan.version }

-- the plan of an instance, from a sequence of it
abbrev pub plan_of : Shop → List ℕ → Choices → Planned
plan_of shop start options =
    record { shop = shop; start = record { value = span shop start; sequence = start }; options = options }

-- why numbers are no options
abbrev pub choice_fault : PlanNumbers → Option Fault
choice_fault plan = option_map Choice (versioned_fault 1 plan.depth plan.budget plan.version)

-- why a plan has no certificate within its budget: the first prefix whose tree is too long
abbrev pub budget_fault : Planned → Option Fault
budget_fault plan = option_map (λ prefix. Run (OverBudget prefix)) (first_over_budget plan)

-- why a plan is not solved, or why its certificate has no room
abbrev pub solve_fault : Planned → ℕ → Option Fault
solve_fault plan bytes = first_fault (
    budget_fault plan
    ∷ room_fault (length (certificate_of plan)) bytes
    ∷ [])

-- why there is no plan, or why a sequence of its instance has no room
abbrev pub planning_fault : Shop → Choices → ℕ → Option Fault
planning_fault shop options entries = first_fault (
    option_map Plan (plan_fault shop options)
    ∷ room_fault shop.jobs entries
    ∷ [])

-- why no certificate is written: the numbers are no instance, the jobs no sequence, the numbers no options, there is no
-- plan, a sequence has no room, a tree is longer than the budget, or the certificate has no room
abbrev pub certificate_fault : ShopNumbers → List ℕ → PlanNumbers → ℕ → ℕ → Option Fault
certificate_fault numbers start plan entries bytes = first_fault (
    makespan_fault numbers start
    ∷ choice_fault plan
    ∷ planning_fault (shop_of numbers) (options_of plan) entries
    ∷ solve_fault (plan_of (shop_of numbers) start (options_of plan)) bytes
    ∷ [])
