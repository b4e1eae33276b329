-- A run has one task that is next.
use Rattle.std.proofs.Common.{◌≡◌, Some, None, refl, subst}
use Rattle.flow_improve.specs.Effort.{Effort}
use Rattle.flow_certify.specs.Schedule.{IsNext, act_at_hand, asked_of, passed}
use Rattle.flow_certify.specs.Schedule.{none, asked, further}
use Rattle.flow_certify.specs.declared.acts.Act.{Act}
use Rattle.flow_certify.specs.declared.run.Run.{Run}
use Rattle.flow_certify.specs.declared.task.Task.{Task}
use Rattle.flow_certify.specs.declared.task.Task.TheVariants.{End}

-- where no act is at hand
at-end : (effort : Effort) {run after : Run} {task : Task} → IsNext effort run after task →
    act_at_hand run ≡ None → (run ≡ after) × (End ≡ task)
at-end effort (none run end) left = (refl, refl)
at-end effort (asked run act task hand asks) left = cc
at-end effort (further run after act task hand asks more) left = cc

-- where the act at hand asks for a task
at-asked : (effort : Effort) {run after : Run} {task : Task} → IsNext effort run after task →
    (act : Act) (wanted : Task) → act_at_hand run ≡ Some act → asked_of effort run act ≡ Some wanted →
    (run ≡ after) × (wanted ≡ task)
at-asked effort (none run end) act wanted at is = cc
at-asked effort (asked run other task hand asks) act wanted at is =
    let same : other ≡ act = cc in
    let found : asked_of effort run act ≡ Some task = subst (λ a. asked_of effort run a ≡ Some task) same asks in
    (refl, cc)
at-asked effort (further run after other task hand asks more) act wanted at is =
    let same : other ≡ act = cc in
    let found : asked_of effort run act ≡ None = subst (λ a. asked_of effort run a ≡ None) same asks in
    cc

-- where it asks for nothing
at-passed : (effort : Effort) {run after : Run} {task : Task} → IsNext effort run after task →
    (act : Act) → act_at_hand run ≡ Some act → asked_of effort run act ≡ None →
    IsNext effort (passed act run) after task
at-passed effort (none run end) act at is = cc
at-passed effort (asked run other task hand asks) act at is =
    let same : other ≡ act = cc in
    let found : asked_of effort run act ≡ Some task = subst (λ a. asked_of effort run a ≡ Some task) same asks in
    cc
at-passed effort (further run after other task hand asks more) act at is =
    let same : other ≡ act = cc in
    subst (λ a. IsNext effort (passed a run) after task) same more

next-is-one : (effort : Effort) {run one : Run} {task : Task} → IsNext effort run one task →
    (other : Run) (another : Task) → IsNext effort run other another → (one ≡ other) × (task ≡ another)
next-is-one effort (none run end) other another next = at-end effort next end
next-is-one effort (asked run act task hand asks) other another next = at-asked effort next act task hand asks
next-is-one effort (further run after act task hand asks more) other another next =
    next-is-one effort more other another (at-passed effort next act hand asks)

-- two that are next in a run are one
pub one-next : (effort : Effort) (run one other : Run) (task another : Task) → IsNext effort run one task →
    IsNext effort run other another → (one ≡ other) × (task ≡ another)
one-next effort run one other task another first second = next-is-one effort first other another second
