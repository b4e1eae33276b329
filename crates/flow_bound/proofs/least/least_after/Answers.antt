use Rattle.std.proofs.Common.{◌≡◌, ◌≢◌, ◌*◌, ◌≤◌, ◌∙◌, arith}
use Rattle.flow_limits.specs.Limits.{most_machines, greatest_time}
use Rattle.flow_shop.specs.Shop.{time_between}
use Rattle.flow_shop.specs.JobSet.{members}
use Rattle.flow_shop.proofs.Times.{times-small}
use Rattle.flow_bound.specs.Loads.{least_between}
use Rattle.flow_bound.proofs.Rests.{least-left}
use Rattle.flow_bound.proofs.least.least_after.Goals as goal
use Rattle.flow_bound.proofs.least.least_after.Goals.{After-machines}

-- the least with the job, and the new one
here : (c : After-machines) →
    (c.args.least ≤ least_between c.args.instance.now (members c.args.after.now) c.args.first c.args.last)
    × (c.args.own ≢ c.args.least →
    c.args.least ≡ least_between c.args.instance.now (members c.args.after.now) c.args.first c.args.last)
here c =
    let shop = c.args.instance.now in
    let first = c.args.first in
    let last = c.args.last in
    let (job, low, high, out, own, is) = c.requires.left in
    let both = least-left 4294967295 (most_machines * greatest_time) (λ job. time_between shop job first last)
    c.args.after.now shop.jobs job c.args.least
    (λ job. times-small shop job first last c.requires.from c.requires.to c.machines.ensures.limits)
    (omega arith) low high c.requires.jobs out c.requires.some is in
    (both.0, λ other. both.1 (λ same. other (own ∙ same)))

pub least_between-requires-clause-floor : goal.least_between-requires-clause-floor
least_between-requires-clause-floor c = (here (goal.at.least_between-requires-clause-floor c).After-machines).0

pub returns-else-own-least : goal.returns-else-own-least
returns-else-own-least c = (here (goal.at.returns-else-own-least c).After-machines).1 c.if-own-least.false
