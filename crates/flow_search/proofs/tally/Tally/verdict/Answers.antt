use Rattle.std.proofs.Common.{◌≡◌, ap, ap₂, sym, ◌∙◌, unwrap_or}
use Rattle.std.specs.Option.{option_map}
use Rattle.flow_search.specs.Search.{Solution}
use Rattle.flow_search.specs.Outcomes.{solution_of}
use Rattle.flow_search.proofs.OnePlan.{solution_with}
use Rattle.flow_search.proofs.Tallies.{tally-verdict, verdict-least}
use Rattle.flow_search.proofs.tally.Tally.verdict.Goals as goal

pub returns-in-Some-clause-verdict : goal.returns-in-Some-clause-verdict
returns-in-Some-clause-verdict c =
    tally-verdict c.args.plan.now c.args.self (solution_of c.in-Some.field-0) c.requires
    (sym (ap (λ o. unwrap_or (option_map solution_of o) c.args.plan.now.start) c.in-Some.is))

pub returns-in-Some-clause-least : goal.returns-in-Some-clause-least
returns-in-Some-clause-least c =
    verdict-least c.args.plan.now _ c.start-start.ensures.plan (returns-in-Some-clause-verdict c)

pub returns-clause-verdict : goal.returns-clause-verdict
returns-clause-verdict c =
    let start : Solution = solution_with c.start_value.result c.in_ok-of_known.field-0 in
    let same : start ≡ c.args.plan.now.start =
    ap₂ solution_with c.start_value.ensures.value
    (c.in_ok-of_known.ensures ∙ (c.jobs.ensures.value ∙ c.start-start.ensures.value)) in
    tally-verdict c.args.plan.now c.args.self start c.requires
    (same ∙ sym (ap (λ o. unwrap_or (option_map solution_of o) c.args.plan.now.start) c.in_default.is))

pub returns-clause-least : goal.returns-clause-least
returns-clause-least c =
    verdict-least c.args.plan.now _ c.start-start.ensures.plan (returns-clause-verdict c)
