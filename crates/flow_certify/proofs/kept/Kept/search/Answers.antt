use Rattle.std.proofs.Common.{rules, arith}
use Rattle.std.proofs.lemmas.Grind.{common_steps}
use Rattle.flow_certify.proofs.Shown.{shows-below}
use Rattle.flow_certify.proofs.kept.Kept.search.Goals as goal

pub answered-requires-in-Below : goal.answered-requires-in-Below
answered-requires-in-Below g c =
    let below = shows-below c.args.shared.now.instance.now c.args.threshold c.args.budget c.in-Below.sequence
    c.in-Below.makespan c.in-Below.directions (search rules) in
    grind (arith, common_steps)

pub returns-in-Below-clause-later : goal.returns-in-Below-clause-later
returns-in-Below-clause-later g c =
    let below = shows-below c.args.shared.now.instance.now c.args.threshold c.args.budget c.in-Below.sequence
    c.in-Below.makespan c.in-Below.directions (search rules) in
    search rules
