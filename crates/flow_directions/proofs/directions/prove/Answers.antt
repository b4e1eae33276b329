use Rattle.std.proofs.Common.{length, subst}
use Rattle.flow_directions.specs.Search.{IsAdvanced}
use Rattle.flow_directions.specs.declared.found.Found.TheVariants.{Proved, Below}
use Rattle.flow_directions.proofs.FoundSteps.{found-shows}
use Rattle.flow_directions.proofs.directions.prove.Goals as goal

pub returns-in-Proved-clause-shown : goal.returns-in-Proved-clause-shown
returns-in-Proved-clause-shown c =
    found-shows c.args.instance.now c.args.threshold c.args.budget c.args.first.now c.args.last.now
    (Proved c.in-Proved.directions) c.in_ok-directions.ensures.jobs
    (subst (IsAdvanced c.args.instance.now c.args.threshold c.args.budget c.args.first.now c.args.last.now) c.in-Proved.is
    c.in_ok-directions.ensures.advanced)

pub returns-in-Below-clause-shown : goal.returns-in-Below-clause-shown
returns-in-Below-clause-shown c =
    let is = subst (IsAdvanced c.args.instance.now c.args.threshold c.args.budget c.args.first.now c.args.last.now)
    c.in-Below.is c.in_ok-directions.ensures.advanced in
    found-shows c.args.instance.now c.args.threshold c.args.budget c.args.first.now c.args.last.now
    (Below c.in-Below.sequence c.in-Below.makespan (length c.in-Below.directions.items))
    c.in_ok-directions.ensures.jobs is.0
