use Rattle.std.proofs.Common.{rules, ◌≡◌, [], None}
use Rattle.flow_directions.specs.Search.{first_below}
use Rattle.flow_certify.proofs.Shown.{shows-bound}
use Rattle.flow_certify.proofs.bounds.certify.Goals as goal

pub returns-clause-proved : goal.returns-clause-proved
returns-clause-proved g c =
    let none : first_below c.args.instance.now c.tasks-test.kept.run.lower [] [] ≡ None = search rules in
    shows-bound c.args.instance.now c.tasks-test.kept.run.lower none
