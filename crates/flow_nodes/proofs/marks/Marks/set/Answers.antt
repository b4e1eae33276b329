use Rattle.std.proofs.Common.{rules, ◌≡◌, length, arith}
use Rattle.flow_nodes.specs.Groups.{most_groups}
use Rattle.flow_nodes.proofs.MarkSteps.{set-same, set-others}
use Rattle.flow_nodes.proofs.marks.Marks.set.Goals as goal

pub returns-clause-same : goal.returns-clause-same
returns-clause-same c =
    let size : length c.args.self.now.words ≡ most_groups = search rules in
    set-same c.args.self.now.words c.args.place (omega (arith, size, c.requires))

pub returns-clause-others : goal.returns-clause-others
returns-clause-others c other apart =
    let size : length c.args.self.now.words ≡ most_groups = search rules in
    set-others c.args.self.now.words c.args.place (omega (arith, size, c.requires)) other apart
