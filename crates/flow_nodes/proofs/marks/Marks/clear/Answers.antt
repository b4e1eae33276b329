use Rattle.std.proofs.Common.{rules, ◌≡◌, ◌/◌, ◌<◌, length, arith}
use Rattle.flow_nodes.specs.Groups.{most_groups}
use Rattle.flow_nodes.proofs.MarkSteps.{cleared-same, cleared-others, chosen-parted}
use Rattle.flow_nodes.proofs.marks.Marks.clear.Goals as goal

pub returns-clause-same : goal.returns-clause-same
returns-clause-same c =
    let size : length c.args.self.now.words ≡ most_groups = search rules in
    cleared-same c.args.self.now.words c.args.place (omega (arith, size, c.requires))

pub returns-clause-others : goal.returns-clause-others
returns-clause-others c other apart =
    let size : length c.args.self.now.words ≡ most_groups = search rules in
    cleared-others c.args.self.now.words c.args.place (omega (arith, size, c.requires)) other apart

pub returns-clause-parted : goal.returns-clause-parted
returns-clause-parted c names inside marked =
    let words = c.args.self.now.words in
    let size : length words ≡ most_groups = search rules in
    let within : c.args.place / 16 < length words = omega (arith, size, c.requires) in
    chosen-parted words _ c.args.place marked (cleared-same words c.args.place within)
    (cleared-others words c.args.place within) names inside
