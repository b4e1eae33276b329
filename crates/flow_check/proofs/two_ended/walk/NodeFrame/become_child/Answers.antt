use Rattle.std.proofs.Common.{◌∷◌, ◌++◌, ap, sym, ◌∙◌}
use Rattle.flow_nodes.proofs.LeftSteps.{left-parted}
use Rattle.flow_check.proofs.two_ended.walk.NodeFrame.become_child.Goals as goal

pub returns-clause-left : goal.returns-clause-left
returns-clause-left g c first last names job left is fresh within named marked =
    let parts = c.clear.ensures.parted names within marked in
    parts.3 ∙ sym (left-parted c.args.instance.now.jobs c.args.frame.now.end first last job parts.0 parts.1
    is.0 is.1 fresh (sym left ∙ parts.2 ∙ ap (λ j. parts.0 ++ j ∷ parts.1) named))
