use Rattle.std.proofs.Common.{◌∷◌, ◌++◌, ◌∙◌}
use Rattle.std.specs.Fmt.{decimal}
use Rattle.flow_check.proofs.SizeLine.{size-parts, depth-fits}
use Rattle.flow_check.proofs.heading.read_size.Goals as goal

pub returns-in_err-depth_text-clause-only : goal.returns-in_err-depth_text-clause-only
returns-in_err-depth_text-clause-only c depth rest h =
    absurd (c.in_err-depth_text.ensures.only (decimal depth ++ 10 ∷ rest)
    (h.2 ∙ size-parts c.args.jobs c.args.machines depth rest))

pub returns-in_err-depth-clause-only : goal.returns-in_err-depth-clause-only
returns-in_err-depth-clause-only c depth rest h =
    let behind = c.in_ok-depth_text.ensures.only (decimal depth ++ 10 ∷ rest)
    (h.2 ∙ size-parts c.args.jobs c.args.machines depth rest) in
    absurd (c.in_err-depth.ensures.only depth rest (depth-fits depth h.1, behind))

pub returns-clause-only : goal.returns-clause-only
returns-clause-only c depth rest h =
    let behind = c.in_ok-depth_text.ensures.only (decimal depth ++ 10 ∷ rest)
    (h.2 ∙ size-parts c.args.jobs c.args.machines depth rest) in
    c.in_ok-depth.ensures.only depth rest (depth-fits depth h.1, behind)
