-- The parts of a text as they are written.
use Rattle.std.specs.Prelude.{ℕ, List, [], ◌∷◌}
use Rattle.flow_search.specs.Plans.{Planned}
use Rattle.flow_search.specs.declared.verdict.Verdict.{Verdict}
use Rattle.flow_check.specs.TextLines.{line, spaced, heading}
use Rattle.flow_check.specs.declared.bounds.Bounds.{Bounds}

-- the line of a plan's sizes
abbrev pub size_line : Planned → List ℕ
size_line plan = line (spaced (plan.shop.jobs ∷ plan.shop.machines ∷ plan.options.depth ∷ []))

-- the lines of a certificate before its trees, of a plan with a verdict
abbrev pub heading_with : Planned → Verdict → List ℕ
heading_with plan verdict =
    heading plan.shop plan.options.version plan.options.depth verdict.value verdict.sequence

-- the third line of a two-ended or a counted certificate
abbrev pub bounds_line : Bounds → List ℕ
bounds_line bounds = line (spaced (bounds.lower ∷ bounds.upper ∷ []))
