use Rattle.std.proofs.Common.{ℕ, ◌∷◌, ◌++◌, sym, ap, ap₂, ◌∙◌}
use Rattle.std.specs.Fmt.{decimal}
use Rattle.flow_check.specs.declared.bounds.Bounds.{Bounds}
use Rattle.flow_check.proofs.SizeLine.{first-bound, bounds-parts}
use Rattle.flow_check.proofs.four_lines.read_bounds.Goals as goal

pub returns-in_err-lower-clause-only : goal.returns-in_err-lower-clause-only
returns-in_err-lower-clause-only c bounds rest h =
    absurd (c.in_err-lower.ensures.only bounds.lower (decimal bounds.upper ++ 10 ∷ rest)
    (first-bound c.args.text.now rest bounds h))

pub returns-in_err-upper-clause-only : goal.returns-in_err-upper-clause-only
returns-in_err-upper-clause-only c bounds rest h =
    let first = c.in_ok-lower.ensures.only bounds.lower (decimal bounds.upper ++ 10 ∷ rest)
    (first-bound c.args.text.now rest bounds h) in
    absurd (c.in_err-upper.ensures.only bounds.upper rest (h.0.1, first.1))

pub returns-clause-found : goal.returns-clause-found
returns-clause-found c = (
  (c.in_ok-lower.ensures.found.0, c.in_ok-upper.ensures.found.0),
  c.in_ok-lower.ensures.found.1 ∙ ap (λ t. decimal c.in_ok-lower.lower ++ 32 ∷ t) c.in_ok-upper.ensures.found.1
      ∙ sym (bounds-parts c.in_ok-lower.lower c.in_ok-upper.upper c.in_ok-upper.rest.now),
)

abbrev between : ℕ → ℕ → Bounds
between lower upper = record { lower = lower; upper = upper }

pub returns-clause-only : goal.returns-clause-only
returns-clause-only c bounds rest h =
    let first = c.in_ok-lower.ensures.only bounds.lower (decimal bounds.upper ++ 10 ∷ rest)
    (first-bound c.args.text.now rest bounds h) in
    let second = c.in_ok-upper.ensures.only bounds.upper rest (h.0.1, first.1) in
    (ap₂ between first.0 second.0, second.1)
