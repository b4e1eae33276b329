use Rattle.std.proofs.Common.{◌++◌, List, ℕ, [], ◌∷◌, decimal}
use Rattle.std.proofs.lemmas.Result.{on_ok_weaker, on_err_weaker}
use Rattle.flow_search.specs.Plans.{Planned}
use Rattle.flow_search.specs.declared.verdict.Verdict.{Verdict}
use Rattle.flow_check.specs.TextLines.{line, spaced, title}
use Rattle.flow_cert.specs.internal.Gathered.{HandsOn}
use Rattle.flow_cert.specs.internal.HeadingText.{size_line}
use Rattle.flow_cert.proofs.HandedOn.{on-err, then-hands, then-stops, stops-early}
use Rattle.flow_cert.proofs.certificate.add_heading.Goals as goal
use Rattle.flow_cert.proofs.certificate.add_heading.Goals.{In_ok-add_value}

-- the lines up to the sizes, and up to the value
abbrev to_sizes : Planned → List ℕ
to_sizes plan = line (title plan.options.version) ++ size_line plan

abbrev to_value : Planned → Verdict → List ℕ
to_value plan verdict = to_sizes plan ++ line (decimal verdict.value)

-- the lines after the sizes
abbrev behind_sizes : Verdict → List (List ℕ)
behind_sizes verdict = line (decimal verdict.value) ∷ line (spaced verdict.sequence) ∷ []

pub returns-in_err-add_title-clause-err : goal.returns-in_err-add_title-clause-err
returns-in_err-add_title-clause-err g c =
    let plan : Planned = c.args.plan.now in
    let verdict : Verdict = c.args.verdict.now in
    on-err c.from_residual.result
    (stops-early _ _ c.args.gathered.now (line (title plan.options.version)) (size_line plan ∷ behind_sizes verdict)
    c.in_err-add_title.ensures.err)

pub returns-in_err-add_sizes-clause-err : goal.returns-in_err-add_sizes-clause-err
returns-in_err-add_sizes-clause-err g c =
    let plan : Planned = c.args.plan.now in
    on-err c.from_residual-in_err-add_sizes.result
    (stops-early _ _ c.args.gathered.now (to_sizes plan) (behind_sizes c.args.verdict.now) (then-stops _
    (size_line plan) c.in_ok-add_title.ensures.ok c.in_err-add_sizes.ensures.err))

pub returns-in_err-add_value-clause-err : goal.returns-in_err-add_value-clause-err
returns-in_err-add_value-clause-err g c =
    let verdict : Verdict = c.args.verdict.now in
    on-err c.from_residual-in_err-add_value.result
    (stops-early _ _ c.args.gathered.now (to_value c.args.plan.now verdict) (line (spaced verdict.sequence) ∷ [])
    (then-stops _ (line (decimal verdict.value))
    (then-hands c.in_ok-add_title.ensures.ok c.in_ok-add_sizes.ensures.ok) c.in_err-add_value.ensures.err))

-- the lines up to the value are handed on
value : (g : _) (c : In_ok-add_value g) →
    HandsOn (g.S.Sink.taken c.args.out.now) (g.S.Sink.taken c.add_value.new.out) c.args.gathered.now
    (to_value c.args.plan.now c.args.verdict.now) c.add_value.new.self
value g c = then-hands (then-hands c.in_ok-add_title.ensures.ok c.in_ok-add_sizes.ensures.ok)
    c.in_ok-add_value.ensures.ok

pub returns-clause-ok : goal.returns-clause-ok
returns-clause-ok g c =
    on_ok_weaker c.add_numbers.result (then-hands (value g (goal.at.returns-clause-ok g c).In_ok-add_value))
    (rw c.jobs.ensures.value at c.add_numbers.ensures.ok)

pub returns-clause-err : goal.returns-clause-err
returns-clause-err g c =
    on_err_weaker c.add_numbers.result (then-stops _ (line (spaced c.args.verdict.now.sequence)) (value g
    (goal.at.returns-clause-err g c).In_ok-add_value))
    (rw c.jobs.ensures.value at c.add_numbers.ensures.err)
