use Rattle.std.proofs.Common.{[], ◌∷◌, decimal, ap, ◌∙◌}
use Rattle.std.specs.Prelude.{codes}
use Rattle.std.proofs.lemmas.Result.{on_ok_weaker, on_err_weaker}
use Rattle.flow_check.specs.TextLines.{title}
use Rattle.flow_cert.specs.internal.Gathered.{HandsOn}
use Rattle.flow_cert.proofs.HandedOn.{on-err, then-hands, then-stops, stops-early}
use Rattle.flow_cert.proofs.certificate.add_title.Goals as goal
use Rattle.flow_cert.proofs.certificate.add_title.Goals.{In_ok-add_number}

pub returns-in_err-add-clause-err : goal.returns-in_err-add-clause-err
returns-in_err-add-clause-err g c =
    on-err c.from_residual.result
    (stops-early _ _ c.args.gathered.now (codes "flowshop certificate ") (decimal c.args.plan.now.options.version
    ∷ (10 ∷ []) ∷ []) c.in_err-add.ensures.err)

pub returns-in_err-add_number-clause-err : goal.returns-in_err-add_number-clause-err
returns-in_err-add_number-clause-err g c =
    on-err c.from_residual-in_err-add_number.result
    (stops-early _ _ c.args.gathered.now (title c.args.plan.now.options.version) ((10 ∷ []) ∷ [])
    (then-stops _ (decimal c.args.plan.now.options.version) c.in_ok-add.ensures.ok
    (rw (c.from.ensures ∙ c.version.ensures.value ∙ ap (λ o. o.version) c.options.ensures.value) at
    c.in_err-add_number.ensures.err)))

-- the line is handed on up to its end
titled : (g : _) (c : In_ok-add_number g) →
    HandsOn (g.S.Sink.taken c.args.out.now) (g.S.Sink.taken c.add_number.new.out) c.args.gathered.now
    (title c.args.plan.now.options.version) c.add_number.new.self
titled g c = then-hands c.in_ok-add.ensures.ok
    (rw (c.from.ensures ∙ c.version.ensures.value ∙ ap (λ o. o.version) c.options.ensures.value) at
    c.in_ok-add_number.ensures.ok)

pub returns-clause-ok : goal.returns-clause-ok
returns-clause-ok g c =
    on_ok_weaker c.add-2.result (then-hands (titled g (goal.at.returns-clause-ok g c).In_ok-add_number))
    c.add-2.ensures.ok

pub returns-clause-err : goal.returns-clause-err
returns-clause-err g c =
    on_err_weaker c.add-2.result (then-stops _ (10 ∷ []) (titled g (goal.at.returns-clause-err g c).In_ok-add_number))
    c.add-2.ensures.err
