use Rattle.std.proofs.Common.{[], ◌∷◌, decimal, refl}
use Rattle.std.proofs.lemmas.Result.{on_ok_weaker, on_err_weaker}
use Rattle.flow_check.specs.TextLines.{line}
use Rattle.flow_cert.proofs.HandedOn.{on-err, then-hands, then-stops, stops-within}
use Rattle.flow_cert.proofs.gathered.Gathered.add_value.Goals as goal

pub returns-in_err-add_number-clause-err : goal.returns-in_err-add_number-clause-err
returns-in_err-add_number-clause-err g c =
    on-err c.from_residual.result
    (stops-within _ _ c.args.self.now (decimal c.args.value) (10
    ∷ []) (line (decimal c.args.value)) refl c.in_err-add_number.ensures.err)

pub returns-clause-ok : goal.returns-clause-ok
returns-clause-ok g c =
    on_ok_weaker c.add.result (then-hands c.in_ok-add_number.ensures.ok) c.add.ensures.ok

pub returns-clause-err : goal.returns-clause-err
returns-clause-err g c =
    on_err_weaker c.add.result (then-stops _ (10 ∷ []) c.in_ok-add_number.ensures.ok) c.add.ensures.err
