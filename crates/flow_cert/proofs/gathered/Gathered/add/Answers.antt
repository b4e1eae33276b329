use Rattle.std.proofs.Common.{[], ◌∷◌}
use Rattle.std.proofs.lemmas.Result.{on_ok_weaker, on_err_weaker}
use Rattle.flow_cert.proofs.HandedOn.{on-err, stops-early, puts-straight, puts-then-stops}
use Rattle.flow_cert.proofs.gathered.Gathered.add.Goals as goal

pub returns-in_err-put-clause-err : goal.returns-in_err-put-clause-err
returns-in_err-put-clause-err g c =
    on-err c.from_residual.result (stops-early _ _ [] c.args.self.now (c.args.bytes.now ∷ []) c.in_err-put.ensures.err)

pub returns-clause-ok : goal.returns-clause-ok
returns-clause-ok g c =
    on_ok_weaker c.put_all.result
    (puts-straight _ _ _ c.args.self.now c.args.bytes.now c.put.new.self c.in_ok-put.ensures.ok
    c.in_ok-put.ensures.none) c.put_all.ensures.ok

pub returns-clause-err : goal.returns-clause-err
returns-clause-err g c =
    on_err_weaker c.put_all.result
    (puts-then-stops _ _ _ c.args.self.now c.args.bytes.now c.in_ok-put.ensures.ok) c.put_all.ensures.err
