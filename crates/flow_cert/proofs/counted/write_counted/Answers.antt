use Rattle.std.proofs.Common.{◌++◌, List, ℕ, [], ◌∷◌}
use Rattle.std.specs.Fmt.{decimal}
use Rattle.std.proofs.lemmas.Result.{on_ok_weaker, on_err_weaker}
use Rattle.flow_check.specs.TextLines.{line, ending}
use Rattle.flow_check.specs.FourLines.{sequence_lines}
use Rattle.flow_check.specs.Counted.{counted_title}
use Rattle.flow_cert.specs.internal.Gathered.{HandsOn}
use Rattle.flow_cert.proofs.HandedOn.{on-err, then-hands, then-stops, then-puts, then-stops_putting, stops-early}
use Rattle.flow_cert.proofs.counted.write_counted.Goals as goal
use Rattle.flow_cert.proofs.counted.write_counted.Goals.{In_ok-add_value}

pub returns-in_err-add_four_lines-clause-err : goal.returns-in_err-add_four_lines-clause-err
returns-in_err-add_four_lines-clause-err g c =
    on-err c.from_residual.result
    (stops-early _ _ [] (sequence_lines counted_title c.args.instance.now c.args.bounds c.args.sequence.now)
    (line (decimal c.args.count) ∷ line ending ∷ [])
    (rw c.none-gathered.ensures at c.in_err-add_four_lines.ensures.err))

pub returns-in_err-add_value-clause-err : goal.returns-in_err-add_value-clause-err
returns-in_err-add_value-clause-err g c =
    let lines : List ℕ = sequence_lines counted_title c.args.instance.now c.args.bounds c.args.sequence.now in
    let handed = rw c.none-gathered.ensures at c.in_ok-add_four_lines.ensures.ok in
    on-err c.from_residual-in_err-add_value.result
    (stops-early _ _ [] (lines ++ line (decimal c.args.count)) (line ending ∷ [])
    (then-stops _ (line (decimal c.args.count)) handed c.in_err-add_value.ensures.err))

-- the text up to the last line is handed on
ended : (g : _) (c : In_ok-add_value g) →
    HandsOn (g.S.Sink.taken c.args.out.now) (g.S.Sink.taken c.add_value.new.out) []
    (sequence_lines counted_title c.args.instance.now c.args.bounds c.args.sequence.now
    ++ line (decimal c.args.count)) c.add_value.new.self
ended g c =
    then-hands (rw c.none-gathered.ensures at c.in_ok-add_four_lines.ensures.ok) c.in_ok-add_value.ensures.ok

pub returns-in_err-add-clause-err : goal.returns-in_err-add-clause-err
returns-in_err-add-clause-err g c =
    on-err c.from_residual-in_err-add.result
    (then-stops _ (line ending) (ended g (goal.at.returns-in_err-add-clause-err g c).In_ok-add_value)
    c.in_err-add.ensures.err)

pub returns-clause-ok : goal.returns-clause-ok
returns-clause-ok g c =
    on_ok_weaker c.put.result
    (then-puts _ (then-hands (ended g (goal.at.returns-clause-ok g c).In_ok-add_value) c.in_ok-add.ensures.ok))
    c.put.ensures.ok

pub returns-clause-err : goal.returns-clause-err
returns-clause-err g c =
    on_err_weaker c.put.result
    (then-stops_putting _
    (then-hands (ended g (goal.at.returns-clause-err g c).In_ok-add_value) c.in_ok-add.ensures.ok)) c.put.ensures.err
