use Rattle.std.proofs.Common.{◌≡◌, ◌++◌, List, ℕ, [], ◌∷◌, Option, append_assoc, ap, subst}
use Rattle.std.proofs.lemmas.Result.{on_ok_weaker, on_err_weaker}
use Rattle.std.specs.Io.KnownBytes.{Appends}
use Rattle.flow_text.specs.Bytes.{AddsProperPrefix}
use Rattle.flow_shop.specs.Shop.{Shop}
use Rattle.flow_check.specs.TextLines.{line, ending}
use Rattle.flow_check.specs.FourLines.{sequence_lines}
use Rattle.flow_check.specs.TwoEnded.{two_ended_title}
use Rattle.flow_check.specs.declared.bounds.Bounds.{Bounds}
use Rattle.flow_cert.specs.internal.Gathered.{HandsOn}
use Rattle.flow_cert.proofs.HandedOn.{on-err, then-hands, then-stops, then-puts, then-stops_putting, stops-early}
use Rattle.flow_cert.proofs.two_ended.write_two_ended.Goals as goal
use Rattle.flow_cert.proofs.two_ended.write_two_ended.Goals.{In_ok-add-2}

-- the lines before the directions
abbrev before : Shop → Bounds → List ℕ → List ℕ
before shop bounds sequence = sequence_lines two_ended_title shop bounds sequence

-- a text in the pieces that are written
abbrev pieces : List ℕ → List ℕ → List ℕ
pieces lines directions = ((lines ++ directions) ++ 10 ∷ []) ++ line ending

whole : (lines directions : List ℕ) → pieces lines directions ≡ lines ++ line directions ++ line ending
whole lines directions = ap (λ t. t ++ line ending) (append_assoc lines directions (10 ∷ []))

stops : (lines directions : List ℕ) (a b : Option (List ℕ)) → AddsProperPrefix a b (pieces lines directions) →
    AddsProperPrefix a b (lines ++ line directions ++ line ending)
stops lines directions a b h = subst (AddsProperPrefix a b) (whole lines directions) h

puts : (lines directions : List ℕ) (a b : Option (List ℕ)) → Appends a b (pieces lines directions) →
    Appends a b (lines ++ line directions ++ line ending)
puts lines directions a b h = subst (Appends a b) (whole lines directions) h

pub returns-in_err-add_four_lines-clause-err : goal.returns-in_err-add_four_lines-clause-err
returns-in_err-add_four_lines-clause-err g c =
    let lines : List ℕ = before c.args.instance.now c.args.bounds c.args.sequence.now in
    on-err c.from_residual.result
    (stops lines c.args.directions.now _ _
    (stops-early _ _ [] lines (c.args.directions.now ∷ (10 ∷ []) ∷ line ending ∷ [])
    (rw c.none-gathered.ensures at c.in_err-add_four_lines.ensures.err)))

pub returns-in_err-add-clause-err : goal.returns-in_err-add-clause-err
returns-in_err-add-clause-err g c =
    let lines : List ℕ = before c.args.instance.now c.args.bounds c.args.sequence.now in
    let handed = rw c.none-gathered.ensures at c.in_ok-add_four_lines.ensures.ok in
    on-err c.from_residual-in_err-add.result
    (stops lines c.args.directions.now _ _
    (stops-early _ _ [] (lines ++ c.args.directions.now) ((10 ∷ []) ∷ line ending ∷ [])
    (then-stops _ c.args.directions.now handed c.in_err-add.ensures.err)))

pub returns-in_err-add-2-clause-err : goal.returns-in_err-add-2-clause-err
returns-in_err-add-2-clause-err g c =
    let lines : List ℕ = before c.args.instance.now c.args.bounds c.args.sequence.now in
    let handed = rw c.none-gathered.ensures at c.in_ok-add_four_lines.ensures.ok in
    on-err c.from_residual-in_err-add-2.result
    (stops lines c.args.directions.now _ _
    (stops-early _ _ [] ((lines ++ c.args.directions.now) ++ 10 ∷ []) (line ending ∷ [])
    (then-stops _ (10 ∷ []) (then-hands handed c.in_ok-add.ensures.ok) c.in_err-add-2.ensures.err)))

-- the text up to the last line is handed on
ended : (g : _) (c : In_ok-add-2 g) →
    HandsOn (g.S.Sink.taken c.args.out.now) (g.S.Sink.taken c.add-2.new.out) []
    ((before c.args.instance.now c.args.bounds c.args.sequence.now ++ c.args.directions.now) ++ 10 ∷ [])
    c.add-2.new.self
ended g c =
    then-hands (then-hands (rw c.none-gathered.ensures at c.in_ok-add_four_lines.ensures.ok) c.in_ok-add.ensures.ok)
    c.in_ok-add-2.ensures.ok

pub returns-in_err-add-3-clause-err : goal.returns-in_err-add-3-clause-err
returns-in_err-add-3-clause-err g c =
    on-err c.from_residual-in_err-add-3.result
    (stops (before c.args.instance.now c.args.bounds c.args.sequence.now) c.args.directions.now _ _
    (then-stops _ (line ending) (ended g (goal.at.returns-in_err-add-3-clause-err g c).In_ok-add-2)
    c.in_err-add-3.ensures.err))

pub returns-clause-ok : goal.returns-clause-ok
returns-clause-ok g c =
    on_ok_weaker c.put.result
    (λ h. puts (before c.args.instance.now c.args.bounds c.args.sequence.now) c.args.directions.now _ _
    (then-puts _ (then-hands (ended g (goal.at.returns-clause-ok g c).In_ok-add-2) c.in_ok-add-3.ensures.ok) h))
    c.put.ensures.ok

pub returns-clause-err : goal.returns-clause-err
returns-clause-err g c =
    on_err_weaker c.put.result
    (λ h. stops (before c.args.instance.now c.args.bounds c.args.sequence.now) c.args.directions.now _ _
    (then-stops_putting _ (then-hands (ended g (goal.at.returns-clause-err g c).In_ok-add-2)
    c.in_ok-add-3.ensures.ok) h)) c.put.ensures.err
