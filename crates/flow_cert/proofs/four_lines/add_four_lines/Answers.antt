use Rattle.std.proofs.Common.{ℕ, List, [], ◌∷◌}
use Rattle.std.proofs.lemmas.Result.{on_ok_weaker, on_err_weaker}
use Rattle.flow_shop.specs.Shop.{Shop}
use Rattle.flow_check.specs.TextLines.{line, spaced}
use Rattle.flow_check.specs.FourLines.{size_lines, bounds_lines}
use Rattle.flow_check.specs.declared.bounds.Bounds.{Bounds}
use Rattle.flow_cert.specs.internal.Gathered.{HandsOn}
use Rattle.flow_cert.specs.internal.HeadingText.{bounds_line}
use Rattle.flow_cert.proofs.HandedOn.{on-err, then-hands, then-stops, stops-early}
use Rattle.flow_cert.proofs.four_lines.add_four_lines.Goals as goal
use Rattle.flow_cert.proofs.four_lines.add_four_lines.Goals.{In_ok-add_bounds}

-- the second line
abbrev size_line : Shop → List ℕ
size_line shop = line (spaced (shop.jobs ∷ shop.machines ∷ []))

-- the lines after the second
abbrev behind_size : Bounds → List ℕ → List (List ℕ)
behind_size bounds sequence = bounds_line bounds ∷ line (spaced sequence) ∷ []

pub returns-in_err-add-clause-err : goal.returns-in_err-add-clause-err
returns-in_err-add-clause-err g c =
    on-err c.from_residual.result
    (stops-early _ _ c.args.gathered.now c.args.title.now
    (size_line c.args.instance.now ∷ behind_size c.args.bounds c.args.sequence.now) c.in_err-add.ensures.err)

pub returns-in_err-add_size-clause-err : goal.returns-in_err-add_size-clause-err
returns-in_err-add_size-clause-err g c =
    let shop : Shop = c.args.instance.now in
    on-err c.from_residual-in_err-add_size.result
    (stops-early _ _ c.args.gathered.now (size_lines c.args.title.now shop)
    (behind_size c.args.bounds c.args.sequence.now)
    (then-stops _ (size_line shop) c.in_ok-add.ensures.ok c.in_err-add_size.ensures.err))

pub returns-in_err-add_bounds-clause-err : goal.returns-in_err-add_bounds-clause-err
returns-in_err-add_bounds-clause-err g c =
    on-err c.from_residual-in_err-add_bounds.result
    (stops-early _ _ c.args.gathered.now (bounds_lines c.args.title.now c.args.instance.now c.args.bounds)
    (line (spaced c.args.sequence.now) ∷ [])
    (then-stops _ (bounds_line c.args.bounds)
    (then-hands c.in_ok-add.ensures.ok c.in_ok-add_size.ensures.ok) c.in_err-add_bounds.ensures.err))

-- the lines up to the third are handed on
bounded : (g : _) (c : In_ok-add_bounds g) →
    HandsOn (g.S.Sink.taken c.args.out.now) (g.S.Sink.taken c.add_bounds.new.out) c.args.gathered.now
    (bounds_lines c.args.title.now c.args.instance.now c.args.bounds) c.add_bounds.new.self
bounded g c = then-hands (then-hands c.in_ok-add.ensures.ok c.in_ok-add_size.ensures.ok)
    c.in_ok-add_bounds.ensures.ok

pub returns-clause-ok : goal.returns-clause-ok
returns-clause-ok g c =
    on_ok_weaker c.add_numbers.result (then-hands (bounded g (goal.at.returns-clause-ok g c).In_ok-add_bounds))
    (rw c.jobs.ensures.value at c.add_numbers.ensures.ok)

pub returns-clause-err : goal.returns-clause-err
returns-clause-err g c =
    on_err_weaker c.add_numbers.result (then-stops _ (line (spaced c.args.sequence.now)) (bounded g
    (goal.at.returns-clause-err g c).In_ok-add_bounds))
    (rw c.jobs.ensures.value at c.add_numbers.ensures.err)
