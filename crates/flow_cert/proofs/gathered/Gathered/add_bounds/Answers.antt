use Rattle.std.proofs.Common.{ℕ, List, Option, ◌≡◌, [], ◌∷◌, ◌++◌, decimal, subst, sym}
use Rattle.std.proofs.lemmas.Result.{on_ok_weaker, on_err_weaker}
use Rattle.flow_text.specs.Bytes.{AddsProperPrefix}
use Rattle.flow_check.specs.TextLines.{line}
use Rattle.flow_check.specs.declared.bounds.Bounds.{Bounds}
use Rattle.flow_cert.specs.internal.Gathered.{HandsOn}
use Rattle.flow_cert.specs.internal.HeadingText.{bounds_line}
use Rattle.flow_cert.proofs.HandedOn.{on-err, then-hands, then-stops, stops-early}
use Rattle.flow_cert.proofs.WrittenLines.{two-numbers}
use Rattle.flow_cert.proofs.gathered.Gathered.add_bounds.Goals as goal

-- the line in pieces
abbrev pieces : Bounds → List ℕ
pieces bounds = (decimal bounds.lower ++ 32 ∷ []) ++ line (decimal bounds.upper)

whole : (bounds : Bounds) → pieces bounds ≡ bounds_line bounds
whole bounds = sym (two-numbers bounds.lower bounds.upper)

stops : (bounds : Bounds) (a b : Option (List ℕ)) (x : List ℕ) → AddsProperPrefix a b (x ++ pieces bounds) →
    AddsProperPrefix a b (x ++ bounds_line bounds)
stops bounds a b x h = subst (λ t. AddsProperPrefix a b (x ++ t)) (whole bounds) h

hands : (bounds : Bounds) (a b : Option (List ℕ)) (x y : List ℕ) → HandsOn a b x (pieces bounds) y →
    HandsOn a b x (bounds_line bounds) y
hands bounds a b x y h = subst (λ t. HandsOn a b x t y) (whole bounds) h

pub returns-in_err-add_number-clause-err : goal.returns-in_err-add_number-clause-err
returns-in_err-add_number-clause-err g c =
    let bounds : Bounds = c.args.bounds in
    on-err c.from_residual.result
    (stops bounds _ _ c.args.self.now (stops-early _ _ c.args.self.now (decimal bounds.lower) ((32 ∷ [])
    ∷ line (decimal bounds.upper) ∷ []) c.in_err-add_number.ensures.err))

pub returns-in_err-add-clause-err : goal.returns-in_err-add-clause-err
returns-in_err-add-clause-err g c =
    let bounds : Bounds = c.args.bounds in
    on-err c.from_residual-in_err-add.result
    (stops bounds _ _ c.args.self.now (stops-early _ _ c.args.self.now (decimal bounds.lower ++ 32 ∷ [])
    (line (decimal bounds.upper) ∷ [])
    (then-stops _ (32 ∷ []) c.in_ok-add_number.ensures.ok c.in_err-add.ensures.err)))

pub returns-clause-ok : goal.returns-clause-ok
returns-clause-ok g c =
    on_ok_weaker c.add_value.result
    (λ h. hands c.args.bounds _ _ c.args.self.now _
    (then-hands (then-hands c.in_ok-add_number.ensures.ok c.in_ok-add.ensures.ok) h)) c.add_value.ensures.ok

pub returns-clause-err : goal.returns-clause-err
returns-clause-err g c =
    on_err_weaker c.add_value.result
    (λ h. stops c.args.bounds _ _ c.args.self.now
    (then-stops _ (line (decimal c.args.bounds.upper))
    (then-hands c.in_ok-add_number.ensures.ok c.in_ok-add.ensures.ok) h)) c.add_value.ensures.err
