use Rattle.std.proofs.Common.{◌≡◌, ◌≤◌, ◌-◌, ◌+◌, ◌*◌, subst, refl, ◌∙◌, arith}
use Rattle.std.proofs.lemmas.Grind.{get_or_default_zero}
use Rattle.flow_shop.specs.Shop.{Shop, IsWithinLimits, time}
use Rattle.flow_shop.proofs.Fronts.{time-small}
use Rattle.flow_shop.proofs.Transposes.{row-time, row-within}
use Rattle.flow_shop.proofs.instance.Instance.time.Goals as goal

is-time : (c : goal.After-row_known-2-1) → c.index.result.now ≡ time c.args.self.now c.args.job c.args.machine
is-time c =
    let inside = c.self.inside in
    let place = (c.args.job - 1) * inside.machines + (c.args.machine - 1) in
    let P : Shop → Type 0 = λ shop. c.args.job ≤ shop.jobs → c.args.machine ≤ shop.machines →
    c.index.result.now ≡ time shop c.args.job c.args.machine in
    subst P c.self.view_is
    (λ to last.
    let within = row-within inside.jobs inside.machines c.args.job c.args.machine c.requires.job_from to
    c.requires.machine_from last in
    c.index.ensures
    ∙ get_or_default_zero inside.rows.items place c.index.result.now (omega (arith, within, c.self.invariant.1))
    ∙ row-time _ inside.rows.items c.args.job c.args.machine refl c.requires.job_from to c.requires.machine_from last)
    c.requires.job_to c.requires.machine_to

pub returns-clause-value : goal.returns-clause-value
returns-clause-value c = is-time c

pub returns-clause-limit : goal.returns-clause-limit
returns-clause-limit c =
    let limits : IsWithinLimits c.args.self.now = subst IsWithinLimits c.self.view_is c.self.invariant.0 in
    omega (arith, is-time c, time-small c.args.self.now c.args.job c.args.machine limits)
