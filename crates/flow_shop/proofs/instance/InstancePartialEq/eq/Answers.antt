use Rattle.std.proofs.Common.{◌≡◌, subst, sym, ◌∙◌}
use Rattle.flow_shop.specs.Shop.{Shop, is_same_shop}
use Rattle.flow_shop.specs.internal.Transposed.{transposed}
use Rattle.flow_shop.proofs.Transposes.{same-sizes}
use Rattle.flow_shop.proofs.instance.InstancePartialEq.eq.Goals as goal

pub returns-then-eq : goal.returns-then-eq
returns-then-eq c =
    let one = c.self.inside in
    let other = c.other.inside in
    let other_shop : Shop = record {
      jobs = other.jobs;
      machines = other.machines;
      times = transposed other.jobs other.machines other.rows.items;
    } in
    subst (λ shop. c.eq-then-eq.result ≡ is_same_shop c.args.self.now shop) c.other.view_is
    (subst (λ shop. c.eq-then-eq.result ≡ is_same_shop shop other_shop) c.self.view_is
    (c.eq-then-eq.ensures
    ∙ same-sizes one.jobs one.machines other.jobs other.machines one.rows.items other.rows.items
    (sym c.eq.ensures ∙ c.if-eq.true) c.self.invariant.0.some_machine c.self.invariant.1 c.other.invariant.1))
