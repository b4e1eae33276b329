use Rattle.std.proofs.Common.{arith}
use Rattle.flow_core.specs.Shop.{IsWithinLimits}
use Rattle.flow_commands.proofs.Small.{at-most-span-fits}
use Rattle.flow_commands.proofs.generate.generated_text.Goals as goal

pub overflow_cast-upper : goal.overflow_cast-upper
overflow_cast-upper c =
    let limits : IsWithinLimits c.args.instance = rw (← c.instance.view_is) c.instance.invariant.0 in
    at-most-span-fits c.args.instance c.in_ok-upper.field-0.0 _ limits c.in_ok-upper.ensures.each (omega
    (arith, c.in_ok-upper.ensures.value))

pub overflow_cast-lower : goal.overflow_cast-lower
overflow_cast-lower c =
    let limits : IsWithinLimits c.args.instance = rw (← c.instance.view_is) c.instance.invariant.0 in
    at-most-span-fits c.args.instance c.in_ok-upper.field-0.0 _ limits c.in_ok-upper.ensures.each
    (c.taillard_bound-lower.ensures.admissible _ c.in_ok-upper.ensures.each)
