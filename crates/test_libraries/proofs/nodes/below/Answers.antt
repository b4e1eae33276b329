use Rattle.std.proofs.Common.{arith}
use Rattle.test_libraries.proofs.nodes.below.Goals as goal

pub mark_below-requires-clause-machines : goal.mark_below-requires-clause-machines
mark_below-requires-clause-machines g c group none within =
    let are = c.requires.groups in
    omega (arith, (are.each group none within).2.machines, are.limits.machines)
