use Rattle.std.proofs.Common.{◌≡◌, ◌<◌, ◌≤◌, slice_index, take, get_or-take, sym, ◌∙◌, subst, replicate, arith}
use Rattle.std.proofs.lemmas.Simd.{get_or-replicate}
use Rattle.flow_nodes.specs.Nodes.{IsJob}
use Rattle.test_libraries.proofs.nodes.child_bound.Goals as goal

pub write_group-requires-clause-each : goal.write_group-requires-clause-each
write_group-requires-clause-each g c lane within =
    let few : g.V.Vector.WIDTH ≤ 64 = g.met.V.Vector.narrow in
    let there : lane < c.WIDTH.result = omega (arith, within, c.WIDTH.ensures) in
    let is : slice_index (take c.WIDTH.result (replicate 64 c.args.job)) lane ≡ c.args.job =
    get_or-take c.WIDTH.result (replicate 64 c.args.job) lane 0 there
    ∙ get_or-replicate 64 lane c.args.job 0 (omega (arith, few, within)) in
    subst (IsJob c.args.instance.now) (sym is) c.requires.job
