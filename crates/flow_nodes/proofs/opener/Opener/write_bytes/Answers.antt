use Rattle.std.proofs.Common.{◌≡◌, length, ap, sym, subst, arith}
use Rattle.std.specs.Vec.{with_items}
use Rattle.std.proofs.lemmas.List.{with_items_is}
use Rattle.flow_nodes.specs.internal.Bytes.{HaveGaps, HaveSlacks}
use Rattle.flow_nodes.proofs.SpreadSteps.{node-within}
use Rattle.flow_nodes.proofs.opener.Opener.write_bytes.Goals as goal

pub write_slacks-requires-clause-small : goal.write_slacks-requires-clause-small
write_slacks-requires-clause-small g c place low = omega (
  arith,
  node-within c.requires.0 c.requires.1 c.requires.2 c.args.node.now place c.requires.3
      (omega (arith, low, ap length c.as_mut_slice-2.ensures.value, c.requires.5)),
  c.requires.6,
)

pub returns-clause-gaps : goal.returns-clause-gaps
returns-clause-gaps g c =
    let old = c.args.self.now.gaps in
    let new = c.write_gaps.new.gaps in
    let is : (with_items old new).items ≡ new =
    with_items_is old new (omega (arith, c.write_gaps.ensures.size, ap length c.as_mut_slice.ensures.value, old.ok.0)) in
    subst (λ xs. HaveGaps c.args.end c.args.node.now xs) (sym is) c.write_gaps.ensures.gaps

pub returns-clause-slacks : goal.returns-clause-slacks
returns-clause-slacks g c =
    let old = c.args.self.now.slacks in
    let new = c.write_slacks.new.slacks in
    let is : (with_items old new).items ≡ new =
    with_items_is old new
    (omega (arith, c.write_slacks.ensures.size, ap length c.as_mut_slice-2.ensures.value, old.ok.0)) in
    subst (λ xs. HaveSlacks c.args.self.now.limit c.args.node.now xs) (sym is) c.write_slacks.ensures.slacks
