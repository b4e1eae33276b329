use Rattle.std.proofs.Common.{suc, sym, arith}
use Rattle.std.proofs.lemmas.Bool.{le-leb}
use Rattle.flow_shop.specs.Bound.{bound_of}
use Rattle.flow_check.specs.internal.Nodes.{grown, left_before}
use Rattle.flow_check.proofs.Releases.{version-stronger, gain-reaches}
use Rattle.flow_check.proofs.release.reaches.Goals as goal

pub returns-then-plain-text-clause-value : goal.returns-then-plain-text-clause-value
returns-then-plain-text-clause-value c list left at kept kid =
    sym (le-leb c.args.text.now.value (bound_of c.args.text.now.version c.args.text.now.shop.now (grown list
    c.args.child) c.args.machine) (omega (
      arith,
      c.if-plain-text.true,
      c.bound-plain.ensures.value list left at kid,
      version-stronger c.args.text.now.shop.now (grown list c.args.child) c.args.machine c.args.text.now.version
          c.requires.machine.0,
    )))

pub gain-requires-clause-at : goal.gain-requires-clause-at
gain-requires-clause-at c = (
  c.requires.at.0,
  c.requires.at.1,
  c.bound-plain.ensures.kept c.requires.at.0 (left_before c.args.child (suc c.requires.at.1)) c.requires.at.2,
  c.requires.at.3,
  c.requires.at.4,
)

pub returns-clause-value : goal.returns-clause-value
returns-clause-value c list left at kept kid =
    let plain = c.bound-plain.ensures.value list left at kid in
    let gains = c.gain.ensures.value list left (c.bound-plain.ensures.kept list (left_before c.args.child (suc left))
    at) kept kid
    in
    gain-reaches c.args.text.now.value c.bound-plain.result c.gain.result (bound_of c.args.text.now.version
    c.args.text.now.shop.now (grown list c.args.child) c.args.machine) (omega (arith, c.if-plain-text.false))
    (omega (arith, plain, gains))
