use Rattle.std.proofs.Common.{[], ◌∷◌, ◌++◌, slice_index, arith}
use Rattle.flow_check.specs.internal.Gives.{IsSpotOf}
use Rattle.flow_check.specs.internal.Reader.{IsBack}
use Rattle.flow_check.proofs.Exits.{no_value}
use Rattle.flow_check.proofs.LineSteps.{line-gives}
use Rattle.flow_check.proofs.reader.TreeReader.read_line.Goals as goal

pub returns-clause-lines : goal.returns-clause-lines
returns-clause-lines c list stands place =
    line-gives c.args.text.now.shop.now c.args.text.now.version c.args.text.now.value c.args.self.now.child_left (list
    ++ slice_index c.args.self.now.links.items c.args.last
    ∷ []) c.args.spot.line c.args.spot.at c.in_ok-at.at c.args.text.now.bytes.now c.line_end.result
    (c.in_ok-at.ensures.tree list stands place).0 c.line_end.ensures

pub returns-in_err-at-clause-within : goal.returns-in_err-at-clause-within
returns-in_err-at-clause-within c =
    no_value c.from_residual.result c.in_err-at.field-0.0 (IsSpotOf c.args.text.now) c.from_residual.ensures.1

pub returns-in_err-at-clause-back : goal.returns-in_err-at-clause-back
returns-in_err-at-clause-back c =
    no_value c.from_residual.result c.in_err-at.field-0.0
    (λ spot. IsBack c.args.text.now.shop.now c.args.self.now c.read_child.new.self) c.from_residual.ensures.1

pub line_end-requires : goal.line_end-requires
line_end-requires c =
    let is = c.in_ok-at.ensures.tree c.requires.at.0 c.requires.at.1 c.requires.at.2 in
    (is.2, omega (arith, is.1, c.requires.spot.1))
