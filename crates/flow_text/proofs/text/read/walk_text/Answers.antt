use Rattle.std.proofs.Common.{◌∙◌, ap, sym, arith}
use Rattle.flow_text.specs.internal.TextWalk.{walk}
use Rattle.flow_text.specs.internal.TextState.{state_of}
use Rattle.flow_text.proofs.TextGrammar.{line-keeps, walk-more}
use Rattle.flow_text.proofs.text.read.walk_text.Goals as goal

pub loop-rest-preserved : goal.loop-rest-preserved
loop-rest-preserved c =
    let before = c.loop-rest.invariant in
    let state = state_of c.loop-rest.progress in
    record {
      answer = walk-more state _ c.loop-rest.count c.first_line.result.0.now _ c.in_default.ensures
          ∙ ap (walk state c.loop-rest.count) (sym c.first_line.ensures.lines)
          ∙ before.answer;
      keeps = line-keeps state _ c.first_line.result.0.now before.keeps c.in_default.ensures;
      few = omega (arith, before.few, c.first_line.ensures.shorter);
    }
