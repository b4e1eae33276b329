use Rattle.std.proofs.Common.{ap, inl, inr, refl, Err}
use Rattle.std.proofs.lemmas.Result.{err_from_is_err_and}
use Rattle.flow_requests.specs.declared.Invocation.TheVariants.{OfBlock}
use Rattle.flow_tool.proofs.dispatch.run_words.Goals as goal

pub returns-in_err-given-in-Run-OfBlock : goal.returns-in_err-given-in-Run-OfBlock
returns-in_err-given-in-Run-OfBlock g c =
    let block = c.in-Run-OfBlock in
    let text = c.in_ok-text-in-Run-OfBlock in
    let residual = c.from_residual-in_err-given-in-Run-OfBlock in
    let p = err_from_is_err_and residual.result residual.ensures.1 in
    let says = c.in_err-given-in-Run-OfBlock.ensures in
    rw (c.in_ok-words.was, p.1, p.2) (inl (
      OfBlock block.file block.index block.second block.request,
      rw (c.as_slice.ensures.value, block.is, block.field-0-is) at c.in_ok-text.ensures.asked,
      inr (text.text, text.text, text.ensures.opened, inl (ap Err says.stop, says.refused, refl, refl)),
    ))

pub returns-in_err-run_request-in-Run-OfBlock : goal.returns-in_err-run_request-in-Run-OfBlock
returns-in_err-run_request-in-Run-OfBlock g c =
    let block = c.in-Run-OfBlock in
    let text = c.in_ok-text-in-Run-OfBlock in
    let given = c.in_ok-given-in-Run-OfBlock in
    let residual = c.from_residual-in_err-run_request-in-Run-OfBlock in
    let p = err_from_is_err_and residual.result residual.ensures.1 in
    rw (c.in_ok-words.was, p.1, p.2) (inl (
      OfBlock block.file block.index block.second block.request,
      rw (c.as_slice.ensures.value, block.is, block.field-0-is) at c.in_ok-text.ensures.asked,
      inr (
        text.text,
        c.run_request.new.file,
        text.ensures.opened,
        inr (
          given.given,
          c.run_request.new.second,
          given.ensures.opened,
          c.in_err-run_request-in-Run-OfBlock.ensures.ran,
        ),
      ),
    ))

pub returns : goal.returns
returns g c =
    let block = c.in-Run-OfBlock in
    let text = c.in_ok-text-in-Run-OfBlock in
    let given = c.in_ok-given-in-Run-OfBlock in
    rw c.in_ok-words.was (inl (
      OfBlock block.file block.index block.second block.request,
      rw (c.as_slice.ensures.value, block.is, block.field-0-is) at c.in_ok-text.ensures.asked,
      inr (
        text.text,
        c.run_request.new.file,
        text.ensures.opened,
        inr (
          given.given,
          c.run_request.new.second,
          given.ensures.opened,
          c.in_ok-run_request-in-Run-OfBlock.ensures.ran,
        ),
      ),
    ))
