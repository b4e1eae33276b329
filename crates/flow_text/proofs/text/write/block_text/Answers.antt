use Rattle.std.proofs.Common.{◌≡◌, arith, rules, sym, subst, ◌∙◌, ◌∷◌, [], List, ℕ}
use Rattle.flow_text.specs.Written.{written}
use Rattle.flow_text.specs.Text.{Reads}
use Rattle.flow_text.proofs.TextWritten.{Reads-written, rows-push}
use Rattle.flow_text.proofs.text.write.block_text.Goals as goal

pub loop-machine-preserved : goal.loop-machine-preserved
loop-machine-preserved c =
    rows-push c.args.block.now.instance c.loop-machine.machine c.jobs-jobs.result _ c.loop-machine.out.items _
    c.as_slice-times.result.now c.jobs-jobs.ensures.limits
    (omega (arith, c.loop-machine-test.true, c.machines-machines.ensures.value)) c.jobs-jobs.ensures.value
    (c.as_slice-times.ensures.value
    ∙ c.in_ok-all_times.ensures.value) c.loop-machine.invariant c.in_ok-push_row.ensures

pub returns-clause-again : goal.returns-clause-again
returns-clause-again c =
    let block = c.args.block.now in
    let small = c.push_head.ensures.small in
    let P : List ℕ → Type 0 = λ t. Reads t (block ∷ []) in
    let is : c.loop-machine.out.items ≡ written block = search rules in
    subst P (sym is) (Reads-written block (record {
      instance = c.jobs-jobs.ensures.limits;
      seed = small.0;
      upper =
          small.1;
      lower = small.2;
    }))
