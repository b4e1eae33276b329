use Rattle.std.proofs.Common.{arith}
use Rattle.std.proofs.lemmas.Grind.{common_steps}
use Rattle.flow_text.proofs.BytesLemmas.{Appends-more}
use Rattle.flow_text.proofs.bytes.all_bytes.put_all.Goals as goal

pub loop-done-preserved : goal.loop-done-preserved
loop-done-preserved g c =
    let e = c.in-Ok.ensures in
    record {
      within = grind (arith, common_steps);
      put = Appends-more _ _ _ _ _ _ c.loop-done.invariant.put e.bytes;
      works = rw c.loop-done.invariant.works at e.failed;
      nothing = λ h. grind (arith, common_steps, h);
    }
