use Rattle.std.proofs.Common.{arith}
use Rattle.flow_text.proofs.BytesLemmas.{take-copied}
use Rattle.flow_text.proofs.bytes.memory.MemorySourceSource.get.Goals as goal

pub returns-clause-bytes : goal.returns-clause-bytes
returns-clause-bytes c =
    rw (← c.self.view_is) (take-copied _ _ _ _ _ c.copy_from_slice.ensures.after (omega
    (arith, c.min.ensures, c.min-2.ensures, c.min-count.ensures)))
