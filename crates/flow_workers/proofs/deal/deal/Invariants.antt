use Rattle.std.proofs.Common.{◌≡◌}
use Rattle.flow_parts.specs.Meanings.{behind}
use Rattle.flow_workers.specs.declared.node.Sought.{Sought}
use Rattle.flow_workers.specs.internal.Pieces.{all_met, pieces_met, reading_of}
use Rattle.flow_workers.proofs.deal.deal.Given as goal

-- what was dealt so far, and the pieces that are left
abbrev pub invariant-taken : goal.invariant-taken
invariant-taken g l = (sought : Sought) →
    behind (all_met (reading_of g.K.Kept.text g.K.Kept.mark sought) l.dealt.items)
    (pieces_met (reading_of g.K.Kept.text g.K.Kept.mark sought) l.pieces.items)
    ≡ pieces_met (reading_of g.K.Kept.text g.K.Kept.mark sought) l.fn.pieces.items
