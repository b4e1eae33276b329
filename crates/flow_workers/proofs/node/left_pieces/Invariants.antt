use Rattle.std.proofs.Common.{◌≡◌, ◌++◌, length, map}
use Rattle.flow_workers.specs.declared.piece.Piece.TheVariants.{Left}
use Rattle.flow_workers.proofs.node.left_pieces.Given as goal

-- the parts that are left, and those that are pieces
abbrev pub invariant-parts : goal.invariant-parts
invariant-parts g l = map Left l.parts.items ++ l.pieces.items ≡ map Left l.fn.parts.items

abbrev pub decreases-parts : goal.decreases-parts
decreases-parts g l = length l.parts.items
