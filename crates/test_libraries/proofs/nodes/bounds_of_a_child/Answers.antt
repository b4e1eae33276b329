use Rattle.std.proofs.Common.{[], ◌∷◌, refl}
use Rattle.test_libraries.proofs.nodes.bounds_of_a_child.Goals as goal

pub bound-requires : goal.bound-requires
bound-requires g c = (3 ∷ [], [], c.put.ensures [] [] c.root-node.ensures refl)
