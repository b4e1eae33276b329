-- What is at an end of a node, and at the other one.
use Rattle.std.specs.Prelude.{ℕ, List}
use Rattle.flow_shop.specs.declared.end.End.{End}
use Rattle.flow_shop.specs.declared.end.End.TheVariants.{Front, Back}
use Rattle.flow_nodes.specs.declared.node.Node.{Node}

-- what is at an end of a node: its fronts, or its backs
abbrev pub at_end : End → Node → List ℕ
at_end Front node = node.front
at_end Back node = node.back

-- what is at the other end
abbrev pub at_other_end : End → Node → List ℕ
at_other_end Front node = node.back
at_other_end Back node = node.front
