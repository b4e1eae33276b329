use Rattle.std.proofs.Common.{◌≡◌, false, take, map}
use Rattle.std.specs.List.{flat_map}
use Rattle.flow_check.specs.TextLines.{line}
use Rattle.flow_cert.specs.internal.Gathered.{HandsOn}
use Rattle.flow_cert.proofs.certificate.add_trees.Given as goal

-- the trees so far were handed on
abbrev pub invariant-loop-tree : goal.invariant-loop-tree
invariant-loop-tree g l = record {
  works : g.S.Sink.has_failed l.out ≡ false;
  handed : HandsOn (g.S.Sink.taken l.initial.out) (g.S.Sink.taken l.out) l.initial.gathered (flat_map line (map
      (λ tree. tree.items) (take l.tree-index l.trees))) l.gathered;
}
