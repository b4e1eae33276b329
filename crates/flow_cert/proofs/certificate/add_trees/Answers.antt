use Rattle.std.proofs.Common.{◌<◌, ◌++◌, List, ℕ, [], ◌∷◌, suc, length, map, take, drop, arith, Option, Vec, Global}
use Rattle.std.specs.List.{flat_map}
use Rattle.flow_text.specs.Bytes.{AddsProperPrefix}
use Rattle.flow_check.specs.TextLines.{line}
use Rattle.flow_cert.proofs.HandedOn.{on-err, then-hands, then-stops, stops-within, stops-early}
use Rattle.flow_cert.proofs.WrittenLines.{at-line, one-more-line}
use Rattle.flow_cert.proofs.certificate.add_trees.Goals as goal
use Rattle.flow_cert.proofs.certificate.add_trees.Goals.{After-as_slice}

abbrev bytes_of : Vec ℕ Global → List ℕ
bytes_of tree = tree.items

abbrev lines_of : List (Vec ℕ Global) → List ℕ
lines_of trees = flat_map line (map bytes_of trees)

-- where a tree's line is not handed on whole, nor are all
stops : (g : _) (c : After-as_slice g) (sink : Option (List ℕ)) →
    AddsProperPrefix (g.S.Sink.taken c.loop-tree.out) sink (c.loop-tree.gathered ++ line c.as_slice.result.now) →
    AddsProperPrefix (g.S.Sink.taken c.args.out.now) sink (c.args.gathered.now ++ lines_of c.args.trees.now)
stops g c sink h =
    let trees : List (Vec ℕ Global) = c.args.trees.now in
    let i : ℕ = c.loop-tree.tree-index in
    let bytes : List ℕ = c.as_slice.result.now in
    let below : i < length trees = omega arith in
    stops-within _ _ c.args.gathered.now (lines_of (take i trees)
    ++ line bytes) (lines_of (drop (suc i) trees)) (lines_of trees)
    (at-line bytes_of trees i c.tree-item.result bytes below c.tree-item.is c.as_slice.ensures.value)
    (then-stops _ (line bytes) c.loop-tree.invariant.handed h)

pub returns-in_err-add-clause-err : goal.returns-in_err-add-clause-err
returns-in_err-add-clause-err g c =
    on-err c.from_residual.result
    (stops g (goal.at.returns-in_err-add-clause-err g c).After-as_slice _
    (stops-early _ _ c.loop-tree.gathered c.as_slice.result.now ((10 ∷ []) ∷ []) c.in_err-add.ensures.err))

pub returns-in_err-add-2-clause-err : goal.returns-in_err-add-2-clause-err
returns-in_err-add-2-clause-err g c =
    on-err c.from_residual-in_err-add-2.result
    (stops g (goal.at.returns-in_err-add-2-clause-err g c).After-as_slice _ (then-stops _ (10
    ∷ []) c.in_ok-add.ensures.ok c.in_err-add-2.ensures.err))

pub loop-tree-preserved : goal.loop-tree-preserved
loop-tree-preserved g c =
    let below : c.loop-tree.tree-index < length c.args.trees.now = omega arith in
    record {
      works = c.in_ok-add-2.ensures.failed;
      handed = rw (one-more-line bytes_of c.args.trees.now c.loop-tree.tree-index c.tree-item.result
          c.as_slice.result.now below c.tree-item.is c.as_slice.ensures.value)
          (then-hands c.loop-tree.invariant.handed (then-hands c.in_ok-add.ensures.ok c.in_ok-add-2.ensures.ok));
    }
