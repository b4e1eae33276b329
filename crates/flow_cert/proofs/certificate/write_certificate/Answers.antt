use Rattle.std.proofs.Common.{◌++◌, List, ℕ, [], ◌∷◌, map}
use Rattle.std.proofs.lemmas.Result.{on_ok_weaker, on_err_weaker}
use Rattle.std.specs.List.{flat_map}
use Rattle.flow_search.specs.Plans.{Planned}
use Rattle.flow_search.specs.declared.verdict.Verdict.{Verdict}
use Rattle.flow_check.specs.TextLines.{line, ending}
use Rattle.flow_cert.specs.internal.Gathered.{HandsOn}
use Rattle.flow_cert.specs.internal.HeadingText.{heading_with}
use Rattle.flow_cert.proofs.HandedOn.{on-err, then-hands, then-stops, then-puts, then-stops_putting, stops-early}
use Rattle.flow_cert.proofs.certificate.write_certificate.Goals as goal
use Rattle.flow_cert.proofs.certificate.write_certificate.Goals.{In_ok-add_trees}

-- the lines of the trees, and the text up to them
abbrev tree_lines : Verdict → List ℕ
tree_lines verdict = flat_map line (map (λ tree. tree.items) verdict.trees.items)

abbrev to_trees : Planned → Verdict → List ℕ
to_trees plan verdict = heading_with plan verdict ++ tree_lines verdict

pub returns-in_err-add_heading-clause-err : goal.returns-in_err-add_heading-clause-err
returns-in_err-add_heading-clause-err g c =
    let verdict : Verdict = c.args.verdict.now in
    on-err c.from_residual.result
    (stops-early _ _ [] (heading_with c.args.plan.now verdict) (tree_lines verdict ∷ line ending
    ∷ []) (rw c.none-gathered.ensures at c.in_err-add_heading.ensures.err))

pub returns-in_err-add_trees-clause-err : goal.returns-in_err-add_trees-clause-err
returns-in_err-add_trees-clause-err g c =
    let verdict : Verdict = c.args.verdict.now in
    let heading = rw c.none-gathered.ensures at c.in_ok-add_heading.ensures.ok in
    on-err c.from_residual-in_err-add_trees.result
    (stops-early _ _ [] (to_trees c.args.plan.now verdict) (line ending
    ∷ []) (then-stops _ (tree_lines verdict) heading
    (rw c.as_slice.ensures.value at c.in_err-add_trees.ensures.err)))

-- the text up to the trees is handed on
trees : (g : _) (c : In_ok-add_trees g) →
    HandsOn (g.S.Sink.taken c.args.out.now) (g.S.Sink.taken c.add_trees.new.out) []
    (to_trees c.args.plan.now c.args.verdict.now) c.add_trees.new.gathered
trees g c = then-hands (rw c.none-gathered.ensures at c.in_ok-add_heading.ensures.ok)
    (rw c.as_slice.ensures.value at c.in_ok-add_trees.ensures.ok)

pub returns-in_err-add-clause-err : goal.returns-in_err-add-clause-err
returns-in_err-add-clause-err g c =
    on-err c.from_residual-in_err-add.result (then-stops _ (line ending) (trees g
    (goal.at.returns-in_err-add-clause-err g c).In_ok-add_trees) c.in_err-add.ensures.err)

pub returns-clause-ok : goal.returns-clause-ok
returns-clause-ok g c =
    on_ok_weaker c.put.result (then-puts _ (then-hands (trees g
    (goal.at.returns-clause-ok g c).In_ok-add_trees) c.in_ok-add.ensures.ok)) c.put.ensures.ok

pub returns-clause-err : goal.returns-clause-err
returns-clause-err g c =
    on_err_weaker c.put.result (then-stops_putting _ (then-hands (trees g
    (goal.at.returns-clause-err g c).In_ok-add_trees) c.in_ok-add.ensures.ok)) c.put.ensures.err
