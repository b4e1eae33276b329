use Rattle.std.proofs.Common.{◌≡◌, ◌*◌, ◌<◌, [], sum_by, length, take, drop}
use Rattle.std.proofs.Common.{ap, sym, ◌∙◌, arith}
use Rattle.std.proofs.lemmas.List.{drop_all}
use Rattle.flow_nodes.specs.Groups.{child_bound}
use Rattle.flow_nodes.specs.Marks.{picked, chosen}
use Rattle.flow_directions.proofs.BoundSums.{zero-picked, none-chosen, group-sum}
use Rattle.flow_directions.proofs.sums.sum_with.Goals as goal
use Rattle.flow_directions.proofs.sums.sum_with.Goals.{then-word-ne0, else-word-ne0}

pub loop-group-preserved : goal.loop-group-preserved
loop-group-preserved g c =
    let group = c.loop-group.group in
    let words = c.args.opened.now.left.words in
    let names = c.args.pack.now.names.items in
    let long : group < length c.args.pack.now.groups.items =
    omega (arith, c.loop-group-test.true, c.len-group-end.ensures, c.args.pack.now.groups.ok.0) in
    let few : group < length words = omega (arith, long, c.word_of-word.ensures.size, c.requires.at.5.room.few) in
    elim c.if-word-ne0.branch [
      | then-word-ne0 w ↦ record {
        small = omega (arith, w.sum-is, w.sum_of_group-sum.ensures.small, c.loop-group.invariant.small);
        rest = λ threshold first last is pack.
            let sum = w.sum_of_group-sum.ensures.sum threshold first last is pack in
            omega (
              arith,
              c.loop-group.invariant.rest threshold first last is pack,
              group-sum (child_bound c.args.instance.now c.args.end first last) words names group few,
              w.sum-is,
              sum,
            );
      }
      | else-word-ne0 w ↦ record {
        small = omega (arith, w.sum-is, c.loop-group.invariant.small);
        rest = λ threshold first last is pack.
            let none = ap (λ word. sum_by (child_bound c.args.instance.now c.args.end first last)
            (picked word 0 (take 16 (drop (group * 16) names))))
            (sym c.word_of-word.ensures.value ∙ w.if-word-ne0.false)
            ∙ zero-picked (child_bound c.args.instance.now c.args.end first last) 0
            (take 16 (drop (group * 16) names)) in
            omega (
              arith,
              c.loop-group.invariant.rest threshold first last is pack,
              group-sum (child_bound c.args.instance.now c.args.end first last) words names group few,
              w.sum-is,
              none,
            );
      }
    ]

pub returns : goal.returns
returns g c threshold first last is pack =
    let group = c.loop-group.group in
    let words = c.args.opened.now.left.words in
    let names = c.args.pack.now.names.items in
    let end : drop (group * 16) names ≡ [] = drop_all (group * 16) names (omega (
      arith,
      pack.room.names,
      c.loop-group-test.false,
      c.len-group-end.ensures,
      c.args.pack.now.groups.ok.0,
    )) in
    let whole : c.loop-group.sum ≡ sum_by (child_bound c.args.instance.now c.args.end first last) (chosen words names) =
    omega (
      arith,
      c.loop-group.invariant.rest threshold first last is pack,
      ap (λ l. sum_by (child_bound c.args.instance.now c.args.end first last) (chosen (drop group words) l)) end
          ∙ none-chosen (child_bound c.args.instance.now c.args.end first last) (drop group words),
    ) in
    whole ∙ ap (sum_by (child_bound c.args.instance.now c.args.end first last)) is.has_left
