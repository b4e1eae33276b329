use Rattle.std.proofs.Common.{rules, ◌≡◌, ◌<◌, ◌+◌, ◌*◌, ◌^◌, suc, length, slice_index, drop, ap, ◌∙◌, arith}
use Rattle.std.proofs.lemmas.List.{drop_all}
use Rattle.std.proofs.lemmas.Nat.{ones-le}
use Rattle.flow_nodes.specs.Groups.{most_groups}
use Rattle.flow_nodes.specs.Marks.{chosen}
use Rattle.flow_nodes.proofs.ChosenNames.{chosen-nothing}
use Rattle.flow_nodes.proofs.MarkSteps.{count-step}
use Rattle.flow_nodes.proofs.marks.Marks.count.Goals as goal

pub loop-word-preserved : goal.loop-word-preserved
loop-word-preserved c =
    let words = c.args.self.now.words in
    let g = c.loop-word.word in
    let size : length words ≡ most_groups = search rules in
    let within : g < length words = omega (arith, size, c.requires, c.loop-word-test.true) in
    let fits : slice_index words g < 2 ^ 16 = search rules in
    record {
      few = omega (arith, c.loop-word.invariant.few, ones-le 16 (slice_index words g) fits);
      rest = λ names enough.
          let next : suc g ≡ g + 1 = omega arith in
          let before = c.loop-word.invariant.rest names enough in
          let step = count-step words names g within fits (omega (arith, enough, c.loop-word-test.true)) in
          let same = ap (λ n. length (chosen (drop n words) (drop (n * 16) names))) next in
          omega (arith, before, step, same);
    }

pub returns : goal.returns
returns c names size =
    let none = drop_all (c.loop-word.word * 16) names (omega (arith, size, c.loop-word-test.false)) in
    let over = ap (λ l. length (chosen (drop c.loop-word.word c.args.self.now.words) l)) none
    ∙ ap length (chosen-nothing (drop c.loop-word.word c.args.self.now.words)) in
    omega (arith, over, c.loop-word.invariant.rest names size)
