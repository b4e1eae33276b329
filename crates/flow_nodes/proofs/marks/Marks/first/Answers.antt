use Rattle.std.proofs.Common.{◌≢◌, ap, ◌∙◌, inl, inr, arith}
use Rattle.std.proofs.lemmas.Bool.{cases_eq}
use Rattle.flow_nodes.specs.Marks.{mark}
use Rattle.flow_nodes.proofs.MarkedNames.{kept-take}
use Rattle.flow_nodes.proofs.ChosenNames.{chosen-kept}
use Rattle.flow_nodes.proofs.marks.Marks.first.Goals as goal

pub loop-place-preserved : goal.loop-place-preserved
loop-place-preserved c =
    let next = c.loop-place.place in
    record {
      size = c.set.ensures.size;
      marked = λ place low. elim (cases_eq place next) [
        | inl same ↦ ap (mark c.set.new.self.words) same ∙ c.set.ensures.same
        | inr apart ↦ c.set.ensures.others place apart ∙ c.loop-place.invariant.marked place (omega (arith, low, apart))
      ];
      others = λ place high.
          let apart : place ≢ next = omega (arith, high) in
          c.set.ensures.others place apart ∙ c.loop-place.invariant.others place (omega (arith, high));
    }

pub returns-clause-begin : goal.returns-clause-begin
returns-clause-begin c names within =
    chosen-kept c.loop-place.marks.words names
    ∙ kept-take (mark c.loop-place.marks.words) names c.args.count
    (λ i low. c.loop-place.invariant.marked i (omega (arith, low, c.loop-place-test.false)))
    (λ i high one. omega (
      arith,
      one,
      c.loop-place.invariant.others i (omega (
        arith,
        high,
        c.loop-place.auto.place-end,
      )),
    ))
