use Rattle.std.proofs.Common.{◌/◌, ◌%◌, ◌^◌, ◌<◌, slice_index, ap, arith, inl, inr}
use Rattle.std.proofs.lemmas.Bool.{cases_lt}
use Rattle.flow_nodes.proofs.MarkSteps.{inside, found, none-under, none-behind}
use Rattle.flow_nodes.proofs.marks.Marks.next.Goals as goal

pub returns-then-rest-ne0-clause-within : goal.returns-then-rest-ne0-clause-within
returns-then-rest-ne0-clause-within c =
    let fits : slice_index c.args.self.now.words (c.words.place / 16) < 2 ^ 16 =
    omega (arith, c.word.ensures, c.word.type_inv) in
    omega (
      arith,
      c.words-test.true,
      inside c.args.self.now.words c.words.place _ (ap (λ w. w / 2 ^ (c.words.place % 16)) c.word.ensures) fits
          c.if-rest-ne0.true,
    )

pub returns-then-rest-ne0-clause-marked : goal.returns-then-rest-ne0-clause-marked
returns-then-rest-ne0-clause-marked c =
    let fits : slice_index c.args.self.now.words (c.words.place / 16) < 2 ^ 16 =
    omega (arith, c.word.ensures, c.word.type_inv) in
    found c.args.self.now.words c.words.place _ (ap (λ w. w / 2 ^ (c.words.place % 16)) c.word.ensures) fits
    c.if-rest-ne0.true

pub returns-then-rest-ne0-clause-least : goal.returns-then-rest-ne0-clause-least
returns-then-rest-ne0-clause-least c other low high =
    let fits : slice_index c.args.self.now.words (c.words.place / 16) < 2 ^ 16 =
    omega (arith, c.word.ensures, c.word.type_inv) in
    elim (cases_lt other c.words.place) [
      | inl under ↦ c.words.invariant.none other low under
      | inr above ↦ none-under c.args.self.now.words c.words.place _
          (ap (λ w. w / 2 ^ (c.words.place % 16)) c.word.ensures) fits c.if-rest-ne0.true other above high
    ]

pub words-preserved : goal.words-preserved
words-preserved c =
    let fits : slice_index c.args.self.now.words (c.words.place / 16) < 2 ^ 16 =
    omega (arith, c.word.ensures, c.word.type_inv) in
    record {
      from = omega (arith, c.words.invariant.from);
      none = λ other low high. elim (cases_lt other c.words.place) [
        | inl under ↦ c.words.invariant.none other low under
        | inr above ↦ none-behind c.args.self.now.words c.words.place _
            (ap (λ w. w / 2 ^ (c.words.place % 16)) c.word.ensures) fits c.if-rest-ne0.false other above high
      ];
    }
