use Rattle.std.proofs.Common.{rules, ◌≡◌, ℕ, ◌*◌, ◌/◌, ◌%◌, ◌^◌, ◌<◌, slice_index, ap, sym, ◌∙◌, inl, inr, arith}
use Rattle.std.proofs.lemmas.Bool.{cases_lt}
use Rattle.flow_nodes.proofs.MarkSteps.{found, none-under}
use Rattle.flow_nodes.proofs.marks.Marks.first_marked.Goals as goal

pub returns-then-word-ne0-clause-marked : goal.returns-then-word-ne0-clause-marked
returns-then-word-ne0-clause-marked c =
    let words = c.args.self.now.words in
    let group : ℕ = c.loop-group.group in
    let fits : slice_index words group < 2 ^ 16 = search rules in
    let there : group * 16 / 16 ≡ group = omega arith in
    let first : group * 16 % 16 ≡ 0 = omega arith in
    let all : slice_index words group / 2 ^ 0 ≡ slice_index words group = omega arith in
    let is : slice_index words group ≡ slice_index words (group * 16 / 16) / 2 ^ (group * 16 % 16) =
    sym (ap (λ g. slice_index words g / 2 ^ (group * 16 % 16)) there
    ∙ ap (λ k. slice_index words group / 2 ^ k) first ∙ all) in
    found words (group * 16) (slice_index words group) is (omega (arith, fits, ap (slice_index words) there))
    c.if-word-ne0.true

pub returns-then-word-ne0-clause-least : goal.returns-then-word-ne0-clause-least
returns-then-word-ne0-clause-least c other low =
    let words = c.args.self.now.words in
    let group : ℕ = c.loop-group.group in
    let fits : slice_index words group < 2 ^ 16 = search rules in
    let there : group * 16 / 16 ≡ group = omega arith in
    let first : group * 16 % 16 ≡ 0 = omega arith in
    let all : slice_index words group / 2 ^ 0 ≡ slice_index words group = omega arith in
    let is : slice_index words group ≡ slice_index words (group * 16 / 16) / 2 ^ (group * 16 % 16) =
    sym (ap (λ g. slice_index words g / 2 ^ (group * 16 % 16)) there
    ∙ ap (λ k. slice_index words group / 2 ^ k) first ∙ all) in
    elim (cases_lt other (group * 16)) [
      | inl before ↦ c.loop-group.invariant.none other before
      | inr behind ↦
          none-under words (group * 16) (slice_index words group) is (omega (arith, fits, ap (slice_index words) there))
          c.if-word-ne0.true other behind low
    ]
