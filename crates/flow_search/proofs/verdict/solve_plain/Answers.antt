use Rattle.std.proofs.Common.{◌≡◌, ◌<◌, length, None, Some, subst, ap, sym, ◌∙◌, arith}
use Rattle.flow_search.specs.Plans.{prefixes_of}
use Rattle.flow_search.specs.Outcomes.{IsDone}
use Rattle.flow_search.specs.Verdicts.{refusal}
use Rattle.flow_search.specs.declared.verdict.RunFault.TheVariants.{OverBudget}
use Rattle.flow_search.proofs.Tallies.{first-over, no-over, refused-over, refuses-nothing, AreWithin}
use Rattle.flow_search.proofs.verdict.solve_plain.Goals as goal

pub returns-in-Some-clause-over : goal.returns-in-Some-clause-over
returns-in-Some-clause-over c number e =
    let low : c.loop-number.number < length (prefixes_of c.args.plan.now) =
    omega (arith, c.loop-number-test.true, c.prefixes-count.ensures.value) in
    let fault : c.in-Some.fault ≡ OverBudget number = cc in
    let over = refused-over c.args.plan.now c.loop-number.number number c.answer-outcome.result
    c.answer-outcome.ensures (sym c.refusal.ensures ∙ c.in-Some.is ∙ ap (λ f. Some f) fault) in
    first-over c.args.plan.now c.loop-number.number low c.loop-number.invariant.within over.0
    ∙ ap (λ k. Some k) over.1

pub returns-clause-within : goal.returns-clause-within
returns-clause-within c =
    let last : c.loop-number.number ≡ length (prefixes_of c.args.plan.now) =
    omega (arith, c.loop-number-test.false, c.prefixes-count.ensures.value) in
    no-over c.args.plan.now
    (subst (AreWithin c.args.plan.now) last c.loop-number.invariant.within)

pub loop-number-preserved : goal.loop-number-preserved
loop-number-preserved c =
    let low : c.loop-number.number < length (prefixes_of c.args.plan.now) =
    omega (arith, c.loop-number-test.true, c.prefixes-count.ensures.value) in
    let none : refusal c.loop-number.number c.answer-outcome.result ≡ None =
    sym c.refusal.ensures ∙ c.in_default.is in
    let done : IsDone c.answer-outcome.result =
    refuses-nothing c.loop-number.number c.answer-outcome.result none in
    c.in_ok-add.ensures.done c.args.plan.now c.loop-number.number low c.loop-number.invariant c.answer-outcome.ensures
    done
