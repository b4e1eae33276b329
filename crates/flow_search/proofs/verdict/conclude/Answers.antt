use Rattle.std.proofs.Common.{◌≡◌, ℕ, ◌+◌, ◌<◌, slice_index_or, [], ◌∷◌, ◌++◌, length, None, Some, subst, ap, sym, ◌∙◌}
use Rattle.std.proofs.Common.{arith, append_assoc, length-append}
use Rattle.std.proofs.Math.Seq.{get_or-append_seam}
use Rattle.std.specs.Vec.Iter.{into_iter_items}
use Rattle.flow_search.specs.Outcomes.{IsLawful, IsDone}
use Rattle.flow_search.specs.Plans.{prefixes_of}
use Rattle.flow_search.specs.Verdicts.{first_refusal}
use Rattle.flow_search.specs.internal.Tally.{IsTally}
use Rattle.flow_search.specs.declared.verdict.RunFault.TheVariants.{OverBudget}
use Rattle.flow_search.proofs.Tallies.{refusals, done-at}
use Rattle.flow_search.proofs.verdict.conclude.Goals as goal

pub first_refusal-requires : goal.first_refusal-requires
first_refusal-requires c = omega (arith, c.requires.count, c.prefixes-count.ensures.plan.few)

pub returns-in-Some-clause-over : goal.returns-in-Some-clause-over
returns-in-Some-clause-over c number e =
    let size : length c.args.outcomes.items ≡ length (prefixes_of c.args.plan.now) = sym c.args.outcomes.ok.0
    ∙ c.requires.count in
    let fault : c.in-Some.fault ≡ OverBudget number = cc in
    let first : first_refusal 0 c.args.outcomes.items ≡ Some (OverBudget number) =
    ap (first_refusal 0) (sym c.deref.ensures.value) ∙ sym c.first_refusal.ensures ∙ c.in-Some.is
    ∙ ap (λ f. Some f) fault in
    (refusals c.args.plan.now c.args.outcomes.items (omega (arith, size)) c.requires.lawful).over number first

pub returns-clause-within : goal.returns-clause-within
returns-clause-within c =
    let size : length c.args.outcomes.items ≡ length (prefixes_of c.args.plan.now) = sym c.args.outcomes.ok.0
    ∙ c.requires.count in
    let none : first_refusal 0 c.args.outcomes.items ≡ None = ap (first_refusal 0) (sym c.deref.ensures.value)
    ∙ sym c.first_refusal.ensures ∙ c.in_default.is in
    (refusals c.args.plan.now c.args.outcomes.items (omega (arith, size)) c.requires.lawful).none
    (omega (arith, size)) none

pub returns-clause-done : goal.returns-clause-done
returns-clause-done c i other h =
    let none : first_refusal 0 c.args.outcomes.items ≡ None = ap (first_refusal 0) (sym c.deref.ensures.value)
    ∙ sym c.first_refusal.ensures ∙ c.in_default.is in
    done-at 0 c.args.outcomes.items i other none h

pub loop-outcome-preserved : goal.loop-outcome-preserved
loop-outcome-preserved c =
    let at = c.loop-outcome in
    let o = c.in-Some-outcome.outcome in
    let k : ℕ = length at.yielded in
    let size : length c.args.outcomes.items ≡ length (prefixes_of c.args.plan.now) = sym c.args.outcomes.ok.0
    ∙ c.requires.count in
    let steps : into_iter_items at.outcome-iterator ≡ o ∷ into_iter_items c.next.new.self =
    c.in-Some-outcome.ensures.steps.0 in
    let items : at.yielded ++ o ∷ into_iter_items c.next.new.self ≡ c.args.outcomes.items =
    ap (λ r. at.yielded ++ r) (sym steps) ∙ at.invariant.taken in
    let low : k < length c.args.outcomes.items =
    omega (arith, ap length items, length-append at.yielded (o ∷ into_iter_items c.next.new.self)) in
    let stands : slice_index_or c.args.outcomes.items k o ≡ o = ap (λ os. slice_index_or os k o) (sym items)
    ∙ get_or-append_seam at.yielded o (into_iter_items c.next.new.self) o in
    let lawful : IsLawful c.args.plan.now k o = subst (IsLawful c.args.plan.now k) stands (c.requires.lawful k o low) in
    let none : first_refusal 0 c.args.outcomes.items ≡ None = ap (first_refusal 0) (sym c.deref.ensures.value)
    ∙ sym c.first_refusal.ensures ∙ c.in_default.is in
    let done : IsDone o = subst IsDone stands (done-at 0 c.args.outcomes.items k o none low) in
    let added : IsTally c.args.plan.now (k + 1) c.add.new.self =
    c.in_ok-add.ensures.done c.args.plan.now k (omega (arith, low, size)) at.invariant.tally lawful done in
    let more : length (at.yielded ++ o ∷ []) ≡ k + 1 = omega (arith, length-append at.yielded (o ∷ [])) in
    record {
      taken = append_assoc at.yielded (o ∷ []) (into_iter_items c.next.new.self) ∙ items;
      rest =
          let was = at.invariant.rest in
          let gone = c.in-Some-outcome.ensures.steps.1 in
          let short = ap length steps in
          omega (arith, was, gone, short);
      tally = subst (λ n. IsTally c.args.plan.now n c.add.new.self) (sym more) added;
    }
