use Rattle.std.proofs.Common.{◌≡◌, List, [], ◌∷◌, ◌++◌, length, slice_index_or, subst, ap, sym, ◌∙◌, inl, inr, arith}
use Rattle.std.proofs.Common.{length-append}
use Rattle.std.proofs.lemmas.Bool.{cases_lt}
use Rattle.std.proofs.lemmas.List.{get_or_append_left}
use Rattle.std.proofs.Math.Seq.{get_or-append_seam}
use Rattle.flow_search.specs.Plans.{Planned}
use Rattle.flow_search.specs.Outcomes.{IsLawful, AreLawful}
use Rattle.flow_search.specs.declared.outcome.Outcome.{Outcome}
use Rattle.test_libraries.proofs.outcomes.all_outcomes.Goals as goal

-- one more outcome
one-more : (plan : Planned) (outcomes : List Outcome) (next : Outcome) → AreLawful plan outcomes →
    IsLawful plan (length outcomes) next → AreLawful plan (outcomes ++ next ∷ [])
one-more plan outcomes next lawful is number other low = elim (cases_lt number (length outcomes)) [
  | inl less ↦ subst (IsLawful plan number) (sym (get_or_append_left outcomes (next
      ∷ []) other number less)) (lawful number other less)
  | inr more ↦
      let last : length outcomes ≡ number = omega (arith, low, length-append outcomes (next ∷ [])) in
      subst (λ k. IsLawful plan k (slice_index_or (outcomes ++ next ∷ []) k other)) last
      (subst (IsLawful plan (length outcomes)) (sym (get_or-append_seam outcomes next [] other)) is)
]

pub loop-number-preserved : goal.loop-number-preserved
loop-number-preserved c =
    let plan : Planned = c.args.plan.now in
    let here : IsLawful plan (length c.loop-number.outcomes.items) c.answer.result =
    subst (λ k. IsLawful plan k c.answer.result) (sym c.loop-number.invariant.count) c.answer.ensures in
    record {
      count = ap length c.in_ok-push.ensures.items ∙ length-append c.loop-number.outcomes.items (c.answer.result ∷ [])
          ∙ omega (arith, c.loop-number.invariant.count);
      lawful = subst (AreLawful plan) (sym c.in_ok-push.ensures.items)
          (one-more plan c.loop-number.outcomes.items c.answer.result c.loop-number.invariant.lawful here);
    }
