-- Answers that are over the budget, and what the first refusal says.
use Rattle.std.proofs.Common.{◌≡◌, ℕ, ◌+◌, ◌≤◌, false, ◌||◌, List, [], ◌∷◌, ◌++◌, length}
use Rattle.std.proofs.Common.{map, Some, None, refl, sym, ap, ◌∙◌}
use Rattle.std.proofs.lemmas.Bool.{or_parts}
use Rattle.std.proofs.lemmas.List.Folds.{list_any-append}
use Rattle.flow_search.specs.declared.outcome.Outcome.{Outcome}
use Rattle.flow_search.specs.declared.outcome.Outcome.TheVariants as outcome
use Rattle.flow_search.specs.declared.verdict.RunFault.{RunFault}
use Rattle.flow_search.specs.declared.verdict.RunFault.TheVariants.{OverBudget, Memory}
use Rattle.flow_search.specs.Plans.{Planned, prefixes_of}
use Rattle.flow_search.specs.Outcomes.{AreLawful}
use Rattle.flow_search.specs.Verdicts.{first_refusal}
use Rattle.flow_search.proofs.Tallies.{refusals}
use Rattle.flow_pool.specs.declared.messages.Answer.{Answer}
use Rattle.flow_pool.specs.internal.HubSteps.{is_over_budget, any_over_budget}
use Rattle.flow_pool.specs.Report.{IsSolveFault, solve_fault}

-- where none of more answers is over the budget, none was
pub any_over_budget-push : (answers more : List Answer) (a : Answer) → more ≡ answers ++ a ∷ [] →
    any_over_budget more ≡ false → any_over_budget answers ≡ false
any_over_budget-push answers more a pushed none =
    (or_parts (any_over_budget answers) (any_over_budget (a ∷ []))
    (sym (list_any-append (λ (b : Answer). is_over_budget b.outcome) answers (a ∷ []))
    ∙ (sym (ap any_over_budget pushed) ∙ none))).0

-- where nothing is refused, no answer is over the budget
pub none-over_budget : (number : ℕ) (answers : List Answer) →
    first_refusal number (map (λ (a : Answer). a.outcome) answers) ≡ None → any_over_budget answers ≡ false
none-over_budget number [] none = refl
none-over_budget number (a ∷ answers) none = go a.outcome (none-over_budget (number + 1) answers) none
  where
    go : (o : Outcome) → (first_refusal (number + 1) (map (λ (b : Answer). b.outcome) answers) ≡ None →
        any_over_budget answers ≡ false) →
        first_refusal number (o ∷ map (λ (b : Answer). b.outcome) answers) ≡ None →
        (is_over_budget o || any_over_budget answers) ≡ false
    go (outcome.Done best text) rest e = rest e
    go outcome.OverBudget rest e = absurd (cc)
    go outcome.NoMemory rest e = absurd (cc)
    go outcome.NoPrefix rest e = absurd (cc)

-- the fault of the first outcome that is not done is that of a run
pub IsSolveFault-first : (plan : Planned) (outcomes : List Outcome) (fault : RunFault) →
    length outcomes ≤ length (prefixes_of plan) → AreLawful plan outcomes →
    first_refusal 0 outcomes ≡ Some fault → IsSolveFault plan (solve_fault fault)
IsSolveFault-first plan outcomes Memory few lawful e = tt
IsSolveFault-first plan outcomes (OverBudget k) few lawful e = (refusals plan outcomes few lawful).over k e
