use Rattle.std.proofs.Common.{◌≡◌, true, false, cond, Option, [], ◌∷◌, ◌++◌, ap, sym, subst, ◌∙◌}
use Rattle.std.proofs.lemmas.Bool.{cond-true, cond-false}
use Rattle.flow_search.specs.Outcomes.{IsLawful}
use Rattle.flow_search.specs.internal.Tally.{undercuts}
use Rattle.flow_search.specs.declared.outcome.Best.{Best}
use Rattle.flow_search.specs.declared.tally.Tally.{Tally}
use Rattle.flow_search.proofs.Tallies.{tally-more}
use Rattle.flow_search.proofs.tally.Tally.add.Goals as goal
use Rattle.flow_search.proofs.tally.Tally.add.Goals.{then-undercuts, else-undercuts}

pub returns-clause-done : goal.returns-clause-done
returns-clause-done c plan number h is lawful done =
    let next : Option Best = c.in-Done.best in
    let least : Option Best = c.args.self.now.best in
    let best : c.if-undercuts.self.best ≡ cond (undercuts next least) next least = elim c.if-undercuts.branch [
      | then-undercuts w ↦
          let yes : undercuts next least ≡ true = sym c.undercuts.ensures ∙ w.if-undercuts.true in
          ap (λ s. s.best) w.self-is ∙ sym (cond-true (undercuts next least) next least yes)
      | else-undercuts w ↦
          let no : undercuts next least ≡ false = sym c.undercuts.ensures ∙ w.if-undercuts.false in
          ap (λ s. s.best) w.self-is ∙ sym (cond-false (undercuts next least) next least no)
    ] in
    let after : Tally = record { trees = c.push.new.self; best = c.if-undercuts.self.best } in
    let trees : c.if-undercuts.self.trees.items ≡ c.args.self.now.trees.items = elim c.if-undercuts.branch [
      | then-undercuts w ↦ ap (λ s. s.trees.items) w.self-is
      | else-undercuts w ↦ ap (λ s. s.trees.items) w.self-is
    ] in
    tally-more plan number c.args.self.now after next c.in-Done.tree h is
    (subst (IsLawful plan number) c.in-Done.is lawful) best (c.in_ok-push.ensures.items
    ∙ ap (λ xs. xs ++ c.in-Done.tree ∷ []) trees)
