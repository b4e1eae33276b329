use Rattle.std.proofs.Common.{◌≡◌, ◌∙◌, ap, refl, rules, tests, ℕ, List, [], Option, Some, None, Bor, unwrap_or}
use Rattle.std.proofs.Common.{option_map}
use Rattle.std.proofs.lemmas.Iterator.Consumers.{nth_from_yields_List}
use Rattle.std.proofs.lemmas.Iterator.Splits.{YieldsList-from_slice_split}
use Rattle.flow_commands.proofs.report.nodes.Goals as goal

-- what stands in the place of a line
or-line : (line : Option (Bor (List ℕ))) (other : Bor (List ℕ)) → other.now ≡ [] →
    (unwrap_or line other).now ≡ unwrap_or (option_map (λ l. l.now) line) []
or-line (Some line) other e = refl
or-line None other e = e

pub returns : goal.returns
returns c =
    let fifth = nth_from_yields_List _ _ 4 c.nth.ensures.ran (YieldsList-from_slice_split _ _ c.args.text.now
    c.split.ensures.rest c.split.ensures.done c.split.ensures.closure (λ x r q k. search (rules, tests))) in
    ap (λ l. l.now) c.unwrap_or.ensures ∙ or-line c.nth.result _ refl ∙ ap (λ l. unwrap_or l []) fifth
