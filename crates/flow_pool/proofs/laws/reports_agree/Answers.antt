use Rattle.std.proofs.Common.{ap, sym, ◌∙◌}
use Rattle.flow_search.proofs.OnePlan.{plans-trees, plans-verdict}
use Rattle.flow_pool.proofs.laws.reports_agree.Goals as goal

pub returns : goal.returns
returns c plan other one another is also alike of too =
    let verdict = plans-verdict plan other is also alike.shop alike.sequence alike.depth in
    let trees = plans-trees plan other is also alike.shop alike.sequence alike.depth alike.version in
    record {
      value = of.verdict.value ∙ ap (λ f. f.value) verdict ∙ sym too.verdict.value;
      sequence = of.verdict.sequence ∙ ap (λ f. f.sequence) verdict ∙ sym too.verdict.sequence;
      trees = of.verdict.trees ∙ trees ∙ sym too.verdict.trees;
    }
