use Rattle.std.proofs.Common.{length, sym, ap, ◌∙◌}
use Rattle.flow_shop.specs.JobSet.{members}
use Rattle.flow_shop.proofs.JobSetLemmas.{length-members}
use Rattle.flow_shop.proofs.job_set.JobSet.count.Goals as goal

pub returns : goal.returns
returns c = c.count_of.ensures.value ∙ sym (length-members c.self.inside.flags)
    ∙ ap (λ flags. length (members flags)) c.self.view_is
