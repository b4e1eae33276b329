use Rattle.std.proofs.Common.{ℕ, inl, sym, subst, arith}
use Rattle.std.proofs.lemmas.List.{map-id}
use Rattle.std.specs.Global.{Vec}
use Rattle.flow_directions.specs.Search.{IsAdvanced}
use Rattle.flow_directions.specs.declared.found.Advanced.TheVariants.{Rest}
use Rattle.flow_workers.specs.internal.Pieces.{Reading, reading_of}
use Rattle.flow_workers.proofs.KeptSteps.{rest-step}
use Rattle.flow_workers.proofs.kept.VecU8Kept.search.Goals as goal

pub returns-in-Ok-Rest : goal.returns-in-Ok-Rest
returns-in-Ok-Rest c =
    let sought = c.args.sought.now in
    let reading : Reading (Vec ℕ) = reading_of (λ signs. signs.items) (λ sign. sign) sought in
    let directions = c.in-Ok-Rest.directions in
    let parts = c.in-Ok-Rest.parts in
    let rest : IsAdvanced sought.instance.now sought.threshold c.args.budget c.args.first.now c.args.last.now
    (Rest directions parts) =
    subst (IsAdvanced sought.instance.now sought.threshold c.args.budget c.args.first.now c.args.last.now)
    c.in-Ok-Rest.field-0-is c.in-Ok-Rest.ensures.advanced in
    rest-step reading c.args.budget c.args.first.now c.args.last.now directions directions.items parts
    (sym (map-id directions.items)) rest.2 (omega (arith, rest.1)) (inl rest.1)
