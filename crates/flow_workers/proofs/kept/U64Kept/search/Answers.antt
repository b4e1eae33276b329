use Rattle.std.proofs.Common.{ℕ, inl, replicate, sym, subst, arith}
use Rattle.flow_directions.specs.Search.{IsTallied, directions_of}
use Rattle.flow_directions.specs.declared.found.Tallied.TheVariants.{Proved, Rest}
use Rattle.flow_workers.specs.internal.Pieces.{Reading, reading_of}
use Rattle.flow_workers.proofs.KeptSteps.{proved-step, reached-step, rest-step, so-many}
use Rattle.flow_workers.proofs.kept.U64Kept.search.Goals as goal

pub returns-in-Ok-Proved : goal.returns-in-Ok-Proved
returns-in-Ok-Proved c =
    let sought = c.args.sought.now in
    let reading : Reading ℕ = reading_of (λ count. replicate count 0) (λ sign. 0) sought in
    let first = c.args.first.now in
    let last = c.args.last.now in
    let count = c.in-Ok-Proved.directions in
    let found : IsTallied sought.instance.now sought.threshold c.args.budget first last (Proved count) =
    subst (IsTallied sought.instance.now sought.threshold c.args.budget first last) c.in-Ok-Proved.field-0-is
    c.in-Ok-Proved.ensures.tallied in
    let text = directions_of sought.instance.now sought.threshold first last in
    proved-step reading c.args.budget first last count c.new-none.result c.new-none.ensures.items
    (so-many text count found.1) found.0 (omega (arith, found.1, found.2))

pub returns-in-Ok-Below : goal.returns-in-Ok-Below
returns-in-Ok-Below c =
    let sought = c.args.sought.now in
    let reading : Reading ℕ = reading_of (λ count. replicate count 0) (λ sign. 0) sought in
    let first = c.args.first.now in
    let last = c.args.last.now in
    let count = c.in-Ok-Below.directions in
    let found =
    subst (IsTallied sought.instance.now sought.threshold c.args.budget first last) c.in-Ok-Below.field-0-is
    c.in-Ok-Below.ensures.tallied in
    let text = directions_of sought.instance.now sought.threshold first last in
    reached-step reading c.args.budget first last c.in-Ok-Below.sequence count c.new-none.result
    c.new-none.ensures.items (so-many text count found.2) found.0 (omega (arith, found.2, found.3))

pub returns-in-Ok-Rest : goal.returns-in-Ok-Rest
returns-in-Ok-Rest c =
    let sought = c.args.sought.now in
    let reading : Reading ℕ = reading_of (λ count. replicate count 0) (λ sign. 0) sought in
    let first = c.args.first.now in
    let last = c.args.last.now in
    let parts = c.in-Ok-Rest.parts in
    let rest : IsTallied sought.instance.now sought.threshold c.args.budget first last (Rest parts) =
    subst (IsTallied sought.instance.now sought.threshold c.args.budget first last) c.in-Ok-Rest.field-0-is
    c.in-Ok-Rest.ensures.tallied in
    rest-step reading c.args.budget first last c.args.budget rest.0 parts
    (so-many rest.0 c.args.budget (sym rest.1.1)) rest.1.2 (omega (arith, rest.1.1)) (inl rest.1.1)
