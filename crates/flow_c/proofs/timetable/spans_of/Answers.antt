use Rattle.std.proofs.Common.{◌≡◌, ◌*◌, ◌∙◌, length, ap}
use Rattle.std.proofs.lemmas.List.{length-map}
use Rattle.flow_shop.specs.Shop.{Shop}
use Rattle.flow_schedule.specs.declared.operations.Operation.{Operation}
use Rattle.flow_schedule.proofs.Tables.{timetable-length}
use Rattle.flow_c.proofs.timetable.spans_of.Goals as goal

-- a time of each operation: as many as there are jobs and machines
pub returns-clause-count : goal.returns-clause-count
returns-clause-count c =
    let whole : length c.in_ok-sequence.sequence ≡ c.in_ok-instance.instance.jobs =
    ap length c.in_ok-sequence.ensures.value ∙ c.in_ok-sequence.ensures.each.whole in
    let sizes : c.in_ok-instance.instance.jobs * c.in_ok-instance.instance.machines
    ≡ c.args.shop.now.jobs * c.args.shop.now.machines =
    ap (λ (shop : Shop). shop.jobs * shop.machines) c.in_ok-instance.ensures.value in
    let all : length c.as_slice.result.now ≡ c.args.shop.now.jobs * c.args.shop.now.machines =
    ap length c.as_slice.ensures.value ∙ ap length c.in_ok-operations.ensures.value
    ∙ timetable-length c.in_ok-instance.instance c.in_ok-sequence.sequence
    ∙ ap (λ n. n * c.in_ok-instance.instance.machines) whole ∙ sizes in (
      ap length c.in_ok-starts_and_ends.ensures.starts
          ∙ length-map c.as_slice.result.now (λ (operation : Operation). operation.start) ∙ all,
      ap length c.in_ok-starts_and_ends.ensures.ends
          ∙ length-map c.as_slice.result.now (λ (operation : Operation). operation.end) ∙ all,
    )
