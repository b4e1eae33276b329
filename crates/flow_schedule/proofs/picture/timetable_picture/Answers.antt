use Rattle.std.proofs.Common.{◌≡◌, ◌∙◌, ℕ, List, ◌++◌, codes, flat_map, take, ap, subst, arith, slice_index_or}
use Rattle.std.proofs.lemmas.List.{take_all}
use Rattle.flow_shop.specs.Paths.{span}
use Rattle.flow_schedule.specs.Timetable.{timetable}
use Rattle.flow_schedule.specs.HeaviestPath.{IsHeaviestPath}
use Rattle.flow_schedule.specs.Scale.{breadth_of, steps_of, IsTickStep}
use Rattle.flow_schedule.specs.PictureHead.{head_text}
use Rattle.flow_schedule.proofs.Texts.{pieces-more}
use Rattle.flow_schedule.proofs.Times.{made}
use Rattle.flow_schedule.specs.Picture.{bar_text}
use Rattle.flow_schedule.proofs.picture.timetable_picture.Goals as goal

pub returns : goal.returns
returns c =
    let breadth : c.breadth_of-breadth.result ≡ breadth_of c.args.instance.now = c.breadth_of-breadth.ensures.value in
    let makespan : c.makespan-makespan.result ≡ span c.args.instance.now c.args.sequence.now =
    c.makespan-makespan.ensures in
    let items : c.deref-operation-items.result.now ≡ timetable c.args.instance.now c.args.sequence.now =
    c.deref-operation-items.ensures.value ∙ c.in_ok-operations.ensures.value in
    let all : take c.loop-operation.operation-index c.deref-operation-items.result.now
    ≡ c.deref-operation-items.result.now =
    take_all c.loop-operation.operation-index c.deref-operation-items.result.now (omega arith) in
    let step = c.tick_step-step.result in
    let bars : ℕ → ℕ → List ℕ = λ breadth makespan. flat_map (bar_text breadth makespan c.in_ok-path.path.items)
    (timetable c.args.instance.now c.args.sequence.now) in
    let text : ℕ → ℕ → List ℕ = λ breadth makespan.
    head_text c.args.instance.now breadth makespan c.args.lower step ++ bars breadth makespan in
    record {
      step = step;
      path = c.in_ok-path.path.items;
      ticks = subst (λ (breadth : ℕ). IsTickStep (span c.args.instance.now c.args.sequence.now) (steps_of breadth) step)
          breadth (subst (λ (makespan : ℕ). IsTickStep makespan (steps_of c.breadth_of-breadth.result) step) makespan
          c.tick_step-step.ensures.value);
      heaviest = subst (λ (list : List ℕ). IsHeaviestPath c.args.instance.now list c.in_ok-path.path.items)
          c.jobs.ensures.value c.in_ok-path.ensures;
      whole = c.in_ok-extend_from_slice.ensures.items
          ∙ ap (λ out. out ++ codes "</g></svg>\n") (c.loop-operation.invariant
          ∙ ap (λ list. c.in_ok-out.out.items
          ++ flat_map (bar_text c.breadth_of-breadth.result c.makespan-makespan.result c.in_ok-path.path.items) list)
          (all ∙ items)
          ∙ ap (λ head. head ++ bars c.breadth_of-breadth.result c.makespan-makespan.result) c.in_ok-out.ensures
          ∙ ap (text c.breadth_of-breadth.result) makespan
          ∙ ap (λ breadth. text breadth (span c.args.instance.now c.args.sequence.now)) breadth);
    }

pub loop-operation-preserved : goal.loop-operation-preserved
loop-operation-preserved c =
    pieces-more (bar_text c.breadth_of-breadth.result c.makespan-makespan.result c.in_ok-path.path.items)
    c.in_ok-out.out.items c.loop-operation.out.items c.push_bar.new.out.items c.deref-operation-items.result.now
    c.loop-operation.operation-index (made 0 0 0 0 0) (omega arith) c.loop-operation.invariant
    (c.in_ok-push_bar.ensures
    ∙ ap (λ list. c.loop-operation.out.items ++ bar_text c.breadth_of-breadth.result c.makespan-makespan.result list
    (slice_index_or c.deref-operation-items.result.now c.loop-operation.operation-index (made 0 0 0 0 0)))
    c.as_slice-in-loop-operation.ensures.value)
