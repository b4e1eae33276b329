use Rattle.std.proofs.Common.{◌≡◌, ℕ, ◌+◌, ◌≤◌, List, insert, take, length, length-take, slice_index}
use Rattle.std.proofs.Common.{arith, ap, ◌∙◌}
use Rattle.flow_shop.specs.Shop.{Shop}
use Rattle.flow_shop.specs.Paths.{span}
use Rattle.flow_bound.proofs.Places.{at-place}
use Rattle.flow_bound.proofs.start.insertion_room.InsertionRoom.best_place.Goals as goal

-- the makespan at each place, in a list that is the one where they stand
in-order : (shop : Shop) (jobs spans items : List ℕ) (job : ℕ) → spans ≡ items →
    ((at : ℕ) → at ≤ length jobs → slice_index items at ≡ span shop (insert jobs at job)) →
    (at : ℕ) → at ≤ length jobs → slice_index spans at ≡ span shop (insert jobs at job)
in-order shop jobs spans items job same each at within = ap (λ xs. slice_index xs at) same ∙ each at within

pub returns-clause-makespan : goal.returns-clause-makespan
returns-clause-makespan c =
    let places = length c.args.partial.now + 1 in
    let room = length-take places c.as_slice-spans.result.now in
    in-order c.args.instance.now c.args.partial.now c.as_slice-spans.result.now c.fill_spans.new.self.spans.items
    c.args.job c.as_slice-spans.ensures.value c.fill_spans.ensures.each c.earliest_least-index.result
    (omega (arith, c.earliest_least-index.ensures.within, room))

pub returns-clause-least : goal.returns-clause-least
returns-clause-least c place low =
    let shop = c.args.instance.now in
    let jobs = c.args.partial.now in
    let spans = c.as_slice-spans.result.now in
    let each = in-order shop jobs spans c.fill_spans.new.self.spans.items c.args.job c.as_slice-spans.ensures.value
    c.fill_spans.ensures.each in
    let best = c.earliest_least-index.result in
    let room : length (take (length jobs + 1) spans) ≡ length jobs + 1 =
    omega (arith, length-take (length jobs + 1) spans, c.as_slice-spans.ensures.len, c.fill_spans.ensures.room.spans) in
    let within : best ≤ length jobs = omega (arith, c.earliest_least-index.ensures.within, room) in
    omega (
      arith,
      each best within,
      at-place shop jobs spans c.args.job best each within,
      at-place shop jobs spans c.args.job place each low,
      c.earliest_least-index.ensures.least place (omega (arith, room)),
    )

pub returns-clause-earliest : goal.returns-clause-earliest
returns-clause-earliest c place low =
    let shop = c.args.instance.now in
    let jobs = c.args.partial.now in
    let spans = c.as_slice-spans.result.now in
    let each = in-order shop jobs spans c.fill_spans.new.self.spans.items c.args.job c.as_slice-spans.ensures.value
    c.fill_spans.ensures.each in
    let best = c.earliest_least-index.result in
    let room : length (take (length jobs + 1) spans) ≡ length jobs + 1 =
    omega (arith, length-take (length jobs + 1) spans, c.as_slice-spans.ensures.len, c.fill_spans.ensures.room.spans) in
    let within : best ≤ length jobs = omega (arith, c.earliest_least-index.ensures.within, room) in
    omega (
      arith,
      each best within,
      at-place shop jobs spans c.args.job best each within,
      at-place shop jobs spans c.args.job place each (omega arith),
      c.earliest_least-index.ensures.earliest place low,
    )
