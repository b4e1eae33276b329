use Rattle.std.proofs.Common.{◌≡◌, ℕ, ◌+◌, ◌-◌, ◌*◌, ◌<◌, ◌≤◌, max, List, [], map, slice_index, slice_index_or, ap, sym}
use Rattle.std.proofs.Common.{◌∙◌, inl, inr, arith}
use Rattle.flow_limits.specs.Limits.{most_machines, greatest_time, greatest_completion}
use Rattle.flow_shop.specs.Shop.{Shop, numbers}
use Rattle.flow_shop.specs.Least.{greatest}
use Rattle.flow_shop.specs.Sequences.{jobs_left}
use Rattle.flow_shop.specs.Bound.{front_of}
use Rattle.flow_shop.proofs.Admissible.{front_of-is}
use Rattle.flow_search.specs.declared.few_left.group.TheConstants.{GONE}
use Rattle.flow_search.specs.declared.few_left.group.MachineRow.{MachineRow}
use Rattle.flow_search.specs.internal.Columns.{child}
use Rattle.flow_search.proofs.ColumnsPassed.{row-small}
use Rattle.flow_bound.proofs.Releases.{start_from}
use Rattle.flow_search.proofs.ColumnsReleased.{start_from-is, start_from-more, release-is}
use Rattle.flow_search.proofs.few_left.releases.releases.Goals as goal
use Rattle.flow_search.proofs.few_left.releases.releases.Goals.{After-others-least}

abbrev none : MachineRow
none = record { time = []; tail = [] }

pub sums-needs-requires : goal.sums-needs-requires
sums-needs-requires c = record {
  fits = λ column low.
      let small = row-small c.args.instance.now c.requires.opened.0 c.args.group.now c.args.frame.now none c.args.place
      column c.requires.opened.1.at c.requires.to low in
      omega (arith, small.time, small.tail);
}

pub loop-earlier-init : goal.loop-earlier-init
loop-earlier-init c = record {
  small = λ column low. omega (arith, c.requires.small c.args.place column c.requires.to low);
  each = λ list column other opened here there differ. omega arith;
}

pub sums-requires : goal.sums-requires
sums-requires c = record {
  fits = λ column low.
      let small = row-small c.args.instance.now c.requires.opened.0 c.args.group.now c.args.frame.now none
      c.loop-earlier.earlier column c.requires.opened.1.at (omega (arith, c.requires.to, c.loop-earlier-test.true))
      low in
      omega (arith, small.time, small.tail);
}

-- the start from the machine in a column, at most
sum-small : (c : After-others-least) (column : ℕ) → column < 8 →
    slice_index (slice_index_or c.args.frame.now.free c.loop-earlier.earlier []) column
    + slice_index c.others-least.result column
    ≤ greatest_completion + most_machines * greatest_time + greatest_time + GONE
sum-small c column low =
    let at = c.requires.opened.1.at in
    let to : c.loop-earlier.earlier < c.args.instance.now.machines = omega
    (arith, c.requires.to, c.loop-earlier-test.true) in
    let best = (c.others-least.ensures.each column low).one in
    let small = row-small c.args.instance.now c.requires.opened.0 c.args.group.now c.args.frame.now none
    c.loop-earlier.earlier best.0 at to best.1 in
    let masked = c.greater.ensures.each best.0 best.1 in
    let between = c.differences-between.ensures.each best.0 best.1 in
    let all = c.sums.ensures.each best.0 best.1 in
    let free = c.requires.small c.loop-earlier.earlier column to low in
    elim (at.gone best.0 best.1) [
      | inl zero ↦ omega (arith, best.3, small.time, small.tail, masked, between, all, free, zero)
      | inr gone ↦ omega (arith, best.3, small.time, small.tail, masked, between, all, free, gone)
    ]

pub sums-requires-in-loop-earlier : goal.sums-requires-in-loop-earlier
sums-requires-in-loop-earlier c = record {
  fits = λ column low. omega (arith, sum-small (goal.at.sums-requires-in-loop-earlier c).After-others-least column low);
}

pub loop-earlier-preserved : goal.loop-earlier-preserved
loop-earlier-preserved c = record {
  small = λ column low.
      omega (
        arith,
        c.greater-in-loop-earlier.ensures.each column low,
        c.sums-in-loop-earlier.ensures.each column low,
        sum-small (goal.at.loop-earlier-preserved c).After-others-least column low,
        c.loop-earlier.invariant.small column low,
      );
  each = λ list column other opened here there differ.
      let shop : Shop = c.args.instance.now in
      let step = start_from-is shop list c.args.group.now c.args.frame.now none column other c.loop-earlier.earlier
      c.args.place
      (slice_index c.others-least.result column) c.differences-between.result c.greater.result
      c.machines.ensures.limits opened here there differ c.loop-earlier-test.true c.requires.to
      (λ k low. omega (
        arith,
        c.differences-between.ensures.each k low,
        c.sums.ensures.each k low,
        c.sums-needs.ensures.each k low,
      ))
      c.greater.ensures.each (c.others-least.ensures.each column here.within) in
      start_from-more shop (front_of shop (child list c.args.group.now column))
      (jobs_left shop.jobs (child list c.args.group.now column)) (c.args.place + 1) c.loop-earlier.earlier
      (slice_index (slice_index_or c.args.frame.now.free c.args.place []) column)
      (slice_index c.loop-earlier.late column) (slice_index c.greater-in-loop-earlier.result column)
      (c.loop-earlier.invariant.each list column other opened here there differ)
      (c.greater-in-loop-earlier.ensures.each column here.within
      ∙ ap (max (slice_index c.loop-earlier.late column))
      (c.sums-in-loop-earlier.ensures.each column here.within ∙ step));
}

pub returns-clause-small : goal.returns-clause-small
returns-clause-small c = c.loop-earlier.invariant.small

pub returns-clause-each : goal.returns-clause-each
returns-clause-each c list column other opened here there differ =
    let shop : Shop = c.args.instance.now in
    let front : List ℕ = front_of shop (child list c.args.group.now column) in
    let left : List ℕ = jobs_left shop.jobs (child list c.args.group.now column) in
    let e : c.loop-earlier.earlier ≡ c.args.place = omega
    (arith, c.loop-earlier-test.false, c.loop-earlier.auto.earlier-end) in
    let back : c.args.place + 1 - 1 ≡ c.args.place = omega arith in
    let free : slice_index (slice_index_or c.args.frame.now.free c.args.place []) column ≡ slice_index front
    c.args.place =
    opened.free c.args.place column here c.requires.to
    ∙ sym (front_of-is shop (child list c.args.group.now column) (c.args.place + 1) (omega arith)
    (omega (arith, c.requires.to)))
    ∙ ap (slice_index front) back in
    c.loop-earlier.invariant.each list column other opened here there differ
    ∙ ap (λ n. max n (greatest (map (start_from shop front left (c.args.place + 1)) (numbers 1
    c.loop-earlier.earlier)))) free
    ∙ ap (λ n. max (slice_index front c.args.place) (greatest (map (start_from shop front left (c.args.place + 1))
    (numbers 1 n)))) e
    ∙ sym (release-is shop front left c.args.place)
