use Rattle.std.proofs.Common.{Fits, w32, ◌≡◌, ℕ, ◌+◌, ◌-◌, ◌<◌, ◌≤◌, ◌^◌, max, [], ◌∷◌, ◌++◌, slice_index, ap, ◌∙◌, arith}
use Rattle.std.proofs.lemmas.Simd.{Each1-get_or}
use Rattle.flow_nodes.specs.internal.Scan.{done_at, greatest_to}
use Rattle.flow_nodes.proofs.TurnedTimes.{below-four}
use Rattle.flow_nodes.proofs.ScanSteps.{differences-size, differences-each, sums, sums-size, sums-each, lane-left}
use Rattle.flow_nodes.proofs.ScanSteps.{up-four, greatest-step}
use Rattle.flow_nodes.proofs.ScanSteps.{up-small}
use Rattle.flow_nodes.proofs.scan.front_four.Goals as goal

pub greatest_up-greatest-requires-clause-sizes : goal.greatest_up-greatest-requires-clause-sizes
greatest_up-greatest-requires-clause-sizes c = (
  sums-size c.four_of-2.result (sums c.four_of.result c.four_of-tails.result) c.four_of-2.ensures.size
      (sums-size c.four_of.result c.four_of-tails.result c.four_of.ensures.size c.four_of-tails.ensures.size),
  c.requires.size,
)

pub greatest_up-greatest-requires-clause-same : goal.greatest_up-greatest-requires-clause-same
greatest_up-greatest-requires-clause-same c lane within =
    omega (arith, c.requires.before lane within, c.requires.before 0 (omega arith))

pub put_four-requires-clause-four : goal.put_four-requires-clause-four
put_four-requires-clause-four c =
    differences-size c.greatest_up-greatest.result c.four_of-tails.result c.greatest_up-greatest.ensures.size
    c.four_of-tails.ensures.size

-- the four numbers, and the greatest up to each
are : (c : goal.After-put_four) (lane : ℕ) → lane < 4 →
    slice_index (sums c.four_of-2.result (sums c.four_of.result c.four_of-tails.result)) lane
    ≡ done_at c.args.fronts.now c.args.row.now.times c.args.row.now.tails (c.args.at + lane)
are c lane within =
    let tail = c.four_of-tails.ensures.each lane within in
    let time = c.four_of.ensures.each lane within in
    let front = c.four_of-2.ensures.each lane within in
    let fit = c.requires.fit lane within in
    let whole : slice_index (sums c.four_of.result c.four_of-tails.result) lane
    ≡ slice_index c.four_of.result lane + slice_index c.four_of-tails.result lane =
    sums-each c.four_of.result c.four_of-tails.result c.four_of.ensures.size c.four_of-tails.ensures.size lane within
    (omega (arith, tail, time, fit)) in
    omega (
      arith,
      tail,
      time,
      front,
      whole,
      sums-each c.four_of-2.result (sums c.four_of.result c.four_of-tails.result) c.four_of-2.ensures.size
          (sums-size c.four_of.result c.four_of-tails.result c.four_of.ensures.size c.four_of-tails.ensures.size) lane
          within (omega (arith, tail, time, front, whole, fit)),
    )

up : (c : goal.After-put_four) (lane : ℕ) → lane < 4 → slice_index c.greatest_up-greatest.result lane
    ≡ greatest_to (done_at c.args.fronts.now c.args.row.now.times c.args.row.now.tails) (c.args.at + (lane + 1))
up c =
    up-four (done_at c.args.fronts.now c.args.row.now.times c.args.row.now.tails) c.args.at
    c.greatest_up-greatest.result (sums c.four_of-2.result (sums c.four_of.result c.four_of-tails.result))
    (omega (arith, c.greatest_up-greatest.ensures.first, c.requires.before 0 (omega arith)))
    c.greatest_up-greatest.ensures.next (are c)

-- the greatest numbers fit
fits : (c : goal.After-put_four) (lane : ℕ) → lane < 4 → slice_index c.greatest_up-greatest.result lane < 2 ^ 32
fits c lane within =
    let few : slice_index c.args.before 0 < 2 ^ 32 =
    (Each1-get_or (Fits w32) c.args.before 0 0 (omega (arith, c.requires.size)) c.fits-before.1).fits in
    let numbers = λ (k : ℕ) (low : k < 4).
    let n : slice_index (sums c.four_of-2.result (sums c.four_of.result c.four_of-tails.result)) k ≤ 4294967295 = omega (arith, are c k low, c.requires.fit k low) in n in
    let last : slice_index c.greatest_up-greatest.result 0 ≤ 4294967295 =
    omega (arith, c.greatest_up-greatest.ensures.first, few, numbers 0 (omega arith)) in
    omega (
      arith,
      up-small 4294967295 c.greatest_up-greatest.result
          (sums c.four_of-2.result (sums c.four_of.result c.four_of-tails.result)) last c.greatest_up-greatest.ensures.next numbers lane within,
    )

pub returns-clause-greatest : goal.returns-clause-greatest
returns-clause-greatest c =
    let last : slice_index (c.greatest_up-greatest.result ++ c.greatest_up-greatest.result) 3
    ≡ greatest_to (done_at c.args.fronts.now c.args.row.now.times c.args.row.now.tails) (c.args.at + 4) =
    lane-left c.greatest_up-greatest.result c.greatest_up-greatest.ensures.size 3 (omega arith) ∙ up c 3 (omega arith) in
    below-four
    (λ lane. slice_index (slice_index (c.greatest_up-greatest.result ++ c.greatest_up-greatest.result) 3
    ∷ slice_index (c.greatest_up-greatest.result ++ c.greatest_up-greatest.result) 3
    ∷ slice_index (c.greatest_up-greatest.result ++ c.greatest_up-greatest.result) 3
    ∷ slice_index (c.greatest_up-greatest.result ++ c.greatest_up-greatest.result) 3 ∷ []) lane
    ≡ greatest_to (done_at c.args.fronts.now c.args.row.now.times c.args.row.now.tails) (c.args.at + 4))
    last last last last

pub returns-clause-each : goal.returns-clause-each
returns-clause-each c place low high =
    let lane : ℕ = place - c.args.at in
    let is : place ≡ c.args.at + lane = omega (arith, low) in
    let within : lane < 4 = omega (arith, low, high) in
    let after : c.args.at + (lane + 1) ≡ place + 1 = omega (arith, is) in
    let tail : slice_index c.four_of-tails.result lane ≡ slice_index c.args.row.now.tails place =
    c.four_of-tails.ensures.each lane within ∙ ap (slice_index c.args.row.now.tails) (omega (arith, is)) in
    let greatest : slice_index c.greatest_up-greatest.result lane
    ≡ greatest_to (done_at c.args.fronts.now c.args.row.now.times c.args.row.now.tails) (place + 1) =
    up c lane within
    ∙ ap (greatest_to (done_at c.args.fronts.now c.args.row.now.times c.args.row.now.tails)) after in
    let step : greatest_to (done_at c.args.fronts.now c.args.row.now.times c.args.row.now.tails) (place + 1)
    ≡ max (greatest_to (done_at c.args.fronts.now c.args.row.now.times c.args.row.now.tails) place)
    (done_at c.args.fronts.now c.args.row.now.times c.args.row.now.tails place) =
    greatest-step (done_at c.args.fronts.now c.args.row.now.times c.args.row.now.tails) place (place + 1) (omega arith) in
    let small = fits c lane within in
    omega (
      arith,
      c.put_four.ensures.each lane place within is,
      differences-each c.greatest_up-greatest.result c.four_of-tails.result c.greatest_up-greatest.ensures.size
          c.four_of-tails.ensures.size lane within (omega (arith, tail, greatest, step)) small,
      tail,
      greatest,
      step,
    )
