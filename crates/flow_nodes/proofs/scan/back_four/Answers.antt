use Rattle.std.proofs.Common.{Fits, w32, ◌≡◌, ℕ, ◌+◌, ◌-◌, ◌<◌, ◌≤◌, ◌^◌, max, List, [], ◌∷◌, length, slice_index, refl, ap, ◌∙◌}
use Rattle.std.proofs.Common.{arith}
use Rattle.std.proofs.lemmas.Simd.{Each1-get_or}
use Rattle.flow_nodes.specs.internal.Scan.{begun_at, greatest_from}
use Rattle.flow_nodes.proofs.TurnedTimes.{below-four}
use Rattle.flow_nodes.proofs.ScanSteps.{differences, differences-size, differences-each, sums, sums-size, sums-each}
use Rattle.flow_nodes.proofs.ScanSteps.{lane-left, down-four, from-step}
use Rattle.flow_nodes.proofs.ScanSteps.{down-small}
use Rattle.flow_nodes.proofs.scan.back_four.Goals as goal

-- the longest time in all lanes
abbrev longest : List ℕ
longest = 26000000 ∷ 26000000 ∷ 26000000 ∷ 26000000 ∷ []

long : length longest ≡ 4
long = refl

longest-each : (lane : ℕ) → lane < 4 → slice_index longest lane ≡ 26000000
longest-each = below-four (λ lane. slice_index longest lane ≡ 26000000) refl refl refl refl

greatest_down-greatest-requires-clause-sizes_of : (backs tails : List ℕ) → length backs ≡ 4 → length tails ≡ 4 →
    length (sums backs (differences longest tails)) ≡ 4
greatest_down-greatest-requires-clause-sizes_of backs tails b t =
    sums-size backs (differences longest tails) b (differences-size longest tails long t)

pub greatest_down-greatest-requires-clause-sizes : goal.greatest_down-greatest-requires-clause-sizes
greatest_down-greatest-requires-clause-sizes c = (
  greatest_down-greatest-requires-clause-sizes_of c.four_of-2.result c.four_of.result c.four_of-2.ensures.size
      c.four_of.ensures.size,
  c.requires.size,
)

pub put_four-requires-clause-four : goal.put_four-requires-clause-four
put_four-requires-clause-four c =
    differences-size c.greatest_down-greatest.result
    (differences (differences longest c.four_of.result) c.four_of-3.result) c.greatest_down-greatest.ensures.size
    (differences-size (differences longest c.four_of.result) c.four_of-3.result
    (differences-size longest c.four_of.result long c.four_of.ensures.size) c.four_of-3.ensures.size)

-- how long before the four machines the job is begun, the four numbers, and the greatest from each on
before : (c : goal.After-put_four) (lane : ℕ) → lane < 4 → slice_index (differences longest c.four_of.result) lane
    ≡ 26000000 - slice_index c.args.row.now.tails (c.args.at + lane)
before c lane within =
    let tail = c.four_of.ensures.each lane within in
    let whole = c.requires.whole lane within in
    let top = longest-each lane within in
    omega (
      arith,
      tail,
      top,
      differences-each longest c.four_of.result long c.four_of.ensures.size lane within
          (omega (arith, tail, whole, top)) (omega (arith, top)),
    )

are : (c : goal.After-put_four) (lane : ℕ) → lane < 4 →
    slice_index (sums c.four_of-2.result (differences longest c.four_of.result)) lane
    ≡ begun_at c.args.backs.now c.args.row.now.tails (c.args.at + lane)
are c lane within =
    let back = c.four_of-2.ensures.each lane within in
    let early = before c lane within in
    let fit = c.requires.fit lane within in
    omega (
      arith,
      back,
      early,
      sums-each c.four_of-2.result (differences longest c.four_of.result) c.four_of-2.ensures.size
          (differences-size longest c.four_of.result long c.four_of.ensures.size) lane within
          (omega (arith, back, early, fit)),
    )

down : (c : goal.After-put_four) (count : ℕ) →
    slice_index c.args.behind 0 ≡ greatest_from (begun_at c.args.backs.now c.args.row.now.tails) count (c.args.at + 4) →
    (lane : ℕ) → lane < 4 → slice_index c.greatest_down-greatest.result lane
    ≡ greatest_from (begun_at c.args.backs.now c.args.row.now.tails) (count + (4 - lane)) (c.args.at + lane)
down c count is =
    down-four (begun_at c.args.backs.now c.args.row.now.tails) c.args.at count (slice_index c.args.behind 0)
    c.greatest_down-greatest.result (sums c.four_of-2.result (differences longest c.four_of.result)) is
    c.greatest_down-greatest.ensures.last c.greatest_down-greatest.ensures.next (are c)

-- the greatest numbers fit
fits : (c : goal.After-put_four) (lane : ℕ) → lane < 4 → slice_index c.greatest_down-greatest.result lane < 2 ^ 32
fits c lane within =
    let few : slice_index c.args.behind 0 < 2 ^ 32 =
    (Each1-get_or (Fits w32) c.args.behind 0 0 (omega (arith, c.requires.size)) c.fits-behind.1).fits in
    let numbers = λ (k : ℕ) (low : k < 4).
    let n : slice_index (sums c.four_of-2.result (differences longest c.four_of.result)) k ≤ 4294967295 = omega (arith, are c k low, c.requires.fit k low) in n in
    let last : slice_index c.greatest_down-greatest.result 3 ≤ 4294967295 =
    omega (arith, c.greatest_down-greatest.ensures.last, few, numbers 3 (omega arith)) in
    omega (
      arith,
      down-small 4294967295 c.greatest_down-greatest.result
          (sums c.four_of-2.result (differences longest c.four_of.result)) last c.greatest_down-greatest.ensures.next numbers lane within,
    )

pub returns-clause-greatest : goal.returns-clause-greatest
returns-clause-greatest c count is =
    lane-left c.greatest_down-greatest.result c.greatest_down-greatest.ensures.size 0 (omega arith)
    ∙ down c count is 0 (omega arith)
    ∙ ap (greatest_from (begun_at c.args.backs.now c.args.row.now.tails) (count + 4)) (omega arith)

pub returns-clause-each : goal.returns-clause-each
returns-clause-each c count place is low high =
    let lane : ℕ = place - c.args.at in
    let there : place ≡ c.args.at + lane = omega (arith, low) in
    let within : lane < 4 = omega (arith, low, high) in
    let more : count + (4 - lane) ≡ count + (c.args.at + 4 - place) = omega (arith, low, high) in
    let here : c.args.at + lane ≡ place = omega (arith, low) in
    let tail = ap (slice_index c.args.row.now.tails) here in
    let time : slice_index c.four_of-3.result lane ≡ slice_index c.args.row.now.times place =
    c.four_of-3.ensures.each lane within ∙ ap (slice_index c.args.row.now.times) here in
    let same-time = ap (slice_index c.args.row.now.times) here in
    let whole = c.requires.whole lane within in
    let early = before c lane within in
    let greatest : slice_index c.greatest_down-greatest.result lane
    ≡ greatest_from (begun_at c.args.backs.now c.args.row.now.tails) (count + (c.args.at + 4 - place)) place =
    down c count is lane within
    ∙ ap (λ n. greatest_from (begun_at c.args.backs.now c.args.row.now.tails) n (c.args.at + lane)) more
    ∙ ap (greatest_from (begun_at c.args.backs.now c.args.row.now.tails) (count + (c.args.at + 4 - place))) here in
    let fewer : count + (c.args.at + 4 - place) ≡ count + (c.args.at + 4 - place - 1) + 1 = omega (arith, low, high) in
    let step : greatest_from (begun_at c.args.backs.now c.args.row.now.tails) (count + (c.args.at + 4 - place)) place
    ≡ max (greatest_from (begun_at c.args.backs.now c.args.row.now.tails) (count + (c.args.at + 4 - place - 1))
    (place + 1)) (begun_at c.args.backs.now c.args.row.now.tails place) =
    from-step (begun_at c.args.backs.now c.args.row.now.tails) (count + (c.args.at + 4 - place - 1))
    (count + (c.args.at + 4 - place)) place (place + 1) fewer refl in
    let small = fits c lane within in
    let size = differences-size longest c.four_of.result long c.four_of.ensures.size in
    let lag : slice_index (differences (differences longest c.four_of.result) c.four_of-3.result) lane
    ≡ slice_index (differences longest c.four_of.result) lane - slice_index c.four_of-3.result lane =
    differences-each (differences longest c.four_of.result) c.four_of-3.result size c.four_of-3.ensures.size lane
    within (omega (arith, early, time, same-time, whole)) (omega (arith, early)) in
    omega (
      arith,
      c.put_four.ensures.each lane place within there,
      differences-each c.greatest_down-greatest.result
          (differences (differences longest c.four_of.result) c.four_of-3.result) c.greatest_down-greatest.ensures.size
          (differences-size (differences longest c.four_of.result) c.four_of-3.result size c.four_of-3.ensures.size) lane
          within (omega (arith, lag, early, tail, greatest, step)) small,
      lag,
      early,
      tail,
      time,
      same-time,
      whole,
      greatest,
      step,
    )
