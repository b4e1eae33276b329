use Rattle.std.proofs.Common.{◌≡◌, ℕ, ◌+◌, ◌-◌, ◌<◌, ◌∷◌, [], List, slice_index, refl, ap, subst, arith}
use Rattle.flow_nodes.specs.Vectors.{HasLane}
use Rattle.flow_nodes.proofs.ScanSteps.{sums, sums-size, sums-each, differences, differences-size, differences-each}
use Rattle.flow_nodes.proofs.TurnedTimes.{below-four}
use Rattle.flow_nodes.proofs.bytes.slacks_from.Goals as goal

pub put_bytes-requires-clause-four : goal.put_bytes-requires-clause-four
put_bytes-requires-clause-four c =
    let m : ℕ = c.args.limit - 1 in
    differences-size (m ∷ m ∷ m ∷ m ∷ [])
    (sums (sums c.four_of.result c.four_of-then-at-slacks.result) c.four_of-then-at-slacks-2.result) refl
    (sums-size (sums c.four_of.result c.four_of-then-at-slacks.result) c.four_of-then-at-slacks-2.result
    (sums-size c.four_of.result c.four_of-then-at-slacks.result c.four_of.ensures.size
    c.four_of-then-at-slacks.ensures.size) c.four_of-then-at-slacks-2.ensures.size)

pub returns-then-at-slacks-clause-slacks : goal.returns-then-at-slacks-clause-slacks
returns-then-at-slacks-clause-slacks c place lane none above under within =
    let at : ℕ = c.args.at in
    let m : ℕ = c.args.limit - 1 in
    let most : List ℕ = m ∷ m ∷ m ∷ m ∷ [] in
    let machine : ℕ = place - at in
    let low : machine < 4 = omega (arith, above, under) in
    let here : at + machine ≡ place = omega (arith, above) in
    let fits : m < 4294967296 = omega (arith, c.ranges.limit.fits) in
    let small = c.requires.small place (omega (arith, under, c.if-at-slacks.true)) in
    let all : slice_index most machine ≡ m =
    below-four (λ k. slice_index (m ∷ m ∷ m ∷ m ∷ []) k ≡ m) refl refl refl refl machine low in
    let one = c.four_of.ensures.each machine low in
    let two = c.four_of-then-at-slacks.ensures.each machine low in
    let three = c.four_of-then-at-slacks-2.ensures.each machine low in
    let front : slice_index c.four_of.result machine ≡ slice_index c.args.node.now.front place =
    omega (arith, one, ap (slice_index c.args.node.now.front) here) in
    let work : slice_index c.four_of-then-at-slacks.result machine ≡ slice_index c.args.node.now.work place =
    omega (arith, two, ap (slice_index c.args.node.now.work) here) in
    let back : slice_index c.four_of-then-at-slacks-2.result machine ≡ slice_index c.args.node.now.back place =
    omega (arith, three, ap (slice_index c.args.node.now.back) here) in
    let halves = sums-size c.four_of.result c.four_of-then-at-slacks.result c.four_of.ensures.size
    c.four_of-then-at-slacks.ensures.size in
    let half = sums-each c.four_of.result c.four_of-then-at-slacks.result c.four_of.ensures.size
    c.four_of-then-at-slacks.ensures.size machine low (omega (arith, front, work, small, fits)) in
    let whole = sums-each (sums c.four_of.result c.four_of-then-at-slacks.result) c.four_of-then-at-slacks-2.result
    halves c.four_of-then-at-slacks-2.ensures.size machine low
    (omega (arith, half, front, work, back, small, fits)) in
    let wholes = sums-size (sums c.four_of.result c.four_of-then-at-slacks.result) c.four_of-then-at-slacks-2.result
    halves c.four_of-then-at-slacks-2.ensures.size in
    let rest = differences-each most
    (sums (sums c.four_of.result c.four_of-then-at-slacks.result) c.four_of-then-at-slacks-2.result) refl wholes machine
    low (omega (arith, half, whole, front, work, back, small, all)) (omega (arith, all, fits)) in
    let value : slice_index (differences most
    (sums (sums c.four_of.result c.four_of-then-at-slacks.result) c.four_of-then-at-slacks-2.result)) machine
    ≡ m - (slice_index c.args.node.now.front place + slice_index c.args.node.now.work place
    + slice_index c.args.node.now.back place) =
    omega (arith, rest, half, whole, front, work, back, all) in
    subst (HasLane 255 16 _ lane) value (c.put_bytes.ensures.each place lane none under within above)
