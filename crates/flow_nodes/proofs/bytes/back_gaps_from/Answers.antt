use Rattle.std.proofs.Common.{◌≡◌, ℕ, ◌+◌, ◌-◌, ◌<◌, min, slice_index, ap, subst, arith}
use Rattle.flow_nodes.specs.Vectors.{HasLane}
use Rattle.flow_nodes.proofs.bytes.back_gaps_from.Goals as goal

pub returns-then-at-lt-MAX_MACHINES-clause-gaps : goal.returns-then-at-lt-MAX_MACHINES-clause-gaps
returns-then-at-lt-MAX_MACHINES-clause-gaps c place lane none above under within =
    let at : ℕ = c.args.at in
    let machine : ℕ = place - at in
    let low : machine < 4 = omega (arith, above, under) in
    let here : at + machine ≡ place = omega (arith, above) in
    let behind : at + 1 + machine ≡ min (place + 1) 25 =
    omega (arith, above, under, c.if-at-lt-MAX_MACHINES.true) in
    let value : slice_index c.excess_of_four-four.result machine
    ≡ slice_index c.args.backs.now place - slice_index c.args.backs.now (min (place + 1) 25) =
    omega (
      arith,
      c.excess_of_four-four.ensures.each machine low,
      c.four_of.ensures.each machine low,
      c.four_of-then-at-lt-MAX_MACHINES.ensures.each machine low,
      ap (slice_index c.args.backs.now) here,
      ap (slice_index c.args.backs.now) behind,
    ) in
    subst (HasLane 255 16 _ lane) value (c.put_bytes.ensures.each place lane none under within above)
