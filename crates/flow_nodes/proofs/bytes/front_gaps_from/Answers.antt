use Rattle.std.proofs.Common.{◌≡◌, ℕ, ◌+◌, ◌-◌, ◌<◌, slice_index, ap, subst, arith}
use Rattle.flow_nodes.specs.Vectors.{HasLane}
use Rattle.flow_nodes.proofs.bytes.front_gaps_from.Goals as goal

pub returns-then-at-gaps-clause-gaps : goal.returns-then-at-gaps-clause-gaps
returns-then-at-gaps-clause-gaps c place lane none above under within =
    let at : ℕ = c.args.at in
    let machine : ℕ = place - at in
    let low : machine < 4 = omega (arith, above, under) in
    let here : at + machine ≡ place = omega (arith, above) in
    let before : at - 1 + machine ≡ place - 1 = omega (arith, above, c.if-at-gt0.true) in
    let value : slice_index c.excess_of_four-four.result machine
    ≡ slice_index c.args.fronts.now place - slice_index c.args.fronts.now (place - 1) =
    omega (
      arith,
      c.excess_of_four-four.ensures.each machine low,
      c.four_of.ensures.each machine low,
      c.four_of-then-at-gaps.ensures.each machine low,
      ap (slice_index c.args.fronts.now) here,
      ap (slice_index c.args.fronts.now) before,
    ) in
    subst (HasLane 255 16 _ lane) value (c.put_bytes.ensures.each place lane none under within above)
