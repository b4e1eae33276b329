use Rattle.std.proofs.Common.{Fits, w32, ℕ, ◌+◌, ◌<◌, ◌^◌, slice_index, arith}
use Rattle.std.proofs.lemmas.Simd.{Each1-get_or}
use Rattle.flow_nodes.proofs.LaneSteps.{has-greater}
use Rattle.flow_nodes.proofs.ScanSteps.{own-lane, differences-size, differences-each}
use Rattle.flow_nodes.proofs.bytes.excess_of_four.Goals as goal

pub returns-clause-size : goal.returns-clause-size
returns-clause-size c =
    let xs = c.args.four in
    let ys = c.args.others in
    let cap : ℕ = slice_index xs 0 + slice_index ys 0 in
    let great = has-greater w32 cap 4 xs ys 0 (slice_index xs 0) (slice_index ys 0)
    (own-lane cap xs 0 c.requires.sizes.0 (omega arith) (omega arith))
    (own-lane cap ys 0 c.requires.sizes.1 (omega arith) (omega arith)) in
    differences-size _ ys great.count c.requires.sizes.1

pub returns-clause-each : goal.returns-clause-each
returns-clause-each c lane within =
    let xs = c.args.four in
    let ys = c.args.others in
    let cap : ℕ = slice_index xs lane + slice_index ys lane in
    let x : slice_index xs lane < 2 ^ 32 =
    (Each1-get_or (Fits w32) xs lane 0 (omega (arith, c.requires.sizes.0, within)) c.fits-four.1).fits in
    let y : slice_index ys lane < 2 ^ 32 =
    (Each1-get_or (Fits w32) ys lane 0 (omega (arith, c.requires.sizes.1, within)) c.fits-others.1).fits in
    let great = has-greater w32 cap 4 xs ys lane (slice_index xs lane) (slice_index ys lane)
    (own-lane cap xs lane c.requires.sizes.0 within (omega arith))
    (own-lane cap ys lane c.requires.sizes.1 within (omega arith)) in
    omega (
      arith,
      great.value,
      differences-each _ ys great.count c.requires.sizes.1 lane within (omega (arith, great.value))
          (omega (arith, great.value, x, y)),
    )
