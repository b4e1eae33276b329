use Rattle.std.proofs.Common.{◌≡◌, ℕ, ◌+◌, ◌-◌, ◌<◌, ◌^◌, slice_index, ap, ◌∙◌, arith}
use Rattle.flow_nodes.proofs.ScanSteps.{differences-size, differences-each}
use Rattle.flow_nodes.proofs.scan.fewer_of_four.Goals as goal

pub put_four-requires-clause-four : goal.put_four-requires-clause-four
put_four-requires-clause-four c =
    differences-size c.four_of.result c.four_of-2.result c.four_of.ensures.size c.four_of-2.ensures.size

pub returns-clause-each : goal.returns-clause-each
returns-clause-each c place low high covers =
    let lane : ℕ = place - c.args.at in
    let is : place ≡ c.args.at + lane = omega (arith, low) in
    let within : lane < 4 = omega (arith, low, high) in
    let work : slice_index c.four_of.result lane ≡ slice_index c.args.works.now place =
    c.four_of.ensures.each lane within ∙ ap (slice_index c.args.works.now) (omega (arith, is)) in
    let time : slice_index c.four_of-2.result lane ≡ slice_index c.args.times.now place =
    c.four_of-2.ensures.each lane within ∙ ap (slice_index c.args.times.now) (omega (arith, is)) in
    let small : slice_index c.args.works.now place < 2 ^ 32 = c.fits-works place in
    omega (
      arith,
      c.put_four.ensures.each lane place within is,
      differences-each c.four_of.result c.four_of-2.result c.four_of.ensures.size c.four_of-2.ensures.size lane within
          (omega (arith, covers, work, time)) (omega (arith, work, small)),
      work,
      time,
      covers,
    )
