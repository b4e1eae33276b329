use Rattle.std.proofs.Common.{◌≡◌, ◌≢◌, ℕ, ◌+◌, ◌-◌, ◌<◌, ◌≤◌, ◌∷◌, [], List, slice_index, refl, sym, ◌∙◌, subst, arith}
use Rattle.std.proofs.lemmas.List.{get_or-set_other}
use Rattle.flow_nodes.specs.Vectors.{HasLane}
use Rattle.flow_nodes.proofs.ByteSteps.{byte-lane}
use Rattle.flow_nodes.proofs.ScanSteps.{differences, differences-each}
use Rattle.flow_nodes.proofs.SpreadSteps.{spread-more}
use Rattle.flow_nodes.proofs.TurnedTimes.{below-four}
use Rattle.flow_nodes.proofs.bytes.put_bytes.Goals as goal

-- the greatest number of a byte in all lanes
abbrev most : List ℕ
most = 255 ∷ 255 ∷ 255 ∷ 255 ∷ []

most-each : (lane : ℕ) → lane < 4 → slice_index most lane ≡ 255
most-each = below-four (λ lane. slice_index most lane ≡ 255) refl refl refl refl

pub loop-machine-preserved : goal.loop-machine-preserved
loop-machine-preserved c =
    let machine : ℕ = c.loop-machine.machine in
    let here : ℕ = c.args.at + machine in
    let low : machine < 4 = omega (arith, c.loop-machine-test.true) in
    let over = c.excess_of_four.ensures.each machine low in
    let all = most-each machine low in
    let small : slice_index (differences most c.excess_of_four.result) machine
    ≡ 255 - (255 - slice_index c.args.four machine) =
    omega (
      arith,
      over,
      all,
      differences-each most c.excess_of_four.result refl c.excess_of_four.ensures.size machine low
          (omega (arith, over, all)) (omega (arith, all)),
    ) in
    let same : here - c.args.at ≡ machine = omega arith in
    record {
      done = λ place lane none under within above. spread-more
          (λ p v. c.args.at ≤ p → HasLane 255 16 v lane (slice_index c.args.four (p - c.args.at))) c.loop-machine.bytes
          here c.each.result (omega (arith, low, c.requires.at, c.loop-machine.auto.bytes))
          (λ from. subst (λ m. HasLane 255 16 c.each.result lane (slice_index c.args.four m)) (sym same)
          (byte-lane c.each.result lane (slice_index c.args.four machine)
          (slice_index (differences most c.excess_of_four.result) machine) small (c.each.ensures lane within)))
          (λ p d p-low. λ from. c.loop-machine.invariant.done p lane d p-low within from) place none
          (omega (arith, under)) above;
      before = λ place none under.
          let other : place ≢ here = omega (arith, under) in
          get_or-set_other c.loop-machine.bytes here place c.each.result none other
          ∙ c.loop-machine.invariant.before place none under;
    }

pub returns-clause-each : goal.returns-clause-each
returns-clause-each c place lane none under within above =
    c.loop-machine.invariant.done place lane none (omega (arith, under, c.loop-machine-test.false)) within above
