use Rattle.std.proofs.Common.{◌≡◌, ◌≢◌, ℕ, ◌+◌, ◌-◌, ◌*◌, ◌<◌, ◌≤◌, length, slice_index, take, drop, get_or-take}
use Rattle.std.proofs.Common.{◌∙◌, subst, arith}
use Rattle.std.proofs.lemmas.List.{get_or-drop, get_or-set_other}
use Rattle.flow_nodes.specs.Vectors.{HasLane}
use Rattle.flow_nodes.proofs.SpreadSteps.{spread-more}
use Rattle.flow_nodes.proofs.group.write_four.Goals as goal

pub loop-place-preserved : goal.loop-place-preserved
loop-place-preserved g c =
    let here : ℕ = c.loop-place.place in
    let at : ℕ = c.args.at in
    let block = c.args.block.now in
    let group = c.loop-place.group in
    let from = (here - at) * 16 in
    record {
      before = λ place none low.
          let apart : place ≢ here = omega (arith, low) in
          get_or-set_other group here place c.load.result none apart ∙ c.loop-place.invariant.before place none low;
      done = λ place lane none high low within.
          let read : slice_index (take (from + 16 - from) (drop from block)) lane ≡ slice_index block (from + lane) =
          get_or-take (from + 16 - from) (drop from block) lane 0 (omega (arith, within, c.requires.wide))
          ∙ get_or-drop from block lane 0 in
          let fits : here < length group =
          omega (arith, c.loop-place-test.true, c.min-end.ensures, c.loop-place.auto.group) in
          spread-more
          (λ p v. at ≤ p → HasLane g.V.Vector.CAP g.V.Vector.WIDTH (g.V.Vector.list v) lane
          (slice_index block ((p - at) * 16 + lane))) group here c.load.result fits
          (λ above. subst (HasLane g.V.Vector.CAP g.V.Vector.WIDTH (g.V.Vector.list c.load.result) lane) read
          (c.load.ensures lane within))
          (λ p d under above. c.loop-place.invariant.done p lane d above under within) place none low high;
    }

pub returns-clause-each : goal.returns-clause-each
returns-clause-each g c place lane none high low inside within =
    c.loop-place.invariant.done place lane none high
    (omega (arith, low, inside, c.loop-place-test.false, c.min-end.ensures, c.loop-place.auto.place-end)) within
