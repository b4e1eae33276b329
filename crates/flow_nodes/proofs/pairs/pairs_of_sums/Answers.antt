use Rattle.std.proofs.Common.{◌≡◌, ℕ, ◌+◌, ◌-◌, ◌<◌, slice_index, ap, sym, ◌∙◌, inl, inr, arith}
use Rattle.std.proofs.lemmas.Bool.{cases_lt}
use Rattle.flow_nodes.proofs.ScanSteps.{sums, sums-size, sums-each}
use Rattle.flow_nodes.proofs.pairs.pairs_of_sums.Goals as goal

pub fours-preserved : goal.fours-preserved
fours-preserved g c = record {
  done = λ place low inside.
      let from : ℕ = c.min-from.result in
      elim (cases_lt place from) [
        | inl before ↦
            c.put_four.ensures.before place before
            ∙ c.fours.invariant.done place (omega (arith, before, c.min-from.ensures)) inside
        | inr above ↦
            let lane : ℕ = place - from in
            let within : lane < 4 =
            omega (arith, low, above, inside, c.min-from.ensures, c.requires.few) in
            let is : place ≡ from + lane = omega (arith, above) in
            let one : slice_index c.four_of.result lane ≡ slice_index c.args.first.now place =
            c.four_of.ensures.each lane within ∙ ap (slice_index c.args.first.now) (sym is) in
            let two : slice_index c.four_of-in-fours.result lane ≡ slice_index c.args.second.now place =
            c.four_of-in-fours.ensures.each lane within ∙ ap (slice_index c.args.second.now) (sym is) in
            let read : slice_index (sums c.four_of.result c.four_of-in-fours.result) lane
            ≡ slice_index c.args.first.now place + slice_index c.args.second.now place =
            sums-each c.four_of.result c.four_of-in-fours.result c.four_of.ensures.size c.four_of-in-fours.ensures.size lane within
            (omega (arith, one, two, c.requires.small place inside))
            ∙ omega (arith, one, two) in
            c.put_four.ensures.each lane place within is
            ∙ c.pairs.ensures.each lane within (omega (arith, read, c.requires.fit place inside))
            ∙ ap g.V.Vector.pair_of read
      ];
}

pub pairs-requires : goal.pairs-requires
pairs-requires g c =
    sums-size c.four_of.result c.four_of-in-fours.result c.four_of.ensures.size c.four_of-in-fours.ensures.size
