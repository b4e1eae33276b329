use Rattle.std.proofs.Common.{◌≡◌, ℕ, ◌+◌, ◌-◌, ◌<◌, ◌≤◌, max, [], ◌∷◌, length, slice_index, refl, ap, sym}
use Rattle.std.proofs.Common.{◌∙◌, inl, inr, arith}
use Rattle.std.proofs.lemmas.Bool.{cases_lt}
use Rattle.std.proofs.lemmas.List.{length-set}
use Rattle.flow_shop.specs.Ends.{back}
use Rattle.flow_nodes.specs.internal.Scan.{begun_at, greatest_from}
use Rattle.flow_nodes.proofs.TurnedTimes.{below-four}
use Rattle.flow_nodes.proofs.ScanSteps.{from-none, from-step, filled-from, back-begun}
use Rattle.flow_nodes.proofs.scan.back_with.Goals as goal

pub others-init : goal.others-init
others-init c =
    let none : c.args.machines - c.args.machines ≡ 0 = omega arith in
    record {
      within = omega arith;
      long = omega arith;
      size = refl;
      same = below-four (λ lane. slice_index (0 ∷ 0 ∷ 0 ∷ 0 ∷ []) lane ≡ 0) refl refl refl refl;
      behind = sym (ap (λ n. greatest_from (begun_at c.args.backs.now c.args.row.now.tails) n c.args.machines) none
          ∙ from-none (begun_at c.args.backs.now c.args.row.now.tails) c.args.machines);
      done = λ place low high. absurd (omega (arith, low, high));
    }

pub others-preserved : goal.others-preserved
others-preserved c =
    let end : ℕ = c.others.end in
    let here = c.others.invariant in
    let some : 1 ≤ end = omega (arith, c.others-test.true) in
    let within : end - 1 < length c.others.longer = omega (arith, some, here.within, c.requires.machines, here.long) in
    let more : c.args.machines - (end - 1) ≡ c.args.machines - end + 1 = omega (arith, some, here.within) in
    let next : end ≡ end - 1 + 1 = omega (arith, some) in
    let low : slice_index c.args.row.now.tails (end - 1) ≤ 25000000 =
    c.requires.tails (end - 1) (omega (arith, some, here.within)) in
    let step : greatest_from (begun_at c.args.backs.now c.args.row.now.tails) (c.args.machines - (end - 1)) (end - 1)
    ≡ max (greatest_from (begun_at c.args.backs.now c.args.row.now.tails) (c.args.machines - end) end)
    (begun_at c.args.backs.now c.args.row.now.tails (end - 1)) =
    from-step (begun_at c.args.backs.now c.args.row.now.tails) (c.args.machines - end) (c.args.machines - (end - 1))
    (end - 1) end more next in
    let lane0 = c.greater_each-behind.ensures.each 0 (omega arith) in
    let lane1 = c.greater_each-behind.ensures.each 1 (omega arith) in
    let lane2 = c.greater_each-behind.ensures.each 2 (omega arith) in
    let lane3 = c.greater_each-behind.ensures.each 3 (omega arith) in
    let same1 = here.same 1 (omega arith) in
    let same2 = here.same 2 (omega arith) in
    let same3 = here.same 3 (omega arith) in
    let greatest : slice_index c.greater_each-behind.result 0
    ≡ greatest_from (begun_at c.args.backs.now c.args.row.now.tails) (c.args.machines - (end - 1)) (end - 1) =
    omega (arith, lane0, here.behind, step) in
    let time : slice_index c.args.row.now.times (end - 1) ≤ 999999 =
    c.requires.times (end - 1) (omega (arith, some, here.within)) in
    let number : ℕ = slice_index c.greater_each-behind.result 0
    - (26000000 - slice_index c.args.row.now.tails (end - 1) - slice_index c.args.row.now.times (end - 1)) in
    record {
      within = omega (arith, here.within);
      long = length-set c.others.longer (end - 1) number ∙ here.long;
      size = c.greater_each-behind.ensures.size;
      same = below-four
          (λ lane. slice_index c.greater_each-behind.result lane ≡ slice_index c.greater_each-behind.result 0) refl
          (omega (arith, lane0, lane1, same1)) (omega (arith, lane0, lane2, same2))
          (omega (arith, lane0, lane3, same3));
      behind = greatest;
      done = filled-from (λ k v. v + 26000000
          ≡ greatest_from (begun_at c.args.backs.now c.args.row.now.tails) (c.args.machines - k) k
          + (slice_index c.args.row.now.times k + slice_index c.args.row.now.tails k)) c.others.longer (end - 1) number
          within (omega (arith, greatest, step, low, time)) c.args.machines
          (λ place from high. here.done place (omega (arith, from, some)) high);
    }

pub fours-preserved : goal.fours-preserved
fours-preserved c =
    let end : ℕ = c.fours.end in
    let here = c.fours.invariant in
    let some : 4 ≤ end = omega (arith, c.fours-test.true, here.whole) in
    let back-again : end ≡ end - 4 + 4 = omega (arith, some) in
    let behind : slice_index c.fours.behind 0
    ≡ greatest_from (begun_at c.args.backs.now c.args.row.now.tails) (c.args.machines - end) (end - 4 + 4) =
    here.behind
    ∙ ap (greatest_from (begun_at c.args.backs.now c.args.row.now.tails) (c.args.machines - end)) back-again in
    let more : c.args.machines - end + 4 ≡ c.args.machines - (end - 4) = omega (arith, some, here.within) in
    record {
      within = omega (arith, here.within);
      whole = omega (arith, here.whole, some);
      size = c.back_four-behind.ensures.size;
      same = c.back_four-behind.ensures.same;
      behind = c.back_four-behind.ensures.greatest (c.args.machines - end) behind
          ∙ ap (λ n. greatest_from (begun_at c.args.backs.now c.args.row.now.tails) n (end - 4)) more;
      done = λ place low high. elim (cases_lt place end) [
        | inl below ↦
            let count : c.args.machines - end + (end - 4 + 4 - place) ≡ c.args.machines - place =
            omega (arith, some, below, here.within) in
            omega (
              arith,
              c.back_four-behind.ensures.each (c.args.machines - end) place behind low (omega (arith, below, some)),
              ap (λ n. greatest_from (begun_at c.args.backs.now c.args.row.now.tails) n place) count,
            )
        | inr above ↦
            omega (
              arith,
              c.back_four-behind.ensures.others place (omega (arith, above, some)),
              here.done place above high,
            )
      ];
    }

pub returns : goal.returns
returns c shop last job few range are row machine low high =
    let place : ℕ = machine - 1 in
    let next : place + 1 ≡ machine = omega (arith, low) in
    let count : c.args.machines - place ≡ shop.machines - machine + 1 = omega (arith, low, high, few) in
    let value : slice_index c.fours.longer place ≡ back shop (job ∷ last) (place + 1) =
    omega (
      arith,
      c.fours.invariant.done place (omega (arith, c.fours-test.false)) (omega (arith, low, high, few)),
      ap (λ n. greatest_from (begun_at c.args.backs.now c.args.row.now.tails) n place) count,
      back-begun shop job c.args.row.now row last c.args.backs.now
          (λ k within. c.requires.tails k (omega (arith, within, few))) range are (shop.machines - machine) place
          (omega (arith, low, high)),
    ) in
    value ∙ ap (back shop (job ∷ last)) next
