use Rattle.std.proofs.Common.{rules, ◌≡◌, ℕ, ◌+◌, ◌-◌, ◌<◌, max, [], ◌∷◌, ◌++◌, length, slice_index, refl}
use Rattle.std.proofs.Common.{ap, sym, ◌∙◌, arith}
use Rattle.std.proofs.lemmas.List.{length-set}
use Rattle.flow_shop.specs.Ends.{front}
use Rattle.flow_nodes.specs.internal.Scan.{done_at, greatest_to}
use Rattle.flow_nodes.proofs.NodeSteps.{filled-up}
use Rattle.flow_nodes.proofs.TurnedTimes.{below-four}
use Rattle.flow_nodes.proofs.ScanSteps.{greatest-none, greatest-step, front-done}
use Rattle.flow_nodes.proofs.scan.front_with.Goals as goal

pub fours-init : goal.fours-init
fours-init c =
    let none = sym (greatest-none (done_at c.args.fronts.now c.args.row.now.times c.args.row.now.tails)) in
    record {
      within = omega arith;
      long = search rules;
      size = refl;
      before = below-four (λ lane. slice_index (0 ∷ 0 ∷ 0 ∷ 0 ∷ []) lane
          ≡ greatest_to (done_at c.args.fronts.now c.args.row.now.times c.args.row.now.tails) 0) none none none none;
      done = λ place low. absurd (omega (arith, low));
    }

pub others-preserved : goal.others-preserved
others-preserved c =
    let at : ℕ = c.others.at in
    let here = c.others.invariant in
    let below : at < c.args.machines = c.others-test.true in
    let within : at < length c.others.longer = omega (arith, below, c.requires.machines, here.long) in
    let step : greatest_to (done_at c.args.fronts.now c.args.row.now.times c.args.row.now.tails) (at + 1)
    ≡ max (greatest_to (done_at c.args.fronts.now c.args.row.now.times c.args.row.now.tails) at)
    (done_at c.args.fronts.now c.args.row.now.times c.args.row.now.tails at) =
    greatest-step (done_at c.args.fronts.now c.args.row.now.times c.args.row.now.tails) at (at + 1) refl in
    let lane0 : slice_index c.greater_each-before.result 0
    ≡ greatest_to (done_at c.args.fronts.now c.args.row.now.times c.args.row.now.tails) (at + 1) =
    omega (arith, c.greater_each-before.ensures.each 0 (omega arith), here.before 0 (omega arith), step) in
    let lane1 : slice_index c.greater_each-before.result 1
    ≡ greatest_to (done_at c.args.fronts.now c.args.row.now.times c.args.row.now.tails) (at + 1) =
    omega (arith, c.greater_each-before.ensures.each 1 (omega arith), here.before 1 (omega arith), step) in
    let lane2 : slice_index c.greater_each-before.result 2
    ≡ greatest_to (done_at c.args.fronts.now c.args.row.now.times c.args.row.now.tails) (at + 1) =
    omega (arith, c.greater_each-before.ensures.each 2 (omega arith), here.before 2 (omega arith), step) in
    let lane3 : slice_index c.greater_each-before.result 3
    ≡ greatest_to (done_at c.args.fronts.now c.args.row.now.times c.args.row.now.tails) (at + 1) =
    omega (arith, c.greater_each-before.ensures.each 3 (omega arith), here.before 3 (omega arith), step) in
    let number : ℕ = slice_index c.greater_each-before.result 0 - slice_index c.args.row.now.tails at in
    record {
      within = omega (arith, below);
      long = length-set c.others.longer at number ∙ here.long;
      size = c.greater_each-before.ensures.size;
      before = below-four (λ lane. slice_index c.greater_each-before.result lane
          ≡ greatest_to (done_at c.args.fronts.now c.args.row.now.times c.args.row.now.tails) (at + 1))
          lane0 lane1 lane2 lane3;
      done = filled-up (λ k v. v + slice_index c.args.row.now.tails k
          ≡ greatest_to (done_at c.args.fronts.now c.args.row.now.times c.args.row.now.tails) (k + 1)) c.others.longer at
          number within (omega (arith, lane0, step)) here.done;
    }

pub returns : goal.returns
returns c shop first job few all range are row machine low high =
    let place : ℕ = machine - 1 in
    let next : place + 1 ≡ machine = omega (arith, low) in
    let value : slice_index c.others.longer place ≡ front shop (first ++ job ∷ []) (place + 1) =
    omega (
      arith,
      c.others.invariant.done place (omega (arith, low, high, few, c.others-test.false)),
      front-done shop job c.args.row.now row first c.args.fronts.now all range are place (omega (arith, low, high)),
    ) in
    value ∙ ap (front shop (first ++ job ∷ [])) next
