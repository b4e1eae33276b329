use Rattle.std.proofs.Common.{◌≡◌, ℕ, ◌+◌, ◌-◌, ◌≤◌, map, slice_index, ap, arith}
use Rattle.flow_limits.specs.Limits.{greatest_completion}
use Rattle.flow_shop.specs.Shop.{numbers}
use Rattle.flow_shop.specs.Least.{greatest}
use Rattle.flow_shop.proofs.Ranges.{greatest-step}
use Rattle.flow_bound.proofs.Releases.{start_from, start-here}
use Rattle.flow_bound.proofs.rest.release_from_lags.Goals as goal

pub loop-from-preserved : goal.loop-from-preserved
loop-from-preserved c =
    let from = c.loop-from.from in
    let front : slice_index c.args.front.now (from - 1) ≤ greatest_completion =
    c.requires.within (from - 1) (omega arith) in
    record {
      is = λ shop jobs lags.
          omega (
            arith,
            c.max-release.ensures,
            c.at.ensures,
            c.from.ensures,
            lags from c.loop-from.auto.from (omega arith),
            c.loop-from.invariant.is shop jobs lags,
            greatest-step (start_from shop c.args.front.now jobs c.args.machine) from c.loop-from.auto.from,
          );
      limit = omega (arith, c.max-release.ensures, c.at.ensures, c.from.ensures, front, c.loop-from.invariant.limit);
    }

pub returns-clause-value : goal.returns-clause-value
returns-clause-value c shop jobs lags =
    let machine = c.args.machine in
    let start = start_from shop c.args.front.now jobs machine in
    let greatest_to = λ (n : ℕ). greatest (map start (numbers 1 n)) in
    let last : c.loop-from.from - 1 ≡ machine - 1 = omega arith in
    let whole : machine + 1 - 1 ≡ machine = omega arith in
    omega (
      arith,
      c.loop-from.invariant.is shop jobs lags,
      ap greatest_to last,
      ap greatest_to whole,
      greatest-step start machine c.requires.from,
      start-here shop c.args.front.now jobs machine c.requires.from,
    )
