use Rattle.std.proofs.Common.{◌≡◌, refl, ap, length, arith}
use Rattle.flow_c.specs.Faults.{shop_of}
use Rattle.flow_c.specs.RunTexts.{kept_bounds, kept_count}
use Rattle.flow_c.proofs.TextSize.{counted-short}
use Rattle.flow_c.proofs.run_text.counted_of.Goals as goal

pub returns-clause-short : goal.returns-clause-short
returns-clause-short c =
    let shop = shop_of c.args.shop.now in
    let jobs = c.args.sequence.now in
    let kept = c.in_ok-kept.ensures in
    let is : c.in_ok-text.text.bytes ≡ kept_count shop c.args.lower jobs c.args.count =
    rw (kept.instance, kept.sequence, kept.bounds) at c.in_ok-text.ensures.text in
    omega (
      arith,
      ap length is,
      counted-short shop (kept_bounds shop c.args.lower jobs) jobs c.args.count kept.limits
          (omega (arith, c.ranges.lower.fits)) kept.each refl (omega (arith, c.ranges.count.fits)),
    )
