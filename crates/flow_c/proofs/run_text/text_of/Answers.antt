use Rattle.std.proofs.Common.{◌≡◌, ◌∙◌, ap, []}
use Rattle.flow_c.specs.Faults.{shop_of}
use Rattle.flow_c.specs.RunTexts.{kept_bounds, kept_text}
use Rattle.flow_c.specs.internal.Around.{with_directions}
use Rattle.flow_c.proofs.TextSize.{text-with}
use Rattle.flow_c.proofs.run_text.text_of.Goals as goal

-- the text, once the directions are put in
pub returns-clause-text : goal.returns-clause-text
returns-clause-text c =
    let shop = shop_of c.args.shop.now in
    let jobs = c.args.sequence.now in
    let kept = c.in_ok-kept.ensures in
    let is : c.in_ok-text.text.bytes ≡ kept_text shop c.args.lower jobs [] =
    rw (kept.instance, kept.sequence, kept.bounds) at c.in_ok-text.ensures.text in
    ap (λ around. with_directions around c.args.directions.now) is
    ∙ text-with shop (kept_bounds shop c.args.lower jobs) jobs c.args.directions.now
