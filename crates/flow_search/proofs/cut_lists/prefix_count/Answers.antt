use Rattle.std.proofs.Common.{◌≡◌, ℕ, ◌+◌, ◌-◌, ◌*◌, ◌≤◌, length, ap, sym, ◌∙◌, arith}
use Rattle.flow_shop.specs.Sequences.{cut}
use Rattle.flow_search.proofs.CutLemmas.{falling, cut-size, factor, at-least}
use Rattle.flow_search.proofs.cut_lists.prefix_count.Goals as goal

pub loop-used-init : goal.loop-used-init
loop-used-init c =
    let whole : 1 * falling (c.args.jobs - 0) (c.args.depth - 0) ≡ falling c.args.jobs c.args.depth =
    let n : c.args.jobs - 0 ≡ c.args.jobs = omega arith in
    let d : c.args.depth - 0 ≡ c.args.depth = omega arith in
    let one : 1 * falling (c.args.jobs - 0) (c.args.depth - 0) ≡ falling (c.args.jobs - 0) (c.args.depth - 0) =
    omega arith in
    one ∙ ap (λ m. falling m (c.args.depth - 0)) n ∙ ap (falling c.args.jobs) d in
    record { product = whole ∙ sym (cut-size c.args.jobs c.args.depth); few = omega arith }

pub returns-then-count-gt-MAX_PREFIXES-clause-many : goal.returns-then-count-gt-MAX_PREFIXES-clause-many
returns-then-count-gt-MAX_PREFIXES-clause-many c =
    let jobs : ℕ = c.args.jobs - c.loop-used.used in
    let rest : ℕ = falling (c.args.jobs - (c.loop-used.used + 1)) (c.args.depth - (c.loop-used.used + 1)) in
    let product : c.loop-used.count * jobs * rest ≡ length (cut c.args.jobs c.args.depth) =
    sym (factor c.args.jobs c.args.depth c.loop-used.used c.loop-used.count (omega arith))
    ∙ c.loop-used.invariant.product in
    let least : c.loop-used.count * jobs ≤ c.loop-used.count * jobs * rest =
    at-least (c.loop-used.count * jobs) (c.args.jobs - (c.loop-used.used + 1)) (c.args.depth - (c.loop-used.used
    + 1)) (omega arith) in
    let same : c.loop-used.count * (c.from.result - c.loop-used.used) ≡ c.loop-used.count * jobs =
    ap (λ n. c.loop-used.count * (n - c.loop-used.used)) c.from.ensures in
    omega (arith, product, least, same, c.if-count-gt-MAX_PREFIXES.true)

pub loop-used-preserved : goal.loop-used-preserved
loop-used-preserved c = record {
  product =
      ap (λ n. c.loop-used.count * (n - c.loop-used.used) * falling (c.args.jobs - (c.loop-used.used
      + 1)) (c.args.depth - (c.loop-used.used + 1))) c.from.ensures
      ∙ sym (factor c.args.jobs c.args.depth c.loop-used.used c.loop-used.count (omega arith))
      ∙ c.loop-used.invariant.product;
  few = omega arith;
}
