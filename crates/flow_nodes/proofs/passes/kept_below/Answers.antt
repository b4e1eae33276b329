use Rattle.std.proofs.Common.{◌≡◌, ◌<◌, min, ap, ◌∙◌, arith}
use Rattle.std.specs.Int.{bit_at}
use Rattle.std.specs.Prelude.{bit_and}
use Rattle.std.proofs.lemmas.Nat.Bits.{bit_at-lt, bit_at_and}
use Rattle.flow_nodes.proofs.MarkSteps.{bit-set, set-bit}
use Rattle.flow_nodes.proofs.passes.kept_below.Goals as goal

pub returns : goal.returns
returns g c = record {
  within = λ lane one. omega (
    arith,
    one,
    bit_at_and c.below.result c.from.result lane,
    ap (λ w. bit_at w lane) c.from.ensures,
    bit_at-lt c.args.word lane,
  );
  each = λ lane value has was.
      let both : bit_at (bit_and c.below.result c.from.result) lane ≡ min (bit_at c.below.result lane) 1 =
      bit_at_and c.below.result c.from.result lane
      ∙ ap (min (bit_at c.below.result lane)) (ap (λ w. bit_at w lane) c.from.ensures ∙ was) in
      let few : bit_at c.below.result lane < 2 = bit_at-lt c.below.result lane in (
        λ one. (c.below.ensures.each lane value has).0
            (set-bit c.below.result lane (omega (arith, one, both, few))),
        λ under. omega (arith, both, bit-set c.below.result lane ((c.below.ensures.each lane value has).1 under)),
      );
}
