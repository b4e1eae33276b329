use Rattle.std.proofs.Common.{◌≡◌, ◌+◌, ◌^◌, ◌<◌, slice_index, ap, ◌∙◌, arith}
use Rattle.std.proofs.lemmas.Simd.{length-chunk, get_or-chunk}
use Rattle.flow_nodes.proofs.vector.U32x16Vector.load.Goals as goal

pub returns : goal.returns
returns c lane within =
    let small : slice_index c.args.numbers.now lane < 2 ^ 32 = (c.type_inv.numbers lane).fits in
    let same : 0 + lane ≡ lane = omega arith in
    record {
      count = length-chunk 0 16 c.args.numbers.now (omega (arith, c.requires));
      within = within;
      value = get_or-chunk 0 16 c.args.numbers.now lane 0 within
          ∙ ap (slice_index c.args.numbers.now) same
          ∙ omega (arith, small);
    }
