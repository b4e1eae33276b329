use Rattle.std.proofs.Common.{◌++◌, ◌∷◌, [], slice_index, ap, sym, ◌∙◌, arith}
use Rattle.std.proofs.lemmas.List.FromFn.{map-range_with_len_more}
use Rattle.flow_shop.proofs.Transposes.{taken_from}
use Rattle.flow_shop.proofs.instance.by_columns.Goals as goal

pub loop-place-preserved : goal.loop-place-preserved
loop-place-preserved c =
    let place = c.loop-place.place in
    let number = slice_index c.args.numbers.now (taken_from c.args.lists c.args.each place) in
    record {
      capacity = c.push_reserved.ensures.capacity ∙ c.loop-place.invariant.capacity;
      count = omega (arith, c.push_reserved.ensures.len, c.loop-place.invariant.count);
      taken = c.push_reserved.ensures.items
          ∙ ap (λ numbers. numbers ++ number ∷ []) c.loop-place.invariant.taken
          ∙ sym (map-range_with_len_more (λ place. slice_index c.args.numbers.now
          (taken_from c.args.lists c.args.each place)) 0 place place (omega arith));
    }
