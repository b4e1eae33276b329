use Rattle.std.proofs.Common.{◌≡◌, ◌++◌, ◌∷◌, take, decimal, flat_map, get_or}
use Rattle.flow_shop.specs.Characters.{space}
use Rattle.flow_text.proofs.text.write.push_row.Given as goal

abbrev pub invariant-loop-number : goal.invariant-loop-number
invariant-loop-number l = l.out.items ≡ l.fn.out.items ++ decimal (get_or l.numbers 0 0)
    ++ flat_map (λ m. space ∷ decimal m) (take l.number-index l.others)
