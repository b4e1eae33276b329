use Rattle.std.proofs.Common.{◌≡◌, vec_capacity, vec_len, map}
use Rattle.flow_shop.specs.Shop.{numbers}
use Rattle.flow_generator.specs.Generator.{state_after, drawn_time}
use Rattle.flow_generator.proofs.generator.generate.Given as goal

-- so many times are drawn
abbrev pub invariant-loop : goal.invariant-loop
invariant-loop l = record {
  capacity : vec_capacity l.times ≡ l.count;
  count : vec_len l.times ≡ l.counter;
  state : l.generator ≡ state_after l.seed l.counter;
  times : l.times.items ≡ map (drawn_time l.seed) (numbers 1 l.counter);
}
