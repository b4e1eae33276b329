use Rattle.std.proofs.Common.{◌≡◌, ◌≢◌, ℕ, ◌<◌, min, max, map, set, slice_index, ap, sym, ◌∙◌, inl, inr, arith}
use Rattle.std.proofs.lemmas.Bool.{cases_lt}
use Rattle.std.proofs.lemmas.List.{get_or-set_same, get_or-set_other, length-set, map_push}
use Rattle.flow_limits.specs.Limits.{most_machines}
use Rattle.flow_shop.specs.TwoLeast.{least_below, second_below, least_of_none}
use Rattle.flow_shop.proofs.TwoLeastSteps.{least-push, second-push}
use Rattle.flow_shop.proofs.least_pairs.LeastPairs.take.Goals as goal

pub loop-place-preserved : goal.loop-place-preserved
loop-place-preserved c =
    let place : ℕ = c.loop-place.place in
    let i = c.loop-place.invariant in
    let low : place < most_machines = omega (arith, c.loop-place-test.true, c.requires) in
    let here = i.others place (omega arith) in
    record {
      least_size = length-set c.loop-place.self.least place c.with-two.result.least ∙ i.least_size;
      second_size = length-set c.loop-place.self.second place c.with-two.result.second ∙ i.second_size;
      done = λ k below. elim (cases_lt k place) [
        | inl before ↦
            let other : k ≢ place = omega arith in
            let was = i.done k before in (
              get_or-set_other c.loop-place.self.least place k c.with-two.result.least 0 other ∙ was.0,
              get_or-set_other c.loop-place.self.second place k c.with-two.result.second 0 other ∙ was.1,
            )
        | inr at ↦
            let e : k ≡ place = omega arith in
            let number : ℕ = slice_index c.args.numbers.now place in
            let was_least = c.at.ensures.least ∙ here.0 in
            let least : c.with-two.result.least ≡ min (slice_index c.args.self.now.least place) number =
            c.with-two.ensures.least ∙ ap (λ n. min n number) was_least in
            let second : c.with-two.result.second
            ≡ min (slice_index c.args.self.now.second place) (max (slice_index c.args.self.now.least place) number) =
            c.with-two.ensures.second
            ∙ ap (λ n. min n (max c.at.result.least number)) (c.at.ensures.second ∙ here.1)
            ∙ ap (λ n. min (slice_index c.args.self.now.second place) (max n number)) was_least in (
              ap (slice_index (set c.loop-place.self.least place c.with-two.result.least)) e
                  ∙ get_or-set_same c.loop-place.self.least place c.with-two.result.least 0 (omega
                  (arith, i.least_size))
                  ∙ least
                  ∙ ap (λ n. min (slice_index c.args.self.now.least n) (slice_index c.args.numbers.now n)) (sym e),
              ap (slice_index (set c.loop-place.self.second place c.with-two.result.second)) e
                  ∙ get_or-set_same c.loop-place.self.second place c.with-two.result.second 0 (omega (
                    arith,
                    i.second_size,
                  ))
                  ∙ second
                  ∙ ap (λ n. min (slice_index c.args.self.now.second n) (max (slice_index c.args.self.now.least n)
                  (slice_index c.args.numbers.now n))) (sym e),
            )
      ];
      others = λ k above.
          let other : k ≢ place = omega arith in
          let was = i.others k (omega arith) in (
            get_or-set_other c.loop-place.self.least place k c.with-two.result.least 0 other ∙ was.0,
            get_or-set_other c.loop-place.self.second place k c.with-two.result.second 0 other ∙ was.1,
          );
    }

pub returns-clause-least : goal.returns-clause-least
returns-clause-least c place low = (c.loop-place.invariant.done place (omega (arith, low, c.loop-place-test.false))).0

pub returns-clause-second : goal.returns-clause-second
returns-clause-second c place low = (c.loop-place.invariant.done place (omega (arith, low, c.loop-place-test.false))).1

pub returns-clause-others : goal.returns-clause-others
returns-clause-others c place above =
    c.loop-place.invariant.others place (omega (arith, above, c.loop-place.auto.place-end))

pub returns-clause-two : goal.returns-clause-two
returns-clause-two c number jobs job are old place low =
    let was = old place low in
    let is : slice_index c.args.numbers.now place ≡ number place job = are place low in
    let done = c.loop-place.invariant.done place
    (omega (arith, low, c.loop-place-test.false)) in (
      done.0
          ∙ ap (λ n. min n (slice_index c.args.numbers.now place)) was.0
          ∙ ap (min (least_below least_of_none (map (number place) jobs))) is
          ∙ sym (ap (least_below least_of_none) (map_push (number place) jobs job)
          ∙ least-push least_of_none (map (number place) jobs) (number place job)),
      done.1
          ∙ ap (λ n. min n (max (slice_index c.args.self.now.least place) (slice_index c.args.numbers.now place))) was.1
          ∙ ap (λ n. min (second_below least_of_none least_of_none (map (number place) jobs)) (max n
          (slice_index c.args.numbers.now place))) was.0
          ∙ ap (λ n. min (second_below least_of_none least_of_none (map (number place) jobs))
          (max (least_below least_of_none
          (map (number place) jobs)) n)) is
          ∙ sym (ap (second_below least_of_none least_of_none) (map_push (number place) jobs job)
          ∙ second-push least_of_none least_of_none (map (number place) jobs) (number place job)),
    )
