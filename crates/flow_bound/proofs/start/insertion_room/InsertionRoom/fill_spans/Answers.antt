use Rattle.std.proofs.Common.{ℕ, ◌+◌, ◌<◌, List, [], ◌∷◌, ◌++◌, drop, take, length, length-drop, length-set}
use Rattle.std.proofs.Common.{length-take, slice_index, slice_index_or, set, arith, ap, sym, subst, ◌≡◌, ◌∙◌}
use Rattle.std.specs.List.{insert}
use Rattle.std.proofs.lemmas.List.{take_at, take_more}
use Rattle.flow_shop.specs.Shop.{Shop}
use Rattle.flow_shop.specs.Paths.{span}
use Rattle.flow_shop.specs.Front.{IsFrontOf}
use Rattle.flow_shop.proofs.Fronts.{front-empty, front-within}
use Rattle.flow_bound.specs.internal.Tails.{AreTails}
use Rattle.flow_bound.proofs.Filled.{number-written}
use Rattle.flow_bound.proofs.FrontsAndTails.{tails-within}
use Rattle.flow_bound.proofs.start.insertion_room.InsertionRoom.fill_spans.Goals as goal

pub loop-index-init : goal.loop-index-init
loop-index-init c =
    let shop = c.args.instance.now in
    let partial = c.args.partial.now in
    let tails : c.as_slice-tails.result.now ≡ c.fill_tails.new.tails =
    c.as_slice-tails.ensures.value
    ∙ take_at c.fill_tails.new.tails _ c.args.self.now.tails.len
    (omega (arith, c.fill_tails.auto.tails, c.as_mut_slice.ensures.len)) in
    record {
      tails = λ place low. subst (λ tails. AreTails shop (drop place partial) (slice_index_or tails place []))
          (sym tails) (c.fill_tails.ensures place low);
      front = λ machine low high. front-empty shop machine;
      done = λ place low. absurd (omega arith);
    }

pub span_and_push-requires-clause-front : goal.span_and_push-requires-clause-front
span_and_push-requires-clause-front c =
    front-within c.args.instance.now
    (take c.loop-index.index c.args.partial.now) c.loop-index.front c.requires.room.rows.limits
    (omega (arith, length-take c.loop-index.index c.args.partial.now, c.requires.short)) c.loop-index.invariant.front

pub span_and_push-requires-clause-tails : goal.span_and_push-requires-clause-tails
span_and_push-requires-clause-tails c =
    let behind : List ℕ = drop c.loop-index.index c.args.partial.now in
    tails-within c.args.instance.now behind (slice_index_or c.as_slice-tails.result.now c.loop-index.index [])
    c.requires.room.rows.limits
    (omega (arith, length-drop c.loop-index.index c.args.partial.now, c.requires.short))
    (c.loop-index.invariant.tails c.loop-index.index (omega (arith, c.loop-index-test.true)))

-- the front of the jobs up to and with this one
pushed : (shop : Shop) (jobs front : List ℕ) (index : ℕ) → index < length jobs →
    IsFrontOf shop (take index jobs ++ slice_index_or jobs index 0 ∷ []) front →
    IsFrontOf shop (take (index + 1) jobs) front
pushed shop jobs front index within are =
    subst (λ jobs. IsFrontOf shop jobs front) (sym (take_more jobs index 0 within)) are

pub loop-index-preserved : goal.loop-index-preserved
loop-index-preserved c =
    let shop = c.args.instance.now in
    let partial = c.args.partial.now in
    let index = c.loop-index.index in
    let front = c.loop-index.invariant.front in
    let behind = c.loop-index.invariant.tails index (omega (arith, c.loop-index-test.true)) in
    record {
      tails = c.loop-index.invariant.tails;
      front = pushed shop partial c.span_and_push.new.front index c.loop-index-test.true
          (c.span_and_push.ensures.front (take index partial) front);
      done = λ place low. number-written (λ place. span shop
          (insert partial place c.args.job)) c.loop-index.spans index c.span_and_push.result
          (omega (
            arith,
            c.loop-index.auto.spans,
            c.loop-index-test.true,
            c.as_mut_slice-spans.ensures.len,
            c.requires.room.spans,
          ))
          (c.span_and_push.ensures.span (take index partial) (drop index partial) front behind)
          c.loop-index.invariant.done place (omega (arith, low));
    }

pub span_between-requires-clause-front : goal.span_between-requires-clause-front
span_between-requires-clause-front c =
    front-within c.args.instance.now
    (take c.loop-index.index c.args.partial.now) c.loop-index.front c.requires.room.rows.limits
    (omega (arith, length-take c.loop-index.index c.args.partial.now, c.requires.short)) c.loop-index.invariant.front

pub span_between-requires-clause-tails : goal.span_between-requires-clause-tails
span_between-requires-clause-tails c =
    let last = length c.args.partial.now in
    tails-within c.args.instance.now (drop last c.args.partial.now) (slice_index_or c.as_slice-tails.result.now last [])
    c.requires.room.rows.limits
    (omega (arith, length-drop last c.args.partial.now, c.requires.short))
    (c.loop-index.invariant.tails last (omega arith))

pub returns-clause-room : goal.returns-clause-room
returns-clause-room c = record {
  rows = c.requires.room.rows;
  tails = c.requires.room.tails;
  spans = c.requires.room.spans;
}

pub returns-clause-each : goal.returns-clause-each
returns-clause-each c place within =
    let shop = c.args.instance.now in
    let partial = c.args.partial.now in
    let last = length partial in
    let spans : List ℕ = set c.loop-index.spans last c.span_between.result in
    let all : c.loop-index.index ≡ last = omega arith in
    let front : IsFrontOf shop (take last partial) c.loop-index.front =
    subst (λ n. IsFrontOf shop (take n partial) c.loop-index.front) all c.loop-index.invariant.front in
    let behind = c.loop-index.invariant.tails last (omega arith) in
    let written : slice_index spans place ≡ span shop (insert partial place c.args.job) =
    number-written (λ place. span shop (insert partial place c.args.job)) c.loop-index.spans last c.span_between.result
    (omega (arith, c.loop-index.auto.spans, c.as_mut_slice-spans.ensures.len, c.requires.room.spans))
    (c.span_between.ensures (take last partial) (drop last partial) front behind)
    (λ j low. c.loop-index.invariant.done j (omega (arith, low))) place within in
    ap (λ xs. slice_index xs place) (take_at spans _ c.args.self.now.spans.len
    (omega (
      arith,
      c.loop-index.auto.spans,
      c.as_mut_slice-spans.ensures.len,
      length-set c.loop-index.spans last c.span_between.result,
    ))) ∙ written
