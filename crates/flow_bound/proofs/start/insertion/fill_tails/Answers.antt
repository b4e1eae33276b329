use Rattle.std.proofs.Common.{◌≡◌, ◌+◌, ◌-◌, ◌∷◌, drop, length, length-drop, length-set, replicate, slice_index_or}
use Rattle.std.proofs.Common.{arith, ap, sym, subst, ◌∙◌}
use Rattle.std.proofs.lemmas.List.{drop_more}
use Rattle.flow_limits.specs.Limits.{most_machines}
use Rattle.flow_bound.specs.internal.Tails.{AreTails}
use Rattle.flow_bound.proofs.Filled.{row-written}
use Rattle.flow_bound.proofs.FrontsAndTails.{tails-end, tails-within}
use Rattle.flow_bound.proofs.start.insertion.fill_tails.Goals as goal

pub loop-place-init : goal.loop-place-init
loop-place-init c =
    let shop = c.args.instance.now in
    let partial = c.args.partial.now in
    let none = tails-end shop partial (length partial) (omega arith) in
    record {
      within = omega arith;
      behind = none;
      done = λ place low high.
          row-written (λ place row. AreTails shop (drop place partial) row) c.args.tails.now (length partial)
          (replicate most_machines 0) place
          c.requires.room none (λ apart. absurd (omega (arith, apart)));
    }

pub push_tails-requires-clause-within : goal.push_tails-requires-clause-within
push_tails-requires-clause-within c =
    tails-within c.args.instance.now
    (drop c.loop-place.place c.args.partial.now) c.loop-place.behind c.requires.rows.limits
    (omega (arith, length-drop c.loop-place.place c.args.partial.now, c.requires.short)) c.loop-place.invariant.behind

pub loop-place-preserved : goal.loop-place-preserved
loop-place-preserved c =
    let shop = c.args.instance.now in
    let partial = c.args.partial.now in
    let place = c.loop-place.place in
    let before = c.loop-place.invariant in
    let here : place - 1 + 1 ≡ place = omega arith in
    let split : drop (place - 1) partial ≡ slice_index_or partial (place - 1) 0 ∷ drop place partial =
    drop_more partial (place - 1) 0 (omega (arith, before.within))
    ∙ ap (λ n. slice_index_or partial (place - 1) 0 ∷ drop n partial) here in
    let behind : AreTails shop (drop (place - 1) partial) c.push_tails.new.tails =
    subst (λ jobs. AreTails shop jobs c.push_tails.new.tails) (sym split) (c.push_tails.ensures.tails
    (drop place partial) before.behind) in
    let row : AreTails shop (drop (place - 1) partial) c.push_tails.new.row =
    subst (λ jobs. AreTails shop jobs c.push_tails.new.row) (sym split) (c.push_tails.ensures.row
    (drop place partial) before.behind) in
    record {
      within = omega (arith, before.within);
      behind = behind;
      done = λ j low high.
          row-written (λ place row. AreTails shop (drop place partial) row) c.loop-place.tails
          (place - 1) c.push_tails.new.row j
          (omega (
            arith,
            before.within,
            c.loop-place.auto.tails,
            c.requires.room,
            length-set c.args.tails.now
                (length partial) (replicate most_machines 0),
          ))
          row (λ apart. before.done j (omega (arith, apart)) high);
    }
