use Rattle.std.proofs.Common.{◌≡◌, ◌≢◌, ℕ, ◌-◌, ◌≤◌, ◌+◌, List, [], ◌∷◌, slice_index, slice_index_or, refl}
use Rattle.std.proofs.Common.{arith, sym, ◌∙◌, ap}
use Rattle.std.proofs.lemmas.Grind.{common_steps}
use Rattle.std.proofs.lemmas.List.{get_or-set_other}
use Rattle.flow_limits.specs.Limits.{most_machines, greatest_completion}
use Rattle.flow_shop.specs.Shop.{time}
use Rattle.flow_shop.proofs.Fronts.{time-small}
use Rattle.flow_shop.specs.Ends.{path_tail}
use Rattle.flow_bound.specs.internal.Tails.{AreTails}
use Rattle.flow_shop.proofs.PathTails.{tail-past, tail-step}
use Rattle.flow_bound.proofs.Rests.{written}
use Rattle.flow_bound.proofs.start.insertion.push_tails.Goals as goal

pub loop-place-init : goal.loop-place-init
loop-place-init c = record {
  within = omega (arith, c.machines-place.ensures.value);
  row_length = grind (arith, common_steps);
  length = grind (arith, common_steps);
  small = omega (arith, c.machines-place.ensures.value);
  behind = λ jobs are. sym (ap (λ n. path_tail c.args.instance.now (c.args.job ∷ jobs) (n
      + 1)) c.machines-place.ensures.value ∙ tail-past c.args.instance.now c.args.job jobs (c.args.instance.now.machines + 1) (omega arith));
  done = λ jobs are machine low high. absurd (omega (arith, c.machines-place.ensures.value));
  written = λ jobs are machine low high. absurd (omega (arith, c.machines-place.ensures.value));
  others = λ place low. refl;
}

pub overflow_add-behind : goal.overflow_add-behind
overflow_add-behind c =
    let place = c.loop-place.place in
    let before = c.loop-place.invariant in
    let there = (c.requires.rows.each c.args.job (record {
      times = [];
      tails = [];
    }) c.requires.job_from c.requires.job_to place (omega arith) before.within).0 in
    let old_small : slice_index c.args.tails.now (place - 1) ≤ greatest_completion =
    c.requires.within (place - 1) (omega (arith, before.within)) in
    let machines : c.args.instance.now.machines ≤ most_machines = c.machines-place.ensures.limits.machines in
    omega (
      arith,
      before.small,
      before.others (place - 1)
          (omega arith),
      old_small,
      there,
      time-small c.args.instance.now c.args.job place
          c.machines-place.ensures.limits,
      c.max.ensures,
    )

pub loop-place-preserved : goal.loop-place-preserved
loop-place-preserved c =
    let shop = c.args.instance.now in
    let place = c.loop-place.place in
    let before = c.loop-place.invariant in
    let from_time : ℕ = slice_index (slice_index_or c.args.rows.now (c.args.job - 1) (record {
      times = [];
      tails = [];
    })).times (place - 1) in
    let there : from_time ≡ time shop c.args.job place =
    (c.requires.rows.each c.args.job _ c.requires.job_from c.requires.job_to place (omega arith) before.within).0 in
    let old_small : slice_index c.args.tails.now (place - 1) ≤ greatest_completion =
    c.requires.within (place - 1) (omega (arith, before.within)) in
    let value : (jobs : List ℕ) → AreTails shop jobs c.args.tails.now →
    c.max.result + from_time ≡ path_tail shop (c.args.job ∷ jobs) place =
    λ jobs are. omega (
      arith,
      c.max.ensures,
      before.others (place - 1) (omega arith),
      are place (omega arith) before.within,
      before.behind jobs are,
      there,
      tail-step shop c.args.job jobs place before.within,
    ) in
    let here : place - 1 + 1 ≡ place = omega arith in
    record {
      within = omega (arith, before.within);
      row_length = grind (arith, common_steps);
      length = grind (arith, common_steps);
      small = omega (
        arith,
        before.small,
        before.others (place - 1)
            (omega arith),
        old_small,
        there,
        time-small shop c.args.job place c.machines-place.ensures.limits,
        c.max.ensures,
      );
      behind = λ jobs are. value jobs are ∙ ap (path_tail shop (c.args.job ∷ jobs)) (sym here);
      done = λ jobs are. written (path_tail shop (c.args.job ∷ jobs)) c.loop-place.tails place (c.max.result + from_time)
          shop.machines (omega arith) (omega (arith, before.length, before.within)) (value jobs are)
          (before.done jobs are);
      written = λ jobs are. written (path_tail shop (c.args.job ∷ jobs)) c.loop-place.row place (c.max.result + from_time)
          shop.machines (omega arith) (omega (arith, before.row_length, before.within)) (value jobs are)
          (before.written jobs are);
      others = λ k low. let other : k ≢ place - 1 = omega arith in rw get_or-set_other (before.others k (omega arith));
    }

pub returns-clause-tails : goal.returns-clause-tails
returns-clause-tails c jobs are machine low high = c.loop-place.invariant.done jobs are machine (omega arith) high

pub returns-clause-row : goal.returns-clause-row
returns-clause-row c jobs are machine low high = c.loop-place.invariant.written jobs are machine (omega arith) high
