use Rattle.std.proofs.Common.{◌≡◌, ℕ, ◌+◌, ◌-◌, ◌≤◌, min, max, ◌∷◌, length, map, slice_index}
use Rattle.std.proofs.Common.{refl, ap, subst, inl, inr, arith}
use Rattle.std.proofs.lemmas.Bool.{cases_lt}
use Rattle.flow_shop.specs.Shop.{numbers, time}
use Rattle.flow_shop.specs.Least.{greatest}
use Rattle.flow_shop.specs.Ends.{back}
use Rattle.flow_nodes.specs.internal.Children.{back_child_at}
use Rattle.flow_nodes.proofs.ByteSteps.{late-start, reached-back}
use Rattle.flow_nodes.proofs.ChildSteps.{back-next, back-greatest}
use Rattle.flow_nodes.proofs.bytes.open_at_back.Goals as goal

pub loop-machine-init : goal.loop-machine-init
loop-machine-init g c = record {
  within = omega (arith, c.known_or-machine.ensures);
  late = λ shop first last jobs node lane is gaps are within. (
    0,
    c.each-late.ensures lane within,
    λ e. refl,
    λ some. absurd (omega (arith, some, c.known_or-machine.ensures)),
  );
  over = λ shop first last jobs node limit lane is gaps slacks are within.
      (0, c.each-late.ensures lane within, λ some. absurd (omega (arith, some)));
}

pub loop-machine-preserved : goal.loop-machine-preserved
loop-machine-preserved g c = record {
  within = omega (arith, c.loop-machine.invariant.within);
  late = λ shop first last jobs node lane is gaps are within.
      let machine : ℕ = c.loop-machine.machine in
      let place : ℕ = machine - 1 in
      let job : ℕ = slice_index jobs lane in
      let near : ℕ = slice_index node.back place in
      let before : ℕ = slice_index node.back (min (place + 1) 25) in
      let free : ℕ = back shop (job ∷ last) (machine + 1) in
      let low : 1 ≤ machine = omega (arith, c.loop-machine-test.true) in
      let high : machine ≤ shop.machines = omega (arith, c.loop-machine.invariant.within, are.machines) in
      let next : machine ≡ machine - 1 + 1 = omega (arith, low) in
      let old = c.loop-machine.invariant.late shop first last jobs node lane is gaps are within in
      let late : ℕ = min old.0 255 - min (near - before) 255 in
      let start = c.excess-start.ensures lane old.0 (near - before) old.1
      (gaps place lane _ (omega (arith, low, high, are.machines, c.requires.gaps)) within) in
      let starts : near + late ≤ max free near = elim (cases_lt machine (length c.args.times.now)) [
        | inl some ↦
            let there : min (place + 1) 25 ≡ machine = omega (arith, low, some, are.machines, is.limits.machines) in
            late-start before near free old.0 (omega (arith, old.3 some, ap (slice_index node.back) there))
        | inr none ↦ omega (arith, old.2 (omega (arith, none, c.loop-machine.invariant.within)))
      ] in
      let times = are.times machine lane _ low high within in (
        late + time shop job machine,
        c.plus-late.ensures lane late (time shop job machine) start times,
        λ e. absurd (omega (arith, e, low, c.loop-machine.invariant.within)),
        λ some. omega (
          arith,
          starts,
          back-next shop first last job node is (are.each lane within) machine near low high refl,
          ap (back shop (job ∷ last)) next,
        ),
      );
  over = λ shop first last jobs node limit lane is gaps slacks are within.
      let machine : ℕ = c.loop-machine.machine in
      let place : ℕ = machine - 1 in
      let job : ℕ = slice_index jobs lane in
      let near : ℕ = slice_index node.back place in
      let before : ℕ = slice_index node.back (min (place + 1) 25) in
      let free : ℕ = back shop (job ∷ last) (machine + 1) in
      let low : 1 ≤ machine = omega (arith, c.loop-machine-test.true) in
      let high : machine ≤ shop.machines = omega (arith, c.loop-machine.invariant.within, are.machines) in
      let next : machine ≡ machine - 1 + 1 = omega (arith, low) in
      let old = c.loop-machine.invariant.late shop first last jobs node lane is gaps are within in
      let late : ℕ = min old.0 255 - min (near - before) 255 in
      let start = c.excess-start.ensures lane old.0 (near - before) old.1
      (gaps place lane _ (omega (arith, low, high, are.machines, c.requires.gaps)) within) in
      let starts : near + late ≤ max free near = elim (cases_lt machine (length c.args.times.now)) [
        | inl some ↦
            let there : min (place + 1) 25 ≡ machine = omega (arith, low, some, are.machines, is.limits.machines) in
            late-start before near free old.0 (omega (arith, old.3 some, ap (slice_index node.back) there))
        | inr none ↦ omega (arith, old.2 (omega (arith, none, c.loop-machine.invariant.within)))
      ] in
      let jobs_there : ℕ = slice_index node.work place in
      let far : ℕ = slice_index node.front place in
      let slack : ℕ = limit - 1 - (far + jobs_there + near) in
      let more : ℕ = min late 255 - min slack 255 in
      let so_far = c.loop-machine.invariant.over shop first last jobs node limit lane is gaps slacks are within in
      let whole = back-greatest shop first last job node is (are.each lane within) machine near jobs_there far low high
      refl refl refl in
      let all = ap (λ k. greatest (map (back_child_at shop first last job) (numbers k shop.machines))) next in (
        max so_far.0 more,
        c.at_least-over.ensures lane so_far.0 more so_far.1 (c.excess.ensures lane late slack start
            (slacks place lane _ (omega (arith, low, high, are.machines, c.requires.slacks)) within)),
        λ some. elim (cases_lt 0 so_far.0) [
          | inl big ↦ omega (arith, so_far.2 big, whole, all)
          | inr none ↦
              omega (
                arith,
                reached-back near jobs_there far (max free near) late limit starts (omega (arith, some, none)),
                whole,
                all,
              )
        ],
      );
}

pub returns : goal.returns
returns g c shop first last jobs node limit lane is gaps slacks are within =
    let all : c.loop-machine.machine + 1 ≡ 1 = omega (arith, c.loop-machine-test.false) in
    let over = c.loop-machine.invariant.over shop first last jobs node limit lane is gaps slacks are within in
    elim (cases_lt over.0 1) [
      | inl none ↦ inl ((c.below.ensures.each lane over.0 over.1).1 none)
      | inr some ↦
          inr (subst (λ k. limit
          ≤ greatest (map (back_child_at shop first last (slice_index jobs lane)) (numbers k shop.machines))) all
          (over.2 (omega (arith, some))))
    ]
