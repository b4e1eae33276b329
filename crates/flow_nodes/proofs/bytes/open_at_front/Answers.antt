use Rattle.std.proofs.Common.{◌≡◌, ℕ, ◌+◌, ◌-◌, ◌<◌, ◌≤◌, min, max, [], ◌∷◌, ◌++◌, length, map, slice_index}
use Rattle.std.proofs.Common.{refl, ap, subst, inl, inr, arith}
use Rattle.std.proofs.lemmas.Bool.{cases_lt}
use Rattle.flow_shop.specs.Shop.{numbers, time}
use Rattle.flow_shop.specs.Least.{greatest}
use Rattle.flow_shop.specs.Ends.{front}
use Rattle.flow_nodes.specs.internal.Children.{front_child_at}
use Rattle.flow_nodes.proofs.ByteSteps.{byte-at, late-start, reached}
use Rattle.flow_nodes.proofs.ChildSteps.{front-next, front-greatest}
use Rattle.flow_nodes.proofs.bytes.open_at_front.Goals as goal

pub loop-place-init : goal.loop-place-init
loop-place-init g c = record {
  late = λ shop first last jobs node lane is gaps are within.
      (0, c.each-late.ensures lane within, λ e. refl, λ some. absurd (omega (arith, some)));
  over = λ shop first last jobs node limit lane is gaps slacks are within.
      (0, c.each-late.ensures lane within, λ some. absurd (omega (arith, some)));
}

pub loop-place-preserved : goal.loop-place-preserved
loop-place-preserved g c = record {
  late = λ shop first last jobs node lane is gaps are within.
      let place : ℕ = c.loop-place.place in
      let job : ℕ = slice_index jobs lane in
      let near : ℕ = slice_index node.front place in
      let before : ℕ = slice_index node.front (place - 1) in
      let free : ℕ = front shop (first ++ job ∷ []) place in
      let below : place < shop.machines = omega (arith, c.loop-place-test.true, c.known_or-machines.ensures, are.machines) in
      let old = c.loop-place.invariant.late shop first last jobs node lane is gaps are within in
      let late : ℕ = min old.0 255 - min (near - before) 255 in
      let start = c.excess-start.ensures lane old.0 (near - before) old.1
      (gaps place lane _ (omega (arith, below, are.machines, c.requires.gaps)) within) in
      let starts : near + late ≤ max free near = elim (cases_lt 0 place) [
        | inl some ↦ late-start before near free old.0 (old.3 some)
        | inr none ↦ omega (arith, old.2 (omega (arith, none)))
      ] in
      let same : place + 1 - 1 ≡ place = omega arith in
      let times = byte-at shop jobs c.args.times.now place lane _ are below within in (
        late + time shop job (place + 1),
        c.plus-late.ensures lane late (time shop job (place + 1)) start times,
        λ e. absurd (omega (arith, e)),
        λ some. omega (
          arith,
          starts,
          ap (slice_index node.front) same,
          front-next shop first last job node is (are.each lane within) place near below refl,
        ),
      );
  over = λ shop first last jobs node limit lane is gaps slacks are within.
      let place : ℕ = c.loop-place.place in
      let job : ℕ = slice_index jobs lane in
      let near : ℕ = slice_index node.front place in
      let before : ℕ = slice_index node.front (place - 1) in
      let free : ℕ = front shop (first ++ job ∷ []) place in
      let below : place < shop.machines = omega (arith, c.loop-place-test.true, c.known_or-machines.ensures, are.machines) in
      let old = c.loop-place.invariant.late shop first last jobs node lane is gaps are within in
      let late : ℕ = min old.0 255 - min (near - before) 255 in
      let start = c.excess-start.ensures lane old.0 (near - before) old.1
      (gaps place lane _ (omega (arith, below, are.machines, c.requires.gaps)) within) in
      let starts : near + late ≤ max free near = elim (cases_lt 0 place) [
        | inl some ↦ late-start before near free old.0 (old.3 some)
        | inr none ↦ omega (arith, old.2 (omega (arith, none)))
      ] in
      let jobs_there : ℕ = slice_index node.work place in
      let far : ℕ = slice_index node.back place in
      let slack : ℕ = limit - 1 - (near + jobs_there + far) in
      let more : ℕ = min late 255 - min slack 255 in
      let so_far = c.loop-place.invariant.over shop first last jobs node limit lane is gaps slacks are within in
      let whole = front-greatest shop first last job node is (are.each lane within) place near jobs_there far below refl
      refl refl in (
        max so_far.0 more,
        c.at_least-over.ensures lane so_far.0 more so_far.1 (c.excess.ensures lane late slack start
            (slacks place lane _ (omega (arith, below, are.machines, c.requires.slacks)) within)),
        λ some. elim (cases_lt 0 so_far.0) [
          | inl big ↦ omega (arith, so_far.2 big, whole)
          | inr none ↦
              omega (
                arith,
                reached near jobs_there far (max free near) late limit starts (omega (arith, some, none)),
                whole,
              )
        ],
      );
}

pub returns : goal.returns
returns g c shop first last jobs node limit lane is gaps slacks are within =
    let few : length c.args.times.now ≡ shop.machines = are.machines in
    let all : c.loop-place.place ≡ shop.machines = omega (arith, few, c.loop-place-test.false, c.loop-place.auto.place-end, c.known_or-machines.ensures) in
    let over = c.loop-place.invariant.over shop first last jobs node limit lane is gaps slacks are within in
    elim (cases_lt over.0 1) [
      | inl none ↦ inl ((c.below.ensures.each lane over.0 over.1).1 none)
      | inr some ↦
          inr (subst (λ m. limit ≤ greatest (map (front_child_at shop first last (slice_index jobs lane)) (numbers 1 m)))
          all (over.2 (omega (arith, some))))
    ]
