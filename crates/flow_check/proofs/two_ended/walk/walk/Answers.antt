use Rattle.std.proofs.Common.{rules, ◌≡◌, ◌≢◌, ℕ, ◌+◌, ◌-◌, ◌<◌, ◌≤◌, List, [], ◌∷◌, ◌++◌, length, take, drop, slice_index_or}
use Rattle.std.proofs.Common.{Some, None, refl, ap, sym, ◌∙◌, subst, arith, inl}
use Rattle.flow_shop.specs.Ends.{end_bound}
use Rattle.flow_shop.specs.Directions.{first_with, last_with}
use Rattle.flow_nodes.specs.Nodes.{IsNode}
use Rattle.flow_check.specs.internal.Frames.{pack_groups}
use Rattle.flow_nodes.specs.Marks.{chosen}
use Rattle.flow_nodes.specs.Packs.{AreBytes, HasLeft, HasRoomFor, IsPack}
use Rattle.flow_check.specs.internal.Frames.{ArePacks, IsNext, IsOpen, IsReady, first_of, last_of, frame_at, here}
use Rattle.flow_check.specs.internal.Frames.{above, names_at}
use Rattle.flow_check.specs.internal.ReadDirections.{first_end, read_node}
use Rattle.flow_nodes.proofs.PairSteps.{constant-is}
use Rattle.flow_check.proofs.DirectionSteps.{read-sign}
use Rattle.flow_check.proofs.PackNames.{names-count, packs-above}
use Rattle.flow_check.proofs.WalkSteps.{IsOpened, Stands, count-above, last-above}
use Rattle.flow_check.proofs.WalkSteps.{path-opened, stands-root, stands-back}
use Rattle.flow_check.proofs.WalkSteps.{fails-low, fails-sign}
use Rattle.flow_check.proofs.TurnSteps.{IsAt, IsTurn, names_of, turn-taken, turn-open, turn-next, turn-stands}
use Rattle.flow_check.proofs.two_ended.walk.walk.Goals as goal

pub returns-in_default-clause-read : goal.returns-in_default-clause-read
returns-in_default-clause-read g c =
    let shop = c.args.instance.now in
    let low : end_bound shop [] [] < c.args.threshold =
    omega (arith, c.if-from-threshold.false, c.from.ensures, c.bound.ensures [] [] c.root-root.ensures) in
    let some : shop.jobs ≢ 0 = omega (arith, c.root-root.ensures.limits.some_job) in
    let none : first_end (drop 0 c.args.text.now) ≡ None = search rules in
    inl (read-sign shop c.args.threshold shop.jobs [] [] c.args.text.now low some none)

pub walk-init : goal.walk-init
walk-init g c =
    let shop = c.args.instance.now in
    let list = g.V.Vector.list in
    let cap = g.V.Vector.CAP in
    let width = g.V.Vector.WIDTH in
    let text = c.args.text.now in
    let threshold = c.args.threshold in
    let whole = read_node shop threshold shop.jobs [] [] text in
    let path = c.in_ok-path.path in
    let new = c.open.new.self in
    let made = c.in_ok-path.ensures in
    let names = λ (left : ℕ). names_at new.packs.items (pack_groups left - 1) in
    let low : end_bound shop [] [] < threshold =
    omega (arith, c.if-from-threshold.false, c.from.ensures, c.bound.ensures [] [] c.root-root.ensures) in
    let some : 1 ≤ shop.jobs = c.root-root.ensures.limits.some_job in
    let all : c.pack_groups.result ≡ pack_groups shop.jobs = omega (arith, c.pack_groups.ensures, c.jobs-left.ensures.value) in
    let last : c.pack_groups.result - 1 ≡ pack_groups shop.jobs - 1 = omega (arith, all) in
    let empty : above new ≡ [] = c.open.ensures.above ∙ ap (λ d. take d path.frames.items) made.depth in
    let ready : IsReady list cap width shop threshold [] [] c.pack_groups.result path =
    record {
      is_node = subst (IsNode shop [] []) (sym made.node) c.root-root.ensures;
      bound = low;
      limit = made.limit ∙ c.limit_of.ensures;
      room = made.room;
      is_pack = λ none. subst (λ n. IsPack list cap width shop (slice_index_or path.packs.items n none)) (sym last)
          (made.packs.packed shop.jobs none (omega arith) (omega arith));
      bytes = λ none. subst (λ n. AreBytes shop (slice_index_or path.packs.items n none)) (sym last)
          (made.packs.bytes shop.jobs none (omega arith) (omega arith));
      has_left = subst (λ n. HasLeft shop [] [] (names_at path.packs.items n) (here path).left) (sym last) made.left;
    } in
    let is_opened : IsOpened shop threshold [] [] (names_at new.packs.items (c.pack_groups.result - 1)) new =
    path-opened list cap width shop threshold [] [] c.pack_groups.result c.in-Some.end path new ready
    (omega (arith, all, some, made.packs.have.count)) c.open.ensures.packs c.open.ensures.end c.open.ensures.node
    c.open.ensures.left c.open.ensures.within (c.open.ensures.below shop threshold [] [] ready) in
    let opened_all : IsOpened shop threshold [] [] (names shop.jobs) new =
    subst (λ n. IsOpened shop threshold [] [] (names_at new.packs.items n) new) last is_opened in
    record {
      within = omega (arith, c.in-Some.ensures.within);
      left = omega (arith, c.open.ensures.depth, made.depth, c.jobs-left.ensures.value);
      some = omega (arith, c.jobs-left.ensures.value, some);
      size = c.open.ensures.size ∙ made.size;
      limit = c.open.ensures.limit ∙ made.limit ∙ c.limit_of.ensures;
      room = c.open.ensures.room shop made.room;
      packs = subst (λ ps. ArePacks list cap width shop c.jobs-left.result ps.items) (sym c.open.ensures.packs)
          (subst (λ n. ArePacks list cap width shop n path.packs.items) (sym c.jobs-left.ensures.value) made.packs);
      stands = subst (λ fs. Stands shop threshold whole text 1 names fs (here new)) (sym empty)
          (stands-root shop threshold text names (here new) low some
          (sym c.in-Some.ensures.value ∙ ap Some (sym c.open.ensures.end)) opened_all.below opened_all.frame);
    }

pub open-requires-clause-constant : goal.open-requires-clause-constant
open-requires-clause-constant g c = constant-is c.in_ok-path.ensures.room.machines c.requires.constant

pub next-requires-clause-names : goal.next-requires-clause-names
next-requires-clause-names g c =
    let here_is = c.walk.invariant in
    omega (
      arith,
      names-count c.args.instance.now c.walk.path.packs.items (c.pack_groups-in-walk.result - 1) here_is.packs.have
          (omega (arith, here_is.packs.have.count, c.pack_groups-in-walk.ensures, here_is.left, here_is.some)),
      c.pack_groups-in-walk.ensures,
      here_is.some,
    )

pub walk-preserved-in-None : goal.walk-preserved-in-None
walk-preserved-in-None g c =
    let shop = c.args.instance.now in
    let list = g.V.Vector.list in
    let cap = g.V.Vector.CAP in
    let width = g.V.Vector.WIDTH in
    let text = c.args.text.now in
    let threshold = c.args.threshold in
    let whole = read_node shop threshold shop.jobs [] [] text in
    let old = c.walk.path in
    let mid = c.next.new.self in
    let here_is = c.walk.invariant in
    let next = c.next.ensures in
    let some : 0 < mid.depth = omega (arith, c.if-path-eq0.false) in
    let within : mid.depth < length mid.frames.items =
    omega (arith, next.size, next.depth, here_is.size, here_is.left, here_is.some) in
    let deep : length (above old) ≡ old.depth =
    count-above old (omega (arith, here_is.size, here_is.left, here_is.some)) in
    let at : c.pack_groups-in-walk.result - 1 ≡ pack_groups (shop.jobs - length (above old)) - 1 =
    omega (arith, c.pack_groups-in-walk.ensures, here_is.left, deep) in
    let none : chosen (here old).below.words (names_at old.packs.items (pack_groups (shop.jobs - length (above old)) - 1))
    ≡ [] =
    ap (λ n. chosen (here old).below.words (names_at old.packs.items n)) (sym at) ∙ c.in-None.ensures.none in
    let split : above old ≡ take (mid.depth - 1) mid.frames.items ++ frame_at mid.frames.items (mid.depth - 1) ∷ [] =
    sym next.above ∙ last-above mid.frames.items mid.depth some within in
    record {
      within = here_is.within;
      left = omega (arith, here_is.left, next.depth, some);
      some = omega arith;
      size = next.size ∙ here_is.size;
      limit = ap (λ o. o.limit) next.opener ∙ here_is.limit;
      room = subst (HasRoomFor shop) (sym next.opener) here_is.room;
      packs = subst (λ ps. ArePacks list cap width shop (c.walk.left + 1) ps.items) (sym next.packs)
          (packs-above list cap width shop c.walk.left (c.walk.left + 1) old.packs.items (omega arith) here_is.packs);
      stands = subst (λ ps. Stands shop threshold whole text c.walk.place
          (λ left. names_at ps.items (pack_groups left - 1)) (take (mid.depth - 1) mid.frames.items)
          (frame_at mid.frames.items (mid.depth - 1))) (sym next.packs)
          (stands-back shop threshold whole text c.walk.place
          (λ left. names_at old.packs.items (pack_groups left - 1)) (above old)
          (take (mid.depth - 1) mid.frames.items) (here old) (frame_at mid.frames.items (mid.depth - 1))
          here_is.stands none split);
    }

pub returns-then-left-eq1-clause-read : goal.returns-then-left-eq1-clause-read
returns-then-left-eq1-clause-read g c =
    let shop = c.args.instance.now in
    let text = c.args.text.now in
    let threshold = c.args.threshold in
    let whole = read_node shop threshold shop.jobs [] [] text in
    let old = c.walk.path in
    let mid = c.next.new.self in
    let groups = c.pack_groups-in-walk.result in
    let here_is = c.walk.invariant in
    let next = c.next.ensures in
    let at : IsAt shop threshold whole text c.walk.place c.walk.left old =
    record {
      size = here_is.size;
      left_is = here_is.left;
      some = here_is.some;
      have = here_is.packs.have;
      stands = here_is.stands;
    } in
    let turn : IsTurn groups old mid c.in-Some-next.at =
    record {
      packs = next.packs;
      end = next.end;
      node = next.node;
      left = next.left;
      fewer = next.fewer;
      within = c.in-Some-next.ensures.within;
      marked = c.in-Some-next.ensures.marked;
      job = c.in-Some-next.ensures.job;
      first = c.in-Some-next.ensures.first;
    } in
    let deep : length (above old) ≡ old.depth =
    count-above old (omega (arith, here_is.size, here_is.left, here_is.some)) in
    let one : shop.jobs - length (above old) ≡ 1 = omega (arith, c.if-left-eq1.true, here_is.left, deep) in
    inl (fails-low shop threshold whole text c.walk.place (names_of old) (above old) (here old) (here mid)
    (first_of [] (above old)) (last_of [] (above old)) (shop.jobs - length (above old)) here_is.stands
    (turn-taken shop threshold whole text c.walk.place c.walk.left groups c.in-Some-next.at old mid at
    c.pack_groups-in-walk.ensures turn) one)

pub returns-in_default-end_at-clause-read : goal.returns-in_default-end_at-clause-read
returns-in_default-end_at-clause-read g c =
    let shop = c.args.instance.now in
    let text = c.args.text.now in
    let threshold = c.args.threshold in
    let whole = read_node shop threshold shop.jobs [] [] text in
    let old = c.walk.path in
    let mid = c.next.new.self in
    let groups = c.pack_groups-in-walk.result in
    let here_is = c.walk.invariant in
    let next = c.next.ensures in
    let at : IsAt shop threshold whole text c.walk.place c.walk.left old =
    record {
      size = here_is.size;
      left_is = here_is.left;
      some = here_is.some;
      have = here_is.packs.have;
      stands = here_is.stands;
    } in
    let turn : IsTurn groups old mid c.in-Some-next.at =
    record {
      packs = next.packs;
      end = next.end;
      node = next.node;
      left = next.left;
      fewer = next.fewer;
      within = c.in-Some-next.ensures.within;
      marked = c.in-Some-next.ensures.marked;
      job = c.in-Some-next.ensures.job;
      first = c.in-Some-next.ensures.first;
    } in
    let deep : length (above old) ≡ old.depth =
    count-above old (omega (arith, here_is.size, here_is.left, here_is.some)) in
    let more : 1 < shop.jobs - length (above old) =
    omega (arith, c.if-left-eq1.false, here_is.left, here_is.some, deep) in
    let none : first_end (drop c.walk.place text) ≡ None = search rules in
    inl (fails-sign shop threshold whole text c.walk.place (names_of old) (above old) (here old) (here mid)
    (first_of [] (above old)) (last_of [] (above old)) (shop.jobs - length (above old)) here_is.stands
    (turn-taken shop threshold whole text c.walk.place c.walk.left groups c.in-Some-next.at old mid at
    c.pack_groups-in-walk.ensures turn) more none)

pub go-requires-clause-packs : goal.go-requires-clause-packs
go-requires-clause-packs g c =
    let shop = c.args.instance.now in
    let old = c.walk.path in
    let all : c.walk.left ≡ c.walk.left - 1 + 1 = omega (arith, c.walk.invariant.some) in
    subst (λ ps. ArePacks g.V.Vector.list g.V.Vector.CAP g.V.Vector.WIDTH shop (c.walk.left - 1 + 1) ps.items)
    (sym c.next.ensures.packs)
    (subst (λ n. ArePacks g.V.Vector.list g.V.Vector.CAP g.V.Vector.WIDTH shop n old.packs.items) all
    c.walk.invariant.packs)

pub go-requires-clause-at : goal.go-requires-clause-at
go-requires-clause-at g c =
    let shop = c.args.instance.now in
    let text = c.args.text.now in
    let threshold = c.args.threshold in
    let whole = read_node shop threshold shop.jobs [] [] text in
    let old = c.walk.path in
    let mid = c.next.new.self in
    let groups = c.pack_groups-in-walk.result in
    let here_is = c.walk.invariant in
    let next = c.next.ensures in
    let at : IsAt shop threshold whole text c.walk.place c.walk.left old =
    record {
      size = here_is.size;
      left_is = here_is.left;
      some = here_is.some;
      have = here_is.packs.have;
      stands = here_is.stands;
    } in
    let turn : IsTurn groups old mid c.in-Some-next.at =
    record {
      packs = next.packs;
      end = next.end;
      node = next.node;
      left = next.left;
      fewer = next.fewer;
      within = c.in-Some-next.ensures.within;
      marked = c.in-Some-next.ensures.marked;
      job = c.in-Some-next.ensures.job;
      first = c.in-Some-next.ensures.first;
    } in (
      first_of [] (above old),
      last_of [] (above old),
      turn-next shop threshold whole text c.walk.place c.walk.left groups c.in-Some-next.at old mid at
          c.pack_groups-in-walk.ensures turn (c.walk.left - 1) refl,
    )

pub open-requires-in-Some-next-clause-constant : goal.open-requires-in-Some-next-clause-constant
open-requires-in-Some-next-clause-constant g c =
    constant-is (ap (λ o. o.machines) (c.go.ensures.opener ∙ c.next.ensures.opener) ∙ c.walk.invariant.room.machines)
    c.requires.constant

pub open-requires-in-Some-next-clause-at : goal.open-requires-in-Some-next-clause-at
open-requires-in-Some-next-clause-at g c =
    let shop = c.args.instance.now in
    let text = c.args.text.now in
    let threshold = c.args.threshold in
    let whole = read_node shop threshold shop.jobs [] [] text in
    let old = c.walk.path in
    let mid = c.next.new.self in
    let groups = c.pack_groups-in-walk.result in
    let here_is = c.walk.invariant in
    let next = c.next.ensures in
    let at : IsAt shop threshold whole text c.walk.place c.walk.left old =
    record {
      size = here_is.size;
      left_is = here_is.left;
      some = here_is.some;
      have = here_is.packs.have;
      stands = here_is.stands;
    } in
    let turn : IsTurn groups old mid c.in-Some-next.at =
    record {
      packs = next.packs;
      end = next.end;
      node = next.node;
      left = next.left;
      fewer = next.fewer;
      within = c.in-Some-next.ensures.within;
      marked = c.in-Some-next.ensures.marked;
      job = c.in-Some-next.ensures.job;
      first = c.in-Some-next.ensures.first;
    } in
    let first : List ℕ = first_of [] (above old) in
    let last : List ℕ = last_of [] (above old) in
    let job = (here mid).job in
    let first2 : List ℕ = first_with (here mid).end first job in
    let last2 : List ℕ = last_with (here mid).end last job in
    let put = c.go.new.self in
    let groups2 = c.pack_groups-in-Some-next.result in
    let is_next : IsNext shop first last (c.walk.left - 1) c.in-Some-next.at mid =
    turn-next shop threshold whole text c.walk.place c.walk.left groups c.in-Some-next.at old mid at
    c.pack_groups-in-walk.ensures turn (c.walk.left - 1) refl in
    let is_open : IsOpen shop threshold (here mid).end first last job =
    turn-open shop threshold whole text c.walk.place c.walk.left groups c.in-Some-next.at old mid at
    c.pack_groups-in-walk.ensures turn in
    let few : 1 ≤ c.walk.left - 1 = omega (arith, c.if-left-eq1.false, here_is.some) in
    let index : pack_groups (c.walk.left - 1) - 1 ≡ groups2 - 1 = omega (arith, c.pack_groups-in-Some-next.ensures) in
    let inside : groups2 - 1 < length put.packs.items = omega (
      arith,
      c.go.ensures.packs.have.count,
      c.pack_groups-in-Some-next.ensures,
      here_is.left,
      few,
    ) in
    let ready : IsReady g.V.Vector.list g.V.Vector.CAP g.V.Vector.WIDTH shop threshold first2 last2 groups2 put =
    record {
      is_node = c.go.ensures.node first last is_next;
      bound = is_open.below;
      limit = ap (λ o. o.limit) c.go.ensures.opener ∙ ap (λ o. o.limit) next.opener ∙ here_is.limit;
      room = subst (HasRoomFor shop) (sym (c.go.ensures.opener ∙ next.opener)) here_is.room;
      is_pack = λ none.
          subst (λ n. IsPack g.V.Vector.list g.V.Vector.CAP g.V.Vector.WIDTH shop (slice_index_or put.packs.items n none))
          index (c.go.ensures.packs.packed (c.walk.left - 1) none (omega arith) (omega (arith, here_is.left)));
      bytes = λ none. subst (λ n. AreBytes shop (slice_index_or put.packs.items n none)) index
          (c.go.ensures.packs.bytes (c.walk.left - 1) none (omega arith) (omega (arith, here_is.left)));
      has_left = subst (λ n. HasLeft shop first2 last2 (names_at put.packs.items n) (here put).left) index
          (c.go.ensures.left first last is_next);
    } in
    (shop, threshold, first2, last2, ready)

pub walk-preserved : goal.walk-preserved
walk-preserved g c =
    let shop = c.args.instance.now in
    let text = c.args.text.now in
    let threshold = c.args.threshold in
    let whole = read_node shop threshold shop.jobs [] [] text in
    let old = c.walk.path in
    let mid = c.next.new.self in
    let groups = c.pack_groups-in-walk.result in
    let here_is = c.walk.invariant in
    let next = c.next.ensures in
    let at : IsAt shop threshold whole text c.walk.place c.walk.left old =
    record {
      size = here_is.size;
      left_is = here_is.left;
      some = here_is.some;
      have = here_is.packs.have;
      stands = here_is.stands;
    } in
    let turn : IsTurn groups old mid c.in-Some-next.at =
    record {
      packs = next.packs;
      end = next.end;
      node = next.node;
      left = next.left;
      fewer = next.fewer;
      within = c.in-Some-next.ensures.within;
      marked = c.in-Some-next.ensures.marked;
      job = c.in-Some-next.ensures.job;
      first = c.in-Some-next.ensures.first;
    } in
    let first : List ℕ = first_of [] (above old) in
    let last : List ℕ = last_of [] (above old) in
    let job = (here mid).job in
    let first2 : List ℕ = first_with (here mid).end first job in
    let last2 : List ℕ = last_with (here mid).end last job in
    let put = c.go.new.self in
    let groups2 = c.pack_groups-in-Some-next.result in
    let is_next : IsNext shop first last (c.walk.left - 1) c.in-Some-next.at mid =
    turn-next shop threshold whole text c.walk.place c.walk.left groups c.in-Some-next.at old mid at
    c.pack_groups-in-walk.ensures turn (c.walk.left - 1) refl in
    let is_open : IsOpen shop threshold (here mid).end first last job =
    turn-open shop threshold whole text c.walk.place c.walk.left groups c.in-Some-next.at old mid at
    c.pack_groups-in-walk.ensures turn in
    let few : 1 ≤ c.walk.left - 1 = omega (arith, c.if-left-eq1.false, here_is.some) in
    let index : pack_groups (c.walk.left - 1) - 1 ≡ groups2 - 1 = omega (arith, c.pack_groups-in-Some-next.ensures) in
    let inside : groups2 - 1 < length put.packs.items = omega (
      arith,
      c.go.ensures.packs.have.count,
      c.pack_groups-in-Some-next.ensures,
      here_is.left,
      few,
    ) in
    let ready : IsReady g.V.Vector.list g.V.Vector.CAP g.V.Vector.WIDTH shop threshold first2 last2 groups2 put =
    record {
      is_node = c.go.ensures.node first last is_next;
      bound = is_open.below;
      limit = ap (λ o. o.limit) c.go.ensures.opener ∙ ap (λ o. o.limit) next.opener ∙ here_is.limit;
      room = subst (HasRoomFor shop) (sym (c.go.ensures.opener ∙ next.opener)) here_is.room;
      is_pack = λ none.
          subst (λ n. IsPack g.V.Vector.list g.V.Vector.CAP g.V.Vector.WIDTH shop (slice_index_or put.packs.items n none))
          index (c.go.ensures.packs.packed (c.walk.left - 1) none (omega arith) (omega (arith, here_is.left)));
      bytes = λ none. subst (λ n. AreBytes shop (slice_index_or put.packs.items n none)) index
          (c.go.ensures.packs.bytes (c.walk.left - 1) none (omega arith) (omega (arith, here_is.left)));
      has_left = subst (λ n. HasLeft shop first2 last2 (names_at put.packs.items n) (here put).left) index
          (c.go.ensures.left first last is_next);
    } in
    let new = c.open-in-Some-next.new.self in
    let begun = c.open-in-Some-next.ensures in
    let is_opened : IsOpened shop threshold first2 last2 (names_at new.packs.items (groups2 - 1)) new =
    path-opened g.V.Vector.list g.V.Vector.CAP g.V.Vector.WIDTH shop threshold first2 last2 groups2 c.in-Some-end_at.end put new
    ready inside begun.packs begun.end begun.node begun.left begun.within (begun.below shop threshold first2 last2 ready) in
    record {
      within = omega (arith, c.in-Some-end_at.ensures.within);
      left = omega (arith, here_is.left, begun.depth, c.go.ensures.depth, next.depth, few);
      some = few;
      size = begun.size ∙ c.go.ensures.size ∙ next.size ∙ here_is.size;
      limit = begun.limit ∙ ready.limit;
      room = begun.room shop ready.room;
      packs = subst (λ ps. ArePacks g.V.Vector.list g.V.Vector.CAP g.V.Vector.WIDTH shop (c.walk.left - 1) ps.items)
          (sym begun.packs) c.go.ensures.packs;
      stands = turn-stands shop threshold whole text c.walk.place c.walk.left groups c.in-Some-next.at old mid at
          c.pack_groups-in-walk.ensures turn (c.walk.left - 1) groups2 put new refl few
          c.pack_groups-in-Some-next.ensures next.above c.go.ensures.above c.go.ensures.names begun.packs begun.above
          (sym c.in-Some-end_at.ensures.value ∙ ap Some (sym begun.end)) is_opened;
    }
