use Rattle.std.proofs.Common.{◌≡◌, ℕ, ◌+◌, ◌-◌, ◌*◌, ◌<◌, List, [], ◌∷◌, ◌++◌, length, Some, ap, sym, ◌∙◌}
use Rattle.std.proofs.Common.{subst, arith, length-append}
use Rattle.flow_shop.specs.Directions.{first_with, last_with, sign}
use Rattle.flow_shop.specs.Sequences.{jobs_left, IsSequence}
use Rattle.flow_shop.proofs.EndSteps.{count-child}
use Rattle.flow_shop.proofs.Lists.{some-of}
use Rattle.flow_nodes.specs.Groups.{group_count}
use Rattle.flow_nodes.specs.Marks.{chosen}
use Rattle.flow_nodes.proofs.KeptNodes.{lengths}
use Rattle.flow_shop.specs.Ends.{end_bound}
use Rattle.flow_directions.specs.Search.{Continues, directions_of, first_below, visits}
use Rattle.flow_directions.specs.internal.Lists.{HasLists}
use Rattle.flow_directions.specs.internal.Levels.{AreNested, IsBegun, IsLevel, IsNext, StandsBelow, first_of}
use Rattle.flow_directions.specs.internal.Levels.{jobs_of, last_of, met_with, names_at, names_of}
use Rattle.flow_directions.specs.declared.level.Level.{Level}
use Rattle.flow_directions.specs.internal.Outcomes.{HasCome, IsReached}
use Rattle.flow_directions.proofs.FoundSteps.{each-ok, found-below, found-none, found-over}
use Rattle.flow_directions.proofs.LevelMoves.{IsTurn}
use Rattle.flow_directions.proofs.LevelSteps.{lists-pop, lists-push, nested-pop}
use Rattle.flow_directions.proofs.PackNames.{names-is}
use Rattle.flow_directions.proofs.SearchReaches.{reached_is_below}
use Rattle.flow_directions.proofs.WalkStands.{Stands, stands-first, stands-back, stands-done, turn-low, turn-next}
use Rattle.flow_directions.proofs.WalkStands.{turn-open}
use Rattle.flow_directions.proofs.WalkStands.{turn-over, turn-down, turn-stopped}
use Rattle.flow_directions.proofs.walk.search.Given.{Over}
use Rattle.flow_directions.proofs.walk.search.Goals as goal
use Rattle.flow_directions.proofs.walk.search.Goals.{After-next, After-put, In-Some}

pub returns-then-terms-eq0 : goal.returns-then-terms-eq0
returns-then-terms-eq0 g c = record {
  found = λ first last are at.
      let shop = c.args.instance.now in
      let threshold = c.args.terms.threshold in
      let packs = c.args.tree.packs.items in
      let levels = c.in_ok-levels.levels.items in
      let parts = c.in_ok-parts.parts in
      let empty : levels ≡ [] = c.in_ok-levels.ensures.items in
      let left : ℕ = c.args.left + length levels in
      let below : StandsBelow shop threshold (names_of packs) first last left c.args.lists levels =
      subst (StandsBelow shop threshold (names_of packs) first last left c.args.lists) (sym empty)
      (record { are_levels = tt; has_lists = at.has_lists }) in (
        [],
        c.requires.none,
        found-none shop threshold c.args.terms.budget first last parts c.if-terms-eq0.true at.is_open.below
            (omega (arith, at.count, c.requires.some))
            (c.in_ok-parts.ensures.parts shop threshold first last c.requires.tree below
            ∙ ap (λ ls. met_with shop threshold (names_of packs) left first last ls
            (visits shop threshold (first_of first ls) (last_of last ls))) empty)
            (c.in_ok-parts.ensures.each shop threshold first last c.requires.tree below are)
            (omega (arith, c.in_ok-parts.ensures.count, ap length empty, at.count, c.requires.some)),
      );
}

pub add-requires : goal.add-requires
add-requires g c = ([], c.requires.none, omega arith)

pub walk-init : goal.walk-init
walk-init g c =
    let shop = c.args.instance.now in
    let here = c.enter.new.level in
    let made = c.in_ok-enter.ensures in
    let packs2 = c.enter.new.self.packs.items in
    let nodes2 = c.enter.new.self.nodes.items in
    let levels = c.in_ok-levels.levels.items in
    let empty : levels ≡ [] = c.in_ok-levels.ensures.items in
    record {
      tree = made.tree c.args.terms.threshold c.requires.tree;
      packs = ap (λ ps. length ps.items) made.packs;
      left = omega (arith, ap length empty);
      some = c.requires.some;
      room = made.room;
      walked = (
        sign here.end ∷ [],
        c.in_ok-add.ensures [] c.requires.none,
        omega (arith, c.if-terms-eq0.false),
        λ first last are at.
            subst (λ ls. Stands g.V.Vector.list g.V.Vector.CAP g.V.Vector.WIDTH shop c.args.terms.threshold first last
            c.args.left (sign here.end ∷ []) c.args.lists packs2 nodes2 ls here) (sym empty)
            (stands-first g.V.Vector.list g.V.Vector.CAP g.V.Vector.WIDTH shop c.args.terms.threshold first last
            c.args.left c.args.lists c.args.tree packs2 nodes2 here at c.requires.some
            (made.level c.args.terms.threshold first last c.requires.tree at.is_open at.count)),
      );
    }

-- the pack that has the jobs left
inside : (g : Over) (c : After-next g) → c.group_count.result - 1 < length c.walk.tree.packs.items
inside g c = omega (
  arith,
  c.group_count.ensures,
  c.walk.invariant.left,
  c.walk.invariant.packs,
  c.walk.invariant.some,
  c.requires.few,
)

names : (g : Over) (c : After-next g) →
    c.index.result.now.names.items
    ≡ names_of c.walk.tree.packs.items (c.args.left - length c.walk.levels.items)
names g c =
    let packs = c.walk.tree.packs.items in
    let pack = c.index.result.now in
    let more : c.walk.left ≡ c.args.left - length c.walk.levels.items = omega (arith, c.walk.invariant.left) in
    ap (λ p. p.names.items) c.index.ensures
    ∙ sym (names-is packs (c.group_count.result - 1) pack (inside g c))
    ∙ ap (λ n. names_at packs (n - 1)) c.group_count.ensures
    ∙ ap (names_of packs) more

pub returns-in_default : goal.returns-in_default
returns-in_default g c = record {
  found = λ first last are at.
      let next = (goal.at.returns-in_default g c).After-next in
      let packs = c.walk.tree.packs.items in
      let levels = c.walk.levels.items in
      let empty : jobs_of (names_of packs) (c.args.left - length levels) c.walk.here ≡ [] =
      ap (chosen c.walk.here.rest.words) (sym (names g next)) ∙ c.in-None.ensures.none in
      let walked = c.walk.invariant.walked in
      let done = stands-done g.V.Vector.list g.V.Vector.CAP g.V.Vector.WIDTH c.args.instance.now c.args.terms.threshold first
      last c.args.left walked.0 c.walk.lists packs c.walk.tree.nodes.items levels c.walk.here
      (walked.3 first last are at)
      (omega (arith, c.in_default.ensures.cases.0, c.walk.levels.ok.0)) empty in
      (walked.0, walked.1, (done.0, done.1, omega (arith, walked.2)));
}

pub take-requires : goal.take-requires
take-requires g c =
    let at = c.requires.at in
    let rest = c.pop.new.self.items in (
      c.args.instance.now.jobs,
      first_of at.0 rest,
      last_of at.1 rest,
      c.in-Some-pop.level.job,
      lists-pop (λ f l. HasLists c.args.instance.now.jobs f l c.walk.lists) at.0 at.1 c.walk.levels.items rest
          c.in-Some-pop.level c.in-Some-pop.ensures.items
          (c.walk.invariant.walked.3 at.0 at.1 at.2 at.3).has_lists,
    )

pub walk-preserved-in-None : goal.walk-preserved-in-None
walk-preserved-in-None g c =
    let shop = c.args.instance.now in
    let next = (goal.at.walk-preserved-in-None g c).After-next in
    let packs = c.walk.tree.packs.items in
    let levels = c.walk.levels.items in
    let rest = c.pop.new.self.items in
    let level = c.in-Some-pop.level in
    let here = c.walk.invariant in
    let parted : levels ≡ rest ++ level ∷ [] = c.in-Some-pop.ensures.items in
    let fewer : length levels ≡ length rest + 1 = ap length parted ∙ length-append rest (level ∷ []) in
    let at = c.requires.at in
    let nested = nested-pop rest level c.walk.here.top
    (subst (λ ls. AreNested ls c.walk.here.top) parted (here.walked.3 at.0 at.1 at.2 at.3).nested) in
    let empty : jobs_of (names_of packs) (c.args.left - length levels) c.walk.here ≡ [] =
    ap (chosen c.walk.here.rest.words) (sym (names g next)) ∙ c.in-None.ensures.none in
    record {
      tree = here.tree;
      packs = here.packs;
      left = omega (arith, here.left, fewer);
      some = omega arith;
      room = omega (arith, here.room, nested.1);
      walked = (
        here.walked.0,
        here.walked.1,
        here.walked.2,
        λ first last are is.
            let before = here.walked.3 first last are is in
            stands-back g.V.Vector.list g.V.Vector.CAP g.V.Vector.WIDTH shop c.args.terms.threshold first last c.args.left
            here.walked.0 c.walk.lists packs c.walk.tree.nodes.items levels rest c.walk.here level
            c.take.new.self
            before empty parted
            (c.take.ensures shop.jobs (first_of first rest) (last_of last rest) level.job
            (lists-pop (λ f l. HasLists shop.jobs f l c.walk.lists) first last levels rest level parted
            before.has_lists)),
      );
    }

-- how many jobs the node has
node-count : (g : Over) (c : After-next g) (first last : List ℕ) →
    Stands g.V.Vector.list g.V.Vector.CAP g.V.Vector.WIDTH c.args.instance.now c.args.terms.threshold first last c.args.left
    c.walk.invariant.walked.0 c.walk.lists c.walk.tree.packs.items c.walk.tree.nodes.items c.walk.levels.items
    c.walk.here →
    length (first_of first c.walk.levels.items) + length (last_of last c.walk.levels.items)
    + (c.args.left - length c.walk.levels.items) ≡ c.args.instance.now.jobs
node-count g c first last stands =
    let empty = some-of c.walk.tree.nodes.items (omega (arith, c.walk.invariant.room)) in
    let node = (stands.is_here.is_open.is_open c.index.result.now empty).is_node in
    omega (arith, node.count, stands.is_here.count)

pub put-requires : goal.put-requires
put-requires g c =
    let at = c.requires.at in
    let next = (goal.at.put-requires g c).After-next in
    let stands = c.walk.invariant.walked.3 at.0 at.1 at.2 at.3 in
    omega (
      arith,
      node-count g next at.0 at.1 stands,
      c.walk.invariant.left,
      c.walk.invariant.some,
      stands.has_lists.size,
      stands.has_lists.first_count,
      stands.has_lists.last_count,
    )

-- the place of the next child is taken
turn : (g : Over) (c : In-Some g) →
    IsTurn (names_of c.walk.tree.packs.items (c.args.left - length c.walk.levels.items)) c.in-Some.place c.walk.here
    c.next.new.self
turn g c =
    subst (λ ns. IsTurn ns c.in-Some.place c.walk.here c.next.new.self) (names g (goal.at.In-Some g c).After-next)
    (record {
      at = c.next.ensures.at;
      top = c.next.ensures.top;
      end = c.next.ensures.end;
      kept = c.next.ensures.kept;
      fewer = c.next.ensures.fewer;
      within = c.in-Some.ensures.within;
      marked = c.in-Some.ensures.marked;
      job = c.in-Some.ensures.job;
      first = c.in-Some.ensures.first;
    })

-- where it was the last job, a sequence below the threshold is reached
low : (g : Over) (c : After-put g) (first last : List ℕ) → c.walk.left ≡ 1 →
    Stands g.V.Vector.list g.V.Vector.CAP g.V.Vector.WIDTH c.args.instance.now c.args.terms.threshold first last c.args.left
    c.walk.invariant.walked.0 c.walk.lists c.walk.tree.packs.items c.walk.tree.nodes.items c.walk.levels.items
    c.walk.here →
    (first_below c.args.instance.now c.args.terms.threshold first last ≡ Some c.put.new.self.jobs.items)
    × (c.walk.invariant.walked.0 ≡ directions_of c.args.instance.now c.args.terms.threshold first last)
low g c first last one stands =
    let shop = c.args.instance.now in
    let threshold = c.args.terms.threshold in
    let packs = c.walk.tree.packs.items in
    let nodes = c.walk.tree.nodes.items in
    let levels = c.walk.levels.items in
    let here = c.next.new.self in
    let begin : List ℕ = first_of first levels in
    let behind : List ℕ = last_of last levels in
    let some = (goal.at.After-put g c).In-Some in
    let is = turn g some in
    let opened = turn-open g.V.Vector.list g.V.Vector.CAP g.V.Vector.WIDTH shop threshold first last c.args.left
    c.walk.invariant.walked.0 c.walk.lists packs nodes levels c.walk.here here c.in-Some.place stands is in
    turn-low g.V.Vector.list g.V.Vector.CAP g.V.Vector.WIDTH shop threshold first last c.args.left c.walk.invariant.walked.0
    c.walk.lists packs nodes levels c.walk.here here c.in-Some.place stands is c.put.new.self
    (omega (
      arith,
      stands.is_here.count,
      count-child shop.jobs here.end begin behind here.job opened.is_job.0 opened.is_job.1 opened.left,
      c.walk.invariant.left,
      one,
    ))
    (omega (
      arith,
      node-count g (goal.at.In-Some g some).After-next first last stands,
      lengths here.end begin behind here.job,
      c.walk.invariant.left,
      one,
    ))
    (c.put.ensures shop.jobs begin behind stands.has_lists)

pub sequence_of-requires : goal.sequence_of-requires
sequence_of-requires g c =
    let at = c.requires.at in
    let found = low g (goal.at.sequence_of-requires g c).After-put at.0 at.1
    (omega (arith, c.if-left-eq0.true, c.walk.invariant.some)) (c.walk.invariant.walked.3 at.0 at.1 at.2 at.3) in
    let reached = reached_is_below c.args.instance.now c.args.terms.threshold at.0 at.1 c.put.new.self.jobs.items at.2
    found.0 in
    subst (IsSequence c.args.instance.now.jobs) (sym c.all.ensures.value) reached.0.2

pub returns-then-left-eq0 : goal.returns-then-left-eq0
returns-then-left-eq0 g c = record {
  found = λ first last are at.
      let found = low g (goal.at.returns-then-left-eq0 g c).After-put first last
      (omega (arith, c.if-left-eq0.true, c.walk.invariant.some)) (c.walk.invariant.walked.3 first last are at) in
      let walked = c.walk.invariant.walked in
      each-ok (IsReached c.args.instance.now c.all.result.now)
      (HasCome (g.S.Signs.are c.walk.signs) c.args.instance.now c.args.terms.threshold c.args.terms.budget first last)
      c.sequence_of.result
      (λ made is. (
        walked.0,
        walked.1,
        found-below c.args.instance.now c.args.terms.threshold c.args.terms.budget first last c.all.result.now walked.0
            made (found.0 ∙ ap Some (sym c.all.ensures.value)) found.1 (omega (arith, walked.2)) is,
      ))
      c.sequence_of.ensures.found;
}

-- where the search stops there, the levels are those above the child
stopped : (g : Over) (c : After-put g) (first last : List ℕ) (total : ℕ) (levels : List Level) → total ≡ c.args.left →
    levels ≡ c.walk.levels.items ++ c.next.new.self ∷ [] →
    Stands g.V.Vector.list g.V.Vector.CAP g.V.Vector.WIDTH c.args.instance.now c.args.terms.threshold first last c.args.left
    c.walk.invariant.walked.0 c.walk.lists c.walk.tree.packs.items c.walk.tree.nodes.items c.walk.levels.items
    c.walk.here →
    StandsBelow c.args.instance.now c.args.terms.threshold (names_of c.walk.tree.packs.items) first last total
    c.put.new.self
    levels
stopped g c first last total levels all levels_are stands =
    subst (StandsBelow c.args.instance.now c.args.terms.threshold (names_of c.walk.tree.packs.items) first last total
    c.put.new.self) (sym levels_are)
    (turn-stopped g.V.Vector.list g.V.Vector.CAP g.V.Vector.WIDTH c.args.instance.now c.args.terms.threshold first last
    c.args.left c.walk.invariant.walked.0 c.walk.lists c.walk.tree.packs.items c.walk.tree.nodes.items c.walk.levels.items
    c.walk.here c.next.new.self c.in-Some.place stands (turn g (goal.at.After-put g c).In-Some) total c.put.new.self all
    (c.put.ensures c.args.instance.now.jobs (first_of first c.walk.levels.items) (last_of last c.walk.levels.items)
    stands.has_lists))

pub parts_left-requires-then-budget-eq0-clause-at : goal.parts_left-requires-then-budget-eq0-clause-at
parts_left-requires-then-budget-eq0-clause-at g c =
    let at = c.requires.at in
    let levels2 = c.push.new.self.items in
    let pushed : levels2 ≡ c.walk.levels.items ++ c.next.new.self ∷ [] = c.in_ok-push-in-Some.ensures.items in (
      c.args.instance.now,
      c.args.terms.threshold,
      at.0,
      at.1,
      c.walk.invariant.tree,
      stopped g (goal.at.parts_left-requires-then-budget-eq0-clause-at g c).After-put at.0 at.1
          (c.walk.left - 1 + length levels2) levels2
          (omega (
            arith,
            ap length pushed,
            length-append c.walk.levels.items (c.next.new.self ∷ []),
            c.walk.invariant.left,
            c.walk.invariant.some,
          ))
          pushed (c.walk.invariant.walked.3 at.0 at.1 at.2 at.3),
    )

pub returns-then-budget-eq0 : goal.returns-then-budget-eq0
returns-then-budget-eq0 g c = record {
  found = λ first last are at.
      let shop = c.args.instance.now in
      let threshold = c.args.terms.threshold in
      let packs = c.walk.tree.packs.items in
      let nodes = c.walk.tree.nodes.items in
      let levels = c.walk.levels.items in
      let levels2 = c.push.new.self.items in
      let here = c.next.new.self in
      let put = (goal.at.returns-then-budget-eq0 g c).After-put in
      let some = (goal.at.After-put g put).In-Some in
      let stands = c.walk.invariant.walked.3 first last are at in
      let pushed : levels2 ≡ levels ++ here ∷ [] = c.in_ok-push-in-Some.ensures.items in
      let total : ℕ = c.walk.left - 1 + length levels2 in
      let all : total ≡ c.args.left = omega (
        arith,
        ap length pushed,
        length-append levels (here ∷ []),
        c.walk.invariant.left,
        c.walk.invariant.some,
      ) in
      let below = stopped g put first last total levels2 all pushed stands in
      let opened = turn-open g.V.Vector.list g.V.Vector.CAP g.V.Vector.WIDTH shop threshold first last c.args.left
      c.walk.invariant.walked.0 c.walk.lists packs nodes levels c.walk.here here c.in-Some.place stands (turn g some) in
      let continues = turn-over g.V.Vector.list g.V.Vector.CAP g.V.Vector.WIDTH shop threshold first last c.args.left
      c.walk.invariant.walked.0 c.walk.lists packs nodes levels c.walk.here here c.in-Some.place stands (turn g some) in (
        c.walk.invariant.walked.0,
        c.walk.invariant.walked.1,
        found-over shop threshold c.args.terms.budget total first last
            c.walk.invariant.walked.0 c.in_ok-parts-in-Some.parts
            (names_of packs) levels2
            (omega (arith, c.walk.invariant.walked.2, c.if-budget-eq0.true))
            (subst (λ n. Continues (visits shop threshold first last) c.walk.invariant.walked.0 (met_with shop threshold
            (names_of packs) n first last levels2 (visits shop threshold (first_of first levels2) (last_of last levels2))))
            (sym all)
            (subst (λ ls. Continues (visits shop threshold first last) c.walk.invariant.walked.0 (met_with shop threshold
            (names_of packs) c.args.left first last ls (visits shop threshold (first_of first ls) (last_of last ls))))
            (sym pushed) continues))
            (subst (λ ls. end_bound shop (first_of first ls) (last_of last ls) < threshold) (sym pushed)
            (lists-push (λ f l. end_bound shop f l < threshold) first last levels here opened.below))
            (subst (λ ls. 0 < length (jobs_left shop.jobs (first_of first ls ++ last_of last ls))) (sym pushed)
            (lists-push (λ f l. 0 < length (jobs_left shop.jobs (f ++ l))) first last levels here (omega (
              arith,
              stands.is_here.count,
              count-child shop.jobs here.end (first_of first levels) (last_of last levels) here.job opened.is_job.0
                  opened.is_job.1 opened.left,
              c.walk.invariant.left,
              c.walk.invariant.some,
              c.if-left-eq0.false,
            ))))
            (c.in_ok-parts-in-Some.ensures.parts shop threshold first last c.walk.invariant.tree below)
            (c.in_ok-parts-in-Some.ensures.each shop threshold first last c.walk.invariant.tree below are)
            (omega (
              arith,
              c.in_ok-parts-in-Some.ensures.count,
              ap length pushed,
              length-append levels (here ∷ []),
              at.count,
              c.walk.invariant.left,
              c.walk.invariant.some,
              c.if-left-eq0.false,
            )),
      );
}

-- the child is searched next
next : (g : Over) (c : After-put g) (first last : List ℕ) →
    Stands g.V.Vector.list g.V.Vector.CAP g.V.Vector.WIDTH c.args.instance.now c.args.terms.threshold first last c.args.left
    c.walk.invariant.walked.0 c.walk.lists c.walk.tree.packs.items c.walk.tree.nodes.items c.walk.levels.items
    c.walk.here →
    IsNext g.V.Vector.list g.V.Vector.CAP g.V.Vector.WIDTH c.args.instance.now c.args.terms.threshold
    c.walk.tree.packs.items c.walk.tree.nodes.items (c.walk.left - 1 + 1) (first_of first c.walk.levels.items)
    (last_of last c.walk.levels.items) c.in-Some.place c.next.new.self
next g c first last stands =
    let packs = c.walk.tree.packs.items in
    let nodes = c.walk.tree.nodes.items in
    let levels = c.walk.levels.items in
    let some = (goal.at.After-put g c).In-Some in
    let after = (goal.at.In-Some g some).After-next in
    let pack = c.index.result.now in
    let place = c.group_count.result - 1 in
    let have = c.walk.invariant.tree.packs in
    let more : c.args.left - length levels ≡ c.walk.left - 1 + 1 =
    omega (arith, c.walk.invariant.left, c.walk.invariant.some) in
    let size : length (names_of packs (c.args.left - length levels)) ≡ group_count (c.args.left - length levels) * 16 =
    omega (
      arith,
      ap length (names g after),
      (have.rooms place pack (inside g after)).names,
      have.groups place pack (inside g after),
      ap (λ p. length p.names.items) c.index.ensures,
      c.group_count.ensures,
      c.walk.invariant.left,
      c.walk.invariant.some,
    ) in
    subst (λ n. IsNext g.V.Vector.list g.V.Vector.CAP g.V.Vector.WIDTH c.args.instance.now c.args.terms.threshold packs
    nodes n
    (first_of first levels) (last_of last levels) c.in-Some.place c.next.new.self) more
    (turn-next g.V.Vector.list g.V.Vector.CAP g.V.Vector.WIDTH c.args.instance.now c.args.terms.threshold first last
    c.args.left
    c.walk.invariant.walked.0 c.walk.lists packs nodes levels c.walk.here c.next.new.self c.in-Some.place stands
    (turn g some) size)

pub go-requires-clause-at : goal.go-requires-clause-at
go-requires-clause-at g c =
    let at = c.requires.at in (
      c.args.terms.threshold,
      first_of at.0 c.walk.levels.items,
      last_of at.1 c.walk.levels.items,
      c.walk.invariant.tree,
      next g (goal.at.go-requires-clause-at g c).After-put at.0 at.1 (c.walk.invariant.walked.3 at.0 at.1 at.2 at.3),
    )

pub add-requires-in-Some : goal.add-requires-in-Some
add-requires-in-Some g c =
    let walked = c.walk.invariant.walked in
    (walked.0, walked.1, omega (arith, walked.2, c.if-budget-eq0.false))

pub walk-preserved : goal.walk-preserved
walk-preserved g c =
    let shop = c.args.instance.now in
    let threshold = c.args.terms.threshold in
    let packs = c.walk.tree.packs.items in
    let nodes = c.walk.tree.nodes.items in
    let packs2 = c.go.new.self.packs.items in
    let nodes2 = c.go.new.self.nodes.items in
    let levels = c.walk.levels.items in
    let levels2 = c.go.new.levels.items in
    let made = c.in_ok-go-in-Some.ensures in
    let parent = made.above_it.0 in
    let child = c.go.new.here in
    let inv = c.walk.invariant in
    let text = inv.walked.0 in
    let text2 : List ℕ = text ++ sign child.end ∷ [] in
    let put = (goal.at.walk-preserved g c).After-put in
    let some = (goal.at.After-put g put).In-Some in
    let pushed : levels2 ≡ levels ++ parent ∷ [] = made.above_it.1 in
    let more : c.walk.left - 1 + 1 ≡ c.args.left - length levels = omega (arith, inv.left, inv.some) in
    let less : c.walk.left - 1 ≡ c.args.left - length levels - 1 = omega (arith, inv.left, inv.some) in
    record {
      tree = made.tree threshold inv.tree;
      packs = made.count ∙ inv.packs;
      left = omega (arith, inv.left, inv.some, ap length pushed, length-append levels (parent ∷ []));
      some = omega (arith, c.if-left-eq0.false);
      room = made.room;
      walked = (
        text2,
        c.in_ok-add-in-Some.ensures text inv.walked.1,
        omega (arith, length-append text (sign child.end ∷ []), inv.walked.2, c.if-budget-eq0.false),
        λ first last are at.
            let stands = inv.walked.3 first last are at in
            let begin : List ℕ = first_of first levels in
            let behind : List ℕ = last_of last levels in
            let here = c.next.new.self in
            let is_next = next g put first last stands in
            subst (λ ls. Stands g.V.Vector.list g.V.Vector.CAP g.V.Vector.WIDTH shop threshold first last c.args.left text2
            c.put.new.self packs2 nodes2 ls child) (sym pushed)
            (turn-down g.V.Vector.list g.V.Vector.CAP g.V.Vector.WIDTH shop threshold first last c.args.left text c.walk.lists
            packs nodes levels c.walk.here here c.in-Some.place stands (turn g some) packs2 nodes2 c.put.new.self parent
            child
            made.count
            (omega (arith, c.requires.few, inv.packs))
            (omega (arith, inv.left, inv.some, c.if-left-eq0.false))
            (λ n none least. made.others n none (omega (arith, least, less)))
            made.above made.above_it.2 made.above_it.3 made.above_it.4 made.above_it.5
            (subst (λ n. IsLevel g.V.Vector.list g.V.Vector.CAP g.V.Vector.WIDTH shop threshold packs2 nodes2 n begin behind
            parent) more (made.above_it.6 threshold begin behind inv.tree is_next))
            (subst (λ n. IsBegun g.V.Vector.list g.V.Vector.CAP g.V.Vector.WIDTH shop threshold packs2 nodes2 n
            (first_with here.end begin here.job) (last_with here.end behind here.job) child) less
            (made.level threshold begin behind inv.tree is_next))
            made.behind
            (c.put.ensures shop.jobs begin behind stands.has_lists)),
      );
    }
