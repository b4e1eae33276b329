use Rattle.std.proofs.Common.{◌≡◌, ℕ, ◌+◌, ◌-◌, ◌*◌, ◌<◌, ◌≤◌, List, [], ◌∷◌, ◌++◌, length, length-append}
use Rattle.std.proofs.Common.{slice_index, slice_index_or, sum_by, append_assoc, take, refl, ap}
use Rattle.std.proofs.Common.{sym, ◌∙◌, subst, inl, inr, arith}
use Rattle.std.proofs.lemmas.Bool.{cases_Bool, true≢false}
use Rattle.std.proofs.lemmas.List.{append-nil, get_or_default}
use Rattle.flow_shop.specs.Directions.{first_with, last_with}
use Rattle.flow_shop.specs.declared.end.End.TheVariants.{Front}
use Rattle.flow_shop.proofs.Lists.{some-of}
use Rattle.flow_nodes.specs.Marks.{mark}
use Rattle.flow_nodes.specs.Packs.{jobs_at, left_below}
use Rattle.flow_nodes.specs.declared.pack.Pack.{Pack}
use Rattle.flow_directions.specs.Search.{weight}
use Rattle.flow_nodes.specs.Open.{IsOpenNode, children_at}
use Rattle.flow_directions.specs.internal.Tree.{AreKept, IsOpenAt, IsTree}
use Rattle.flow_directions.proofs.TreeSteps.{children-kept, children-more, children-of, count-small, fewer-kept}
use Rattle.flow_directions.proofs.TreeSteps.{names-count, open-kept, place-kept}
use Rattle.flow_directions.proofs.WeightSteps.{fewest_at, weight-is, weight-more}
use Rattle.flow_directions.proofs.tree.Tree.weigh.Given.{Over}
use Rattle.flow_directions.proofs.tree.Tree.weigh.Goals as goal
use Rattle.flow_directions.proofs.tree.Tree.weigh.Goals.{Start, After-at, In-Some, After-make, After-fewest-weight}
use Rattle.flow_directions.proofs.tree.Tree.weigh.Goals.{In_default}

-- the node of these lists, at the beginning
abbrev IsThere : (g : Over) → Start g → ℕ → List ℕ → List ℕ → Type 0
IsThere g c threshold first last =
    IsOpenAt g.V.Vector.list g.V.Vector.CAP g.V.Vector.WIDTH c.args.instance.now threshold first last c.args.groups c.args.at
    c.args.self.now.packs.items c.args.self.now.nodes.items

-- the jobs below the threshold are those of the node's children
below-is : (g : Over) (c : After-at g) (threshold : ℕ) (first last : List ℕ) (none : _) →
    IsThere g (goal.at.After-at g c).Start threshold first last →
    jobs_at (slice_index_or c.args.self.now.packs.items (c.args.groups - 1) none) c.at.result.now.below
    ≡ left_below c.args.instance.now threshold c.args.weighing.end first last
below-is g c threshold first last none is =
    let pack = slice_index_or c.args.self.now.packs.items (c.args.groups - 1) none in
    let node = c.index.result.now in
    let open_is = is.is_open none node in
    ap (λ children. jobs_at pack children.below)
    (c.at.ensures ∙ ap (children_at c.args.weighing.end) c.index.ensures)
    ∙ (children-of g.V.Vector.list g.V.Vector.CAP g.V.Vector.WIDTH c.args.instance.now threshold c.args.weighing.end first
    last pack (slice_index_or c.args.self.now.nodes.items c.args.at node) open_is).below

pub children-init : goal.children-init
children-init g c =
    let here = (goal.at.children-init g c).After-at in
    let shop = c.args.instance.now in
    let end = c.args.weighing.end in
    let nodes = c.args.self.now.nodes.items in
    let packs = c.args.self.now.packs.items in
    let at = c.requires.at in
    let low : c.args.at < length nodes = omega (arith, c.requires.order, c.requires.room) in
    let size : (none : _) → length (jobs_at (slice_index_or packs (c.args.groups - 1) none) c.at.result.now.below)
    ≡ length (left_below shop at.0 end at.1 at.2) =
    λ none. ap length (below-is g here at.0 at.1 at.2 none at.4) in
    record {
      packs = refl;
      size = refl;
      above = refl;
      tree = λ threshold tree. tree;
      before = λ place below. absurd (omega (arith, below));
      behind = omega arith;
      same = λ not. refl;
      marked = λ place empty one.
          ap (λ children. mark children.below.words place) (sym (c.at.ensures
          ∙ ap (children_at end) (c.index.ensures ∙ get_or_default nodes c.args.at c.index.result.now empty low)))
          ∙ one;
      room = λ none keeps.
          let node = c.index.result.now in
          omega (
            arith,
            size none,
            c.requires.kept node keeps,
            (children-of g.V.Vector.list g.V.Vector.CAP g.V.Vector.WIDTH shop at.0 end at.1 at.2
                (slice_index_or packs (c.args.groups - 1) none) (slice_index_or nodes c.args.at node)
                (at.4.is_open none node)).count,
          );
      small = λ none. omega (
        arith,
        size none,
        count-small shop at.0 at.1 at.2 end (slice_index_or nodes c.args.at c.index.result.now).node
            (at.4.is_open none c.index.result.now).is_node,
      );
      sum = λ threshold first last none tree is. omega (
        arith,
        ap (sum_by (fewest_at shop threshold end first last)) (below-is g here threshold first last none is),
        weight-is shop threshold end first last,
      );
      kept = λ threshold first last none tree is keeps.
          ([], below-is g here threshold first last none is, omega arith, tt);
    }

-- how many names there are
size-is : (g : Over) (c : Start g) (none : _) →
    length (slice_index_or c.args.self.now.packs.items (c.args.groups - 1) none).names.items ≡ c.args.groups * 16
size-is g c none =
    omega (
      arith,
      c.requires.some,
      names-count c.args.instance.now c.args.self.now.packs.items (c.args.groups - 1) none c.requires.at.3.packs
          (omega (arith, c.requires.some, c.requires.few)),
    )

-- the job at the place
abbrev job_is : (g : Over) → In-Some g → Pack g.row.V.Denot → ℕ
job_is g c none =
    slice_index (slice_index_or c.args.self.now.packs.items (c.args.groups - 1) none).names.items c.in-Some.place

-- it stands first of those that are still to be weighed
first-job : (g : Over) (c : In-Some g) (none : _) →
    jobs_at (slice_index_or c.args.self.now.packs.items (c.args.groups - 1) none) c.children.rest
    ≡ job_is g c none
    ∷ jobs_at (slice_index_or c.args.self.now.packs.items (c.args.groups - 1) none) c.pop_from.new.self
first-job g c none =
    c.in-Some.ensures.first (slice_index_or c.args.self.now.packs.items (c.args.groups - 1) none).names.items
    (size-is g (goal.at.In-Some g c).Start none)

-- there is room for its child
room-is : (g : Over) (c : In-Some g) → c.children.to < length c.children.self.nodes.items
room-is g c =
    let none = some-of c.args.self.now.packs.items (omega (arith, c.requires.some, c.requires.few)) in
    elim (cases_Bool c.args.weighing.keeps) [
      | inl keeps ↦ omega (
        arith,
        c.children.invariant.room none keeps,
        c.children.invariant.size,
        ap length (first-job g c none),
      )
      | inr not ↦ omega (arith, c.children.invariant.same not, c.children.invariant.size, c.requires.room)
    ]

-- the node is still there
still-is : (g : Over) (c : In-Some g) (threshold : ℕ) (first last : List ℕ) →
    IsThere g (goal.at.In-Some g c).Start threshold first last →
    IsOpenAt g.V.Vector.list g.V.Vector.CAP g.V.Vector.WIDTH c.args.instance.now threshold first last c.args.groups c.args.at
    c.children.self.packs.items c.children.self.nodes.items
still-is g c threshold first last is =
    open-kept g.V.Vector.list g.V.Vector.CAP g.V.Vector.WIDTH c.args.instance.now threshold first last c.args.groups c.args.at
    c.args.weighing.to c.args.self.now.packs.items c.children.self.packs.items c.args.self.now.nodes.items
    c.children.self.nodes.items (ap (λ v. v.items) c.children.invariant.packs) c.children.invariant.above
    c.requires.order is

pub make-requires-clause-room : goal.make-requires-clause-room
make-requires-clause-room g c = room-is g (goal.at.make-requires-clause-room g c).In-Some

pub make-requires-clause-at : goal.make-requires-clause-at
make-requires-clause-at g c =
    let at = c.requires.at in (
      at.0,
      at.1,
      at.2,
      c.children.invariant.tree at.0 at.3,
      still-is g (goal.at.make-requires-clause-at g c).In-Some at.0 at.1 at.2 at.4,
    )

pub make-requires-clause-marked : goal.make-requires-clause-marked
make-requires-clause-marked g c empty =
    ap (λ n. mark (children_at c.args.weighing.end n).below.words c.in-Some.place)
    (place-kept c.args.self.now.nodes.items c.children.self.nodes.items c.args.weighing.to c.args.at empty
    c.children.invariant.above c.requires.order)
    ∙ c.children.invariant.marked c.in-Some.place empty c.in-Some.ensures.marked

pub index-requires-in-Some : goal.index-requires-in-Some
index-requires-in-Some g c =
    omega (
      arith,
      room-is g (goal.at.index-requires-in-Some g c).In-Some,
      c.make.ensures.size,
      c.make.new.self.nodes.ok.0,
    )

-- its child, once it is made
child-is : (g : Over) (c : After-make g) (threshold : ℕ) (first last : List ℕ) (none : _) →
    IsTree g.V.Vector.CAP c.args.instance.now threshold c.args.self.now →
    IsThere g (goal.at.After-make g c).Start threshold first last →
    IsOpenAt g.V.Vector.list g.V.Vector.CAP g.V.Vector.WIDTH c.args.instance.now threshold
    (first_with c.args.weighing.end first (job_is g (goal.at.After-make g c).In-Some none))
    (last_with c.args.weighing.end last (job_is g (goal.at.After-make g c).In-Some none)) c.args.groups c.children.to
    c.make.new.self.packs.items c.make.new.self.nodes.items
child-is g c threshold first last none tree is =
    let end = c.args.weighing.end in
    subst (λ ps. IsOpenAt g.V.Vector.list g.V.Vector.CAP g.V.Vector.WIDTH c.args.instance.now threshold
    (first_with end first (slice_index (slice_index_or ps (c.args.groups - 1) none).names.items c.in-Some.place))
    (last_with end last (slice_index (slice_index_or ps (c.args.groups - 1) none).names.items c.in-Some.place))
    c.args.groups c.children.to c.make.new.self.packs.items c.make.new.self.nodes.items)
    (ap (λ v. v.items) c.children.invariant.packs)
    (c.make.ensures.child threshold first last none (c.children.invariant.tree threshold tree)
    (still-is g (goal.at.After-make g c).In-Some threshold first last is))

-- what it adds
fewest-is : (g : Over) (c : After-fewest-weight g) (threshold : ℕ) (first last : List ℕ) (none : _) →
    IsTree g.V.Vector.CAP c.args.instance.now threshold c.args.self.now →
    IsThere g (goal.at.After-fewest-weight g c).Start threshold first last →
    c.fewest-weight.result
    ≡ fewest_at c.args.instance.now threshold c.args.weighing.end first last
    (job_is g (goal.at.After-fewest-weight g c).In-Some none)
fewest-is g c threshold first last none tree is =
    let end = c.args.weighing.end in
    let job = job_is g (goal.at.After-fewest-weight g c).In-Some none in
    let pack = slice_index_or c.make.new.self.packs.items (c.args.groups - 1) none in
    let child = child-is g (goal.at.After-fewest-weight g c).After-make threshold first last none tree is in
    c.fewest-weight.ensures c.args.instance.now threshold (first_with end first job) (last_with end last job) pack
    (subst (IsOpenNode g.V.Vector.list g.V.Vector.CAP g.V.Vector.WIDTH c.args.instance.now threshold
    (first_with end first job) (last_with end last job) pack) (sym c.index-in-Some.ensures)
    (child.is_open none c.index-in-Some.result.now))

-- the weight stays small with it
small-is : (g : Over) (c : After-fewest-weight g) (none : _) →
    c.children.weight + c.fewest-weight.result
    + 800 * length (jobs_at (slice_index_or c.args.self.now.packs.items (c.args.groups - 1) none) c.pop_from.new.self)
    ≤ 640000
small-is g c none =
    let at = c.requires.at in
    let shop = c.args.instance.now in
    let end = c.args.weighing.end in
    let job = job_is g (goal.at.After-fewest-weight g c).In-Some none in
    let child = child-is g (goal.at.After-fewest-weight g c).After-make at.0 at.1 at.2 none at.3 at.4 in
    omega (
      arith,
      c.children.invariant.small none,
      ap length (first-job g (goal.at.After-fewest-weight g c).In-Some none),
      fewest-is g c at.0 at.1 at.2 none at.3 at.4,
      count-small shop at.0 (first_with end at.1 job) (last_with end at.2 job) Front
          (slice_index_or c.make.new.self.nodes.items c.children.to c.index-in-Some.result.now).node
          (child.is_open none c.index-in-Some.result.now).is_node,
    )

-- and what the others add makes the whole weight
more-is : (g : Over) (c : After-fewest-weight g) (threshold : ℕ) (first last : List ℕ) (none : _) →
    IsTree g.V.Vector.CAP c.args.instance.now threshold c.args.self.now →
    IsThere g (goal.at.After-fewest-weight g c).Start threshold first last →
    c.children.weight + c.fewest-weight.result
    + sum_by (fewest_at c.args.instance.now threshold c.args.weighing.end first last)
    (jobs_at (slice_index_or c.args.self.now.packs.items (c.args.groups - 1) none) c.pop_from.new.self)
    ≡ weight c.args.instance.now threshold c.args.weighing.end first last
more-is g c threshold first last none tree is =
    let here = (goal.at.After-fewest-weight g c).In-Some in
    let pack = slice_index_or c.args.self.now.packs.items (c.args.groups - 1) none in
    weight-more c.args.instance.now threshold c.args.weighing.end first last (job_is g here none)
    (jobs_at pack c.children.rest) (jobs_at pack c.pop_from.new.self) c.children.weight c.fewest-weight.result
    (first-job g here none) (fewest-is g c threshold first last none tree is)
    (c.children.invariant.sum threshold first last none tree is)

pub overflow_add-weight : goal.overflow_add-weight
overflow_add-weight g c =
    let none = some-of c.args.self.now.packs.items (omega (arith, c.requires.some, c.requires.few)) in
    omega (arith, small-is g (goal.at.overflow_add-weight g c).After-fewest-weight none)

-- the first nodes stay
above-is : (g : Over) (c : After-make g) →
    take c.args.weighing.to c.make.new.self.nodes.items ≡ take c.args.weighing.to c.args.self.now.nodes.items
above-is g c =
    fewer-kept c.children.self.nodes.items c.make.new.self.nodes.items c.args.weighing.to c.children.to
    c.children.invariant.behind c.make.ensures.above
    ∙ c.children.invariant.above

pub returns-then-weight-weighing-clause-above : goal.returns-then-weight-weighing-clause-above
returns-then-weight-weighing-clause-above g c =
    above-is g (goal.at.returns-then-weight-weighing-clause-above g c).After-make

pub returns-then-weight-weighing-clause-small : goal.returns-then-weight-weighing-clause-small
returns-then-weight-weighing-clause-small g c =
    let none = some-of c.args.self.now.packs.items (omega (arith, c.requires.some, c.requires.few)) in
    omega (arith, small-is g (goal.at.returns-then-weight-weighing-clause-small g c).After-fewest-weight none)

pub returns-then-weight-weighing-clause-reaches : goal.returns-then-weight-weighing-clause-reaches
returns-then-weight-weighing-clause-reaches g c threshold first last tree is reached =
    let none = some-of c.args.self.now.packs.items (omega (arith, c.requires.some, c.requires.few)) in
    omega (
      arith,
      reached,
      more-is g (goal.at.returns-then-weight-weighing-clause-reaches g c).After-fewest-weight threshold first last none
          tree is,
    )

pub overflow_add-to : goal.overflow_add-to
overflow_add-to g c =
    omega (
      arith,
      room-is g (goal.at.overflow_add-to g c).In-Some,
      c.children.self.nodes.ok.0,
    )

pub children-preserved-then-weighing : goal.children-preserved-then-weighing
children-preserved-then-weighing g c =
    let here = (goal.at.children-preserved-then-weighing g c).After-fewest-weight in
    let made = (goal.at.children-preserved-then-weighing g c).After-make in
    let got = (goal.at.children-preserved-then-weighing g c).In-Some in
    let inv = c.children.invariant in
    let shop = c.args.instance.now in
    let end = c.args.weighing.end in
    record {
      packs = c.make.ensures.packs ∙ inv.packs;
      size = c.make.ensures.size ∙ inv.size;
      above = above-is g made;
      tree = λ threshold tree. c.make.ensures.tree threshold (inv.tree threshold tree);
      before = c.in-Some.ensures.before;
      marked = λ place empty one. inv.marked place empty (c.in-Some.ensures.fewer place one);
      behind = omega (arith, inv.behind);
      same = λ not. absurd (true≢false (sym c.if-weighing.true ∙ not));
      room = λ none keeps. omega (arith, inv.room none keeps, ap length (first-job g got none));
      small = small-is g here;
      sum = more-is g here;
      kept = λ threshold first last none tree is keeps.
          let before = inv.kept threshold first last none tree is keeps in
          let pack = slice_index_or c.args.self.now.packs.items (c.args.groups - 1) none in
          let job = job_is g got none in (
            before.0 ++ job ∷ [],
            append_assoc before.0 (job ∷ []) (jobs_at pack c.pop_from.new.self)
                ∙ ap (λ l. before.0 ++ l) (sym (first-job g got none)) ∙ before.1,
            omega (arith, before.2, length-append before.0 (job ∷ [])),
            children-more g.V.Vector.list g.V.Vector.CAP g.V.Vector.WIDTH shop threshold end first last c.args.groups before.0
                job c.args.weighing.to c.make.new.self.packs.items c.make.new.self.nodes.items
                (children-kept g.V.Vector.list g.V.Vector.CAP g.V.Vector.WIDTH shop threshold end first last c.args.groups
                before.0 c.args.weighing.to c.children.to c.children.self.packs.items c.make.new.self.packs.items
                c.children.self.nodes.items c.make.new.self.nodes.items (ap (λ v. v.items) c.make.ensures.packs)
                c.make.ensures.above (omega (arith, before.2)) before.3)
                (subst (λ p. IsOpenAt g.V.Vector.list g.V.Vector.CAP g.V.Vector.WIDTH shop threshold
                (first_with end first job) (last_with end last job) c.args.groups p c.make.new.self.packs.items
                c.make.new.self.nodes.items) before.2 (child-is g made threshold first last none tree is)),
          );
    }

pub children-preserved : goal.children-preserved
children-preserved g c =
    let here = (goal.at.children-preserved g c).After-fewest-weight in
    let made = (goal.at.children-preserved g c).After-make in
    let inv = c.children.invariant in
    record {
      packs = c.make.ensures.packs ∙ inv.packs;
      size = c.make.ensures.size ∙ inv.size;
      above = above-is g made;
      tree = λ threshold tree. c.make.ensures.tree threshold (inv.tree threshold tree);
      before = c.in-Some.ensures.before;
      marked = λ place empty one. inv.marked place empty (c.in-Some.ensures.fewer place one);
      behind = inv.behind;
      same = inv.same;
      room = λ none keeps. absurd (true≢false (sym keeps ∙ c.if-weighing.false));
      small = small-is g here;
      sum = more-is g here;
      kept = λ threshold first last none tree is keeps. absurd (true≢false (sym keeps ∙ c.if-weighing.false));
    }

pub returns-clause-small : goal.returns-clause-small
returns-clause-small g c =
    let none = some-of c.args.self.now.packs.items (omega (arith, c.requires.some, c.requires.few)) in
    omega (arith, c.children.invariant.small none)

-- no job is left
none-left : (g : Over) (c : In_default g) (none : _) →
    jobs_at (slice_index_or c.args.self.now.packs.items (c.args.groups - 1) none) c.children.rest ≡ []
none-left g c none =
    c.in_default.ensures.none (slice_index_or c.args.self.now.packs.items (c.args.groups - 1) none).names.items
    (size-is g (goal.at.In_default g c).Start none)

pub returns-clause-exact : goal.returns-clause-exact
returns-clause-exact g c threshold first last tree is less =
    let none = some-of c.args.self.now.packs.items (omega (arith, c.requires.some, c.requires.few)) in
    omega (
      arith,
      c.children.invariant.sum threshold first last none tree is,
      ap (sum_by (fewest_at c.args.instance.now threshold c.args.weighing.end first last))
          (none-left g (goal.at.returns-clause-exact g c).In_default none),
    )

pub returns-clause-reaches : goal.returns-clause-reaches
returns-clause-reaches g c threshold first last tree is reached =
    let none = some-of c.args.self.now.packs.items (omega (arith, c.requires.some, c.requires.few)) in
    omega (arith, c.children.invariant.sum threshold first last none tree is, reached)

pub returns-clause-kept : goal.returns-clause-kept
returns-clause-kept g c threshold first last tree is keeps less =
    let none = some-of c.args.self.now.packs.items (omega (arith, c.requires.some, c.requires.few)) in
    let all = c.children.invariant.kept threshold first last none tree is keeps in
    let done : all.0 ≡ left_below c.args.instance.now threshold c.args.weighing.end first last =
    sym (append-nil all.0)
    ∙ ap (λ l. all.0 ++ l) (sym (none-left g (goal.at.returns-clause-kept g c).In_default none)) ∙ all.1 in
    subst (λ l. AreKept g.V.Vector.list g.V.Vector.CAP g.V.Vector.WIDTH c.args.instance.now threshold c.args.weighing.end
    first last c.args.groups l c.args.weighing.to c.children.self.packs.items c.children.self.nodes.items) done all.3
