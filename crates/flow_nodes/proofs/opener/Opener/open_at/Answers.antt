use Rattle.std.proofs.Common.{◌≡◌, ◌↔◌, ℕ, ◌+◌, ◌*◌, ◌/◌, ◌%◌, ◌<◌, nat_lt, List, ◌++◌, length, slice_index}
use Rattle.std.proofs.Common.{slice_index_or, take, drop, ap, sym, ◌∙◌, subst, arith}
use Rattle.std.specs.Global.{Vec}
use Rattle.std.specs.List.{filter}
use Rattle.std.proofs.lemmas.Bool.Decides.{Decides-ltb}
use Rattle.flow_shop.specs.Sequences.{has}
use Rattle.flow_nodes.specs.Groups.{IsGroup, child_bound}
use Rattle.flow_nodes.specs.Marks.{mark, chosen}
use Rattle.flow_nodes.specs.Packs.{left_below}
use Rattle.flow_nodes.specs.Open.{HasStartsAndBound}
use Rattle.flow_shop.proofs.Lists.{some-of}
use Rattle.flow_nodes.proofs.ChosenNames.{chosen-filter}
use Rattle.flow_nodes.proofs.PairSteps.{node-fits}
use Rattle.flow_nodes.proofs.JobsMarked.{group-name, marked-left}
use Rattle.flow_nodes.proofs.opener.Opener.open_at.Goals as goal

pub of-pairs-requires-clause-few : goal.of-pairs-requires-clause-few
of-pairs-requires-clause-few g c = omega (arith, c.requires.at.6.machines, c.requires.at.4.limits.machines)

pub of-pairs-requires-clause-fit : goal.of-pairs-requires-clause-fit
of-pairs-requires-clause-fit g c place low =
    let at = c.requires.at in
    node-fits at.0 at.2 at.3 c.args.node.now g.V.Vector.CAP at.1 c.args.self.now.limit at.4 at.8 at.7 c.requires.limit
    place (omega (arith, low, at.6.machines))

pub find_children-requires-clause-most : goal.find_children-requires-clause-most
find_children-requires-clause-most g c = omega (arith, c.requires.at.6.machines, c.requires.at.4.limits.machines)

pub find_children-requires-clause-machines : goal.find_children-requires-clause-machines
find_children-requires-clause-machines g c group none within =
    omega (
      arith,
      c.requires.at.6.machines,
      c.requires.at.5.room.machines group none (omega (arith, within, ap length c.as_slice.ensures.value)),
      ap (λ l. length (slice_index_or l group none).items) c.as_slice.ensures.value,
    )

pub find_children-requires-clause-few : goal.find_children-requires-clause-few
find_children-requires-clause-few g c =
    omega (arith, c.requires.at.5.room.few, ap length c.as_slice.ensures.value)

pub find_children-requires-clause-room : goal.find_children-requires-clause-room
find_children-requires-clause-room g c =
    let at = c.requires.at in
    let value = c.as_slice.ensures.value in (
      at.0,
      record {
        enough = omega (arith, at.9.enough, ap length value);
        machines = at.9.machines;
      },
      λ group none within. ap (λ l. length (slice_index_or l group none).items) value
          ∙ at.5.room.machines group none (omega (arith, within, ap length value)),
    )

pub returns-clause-children : goal.returns-clause-children
returns-clause-children g c shop threshold first last limit is is_pack has_left =
    record {
      below = below;
      within = λ place inside marked. c.find_children.ensures.within place (in_groups place inside) marked;
      count = c.find_children.ensures.count names
          (omega (arith, is_pack.room.names, ap length c.as_slice.ensures.value)) ∙ ap length below;
      known = λ place inside marked. c.find_children.ensures.known place (in_groups place inside) marked;
      whole = λ place none bounds inside was same.
          subst (λ job. HasStartsAndBound g.V.Vector.list g.V.Vector.CAP g.V.Vector.WIDTH shop c.args.end first last job
          (place % 16) (slice_index_or c.find_children.new.children.starts.items (place / 16) none).items bounds)
          (named place)
          (c.find_children.ensures.whole shop first last (these place) c.args.node.now place none bounds is
          c.of-pairs.ensures (in_groups place inside) (are place none inside) was
          (ap (has (first ++ last)) (named place)
          ∙ marked-left shop.jobs (first ++ last) left names has_left place inside was) same);
    }
  where
    names : List ℕ
    names = c.args.pack.now.names.items

    left : List ℕ
    left = c.args.left.now.words

    bound : ℕ → ℕ
    bound = child_bound shop c.args.end first last

    these : ℕ → List ℕ
    these place = take 16 (drop (place / 16 * 16) names)

    in_pack : (place : ℕ) → place < length names → place / 16 < length c.args.pack.now.groups.items
    in_pack place inside = omega (arith, inside, is_pack.room.names)

    in_groups : (place : ℕ) → place < length names → place / 16 < length c.as_slice.result.now
    in_groups place inside = omega (arith, in_pack place inside, ap length c.as_slice.ensures.value)

    named : (place : ℕ) → slice_index (these place) (place % 16) ≡ slice_index names place
    named place =
        let there : place / 16 * 16 + place % 16 ≡ place = omega arith in
        group-name names (place / 16) (place % 16) (omega arith) ∙ ap (slice_index names) there

    are : (place : ℕ) (none : Vec g.row.V.Denot) → place < length names →
        IsGroup g.V.Vector.list g.V.Vector.CAP g.V.Vector.WIDTH shop (these place)
        (slice_index_or c.as_slice.result.now (place / 16) none).items
    are place none inside =
        subst (λ l. IsGroup g.V.Vector.list g.V.Vector.CAP g.V.Vector.WIDTH shop (these place)
        (slice_index_or l (place / 16) none).items) (sym c.as_slice.ensures.value)
        (is_pack.each (place / 16) none (in_pack place inside))

    tells : (place : ℕ) → place < length names → mark left place ≡ 1 →
        mark c.find_children.new.children.below.words place ≡ 1 ↔ (bound (slice_index names place) < threshold)
    tells place inside was =
        let none = some-of c.as_slice.result.now (omega (arith, in_groups place inside)) in
        subst (λ job. mark c.find_children.new.children.below.words place ≡ 1 ↔ (bound job < threshold)) (named place)
        (c.find_children.ensures.exact shop threshold first last (these place) c.args.node.now place none
        limit is c.of-pairs.ensures (in_groups place inside) (are place none inside) was
        (ap (has (first ++ last)) (named place)
        ∙ marked-left shop.jobs (first ++ last) left names has_left place inside was))

    below : chosen c.find_children.new.children.below.words names ≡ left_below shop threshold c.args.end first last
    below =
        chosen-filter (λ job. nat_lt (bound job) threshold) left c.find_children.new.children.below.words names
        (λ place inside. (
          λ marked.
              let was = c.find_children.ensures.within place (in_groups place inside) marked in
              (was, (Decides-ltb (bound (slice_index names place)) threshold).1 ((tells place inside was).0 marked)),
          λ pair.
              (tells place inside pair.0).1 ((Decides-ltb (bound (slice_index names place)) threshold).0 pair.1),
        ))
        ∙ ap (filter (λ job. nat_lt (bound job) threshold)) has_left

pub find_children-requires-clause-bounds : goal.find_children-requires-clause-bounds
find_children-requires-clause-bounds g c = omega (arith, c.requires.bounds, ap length c.as_slice.ensures.value)

pub returns-clause-bound_count : goal.returns-clause-bound_count
returns-clause-bound_count g c = c.find_children.ensures.bound_count
