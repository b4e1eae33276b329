use Rattle.std.proofs.Common.{◌≡◌, ◌+◌, ◌-◌, ◌<◌, length, slice_index, slice_index_or, ap, sym, ◌∙◌, subst, arith}
use Rattle.flow_shop.proofs.Lists.{some-of}
use Rattle.flow_shop.specs.Directions.{first_with, last_with}
use Rattle.flow_nodes.specs.Groups.{group_count}
use Rattle.flow_nodes.specs.declared.pack.Pack.{Pack}
use Rattle.flow_directions.specs.internal.Levels.{jobs_of, names_at, names_of}
use Rattle.flow_directions.specs.internal.Tree.{IsOpenAt}
use Rattle.flow_directions.proofs.LevelMoves.{level-moved, taken-made}
use Rattle.flow_directions.proofs.PackNames.{names-is}
use Rattle.flow_directions.proofs.tree.Tree.child.Goals as goal

pub returns-in-Some-clause-child : goal.returns-in-Some-clause-child
returns-in-Some-clause-child g c threshold first last tree next =
    (next.has_children.kept c.in-Some.at c.in-Some.is).0

pub returns-clause-level : goal.returns-clause-level
returns-clause-level g c threshold first last tree next =
    let packs = c.args.self.now.packs.items in
    let left = c.args.left + 1 in
    let here = c.args.here.now in
    level-moved g.V.Vector.list g.V.Vector.CAP g.V.Vector.WIDTH c.args.instance.now threshold packs
    c.make.new.self.packs.items c.args.self.now.nodes.items c.make.new.self.nodes.items left first last here
    (omega (arith, c.requires.few)) (ap (λ ps. length ps.items) c.make.ensures.packs)
    (λ none. ap (λ ps. slice_index_or ps.items (group_count left - 1) none) c.make.ensures.packs)
    c.make.ensures.above
    (taken-made g.V.Vector.list g.V.Vector.CAP g.V.Vector.WIDTH c.args.instance.now threshold packs
    c.args.self.now.nodes.items left first last (jobs_of (names_of packs) left here) here c.in_default.is
    next.has_children)

pub returns-clause-child : goal.returns-clause-child
returns-clause-child g c threshold first last tree next =
    let packs = c.args.self.now.packs.items in
    let left = c.args.left + 1 in
    let here = c.args.here.now in
    let groups = c.group_count.result in
    let same : groups ≡ group_count left = c.group_count.ensures in
    let within : groups - 1 < length packs = omega (arith, c.requires.few, same) in
    let none : Pack g.row.V.Denot = some-of packs (omega (arith, within)) in
    let named : slice_index (slice_index_or packs (groups - 1) none).names.items c.args.place ≡ here.job =
    ap (λ ns. slice_index ns c.args.place) (sym (names-is packs (groups - 1) none within))
    ∙ ap (λ n. slice_index (names_at packs (n - 1)) c.args.place) same
    ∙ next.named in
    let made = c.make.ensures.child threshold first last none tree
    (subst (λ n. IsOpenAt g.V.Vector.list g.V.Vector.CAP g.V.Vector.WIDTH c.args.instance.now threshold first last n here.at
    packs c.args.self.now.nodes.items) (sym same) next.has_children.is_open) in
    subst (λ n. IsOpenAt g.V.Vector.list g.V.Vector.CAP g.V.Vector.WIDTH c.args.instance.now threshold
    (first_with here.end first here.job) (last_with here.end last here.job) n here.top c.make.new.self.packs.items
    c.make.new.self.nodes.items) same
    (subst (λ j. IsOpenAt g.V.Vector.list g.V.Vector.CAP g.V.Vector.WIDTH c.args.instance.now threshold
    (first_with here.end first j) (last_with here.end last j) groups here.top c.make.new.self.packs.items
    c.make.new.self.nodes.items) named made)
