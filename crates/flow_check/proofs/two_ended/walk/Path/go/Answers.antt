use Rattle.std.proofs.Common.{◌≡◌, ℕ, ◌+◌, ◌-◌, ◌<◌, List, ◌++◌, length}
use Rattle.std.proofs.Common.{ap, sym, ◌∙◌, subst, arith}
use Rattle.flow_shop.specs.Sequences.{jobs_left}
use Rattle.flow_shop.specs.Directions.{first_with, last_with}
use Rattle.flow_nodes.specs.Nodes.{IsNode}
use Rattle.flow_check.specs.internal.Frames.{pack_groups}
use Rattle.flow_nodes.specs.Marks.{chosen}
use Rattle.flow_nodes.proofs.KeptNodes.{lengths}
use Rattle.flow_check.specs.internal.Frames.{ArePacks, HavePacks, here, names_at}
use Rattle.flow_check.proofs.PackNames.{names-same, packs-below, packs-packed}
use Rattle.flow_check.proofs.two_ended.walk.Path.go.Goals as goal

pub put-requires-clause-at : goal.put-requires-clause-at
put-requires-clause-at g c =
    let next = c.requires.at.2 in
    (c.requires.at.0, c.requires.at.1, next.is_node, next.is_job, next.fresh)

pub pack-requires-clause-packs : goal.pack-requires-clause-packs
pack-requires-clause-packs g c =
    subst (λ ps. HavePacks c.args.instance.now ps.items) (sym c.put.ensures.packs) c.requires.packs.have

pub pack-requires-clause-count : goal.pack-requires-clause-count
pack-requires-clause-count g c =
    let shop = c.args.instance.now in
    let old = here c.args.self.now in
    let first : List ℕ = c.requires.at.0 in
    let last : List ℕ = c.requires.at.1 in
    let next = c.requires.at.2 in
    let first2 : List ℕ = first_with old.end first old.job in
    let last2 : List ℕ = last_with old.end last old.job in
    let packs = c.args.self.now.packs.items in
    let names : List ℕ = names_at packs (pack_groups (c.args.left + 1) - 1) in
    let left : chosen (here c.put.new.self).left.words names ≡ jobs_left shop.jobs (first2 ++ last2) =
    c.put.ensures.left first last names next.has_left next.fresh next.within next.named next.marked in
    let node : IsNode shop first2 last2 (here c.put.new.self).node =
    c.put.ensures.node first last next.is_node next.fresh in
    let count : length (jobs_left shop.jobs (first2 ++ last2)) ≡ c.args.left =
    omega (arith, node.count, next.count, lengths old.end first last old.job) in
    ap (λ ps. length (chosen (here c.put.new.self).left.words (names_at ps.items (pack_groups (c.args.left + 1) - 1))))
    c.put.ensures.packs
    ∙ ap length left
    ∙ count

pub returns-then-fits_fewer-clause-packs : goal.returns-then-fits_fewer-clause-packs
returns-then-fits_fewer-clause-packs g c =
    let shop = c.args.instance.now in
    let list = g.V.Vector.list in
    let cap = g.V.Vector.CAP in
    let width = g.V.Vector.WIDTH in
    let put : ArePacks list cap width shop (c.args.left + 1) c.put.new.self.packs.items =
    subst (λ ps. ArePacks list cap width shop (c.args.left + 1) ps.items) (sym c.put.ensures.packs) c.requires.packs in
    packs-packed list cap width shop c.args.left c.put.new.self.packs.items c.pack.new.self.packs.items
    c.requires.some put c.pack.ensures.packs c.pack.ensures.others c.pack.ensures.pack c.pack.ensures.bytes

pub returns-else-fits_fewer-clause-packs : goal.returns-else-fits_fewer-clause-packs
returns-else-fits_fewer-clause-packs g c =
    let shop = c.args.instance.now in
    let list = g.V.Vector.list in
    let cap = g.V.Vector.CAP in
    let width = g.V.Vector.WIDTH in
    let put : ArePacks list cap width shop (c.args.left + 1) c.put.new.self.packs.items =
    subst (λ ps. ArePacks list cap width shop (c.args.left + 1) ps.items) (sym c.put.ensures.packs) c.requires.packs in
    packs-below list cap width shop c.args.left c.put.new.self.packs.items
    (omega (arith, c.fits_fewer.ensures.same c.if-fits_fewer.false)) c.requires.few put

pub returns-then-fits_fewer-clause-names : goal.returns-then-fits_fewer-clause-names
returns-then-fits_fewer-clause-names g c more low high =
    let old = c.args.self.now.packs.items in
    let at = pack_groups more - 1 in
    let within : at < length old = omega (arith, low, high, c.requires.packs.have.count, c.requires.some) in
    sym (names-same c.put.new.self.packs.items c.pack.new.self.packs.items at
    (omega (arith, within, ap (λ ps. length ps.items) c.put.ensures.packs))
    (omega (
      arith,
      c.pack.ensures.packs.count,
      c.requires.packs.have.count,
      ap (λ ps. length ps.items) c.put.ensures.packs,
    ))
    (λ none. c.pack.ensures.others at none (omega (arith, low, c.fits_fewer.ensures.fewer c.if-fits_fewer.true, c.requires.some)))
    ∙ ap (λ ps. names_at ps.items at) c.put.ensures.packs)

pub returns-else-fits_fewer-clause-names : goal.returns-else-fits_fewer-clause-names
returns-else-fits_fewer-clause-names g c more low high =
    sym (ap (λ ps. names_at ps.items (pack_groups more - 1)) c.put.ensures.packs)

pub returns-then-fits_fewer-clause-node : goal.returns-then-fits_fewer-clause-node
returns-then-fits_fewer-clause-node g c first last next =
    let old = here c.args.self.now in
    subst (IsNode c.args.instance.now (first_with old.end first old.job) (last_with old.end last old.job))
    (sym c.pack.ensures.node) (c.put.ensures.node first last next.is_node next.fresh)

pub returns-else-fits_fewer-clause-node : goal.returns-else-fits_fewer-clause-node
returns-else-fits_fewer-clause-node g c first last next = c.put.ensures.node first last next.is_node next.fresh

pub returns-then-fits_fewer-clause-left : goal.returns-then-fits_fewer-clause-left
returns-then-fits_fewer-clause-left g c first last next =
    let packs = c.args.self.now.packs.items in
    let names : List ℕ = names_at packs (pack_groups (c.args.left + 1) - 1) in
    c.pack.ensures.left
    ∙ ap (λ ps. chosen (here c.put.new.self).left.words (names_at ps.items (pack_groups (c.args.left + 1) - 1)))
    c.put.ensures.packs
    ∙ c.put.ensures.left first last names next.has_left next.fresh next.within next.named next.marked

pub returns-else-fits_fewer-clause-left : goal.returns-else-fits_fewer-clause-left
returns-else-fits_fewer-clause-left g c first last next =
    let packs = c.args.self.now.packs.items in
    let names : List ℕ = names_at packs (pack_groups (c.args.left + 1) - 1) in
    let same : pack_groups c.args.left - 1 ≡ pack_groups (c.args.left + 1) - 1 =
    omega (arith, c.fits_fewer.ensures.same c.if-fits_fewer.false) in
    ap (λ ps. chosen (here c.put.new.self).left.words (names_at ps.items (pack_groups c.args.left - 1)))
    c.put.ensures.packs
    ∙ ap (λ n. chosen (here c.put.new.self).left.words (names_at packs n)) same
    ∙ c.put.ensures.left first last names next.has_left next.fresh next.within next.named next.marked
