use Rattle.std.proofs.Common.{◌≡◌, ◌∷◌, ◌-◌, ◌<◌, length, slice_index, ap, sym, ◌∙◌, arith}
use Rattle.std.proofs.lemmas.List.{get_or-set_same, get_or_default, get_or_read}
use Rattle.flow_nodes.specs.Marks.{chosen}
use Rattle.flow_check.specs.internal.Frames.{here, names_at}
use Rattle.flow_check.proofs.PackNames.{names-is}
use Rattle.flow_check.proofs.two_ended.walk.Path.next.Goals as goal

pub index-requires-2 : goal.index-requires-2
index-requires-2 g c =
    let packs = c.args.self.now.packs.items in
    let at = c.args.groups - 1 in
    let pack = c.index.result.now in
    let low : at < length packs = omega (arith, c.requires.some, c.requires.few) in
    let names : names_at packs at ≡ pack.names.items =
    names-is packs at pack low ∙ ap (λ p. p.names.items) (sym c.index.ensures) in
    omega (arith, c.in_ok-place.ensures.within, c.requires.names, ap length names, pack.names.ok.0)

pub returns-clause-job : goal.returns-clause-job
returns-clause-job g c =
    let path = c.args.self.now in
    let packs = path.packs.items in
    let at = c.args.groups - 1 in
    let frame = c.index_mut-frame.result.now in
    let pack = c.index.result.now in
    let place = c.in_ok-place.place in
    let job = c.index-2.result.now in
    let low : at < length packs = omega (arith, c.requires.some, c.requires.few) in
    let names : names_at packs at ≡ pack.names.items =
    names-is packs at pack low ∙ ap (λ p. p.names.items) (sym c.index.ensures) in
    let inside : place < length pack.names.items =
    omega (arith, c.in_ok-place.ensures.within, c.requires.names, ap length names) in
    ap (λ f. f.job) (get_or-set_same path.frames.items path.depth (record {
      node = frame.node;
      left = frame.left;
      end = frame.end;
      below = c.pop.new.self;
      job = job;
    }) _ c.requires.within)
    ∙ get_or_read pack.names.items place job inside c.index-2.ensures 0
    ∙ ap (λ ns. slice_index ns place) (sym names)

pub returns-clause-first : goal.returns-clause-first
returns-clause-first g c =
    let path = c.args.self.now in
    let packs = path.packs.items in
    let at = c.args.groups - 1 in
    let frame = c.index_mut-frame.result.now in
    let pack = c.index.result.now in
    let place = c.in_ok-place.place in
    let job = c.index-2.result.now in
    let all = names_at packs at in
    let frame_is : here path ≡ frame =
    sym (c.index_mut-frame.ensures.value
    ∙ get_or_default path.frames.items path.depth frame _ c.requires.within) in
    let low : at < length packs = omega (arith, c.requires.some, c.requires.few) in
    let names : names_at packs at ≡ pack.names.items =
    names-is packs at pack low ∙ ap (λ p. p.names.items) (sym c.index.ensures) in
    let inside : place < length pack.names.items =
    omega (arith, c.in_ok-place.ensures.within, c.requires.names, ap length names) in
    let named : slice_index all place ≡ job =
    ap (λ ns. slice_index ns place) names
    ∙ sym (get_or_read pack.names.items place job inside c.index-2.ensures 0) in
    ap (λ f. chosen f.below.words all) frame_is
    ∙ c.in_ok-place.ensures.first all c.requires.names
    ∙ ap (λ j. j ∷ chosen c.pop.new.self.words all) named
    ∙ ap (λ f. f.job ∷ chosen f.below.words all) (sym (get_or-set_same path.frames.items path.depth (record {
      node = frame.node;
      left = frame.left;
      end = frame.end;
      below = c.pop.new.self;
      job = job;
    }) _ c.requires.within))
