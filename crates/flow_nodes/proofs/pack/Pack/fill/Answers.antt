use Rattle.std.proofs.Common.{◌≡◌, suc, ◌*◌, ◌<◌, ◌∷◌, length, slice_index, refl, ap, sym, ◌∙◌, subst, arith}
use Rattle.std.proofs.lemmas.List.{length-set, get_or_read}
use Rattle.flow_nodes.specs.Nodes.{IsJob}
use Rattle.flow_nodes.specs.Marks.{chosen}
use Rattle.flow_nodes.specs.Packs.{jobs_at}
use Rattle.flow_nodes.proofs.PackSteps.{byte-room-same, room-named, put-more}
use Rattle.flow_nodes.proofs.pack.Pack.fill.Goals as goal

pub places-preserved : goal.places-preserved
places-preserved g c =
    let place = c.in-Some.place in
    let from = c.args.from.now.names.items in
    let names = c.places.self.names.items in
    let job = c.index.result.now in
    let size : length from ≡ c.len.result * 16 =
    omega (arith, c.len.ensures, c.requires.from.names, c.args.from.now.groups.ok.0) in
    let inside : place < length from = omega (arith, size, c.in-Some.ensures.within) in
    let named : job ≡ slice_index from place = get_or_read from place job inside c.index.ensures 0 in
    let first : chosen c.places.rest.words from ≡ job ∷ chosen c.pop_from.new.self.words from =
    c.in-Some.ensures.first from size ∙ ap (λ j. j ∷ chosen c.pop_from.new.self.words from) (sym named) in
    let more : length (chosen c.places.rest.words from) ≡ suc (length (chosen c.pop_from.new.self.words from)) =
    ap length first in
    let within : c.places.count < length names =
    omega (arith, more, c.places.invariant.count, c.places.invariant.size, c.requires.fits) in
    record {
      room = room-named c.args.instance.now c.places.self _ c.places.count job c.places.invariant.room refl refl within
          (subst (IsJob c.args.instance.now) (sym named) (c.requires.from.jobs place inside));
      bytes = c.places.invariant.bytes;
      groups = c.places.invariant.groups;
      size = length-set names c.places.count job ∙ c.places.invariant.size;
      count = omega (arith, more, c.places.invariant.count);
      before = c.in-Some.ensures.before;
      jobs = put-more names (chosen c.places.rest.words from) (chosen c.pop_from.new.self.words from)
          (jobs_at c.args.from.now c.args.marks.now) c.places.count job within first c.places.invariant.jobs;
    }

pub returns-clause-bytes : goal.returns-clause-bytes
returns-clause-bytes g c room =
    c.load.ensures.bytes
    (byte-room-same c.args.instance.now c.args.self.now c.places.self room c.places.invariant.bytes
    c.places.invariant.groups)
