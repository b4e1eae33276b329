use Rattle.std.proofs.Common.{◌∷◌, ◌++◌, [], length-append}
use Rattle.std.proofs.Common.{◌≡◌, ℕ, ◌+◌, ◌-◌, ◌<◌, ◌≤◌, length, set, take, slice_index_or, ap, sym, ◌∙◌}
use Rattle.std.proofs.Common.{subst, arith}
use Rattle.std.proofs.lemmas.Grind.{common_steps}
use Rattle.std.proofs.lemmas.List.{length-set, get_or-set_same, get_or-set_other}
use Rattle.flow_check.specs.internal.Frames.{pack_groups}
use Rattle.flow_nodes.specs.Marks.{chosen}
use Rattle.flow_nodes.specs.Packs.{AreBytes, HasByteRoom, HasRoom, IsPack}
use Rattle.flow_check.specs.internal.Frames.{frame_at, names_at}
use Rattle.flow_check.proofs.PackNames.{names-is, packs-push, packs-written}
use Rattle.flow_check.proofs.two_ended.walk.Path.new.Goals as goal

pub returns-clause-packs : goal.returns-clause-packs
returns-clause-packs g c =
    let shop = c.args.instance.now in
    let old = c.packs.packs.items in
    let at = c.pack_groups-2.result - 1 in
    let new = c.fill_all.new.self in
    let here_is = c.packs.invariant in
    let count : length old ≡ pack_groups shop.jobs = omega (
      arith,
      here_is.few,
      c.packs-test.false,
      c.len.ensures,
      c.pack_groups-in-packs.ensures,
      c.jobs-jobs.ensures.value,
      c.packs.packs.ok.0,
    ) in
    let last : at ≡ length old - 1 = omega (arith, count, c.pack_groups-2.ensures, c.jobs-jobs.ensures.value) in
    let within : at < length old = omega (arith, last, count, c.jobs-jobs.ensures.limits.some_job) in
    let pack : (none : _) → slice_index_or (set old at new) at none ≡ new =
    λ none. get_or-set_same old at new none within in
    let groups : length new.groups.items ≡ at + 1 =
    c.fill_all.ensures.count
    ∙ ap (λ p. length p.groups.items) c.index_mut.ensures.value
    ∙ here_is.groups at c.index_mut.result.now within in
    let bytes = c.fill_all.ensures.bytes (subst (HasByteRoom shop) (sym c.index_mut.ensures.value)
    (here_is.byte_rooms at c.index_mut.result.now within)) in
    let last_of : (more : ℕ) → shop.jobs ≤ more → more ≤ shop.jobs → at ≡ pack_groups more - 1 =
    λ more high low.
    let same : more ≡ shop.jobs = omega (arith, high, low) in
    omega (arith, last, count) ∙ ap (λ n. pack_groups n - 1) (sym same) in
    record {
      have = record {
        count = length-set old at new ∙ count;
        rooms = λ place none low. packs-written (λ p v. HasRoom shop v) old (set old at new) at
            (λ d. subst (HasRoom shop) (sym (pack d)) c.fill_all.ensures.pack.room)
            (λ p d apart. get_or-set_other old at p new d apart) place none
            (λ apart. here_is.rooms place none (omega (arith, low, length-set old at new)));
        groups = λ place none low. packs-written (λ p v. length v.groups.items ≡ p + 1) old (set old at new) at
            (λ d. ap (λ v. length v.groups.items) (pack d) ∙ groups)
            (λ p d apart. get_or-set_other old at p new d apart) place none
            (λ apart. here_is.groups place none (omega (arith, low, length-set old at new)));
        byte_rooms = λ place none low. packs-written (λ p v. HasByteRoom shop v) old (set old at new) at
            (λ d. subst (HasByteRoom shop) (sym (pack d)) bytes.room)
            (λ p d apart. get_or-set_other old at p new d apart) place none
            (λ apart. here_is.byte_rooms place none (omega (arith, low, length-set old at new)));
      };
      packed = λ more none high low.
          subst (λ n. IsPack g.V.Vector.list g.V.Vector.CAP g.V.Vector.WIDTH shop (slice_index_or (set old at new) n none))
          (last_of more high low)
          (subst (IsPack g.V.Vector.list g.V.Vector.CAP g.V.Vector.WIDTH shop) (sym (pack none)) c.fill_all.ensures.pack);
      bytes = λ more none high low.
          subst (λ n. AreBytes shop (slice_index_or (set old at new) n none)) (last_of more high low)
          (subst (AreBytes shop) (sym (pack none)) bytes);
    }

pub returns-clause-left : goal.returns-clause-left
returns-clause-left g c =
    let shop = c.args.instance.now in
    let old = c.packs.packs.items in
    let at = c.pack_groups-2.result - 1 in
    let new = c.fill_all.new.self in
    let here_is = c.packs.invariant in
    let count : length old ≡ pack_groups shop.jobs = omega (
      arith,
      here_is.few,
      c.packs-test.false,
      c.len.ensures,
      c.pack_groups-in-packs.ensures,
      c.jobs-jobs.ensures.value,
      c.packs.packs.ok.0,
    ) in
    let same : pack_groups shop.jobs - 1 ≡ at = omega (arith, c.pack_groups-2.ensures, c.jobs-jobs.ensures.value) in
    let within : at < length old = omega (arith, same, count, c.jobs-jobs.ensures.limits.some_job) in
    let names : names_at (set old at new) (pack_groups shop.jobs - 1) ≡ new.names.items =
    ap (names_at (set old at new)) same
    ∙ names-is (set old at new) at new (omega (arith, within, length-set old at new))
    ∙ ap (λ p. p.names.items) (get_or-set_same old at new new within) in
    let groups : length new.groups.items ≡ at + 1 =
    c.fill_all.ensures.count
    ∙ ap (λ p. length p.groups.items) c.index_mut.ensures.value
    ∙ here_is.groups at c.index_mut.result.now within in
    let long : c.jobs-jobs.result ≤ length new.names.items =
    omega (arith, groups, c.fill_all.ensures.pack.room.names, same, c.jobs-jobs.ensures.value) in
    let left_is : (frame_at c.in_ok-vec.field-0.items 0).left ≡ c.first.result = grind (arith, common_steps) in
    ap (λ m. chosen m.words (names_at (set old at new) (pack_groups shop.jobs - 1))) left_is
    ∙ ap (chosen c.first.result.words) names
    ∙ c.first.ensures.begin new.names.items long
    ∙ ap (λ n. take n new.names.items) c.jobs-jobs.ensures.value
    ∙ c.fill_all.ensures.jobs

pub packs-preserved : goal.packs-preserved
packs-preserved g c =
    let shop = c.args.instance.now in
    let here_is = c.packs.invariant in
    let packs = c.packs.packs.items in
    let pack = c.in_ok-pack.pack in
    let items : c.push.new.self.items ≡ packs ++ pack ∷ [] = c.in_ok-push.ensures.items in
    let long : length (packs ++ pack ∷ []) ≡ length packs + 1 = length-append packs (pack ∷ []) in
    let below : (place : ℕ) → place < length c.push.new.self.items → place < length (packs ++ pack ∷ []) =
    λ place low. omega (arith, low, ap length items) in
    record {
      few = omega (
        arith,
        ap length items,
        long,
        c.packs-test.true,
        c.len.ensures,
        c.pack_groups-in-packs.ensures,
        c.packs.packs.ok.0,
      );
      rooms = λ place none low.
          subst (λ ps. HasRoom shop (slice_index_or ps place none)) (sym items)
          (packs-push (λ p v. HasRoom shop v) packs pack here_is.rooms c.in_ok-pack.ensures.room place none
          (below place low));
      byte_rooms = λ place none low.
          subst (λ ps. HasByteRoom shop (slice_index_or ps place none)) (sym items)
          (packs-push (λ p v. HasByteRoom shop v) packs pack here_is.byte_rooms c.in_ok-pack.ensures.bytes place none
          (below place low));
      groups = λ place none low.
          subst (λ ps. length (slice_index_or ps place none).groups.items ≡ place + 1) (sym items)
          (packs-push (λ p v. length v.groups.items ≡ p + 1) packs pack here_is.groups
          (omega (arith, c.in_ok-pack.ensures.count, c.len-in-packs.ensures, c.packs.packs.ok.0)) place none
          (below place low));
    }
