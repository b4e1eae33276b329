use Rattle.std.proofs.Common.{◌≡◌, ℕ, ◌+◌, ◌<◌, ◌≤◌, true, false, List, ◌++◌, length, take, set, ap, sym, ◌∙◌}
use Rattle.std.proofs.Common.{subst, arith}
use Rattle.std.proofs.lemmas.List.{length-set}
use Rattle.flow_shop.specs.Sequences.{has}
use Rattle.flow_nodes.specs.Packs.{HasRoom}
use Rattle.flow_directions.specs.internal.Start.{IsStart}
use Rattle.flow_nodes.proofs.PackSteps.{room-named}
use Rattle.flow_directions.proofs.StartLists.{under-had, names-left, count-left, count-within}
use Rattle.flow_directions.proofs.start.StartNode.pack.Given.{Over}
use Rattle.flow_directions.proofs.start.StartNode.pack.Goals as goal
use Rattle.flow_directions.proofs.start.StartNode.pack.Goals.{Then-not-contains, then-not-contains, else-not-contains}

-- the job is not taken, so fewer than all that are left stand before it
fewer : (g : Over) (c : Then-not-contains g) → c.loop-job.count < c.args.self.now.left
fewer g c =
    let first = c.requires.start.0 in
    let last = c.requires.start.1 in
    let is = c.requires.start.2 in
    let job = c.loop-job.job in
    let low : 1 ≤ job = c.loop-job.auto.job in
    let high : job ≤ c.args.instance.now.jobs = omega (arith, c.loop-job-test.true, c.jobs-job-end.ensures.value) in
    let fresh : has (first ++ last) job ≡ false =
    sym (is.holds.each job low high) ∙ sym c.contains.ensures.value ∙ c.if-not-contains.true in
    count-within c.args.instance.now first last c.args.self.now c.loop-job.count job is low high fresh
    (c.loop-job.invariant.count first last is)

pub index_mut-requires : goal.index_mut-requires
index_mut-requires g c =
    omega (
      arith,
      fewer g (goal.at.index_mut-requires g c).Then-not-contains,
      c.requires.fits,
      c.loop-job.invariant.size,
      c.loop-job.pack.names.ok.0,
    )

pub overflow_add-count : goal.overflow_add-count
overflow_add-count g c =
    omega (
      arith,
      fewer g (goal.at.overflow_add-count g c).Then-not-contains,
      c.requires.fits,
      c.requires.room.names,
      c.requires.room.few,
    )

pub loop-job-preserved : goal.loop-job-preserved
loop-job-preserved g c =
    let shop = c.args.instance.now in
    let here = c.loop-job.invariant in
    let names = c.loop-job.pack.names.items in
    let count = c.loop-job.count in
    let job = c.loop-job.job in
    let new = c.if-not-contains.pack in
    let low : 1 ≤ job = c.loop-job.auto.job in
    let high : job ≤ shop.jobs = omega (arith, c.loop-job-test.true, c.jobs-job-end.ensures.value) in
    elim c.if-not-contains.branch [
      | then-not-contains w ↦
          let fresh : (first last : List ℕ) → IsStart shop first last c.args.self.now →
          has (first ++ last) job ≡ false =
          λ first last is.
          sym (is.holds.each job low high) ∙ sym c.contains.ensures.value ∙ w.if-not-contains.true in
          let is = c.requires.start.2 in
          let within : count < length names = omega (
            arith,
            count-within shop c.requires.start.0 c.requires.start.1 c.args.self.now count job is low high
                (fresh c.requires.start.0 c.requires.start.1 is)
                (here.count c.requires.start.0 c.requires.start.1 is),
            c.requires.fits,
            here.size,
          ) in
          let groups_are : new.groups ≡ c.loop-job.pack.groups = ap (λ p. p.groups) w.pack-is in
          let names_are : new.names.items ≡ set names count job = ap (λ p. p.names.items) w.pack-is in
          record {
            room = room-named shop c.loop-job.pack new count job here.room groups_are names_are within (low, high);
            groups = ap (λ v. length v.items) groups_are ∙ here.groups;
            size = ap length names_are ∙ length-set names count job ∙ here.size;
            names = λ first last is.
                ap (λ k. take k new.names.items) w.count-is
                ∙ ap (take (count + 1)) names_are
                ∙ names-left names (first ++ last) count job within low (fresh first last is)
                (here.names first last is);
            count = λ first last is.
                w.count-is ∙ count-left (first ++ last) count job low (fresh first last is)
                (here.count first last is);
          }
      | else-not-contains w ↦
          let had : (first last : List ℕ) → IsStart shop first last c.args.self.now → has (first ++ last) job ≡ true =
          λ first last is.
          sym (is.holds.each job low high) ∙ sym c.contains.ensures.value ∙ w.if-not-contains.false in
          record {
            room = subst (λ p. HasRoom shop p) (sym w.pack-is) here.room;
            groups = ap (λ p. length p.groups.items) w.pack-is ∙ here.groups;
            size = ap (λ p. length p.names.items) w.pack-is ∙ here.size;
            names = λ first last is.
                ap (λ k. take k new.names.items) w.count-is
                ∙ ap (λ p. take count p.names.items) w.pack-is
                ∙ here.names first last is
                ∙ sym (under-had (first ++ last) job low (had first last is));
            count = λ first last is.
                w.count-is ∙ here.count first last is
                ∙ ap length (sym (under-had (first ++ last) job low (had first last is)));
          }
    ]
