use Rattle.std.proofs.Common.{◌≡◌, suc, ◌+◌, ◌-◌, ◌<◌, ◌≤◌, true, [], ◌∷◌, ◌++◌, length, take, set, refl, ap, sym, ◌∙◌, arith}
use Rattle.std.proofs.lemmas.List.{length-set, take_more_set}
use Rattle.flow_shop.specs.Sequences.{jobs_left}
use Rattle.flow_shop.proofs.JobsLeft.{filter-more}
use Rattle.flow_nodes.proofs.PackSteps.{byte-room-same, room-named}
use Rattle.flow_nodes.proofs.pack.Pack.fill_all.Goals as goal

pub loop-job-preserved : goal.loop-job-preserved
loop-job-preserved g c =
    let shop = c.args.instance.now in
    let here = c.loop-job.invariant in
    let names = c.loop-job.self.names.items in
    let job = c.loop-job.job in
    let low : 1 ≤ job = c.loop-job.auto.job in
    let high : job ≤ shop.jobs = omega (arith, c.loop-job-test.true, c.jobs-job-end.ensures.value) in
    let within : job - 1 < length names = omega (arith, low, high, here.size, c.requires.fits) in
    let next : job + 1 - 1 ≡ job - 1 + 1 = omega (arith, low) in
    let this : suc (job - 1) ≡ job = omega (arith, low) in
    let back : suc (job - 1) ≡ job + 1 - 1 = omega (arith, low) in
    record {
      room = room-named shop c.loop-job.self _ (job - 1) job here.room refl refl within (low, high);
      bytes = here.bytes;
      groups = here.groups;
      size = length-set names (job - 1) job ∙ here.size;
      jobs = ap (λ k. take k (set names (job - 1) job)) next
          ∙ take_more_set names (job - 1) job within
          ∙ ap (λ l. l ++ job ∷ []) here.jobs
          ∙ ap (λ k. jobs_left (job - 1) [] ++ k ∷ []) (sym this)
          ∙ sym (filter-more (λ job. true) (job - 1))
          ∙ ap (λ k. jobs_left k []) back;
    }

pub returns-clause-bytes : goal.returns-clause-bytes
returns-clause-bytes g c room =
    c.load.ensures.bytes
    (byte-room-same c.args.instance.now c.args.self.now c.loop-job.self room c.loop-job.invariant.bytes
    c.loop-job.invariant.groups)
