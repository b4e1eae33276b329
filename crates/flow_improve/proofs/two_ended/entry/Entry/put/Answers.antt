use Rattle.std.proofs.Common.{◌≡◌, ◌<◌, ◌-◌, ◌++◌, ◌∷◌, [], length, refl, ap, sym, ◌∙◌, subst, arith}
use Rattle.std.specs.List.{swap}
use Rattle.std.specs.List.Sorted.{IsPermutation}
use Rattle.std.proofs.lemmas.List.{get_or_read, with_items_is}
use Rattle.flow_shop.specs.Directions.{first_with, last_with}
use Rattle.flow_nodes.specs.Nodes.{IsNode}
use Rattle.flow_improve.specs.internal.Beams.{first_of, job_at, last_of}
use Rattle.flow_improve.proofs.EntrySteps.{is-left, entry-front, entry-back}
use Rattle.flow_improve.proofs.two_ended.entry.Entry.put.Goals as goal

pub put-requires-clause-left : goal.put-requires-clause-left
put-requires-clause-left c =
    let entry = c.args.self.now in
    let inside : c.args.place < length entry.jobs.items =
    omega (arith, c.requires.before, c.requires.entry.within, c.requires.entry.jobs.whole) in
    let read : c.index-job.result.now ≡ job_at entry c.args.place =
    get_or_read entry.jobs.items c.args.place c.index-job.result.now inside c.index-job.ensures 0 in (
      first_of entry,
      last_of entry,
      c.requires.entry.node,
      is-left c.args.instance.now entry c.args.place c.index-job.result.now c.requires.entry c.requires.from
          c.requires.before read,
    )

pub returns-in-Front : goal.returns-in-Front
returns-in-Front c =
    let shop = c.args.instance.now in
    let entry = c.args.self.now in
    let inside : c.args.place < length entry.jobs.items =
    omega (arith, c.requires.before, c.requires.entry.within, c.requires.entry.jobs.whole) in
    let read : c.index-job.result.now ≡ job_at entry c.args.place =
    get_or_read entry.jobs.items c.args.place c.index-job.result.now inside c.index-job.ensures 0 in
    let moved : IsPermutation entry.jobs.items c.swap.new.self =
    subst (λ l. IsPermutation l c.swap.new.self) c.as_mut_slice.ensures.value c.swap.ensures.permutation in
    let size : length c.swap.new.self ≡ entry.jobs.len =
    omega (arith, c.swap.ensures.len, ap length c.as_mut_slice.ensures.value, entry.jobs.ok.0) in
    let is = with_items_is entry.jobs c.swap.new.self size in
    entry-front shop entry _ c.args.place c.requires.entry c.requires.from c.requires.before
    (subst (IsPermutation entry.jobs.items) (sym is) moved)
    (is ∙ c.swap.ensures.after ∙ ap (λ l. swap l c.args.place entry.first) c.as_mut_slice.ensures.value) refl refl
    (subst (λ job. IsNode shop (first_of entry ++ job ∷ []) (last_of entry) c.put.new.self) read
    (subst (λ end. IsNode shop (first_with end (first_of entry) c.index-job.result.now)
    (last_with end (last_of entry) c.index-job.result.now) c.put.new.self) c.in-Front.is
    (c.put.ensures (first_of entry) (last_of entry) c.requires.entry.node
    (is-left shop entry c.args.place c.index-job.result.now c.requires.entry c.requires.from c.requires.before read))))

pub returns-in-Back : goal.returns-in-Back
returns-in-Back c =
    let shop = c.args.instance.now in
    let entry = c.args.self.now in
    let inside : c.args.place < length entry.jobs.items =
    omega (arith, c.requires.before, c.requires.entry.within, c.requires.entry.jobs.whole) in
    let read : c.index-job.result.now ≡ job_at entry c.args.place =
    get_or_read entry.jobs.items c.args.place c.index-job.result.now inside c.index-job.ensures 0 in
    let moved : IsPermutation entry.jobs.items c.swap-in-Back.new.self =
    subst (λ l. IsPermutation l c.swap-in-Back.new.self) c.as_mut_slice-in-Back.ensures.value
    c.swap-in-Back.ensures.permutation in
    let size : length c.swap-in-Back.new.self ≡ entry.jobs.len =
    omega (arith, c.swap-in-Back.ensures.len, ap length c.as_mut_slice-in-Back.ensures.value, entry.jobs.ok.0) in
    let is = with_items_is entry.jobs c.swap-in-Back.new.self size in
    entry-back shop entry _ c.args.place c.requires.entry c.requires.from c.requires.before
    (subst (IsPermutation entry.jobs.items) (sym is) moved)
    (is ∙ c.swap-in-Back.ensures.after
    ∙ ap (λ l. swap l c.args.place (entry.before - 1)) c.as_mut_slice-in-Back.ensures.value) refl refl
    (subst (λ job. IsNode shop (first_of entry) (job ∷ last_of entry) c.put.new.self) read
    (subst (λ end. IsNode shop (first_with end (first_of entry) c.index-job.result.now)
    (last_with end (last_of entry) c.index-job.result.now) c.put.new.self) c.in-Back.is
    (c.put.ensures (first_of entry) (last_of entry) c.requires.entry.node
    (is-left shop entry c.args.place c.index-job.result.now c.requires.entry c.requires.from c.requires.before read))))
