use Rattle.std.proofs.Common.{◌≡◌, ◌-◌, false, ◌++◌, slice_index, ap, sym, ◌∙◌, arith}
use Rattle.std.proofs.lemmas.List.{get_or_read}
use Rattle.flow_shop.specs.Sequences.{has}
use Rattle.flow_nodes.specs.Vectors.{capped}
use Rattle.flow_nodes.specs.Groups.{child_bound}
use Rattle.flow_improve.specs.internal.Beams.{first_of, job_at, last_of}
use Rattle.flow_improve.proofs.EntrySteps.{is-left}
use Rattle.flow_improve.proofs.two_ended.bounds.ChildBounds.at.Goals as goal
use Rattle.flow_improve.proofs.two_ended.bounds.ChildBounds.at.Goals.{in-Front, in-Back}

job-read : (c : goal.After-lane-1) → c.index-job.result.now ≡ job_at c.args.entry.now c.args.place
job-read c =
    get_or_read c.args.entry.now.jobs.items c.args.place c.index-job.result.now
    (omega (arith, c.requires.before, c.requires.entry.within, c.requires.entry.jobs.whole)) c.index-job.ensures 0

pub bound_from_lane-requires-clause-left : goal.bound_from_lane-requires-clause-left
bound_from_lane-requires-clause-left c = (
  first_of c.args.entry.now,
  last_of c.args.entry.now,
  c.requires.entry.node,
  is-left c.args.instance.now c.args.entry.now c.args.place c.index-job.result.now c.requires.entry c.requires.from
      c.requires.before (job-read c),
)

pub bound_from_lane-requires-clause-lane : goal.bound_from_lane-requires-clause-lane
bound_from_lane-requires-clause-lane c first last node fresh =
    let shop = c.args.instance.now in
    let bounds = c.args.self.now in
    let job = c.index-job.result.now in
    let read = job-read c in
    let known = c.requires.bounds c.args.place c.requires.from c.requires.before in
    let left : has (first ++ last) (job_at c.args.entry.now c.args.place) ≡ false =
    ap (has (first ++ last)) (sym read) ∙ fresh in
    let there : c.from.result - 1 ≡ job_at c.args.entry.now c.args.place - 1 = omega (arith, c.from.ensures, read) in
    let back : capped bounds.cap (child_bound shop c.args.end first last (job_at c.args.entry.now c.args.place))
    ≡ capped bounds.cap (child_bound shop c.args.end first last job) =
    ap (λ j. capped bounds.cap (child_bound shop c.args.end first last j)) (sym read) in
    ap (slice_index c.match-end.bounds.now) there
    ∙ elim c.match-end.branch [
      | in-Front w ↦
          ap (λ b. slice_index b.now (job_at c.args.entry.now c.args.place - 1)) w.bounds-is
          ∙ known.0 first last node left
          ∙ ap (λ e. capped bounds.cap (child_bound shop e first last (job_at c.args.entry.now c.args.place)))
          (sym w.in-Front.is)
      | in-Back w ↦
          ap (λ b. slice_index b.now (job_at c.args.entry.now c.args.place - 1)) w.bounds-is
          ∙ known.1 first last node left
          ∙ ap (λ e. capped bounds.cap (child_bound shop e first last (job_at c.args.entry.now c.args.place)))
          (sym w.in-Back.is)
    ]
    ∙ back

pub returns : goal.returns
returns c =
    let shop = c.args.instance.now in
    let entry = c.args.entry.now in
    let read = get_or_read entry.jobs.items c.args.place c.index-job.result.now
    (omega (arith, c.requires.before, c.requires.entry.within, c.requires.entry.jobs.whole)) c.index-job.ensures 0 in
    c.bound_from_lane.ensures (first_of entry) (last_of entry) c.requires.entry.node
    (is-left shop entry c.args.place c.index-job.result.now c.requires.entry c.requires.from c.requires.before read)
    ∙ ap (child_bound shop c.args.end (first_of entry) (last_of entry)) read
