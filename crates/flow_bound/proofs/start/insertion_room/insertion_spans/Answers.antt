use Rattle.std.proofs.Common.{arith}
use Rattle.flow_bound.proofs.Filled.{jobs-short}
use Rattle.flow_bound.proofs.start.insertion_room.insertion_spans.Goals as goal

pub fill_spans-requires-clause-short : goal.fill_spans-requires-clause-short
fill_spans-requires-clause-short c =
    jobs-short c.args.instance.now.jobs c.args.job c.args.partial.now c.requires.jobs c.requires.job_from
    c.requires.job_to c.requires.other

pub returns-clause-count : goal.returns-clause-count
returns-clause-count c =
    omega (
      arith,
      c.truncate.ensures.len,
      c.fill_spans.ensures.room.spans,
      jobs-short c.args.instance.now.jobs c.args.job c.args.partial.now c.requires.jobs c.requires.job_from
          c.requires.job_to c.requires.other,
    )
