use Rattle.std.proofs.Common.{[]}
use Rattle.flow_shop.proofs.JobLists.{none-taken, jobs-taken}
use Rattle.flow_shop.proofs.sequence.first_job_at_fault.Goals as goal

pub insert_all-requires : goal.insert_all-requires
insert_all-requires c =
    ([], none-taken c.args.instance.now c.none.result c.none.ensures.size c.none.ensures.empty)

pub returns-clause-none : goal.returns-clause-none
returns-clause-none c =
    jobs-taken c.args.instance.now c.args.jobs.now _ _ c.insert_all.result
    (c.insert_all.ensures.taken [] (none-taken c.args.instance.now c.none.result c.none.ensures.size
    c.none.ensures.empty))
