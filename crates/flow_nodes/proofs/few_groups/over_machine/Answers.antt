use Rattle.std.proofs.Common.{◌+◌, max}
use Rattle.flow_nodes.proofs.few_groups.over_machine.Goals as goal

pub returns-clause-free : goal.returns-clause-free
returns-clause-free g c lane free at time is near times =
    c.plus.ensures lane (max free at) time (c.at_least-start.ensures lane free at is near) times

pub returns-clause-bounds : goal.returns-clause-bounds
returns-clause-bounds g c lane free bound at others is so_far near rest =
    c.at_least.ensures lane bound (max free at + others) so_far
    (c.plus-2.ensures lane (max free at) others (c.at_least-start.ensures lane free at is near) rest)
