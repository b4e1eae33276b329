use Rattle.flow_bound.proofs.ByTotal.{sequence-moved}
use Rattle.flow_improve.proofs.place.Room.place_each.Goals as goal

pub place-makespan-requires-clause-list : goal.place-makespan-requires-clause-list
place-makespan-requires-clause-list c =
    sequence-moved c.args.instance.now.jobs c.loop-job.list c.take_out.new.list c.take_out.ensures
    c.loop-job.invariant.list
