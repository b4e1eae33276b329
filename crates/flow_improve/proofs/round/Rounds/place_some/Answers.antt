use Rattle.flow_bound.proofs.ByTotal.{sequence-moved}
use Rattle.flow_improve.proofs.round.Rounds.place_some.Goals as goal

pub loop-count-preserved : goal.loop-count-preserved
loop-count-preserved c =
    let before = c.loop-count.invariant in
    record {
      rounds = record { room = before.rounds.room; jobs = before.rounds.jobs; order = before.rounds.order };
      list = sequence-moved c.args.instance.now.jobs c.loop-count.list c.take_out.new.list c.take_out.ensures
          before.list;
      jobs = before.jobs;
      kept = before.kept;
    }
