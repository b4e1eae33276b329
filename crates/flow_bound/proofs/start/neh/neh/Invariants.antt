use Rattle.std.proofs.Common.{◌≡◌, ℕ, [], take, vec_len}
use Rattle.flow_shop.specs.Paths.{span}
use Rattle.flow_shop.specs.Sequences.{has, AreJobs}
use Rattle.flow_bound.specs.Neh.{all_inserted}
use Rattle.flow_bound.specs.Rooms.{IsRoomFor}
use Rattle.flow_bound.proofs.start.neh.neh.Given as goal

-- the jobs of the order so far are put in
abbrev pub invariant-loop-job : goal.invariant-loop-job
invariant-loop-job l = record {
  list : l.jobs.items ≡ all_inserted l.instance [] (take l.job-index l.job-items);
  makespan : l.makespan ≡ span l.instance l.jobs.items;
  count : vec_len l.jobs ≡ l.job-index;
  room : IsRoomFor l.instance l.room;
  each : AreJobs l.instance.jobs l.jobs.items;
  same : (job : ℕ) → has l.jobs.items job ≡ has (take l.job-index l.job-items) job;
}
