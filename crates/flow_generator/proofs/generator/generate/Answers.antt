use Rattle.std.proofs.Common.{arith, ap, ◌∙◌}
use Rattle.flow_limits.specs.Limits.{most_jobs, most_machines}
use Rattle.flow_shop.proofs.InstanceLemmas.{range-in}
use Rattle.flow_generator.specs.Generator.{drawn, drawn_time}
use Rattle.flow_generator.specs.Generator.{least_drawn, greatest_drawn}
use Rattle.flow_generator.proofs.GeneratorLemmas.{drawn-more, drawn-are-times}
use Rattle.flow_generator.proofs.generator.generate.Goals as goal

pub loop-preserved : goal.loop-preserved
loop-preserved c =
    let before = c.loop.invariant in
    let state = c.next.ensures.state c.args.seed c.loop.counter before.state in
    record {
      capacity = c.push_reserved.ensures.capacity ∙ before.capacity;
      count = omega arith;
      state = state;
      times = c.push_reserved.ensures.items
          ∙ drawn-more (drawn_time c.args.seed) c.loop.times.items c.loop.counter c.next.result before.times
          (c.next.ensures.number ∙ ap (drawn least_drawn greatest_drawn) state);
    }

pub from_times-requires : goal.from_times-requires
from_times-requires c =
    let drawn = c.loop.invariant in
    let size = c.in_default.ensures.none in
    let jobs = range-in most_jobs c.args.jobs size.0 in
    let machines = range-in most_machines c.args.machines size.1 in
    record {
      some_job = omega (arith, jobs.0);
      jobs = omega (arith, jobs.1);
      some_machine = omega (arith, machines.0);
      machines = omega (arith, machines.1);
      count = omega (arith, c.loop.times.ok.0);
      times = drawn-are-times c.args.seed c.loop.counter c.as_slice-times.result.now (c.as_slice-times.ensures.value
          ∙ drawn.times);
    }
