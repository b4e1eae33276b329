use Rattle.std.proofs.Common.{◌≡◌, ℕ, ◌-◌, ◌<◌, ◌≤◌, length, slice_index, take, get_or-take, ◌∙◌, subst, arith}
use Rattle.std.proofs.lemmas.List.{length-set}
use Rattle.flow_shop.specs.Shop.{time}
use Rattle.flow_nodes.specs.Vectors.{HasLane}
use Rattle.flow_nodes.proofs.GroupSteps.{written-more}
use Rattle.flow_nodes.proofs.group.write_group.Goals as goal

pub loop-machine-preserved : goal.loop-machine-preserved
loop-machine-preserved g c =
    let machine : ℕ = c.loop-machine.machine in
    let low : 1 ≤ machine = omega arith in
    let high : machine ≤ c.args.instance.now.machines =
    omega (arith, c.loop-machine-test.true, c.machines-machines.ensures.value) in
    record {
      times_length = c.write_times.ensures.length;
      length = length-set c.loop-machine.group (machine - 1) c.load.result ∙ c.loop-machine.invariant.length;
      done = λ lane none within.
          let long : lane < length c.args.jobs.now = omega (arith, within, c.requires.jobs) in
          let loaded : HasLane g.V.Vector.CAP g.V.Vector.WIDTH (g.V.Vector.list c.load.result) lane
          (slice_index (take (length c.args.jobs.now) c.write_times.new.times) lane) =
          c.load.ensures lane within in
          let is : slice_index (take (length c.args.jobs.now) c.write_times.new.times) lane
          ≡ time c.args.instance.now (slice_index c.args.jobs.now lane) machine =
          get_or-take (length c.args.jobs.now) c.write_times.new.times lane 0 long
          ∙ c.write_times.ensures.each lane long in
          written-more
          (λ k v. HasLane g.V.Vector.CAP g.V.Vector.WIDTH (g.V.Vector.list v) lane
          (time c.args.instance.now (slice_index c.args.jobs.now lane) k)) c.loop-machine.group machine
          c.load.result none low (omega (arith, low, high, c.loop-machine.invariant.length))
          (subst (λ n. HasLane g.V.Vector.CAP g.V.Vector.WIDTH (g.V.Vector.list c.load.result) lane n) is loaded)
          (λ k from below. c.loop-machine.invariant.done lane none within k from below);
    }

pub returns : goal.returns
returns g c = record {
  count = c.requires.jobs;
  each = c.requires.each;
  machines = c.loop-machine.invariant.length;
  times = λ machine lane none low high within.
      c.loop-machine.invariant.done lane none within machine low
      (omega (arith, high, c.loop-machine-test.false, c.machines-machines.ensures.value));
}
