use Rattle.std.proofs.Common.{◌≡◌, ◌-◌}
use Rattle.flow_shop.specs.Shop.{time_between}
use Rattle.flow_shop.proofs.instance.Instance.time_between.Given as goal

-- the time on the machines so far
abbrev pub invariant-loop-machine : goal.invariant-loop-machine
invariant-loop-machine l = l.time ≡ time_between l.self l.job l.first (l.machine - 1)
