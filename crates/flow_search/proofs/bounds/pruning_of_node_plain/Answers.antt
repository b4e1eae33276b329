use Rattle.std.proofs.Common.{◌≡◌, ℕ, ◌≤◌, Bool, false, true, nat_le, ap, sym, ◌∙◌, arith}
use Rattle.std.proofs.lemmas.Bool.{le-leb, lt-leb}
use Rattle.flow_shop.specs.Bound.{machine_bound}
use Rattle.flow_search.proofs.Nodes.{find-here, find-skip, find-past}
use Rattle.flow_search.proofs.bounds.pruning_of_node_plain.Goals as goal

pub returns-then-value-bound : goal.returns-then-value-bound
returns-then-value-bound c jobs rest =
    let p : ℕ → Bool = λ machine. nat_le c.args.value
    (machine_bound c.args.instance.now c.args.front.now jobs machine) in
    let is = c.bound.ensures.value c.args.instance.now jobs rest in
    let pass : p c.loop-machine.machine ≡ true = ap (nat_le c.args.value) (sym is)
    ∙ le-leb c.args.value c.bound.result c.if-value-bound.true in
    let within : c.loop-machine.machine ≤ c.args.instance.now.machines = omega arith in
    sym (find-here p c.loop-machine.machine c.args.instance.now.machines within pass)
    ∙ c.loop-machine.invariant jobs rest

pub loop-machine-preserved : goal.loop-machine-preserved
loop-machine-preserved c jobs rest =
    let p : ℕ → Bool = λ machine. nat_le c.args.value
    (machine_bound c.args.instance.now c.args.front.now jobs machine) in
    let is = c.bound.ensures.value c.args.instance.now jobs rest in
    let fail : p c.loop-machine.machine ≡ false = ap (nat_le c.args.value) (sym is)
    ∙ lt-leb c.args.value c.bound.result c.if-value-bound.false in
    let within : c.loop-machine.machine ≤ c.args.instance.now.machines = omega arith in
    find-skip p c.loop-machine.machine c.args.instance.now.machines within fail ∙ c.loop-machine.invariant jobs rest

pub returns : goal.returns
returns c jobs rest =
    find-past (λ machine. nat_le c.args.value
    (machine_bound c.args.instance.now c.args.front.now jobs machine)) c.loop-machine.machine
    c.args.instance.now.machines (omega arith)
    ∙ c.loop-machine.invariant jobs rest
