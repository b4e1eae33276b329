use Rattle.std.proofs.Common.{◌≡◌, List, ℕ, length, subst, sym, ap, ◌∙◌}
use Rattle.std.proofs.Math.Nat.{mul_comm}
use Rattle.flow_shop.specs.Shop.{IsWithinLimits}
use Rattle.flow_shop.specs.internal.Transposed.{transposed}
use Rattle.flow_shop.proofs.Transposes.{transposed-length, transposed-twice}
use Rattle.flow_shop.proofs.instance.Instance.from_times.Goals as goal

back : (c : goal.In_ok-by_columns) →
    transposed c.args.jobs c.args.machines c.in_ok-by_columns.field-0.items ≡ c.args.times.now
back c =
    ap (transposed c.args.jobs c.args.machines) c.in_ok-by_columns.ensures
    ∙ transposed-twice c.args.jobs c.args.machines c.args.times.now c.requires.some_job c.requires.count

pub invariant_of-result : goal.invariant_of-result
invariant_of-result c =
    let P : List ℕ → Type 0 = λ times. IsWithinLimits (record {
      jobs = c.args.jobs;
      machines = c.args.machines;
      times =
          times;
    }) in (
      subst P (sym (back c)) c.requires,
      ap length c.in_ok-by_columns.ensures ∙ transposed-length c.args.machines c.args.jobs c.args.times.now
          ∙ mul_comm c.args.machines c.args.jobs,
    )

pub returns : goal.returns
returns c = ap (λ times. record { jobs = c.args.jobs; machines = c.args.machines; times = times }) (back c)
