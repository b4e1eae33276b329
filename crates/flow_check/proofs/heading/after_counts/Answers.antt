use Rattle.std.proofs.Common.{◌<◌, ◌^◌, ◌∷◌, ◌++◌, arith}
use Rattle.std.specs.Fmt.{decimal}
use Rattle.flow_check.proofs.heading.after_counts.Goals as goal

pub returns-in_err-first-clause-only : goal.returns-in_err-first-clause-only
returns-in_err-first-clause-only c rest h =
    let jobs : c.args.jobs < 2 ^ 64 = omega arith in
    absurd (c.in_err-first.ensures.only c.args.jobs (decimal c.args.machines ++ c.args.end ∷ rest) (jobs, h))

pub returns-in_err-second-clause-only : goal.returns-in_err-second-clause-only
returns-in_err-second-clause-only c rest h =
    let jobs : c.args.jobs < 2 ^ 64 = omega arith in
    let machines : c.args.machines < 2 ^ 64 = omega arith in
    let first = c.in_ok-first.ensures.only c.args.jobs (decimal c.args.machines ++ c.args.end ∷ rest) (jobs, h) in
    absurd (c.in_err-second.ensures.only c.args.machines rest (machines, first.1))

pub returns-clause-only : goal.returns-clause-only
returns-clause-only c rest h =
    let jobs : c.args.jobs < 2 ^ 64 = omega arith in
    let machines : c.args.machines < 2 ^ 64 = omega arith in
    let first = c.in_ok-first.ensures.only c.args.jobs (decimal c.args.machines ++ c.args.end ∷ rest) (jobs, h) in
    (c.in_ok-second.ensures.only c.args.machines rest (machines, first.1)).1
