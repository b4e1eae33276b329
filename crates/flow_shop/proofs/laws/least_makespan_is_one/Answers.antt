use Rattle.std.proofs.Common.{ℕ, ◌≤◌, subst, arith}
use Rattle.flow_shop.specs.Shop.{Shop}
use Rattle.flow_shop.specs.Sequences.{IsLeastMakespan}
use Rattle.flow_shop.proofs.LeastFound.{least-found}
use Rattle.flow_shop.proofs.laws.least_makespan_is_one.Goals as goal

-- a least makespan is at most another, since that is the makespan of a sequence
at-most : (shop : Shop) (value other : ℕ) → IsLeastMakespan shop value → IsLeastMakespan shop other → value ≤ other
at-most shop value other one two =
    subst (λ span. value ≤ span) two.attained.2 (one.least two.attained.0 two.attained.1)

pub returns-clause-some : goal.returns-clause-some
returns-clause-some c = least-found

pub returns-clause-one : goal.returns-clause-one
returns-clause-one c shop value other one two =
    let below = at-most shop value other one two in
    let above = at-most shop other value two one in
    omega arith
