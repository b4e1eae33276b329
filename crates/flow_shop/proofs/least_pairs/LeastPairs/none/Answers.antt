use Rattle.std.proofs.Common.{◌<◌, arith}
use Rattle.std.proofs.lemmas.List.{get_or-replicate}
use Rattle.flow_limits.specs.Limits.{most_machines}
use Rattle.flow_shop.specs.TwoLeast.{least_of_none}
use Rattle.flow_shop.proofs.least_pairs.LeastPairs.none.Goals as goal

pub returns : goal.returns
returns c number count small place low =
    let within : place < most_machines = omega (arith, low, small) in
    let none = get_or-replicate most_machines place least_of_none 0 within in
    (none, none)
