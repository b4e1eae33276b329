use Rattle.std.proofs.Common.{◌≤◌, length, arith, rules}
use Rattle.flow_parts.specs.Orders.{place_at}
use Rattle.flow_parts.proofs.Giving.{first-search, first-place}
use Rattle.flow_parts.proofs.search.Search.new.Goals as goal

pub returns-clause-unused : goal.returns-clause-unused
returns-clause-unused c number from =
    let room : 1 ≤ length c.args.places.now = search rules in
    (c.add_places.ensures (omega (arith, room)) (omega arith)).beyond number (omega (arith, from))

pub returns-clause-waits : goal.returns-clause-waits
returns-clause-waits c =
    let room : 1 ≤ length c.args.places.now = search rules in
    first-place (place_at c.args.places.now) c.add_places.new.places
    (c.add_places.ensures (omega (arith, room)) (omega arith))

pub returns-clause-begun : goal.returns-clause-begun
returns-clause-begun c =
    let room : 1 ≤ length c.args.places.now = search rules in
    first-search (place_at c.args.places.now) c.args.budget c.add_places.new.places
    (c.add_places.ensures (omega (arith, room)) (omega arith)) (omega (arith, room, c.add_places.auto.places))
