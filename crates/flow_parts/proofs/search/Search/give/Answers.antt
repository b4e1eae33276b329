use Rattle.std.proofs.Common.{◌<◌, ◌-◌, ◌∙◌, length, arith}
use Rattle.flow_parts.proofs.Writing.{written-read}
use Rattle.flow_parts.proofs.Giving.{begun, first-within, gives-place, gives-none}
use Rattle.flow_parts.proofs.search.Search.give.Goals as goal

pub returns-then-link-eq0-clause-none : goal.returns-then-link-eq0-clause-none
returns-then-link-eq0-clause-none c order is =
    let old = c.args.places.now in
    gives-none c.args.self.now old c.waiting_from-link.new.places order c.waiting_from-link.result is
    (c.waiting_from-link.ensures order (begun c.args.self.now old order is)) c.if-link-eq0.true
    c.waiting_from-link.auto.places

pub returns-clause-given : goal.returns-clause-given
returns-clause-given c order is =
    let search = c.args.self.now in
    let old = c.args.places.now in
    let mid = c.waiting_from-link.new.places in
    let link = c.waiting_from-link.result in
    let found = c.waiting_from-link.ensures order (begun search old order is) in
    let within : link - 1 < length mid = omega (
      arith,
      first-within search old mid order link is found c.if-link-eq0.false,
      is.room,
      c.waiting_from-link.auto.places,
    ) in
    gives-place search old mid order link is found c.set_place.new.places c.if-link-eq0.false
    (written-read mid c.set_place.new.places (link - 1) c.place_at-place.result
    (λ place. record place { state = 1 }) c.place_at-place.ensures c.set_place.ensures within)
    (c.set_place.auto.places ∙ c.waiting_from-link.auto.places)
