use Rattle.std.proofs.Common.{length, take, ap, arith}
use Rattle.flow_c.specs.Faults.{shop_of}
use Rattle.flow_c.proofs.Told.{kept-behind, come-fits, come-whole, come-proved, come-below}
use Rattle.flow_c.proofs.prove.flowshop_prove.Goals as goal

pub fill-requires : goal.fill-requires
fill-requires c =
    omega (
      arith,
      come-fits (shop_of c.args.shop.now) c.args.threshold (length c.args.part.now.directions.now) c.args.node.now
          c.in-Ok.ensures.found.0 c.in-Ok.ensures.jobs c.in-Ok.told c.in-Ok.ensures.found.2,
      c.in-Ok.ensures.room,
      ap length c.as_slice.ensures.value,
    )

pub returns-in-Ok-clause-proved : goal.returns-in-Ok-clause-proved
returns-in-Ok-clause-proved c done says =
    come-proved (shop_of c.args.shop.now) c.args.threshold (length c.args.part.now.directions.now) c.args.node.now
    c.in-Ok.ensures.found.0 c.in-Ok.ensures.jobs c.in-Ok.told (take c.len-part.result c.fill-in-Ok.new.room)
    c.in-Ok.ensures.found.2
    (cc (
      c.fill-in-Ok.ensures.front,
      c.as_slice-in-Ok.ensures.value,
      c.len-part.ensures,
      c.in-Ok.directions.ok.0,
      c.in-Ok.ensures.found.1,
    )) says

pub returns-in-Ok-clause-below : goal.returns-in-Ok-clause-below
returns-in-Ok-clause-below c done says =
    come-below (shop_of c.args.shop.now) c.args.threshold (length c.args.part.now.directions.now) c.args.node.now
    c.in-Ok.ensures.found.0 c.in-Ok.ensures.jobs c.in-Ok.told c.fill.new.room c.in-Ok.ensures.found.2
    (cc (c.fill.ensures.front, c.as_slice.ensures.value)) says

pub returns-in-Ok-clause-rest : goal.returns-in-Ok-clause-rest
returns-in-Ok-clause-rest c =
    kept-behind c.args.shop.now.jobs c.in-Ok.told.sequence.items c.args.part.now.sequence.now c.fill.new.room
    (come-whole (shop_of c.args.shop.now) c.args.threshold (length c.args.part.now.directions.now) c.args.node.now
    c.in-Ok.ensures.found.0 c.in-Ok.ensures.jobs c.in-Ok.told c.in-Ok.ensures.found.2)
    (rw c.as_slice.ensures.value at c.fill.ensures.rest)
