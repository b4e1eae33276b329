use Rattle.flow_c.proofs.Puts.{text-leaves, text-put}
use Rattle.flow_c.proofs.certify.put.Goals as goal

pub returns-clause-front : goal.returns-clause-front
returns-clause-front c =
    text-put c.args.around.now c.args.directions.now c.args.room.now c.fill.new.room c.fill-2.new.room c.fill-3.new.room
    c.requires.long_enough c.requires.enough c.fill.auto.room c.fill-2.auto.room c.fill.ensures.front
    c.fill-2.ensures.front
    c.fill-3.ensures.front

pub returns-clause-rest : goal.returns-clause-rest
returns-clause-rest c =
    text-leaves c.args.around.now c.args.directions.now c.args.room.now c.fill.new.room c.fill-2.new.room
    c.fill-3.new.room c.requires.long_enough c.requires.enough c.fill.auto.room c.fill-2.auto.room c.fill.ensures.rest
    c.fill-2.ensures.rest c.fill-3.ensures.rest
