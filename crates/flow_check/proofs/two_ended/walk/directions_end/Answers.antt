use Rattle.flow_check.proofs.DirectionsGiven.{root-proved, root-fault}
use Rattle.flow_check.proofs.two_ended.walk.directions_end.Goals as goal

pub returns-then-fits_narrow_lanes-clause-proved : goal.returns-then-fits_narrow_lanes-clause-proved
returns-then-fits_narrow_lanes-clause-proved c =
    root-proved c.args.instance.now c.args.threshold c.args.text.now c.walk_narrow.result c.walk_narrow.ensures.read
    c.walk_narrow.ensures.within

pub returns-then-fits_narrow_lanes-clause-fault : goal.returns-then-fits_narrow_lanes-clause-fault
returns-then-fits_narrow_lanes-clause-fault c =
    root-fault c.args.instance.now c.args.threshold c.args.text.now c.walk_narrow.result c.walk_narrow.ensures.read

pub returns-else-fits_narrow_lanes-clause-proved : goal.returns-else-fits_narrow_lanes-clause-proved
returns-else-fits_narrow_lanes-clause-proved c =
    root-proved c.args.instance.now c.args.threshold c.args.text.now c.walk.result
    c.walk.ensures.read c.walk.ensures.within

pub returns-else-fits_narrow_lanes-clause-fault : goal.returns-else-fits_narrow_lanes-clause-fault
returns-else-fits_narrow_lanes-clause-fault c =
    root-fault c.args.instance.now c.args.threshold c.args.text.now c.walk.result
    c.walk.ensures.read
