use Rattle.flow_nodes.proofs.ByteSteps.{has-excess}
use Rattle.flow_nodes.proofs.bytes.excess.Goals as goal

pub returns : goal.returns
returns c lane first second x y = has-excess c.args.one c.args.other lane first second x y
