use Rattle.flow_commands.proofs.Signed.{few-nodes, proved-alone}
use Rattle.flow_commands.proofs.signs.signs_of.Goals as goal

pub unreachable-requires : goal.unreachable-requires
unreachable-requires c =
    let shop = c.args.instance.now in
    let bytes = c.args.bytes.now in
    let shown = c.in_ok-shown.shown in
    let says = c.in_ok-shown.ensures in
    proved-alone shop bytes shown.sequence shown.bounds c.in-Ok.found says.text
    (few-nodes shop bytes shown.sequence shown.bounds says.text says.within) c.in-Ok.ensures.found
    c.in_default-found.not-Proved

pub returns-clause-signs : goal.returns-clause-signs
returns-clause-signs c =
    let shown = c.in_ok-shown.shown in
    let says = c.in_ok-shown.ensures in
    let found = rw c.in-Proved.is at c.in-Ok.ensures.found in record {
      counted = says.text;
      few = few-nodes c.args.instance.now c.args.bytes.now shown.sequence shown.bounds says.text says.within;
      searched = (found.0, found.1);
      proved = rw c.in-Proved.is at c.in-Ok.ensures.shown;
    }
