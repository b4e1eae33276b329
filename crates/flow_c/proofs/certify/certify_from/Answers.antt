use Rattle.std.proofs.lemmas.Result.{err_from_is_err_and}
use Rattle.flow_c.proofs.TextSize.{text-kept, too-long}
use Rattle.flow_c.proofs.certify.certify_from.Goals as goal
use Rattle.flow_c.proofs.certify.certify_from.Goals.{In_ok-around}
use Rattle.flow_c.specs.Certify.{IsTextFrom}
use Rattle.flow_c.specs.internal.Around.{with_directions}

-- the text of what was found
found : (c : In_ok-around) →
    IsTextFrom c.args.instance.now c.args.start.now c.args.most
    (with_directions c.in_ok-around.around.bytes c.in-Signs.directions.items)
    (record { lower = c.in_ok-found.found.lower; upper = c.in_ok-found.found.upper }) c.in_ok-found.found.sequence
found c =
    text-kept c.args.instance.now c.args.start.now c.args.most
    (record { lower = c.in_ok-found.found.lower; upper = c.in_ok-found.found.upper }) c.in_ok-found.found.sequence
    c.in-Signs.directions c.in_ok-around.around.bytes c.in_ok-found.found.proof c.requires.limits
    c.in_ok-found.ensures.each c.in_ok-found.ensures.attained c.in_ok-found.ensures.no_worse
    c.in_ok-found.ensures.proved c.in_ok-found.ensures.kept c.in-Signs.is c.in_ok-found.ensures.floor
    c.in_ok-found.ensures.few c.in_ok-around.ensures.text

pub returns-clause-text : goal.returns-clause-text
returns-clause-text c = found (goal.at.returns-clause-text c).In_ok-around

pub returns-in_err-need-clause-refused : goal.returns-in_err-need-clause-refused
returns-in_err-need-clause-refused c =
    let p = err_from_is_err_and c.from_residual-in_err-need.result c.from_residual-in_err-need.ensures.1 in
    rw (p.1, p.2)
    (too-long c.args.instance.now c.args.start.now c.args.most c.args.room
    (record { lower = c.in_ok-found.found.lower; upper = c.in_ok-found.found.upper }) c.in_ok-found.found.sequence
    c.in-Signs.directions.items c.in_ok-around.around.bytes c.in_err-need.field-0.0
    (found (goal.at.returns-in_err-need-clause-refused c).In_ok-around) c.in_ok-around.ensures.text
    (rw (c.bytes.ensures.value, c.len.ensures, c.in-Signs.directions.ok.0) at c.in_err-need.ensures.short))
