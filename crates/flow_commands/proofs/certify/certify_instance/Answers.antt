use Rattle.std.proofs.Common.{rules}
use Rattle.std.proofs.lemmas.Result.{err_from_is_err_and}
use Rattle.flow_commands.specs.Certify.{AnswersCertify}
use Rattle.flow_commands.specs.Runs.{sink_run}
use Rattle.flow_commands.specs.internal.Found.{found_text}
use Rattle.flow_commands.proofs.Certified.{certified-answers}
use Rattle.flow_commands.proofs.Responses.{all-written, part-written}
use Rattle.flow_commands.proofs.certify.certify_instance.Goals as goal

pub returns : goal.returns
returns g c =
    let request = c.args.command.now.request in
    let shop = c.args.instance in
    let found = c.in_ok-found.found in
    let says = c.in_ok-found.ensures in
    all-written (AnswersCertify request shop c.args.given)
    (sink_run g.K.Sink c.args.out.now c.write_found.new.out) (found_text request shop found)
    (certified-answers request shop c.args.given c.in_ok-start.start found
    c.in_ok-effort.ensures.accepted (rw (← c.instance.view_is) c.instance.invariant.0) c.in_ok-start.ensures.start
    says.each says.attained says.no_worse says.proved says.searched says.floor
    (rw c.in_ok-effort.ensures.most at says.few)
    c.write_found.ensures.lawful) c.in_ok-write_found.ensures.ok (search rules)

pub returns-in_err-write_found : goal.returns-in_err-write_found
returns-in_err-write_found g c =
    let request = c.args.command.now.request in
    let shop = c.args.instance in
    let found = c.in_ok-found.found in
    let says = c.in_ok-found.ensures in
    let p =
    err_from_is_err_and c.from_residual-in_err-write_found.result
    c.from_residual-in_err-write_found.ensures.1 in
    rw (p.1, p.2)
    (part-written (AnswersCertify request shop c.args.given)
    (sink_run g.K.Sink c.args.out.now c.write_found.new.out) _ (found_text request shop found)
    (certified-answers request shop c.args.given c.in_ok-start.start found
    c.in_ok-effort.ensures.accepted (rw (← c.instance.view_is) c.instance.invariant.0) c.in_ok-start.ensures.start
    says.each says.attained says.no_worse says.proved says.searched says.floor
    (rw c.in_ok-effort.ensures.most at says.few)
    c.write_found.ensures.lawful) c.in_err-write_found.ensures.err (search rules))
