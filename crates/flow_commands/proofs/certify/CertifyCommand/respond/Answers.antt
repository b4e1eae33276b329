use Rattle.flow_requests.specs.SecondFile.{file_in}
use Rattle.flow_commands.specs.Runs.{sink_run}
use Rattle.flow_commands.specs.Certify.{AnswersCertify}
use Rattle.flow_commands.specs.Start.{FromStart}
use Rattle.flow_commands.specs.internal.Picked.{origin_of}
use Rattle.flow_commands.specs.internal.Reading.{bytes_of}
use Rattle.flow_commands.proofs.Responses.{weaker}
use Rattle.flow_commands.proofs.Starts.{given-answers}
use Rattle.flow_commands.proofs.certify.CertifyCommand.respond.Goals as goal

pub returns : goal.returns
returns g c =
    let A = AnswersCertify c.args.self.now.request in
    let origin = origin_of c.args.picked in
    weaker (A origin.block.instance c.in_ok-given.given) (FromStart A origin (bytes_of (file_in c.args.second)))
    (sink_run g.K.Sink c.args.out.now c.certify_instance.new.out) c.certify_instance.result
    (λ answer. given-answers A origin (bytes_of (file_in c.args.second)) c.in_ok-given.given answer c.in_ok-given.ensures.given)
    c.certify_instance.ensures
