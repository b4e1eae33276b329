use Rattle.std.proofs.lemmas.Result.{err_from_is_err_and}
use Rattle.flow_commands.proofs.files.read_second.Goals as goal

pub returns-in_err-start-in-Start-clause-refused : goal.returns-in_err-start-in-Start-clause-refused
returns-in_err-start-in-Start-clause-refused g c =
    let p = err_from_is_err_and c.from_residual.result c.from_residual.ensures.1 in
    rw (c.in-Start.is, p.1, p.2) c.in_err-start-in-Start.ensures.refused

pub returns-in_err-certificate-in-Certificate-clause-refused :
    goal.returns-in_err-certificate-in-Certificate-clause-refused
returns-in_err-certificate-in-Certificate-clause-refused g c =
    let residual = c.from_residual-in_err-certificate-in-Certificate in
    let p = err_from_is_err_and residual.result residual.ensures.1 in
    rw (c.in-Certificate.is, p.1, p.2) c.in_err-certificate-in-Certificate.ensures.refused

pub returns-in_err-either-in-StartOrCertificate-clause-refused :
    goal.returns-in_err-either-in-StartOrCertificate-clause-refused
returns-in_err-either-in-StartOrCertificate-clause-refused g c =
    let residual = c.from_residual-in_err-either-in-StartOrCertificate in
    let p = err_from_is_err_and residual.result residual.ensures.1 in
    rw (c.in-StartOrCertificate.is, p.1, p.2) c.in_err-either-in-StartOrCertificate.ensures.refused

pub returns-in_ok-either-in-StartOrCertificate-clause-came :
    goal.returns-in_ok-either-in-StartOrCertificate-clause-came
returns-in_ok-either-in-StartOrCertificate-clause-came g c =
    rw c.in-StartOrCertificate.is c.in_ok-either-in-StartOrCertificate.ensures.came
