-- The sequence that the certificate of a plan states.
use Rattle.std.proofs.Common.{◌^◌, ◌<◌, ◌≤◌, refl, sym, subst, arith}
use Rattle.flow_limits.specs.Limits.{greatest_version}
use Rattle.flow_search.specs.Plans.{Planned, IsPlan, trees_of, verdict_of}
use Rattle.flow_search.specs.Verdicts.{IsVerdict}
use Rattle.flow_search.specs.declared.verdict.Verdict.{Verdict}
use Rattle.flow_search.proofs.LeastVerdict.{verdict_is_least}
use Rattle.flow_check.specs.Certificate.{IsCertificateWith}
use Rattle.flow_check.specs.Stated.{GivesSequence}
use Rattle.flow_cert.specs.PlanCertificates.{certificate_of}
use Rattle.flow_cert.proofs.Lawful.{span-fits, trees-cover}

-- the certificate of a plan states the sequence of its verdict
pub verdict-given : (plan : Planned) (verdict : Verdict) → IsPlan plan → IsVerdict plan verdict →
    GivesSequence plan.shop (certificate_of plan) verdict.sequence
verdict-given plan verdict is of =
    let shop = plan.shop in
    let start = plan.start in
    let depth = plan.options.depth in
    let value = (verdict_of plan).value in
    let sequence = (verdict_of plan).sequence in
    let first : 1 ≤ plan.options.version = is.option_limits.first_version in
    let last : plan.options.version ≤ greatest_version = is.option_limits.last_version in
    let v = verdict_is_least shop start depth is.deep (is.is_sequence, sym is.is_span) in
    let low : value ≤ start.value =
    subst (λ n. value ≤ n) (sym is.is_span) (v.1.least start.sequence is.is_sequence) in
    subst (GivesSequence shop (certificate_of plan)) (sym of.sequence)
    (subst (λ n. IsCertificateWith shop (certificate_of plan) n sequence) (sym v.0.1) (
      plan.options.version,
      depth,
      trees_of plan,
      record {
        known = (first, omega (arith, last));
        jobs_enough = is.deep;
        shallow = is.option_limits.depth;
        fits = subst (λ n. n < 2 ^ 64) v.0.1 (span-fits shop sequence is.shop_limits v.0.0);
        whole = v.0.0;
        attained = v.0.1;
        covered = trees-cover shop plan.options.version value start.value depth is.deep low v.1.least;
      },
      refl,
    ))
