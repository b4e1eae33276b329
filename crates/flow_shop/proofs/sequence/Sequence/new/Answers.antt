use Rattle.std.proofs.Common.{◌≡◌, length, sym, subst, ◌∙◌}
use Rattle.flow_shop.specs.Sequences.{IsSequence}
use Rattle.flow_shop.proofs.SequenceLemmas.{sequence-fault-is, fault-none-is}
use Rattle.flow_shop.proofs.sequence.Sequence.new.Goals as goal

pub returns-in-Some-clause-refused : goal.returns-in-Some-clause-refused
returns-in-Some-clause-refused c =
    sequence-fault-is c.args.instance.now.jobs c.args.jobs.now c.in-Some.fault
    (c.if-jobs-from.false ∙ c.from.ensures ∙ c.jobs.ensures.value)
    (sym c.first_job_at_fault.ensures.fault ∙ c.in-Some.is)

pub invariant_of-result : goal.invariant_of-result
invariant_of-result c =
    let n = c.args.instance.now.jobs in
    let jobs = c.args.jobs.now in
    let whole : length jobs ≡ n = c.if-jobs-from.false ∙ c.from.ensures ∙ c.jobs.ensures.value in
    let is : IsSequence n jobs = fault-none-is n jobs whole (sym c.first_job_at_fault.ensures.fault ∙ c.in-None.is) in
    subst (λ xs. IsSequence (length xs) xs) (sym c.in_ok-from_slice-in-None.ensures.items)
    (subst (λ n. IsSequence n jobs) (sym whole) is)

pub returns-in_ok-from_slice-in-None-clause-each : goal.returns-in_ok-from_slice-in-None-clause-each
returns-in_ok-from_slice-in-None-clause-each c =
    fault-none-is c.args.instance.now.jobs c.args.jobs.now
    (c.if-jobs-from.false ∙ c.from.ensures ∙ c.jobs.ensures.value)
    (sym c.first_job_at_fault.ensures.fault ∙ c.in-None.is)
