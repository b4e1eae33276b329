use Rattle.std.proofs.Common.{◌≡◌, ◌≢◌, Bool, true, false, nat_eq, ap, cond, sym, ◌∙◌, Err}
use Rattle.std.proofs.lemmas.Bool.{eq-eqb, ne_eqb}
use Rattle.flow_shop.specs.Paths.{span}
use Rattle.flow_check.specs.CertificateFaults.{UnlessMemory}
use Rattle.flow_check.specs.internal.Reading.{text_value, header_value, on_line}
use Rattle.flow_check.specs.internal.ReadTrees.{cut_value}
use Rattle.flow_check.specs.declared.fault.CheckFault.TheVariants.{Header, Value, Sequence, NotAttained}
use Rattle.flow_check.proofs.Exact.{after_size, after_value}
use Rattle.flow_check.proofs.HeadingLines.{title-read, title-refused, size-is, is-size, size-read, size-refused}
use Rattle.flow_check.proofs.HeadingLines.{value-read, value-refused, sequence-read, sequence-refused}
use Rattle.flow_check.proofs.Exits.{at_exit}
use Rattle.flow_check.proofs.CertificateLines.{begins-heading, sequence-fails}
use Rattle.flow_check.proofs.heading.read_heading.Goals as goal
use Rattle.flow_check.proofs.heading.read_heading.Goals.{In-Some-read_size, In-Some-read_number}
use Rattle.flow_check.proofs.heading.read_heading.Goals.{In_ok-line}

pub returns-in_default-clause-fault : goal.returns-in_default-clause-fault
unfolding text_value
returns-in_default-clause-fault c =
    title-refused c.args.instance.now c.args.text.now c.in_default.ensures.only

pub returns-in_default-read_size-clause-fault : goal.returns-in_default-read_size-clause-fault
unfolding text_value
returns-in_default-read_size-clause-fault c =
    title-read c.args.instance.now c.in-Some.version c.args.text.now c.in-Some.size_text.now
    c.in-Some.ensures.found.0 c.in-Some.ensures.found.1
    ∙ size-refused c.args.instance.now c.in-Some.version c.in-Some.size_text.now
    c.jobs-jobs.ensures.limits
    (λ depth rest h. c.in_default-read_size.ensures.only depth rest
    (is-size c.args.instance.now c.jobs-jobs.result c.machines-machines.result c.in-Some.size_text.now depth rest
    c.jobs-jobs.ensures.value c.machines-machines.ensures.value h))

-- what the first two lines make of what is read
sized : (c : In-Some-read_size) → on_line Header (header_value c.args.instance.now) c.args.text.now
    ≡ on_line Value (after_size c.args.instance.now c.in-Some.version c.in-Some-read_size.depth)
    c.in-Some-read_size.value_text.now
sized c =
    title-read c.args.instance.now c.in-Some.version c.args.text.now c.in-Some.size_text.now
    c.in-Some.ensures.found.0 c.in-Some.ensures.found.1
    ∙ size-read c.args.instance.now c.in-Some.version c.in-Some.size_text.now c.in-Some-read_size.depth
    c.in-Some-read_size.value_text.now
    c.jobs-jobs.ensures.limits
    (size-is c.args.instance.now c.jobs-jobs.result c.machines-machines.result c.in-Some.size_text.now
    c.in-Some-read_size.depth c.in-Some-read_size.value_text.now c.jobs-jobs.ensures.value
    c.machines-machines.ensures.value c.in-Some-read_size.ensures.found)

-- what the third line makes of it
third : (c : In-Some-read_number) →
    on_line Value (after_size c.args.instance.now c.in-Some.version c.in-Some-read_size.depth)
    c.in-Some-read_size.value_text.now
    ≡ on_line Sequence (after_value c.args.instance.now c.in-Some.version c.in-Some-read_size.depth
    c.in-Some-read_number.value)
    c.in-Some-read_number.sequence_text.now
third c =
    value-read c.args.instance.now c.in-Some.version c.in-Some-read_size.value_text.now
    c.in-Some-read_size.depth c.in-Some-read_number.value c.in-Some-read_number.sequence_text.now
    c.in-Some-read_number.ensures.found

-- what the line of the sequence makes of it
sequenced : (c : In_ok-line) (same : Bool) →
    nat_eq (span c.args.instance.now c.in_ok-line.line.sequence)
    c.in-Some-read_number.value ≡ same →
    on_line Sequence (after_value c.args.instance.now c.in-Some.version c.in-Some-read_size.depth
    c.in-Some-read_number.value)
    c.in-Some-read_number.sequence_text.now
    ≡ cond same (cut_value c.args.instance.now c.in-Some.version c.in-Some-read_size.depth
    c.in-Some-read_number.value c.in_ok-line.line.rest.now) (Err NotAttained)
sequenced c same is =
    sequence-read c.args.instance.now c.in-Some.version c.in-Some-read_number.sequence_text.now
    c.in-Some-read_size.depth c.in-Some-read_number.value c.in_ok-line.line.sequence
    c.in_ok-line.line.rest.now c.jobs-jobs.ensures.limits c.in_ok-line.ensures.found
    ∙ ap (λ b. cond b (cut_value c.args.instance.now c.in-Some.version c.in-Some-read_size.depth
    c.in-Some-read_number.value c.in_ok-line.line.rest.now) (Err NotAttained)) is

pub returns-in_default-read_number-clause-fault : goal.returns-in_default-read_number-clause-fault
unfolding text_value
returns-in_default-read_number-clause-fault c =
    sized (goal.at.returns-in_default-read_number-clause-fault c).In-Some-read_size
    ∙ value-refused c.args.instance.now c.in-Some.version c.in-Some-read_size.value_text.now
    c.in-Some-read_size.depth c.in_default-read_number.ensures.only

pub returns-in_err-line-clause-fault : goal.returns-in_err-line-clause-fault
unfolding text_value
returns-in_err-line-clause-fault c =
    let at = goal.at.returns-in_err-line-clause-fault c in
    at_exit c.from_residual.result c.in_err-line.field-0.0
    (UnlessMemory (λ fault. text_value c.args.instance.now c.args.text.now ≡ Err fault))
    c.from_residual.ensures.1
    (sequence-fails c.args.instance.now c.args.text.now c.in-Some-read_number.sequence_text.now
    c.in_err-line.field-0.0 (λ none. sized at.In-Some-read_size ∙ third at.In-Some-read_number
    ∙ sequence-refused c.args.instance.now c.in-Some.version c.in-Some-read_number.sequence_text.now
    c.in-Some-read_size.depth c.in-Some-read_number.value c.jobs-jobs.ensures.limits none)
    c.in_err-line.ensures.fault)

pub returns-then-line-value-clause-fault : goal.returns-then-line-value-clause-fault
unfolding text_value
returns-then-line-value-clause-fault c =
    let at = goal.at.returns-then-line-value-clause-fault c in
    let other : span c.args.instance.now c.in_ok-line.line.sequence ≢ c.in-Some-read_number.value =
    λ e. c.if-line-value.true (sym c.in_ok-line.ensures.makespan ∙ e) in
    sized at.In-Some-read_size ∙ third at.In-Some-read_number
    ∙ sequenced at.In_ok-line false (ne_eqb _ _ other)

pub returns-clause-found : goal.returns-clause-found
unfolding text_value
returns-clause-found c =
    let at = goal.at.returns-clause-found c in
    sized at.In-Some-read_size ∙ third at.In-Some-read_number
    ∙ sequenced at.In_ok-line true (eq-eqb _ _ (c.in_ok-line.ensures.makespan ∙ c.if-line-value.false))

pub returns-clause-lines : goal.returns-clause-lines
returns-clause-lines c =
    let size = size-is c.args.instance.now c.jobs-jobs.result c.machines-machines.result c.in-Some.size_text.now
    c.in-Some-read_size.depth c.in-Some-read_size.value_text.now c.jobs-jobs.ensures.value
    c.machines-machines.ensures.value c.in-Some-read_size.ensures.found in
    record {
      known = c.in-Some.ensures.found.0;
      deep = (size.0, size.1);
      fits = c.in-Some-read_number.ensures.found.0;
      whole = c.in_ok-line.ensures.found.0;
      lines = begins-heading c.args.instance.now c.args.text.now c.in-Some.size_text.now
          c.in-Some-read_size.value_text.now c.in-Some-read_number.sequence_text.now c.in_ok-line.line.rest.now
          c.in-Some.version c.in-Some-read_size.depth c.in-Some-read_number.value c.in_ok-line.line.sequence
          c.in-Some.ensures.found.1 size c.in-Some-read_number.ensures.found c.in_ok-line.ensures.found;
    }
