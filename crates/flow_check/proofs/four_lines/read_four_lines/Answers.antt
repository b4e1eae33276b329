use Rattle.std.proofs.Common.{◌≡◌, ◌++◌, sym, ◌∙◌}
use Rattle.flow_check.specs.CertificateFaults.{UnlessMemory}
use Rattle.flow_check.specs.FourLines.{size_lines, bounds_lines, sequence_lines}
use Rattle.flow_check.specs.FourLinesFaults.{FailsWithinFour}
use Rattle.flow_check.proofs.Exits.{at_exit}
use Rattle.flow_check.proofs.FourLines.{read-size, read-bounds, read-sequence, no-size, no-bounds, sequence-fault}
use Rattle.flow_check.proofs.four_lines.read_four_lines.Goals as goal
use Rattle.flow_check.proofs.four_lines.read_four_lines.Goals.{In-Some-after_size, In-Some-read_bounds, In_ok-line}

pub returns-in_default-clause-fault : goal.returns-in_default-clause-fault
returns-in_default-clause-fault c = λ b. absurd (c.in_default.ensures.only b.0 b.1)

pub returns-in_default-after_size-clause-fault : goal.returns-in_default-after_size-clause-fault
returns-in_default-after_size-clause-fault c =
    no-size c.args.title.now c.args.instance.now c.args.text.now c.in-Some.size_text.now c.jobs-jobs.result
    c.machines-machines.result c.jobs-jobs.ensures.value c.machines-machines.ensures.value c.in-Some.ensures.found
    (λ rest h. c.in_default-after_size.ensures.only rest h)

-- two lines are lawful
sized : (c : In-Some-after_size) →
    c.args.text.now ≡ size_lines c.args.title.now c.args.instance.now ++ c.in-Some-after_size.bounds_text.now
sized c =
    read-size c.args.title.now c.args.instance.now c.args.text.now c.in-Some.size_text.now c.jobs-jobs.result
    c.machines-machines.result c.in-Some-after_size.bounds_text.now c.jobs-jobs.ensures.value
    c.machines-machines.ensures.value c.in-Some.ensures.found c.in-Some-after_size.ensures.found

pub returns-in_default-read_bounds-clause-fault : goal.returns-in_default-read_bounds-clause-fault
returns-in_default-read_bounds-clause-fault c =
    no-bounds c.args.title.now c.args.instance.now c.args.text.now c.in-Some-after_size.bounds_text.now
    (sized (goal.at.returns-in_default-read_bounds-clause-fault c).In-Some-after_size)
    (λ bounds rest h. c.in_default-read_bounds.ensures.only bounds rest h)

-- three lines are lawful
bounded : (c : In-Some-read_bounds) →
    c.args.text.now ≡ size_lines c.args.title.now c.args.instance.now ++ c.in-Some-after_size.bounds_text.now →
    c.args.text.now ≡ bounds_lines c.args.title.now c.args.instance.now c.in-Some-read_bounds.bounds
    ++ c.in-Some-read_bounds.sequence_text.now
bounded c is =
    read-bounds c.args.title.now c.args.instance.now c.args.text.now c.in-Some-after_size.bounds_text.now
    c.in-Some-read_bounds.bounds c.in-Some-read_bounds.sequence_text.now is c.in-Some-read_bounds.ensures.found

pub returns-in_err-line-clause-fault : goal.returns-in_err-line-clause-fault
returns-in_err-line-clause-fault c =
    let at = goal.at.returns-in_err-line-clause-fault c in
    at_exit c.from_residual.result c.in_err-line.field-0.0
    (UnlessMemory (FailsWithinFour c.args.title.now c.args.instance.now c.args.text.now)) c.from_residual.ensures.1
    (sequence-fault c.args.title.now c.args.instance.now c.args.text.now c.in-Some-read_bounds.sequence_text.now
    c.in-Some-read_bounds.bounds c.in_err-line.field-0.0 c.in-Some-read_bounds.ensures.found.0
    (bounded at.In-Some-read_bounds (sized at.In-Some-after_size)) c.in_err-line.ensures.fault)

-- four lines are in their form
four : (c : In_ok-line) → c.args.text.now ≡ bounds_lines c.args.title.now c.args.instance.now
    c.in-Some-read_bounds.bounds ++ c.in-Some-read_bounds.sequence_text.now →
    c.args.text.now ≡ sequence_lines c.args.title.now c.args.instance.now c.in-Some-read_bounds.bounds
    c.in_ok-line.line.sequence ++ c.in_ok-line.line.rest.now
four c is =
    read-sequence c.args.title.now c.args.instance.now c.args.text.now c.in-Some-read_bounds.sequence_text.now
    c.in-Some-read_bounds.bounds c.in_ok-line.line.sequence c.in_ok-line.line.rest.now is c.in_ok-line.ensures.found

pub returns-then-line-bounds-clause-fault : goal.returns-then-line-bounds-clause-fault
returns-then-line-bounds-clause-fault c =
    let at = goal.at.returns-then-line-bounds-clause-fault c in
    record {
      bounds = c.in-Some-read_bounds.bounds;
      sequence = c.in_ok-line.line.sequence;
      fit = c.in-Some-read_bounds.ensures.found.0;
      whole = c.in_ok-line.ensures.found.0;
      begins = (
        c.in_ok-line.line.rest.now,
        four at.In_ok-line (bounded at.In-Some-read_bounds (sized at.In-Some-after_size)),
      );
      other = λ e. c.if-line-bounds.true (sym c.in_ok-line.ensures.makespan ∙ e);
    }

pub returns-clause-four : goal.returns-clause-four
returns-clause-four c =
    let at = goal.at.returns-clause-four c in
    record {
      shown = record {
        fit = c.in-Some-read_bounds.ensures.found.0;
        whole = c.in_ok-line.ensures.found.0;
        attained = c.in_ok-line.ensures.makespan ∙ c.if-line-bounds.false;
      };
      lines = four at.In_ok-line (bounded at.In-Some-read_bounds (sized at.In-Some-after_size));
    }
