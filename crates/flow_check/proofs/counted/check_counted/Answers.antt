use Rattle.std.proofs.Common.{◌≡◌, ◌≤◌, ◌++◌, refl, ap, sym, subst, ◌∙◌, inl}
use Rattle.std.specs.Cmp.Lexicographic.{bytes_decides}
use Rattle.std.specs.Fmt.{decimal}
use Rattle.flow_check.specs.TextLines.{line, ending}
use Rattle.flow_check.specs.Counted.{IsCountedText}
use Rattle.flow_check.specs.CountedFaults.{StartsWithCount, IsCountedFault, IsNotCounted}
use Rattle.flow_check.specs.declared.fault.CheckFault.TheVariants.{Value, Most, End}
use Rattle.flow_check.proofs.Exits.{exit, at_exit}
use Rattle.flow_check.proofs.CountedLaws.{counted_is_sound, counted_states_one, lawful-with}
use Rattle.flow_check.proofs.CountedChecked.{starts-with, no-count, not-above, four-fail, unlawful, refused}
use Rattle.flow_check.proofs.CountedChecked.{no-count-fails, above-fails, search-fails, end-fails}
use Rattle.flow_check.proofs.counted.check_counted.Goals as goal
use Rattle.flow_check.proofs.counted.check_counted.Goals.{In_err-lines, In_default, Then-count-most}
use Rattle.flow_check.proofs.counted.check_counted.Goals.{In_err-check_search, Then-not-is_ending, Else-not-is_ending}

-- a fault of the first four lines

lines-fault : (g : _) (c : In_err-lines g) →
    IsCountedFault c.args.instance.now c.args.most c.args.bytes.now c.in_err-lines.field-0.0
lines-fault g c =
    four-fail c.args.instance.now c.args.most c.args.bytes.now c.in_err-lines.field-0.0 c.in_err-lines.ensures.fault

pub returns-in_err-lines-clause-lawful : goal.returns-in_err-lines-clause-lawful
returns-in_err-lines-clause-lawful g c bounds sequence is =
    refused c.args.instance.now c.args.most c.args.bytes.now _ c.from_residual.result c.in_err-lines.field-0.0
    c.read_four_lines.ensures.limits
    (exit c.from_residual.result c.in_err-lines.field-0.0 c.from_residual.ensures.1)
    (lines-fault g (goal.at.returns-in_err-lines-clause-lawful g c).In_err-lines) bounds sequence is

pub returns-in_err-lines-clause-fault : goal.returns-in_err-lines-clause-fault
returns-in_err-lines-clause-fault g c =
    at_exit c.from_residual.result c.in_err-lines.field-0.0
    (IsCountedFault c.args.instance.now c.args.most c.args.bytes.now) c.from_residual.ensures.1
    (lines-fault g (goal.at.returns-in_err-lines-clause-fault g c).In_err-lines)

pub returns-in_err-lines-clause-none : goal.returns-in_err-lines-clause-none
returns-in_err-lines-clause-none g c =
    at_exit c.from_residual.result c.in_err-lines.field-0.0 (IsNotCounted c.args.instance.now c.args.bytes.now)
    c.from_residual.ensures.1
    (unlawful c.args.instance.now c.args.most c.args.bytes.now c.read_four_lines.ensures.limits
    c.in_err-lines.field-0.0 (lines-fault g (goal.at.returns-in_err-lines-clause-none g c).In_err-lines))

-- no count

count-fault : (g : _) (c : In_default g) →
    IsCountedFault c.args.instance.now c.args.most c.args.bytes.now Value
count-fault g c =
    no-count-fails c.args.instance.now c.args.most c.args.bytes.now c.in_ok-lines.lines.bounds
    c.in_ok-lines.lines.sequence c.in_ok-lines.lines.rest.now c.in_ok-lines.ensures.four
    (no-count c.in_ok-lines.lines.rest.now (λ count rest h. c.in_default.ensures.only count rest h))

pub returns-in_default-clause-lawful : goal.returns-in_default-clause-lawful
returns-in_default-clause-lawful g c bounds sequence is =
    refused c.args.instance.now c.args.most c.args.bytes.now _ _ Value c.read_four_lines.ensures.limits refl
    (count-fault g (goal.at.returns-in_default-clause-lawful g c).In_default) bounds sequence is

pub returns-in_default-clause-fault : goal.returns-in_default-clause-fault
returns-in_default-clause-fault g c = count-fault g (goal.at.returns-in_default-clause-fault g c).In_default

pub returns-in_default-clause-none : goal.returns-in_default-clause-none
returns-in_default-clause-none g c =
    unlawful c.args.instance.now c.args.most c.args.bytes.now c.read_four_lines.ensures.limits Value
    (count-fault g (goal.at.returns-in_default-clause-none g c).In_default)

-- more nodes than are allowed

most-fault : (g : _) (c : Then-count-most g) →
    IsCountedFault c.args.instance.now c.args.most c.args.bytes.now Most
most-fault g c =
    above-fails c.args.instance.now c.args.most c.args.bytes.now c.in_ok-lines.lines.bounds
    c.in_ok-lines.lines.sequence c.in_ok-lines.lines.rest.now c.in_ok-lines.ensures.four c.in-Some.count
    c.in-Some.last.now (starts-with c.in_ok-lines.lines.rest.now c.in-Some.count c.in-Some.last.now
    c.in-Some.ensures.found) c.if-count-most.true

pub returns-then-count-most-clause-lawful : goal.returns-then-count-most-clause-lawful
returns-then-count-most-clause-lawful g c bounds sequence is =
    refused c.args.instance.now c.args.most c.args.bytes.now _ _ Most c.read_four_lines.ensures.limits refl
    (most-fault g (goal.at.returns-then-count-most-clause-lawful g c).Then-count-most) bounds sequence is

pub returns-then-count-most-clause-fault : goal.returns-then-count-most-clause-fault
returns-then-count-most-clause-fault g c =
    most-fault g (goal.at.returns-then-count-most-clause-fault g c).Then-count-most

-- a fault of the search

search-fault : (g : _) (c : In_err-check_search g) →
    IsCountedFault c.args.instance.now c.args.most c.args.bytes.now c.in_err-check_search.field-0.0
search-fault g c =
    search-fails c.args.instance.now c.args.most c.args.bytes.now c.in_ok-lines.lines.bounds
    c.in_ok-lines.lines.sequence c.in_ok-lines.lines.rest.now c.in_ok-lines.ensures.four c.in-Some.count
    c.in-Some.last.now (starts-with c.in_ok-lines.lines.rest.now c.in-Some.count c.in-Some.last.now
    c.in-Some.ensures.found) c.if-count-most.false c.in_err-check_search.field-0.0 c.in_err-check_search.ensures.fault

pub returns-in_err-check_search-clause-lawful : goal.returns-in_err-check_search-clause-lawful
returns-in_err-check_search-clause-lawful g c bounds sequence is =
    refused c.args.instance.now c.args.most c.args.bytes.now _ c.from_residual-in_err-check_search.result
    c.in_err-check_search.field-0.0 c.read_four_lines.ensures.limits
    (exit c.from_residual-in_err-check_search.result c.in_err-check_search.field-0.0
    c.from_residual-in_err-check_search.ensures.1)
    (search-fault g (goal.at.returns-in_err-check_search-clause-lawful g c).In_err-check_search) bounds sequence is

pub returns-in_err-check_search-clause-fault : goal.returns-in_err-check_search-clause-fault
returns-in_err-check_search-clause-fault g c =
    at_exit c.from_residual-in_err-check_search.result c.in_err-check_search.field-0.0
    (IsCountedFault c.args.instance.now c.args.most c.args.bytes.now) c.from_residual-in_err-check_search.ensures.1
    (search-fault g (goal.at.returns-in_err-check_search-clause-fault g c).In_err-check_search)

pub returns-in_err-check_search-clause-none : goal.returns-in_err-check_search-clause-none
returns-in_err-check_search-clause-none g c =
    at_exit c.from_residual-in_err-check_search.result c.in_err-check_search.field-0.0
    (IsNotCounted c.args.instance.now c.args.bytes.now) c.from_residual-in_err-check_search.ensures.1
    (unlawful c.args.instance.now c.args.most c.args.bytes.now c.read_four_lines.ensures.limits
    c.in_err-check_search.field-0.0
    (search-fault g (goal.at.returns-in_err-check_search-clause-none g c).In_err-check_search))

-- the text ends wrongly

end-fault : (g : _) (c : Then-not-is_ending g) →
    IsCountedFault c.args.instance.now c.args.most c.args.bytes.now End
end-fault g c =
    end-fails c.args.instance.now c.args.most c.args.bytes.now c.in_ok-lines.lines.bounds
    c.in_ok-lines.lines.sequence c.in_ok-lines.lines.rest.now c.in_ok-lines.ensures.four c.in-Some.count
    c.in-Some.last.now (starts-with c.in_ok-lines.lines.rest.now c.in-Some.count c.in-Some.last.now
    c.in-Some.ensures.found) c.if-count-most.false c.in_ok-check_search.ensures.opens c.is_ending.result
    c.is_ending.ensures c.if-not-is_ending.true

pub returns-then-not-is_ending-clause-lawful : goal.returns-then-not-is_ending-clause-lawful
returns-then-not-is_ending-clause-lawful g c bounds sequence is =
    refused c.args.instance.now c.args.most c.args.bytes.now _ _ End c.read_four_lines.ensures.limits refl
    (end-fault g (goal.at.returns-then-not-is_ending-clause-lawful g c).Then-not-is_ending) bounds sequence is

pub returns-then-not-is_ending-clause-fault : goal.returns-then-not-is_ending-clause-fault
returns-then-not-is_ending-clause-fault g c =
    end-fault g (goal.at.returns-then-not-is_ending-clause-fault g c).Then-not-is_ending

pub returns-then-not-is_ending-clause-none : goal.returns-then-not-is_ending-clause-none
returns-then-not-is_ending-clause-none g c =
    unlawful c.args.instance.now c.args.most c.args.bytes.now c.read_four_lines.ensures.limits End
    (end-fault g (goal.at.returns-then-not-is_ending-clause-none g c).Then-not-is_ending)

-- the text is lawful

lawful : (g : _) (c : Else-not-is_ending g) →
    (is : IsCountedText c.args.instance.now c.args.bytes.now c.in_ok-lines.lines.bounds c.in_ok-lines.lines.sequence)
    × (is.count ≡ c.in-Some.count)
lawful g c =
    let starts : StartsWithCount c.in_ok-lines.lines.rest.now c.in-Some.count c.in-Some.last.now =
    starts-with c.in_ok-lines.lines.rest.now c.in-Some.count c.in-Some.last.now c.in-Some.ensures.found in
    lawful-with c.args.instance.now c.args.bytes.now c.in_ok-lines.lines.bounds c.in_ok-lines.lines.sequence
    c.in_ok-lines.lines.rest.now c.in-Some.count c.in_ok-lines.ensures.four starts.fits
    c.in_ok-check_search.ensures.opens
    (starts.line_is ∙ ap (λ t. line (decimal c.in-Some.count) ++ t)
    ((bytes_decides c.in-Some.last.now (line ending)).0 (sym c.is_ending.ensures ∙ c.if-not-is_ending.false)))

pub returns-clause-text : goal.returns-clause-text
returns-clause-text g c = (lawful g (goal.at.returns-clause-text g c).Else-not-is_ending).0

pub returns-clause-within : goal.returns-clause-within
returns-clause-within g c =
    let own = lawful g (goal.at.returns-clause-within g c).Else-not-is_ending in
    not-above c.args.instance.now c.args.most c.args.bytes.now c.in_ok-lines.lines.bounds
    c.in_ok-lines.lines.sequence c.read_four_lines.ensures.limits own.0
    (subst (λ n. n ≤ c.args.most) (sym own.1) c.if-count-most.false)

pub returns-clause-bounds : goal.returns-clause-bounds
returns-clause-bounds g c =
    (counted_is_sound c.args.instance.now c.args.bytes.now c.in_ok-lines.lines.bounds
    c.in_ok-lines.lines.sequence (lawful g (goal.at.returns-clause-bounds g c).Else-not-is_ending).0).hold

pub returns-clause-least : goal.returns-clause-least
returns-clause-least g c =
    (counted_is_sound c.args.instance.now c.args.bytes.now c.in_ok-lines.lines.bounds
    c.in_ok-lines.lines.sequence (lawful g (goal.at.returns-clause-least g c).Else-not-is_ending).0).least

pub returns-clause-lawful : goal.returns-clause-lawful
returns-clause-lawful g c bounds sequence is =
    let one = counted_states_one c.args.instance.now c.args.bytes.now c.in_ok-lines.lines.bounds bounds
    c.in_ok-lines.lines.sequence sequence c.read_four_lines.ensures.limits
    (lawful g (goal.at.returns-clause-lawful g c).Else-not-is_ending).0 is in
    inl (one.0, one.1)
