use Rattle.std.proofs.Common.{◌≡◌, ◌∷◌, subst, inl}
use Rattle.std.proofs.lemmas.List.{take_rest}
use Rattle.flow_shop.specs.Characters.{line_feed}
use Rattle.flow_check.specs.TextLines.{line, ending}
use Rattle.flow_check.specs.TwoEnded.{IsTwoEnded}
use Rattle.flow_check.specs.TwoEndedFaults.{IsTwoEndedFault, IsNotTwoEnded}
use Rattle.flow_check.specs.internal.DirectionsEnd.{IsEndFault}
use Rattle.flow_check.proofs.Exits.{exit, at_exit}
use Rattle.flow_check.proofs.TwoEndedLaws.{two_ended_is_sound, two_ended_states_one}
use Rattle.flow_check.proofs.TwoEndedChecked.{four-fail, unlawful, refused, directions-fail, end-fails}
use Rattle.flow_check.proofs.TwoEndedChecked.{is-lawful}
use Rattle.flow_check.proofs.two_ended.check_two_ended.Goals as goal
use Rattle.flow_check.proofs.two_ended.check_two_ended.Goals.{In_err-lines, In_err-place, In_err-check_end}
use Rattle.flow_check.proofs.two_ended.check_two_ended.Goals.{In_ok-check_end}

-- a fault of the lines before the directions

lines-fault : (c : In_err-lines) → IsTwoEndedFault c.args.instance.now c.args.bytes.now c.in_err-lines.field-0.0
lines-fault c =
    four-fail c.args.instance.now c.args.bytes.now c.in_err-lines.field-0.0 c.in_err-lines.ensures.fault

pub returns-in_err-lines-clause-lawful : goal.returns-in_err-lines-clause-lawful
returns-in_err-lines-clause-lawful c bounds sequence is =
    refused c.args.instance.now c.args.bytes.now _ c.from_residual.result c.in_err-lines.field-0.0
    c.read_four_lines.ensures.limits
    (exit c.from_residual.result c.in_err-lines.field-0.0 c.from_residual.ensures.1)
    (lines-fault (goal.at.returns-in_err-lines-clause-lawful c).In_err-lines) bounds sequence is

pub returns-in_err-lines-clause-fault : goal.returns-in_err-lines-clause-fault
returns-in_err-lines-clause-fault c =
    at_exit c.from_residual.result c.in_err-lines.field-0.0 (IsTwoEndedFault c.args.instance.now c.args.bytes.now)
    c.from_residual.ensures.1 (lines-fault (goal.at.returns-in_err-lines-clause-fault c).In_err-lines)

pub returns-in_err-lines-clause-none : goal.returns-in_err-lines-clause-none
returns-in_err-lines-clause-none c =
    at_exit c.from_residual.result c.in_err-lines.field-0.0 (IsNotTwoEnded c.args.instance.now c.args.bytes.now)
    c.from_residual.ensures.1
    (unlawful c.args.instance.now c.args.bytes.now c.read_four_lines.ensures.limits c.in_err-lines.field-0.0
    (lines-fault (goal.at.returns-in_err-lines-clause-none c).In_err-lines))

-- a fault of the directions

place-fault : (c : In_err-place) → IsTwoEndedFault c.args.instance.now c.args.bytes.now c.in_err-place.field-0.0
place-fault c =
    directions-fail c.args.instance.now c.args.bytes.now c.in_ok-lines.lines.bounds
    c.in_ok-lines.lines.sequence c.in_ok-lines.lines.rest.now c.in_ok-lines.ensures.four
    c.in_err-place.field-0.0 c.in_err-place.ensures.fault

pub returns-in_err-place-clause-lawful : goal.returns-in_err-place-clause-lawful
returns-in_err-place-clause-lawful c bounds sequence is =
    refused c.args.instance.now c.args.bytes.now _ c.from_residual-in_err-place.result c.in_err-place.field-0.0
    c.read_four_lines.ensures.limits
    (exit c.from_residual-in_err-place.result c.in_err-place.field-0.0 c.from_residual-in_err-place.ensures.1)
    (place-fault (goal.at.returns-in_err-place-clause-lawful c).In_err-place) bounds sequence is

pub returns-in_err-place-clause-fault : goal.returns-in_err-place-clause-fault
returns-in_err-place-clause-fault c =
    at_exit c.from_residual-in_err-place.result c.in_err-place.field-0.0
    (IsTwoEndedFault c.args.instance.now c.args.bytes.now) c.from_residual-in_err-place.ensures.1
    (place-fault (goal.at.returns-in_err-place-clause-fault c).In_err-place)

pub returns-in_err-place-clause-none : goal.returns-in_err-place-clause-none
returns-in_err-place-clause-none c =
    at_exit c.from_residual-in_err-place.result c.in_err-place.field-0.0
    (IsNotTwoEnded c.args.instance.now c.args.bytes.now) c.from_residual-in_err-place.ensures.1
    (unlawful c.args.instance.now c.args.bytes.now c.read_four_lines.ensures.limits c.in_err-place.field-0.0
    (place-fault (goal.at.returns-in_err-place-clause-none c).In_err-place))

-- a fault behind them

end-fault : (c : In_err-check_end) →
    IsTwoEndedFault c.args.instance.now c.args.bytes.now c.in_err-check_end.field-0.0
end-fault c =
    end-fails c.args.instance.now c.args.bytes.now c.in_ok-lines.lines.bounds c.in_ok-lines.lines.sequence
    c.in_ok-lines.lines.rest.now c.in_ok-lines.ensures.four
    c.in_ok-place.place c.in_ok-place.ensures.proved c.in_err-check_end.field-0.0
    (subst (λ t. IsEndFault t c.in_err-check_end.field-0.0)
    (take_rest c.in_ok-lines.lines.rest.now c.in_ok-place.place) c.in_err-check_end.ensures.fault)

pub returns-in_err-check_end-clause-lawful : goal.returns-in_err-check_end-clause-lawful
returns-in_err-check_end-clause-lawful c bounds sequence is =
    refused c.args.instance.now c.args.bytes.now _ c.from_residual-in_err-check_end.result
    c.in_err-check_end.field-0.0 c.read_four_lines.ensures.limits
    (exit c.from_residual-in_err-check_end.result c.in_err-check_end.field-0.0
    c.from_residual-in_err-check_end.ensures.1)
    (end-fault (goal.at.returns-in_err-check_end-clause-lawful c).In_err-check_end) bounds sequence is

pub returns-in_err-check_end-clause-fault : goal.returns-in_err-check_end-clause-fault
returns-in_err-check_end-clause-fault c =
    at_exit c.from_residual-in_err-check_end.result c.in_err-check_end.field-0.0
    (IsTwoEndedFault c.args.instance.now c.args.bytes.now) c.from_residual-in_err-check_end.ensures.1
    (end-fault (goal.at.returns-in_err-check_end-clause-fault c).In_err-check_end)

pub returns-in_err-check_end-clause-none : goal.returns-in_err-check_end-clause-none
returns-in_err-check_end-clause-none c =
    at_exit c.from_residual-in_err-check_end.result c.in_err-check_end.field-0.0
    (IsNotTwoEnded c.args.instance.now c.args.bytes.now) c.from_residual-in_err-check_end.ensures.1
    (unlawful c.args.instance.now c.args.bytes.now c.read_four_lines.ensures.limits
    c.in_err-check_end.field-0.0 (end-fault (goal.at.returns-in_err-check_end-clause-none c).In_err-check_end))

-- the text is lawful

lawful : (c : In_ok-check_end) → IsTwoEnded c.args.instance.now c.args.bytes.now c.in_ok-lines.lines.bounds
    c.in_ok-lines.lines.sequence
lawful c =
    is-lawful c.args.instance.now c.args.bytes.now c.in_ok-lines.lines.bounds c.in_ok-lines.lines.sequence
    c.in_ok-lines.lines.rest.now c.in_ok-lines.ensures.four
    c.in_ok-place.place c.in_ok-place.ensures.proved
    (subst (λ t. t ≡ line_feed ∷ line ending)
    (take_rest c.in_ok-lines.lines.rest.now c.in_ok-place.place) c.in_ok-check_end.ensures.ends)

pub returns-clause-text : goal.returns-clause-text
returns-clause-text c = lawful (goal.at.returns-clause-text c).In_ok-check_end

pub returns-clause-bounds : goal.returns-clause-bounds
returns-clause-bounds c =
    (two_ended_is_sound c.args.instance.now c.args.bytes.now c.in_ok-lines.lines.bounds
    c.in_ok-lines.lines.sequence (lawful (goal.at.returns-clause-bounds c).In_ok-check_end)).hold

pub returns-clause-least : goal.returns-clause-least
returns-clause-least c =
    (two_ended_is_sound c.args.instance.now c.args.bytes.now c.in_ok-lines.lines.bounds
    c.in_ok-lines.lines.sequence (lawful (goal.at.returns-clause-least c).In_ok-check_end)).least

pub returns-clause-lawful : goal.returns-clause-lawful
returns-clause-lawful c bounds sequence is =
    let one = two_ended_states_one c.args.instance.now c.args.bytes.now c.in_ok-lines.lines.bounds bounds
    c.in_ok-lines.lines.sequence sequence c.read_four_lines.ensures.limits
    (lawful (goal.at.returns-clause-lawful c).In_ok-check_end) is in
    inl (one.bounds_same, one.sequence_same)
