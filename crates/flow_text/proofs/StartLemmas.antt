-- The numbers behind a word.
use Rattle.std.proofs.Common.{◌≡◌, ◌∙◌, ℕ, Bool, true, false, not, ◌&&◌, if◌then◌else◌, List, Option, Some, None}
use Rattle.std.proofs.Common.{Result, Ok, Err, refl, ap}
use Rattle.std.specs.Prelude.{◌≢◌}
use Rattle.flow_text.specs.Lines.{is_plain, numbers_of, are_small}
use Rattle.flow_text.specs.StartText.{behind, numbers_on, numbers_behind}
use Rattle.flow_text.specs.internal.TextWalk.{line_numbers}
use Rattle.flow_text.specs.internal.StartSteps.{IsOfLine, of_start}
use Rattle.flow_text.specs.declared.text.fault.LineFault.{LineFault}
use Rattle.flow_text.specs.declared.text.fault.LineFault.TheVariants as line
use Rattle.flow_text.specs.declared.text.start.StartFault.TheVariants.{Line, Memory}

-- what is read of a line, by the two tests of it
abbrev tested : Bool → Bool → List ℕ → Result (List ℕ) LineFault
tested plain small numbers =
    if not plain then Err line.Byte else (if not small then Err line.Number else Ok numbers)

abbrev taken : Bool → Bool → List ℕ → Option (List ℕ)
taken plain small numbers = if plain && small then Some numbers else None

tested-ok : (plain small : Bool) (all numbers : List ℕ) → tested plain small all ≡ Ok numbers →
    taken plain small all ≡ Some numbers
tested-ok true true all numbers h = let same : all ≡ numbers = cc in ap Some same
tested-ok true false all numbers h = absurd (cc h)
tested-ok false small all numbers h = absurd (cc h)

tested-err : (plain small : Bool) (all : List ℕ) (fault : LineFault) → tested plain small all ≡ Err fault →
    taken plain small all ≡ None
tested-err true true all fault h = absurd (cc h)
tested-err true false all fault h = refl
tested-err false small all fault h = refl

numbers-read : (rest numbers : List ℕ) → line_numbers rest ≡ Ok numbers → numbers_on rest ≡ Some numbers
unfolding line_numbers
numbers-read rest numbers h = tested-ok (is_plain rest) (are_small (numbers_of rest)) (numbers_of rest) numbers h

numbers-refused : (rest : List ℕ) (fault : LineFault) → line_numbers rest ≡ Err fault → numbers_on rest ≡ None
unfolding line_numbers
numbers-refused rest fault h = tested-err (is_plain rest) (are_small (numbers_of rest)) (numbers_of rest) fault h

pub read-behind : (word bytes rest numbers : List ℕ) → behind word bytes ≡ Some rest → line_numbers rest ≡ Ok numbers →
    numbers_behind word bytes ≡ Some numbers
read-behind word bytes rest numbers there h =
    ap (λ found. elim found [ None ↦ None | Some r ↦ numbers_on r ]) there ∙ numbers-read rest numbers h

none-behind : (word bytes rest : List ℕ) (fault : LineFault) → behind word bytes ≡ Some rest →
    line_numbers rest ≡ Err fault → numbers_behind word bytes ≡ None
none-behind word bytes rest fault there h =
    ap (λ found. elim found [ None ↦ None | Some r ↦ numbers_on r ]) there ∙ numbers-refused rest fault h

of-line : (fault : LineFault) (number : ℕ) → of_start fault number ≢ Memory → of_start fault number ≡ Line number
of-line line.Memory number known = absurd (known refl)
of-line line.Label number known = refl
of-line line.Byte number known = refl
of-line line.Number number known = refl
of-line line.Head number known = refl
of-line line.Limits number known = refl
of-line line.Times number known = refl

pub refused-behind : (word bytes rest : List ℕ) (number : ℕ) (fault : LineFault) → behind word bytes ≡ Some rest →
    (fault ≢ line.Memory → line_numbers rest ≡ Err fault) →
    IsOfLine (numbers_behind word bytes) number (of_start fault number)
refused-behind word bytes rest number fault there h = λ known. (
  none-behind word bytes rest fault there (h (λ same. known (ap (λ f. of_start f number) same))),
  of-line fault number known,
)
