-- What an answer to a place of a shared search says is true.
use Rattle.std.proofs.Common.{◌≡◌, ℕ, true, false, List, [], ◌++◌, length, Some, None, ap, sym, ◌∙◌}
use Rattle.std.proofs.Common.{inl, inr, append_assoc, append-nil}
use Rattle.std.specs.List.{flat_map, range_with_len}
use Rattle.flow_directions.specs.Search.{Visit, signs, first_reached, parts_visits, Continues}
use Rattle.flow_directions.proofs.VisitSteps.{none-or-reached, signs-append, first_reached-append}
use Rattle.flow_directions.proofs.VisitSteps.{signs-append-reached, first_reached-append-reached}
use Rattle.flow_parts.specs.Meanings.{Meaning, IsTrueAnswer}
use Rattle.flow_parts.specs.declared.answer.Searched.{Searched}
use Rattle.flow_c.specs.Shared.{AnswersAreTrue, ProvedGoesOn, met_at}
use Rattle.flow_c.specs.declared.came.Came.TheVariants as came

-- two texts, one after the other
continues-on : (all : List Visit) (before text : List ℕ) (xs ys : List Visit) → Continues all before xs →
    Continues xs text ys → Continues all (before ++ text) ys
continues-on all before text xs ys first then =
    (first.0 ∙ ap (λ t. before ++ t) then.0 ∙ sym (append_assoc before text (signs ys)), first.1 ∙ then.1)

-- the same with more behind
continues-before : (xs ys more : List Visit) (text : List ℕ) → Continues xs text ys →
    Continues (xs ++ more) text (ys ++ more)
continues-before xs ys more text goes = elim (none-or-reached (first_reached xs)) [
  | inl none ↦
      let none_then : first_reached ys ≡ None = sym goes.1 ∙ none in (
        signs-append xs more none ∙ ap (λ t. t ++ signs more) goes.0 ∙ append_assoc text (signs ys) (signs more)
            ∙ ap (λ t. text ++ t) (sym (signs-append ys more none_then)),
        first_reached-append xs more none ∙ sym (first_reached-append ys more none_then),
      )
  | inr reached ↦
      let then : first_reached ys ≡ Some reached.0 = sym goes.1 ∙ reached.1 in (
        signs-append-reached xs more reached.0 reached.1 ∙ goes.0
            ∙ ap (λ t. text ++ t) (sym (signs-append-reached ys more reached.0 then)),
        first_reached-append-reached xs more reached.0 reached.1
            ∙ sym (first_reached-append-reached ys more reached.0 then),
      )
]

pub proved-goes-on : ProvedGoesOn
proved-goes-on shop threshold budget node before text all more goes found =
    continues-on all before text (met_at shop threshold node ++ more) more goes
    (continues-before (met_at shop threshold node) [] more text (sym found.1 ∙ sym (append-nil text), found.0))

module _ (meaning : Meaning) (number begins : ℕ) (searched : Searched)
    (written : searched.written ≡ length (meaning.text number)) where
  -- an answer at whose place a sequence was reached
  reaches : searched.reached ≡ true → signs (meaning.parts number) ≡ meaning.text number →
      first_reached (meaning.parts number) ≡ Some (meaning.sequence number) →
      IsTrueAnswer meaning number begins searched
  reaches is text sequence = record { written = sym written; then = rw is (text, sequence) }

  -- one behind whose place the search goes on
  goes-on : (text : List ℕ) (more : List Visit) → searched.reached ≡ false → meaning.text number ≡ text →
      flat_map meaning.parts (range_with_len begins searched.left) ≡ more →
      Continues (meaning.parts number) text more → IsTrueAnswer meaning number begins searched
  goes-on text more not is left goes = record { written = sym written; then = rw (not, is, left) goes }

pub answers-are-true : AnswersAreTrue
answers-are-true shop threshold budget node before more text came.Proved meaning number begins searched goes found
    written says =
    goes-on meaning number begins searched written (before ++ text) more says.1 says.0 says.2
    (proved-goes-on shop threshold budget node before text (meaning.parts number) more goes found)
answers-are-true shop threshold budget node before more text (came.Below sequence makespan) meaning number begins
    searched goes found written says =
    let here : List Visit = met_at shop threshold node in
    reaches meaning number begins searched written says.1
    (goes.0 ∙ ap (λ t. before ++ t) (signs-append-reached here more sequence found.0.0 ∙ sym found.1) ∙ sym says.0)
    (goes.1 ∙ first_reached-append-reached here more sequence found.0.0 ∙ ap Some (sym says.2))
answers-are-true shop threshold budget node before more text (came.Rest parts) meaning number begins searched goes found
    written says =
    let here : List Visit = met_at shop threshold node in
    let left : List Visit = parts_visits shop threshold parts.items in
    goes-on meaning number begins searched written (before ++ text) (left ++ more) says.1 says.0 says.2
    (continues-on (meaning.parts number) before text (here ++ more) (left ++ more) goes
    (continues-before here left more text found.2))
