-- How the first four lines of a text are read, line by line: to what they state, or to their first fault.
use Rattle.std.proofs.Common.{◌≡◌, ℕ, cond, nat_eq, Bool, true, false, List, [], ◌∷◌, ◌++◌, Option, Some, None, Result}
use Rattle.std.proofs.Common.{Ok, Err, MatchResult, refl, ap, sym, ◌∙◌, append_assoc, arith}
use Rattle.std.specs.Option.{option_map_or}
use Rattle.std.proofs.lemmas.Bool.{eqb-true, eq-eqb, ne_eqb, false≢true}
use Rattle.std.proofs.lemmas.Option.{none-some, same_Some}
use Rattle.flow_shop.specs.Shop.{Shop, IsWithinLimits}
use Rattle.flow_shop.specs.Paths.{span}
use Rattle.flow_shop.specs.Sequences.{IsSequence}
use Rattle.flow_shop.specs.SequenceFaults.{sequence_fault}
use Rattle.flow_shop.specs.declared.sequence.SequenceFault.{SequenceFault}
use Rattle.flow_shop.proofs.SequenceLemmas.{sequence-fault-none-is, is-fault-none}
use Rattle.flow_check.specs.TextLines.{line, spaced}
use Rattle.flow_check.specs.FourLines.{size_lines, bounds_lines, sequence_lines, AreInRange}
use Rattle.flow_check.specs.FourLinesFaults.{HasFourLines, FailsWithinFour}
use Rattle.flow_check.specs.internal.Reading.{numbers_in}
use Rattle.flow_check.specs.declared.bounds.Bounds.{Bounds}
use Rattle.flow_check.specs.declared.fault.CheckFault.{CheckFault}
use Rattle.flow_check.specs.declared.fault.CheckFault.TheVariants.{Memory, Header, Size, Value, Sequence, NotAttained}
use Rattle.flow_check.specs.declared.fault.CheckFault.TheVariants.{Most, Tree, Weak, Low, End}
use Rattle.flow_check.proofs.Numbers.{numbers-sound, spaced-plain}
use Rattle.flow_check.proofs.Exact.{numbers-whole, sequence-fit}
use Rattle.flow_check.proofs.BoundsLine.{numbers_of, bounds_of, bounds-plain, bounds-known, bounds-text}
use Rattle.flow_check.proofs.TextBegins.{inner, outer}
use Rattle.flow_check.proofs.LineReading.{Exact, nothing, missed, strip, strip-exact, IsOfWords, at_line, HasLine}
use Rattle.flow_check.proofs.LineReading.{line-exact}

-- the bounds of a line

abbrev bounds_in : List ℕ → Option Bounds
bounds_in word = bounds_of (numbers_in word)

abbrev bounds_words : Bounds → List ℕ
bounds_words bounds = spaced (numbers_of bounds)

abbrev bounds_at : List ℕ → Option (Bounds × List ℕ)
bounds_at text = at_line bounds_in bounds_words AreInRange text

abbrev HasBounds : List ℕ → Bounds × List ℕ → Type 0
HasBounds text r = HasLine bounds_in bounds_words AreInRange text r

bounds-words : IsOfWords bounds_in bounds_words AreInRange
bounds-words = record { plain = bounds-plain; known = bounds-known; text = bounds-text }

bounds-exact : (text : List ℕ) → Exact (HasBounds text) (bounds_at text)
bounds-exact text = line-exact bounds_in bounds_words AreInRange bounds-words text

-- the sequence of a line

abbrev sequence_if : List ℕ → Option SequenceFault → Option (List ℕ)
sequence_if jobs None = Some jobs
sequence_if jobs (Some fault) = None

abbrev sequence_of : Shop → Option (List ℕ) → Option (List ℕ)
sequence_of shop None = None
sequence_of shop (Some jobs) = sequence_if jobs (sequence_fault shop.jobs jobs)

abbrev sequence_in : Shop → List ℕ → Option (List ℕ)
sequence_in shop word = sequence_of shop (numbers_in word)

abbrev sequence_at : Shop → List ℕ → Option (List ℕ × List ℕ)
sequence_at shop text = at_line (sequence_in shop) spaced (IsSequence shop.jobs) text

abbrev StartsSequence : Shop → List ℕ → List ℕ × List ℕ → Type 0
StartsSequence shop text r = HasLine (sequence_in shop) spaced (IsSequence shop.jobs) text r

module _ (shop : Shop) (limits : IsWithinLimits shop) where
  if-text : (word read jobs : List ℕ) (f : Option SequenceFault) → numbers_in word ≡ Some read →
      sequence_fault shop.jobs read ≡ f → sequence_if read f ≡ Some jobs →
      IsSequence shop.jobs jobs × (word ≡ spaced jobs)
  if-text word read jobs (Some fault) known sound e = absurd (none-some jobs e)
  if-text word read jobs None known sound e =
      let same : read ≡ jobs = same_Some read jobs e in
      let whole : IsSequence shop.jobs jobs =
      sequence-fault-none-is shop.jobs jobs (ap (sequence_fault shop.jobs) (sym same) ∙ sound) in (
        whole,
        numbers-sound word jobs (known ∙ ap (λ (ns : List ℕ). Some ns) same)
            (sequence-fit shop.jobs jobs limits.jobs whole),
      )

  of-text : (word jobs : List ℕ) (o : Option (List ℕ)) → numbers_in word ≡ o → sequence_of shop o ≡ Some jobs →
      IsSequence shop.jobs jobs × (word ≡ spaced jobs)
  of-text word jobs None known e = absurd (none-some jobs e)
  of-text word jobs (Some read) known e =
      if-text word read jobs (sequence_fault shop.jobs read) known refl e

  sequence-words : IsOfWords (sequence_in shop) spaced (IsSequence shop.jobs)
  sequence-words = record {
    plain = λ jobs is. spaced-plain jobs (sequence-fit shop.jobs jobs limits.jobs is);
    known = λ jobs is.
        ap (sequence_of shop) (numbers-whole jobs (omega (arith, is.whole, limits.some_job))
        (sequence-fit shop.jobs jobs limits.jobs is))
        ∙ ap (sequence_if jobs) (is-fault-none shop.jobs jobs is);
    text = λ word jobs e. of-text word jobs (numbers_in word) refl e;
  }

  sequence-exact : (text : List ℕ) → Exact (StartsSequence shop text) (sequence_at shop text)
  sequence-exact text = line-exact (sequence_in shop) spaced (IsSequence shop.jobs) sequence-words text

-- the lines, from the last one on

-- what the lines state, and the text behind them
abbrev pub Four : Type 0
Four = Bounds × List ℕ × List ℕ

abbrev from_makespan : Shop → Bounds → List ℕ × List ℕ → Result Four CheckFault
from_makespan shop bounds r = cond (nat_eq (span shop r.0) bounds.upper) (Ok (bounds, r.0, r.1)) (Err NotAttained)

abbrev from_sequence : Shop → Bounds → List ℕ → Result Four CheckFault
from_sequence shop bounds text = option_map_or (from_makespan shop bounds) (sequence_at shop text) (Err Sequence)

abbrev from_bounds : Shop → List ℕ → Result Four CheckFault
from_bounds shop text = option_map_or (λ r. from_sequence shop r.0 r.1) (bounds_at text) (Err Value)

abbrev size_line : Shop → List ℕ
size_line shop = line (spaced (shop.jobs ∷ shop.machines ∷ []))

abbrev from_size : Shop → List ℕ → Result Four CheckFault
from_size shop text = option_map_or (from_bounds shop) (strip (size_line shop) text) (Err Size)

-- what four lines state, or their first fault
unfoldable pub four_of : List ℕ → Shop → List ℕ → Result Four CheckFault
four_of title shop text = option_map_or (from_size shop) (strip title text) (Err Header)

-- a step of the reading that fails, or goes on

pub judge-step : {R A : Type 0} (P : A → Type 0) (Q : CheckFault → Type 0) (fault : CheckFault)
    (next : R → Result A CheckFault) (o : Option R) → (o ≡ None → Q fault) →
    ((found : R) → o ≡ Some found → MatchResult (next found) P Q) →
    MatchResult (option_map_or next o (Err fault)) P Q
judge-step P Q fault next None none some = none refl
judge-step P Q fault next (Some found) none some = some found refl

pub judge-test : {A : Type 0} (P : A → Type 0) (Q : CheckFault → Type 0) (fault : CheckFault)
    (next : Result A CheckFault) (b : Bool) → (b ≡ false → Q fault) → (b ≡ true → MatchResult next P Q) →
    MatchResult (cond b next (Err fault)) P Q
judge-test P Q fault next true none some = some refl
judge-test P Q fault next false none some = none refl

module _ (title : List ℕ) (shop : Shop) (text : List ℕ) (limits : IsWithinLimits shop) where
  -- what is read is what stands there

  abbrev States : Four → Type 0
  States four = HasFourLines title shop text four.0 four.1 four.2

  abbrev Fails : CheckFault → Type 0
  Fails fault = FailsWithinFour title shop text fault

  makespan-judged : (bounds : Bounds) (r : List ℕ × List ℕ) → AreInRange bounds → IsSequence shop.jobs r.0 →
      text ≡ sequence_lines title shop bounds r.0 ++ r.1 → MatchResult (from_makespan shop bounds r) States Fails
  makespan-judged bounds r fit whole e =
      judge-test States Fails NotAttained (Ok (bounds, r.0, r.1)) (nat_eq (span shop r.0) bounds.upper)
      (λ other. record {
        bounds = bounds;
        sequence = r.0;
        fit = fit;
        whole = whole;
        begins = (r.1, e);
        other = λ same. false≢true (sym other ∙ eq-eqb (span shop r.0) bounds.upper same);
      })
      (λ same. record {
        shown = record { fit = fit; whole = whole; attained = eqb-true (span shop r.0) bounds.upper same };
        lines = e;
      })

  sequence-judged : (bounds : Bounds) (rest : List ℕ) → AreInRange bounds →
      text ≡ bounds_lines title shop bounds ++ rest → MatchResult (from_sequence shop bounds rest) States Fails
  sequence-judged bounds rest fit e =
      let exact = sequence-exact shop limits rest in
      judge-step States Fails Sequence (from_makespan shop bounds) (sequence_at shop rest)
      (λ none. record {
        bounds = bounds;
        fit = fit;
        begins = (rest, e);
        none = λ sequence whole b. missed (StartsSequence shop rest) (sequence_at shop rest) exact none
            (sequence, b.0)
            (whole, inner text (bounds_lines title shop bounds) rest (line (spaced sequence)) b.0 e b.1);
      })
      (λ r found.
      let is = exact.found r found in
      makespan-judged bounds r fit is.0
      (outer text (bounds_lines title shop bounds) rest (line (spaced r.0)) r.1 e is.1))

  bounds-judged : (rest : List ℕ) → text ≡ size_lines title shop ++ rest →
      MatchResult (from_bounds shop rest) States Fails
  bounds-judged rest e =
      judge-step States Fails Value (λ r. from_sequence shop r.0 r.1) (bounds_at rest)
      (λ none. record {
        size = (rest, e);
        none = λ bounds fit b. missed (HasBounds rest) (bounds_at rest) (bounds-exact rest) none (bounds, b.0)
            (fit, inner text (size_lines title shop) rest (line (bounds_words bounds)) b.0 e b.1);
      })
      (λ r found.
      let is = (bounds-exact rest).found r found in
      sequence-judged r.0 r.1 is.0
      (outer text (size_lines title shop) rest (line (bounds_words r.0)) r.1 e is.1))

  size-judged : (rest : List ℕ) → text ≡ title ++ rest → MatchResult (from_size shop rest) States Fails
  size-judged rest e =
      let size : List ℕ = size_line shop in
      judge-step States Fails Size (from_bounds shop) (strip size rest)
      (λ none. record {
        titled = (rest, e);
        none = λ b. missed (λ r. rest ≡ size ++ r) (strip size rest) (strip-exact size rest) none b.0
            (inner text title rest size b.0 e b.1);
      })
      (λ r found. bounds-judged r (outer text title rest size r e ((strip-exact size rest).found r found)))

  pub four-judged : MatchResult (four_of title shop text) States Fails
  unfolding four_of
  four-judged =
      judge-step States Fails Header (from_size shop) (strip title text)
      (λ none b. missed (λ r. text ≡ title ++ r) (strip title text) (strip-exact title text) none b.0 b.1)
      (λ r found. size-judged r ((strip-exact title text).found r found))

  -- what stands there is read

  upto-title : (rest : List ℕ) → text ≡ title ++ rest → four_of title shop text ≡ from_size shop rest
  unfolding four_of
  upto-title rest e = ap (λ o. option_map_or (from_size shop) o (Err Header)) ((strip-exact title text).only rest e)

  upto-size : (rest : List ℕ) → text ≡ size_lines title shop ++ rest →
      four_of title shop text ≡ from_bounds shop rest
  upto-size rest e =
      let size : List ℕ = size_line shop in
      upto-title (size ++ rest) (e ∙ append_assoc title size rest)
      ∙ ap (λ o. option_map_or (from_bounds shop) o (Err Size)) ((strip-exact size (size ++ rest)).only rest refl)

  upto-bounds : (bounds : Bounds) (rest : List ℕ) → AreInRange bounds →
      text ≡ bounds_lines title shop bounds ++ rest → four_of title shop text ≡ from_sequence shop bounds rest
  upto-bounds bounds rest fit e =
      let third : List ℕ = line (bounds_words bounds) in
      upto-size (third ++ rest) (e ∙ append_assoc (size_lines title shop) third rest)
      ∙ ap (λ o. option_map_or (λ r. from_sequence shop r.0 r.1) o (Err Value))
      ((bounds-exact (third ++ rest)).only (bounds, rest) (fit, refl))

  upto-sequence : (bounds : Bounds) (sequence rest : List ℕ) → AreInRange bounds → IsSequence shop.jobs sequence →
      text ≡ sequence_lines title shop bounds sequence ++ rest →
      four_of title shop text ≡ from_makespan shop bounds (sequence, rest)
  upto-sequence bounds sequence rest fit whole e =
      let fourth : List ℕ = line (spaced sequence) in
      upto-bounds bounds (fourth ++ rest) fit (e ∙ append_assoc (bounds_lines title shop bounds) fourth rest)
      ∙ ap (λ o. option_map_or (from_makespan shop bounds) o (Err Sequence))
      ((sequence-exact shop limits (fourth ++ rest)).only (sequence, rest) (whole, refl))

  abbrev goes : Four → Result Four CheckFault
  goes four = Ok four

  pub four-read : (bounds : Bounds) (sequence rest : List ℕ) → HasFourLines title shop text bounds sequence rest →
      four_of title shop text ≡ Ok (bounds, sequence, rest)
  four-read bounds sequence rest four =
      upto-sequence bounds sequence rest four.shown.fit four.shown.whole four.lines
      ∙ ap (λ b. cond b (goes (bounds, sequence, rest)) (Err NotAttained))
      (eq-eqb (span shop sequence) bounds.upper four.shown.attained)

  pub four-fails : (fault : CheckFault) → FailsWithinFour title shop text fault → four_of title shop text ≡ Err fault
  unfolding four_of
  four-fails Header h =
      ap (λ o. option_map_or (from_size shop) o (Err Header))
      (nothing (λ rest. text ≡ title ++ rest) (strip title text) (strip-exact title text) (λ rest e. h (rest, e)))
  four-fails Size h =
      let size : List ℕ = size_line shop in
      let rest : List ℕ = h.titled.0 in
      upto-title rest h.titled.1
      ∙ ap (λ o. option_map_or (from_bounds shop) o (Err Size))
      (nothing (λ more. rest ≡ size ++ more) (strip size rest) (strip-exact size rest)
      (λ more e. h.none (more, outer text title rest size more h.titled.1 e)))
  four-fails Value h =
      let rest : List ℕ = h.size.0 in
      upto-size rest h.size.1
      ∙ ap (λ o. option_map_or (λ r. from_sequence shop r.0 r.1) o (Err Value))
      (nothing (HasBounds rest) (bounds_at rest) (bounds-exact rest) (λ r is. h.none r.0 is.0
      (r.1, outer text (size_lines title shop) rest (line (bounds_words r.0)) r.1 h.size.1 is.1)))
  four-fails Sequence h =
      let rest : List ℕ = h.begins.0 in
      upto-bounds h.bounds rest h.fit h.begins.1
      ∙ ap (λ o. option_map_or (from_makespan shop h.bounds) o (Err Sequence))
      (nothing (StartsSequence shop rest) (sequence_at shop rest) (sequence-exact shop limits rest) (λ r is.
      h.none r.0 is.0
      (r.1, outer text (bounds_lines title shop h.bounds) rest (line (spaced r.0)) r.1 h.begins.1 is.1)))
  four-fails NotAttained h =
      upto-sequence h.bounds h.sequence h.begins.0 h.fit h.whole h.begins.1
      ∙ ap (λ b. cond b (goes (h.bounds, h.sequence, h.begins.0)) (Err NotAttained))
      (ne_eqb (span shop h.sequence) h.bounds.upper h.other)
  four-fails Memory h = absurd h
  four-fails Most h = absurd h
  four-fails (Tree place) h = absurd h
  four-fails (Weak place) h = absurd h
  four-fails (Low place) h = absurd h
  four-fails End h = absurd h
