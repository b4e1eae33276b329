-- The laws of two-ended certificates: what they prove, that each states one, and that each text is judged.
use Rattle.std.proofs.Common.{◌≡◌, ℕ, cond, List, [], ◌∷◌, ◌++◌, Result, Ok, Err, refl, ap, sym, subst}
use Rattle.std.proofs.Common.{◌∙◌, inl, inr, append_assoc}
use Rattle.std.specs.Str.{bytes_eq}
use Rattle.std.specs.Cmp.Lexicographic.{bytes_decides}
use Rattle.flow_shop.specs.Characters.{line_feed}
use Rattle.flow_shop.specs.Shop.{Shop}
use Rattle.flow_shop.specs.Directions.{Proves}
use Rattle.flow_shop.proofs.DirectionsSound.{proved_is_lower_bound}
use Rattle.flow_shop.proofs.DirectionsOne.{directions_are_one}
use Rattle.flow_check.specs.TextLines.{line, ending}
use Rattle.flow_check.specs.FourLines.{sequence_lines}
use Rattle.flow_check.specs.FourLinesFaults.{HasFourLines}
use Rattle.flow_check.specs.Judged.{IsJudgedBy}
use Rattle.flow_check.specs.TwoEnded.{two_ended_title, IsTwoEnded, TwoEndedIsSound, TwoEndedStatesOne}
use Rattle.flow_check.specs.TwoEndedFaults.{HasLastFault, EachTwoEndedIsJudged}
use Rattle.flow_check.specs.declared.bounds.Bounds.{Bounds}
use Rattle.flow_check.specs.declared.fault.CheckFault.{CheckFault}
use Rattle.flow_check.specs.declared.fault.CheckFault.TheVariants.{End}
use Rattle.flow_check.proofs.TextBegins.{outer}
use Rattle.flow_check.proofs.DirectionsRead.{read-complete}
use Rattle.flow_check.proofs.DirectionFaults.{directions-fault}
use Rattle.flow_check.proofs.LineReading.{nothing, other-bytes, strip, strip-exact}
use Rattle.flow_check.proofs.Judged.{by-reading, in-words}
use Rattle.flow_check.proofs.JudgedBehind.{GoesOn, judged-behind, four-same}
use Rattle.flow_check.proofs.ProvedBounds.{proved-bounds}
use Rattle.flow_check.proofs.TwoEndedFound.{root-proves, EndsLawfully, last_of, ended, behind, last-judged}

-- what a text proves
pub two_ended_is_sound : TwoEndedIsSound
two_ended_is_sound shop bytes bounds sequence is =
    proved-bounds shop bounds sequence is.shows.upper
    (proved_is_lower_bound shop bounds.lower is.directions is.shows.proved)

-- the directions and the last line as they are read

module _ (shop : Shop) (threshold : ℕ) (text : List ℕ) where
  abbrev refuse : CheckFault → Result (Unit {0}) CheckFault
  refuse fault = Err fault

  abbrev all_read : Result (Unit {0}) CheckFault
  all_read = Ok tt

  upto-directions : (directions after : List ℕ) → text ≡ directions ++ after → Proves shop threshold directions →
      last_of shop threshold text ≡ ended (strip (line_feed ∷ []) after)
  upto-directions directions after is proved =
      ap (last_of shop threshold) is
      ∙ ap behind (read-complete shop threshold shop.jobs [] [] directions after
      (root-proves shop threshold directions proved))

  upto-line : (directions last : List ℕ) → text ≡ line directions ++ last → Proves shop threshold directions →
      last_of shop threshold text ≡ cond (bytes_eq last (line ending)) (Ok tt) (Err End)
  upto-line directions last is proved =
      upto-directions directions (line_feed ∷ last) (is ∙ append_assoc directions (line_feed ∷ []) last) proved
      ∙ ap ended ((strip-exact (line_feed ∷ []) (line_feed ∷ last)).only last refl)

  lawful-read : EndsLawfully shop threshold text → last_of shop threshold text ≡ all_read
  lawful-read (directions, proved, is) =
      upto-line directions (line ending) is proved
      ∙ ap (λ b. cond b all_read (Err End)) ((bytes_decides (line ending) (line ending)).1 refl)

  fault-read : (fault : CheckFault) → HasLastFault shop threshold text fault →
      last_of shop threshold text ≡ Err fault
  fault-read fault (inl bad) = ap behind (directions-fault shop threshold shop.jobs [] [] text fault bad)
  fault-read fault (inr (inl (is, line_on))) =
      upto-directions line_on.directions line_on.rest line_on.goes_on line_on.proved
      ∙ ap ended (nothing (λ last. line_on.rest ≡ line_feed ∷ last) (strip (line_feed ∷ []) line_on.rest)
      (strip-exact (line_feed ∷ []) line_on.rest) (λ last e. line_on.no_end (last, e)))
      ∙ ap refuse (sym is)
  fault-read fault (inr (inr (is, ends))) =
      upto-line ends.directions ends.rest ends.goes_on ends.proved
      ∙ ap (λ b. cond b all_read (Err End)) (other-bytes ends.rest (line ending) ends.other)
      ∙ ap refuse (sym is)

  ends-judged : IsJudgedBy (EndsLawfully shop threshold text) (HasLastFault shop threshold text)
  ends-judged =
      by-reading (EndsLawfully shop threshold text) (HasLastFault shop threshold text) (last_of shop threshold text)
      (last-judged shop threshold text) (λ law. (tt, lawful-read law)) fault-read

-- the laws

-- a lawful text has four lines, and ends lawfully
module _ (shop : Shop) (text : List ℕ) where
  pub four-of : (bounds : Bounds) (sequence : List ℕ) (is : IsTwoEnded shop text bounds sequence) →
      HasFourLines two_ended_title shop text bounds sequence (line is.directions ++ line ending)
  four-of bounds sequence is = record {
    shown = is.shows.upper;
    lines = is.text
        ∙ append_assoc (sequence_lines two_ended_title shop bounds sequence) (line is.directions) (line ending);
  }

  pub lawful-with : (bounds : Bounds) (sequence rest directions : List ℕ) →
      HasFourLines two_ended_title shop text bounds sequence rest → Proves shop bounds.lower directions →
      rest ≡ line directions ++ line ending → IsTwoEnded shop text bounds sequence
  lawful-with bounds sequence rest directions four proved is = record {
    directions = directions;
    shows = record { upper = four.shown; proved = proved };
    text = outer text (sequence_lines two_ended_title shop bounds sequence) rest (line directions) (line ending)
        four.lines is;
  }

pub each_two_ended_is_judged : EachTwoEndedIsJudged
each_two_ended_is_judged shop text limits =
    in-words (GoesOn two_ended_title shop text limits (EndsLawfully shop) (HasLastFault shop) (ends-judged shop)) _ _
    (λ on. (
      on.bounds,
      on.sequence,
      lawful-with shop text on.bounds on.sequence on.rest on.lawful.0 on.four
          on.lawful.1 on.lawful.2,
    ))
    (λ lawful. record {
      bounds = lawful.0;
      sequence = lawful.1;
      rest = line lawful.2.directions ++ line ending;
      four = four-of shop text lawful.0 lawful.1 lawful.2;
      lawful = (lawful.2.directions, lawful.2.shows.proved, refl);
    })
    (judged-behind two_ended_title shop text limits (EndsLawfully shop) (HasLastFault shop) (ends-judged shop))

pub two_ended_states_one : TwoEndedStatesOne
two_ended_states_one shop bytes bounds other sequence jobs limits one another =
    let last : List ℕ = line_feed ∷ line ending in
    let same = four-same two_ended_title shop bytes limits bounds other sequence jobs
    (line one.directions ++ line ending) (line another.directions ++ line ending)
    (four-of shop bytes bounds sequence one) (four-of shop bytes other jobs another) in
    let split = λ (own : List ℕ). append_assoc own (line_feed ∷ []) (line ending) in
    record {
      bounds_same = same.0;
      sequence_same = same.1;
      directions_same = (directions_are_one shop bounds.lower [] [] one.directions another.directions last last
          one.shows.proved
          (subst (λ (b : Bounds). Proves shop b.lower another.directions) (sym same.0) another.shows.proved)
          (sym (split one.directions) ∙ same.2 ∙ split another.directions)).0;
    }
