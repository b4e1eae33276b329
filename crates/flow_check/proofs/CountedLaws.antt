-- The laws of counted certificates: what they prove, that each states one, and that each text is judged.
use Rattle.std.proofs.Common.{◌≡◌, ℕ, ◌≤◌, ◌<◌, ◌^◌, List, [], ◌++◌, refl, ap, sym, subst, ◌∙◌, inl, inr}
use Rattle.std.proofs.Common.{append_assoc, arith}
use Rattle.std.specs.Fmt.{decimal}
use Rattle.std.proofs.lemmas.Option.{same_Some}
use Rattle.flow_shop.specs.Shop.{Shop}
use Rattle.flow_shop.specs.Sequences.{AreJobs}
use Rattle.flow_shop.proofs.DirectionsSound.{proved_is_lower_bound}
use Rattle.flow_directions.specs.Search.{directions_of}
use Rattle.flow_directions.proofs.SearchProves.{directions_prove}
use Rattle.flow_check.specs.TextLines.{line, ending}
use Rattle.flow_check.specs.FourLines.{sequence_lines}
use Rattle.flow_check.specs.FourLinesFaults.{HasFourLines}
use Rattle.flow_check.specs.Counted.{counted_title, OpensInAll, IsCountedText, CountedIsSound, CountedStatesOne}
use Rattle.flow_check.specs.CountedFaults.{HasCountFault, EachCountedIsJudged, AboveIsMost}
use Rattle.flow_check.specs.declared.bounds.Bounds.{Bounds}
use Rattle.flow_check.proofs.TextBegins.{outer}
use Rattle.flow_check.proofs.Judged.{in-words}
use Rattle.flow_check.proofs.JudgedBehind.{GoesOn, judged-behind, four-same}
use Rattle.flow_check.proofs.ProvedBounds.{proved-bounds}
use Rattle.flow_check.proofs.CountedRead.{count-exact, EndsCounted, count-is-judged}

no-jobs : (n : ℕ) → AreJobs n []
no-jobs n = record { range = λ k d h. absurd (omega (arith, h)); distinct = tt }

-- what a text proves
pub counted_is_sound : CountedIsSound
counted_is_sound shop bytes bounds sequence is =
    proved-bounds shop bounds sequence is.shows.upper
    (proved_is_lower_bound shop bounds.lower (directions_of shop bounds.lower [] [])
    (directions_prove shop bounds.lower [] [] (no-jobs shop.jobs) is.shows.opens.none))

-- a lawful text has four lines, a count and the last line

module _ (shop : Shop) (text : List ℕ) where
  four-of : (bounds : Bounds) (sequence : List ℕ) (is : IsCountedText shop text bounds sequence) →
      HasFourLines counted_title shop text bounds sequence (line (decimal is.count) ++ line ending)
  four-of bounds sequence is = record {
    shown = is.shows.upper;
    lines = is.text
        ∙ append_assoc (sequence_lines counted_title shop bounds sequence) (line (decimal is.count)) (line ending);
  }

  pub lawful-with : (bounds : Bounds) (sequence rest : List ℕ) (count : ℕ) →
      HasFourLines counted_title shop text bounds sequence rest → count < 2 ^ 64 →
      OpensInAll shop bounds.lower count → rest ≡ line (decimal count) ++ line ending →
      (own : IsCountedText shop text bounds sequence) × (own.count ≡ count)
  lawful-with bounds sequence rest count four fits opens is = (
    record {
      count = count;
      shows = record { upper = four.shown; fits = fits; opens = opens };
      text = outer text (sequence_lines counted_title shop bounds sequence) rest (line (decimal count)) (line ending)
          four.lines is;
    },
    refl,
  )

pub each_counted_is_judged : EachCountedIsJudged
each_counted_is_judged shop most text limits =
    in-words
    (GoesOn counted_title shop text limits (EndsCounted shop most) (HasCountFault shop most)
    (count-is-judged shop most))
    _ _
    (λ on.
    let own = lawful-with shop text on.bounds on.sequence on.rest on.lawful.count on.four on.lawful.fits
    on.lawful.opens on.lawful.lines in
    (on.bounds, on.sequence, own.0, subst (λ n. n ≤ most) (sym own.1) on.lawful.allowed))
    (λ lawful. record {
      bounds = lawful.0;
      sequence = lawful.1;
      rest = line (decimal lawful.2.count) ++ line ending;
      four = four-of shop text lawful.0 lawful.1 lawful.2;
      lawful = record {
        count = lawful.2.count;
        fits = lawful.2.shows.fits;
        allowed = lawful.3;
        opens = lawful.2.shows.opens;
        lines = refl;
      };
    })
    (judged-behind counted_title shop text limits (EndsCounted shop most) (HasCountFault shop most)
    (count-is-judged shop most))

pub above_is_most : AboveIsMost
above_is_most shop most text (bounds, sequence, is, above) =
    inr (record {
      bounds = bounds;
      sequence = sequence;
      rest = line (decimal is.count) ++ line ending;
      four = four-of shop text bounds sequence is;
      faulty = inr (
        is.count,
        line ending,
        record { fits = is.shows.fits; line_is = refl },
        inl (refl, above),
      );
    })

pub counted_states_one : CountedStatesOne
counted_states_one shop bytes bounds other sequence jobs limits one another =
    let rest : List ℕ = line (decimal one.count) ++ line ending in
    let same = four-same counted_title shop bytes limits bounds other sequence jobs rest
    (line (decimal another.count) ++ line ending) (four-of shop bytes bounds sequence one)
    (four-of shop bytes other jobs another) in
    let counts : (one.count, line ending) ≡ (another.count, line ending) =
    same_Some (one.count, line ending) (another.count, line ending)
    (sym ((count-exact rest).only (one.count, line ending) (one.shows.fits, refl))
    ∙ (count-exact rest).only (another.count, line ending) (another.shows.fits, same.2)) in
    (same.0, same.1, ap (λ (r : ℕ × List ℕ). r.0) counts)
