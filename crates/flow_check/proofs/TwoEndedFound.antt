-- What the directions and the last line of a two-ended certificate are read as: lawful, or their fault.
use Rattle.std.proofs.Common.{◌≡◌, ℕ, cond, List, [], ◌∷◌, ◌++◌, Option, Some, None, Result, Ok, Err, IfErr}
use Rattle.std.proofs.Common.{MatchResult, refl, ap, sym, subst, ◌∙◌, inl, inr}
use Rattle.std.specs.Str.{bytes_eq}
use Rattle.std.specs.Cmp.Lexicographic.{bytes_decides}
use Rattle.std.proofs.lemmas.Bool.{false≢true}
use Rattle.flow_shop.specs.Characters.{line_feed}
use Rattle.flow_shop.specs.Shop.{Shop}
use Rattle.flow_shop.specs.Directions.{Proves, ProvesWith}
use Rattle.flow_shop.proofs.JobsLeft.{none-has}
use Rattle.flow_check.specs.TextLines.{line, ending}
use Rattle.flow_check.specs.TwoEndedFaults.{HasDirectionsFault, HasLastFault}
use Rattle.flow_check.specs.internal.ReadDirections.{Reading, read_node}
use Rattle.flow_check.specs.declared.fault.CheckFault.{CheckFault}
use Rattle.flow_check.specs.declared.fault.CheckFault.TheVariants.{Tree, End}
use Rattle.flow_check.proofs.TextBegins.{outer}
use Rattle.flow_check.proofs.DirectionsRead.{read-sound}
use Rattle.flow_check.proofs.DirectionFaults.{directions-have}
use Rattle.flow_check.proofs.LineReading.{missed, strip, strip-exact}
use Rattle.flow_check.proofs.FourLinesReading.{judge-test}

-- directions that prove a threshold for the root do so with all jobs left

pub proves-root : (shop : Shop) (threshold : ℕ) (directions : List ℕ) →
    ProvesWith shop threshold shop.jobs [] [] directions → Proves shop threshold directions
proves-root shop threshold directions p =
    subst (λ left. ProvesWith shop threshold left [] [] directions) (sym (none-has shop.jobs)) p

pub root-proves : (shop : Shop) (threshold : ℕ) (directions : List ℕ) → Proves shop threshold directions →
    ProvesWith shop threshold shop.jobs [] [] directions
root-proves shop threshold directions p =
    subst (λ left. ProvesWith shop threshold left [] [] directions) (none-has shop.jobs) p

-- the end of the directions' line and the last line
abbrev pub ended : Option (List ℕ) → Result (Unit {0}) CheckFault
ended None = Err (Tree 5)
ended (Some last) = cond (bytes_eq last (line ending)) (Ok tt) (Err End)

abbrev pub behind : Reading → Result (Unit {0}) CheckFault
behind (Err fault) = Err fault
behind (Ok rest) = ended (strip (line_feed ∷ []) rest)

-- the directions that prove a threshold, and the last line
abbrev pub last_of : Shop → ℕ → List ℕ → Result (Unit {0}) CheckFault
last_of shop threshold text = behind (read_node shop threshold shop.jobs [] [] text)

-- a text is the line of directions that prove a threshold, and the last line
abbrev pub EndsLawfully : Shop → ℕ → List ℕ → Type 0
EndsLawfully shop threshold text =
    (directions : List ℕ) × Proves shop threshold directions × (text ≡ line directions ++ line ending)

module _ (shop : Shop) (threshold : ℕ) (text : List ℕ) where
  abbrev Lawful : Unit {0} → Type 0
  Lawful read = EndsLawfully shop threshold text

  abbrev Fails : CheckFault → Type 0
  Fails fault = HasLastFault shop threshold text fault

  end-judged : (directions after : List ℕ) → text ≡ directions ++ after → Proves shop threshold directions →
      (o : Option (List ℕ)) → strip (line_feed ∷ []) after ≡ o → MatchResult (ended o) Lawful Fails
  end-judged directions after is proved None none = inr (inl (
    refl,
    record {
      directions = directions;
      rest = after;
      goes_on = is;
      proved = proved;
      no_end = λ b. missed (λ last. after ≡ line_feed ∷ last) (strip (line_feed ∷ []) after)
          (strip-exact (line_feed ∷ []) after) none b.0 b.1;
    },
  ))
  end-judged directions after is proved (Some last) found =
      let more : after ≡ (line_feed ∷ []) ++ last = (strip-exact (line_feed ∷ []) after).found last found in
      let whole : text ≡ line directions ++ last = outer text directions after (line_feed ∷ []) last is more in
      judge-test Lawful Fails End (Ok tt) (bytes_eq last (line ending))
      (λ other. inr (inr (
        refl,
        record {
          directions = directions;
          rest = last;
          goes_on = whole;
          proved = proved;
          other = λ same. false≢true (sym other ∙ (bytes_decides last (line ending)).1 same);
        },
      )))
      (λ same. (
        directions,
        proved,
        whole ∙ ap (λ xs. line directions ++ xs) ((bytes_decides last (line ending)).0 same),
      ))

  read-judged : (r : Reading) → read_node shop threshold shop.jobs [] [] text ≡ r →
      IfErr r (λ fault. HasDirectionsFault shop threshold shop.jobs [] [] text fault) →
      MatchResult (behind r) Lawful Fails
  read-judged (Err fault) e bad = inl bad
  read-judged (Ok after) e bad =
      let read = read-sound shop threshold shop.jobs [] [] text after e in
      end-judged read.0 after read.1 (proves-root shop threshold read.0 read.2) (strip (line_feed ∷ []) after) refl

  pub last-judged : MatchResult (last_of shop threshold text) Lawful Fails
  last-judged =
      read-judged (read_node shop threshold shop.jobs [] [] text) refl
      (directions-have shop threshold shop.jobs [] [] text)
