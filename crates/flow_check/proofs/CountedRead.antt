-- How the count and the last line of a counted certificate are read.
use Rattle.std.proofs.Common.{◌≡◌, ◌≢◌, ◌⊎◌, ℕ, ◌<◌, ◌≤◌, ◌^◌, cond, nat_eq, nat_le, Bool, true, false, List, []}
use Rattle.std.proofs.Common.{◌++◌, Option, Some, None, Result, Ok, Err, MatchResult, refl, ap, sym, ◌∙◌, inl, inr}
use Rattle.std.proofs.Common.{arith}
use Rattle.std.specs.Fmt.{decimal}
use Rattle.std.specs.Option.{option_map_or}
use Rattle.std.specs.Str.{bytes_eq}
use Rattle.std.specs.Cmp.Lexicographic.{bytes_decides}
use Rattle.std.proofs.lemmas.Bool.{cases_Bool, eqb-true, eqb-false, eq-eqb, ne_eqb, leb-true, leb-false, le-leb, lt-leb}
use Rattle.std.proofs.lemmas.Bool.{false≢true}
use Rattle.std.proofs.lemmas.Option.{none-some}
use Rattle.flow_shop.specs.Shop.{Shop}
use Rattle.flow_directions.specs.Search.{first_below}
use Rattle.flow_check.specs.TextLines.{line, ending}
use Rattle.flow_check.specs.Counted.{nodes_below, OpensInAll}
use Rattle.flow_check.specs.CountedFaults.{StartsWithCount, HasSearchFault, HasCountFault}
use Rattle.flow_check.specs.Judged.{IsJudgedBy}
use Rattle.flow_check.specs.internal.Reading.{value_of, numbers_in}
use Rattle.flow_check.specs.declared.fault.CheckFault.{CheckFault}
use Rattle.flow_check.specs.declared.fault.CheckFault.TheVariants.{Value, Most, Tree, Low, End}
use Rattle.flow_check.proofs.ExactLines.{value-plain, value-known, value-text}
use Rattle.flow_check.proofs.LineReading.{Exact, nothing, missed, other-bytes, IsOfWords, at_line, HasLine}
use Rattle.flow_check.proofs.LineReading.{line-exact}
use Rattle.flow_check.proofs.FourLinesReading.{judge-step, judge-test}
use Rattle.flow_check.proofs.Judged.{by-reading}

-- the count of a line

abbrev IsInRange : ℕ → Type 0
IsInRange count = count < 2 ^ 64

abbrev count_in : List ℕ → Option ℕ
count_in word = value_of (numbers_in word)

abbrev pub count_at : List ℕ → Option (ℕ × List ℕ)
count_at text = at_line count_in decimal IsInRange text

abbrev HasCount : List ℕ → ℕ × List ℕ → Type 0
HasCount text r = HasLine count_in decimal IsInRange text r

count-words : IsOfWords count_in decimal IsInRange
count-words = record { plain = value-plain; known = value-known; text = value-text }

pub count-exact : (text : List ℕ) → Exact (HasCount text) (count_at text)
count-exact text = line-exact count_in decimal IsInRange count-words text

-- a text is the line of the count of the search below a threshold, which is allowed, and the last line
pub record EndsCounted (shop : Shop) (most threshold : ℕ) (text : List ℕ) : Type 0 where
  pub count : ℕ
  pub fits : count < 2 ^ 64
  pub allowed : count ≤ most
  pub opens : OpensInAll shop threshold count
  pub lines : text ≡ line (decimal count) ++ line ending

-- the lines, from the last one on

abbrev Read : Type 0
Read = Result (Unit {0}) CheckFault

abbrev from_last : List ℕ → Read
from_last rest = cond (bytes_eq rest (line ending)) (Ok tt) (Err End)

-- where the search meets this, and opens so many nodes before
abbrev from_search : Option (List ℕ) → ℕ → ℕ × List ℕ → Read
from_search None nodes r = cond (nat_eq nodes r.0) (from_last r.1) (Err (Tree 5))
from_search (Some reached) nodes r = cond (nat_le nodes r.0) (Err (Low 5)) (Err (Tree 5))

abbrev from_count : Shop → ℕ → ℕ → ℕ × List ℕ → Read
from_count shop most threshold r =
    cond (nat_le r.0 most) (from_search (first_below shop threshold [] []) (nodes_below shop threshold) r) (Err Most)

abbrev count_of : Shop → ℕ → ℕ → List ℕ → Read
count_of shop most threshold text = option_map_or (from_count shop most threshold) (count_at text) (Err Value)

module _ (shop : Shop) (most threshold : ℕ) (text : List ℕ) where
  -- what is read is what stands there

  abbrev Lawful : Unit {0} → Type 0
  Lawful read = EndsCounted shop most threshold text

  abbrev Fails : CheckFault → Type 0
  Fails fault = HasCountFault shop most threshold text fault

  module _ (count : ℕ) (rest : List ℕ) (starts : StartsWithCount text count rest) (allowed : count ≤ most) where
    searched : (fault : CheckFault) → HasSearchFault shop threshold count fault → Fails fault
    searched fault bad = inr (count, rest, starts, inr (inl (allowed, bad)))

    last-judged : OpensInAll shop threshold count → MatchResult (from_last rest) Lawful Fails
    last-judged opens =
        judge-test Lawful Fails End (Ok tt) (bytes_eq rest (line ending))
        (λ other. inr (
          count,
          rest,
          starts,
          inr (inr (
            refl,
            allowed,
            opens,
            λ same. false≢true (sym other ∙ (bytes_decides rest (line ending)).1 same),
          )),
        ))
        (λ same. record {
          count = count;
          fits = starts.fits;
          allowed = allowed;
          opens = opens;
          lines = starts.line_is ∙ ap (λ xs. line (decimal count) ++ xs) ((bytes_decides rest (line ending)).0 same);
        })

    apart : (nodes : ℕ) → (nodes ≡ count → ⊥) → (count < nodes) ⊎ (nodes < count)
    apart nodes other = elim (cases_Bool (nat_le nodes count)) [
      | inl within ↦
          let below : nodes ≤ count = leb-true nodes count within in
          inr (omega (arith, other))
      | inr above ↦ inl (leb-false nodes count above)
    ]

    other-nodes : first_below shop threshold [] [] ≡ None →
        (count < nodes_below shop threshold) ⊎ (nodes_below shop threshold < count) → Fails (Tree 5)
    other-nodes none (inl more) = searched (Tree 5) (inl (refl, inl more))
    other-nodes none (inr fewer) = searched (Tree 5) (inl (refl, inr (none, fewer)))

    reached-judged : (reached : List ℕ) → first_below shop threshold [] [] ≡ Some reached → (b : Bool) →
        nat_le (nodes_below shop threshold) count ≡ b →
        MatchResult (cond b (Err (Low 5)) (Err (Tree 5))) Lawful Fails
    reached-judged reached found true e = searched (Low 5) (inr (
      refl,
      (λ none. none-some reached (sym none ∙ found), leb-true (nodes_below shop threshold) count e),
    ))
    reached-judged reached found false e =
        searched (Tree 5) (inl (refl, inl (leb-false (nodes_below shop threshold) count e)))

    search-judged : (o : Option (List ℕ)) → first_below shop threshold [] [] ≡ o →
        MatchResult (from_search o (nodes_below shop threshold) (count, rest)) Lawful Fails
    search-judged None none =
        judge-test Lawful Fails (Tree 5) (from_last rest) (nat_eq (nodes_below shop threshold) count)
        (λ other. other-nodes none
        (apart (nodes_below shop threshold) (eqb-false (nodes_below shop threshold) count other)))
        (λ same. last-judged
        (record { none = none; nodes = eqb-true (nodes_below shop threshold) count same }))
    search-judged (Some reached) found =
        reached-judged reached found (nat_le (nodes_below shop threshold) count) refl

  count-judged : MatchResult (count_of shop most threshold text) Lawful Fails
  count-judged =
      judge-step Lawful Fails Value (from_count shop most threshold) (count_at text)
      (λ none. inl (
        refl,
        λ count fits begins.
            missed (HasCount text) (count_at text) (count-exact text) none (count, begins.0) (fits, begins.1),
      ))
      (λ r found.
      let has = (count-exact text).found r found in
      let starts : StartsWithCount text r.0 r.1 = record { fits = has.0; line_is = has.1 } in
      judge-test Lawful Fails Most
      (from_search (first_below shop threshold [] []) (nodes_below shop threshold) r) (nat_le r.0 most)
      (λ more. inr (r.0, r.1, starts, inl (refl, leb-false r.0 most more)))
      (λ within. search-judged r.0 r.1 starts (leb-true r.0 most within) (first_below shop threshold [] []) refl))

  -- what stands there is read

  abbrev refuse : CheckFault → Read
  refuse fault = Err fault

  upto-count : (count : ℕ) (rest : List ℕ) → StartsWithCount text count rest →
      count_of shop most threshold text ≡ from_count shop most threshold (count, rest)
  upto-count count rest starts =
      ap (λ o. option_map_or (from_count shop most threshold) o (Err Value))
      ((count-exact text).only (count, rest) (starts.fits, starts.line_is))

  upto-search : (count : ℕ) (rest : List ℕ) → StartsWithCount text count rest → count ≤ most →
      (o : Option (List ℕ)) → first_below shop threshold [] [] ≡ o →
      count_of shop most threshold text ≡ from_search o (nodes_below shop threshold) (count, rest)
  upto-search count rest starts allowed o e =
      upto-count count rest starts
      ∙ ap (λ b. cond b (from_search (first_below shop threshold [] []) (nodes_below shop threshold) (count, rest))
      (Err Most)) (le-leb count most allowed)
      ∙ ap (λ found. from_search found (nodes_below shop threshold) (count, rest)) e

  upto-last : (count : ℕ) (rest : List ℕ) → StartsWithCount text count rest → count ≤ most →
      OpensInAll shop threshold count → count_of shop most threshold text ≡ from_last rest
  upto-last count rest starts allowed opens =
      upto-search count rest starts allowed None opens.none
      ∙ ap (λ b. cond b (from_last rest) (Err (Tree 5))) (eq-eqb (nodes_below shop threshold) count opens.nodes)

  lawful-read : EndsCounted shop most threshold text → count_of shop most threshold text ≡ Ok tt
  lawful-read ends =
      upto-last ends.count (line ending) (record { fits = ends.fits; line_is = ends.lines }) ends.allowed ends.opens
      ∙ ap (λ b. cond b (Ok tt) (refuse End)) ((bytes_decides (line ending) (line ending)).1 refl)

  more-read : (count : ℕ) (rest : List ℕ) (o : Option (List ℕ)) → count < nodes_below shop threshold →
      from_search o (nodes_below shop threshold) (count, rest) ≡ Err (Tree 5)
  more-read count rest None more =
      ap (λ b. cond b (from_last rest) (Err (Tree 5)))
      (ne_eqb (nodes_below shop threshold) count (λ same. omega (arith, same, more)))
  more-read count rest (Some reached) more =
      ap (λ b. cond b (refuse (Low 5)) (Err (Tree 5))) (lt-leb (nodes_below shop threshold) count more)

  low-read : (count : ℕ) (rest : List ℕ) (o : Option (List ℕ)) → o ≢ None → nodes_below shop threshold ≤ count →
      from_search o (nodes_below shop threshold) (count, rest) ≡ Err (Low 5)
  low-read count rest None some within = absurd (some refl)
  low-read count rest (Some reached) some within =
      ap (λ b. cond b (refuse (Low 5)) (Err (Tree 5))) (le-leb (nodes_below shop threshold) count within)

  search-read : (count : ℕ) (rest : List ℕ) (fault : CheckFault) → StartsWithCount text count rest → count ≤ most →
      HasSearchFault shop threshold count fault → count_of shop most threshold text ≡ Err fault
  search-read count rest fault starts allowed (inl (is, inl more)) =
      upto-search count rest starts allowed (first_below shop threshold [] []) refl
      ∙ more-read count rest (first_below shop threshold [] []) more
      ∙ ap refuse (sym is)
  search-read count rest fault starts allowed (inl (is, inr (none, fewer))) =
      upto-search count rest starts allowed None none
      ∙ ap (λ b. cond b (from_last rest) (Err (Tree 5)))
      (ne_eqb (nodes_below shop threshold) count (λ same. omega (arith, same, fewer)))
      ∙ ap refuse (sym is)
  search-read count rest fault starts allowed (inr (is, (some, within))) =
      upto-search count rest starts allowed (first_below shop threshold [] []) refl
      ∙ low-read count rest (first_below shop threshold [] []) some within
      ∙ ap refuse (sym is)

  fault-read : (fault : CheckFault) → HasCountFault shop most threshold text fault →
      count_of shop most threshold text ≡ Err fault
  fault-read fault (inl (is, none)) =
      ap (λ o. option_map_or (from_count shop most threshold) o (Err Value))
      (nothing (HasCount text) (count_at text) (count-exact text) (λ r has. none r.0 has.0 (r.1, has.1)))
      ∙ ap refuse (sym is)
  fault-read fault (inr (count, rest, starts, inl (is, more))) =
      upto-count count rest starts
      ∙ ap (λ b. cond b (from_search (first_below shop threshold [] []) (nodes_below shop threshold) (count, rest))
      (Err Most)) (lt-leb count most more)
      ∙ ap refuse (sym is)
  fault-read fault (inr (count, rest, starts, inr (inl (allowed, bad)))) =
      search-read count rest fault starts allowed bad
  fault-read fault (inr (count, rest, starts, inr (inr (is, allowed, opens, other)))) =
      upto-last count rest starts allowed opens
      ∙ ap (λ b. cond b (Ok tt) (refuse End)) (other-bytes rest (line ending) other)
      ∙ ap refuse (sym is)

  pub count-is-judged :
      IsJudgedBy (EndsCounted shop most threshold text) (HasCountFault shop most threshold text)
  count-is-judged =
      by-reading (EndsCounted shop most threshold text) (HasCountFault shop most threshold text)
      (count_of shop most threshold text) count-judged (λ ends. (tt, lawful-read ends)) fault-read
