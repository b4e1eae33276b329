-- What the lines before a line decide, and the fault of the next line by it.
use Rattle.std.proofs.Common.{◌≡◌, ◌∙◌, ap, subst, ◌<◌, ◌+◌, ◌*◌, ◌%◌, ℕ, Bool, true, false, not, cond, eqb, nat_lt}
use Rattle.std.proofs.Common.{nat_le, List, Option, Some, None, Ok, Err, Result, ◌++◌, ◌∷◌, [], length, slice_index}
use Rattle.std.proofs.Common.{arith, refl, append-nil}
use Rattle.std.proofs.lemmas.Bool.Decides.{nat_tests}
use Rattle.flow_shop.specs.Refusals.{fault_unless, first_fault}
use Rattle.flow_text.specs.Lines.{after_blanks, is_blank, is_blank_line, is_label_line, is_plain}
use Rattle.flow_text.specs.Lines.{numbers_of, are_small}
use Rattle.flow_text.specs.TextFaults.{labels, numbers_since, numbers_between, is_in_head, numbers_wanted, is_head}
use Rattle.flow_text.specs.TextFaults.{are_times, line_fault, end_fault}
use Rattle.flow_text.specs.internal.TextWalk.{at_line}
use Rattle.flow_text.specs.internal.TextState.{State, sizes_of}
use Rattle.flow_text.specs.declared.text.fault.LineFault.{LineFault}
use Rattle.flow_text.specs.declared.text.fault.TextFault.{TextFault}
use Rattle.flow_text.specs.declared.text.fault.TextFault.TheVariants as text
use Rattle.flow_text.specs.declared.text.progress.Want.TheVariants.{FirstLabel, HeadNumbers, SecondLabel, Times}
use Rattle.flow_text.proofs.NumberLemmas.{numbers_after, numbers_of-after}

-- what the lines before decide, by its parts
pub record Facts (earlier : List (List ℕ)) (odd none : Bool) (since : List ℕ) (wanted : ℕ) : Type 0 where
  pub odd_is : is_in_head earlier ≡ odd
  pub none_is : eqb (labels earlier) 0 ≡ none
  pub since_is : numbers_since earlier ≡ since
  pub wanted_is : numbers_wanted earlier ≡ wanted

pub record FirstTracks (s : State) (e : List (List ℕ)) : Type 0 where
  pub since : List ℕ
  pub facts : Facts e false (eqb (length s.blocks) 0) since (length since)

pub record HeadTracks (s : State) (e : List (List ℕ)) : Type 0 where
  pub facts : Facts e true false s.numbers 5
  pub fewer : length s.numbers < 5

pub record SecondTracks (s : State) (e : List (List ℕ)) : Type 0 where
  pub since : List ℕ
  pub facts : Facts e true false since 5
  pub five : length since ≡ 5
  pub head : sizes_of since ≡ s.head
  pub some : 0 < s.head.jobs * s.head.machines

pub record TimesTracks (s : State) (e : List (List ℕ)) : Type 0 where
  pub facts : Facts e false false s.numbers (s.head.jobs * s.head.machines)
  pub fewer : length s.numbers < s.head.jobs * s.head.machines

-- a state is what the lines before it decide
abbrev pub Tracks : State → List (List ℕ) → Type 0
Tracks s e = elim s.want [
  | FirstLabel ↦ FirstTracks s e
  | HeadNumbers ↦ HeadTracks s e
  | SecondLabel ↦ SecondTracks s e
  | Times ↦ TimesTracks s e
]

-- the fault of a line, of the parts of what the lines before decide
abbrev limits_kept : Bool → List ℕ → List ℕ → Bool
limits_kept odd since new =
    cond (not odd) (are_times new) (cond (eqb (length (since ++ new)) 5) (is_head (since ++ new)) true)

abbrev pub numbers_fault_at : ℕ → Bool → List ℕ → ℕ → List ℕ → Option TextFault
numbers_fault_at n odd since wanted l = first_fault (
    fault_unless (is_plain l) (text.Byte n)
    ∷ fault_unless (are_small (numbers_of l)) (text.Number n)
    ∷ fault_unless (nat_le (length (since ++ numbers_of l)) wanted) (cond odd (text.Head n) (text.Times n))
    ∷ fault_unless (limits_kept odd since (numbers_of l)) (text.Limits n)
    ∷ [])

abbrev label_fault_at : ℕ → Bool → List ℕ → ℕ → Option TextFault
label_fault_at n odd since wanted =
    fault_unless (not (nat_lt (length since) wanted)) (cond odd (text.Head n) (text.Times n))

abbrev number_fault_at : ℕ → Bool → List ℕ → ℕ → List ℕ → Option TextFault
number_fault_at n odd since wanted l =
    cond (nat_lt (length since) wanted) (numbers_fault_at n odd since wanted l) (Some (text.Label n))

abbrev fault_at : ℕ → Bool → List ℕ → ℕ → List ℕ → Option TextFault
fault_at n odd since wanted l =
    cond (is_blank_line l) None (cond (is_label_line l) (label_fault_at n odd since wanted)
    (number_fault_at n odd since wanted l))

abbrev pub end_fault_at : ℕ → Bool → Bool → List ℕ → ℕ → Option TextFault
end_fault_at n odd none since wanted = first_fault (
    fault_unless (not none) text.NoBlock
    ∷ fault_unless (not (nat_lt (length since) wanted)) (cond odd (text.Head n) (text.Times n))
    ∷ fault_unless (not odd) (text.Label n)
    ∷ [])

pub line_fault-at : (e : List (List ℕ)) (l : List ℕ) (odd none : Bool) (since : List ℕ) (wanted : ℕ) →
    Facts e odd none since wanted → line_fault e l ≡ fault_at (length e + 1) odd since wanted l
line_fault-at e l odd none since wanted f =
    ap (λ o. fault_at (length e + 1) o (numbers_since e) (numbers_wanted e) l) f.odd_is
    ∙ ap (λ s. fault_at (length e + 1) odd s (numbers_wanted e) l) f.since_is
    ∙ ap (λ w. fault_at (length e + 1) odd since w l) f.wanted_is

pub end_fault-at : (e : List (List ℕ)) (odd none : Bool) (since : List ℕ) (wanted : ℕ) → Facts e odd none since wanted →
    end_fault e ≡ end_fault_at (length e + 1) odd none since wanted
end_fault-at e odd none since wanted f =
    ap (λ o. end_fault_at (length e + 1) o (eqb (labels e) 0) (numbers_since e) (numbers_wanted e)) f.odd_is
    ∙ ap (λ z. end_fault_at (length e + 1) odd z (numbers_since e) (numbers_wanted e)) f.none_is
    ∙ ap (λ s. end_fault_at (length e + 1) odd none s (numbers_wanted e)) f.since_is
    ∙ ap (λ w. end_fault_at (length e + 1) odd none since w) f.wanted_is

-- how many numbers are wanted, of the labels and the numbers between the last two
abbrev wanted_of : ℕ → List ℕ → ℕ
wanted_of n between = cond (eqb n 0) 0 (cond (eqb (n % 2) 1) 5 (slice_index between 0 * slice_index between 1))

odd-more : (n : ℕ) (odd : Bool) → eqb (n % 2) 1 ≡ odd → eqb ((n + 1) % 2) 1 ≡ not odd
odd-more n true h = let was : n % 2 ≡ 1 = grind (arith, nat_tests) in let is : (n + 1) % 2 ≡ 0 = omega arith in
    grind (arith, nat_tests)
odd-more n false h = let was : n % 2 ≡ 0 = grind (arith, nat_tests) in let is : (n + 1) % 2 ≡ 1 = omega arith in
    grind (arith, nat_tests)

pub some-more : (n : ℕ) → eqb (n + 1) 0 ≡ false
some-more n = grind (arith, nat_tests)

labels-label : (e : List (List ℕ)) (l : List ℕ) → is_label_line l ≡ true → labels (l ∷ e) ≡ labels e + 1
labels-label e l p = ap (λ b. cond b (labels e + 1) (labels e)) p

labels-other : (e : List (List ℕ)) (l : List ℕ) → is_label_line l ≡ false → labels (l ∷ e) ≡ labels e
labels-other e l p = ap (λ b. cond b (labels e + 1) (labels e)) p

wanted-label : (n : ℕ) (odd : Bool) (between : List ℕ) → eqb (n % 2) 1 ≡ odd →
    wanted_of (n + 1) between ≡ cond (not odd) 5 (slice_index between 0 * slice_index between 1)
wanted-label n odd between p =
    ap (λ z. cond z 0 (cond (eqb ((n + 1) % 2) 1) 5 (slice_index between 0 * slice_index between 1))) (some-more n)
    ∙ ap (λ o. cond o 5 (slice_index between 0 * slice_index between 1)) (odd-more n odd p)

-- after one more label
pub facts-label : (e : List (List ℕ)) (l : List ℕ) (odd none : Bool) (since : List ℕ) (wanted : ℕ) →
    is_label_line l ≡ true → Facts e odd none since wanted →
    Facts (l ∷ e) (not odd) false [] (cond (not odd) 5 (slice_index since 0 * slice_index since 1))
facts-label e l odd none since wanted p f = record {
  odd_is = ap (λ n. eqb (n % 2) 1) (labels-label e l p) ∙ odd-more (labels e) odd f.odd_is;
  none_is = ap (λ n. eqb n 0) (labels-label e l p) ∙ some-more (labels e);
  since_is = ap (λ b. cond b [] (numbers_since e ++ numbers_of l)) p;
  wanted_is = ap (λ n. wanted_of n (numbers_between (l ∷ e))) (labels-label e l p)
      ∙ ap (wanted_of (labels e + 1)) (ap (λ b. cond b (numbers_since e) (numbers_between e)) p ∙ f.since_is)
      ∙ wanted-label (labels e) odd since f.odd_is;
}

-- after one more line that is no label
pub facts-other : (e : List (List ℕ)) (l : List ℕ) (odd none : Bool) (since : List ℕ) (wanted : ℕ) →
    is_label_line l ≡ false → Facts e odd none since wanted → Facts (l ∷ e) odd none (since ++ numbers_of l) wanted
facts-other e l odd none since wanted p f = record {
  odd_is = ap (λ n. eqb (n % 2) 1) (labels-other e l p) ∙ f.odd_is;
  none_is = ap (λ n. eqb n 0) (labels-other e l p) ∙ f.none_is;
  since_is = ap (λ b. cond b [] (numbers_since e ++ numbers_of l)) p ∙ ap (λ s. s ++ numbers_of l) f.since_is;
  wanted_is = ap (λ n. wanted_of n (numbers_between (l ∷ e))) (labels-other e l p)
      ∙ ap (wanted_of (labels e)) (ap (λ b. cond b (numbers_since e) (numbers_between e)) p)
      ∙ f.wanted_is;
}

-- a blank line has no numbers
blank-step : (b : ℕ) (l : List ℕ) (p : Bool) → is_blank b ≡ p → after_blanks (b ∷ l) ≡ [] →
    (after_blanks l ≡ [] → numbers_after None l ≡ []) → numbers_after None (b ∷ l) ≡ []
blank-step b l true q e more = rw q (more (rw q at e))
blank-step b l false q e more = let bad : b ∷ l ≡ [] = rw q at e in cc

blank-after : (l : List ℕ) → after_blanks l ≡ [] → numbers_after None l ≡ []
blank-after [] e = refl
blank-after (b ∷ l) e = blank-step b l (is_blank b) refl e (blank-after l)

blank-numbers : (l : List ℕ) → after_blanks l ≡ [] → numbers_of l ≡ []
blank-numbers l e = numbers_of-after l ∙ blank-after l e

pub facts-blank : (e : List (List ℕ)) (l : List ℕ) (odd none : Bool) (since : List ℕ) (wanted : ℕ) →
    after_blanks l ≡ [] → Facts e odd none since wanted → Facts (l ∷ e) odd none since wanted
facts-blank e l odd none since wanted p f =
    let more = facts-other e l odd none since wanted (rw (p, is_label_line) refl) f in
    let same : since ++ numbers_of l ≡ since = ap (λ x. since ++ x) (blank-numbers l p) ∙ append-nil since in
    let P : List ℕ → Type 0 = λ x. Facts (l ∷ e) odd none x wanted in
    subst P same more

-- the fault of what a line leads to
abbrev pub fault_in : ℕ → Result State LineFault → Option TextFault
fault_in n (Ok t) = None
fault_in n (Err d) = Some (at_line d n)

-- a line's fault is the reader's, and so is what is wanted after it
pub record Follows (e : List (List ℕ)) (l : List ℕ) (read : Result State LineFault) : Type 0 where
  pub fault : line_fault e l ≡ fault_in (length e + 1) read
  pub tracks : (t : State) → read ≡ Ok t → Tracks t (l ∷ e)

pub blank-at : (n : ℕ) (odd : Bool) (since : List ℕ) (wanted : ℕ) (l : List ℕ) → is_blank_line l ≡ true →
    fault_at n odd since wanted l ≡ None
blank-at n odd since wanted l p =
    ap (λ b. cond b None (cond (is_label_line l) (label_fault_at n odd since wanted)
    (number_fault_at n odd since wanted l))) p

pub label-at : (n : ℕ) (odd : Bool) (since : List ℕ) (wanted : ℕ) (l : List ℕ) → is_blank_line l ≡ false →
    is_label_line l ≡ true → fault_at n odd since wanted l ≡ label_fault_at n odd since wanted
label-at n odd since wanted l p q =
    ap (λ b. cond b None (cond (is_label_line l) (label_fault_at n odd since wanted)
    (number_fault_at n odd since wanted l))) p
    ∙ ap (λ b. cond b (label_fault_at n odd since wanted) (number_fault_at n odd since wanted l)) q

pub number-at : (n : ℕ) (odd : Bool) (since : List ℕ) (wanted : ℕ) (l : List ℕ) → is_blank_line l ≡ false →
    is_label_line l ≡ false → fault_at n odd since wanted l ≡ number_fault_at n odd since wanted l
number-at n odd since wanted l p q =
    ap (λ b. cond b None (cond (is_label_line l) (label_fault_at n odd since wanted)
    (number_fault_at n odd since wanted l))) p
    ∙ ap (λ b. cond b (label_fault_at n odd since wanted) (number_fault_at n odd since wanted l)) q

-- whether numbers are wanted
pub more-wanted : (n : ℕ) (odd : Bool) (since : List ℕ) (wanted : ℕ) → length since < wanted →
    label_fault_at n odd since wanted ≡ Some (cond odd (text.Head n) (text.Times n))
more-wanted n odd since wanted k =
    let p : nat_lt (length since) wanted ≡ true = grind (arith, nat_tests) in
    ap (λ b. fault_unless (not b) (cond odd (text.Head n) (text.Times n))) p

pub none-wanted : (n : ℕ) (odd : Bool) (since : List ℕ) (wanted : ℕ) → length since ≡ wanted →
    label_fault_at n odd since wanted ≡ None
none-wanted n odd since wanted k =
    let p : nat_lt (length since) wanted ≡ false = grind (arith, nat_tests) in
    ap (λ b. fault_unless (not b) (cond odd (text.Head n) (text.Times n))) p

pub number-wanted : (n : ℕ) (odd : Bool) (since : List ℕ) (wanted : ℕ) (l : List ℕ) → length since < wanted →
    number_fault_at n odd since wanted l ≡ numbers_fault_at n odd since wanted l
number-wanted n odd since wanted l k =
    let p : nat_lt (length since) wanted ≡ true = grind (arith, nat_tests) in
    ap (λ b. cond b (numbers_fault_at n odd since wanted l) (Some (text.Label n))) p

pub number-unwanted : (n : ℕ) (odd : Bool) (since : List ℕ) (wanted : ℕ) (l : List ℕ) → length since ≡ wanted →
    number_fault_at n odd since wanted l ≡ Some (text.Label n)
number-unwanted n odd since wanted l k =
    let p : nat_lt (length since) wanted ≡ false = grind (arith, nat_tests) in
    ap (λ b. cond b (numbers_fault_at n odd since wanted l) (Some (text.Label n))) p
