-- A row of numbers reads as these numbers.
use Rattle.std.proofs.Common.{◌≡◌, ◌∙◌, ap, ◌<◌, ◌+◌, ◌-◌, ◌*◌, ◌^◌, ℕ, Bool, true, false, cond, eqb}
use Rattle.std.proofs.Common.{List, Some, None, ◌++◌, ◌∷◌, [], length, flat_map, decimal}
use Rattle.std.proofs.Common.{arith, rules, refl, append_assoc, ◌&&◌, ◌||◌}
use Rattle.std.specs.List.{list_all, AllByRecursion}
use Rattle.std.specs.Str.{all_ascii_digits}
use Rattle.std.specs.Char.{is_ascii_digit}
use Rattle.std.proofs.lemmas.Str.Parse.{IsNumeralModel, numerals_by_fold}
use Rattle.std.proofs.lemmas.Fmt.{digits_decimal, digits_value-decimal, decimal_nonempty}
use Rattle.std.proofs.lemmas.Bool.Decides.{nat_tests}
use Rattle.std.proofs.lemmas.List.Folds.{list_all-append}
use Rattle.flow_text.specs.Lines.{lines_of, after_blanks, is_digit, is_blank, numbers_of}
use Rattle.flow_text.specs.Lines.{is_number_line}
use Rattle.std.specs.List.{onto_first}
use Rattle.std.specs.Char.{digit_value}
use Rattle.std.proofs.lemmas.Bool.{and_parts}
use Rattle.flow_text.proofs.NumberLemmas.{numbers_after, numbers_of-after}
use Rattle.flow_text.specs.Written.{row_text}
use Rattle.flow_text.specs.Text.{IsNumbers}

abbrev read_on : ℕ → List ℕ → ℕ
read_on n [] = n
read_on n (c ∷ cs) = read_on (n * 10 + (c - 48)) cs

own : IsNumeralModel (λ ds. all_ascii_digits ds ≡ true) (read_on 0)
own = numerals_by_fold _ (search rules) read_on (search rules)

digit-no_blank : (c : ℕ) → is_ascii_digit c ≡ true → (is_blank c ≡ false) × (is_digit c ≡ true)
digit-no_blank c h = (grind (arith, nat_tests), grind (arith, nat_tests))

digit-value : (c : ℕ) → is_ascii_digit c ≡ true → digit_value c ≡ c - 48
digit-value c h = grind (arith, nat_tests)

numbers_after-digits : (ds tail : List ℕ) (n : ℕ) → all_ascii_digits ds ≡ true →
    numbers_after (Some n) (ds ++ tail) ≡ numbers_after (Some (read_on n ds)) tail
numbers_after-digits [] tail n h = refl
numbers_after-digits (c ∷ ds) tail n h =
    let both = and_parts (is_ascii_digit c) (all_ascii_digits ds) h in
    let first = (digit-no_blank c both.0).0 in
    ap (λ b. cond b (n ∷ numbers_after None (ds ++ tail)) (numbers_after (Some (n * 10 + digit_value c)) (ds
    ++ tail))) first
    ∙ ap (λ d. numbers_after (Some (n * 10 + d)) (ds ++ tail)) (digit-value c both.0)
    ∙ numbers_after-digits ds tail (n * 10 + (c - 48)) both.1

numbers_after-text : (ds tail : List ℕ) → all_ascii_digits ds ≡ true → 0 < length ds →
    numbers_after None (ds ++ tail) ≡ numbers_after (Some (read_on 0 ds)) tail
numbers_after-text [] tail h k = absurd (omega arith)
numbers_after-text (c ∷ ds) tail h k =
    let both = and_parts (is_ascii_digit c) (all_ascii_digits ds) h in
    let first = (digit-no_blank c both.0).0 in
    ap (λ b. cond b (numbers_after None (ds ++ tail)) (numbers_after (Some (0 * 10 + digit_value c)) (ds
    ++ tail))) first
    ∙ ap (λ d. numbers_after (Some (0 * 10 + d)) (ds ++ tail)) (digit-value c both.0)
    ∙ numbers_after-digits ds tail (0 * 10 + (c - 48)) both.1

numbers_after-decimal : (n : ℕ) (tail : List ℕ) → n < 2 ^ 64 →
    numbers_after None (decimal n ++ tail) ≡ numbers_after (Some n) tail
numbers_after-decimal n tail h =
    let same : read_on 0 (decimal n) ≡ n = digits_value-decimal own n h in
    numbers_after-text (decimal n) tail (digits_decimal own n h) (decimal_nonempty n h)
    ∙ ap (λ m. numbers_after (Some m) tail) same

-- the rest of a row
abbrev more_text : List ℕ → List ℕ
more_text ns = flat_map (λ m. 32 ∷ decimal m) ns

abbrev pub row_line : List ℕ → List ℕ
row_line [] = []
row_line (n ∷ ns) = decimal n ++ more_text ns

values-more : (n : ℕ) (ns : List ℕ) → AllByRecursion (λ m. m < 2 ^ 64) ns →
    numbers_after (Some n) (more_text ns) ≡ n ∷ ns
values-more n [] h = refl
values-more n (m ∷ ns) h = ap (λ x. n ∷ x) (numbers_after-decimal m (more_text ns) h.0 ∙ values-more m ns h.1)

pub numbers_of-row : (n : ℕ) (ns : List ℕ) → AllByRecursion (λ m. m < 2 ^ 64) (n ∷ ns) →
    numbers_of (row_line (n ∷ ns)) ≡ n ∷ ns
numbers_of-row n ns h = numbers_of-after (row_line (n ∷ ns)) ∙ numbers_after-decimal n (more_text ns) h.0
    ∙ values-more n ns h.1

-- a digit or a blank
abbrev plain_byte : ℕ → Bool
plain_byte b = is_digit b || is_blank b

plain-digits : (ds : List ℕ) → all_ascii_digits ds ≡ true → list_all plain_byte ds ≡ true
plain-digits [] h = refl
plain-digits (c ∷ ds) h =
    let both = and_parts (is_ascii_digit c) (all_ascii_digits ds) h in
    let first : plain_byte c ≡ true = ap (λ b. b || is_blank c) (digit-no_blank c both.0).1 in
    ap (λ b. b && list_all plain_byte ds) first ∙ plain-digits ds both.1

plain-more : (ns : List ℕ) → AllByRecursion (λ m. m < 2 ^ 64) ns → list_all plain_byte (more_text ns) ≡ true
plain-more [] h = refl
plain-more (m ∷ ns) h =
    let one = plain-digits (decimal m) (digits_decimal own m h.0) in
    let more = plain-more ns h.1 in
    list_all-append plain_byte (decimal m) (more_text ns)
    ∙ (ap (λ b. b && list_all plain_byte (more_text ns)) one ∙ more)

plain-row : (n : ℕ) (ns : List ℕ) → AllByRecursion (λ m. m < 2 ^ 64) (n ∷ ns) →
    list_all plain_byte (row_line (n ∷ ns)) ≡ true
plain-row n ns h =
    let one = plain-digits (decimal n) (digits_decimal own n h.0) in
    list_all-append plain_byte (decimal n) (more_text ns)
    ∙ (ap (λ b. b && list_all plain_byte (more_text ns)) one ∙ plain-more ns h.1)

number-text : (ds tail : List ℕ) → all_ascii_digits ds ≡ true → 0 < length ds → is_number_line (ds ++ tail) ≡ true
number-text [] tail h k = absurd (omega arith)
number-text (c ∷ ds) tail h k =
    let both = and_parts (is_ascii_digit c) (all_ascii_digits ds) h in
    let facts = digit-no_blank c both.0 in
    let solid_is : after_blanks (c ∷ (ds ++ tail)) ≡ c ∷ (ds ++ tail) =
    ap (λ b. cond b (after_blanks (ds ++ tail)) (c ∷ (ds ++ tail))) facts.0 in
    rw (is_number_line, solid_is, facts.1) refl

pub row-numbers : (n : ℕ) (ns : List ℕ) → AllByRecursion (λ m. m < 2 ^ 64) (n ∷ ns) → IsNumbers (row_line (n ∷ ns))
row-numbers n ns h = record {
  number =
      number-text (decimal n) (more_text ns) (digits_decimal own n h.0) (decimal_nonempty n h.0);
  plain =
      plain-row n ns h;
}

-- a line of plain bytes and its end
lines_of-plain : (l rest : List ℕ) → list_all plain_byte l ≡ true → lines_of (l ++ 10 ∷ rest) ≡ l ∷ lines_of rest
lines_of-plain [] rest h = refl
lines_of-plain (b ∷ l) rest h =
    let both = and_parts (plain_byte b) (list_all plain_byte l) h in
    let first : plain_byte b ≡ true = both.0 in
    let other : eqb b 10 ≡ false = grind (arith, nat_tests) in
    ap (λ t. cond t ([] ∷ lines_of (l ++ 10 ∷ rest)) (onto_first b (lines_of (l ++ 10 ∷ rest)))) other
    ∙ ap (onto_first b) (lines_of-plain l rest both.1)

pub lines_of-row : (n : ℕ) (ns rest : List ℕ) → AllByRecursion (λ m. m < 2 ^ 64) (n ∷ ns) →
    lines_of (row_text (n ∷ ns) ++ rest) ≡ row_line (n ∷ ns) ∷ lines_of rest
lines_of-row n ns rest h =
    ap lines_of (append_assoc (row_line (n ∷ ns)) (10 ∷ []) rest)
    ∙ lines_of-plain (row_line (n ∷ ns)) rest (plain-row n ns h)

pub lines_of-piece : (piece rest : List ℕ) → 0 < length piece → AllByRecursion (λ m. m < 2 ^ 64) piece →
    lines_of (row_text piece ++ rest) ≡ row_line piece ∷ lines_of rest
lines_of-piece [] rest k h = absurd (omega arith)
lines_of-piece (n ∷ ns) rest k h = lines_of-row n ns rest h

pub numbers_of-piece : (piece : List ℕ) → 0 < length piece → AllByRecursion (λ m. m < 2 ^ 64) piece →
    numbers_of (row_line piece) ≡ piece
numbers_of-piece [] k h = absurd (omega arith)
numbers_of-piece (n ∷ ns) k h = numbers_of-row n ns h

pub piece-numbers : (piece : List ℕ) → 0 < length piece → AllByRecursion (λ m. m < 2 ^ 64) piece →
    IsNumbers (row_line piece)
piece-numbers [] k h = absurd (omega arith)
piece-numbers (n ∷ ns) k h = row-numbers n ns h
