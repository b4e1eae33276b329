-- The numbers of a line.
use Rattle.std.proofs.Common.{◌≡◌, ◌≢◌, ◌&&◌, ◌^◌, ◌<◌, ◌≤◌, ℕ, zero, suc, nat_eq, nat_le, true, false, cond, not}
use Rattle.std.proofs.Common.{List, [], ◌∷◌, ◌++◌, length, map, get_or, Some, None, refl, ap, sym, subst, ◌∙◌}
use Rattle.std.proofs.Common.{arith}
use Rattle.std.specs.Fmt.{decimal}
use Rattle.std.specs.Str.Parse.{digits_value}
use Rattle.std.specs.List.{AllByRecursion, list_all, slice_split, join_with_byte}
use Rattle.std.proofs.lemmas.List.Elements.{All-from_recursion}
use Rattle.std.proofs.lemmas.List.Splits.{slice_split_none, slice_split_at, join_with_byte-slice_split}
use Rattle.std.proofs.lemmas.Fmt.{decimal_is_IsNumeral, decimal_digit, decimal-digits_value, first_decimal}
use Rattle.std.proofs.lemmas.Str.Parse.{IsNumeralModel, IsDigitsTest, numerals_by_value}
use Rattle.std.proofs.lemmas.Option.{cond_some}
use Rattle.std.proofs.lemmas.Bool.{leb-true, le-leb, eq-eqb, false≢true, ne_eqb, and_parts, not-true}
use Rattle.flow_check.specs.TextLines.{spaced}
use Rattle.flow_shop.specs.Digits.{is_digit}
use Rattle.flow_check.specs.internal.Reading.{is_numeral, numbers_in}

-- numbers that fit a word
abbrev pub Fit : List ℕ → Type 0
Fit ns = AllByRecursion (λ n. n < 2 ^ 64) ns

-- a list of digits
abbrev pub AreDigits : List ℕ → Type 0
AreDigits ds = list_all is_digit ds ≡ true

digit-range : (byte : ℕ) → is_digit byte ≡ true → (48 ≤ byte) × (byte ≤ 57)
digit-range byte e =
    let k = and_parts (nat_le 48 byte) (nat_le byte 57) e in
    (leb-true 48 byte k.0, leb-true byte 57 k.1)

range-digit : (byte : ℕ) → 48 ≤ byte → byte ≤ 57 → is_digit byte ≡ true
range-digit byte low high = ap (λ b. b && nat_le byte 57) (le-leb 48 byte low) ∙ le-leb byte 57 high

pub tells-digits : IsDigitsTest AreDigits
tells-digits = record {
  empty = refl;
  parts = λ c cs e. let k = and_parts (is_digit c) (list_all is_digit cs) e in (digit-range c k.0, k.1);
  more = λ c cs k e. ap (λ b. b && list_all is_digit cs) (range-digit c k.0 k.1) ∙ e;
}

pub digits-model : IsNumeralModel AreDigits (digits_value 10)
digits-model = numerals_by_value AreDigits tells-digits

-- a numeral is what is written of its value
pub numeral-decimal : (word : List ℕ) → is_numeral word ≡ true → digits_value 10 word < 2 ^ 64 →
    decimal (digits_value 10 word) ≡ word
numeral-decimal [] e fits = absurd (false≢true e)
numeral-decimal (d ∷ []) e fits =
    decimal-digits_value digits-model (d ∷ []) (ap (λ b. b && true) e) (omega arith) (λ z. refl) fits
numeral-decimal (d ∷ c ∷ cs) e fits =
    let k = and_parts (not (nat_eq d 48)) (list_all is_digit (d ∷ c ∷ cs)) e in
    decimal-digits_value digits-model (d ∷ c
    ∷ cs) k.1 (omega arith) (λ z. absurd (false≢true (sym (not-true (nat_eq d 48) k.0) ∙ eq-eqb d 48 z))) fits

numeral-of : (word : List ℕ) → AreDigits word → 0 < length word → (get_or word 0 0 ≡ 48 → length word ≡ 1) →
    is_numeral word ≡ true
numeral-of [] e some lead = absurd (omega arith)
numeral-of (d ∷ []) e some lead = (and_parts (is_digit d) true e).0
numeral-of (d ∷ c ∷ cs) e some lead =
    let other : d ≢ 48 = λ z. omega (arith, lead z) in
    ap (λ b. not b && list_all is_digit (d ∷ c ∷ cs)) (ne_eqb d 48 other) ∙ e

decimal-digits : (n : ℕ) → n < 2 ^ 64 → AreDigits (decimal n)
decimal-digits n fits = digits-model.from (decimal n) (decimal_is_IsNumeral n fits).0.1

lead-alone : (n : ℕ) → n < 2 ^ 64 → get_or (decimal n) 0 0 ≡ 48 → length (decimal n) ≡ 1
lead-alone zero fits z = ap length (decimal_digit 0 (omega arith))
lead-alone (suc n) fits z = absurd (omega (arith, first_decimal (suc n) (omega arith) fits, z))

-- what is written of a number is a numeral
pub decimal-numeral : (n : ℕ) → n < 2 ^ 64 → is_numeral (decimal n) ≡ true
decimal-numeral n fits =
    numeral-of (decimal n) (decimal-digits n fits) (decimal_is_IsNumeral n fits).0.0 (lead-alone n fits)

words-written : (words : List (List ℕ)) → list_all is_numeral words ≡ true → Fit (map (digits_value 10) words) →
    map decimal (map (digits_value 10) words) ≡ words
words-written [] e fits = refl
words-written (w ∷ ws) e fits =
    let k = and_parts (is_numeral w) (list_all is_numeral ws) e in
    ap (λ x. x ∷ map decimal (map (digits_value 10) ws)) (numeral-decimal w k.0 fits.0)
    ∙ ap (λ xs. w ∷ xs) (words-written ws k.1 fits.1)

-- a line that holds numbers alone is how they are written
pub numbers-sound : (text ns : List ℕ) → numbers_in text ≡ Some ns → Fit ns → text ≡ spaced ns
numbers-sound text ns e fits =
    let words : List (List ℕ) = slice_split (λ byte. nat_eq byte 32) text in
    let k = cond_some (list_all is_numeral words) (map (digits_value 10) words) ns e in
    let written : map decimal (map (digits_value 10) words) ≡ words =
    words-written words k.0 (subst Fit (sym k.1) fits) in
    sym (join_with_byte-slice_split 32 text) ∙ ap (join_with_byte 32) (sym written) ∙ ap spaced k.1

-- no digit is a byte below 48
no-byte : (byte : ℕ) → byte < 48 → (ds : List ℕ) → AreDigits ds → AllByRecursion (λ b. nat_eq b byte ≡ false) ds
no-byte byte low [] h = tt
no-byte byte low (d ∷ ds) h =
    let k = and_parts (is_digit d) (list_all is_digit ds) h in
    let range = digit-range d k.0 in
    let other : d ≢ byte = omega (arith, range.0, low) in
    (ne_eqb d byte other, no-byte byte low ds k.1)

split-spaced : (n : ℕ) (ns : List ℕ) → Fit (n ∷ ns) → slice_split (λ b. nat_eq b 32) (spaced (n ∷ ns))
    ≡ map decimal (n ∷ ns)
split-spaced n [] h =
    slice_split_none (λ b. nat_eq b 32) (decimal n) (All-from_recursion (λ b. nat_eq b 32
    ≡ false) (decimal n) (no-byte 32 (omega arith) (decimal n) (decimal-digits n h.0)))
split-spaced n (m ∷ ns) h =
    slice_split_at (λ b. nat_eq b 32) (decimal n) 32 (spaced (m ∷ ns)) (All-from_recursion (λ b. nat_eq b 32
    ≡ false) (decimal n) (no-byte 32 (omega arith) (decimal n) (decimal-digits n h.0))) refl
    ∙ ap (λ xs. decimal n ∷ xs) (split-spaced m ns h.1)

all-numerals : (ns : List ℕ) → Fit ns → list_all is_numeral (map decimal ns) ≡ true
all-numerals [] h = refl
all-numerals (n ∷ ns) h = ap (λ b. b && list_all is_numeral (map decimal ns)) (decimal-numeral n h.0)
    ∙ all-numerals ns h.1

all-values : (ns : List ℕ) → Fit ns → map (digits_value 10) (map decimal ns) ≡ ns
all-values [] h = refl
all-values (n ∷ ns) h = ap (λ k. k ∷ map (digits_value 10) (map decimal ns)) (decimal_is_IsNumeral n h.0).1
    ∙ ap (λ xs. n ∷ xs) (all-values ns h.1)

-- numbers, as they are written, are a line that holds them
pub numbers-complete : (n : ℕ) (ns : List ℕ) → Fit (n ∷ ns) → numbers_in (spaced (n ∷ ns)) ≡ Some (n ∷ ns)
numbers-complete n ns h =
    ap (λ words. cond (list_all is_numeral words) (Some (map (digits_value 10) words)) None) (split-spaced n ns h)
    ∙ ap (λ b. cond b (Some (map (digits_value 10) (map decimal (n ∷ ns)))) None) (all-numerals (n ∷ ns) h)
    ∙ ap Some (all-values (n ∷ ns) h)

-- and no byte of them ends a line

abbrev pub IsPlain : List ℕ → Type 0
IsPlain text = AllByRecursion (λ b. nat_eq b 10 ≡ false) text

plain-append : (xs ys : List ℕ) → IsPlain xs → IsPlain ys → IsPlain (xs ++ ys)
plain-append [] ys h k = k
plain-append (x ∷ xs) ys h k = (h.0, plain-append xs ys h.1 k)

pub spaced-plain : (ns : List ℕ) → Fit ns → IsPlain (spaced ns)
spaced-plain [] h = tt
spaced-plain (n ∷ []) h = no-byte 10 (omega arith) (decimal n) (decimal-digits n h.0)
spaced-plain (n ∷ m ∷ ns) h = plain-append (decimal n) (32
    ∷ spaced (m ∷ ns)) (no-byte 10 (omega arith) (decimal n) (decimal-digits n h.0)) (refl, spaced-plain (m ∷ ns) h.1)
