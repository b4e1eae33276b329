-- The numbers of a line, read byte by byte.
use Rattle.std.proofs.Common.{◌≡◌, ◌∙◌, ap, ◌<◌, ◌≤◌, ◌+◌, ◌*◌, ℕ, Bool, true, false, cond, nat_lt, nat_le, List}
use Rattle.std.proofs.Common.{Option, Some, None, Err, ◌++◌, ◌∷◌, [], length, map, filter, drop, get_or, unwrap_or}
use Rattle.std.proofs.Common.{arith, refl, sym, append_assoc, ◌||◌}
use Rattle.std.specs.List.{onto_first, slice_split}
use Rattle.std.specs.Char.{digit_value}
use Rattle.std.specs.Str.Parse.{digits_value, digits_value_after}
use Rattle.std.proofs.lemmas.Bool.Decides.{nat_tests}
use Rattle.std.proofs.lemmas.List.{at_drop_more}
use Rattle.std.proofs.lemmas.List.Folds.{list_all-append}
use Rattle.flow_text.specs.Lines.{is_blank, is_digit, is_plain, numbers_of, are_small}
use Rattle.flow_text.specs.internal.TextWalk.{line_numbers}
use Rattle.flow_limits.specs.Limits.{greatest_number}
use Rattle.flow_text.specs.declared.text.fault.LineFault.{LineFault}
use Rattle.flow_text.specs.declared.text.fault.LineFault.TheVariants as line

-- the numbers of the rest of a line, where a number may have begun
abbrev pub numbers_after : Option ℕ → List ℕ → List ℕ
numbers_after None [] = []
numbers_after (Some n) [] = n ∷ []
numbers_after None (b ∷ bs) =
    cond (is_blank b) (numbers_after None bs) (numbers_after (Some (0 * 10 + digit_value b)) bs)
numbers_after (Some n) (b ∷ bs) =
    cond (is_blank b) (n ∷ numbers_after None bs) (numbers_after (Some (n * 10 + digit_value b)) bs)

-- the numbers of some parts
abbrev values : List (List ℕ) → List ℕ
values parts = map (digits_value 10) (filter (λ word. nat_lt 0 (length word)) parts)

-- the same where the first part goes on with a number
abbrev values_after : ℕ → List (List ℕ) → List ℕ
values_after n [] = n ∷ []
values_after n (part ∷ parts) = digits_value_after 10 n part ∷ values parts

values-onto : (b : ℕ) (parts : List (List ℕ)) → values (onto_first b parts)
    ≡ values_after (0 * 10 + digit_value b) parts
values-onto b [] = refl
values-onto b (part ∷ parts) =
    let some : nat_lt 0 (length (b ∷ part)) ≡ true = grind (arith, nat_tests) in
    let others = filter (λ word. nat_lt 0 (length word)) parts in
    ap (λ p. map (digits_value 10) (cond p ((b ∷ part) ∷ others) others)) some

values_after-onto : (n b : ℕ) (parts : List (List ℕ)) → values_after n (onto_first b parts)
    ≡ values_after (n * 10 + digit_value b) parts
values_after-onto n b [] = refl
values_after-onto n b (part ∷ parts) = refl

-- what the reader of bytes gives is what the parts give
abbrev Agree : List ℕ → Type 0
Agree l = ((n : ℕ) → numbers_after (Some n) l ≡ values_after n (slice_split is_blank l))
    × (numbers_after None l ≡ values (slice_split is_blank l))

agree-more : (b : ℕ) (l : List ℕ) (p : Bool) → is_blank b ≡ p → Agree l → Agree (b ∷ l)
agree-more b l true e more = (λ n. rw e (ap (λ x. n ∷ x) more.1), rw e more.1)
agree-more b l false e more = (
  λ n. rw e (more.0 (n * 10 + digit_value b) ∙ sym (values_after-onto n b (slice_split is_blank l))),
  rw e (more.0 (0 * 10 + digit_value b) ∙ sym (values-onto b (slice_split is_blank l))),
)

agree : (l : List ℕ) → Agree l
agree [] = (λ n. refl, refl)
agree (b ∷ l) = agree-more b l (is_blank b) refl (agree l)

pub numbers_of-after : (l : List ℕ) → numbers_of l ≡ numbers_after None l
numbers_of-after l = sym (agree l).1

-- a number stays too large, whatever follows
numbers_after-large : (n : ℕ) (bs : List ℕ) → greatest_number < n → are_small (numbers_after (Some n) bs) ≡ false
numbers_after-large n [] h = grind (arith, nat_tests)
numbers_after-large n (b ∷ bs) h = go (digit_value b) (numbers_after-large (n * 10 + digit_value b) bs)
  where
    large : nat_le n greatest_number ≡ false
    large = grind (arith, nat_tests)

    go : (d : ℕ) → (greatest_number < n * 10 + d → are_small (numbers_after (Some (n * 10 + d)) bs) ≡ false) →
        are_small (cond (is_blank b) (n ∷ numbers_after None bs) (numbers_after (Some (n * 10 + d)) bs)) ≡ false
    go d more = pick (is_blank b)
      where
        pick : (p : Bool) → are_small (cond p (n ∷ numbers_after None bs) (numbers_after (Some (n * 10 + d)) bs))
            ≡ false
        pick true = rw large refl
        pick false = more (omega arith)

-- one byte on, in a line of which some numbers were read
pub numbers-close : (read all line : List ℕ) (n i : ℕ) → i < length line → is_blank (get_or line i 0) ≡ true →
    read ++ numbers_after (Some n) (drop i line) ≡ all → (read ++ n ∷ []) ++ numbers_after None (drop (i + 1) line)
    ≡ all
numbers-close read all line n i h b e =
    let step = at_drop_more (numbers_after (Some n)) line i 0 h in
    grind (arith, step, append_assoc)

pub numbers-skip : (read all line : List ℕ) (i : ℕ) → i < length line → is_blank (get_or line i 0) ≡ true →
    read ++ numbers_after None (drop i line) ≡ all → read ++ numbers_after None (drop (i + 1) line) ≡ all
numbers-skip read all line i h b e =
    let step = at_drop_more (numbers_after None) line i 0 h in
    grind (arith, step)

pub numbers-digit : (read all line : List ℕ) (got : Option ℕ) (i : ℕ) → i < length line →
    is_blank (get_or line i 0) ≡ false → read ++ numbers_after got (drop i line) ≡ all →
    read ++ numbers_after (Some (unwrap_or got 0 * 10 + digit_value (get_or line i 0))) (drop (i + 1) line) ≡ all
numbers-digit read all line None i h b e =
    let step = at_drop_more (numbers_after None) line i 0 h in
    grind (arith, step)
numbers-digit read all line (Some n) i h b e =
    let step = at_drop_more (numbers_after (Some n)) line i 0 h in
    grind (arith, step)

pub small-push : (read : List ℕ) (n : ℕ) → are_small read ≡ true → n ≤ greatest_number →
    are_small (read ++ n ∷ []) ≡ true
small-push read n h k = grind (arith, nat_tests, list_all-append)

-- a number that is too large makes the whole too large
pub large-all : (read all line : List ℕ) (n i : ℕ) → greatest_number < n →
    read ++ numbers_after (Some n) (drop (i + 1) line) ≡ all → are_small all ≡ false
large-all read all line n i h e =
    let large = numbers_after-large n (drop (i + 1) line) h in
    let both = list_all-append (λ m. nat_le m greatest_number) read (numbers_after (Some n) (drop (i + 1) line)) in
    grind (arith, large, both)

pub line_numbers-large : (l : List ℕ) → is_plain l ≡ true → are_small (numbers_of l) ≡ false →
    line_numbers l ≡ Err line.Number
unfolding line_numbers
line_numbers-large l p q = rw (p, q) refl

line_numbers-other : (l : List ℕ) → is_plain l ≡ false → line_numbers l ≡ Err line.Byte
unfolding line_numbers
line_numbers-other l p = rw p refl

-- a line with a number that is too large has the fault of another byte, where it has one, before the number's
pub line_numbers-great : (l : List ℕ) (fault : LineFault) → are_small (numbers_of l) ≡ false →
    (is_plain l ≡ true → fault ≡ line.Number) → (is_plain l ≡ false → fault ≡ line.Byte) →
    line_numbers l ≡ Err fault
line_numbers-great l fault q plain other = go (is_plain l) refl
  where
    go : (p : Bool) → is_plain l ≡ p → line_numbers l ≡ Err fault
    go true e = rw (plain e) (line_numbers-large l e q)
    go false e = rw (other e) (line_numbers-other l e)

-- one byte on, in a line that has digits and blanks alone so far
pub plain-more : (line : List ℕ) (i : ℕ) → i < length line →
    (is_digit (get_or line i 0) || is_blank (get_or line i 0)) ≡ true → is_plain line ≡ is_plain (drop i line) →
    is_plain line ≡ is_plain (drop (i + 1) line)
plain-more line i h ok e =
    let step = at_drop_more is_plain line i 0 h in
    grind (arith, step, ok, e)
