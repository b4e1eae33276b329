-- The number with which a text begins.
use Rattle.std.proofs.Common.{◌≡◌, ◌≢◌, ◌&&◌, nat_eq, nat_lt, nat_le, ◌^◌, ◌*◌, ◌/◌, ◌%◌, ℕ, ◌+◌, ◌-◌, ◌<◌, ◌≤◌, Bool}
use Rattle.std.proofs.Common.{true, false, cond, not, List, [], ◌∷◌, ◌++◌, Option, Some, None, length, take, drop}
use Rattle.std.proofs.Common.{get_or, refl, ap, sym, subst, ◌∙◌, ◌⊎◌, inl, inr, arith, append_assoc}
use Rattle.std.specs.Fmt.{decimal}
use Rattle.std.proofs.lemmas.List.{append-nil, drop_more, take_rest, drop_all}
use Rattle.std.proofs.lemmas.Fmt.{decimal_digit, decimal_step, decimal_by_steps}
use Rattle.std.proofs.lemmas.Bool.{cases_Bool, eqb-true, eq-eqb, ne_eqb, false≢true, lt-ltb}
use Rattle.std.proofs.lemmas.Option.{none-some}
use Rattle.std.proofs.lemmas.Bool.Decides.{nat_tests}
use Rattle.flow_check.specs.internal.Heading.{BeginsWithNumber, is_further}

abbrev chosen : Bool → Bool → ℕ → List ℕ → Option (ℕ × List ℕ) → Option (ℕ × List ℕ)
chosen ends goes_on value rest next = cond ends (Some (value, rest)) (cond goes_on next None)

-- the number that is read from a text after a value of earlier digits, if there were some
abbrev pub scan : ℕ → ℕ → Bool → List ℕ → Option (ℕ × List ℕ)
scan end value started [] = None
scan end value started (byte ∷ bytes) =
    chosen (started && nat_eq byte end) (is_further value started byte) value bytes (scan end (value * 10
    + (byte - 48)) true bytes)

-- one byte

pub scan-end : (end value : ℕ) (started : Bool) (byte : ℕ) (bytes : List ℕ) → started ≡ true → byte ≡ end →
    scan end value started (byte ∷ bytes) ≡ Some (value, bytes)
scan-end end value started byte bytes s e =
    let next = scan end (value * 10 + (byte - 48)) true bytes in
    ap (λ b. chosen (b && nat_eq byte end) (is_further value started byte) value bytes next) s
    ∙ ap (λ b. chosen b (is_further value started byte) value bytes next) (eq-eqb byte end e)

pub scan-further : (end value : ℕ) (started : Bool) (byte : ℕ) (bytes : List ℕ) → (started && nat_eq byte end) ≡ false →
    is_further value started byte ≡ true → scan end value started (byte ∷ bytes)
    ≡ scan end (value * 10 + (byte - 48)) true bytes
scan-further end value started byte bytes goes_on further =
    let next = scan end (value * 10 + (byte - 48)) true bytes in
    ap (λ b. chosen b (is_further value started byte) value bytes next) goes_on
    ∙ ap (λ b. chosen false b value bytes next) further

pub scan-other : (end value : ℕ) (started : Bool) (byte : ℕ) (bytes : List ℕ) → (started && nat_eq byte end) ≡ false →
    is_further value started byte ≡ false → scan end value started (byte ∷ bytes) ≡ None
scan-other end value started byte bytes goes_on further =
    let next = scan end (value * 10 + (byte - 48)) true bytes in
    ap (λ b. chosen b (is_further value started byte) value bytes next) goes_on
    ∙ ap (λ b. chosen false b value bytes next) further

pub further-true : (value : ℕ) (started : Bool) (byte : ℕ) → 48 ≤ byte → byte ≤ 57 →
    (started && nat_eq value 0) ≡ false → value * 10 + (byte - 48) < 2 ^ 64 → is_further value started byte ≡ true
further-true value started byte low high first fits =
    ap (λ b. nat_le 48 byte && nat_le byte 57 && not b && nat_lt (value * 10 + (byte - 48)) (2 ^ 64)) first
    ∙ all (nat_le 48 byte) (nat_le byte 57) (nat_lt (value * 10
    + (byte - 48)) (2 ^ 64)) (grind (arith, nat_tests)) (grind (arith, nat_tests)) (grind (arith, nat_tests))
  where
    all : (a b c : Bool) → a ≡ true → b ≡ true → c ≡ true → (a && b && true && c) ≡ true
    all a b c p q r = ap (λ x. x && b && true && c) p ∙ ap (λ x. x && true && c) q ∙ r

pub record Further (value : ℕ) (started : Bool) (byte : ℕ) : Type 0 where
  pub low : 48 ≤ byte
  pub high : byte ≤ 57
  pub first : (started && nat_eq value 0) ≡ false
  pub fits : value * 10 + (byte - 48) < 2 ^ 64

pub further-is : (value : ℕ) (started : Bool) (byte : ℕ) → is_further value started byte ≡ true →
    Further value started byte
further-is value started byte e =
    let p = split (nat_le 48 byte) (nat_le byte 57) (started
    && nat_eq value 0) (nat_lt (value * 10 + (byte - 48)) (2 ^ 64)) e in
    let a : nat_le 48 byte ≡ true = p.0 in
    let b : nat_le byte 57 ≡ true = p.1 in
    let d : nat_lt (value * 10 + (byte - 48)) (2 ^ 64) ≡ true = p.3 in
    record {
      low = grind (arith, nat_tests);
      high = grind (arith, nat_tests);
      first = p.2;
      fits =
          grind (arith, nat_tests);
    }
  where
    split : (a b c d : Bool) → (a && b && not c && d) ≡ true → (a ≡ true) × (b ≡ true) × (c ≡ false) × (d ≡ true)
    split true true false true e = (refl, refl, refl, refl)
    split true true false false e = cc
    split true true true d e = cc
    split true false c d e = cc
    split false b c d e = cc

-- after a value, the number has the value's digits first
abbrev Behind : ℕ → ℕ → List ℕ → Option (ℕ × List ℕ) → Type 0
Behind end value bytes None = Unit {0}
Behind end value bytes (Some r) = (ds : List ℕ) × (bytes ≡ ds ++ end ∷ r.1) × (decimal r.0 ≡ decimal value ++ ds)
    × (r.0 < 2 ^ 64)

behind-more : (end value next byte : ℕ) (bytes : List ℕ) (o : Option (ℕ × List ℕ)) →
    decimal next ≡ decimal value ++ byte ∷ [] → Behind end next bytes o → Behind end value (byte ∷ bytes) o
behind-more end value next byte bytes None e h = tt
behind-more end value next byte bytes (Some r) e h = (
  byte ∷ h.0,
  ap (λ xs. byte ∷ xs) h.1,
  h.2 ∙ ap (λ xs. xs ++ h.0) e
      ∙ append_assoc (decimal value) (byte ∷ []) h.0,
  h.3,
)

decimal-more : (value byte : ℕ) → value ≢ 0 → 48 ≤ byte → byte ≤ 57 → value * 10 + (byte - 48) < 2 ^ 64 →
    decimal (value * 10 + (byte - 48)) ≡ decimal value ++ byte ∷ []
decimal-more value byte some low high fits =
    let next : ℕ = value * 10 + (byte - 48) in
    let front : next / 10 ≡ value = omega arith in
    let last : 48 + next % 10 ≡ byte = omega arith in
    decimal_step next (omega arith) fits ∙ ap (λ n. decimal n ++ (48 + next % 10) ∷ []) front
    ∙ ap (λ b. decimal value ++ b ∷ []) last

behind : (end value : ℕ) (bytes : List ℕ) → value < 2 ^ 64 → Behind end value bytes (scan end value true bytes)
behind end value [] small = tt
behind end value (byte ∷ bytes) small = elim (cases_Bool (nat_eq byte end)) [
  | inl same ↦
      subst (Behind end value (byte ∷ bytes)) (sym (scan-end end value true byte bytes refl (eqb-true byte end same)))
      ([], ap (λ b. b ∷ bytes) (eqb-true byte end same), sym (append-nil (decimal value)), small)
  | inr other ↦ elim (cases_Bool (is_further value true byte)) [
    | inl goes_on ↦
        let is : Further value true byte = further-is value true byte goes_on in
        let some : value ≢ 0 = λ z. false-eq value is.first z in
        subst (Behind end value (byte ∷ bytes)) (sym (scan-further end value true byte bytes other goes_on))
        (behind-more end value (value * 10 + (byte - 48)) byte bytes (scan end (value * 10
        + (byte - 48)) true bytes) (decimal-more value byte some is.low is.high is.fits) (behind end (value * 10
        + (byte - 48)) bytes is.fits))
    | inr stops ↦ subst (Behind end value (byte ∷ bytes)) (sym (scan-other end value true byte bytes other stops)) tt
  ]
]
  where
    false-eq : (n : ℕ) → nat_eq n 0 ≡ false → n ≡ 0 → ⊥
    false-eq n e z = absurd (false≢true (sym e ∙ eq-eqb n 0 z))

abbrev Found : ℕ → List ℕ → Option (ℕ × List ℕ) → Type 0
Found end text None = Unit {0}
Found end text (Some r) = BeginsWithNumber text end r.0 r.1

found-first : (end digit : ℕ) (bytes : List ℕ) (o : Option (ℕ × List ℕ)) → decimal (digit - 48) ≡ digit ∷ [] →
    Behind end (digit - 48) bytes o → Found end (digit ∷ bytes) o
found-first end digit bytes None e h = tt
found-first end digit bytes (Some r) e h =
    (h.3, ap (λ xs. digit ∷ xs) h.1 ∙ ap (λ xs. xs ++ end ∷ r.1) (sym (h.2 ∙ ap (λ xs. xs ++ h.0) e)))

-- what is read is the number with which the text begins
pub scan-sound : (end : ℕ) (text : List ℕ) → Found end text (scan end 0 false text)
scan-sound end [] = tt
scan-sound end (byte ∷ bytes) = elim (cases_Bool (is_further 0 false byte)) [
  | inl goes_on ↦
      let is : Further 0 false byte = further-is 0 false byte goes_on in
      let digit : 48 + (byte - 48) ≡ byte = omega (arith, is.low) in
      let fits : byte - 48 < 2 ^ 64 = omega (arith, is.high) in
      subst (Found end (byte ∷ bytes)) (sym (scan-further end 0 false byte bytes refl goes_on
      ∙ ap (λ n. scan end n true bytes) (omega arith)))
      (found-first end byte bytes (scan end (byte - 48) true bytes) (decimal_digit (byte - 48) (omega (arith, is.high))
      ∙ ap (λ b. b ∷ []) digit) (behind end (byte - 48) bytes fits))
  | inr stops ↦ subst (Found end (byte ∷ bytes)) (sym (scan-other end 0 false byte bytes refl stops)) tt
]

-- and it is read wherever the text begins with one

abbrev Reads : ℕ → ℕ → List ℕ → Type 0
Reads end n ds = n < 2 ^ 64 → (tail : List ℕ) → scan end 0 false (ds ++ tail) ≡ scan end n true tail

not-end : (end byte : ℕ) → end < 48 → 48 ≤ byte → nat_eq byte end ≡ false
not-end end byte low high = let other : byte ≢ end = omega arith in ne_eqb byte end other

reads-one : (end : ℕ) (low : end < 48) (n : ℕ) → n < 10 → Reads end n ((48 + n) ∷ [])
reads-one end low n small fits tail =
    let next : 0 * 10 + (48 + n - 48) ≡ n = omega arith in
    scan-further end 0 false (48 + n) tail refl (further-true 0 false (48
    + n) (omega arith) (omega arith) refl (omega arith))
    ∙ ap (λ k. scan end k true tail) next

reads-more : (end : ℕ) (low : end < 48) (n : ℕ) (ds : List ℕ) → 10 ≤ n → Reads end (n / 10) ds →
    Reads end n (ds ++ (48 + n % 10) ∷ [])
reads-more end low n ds large ih fits tail =
    let byte : ℕ = 48 + n % 10 in
    let next : n / 10 * 10 + (48 + n % 10 - 48) ≡ n = omega arith in
    let some : n / 10 ≢ 0 = omega arith in
    ap (scan end 0 false) (append_assoc ds (byte ∷ []) tail)
    ∙ ih (omega arith) (byte ∷ tail)
    ∙ scan-further end (n / 10) true byte tail (not-end end byte low (omega arith)) (further-true (n / 10) true byte
    (omega arith) (omega arith) (ne_eqb (n / 10) 0 some) (omega (arith, next, fits)))
    ∙ ap (λ k. scan end k true tail) next

pub scan-complete : (end n : ℕ) (text rest : List ℕ) → end < 48 → BeginsWithNumber text end n rest →
    scan end 0 false text ≡ Some (n, rest)
scan-complete end n text rest low h =
    ap (scan end 0 false) h.1
    ∙ decimal_by_steps (Reads end) (reads-one end low) (reads-more end low) n h.0 h.0 (end ∷ rest)
    ∙ scan-end end n true end rest refl refl

-- what the loop knows at its ends

abbrev inside : Option (ℕ × List ℕ) → ℕ × List ℕ
inside None = (0, [])
inside (Some r) = r

same-pair : (o : Option (ℕ × List ℕ)) (n value : ℕ) (rest after : List ℕ) → o ≡ Some (n, rest) →
    o ≡ Some (value, after) → (value ≡ n) × (after ≡ rest)
same-pair o n value rest after p q = (ap (λ r. (inside r).0) (sym q ∙ p), ap (λ r. (inside r).1) (sym q ∙ p))

pub at-end : (end value index : ℕ) (text : List ℕ) → scan end 0 false text
    ≡ scan end value (nat_lt 0 index) (drop index text) → 0 < index → index < length text → get_or text index 0 ≡ end →
    scan end 0 false text ≡ Some (value, take (length text - (index + 1)) (drop (index + 1) text))
at-end end value index text inv some within is =
    inv
    ∙ ap (scan end value (nat_lt 0 index)) (drop_more text index 0 within)
    ∙ scan-end end value (nat_lt 0 index) (get_or text index 0) (drop (index + 1) text) (lt-ltb 0 index some) is
    ∙ ap (λ xs. Some (value, xs)) (sym (take_rest text (index + 1)))

pub found-at : (end value index : ℕ) (text : List ℕ) → scan end 0 false text
    ≡ scan end value (nat_lt 0 index) (drop index text) → 0 < index → index < length text → get_or text index 0 ≡ end →
    BeginsWithNumber text end value (take (length text - (index + 1)) (drop (index + 1) text))
found-at end value index text inv some within is =
    subst (Found end text) (at-end end value index text inv some within is) (scan-sound end text)

pub only-at : (end value index : ℕ) (text : List ℕ) → end < 48 →
    scan end 0 false text ≡ scan end value (nat_lt 0 index) (drop index text) → 0 < index → index < length text →
    get_or text index 0 ≡ end →
    (n : ℕ) (rest : List ℕ) → BeginsWithNumber text end n rest → (value ≡ n)
    × (take (length text - (index + 1)) (drop (index + 1) text) ≡ rest)
only-at end value index text low inv some within is n rest h =
    same-pair (scan end 0 false text) n value rest (take (length text - (index + 1)) (drop (index
    + 1) text)) (scan-complete end n text rest low h) (at-end end value index text inv some within is)

none-at : (end : ℕ) (text : List ℕ) → end < 48 → scan end 0 false text ≡ None → (n : ℕ) (rest : List ℕ) →
    BeginsWithNumber text end n rest → ⊥
none-at end text low e n rest h = none-some (n, rest) (sym e ∙ scan-complete end n text rest low h)

pub none-past : (end value index : ℕ) (text : List ℕ) → end < 48 →
    scan end 0 false text ≡ scan end value (nat_lt 0 index) (drop index text) → length text ≤ index →
    (n : ℕ) (rest : List ℕ) → BeginsWithNumber text end n rest → ⊥
none-past end value index text low inv past =
    none-at end text low (inv ∙ ap (scan end value (nat_lt 0 index)) (drop_all index text past))

goes-on : (a byte end : ℕ) → ((0 < a) × (byte ≡ end → ⊥)) ⊎ (a ≤ 0) → (nat_lt 0 a && nat_eq byte end) ≡ false
goes-on a byte end (inl h) = ap (λ x. nat_lt 0 a && x) (ne_eqb byte end h.1) ∙ and-false (nat_lt 0 a)
  where
    and-false : (x : Bool) → (x && false) ≡ false
    and-false true = refl
    and-false false = refl
goes-on a byte end (inr h) = ap (λ x. x && nat_eq byte end) (not-less a h)
  where
    not-less : (k : ℕ) → k ≤ 0 → nat_lt 0 k ≡ false
    not-less k le = grind (arith, nat_tests)

pub none-other : (end value index : ℕ) (text : List ℕ) → end < 48 →
    scan end 0 false text ≡ scan end value (nat_lt 0 index) (drop index text) → index < length text →
    ((0 < index) × (get_or text index 0 ≡ end → ⊥)) ⊎ (index ≤ 0) →
    (is_further value (nat_lt 0 index) (get_or text index 0) ≡ true → ⊥) → (n : ℕ) (rest : List ℕ) →
    BeginsWithNumber text end n rest → ⊥
none-other end value index text low inv within other further =
    none-at end text low
    (inv ∙ ap (scan end value (nat_lt 0 index)) (drop_more text index 0 within)
    ∙ scan-other end value (nat_lt 0 index) (get_or text index 0) (drop (index
    + 1) text) (goes-on index (get_or text index 0) end other) (off (is_further value (nat_lt 0 index)
    (get_or text index 0)) further))
  where
    off : (b : Bool) → (b ≡ true → ⊥) → b ≡ false
    off true h = absurd (h refl)
    off false h = refl
