-- The lines of a text, one by one: what is read of each is what it says.
use Rattle.std.proofs.Common.{◌≡◌, nat_eq, nat_lt, ◌^◌, ℕ, zero, suc, ◌<◌, true, false}
use Rattle.std.proofs.Common.{cond, not, List, []}
use Rattle.std.proofs.Common.{◌∷◌, ◌++◌, Option, Some, None, Result, Ok, Err, refl, ap, sym, subst, ◌∙◌, inl}
use Rattle.std.proofs.Common.{inr, arith, ap₂, ◌+◌}
use Rattle.std.specs.Option.{option_map, option_map_or}
use Rattle.std.specs.Str.{bytes_eq}
use Rattle.std.specs.Cmp.Lexicographic.{bytes_decides}
use Rattle.std.specs.Prelude.{codes}
use Rattle.std.specs.List.{list_all}
use Rattle.std.specs.Fmt.{decimal}
use Rattle.std.proofs.lemmas.Fmt.{decimal_digit}
use Rattle.std.proofs.lemmas.Option.{none-some, cond_some}
use Rattle.std.proofs.lemmas.Bool.{cases_Bool, eqb-true, ltb-true, lt-ltb, and_parts, not-true}
use Rattle.flow_check.specs.TextLines.{IsVersion, title}
use Rattle.flow_check.specs.internal.Reading.{value_of}
use Rattle.flow_check.specs.internal.Reading.{first_line, on_line, numbers_in, version_of}
use Rattle.flow_check.specs.declared.fault.CheckFault.{CheckFault}
use Rattle.flow_shop.proofs.Lists.{find-some}
use Rattle.flow_check.proofs.TreesExact.{fault-value}
use Rattle.flow_check.proofs.Numbers.{IsPlain, numbers-sound, numbers-complete, spaced-plain}

-- a line and what follows it

abbrev pub LineOf : List ℕ → Option (List ℕ × List ℕ) → Type 0
LineOf bytes None = Unit {0}
LineOf bytes (Some r) = bytes ≡ r.0 ++ 10 ∷ r.1

abbrev put : ℕ → List ℕ × List ℕ → List ℕ × List ℕ
put byte r = (byte ∷ r.0, r.1)

mapped : (byte : ℕ) (bytes : List ℕ) (o : Option (List ℕ × List ℕ)) → LineOf bytes o →
    LineOf (byte ∷ bytes) (option_map (put byte) o)
mapped byte bytes None h = tt
mapped byte bytes (Some r) h = ap (λ xs. byte ∷ xs) h

pub first-line-is : (bytes : List ℕ) → LineOf bytes (first_line bytes)
first-line-is [] = tt
first-line-is (byte ∷ bytes) = elim (cases_Bool (nat_eq byte 10)) [
  | inl same ↦ subst (LineOf (byte
      ∷ bytes)) (sym (ap (λ b. cond b (Some ([], bytes)) (option_map (put byte) (first_line bytes))) same)) (ap (λ b. b
      ∷ bytes) (eqb-true byte 10 same))
  | inr other ↦ subst (LineOf (byte
      ∷ bytes)) (sym (ap (λ b. cond b (Some ([], bytes)) (option_map (put byte) (first_line bytes))) other))
      (mapped byte bytes (first_line bytes) (first-line-is bytes))
]

on-line-of : {A : Type 0} (fault : CheckFault) (next : List ℕ → List ℕ →
    Result A CheckFault) (bytes : List ℕ) (o : Option (List ℕ × List ℕ)) (v : A) → LineOf bytes o →
    option_map_or (λ r. next r.0 r.1) o (Err fault) ≡ Ok v →
    (text : List ℕ) × (rest : List ℕ) × (bytes ≡ text ++ 10 ∷ rest) × (next text rest ≡ Ok v)
on-line-of fault next bytes None v h e = absurd (fault-value fault v e)
on-line-of fault next bytes (Some r) v h e = (r.0, r.1, h, e)

pub on-line-sound : {A : Type 0} (fault : CheckFault) (next : List ℕ → List ℕ → Result A CheckFault) (bytes : List ℕ)
    (v : A) →
    on_line fault next bytes ≡ Ok v → (text : List ℕ) × (rest : List ℕ) × (bytes ≡ text ++ 10 ∷ rest)
    × (next text rest ≡ Ok v)
on-line-sound fault next bytes v e = on-line-of fault next bytes (first_line bytes) v (first-line-is bytes) e

pub first-line-complete : (text rest : List ℕ) → IsPlain text → first_line (text ++ 10 ∷ rest) ≡ Some (text, rest)
first-line-complete [] rest h = refl
first-line-complete (b ∷ bs) rest h =
    ap (λ t. cond t (Some ([], bs ++ 10 ∷ rest)) (option_map (put b) (first_line (bs ++ 10 ∷ rest)))) h.0
    ∙ ap (option_map (put b)) (first-line-complete bs rest h.1)

pub on-line-complete : {A : Type 0} (fault : CheckFault) (next : List ℕ → List ℕ → Result A CheckFault)
    (text rest : List ℕ) →
    IsPlain text → on_line fault next (text ++ 10 ∷ rest) ≡ next text rest
on-line-complete fault next text rest h =
    ap (λ o. option_map_or (λ r. next r.0 r.1) o (Err fault)) (first-line-complete text rest h)

-- the first line

pub plain-test : (xs : List ℕ) → list_all (λ b. not (nat_eq b 10)) xs ≡ true → IsPlain xs
plain-test [] e = tt
plain-test (x ∷ xs) e = let b = and_parts (not (nat_eq x 10)) (list_all (λ b. not (nat_eq b 10)) xs) e in
    (not-true (nat_eq x 10) b.0, plain-test xs b.1)

version-cases : (P : ℕ → Type 0) → P 1 → P 2 → (version : ℕ) → IsVersion version → P version
version-cases P one two zero is = absurd (omega (arith, is.0))
version-cases P one two (suc zero) is = one
version-cases P one two (suc (suc zero)) is = two
version-cases P one two (suc (suc (suc n))) is = absurd (omega (arith, is.1))

-- the version's digit ends the title
title-digit : (version : ℕ) → version < 10 → title version ≡ codes "flowshop certificate " ++ (48 + version) ∷ []
title-digit version small = ap (λ ds. codes "flowshop certificate " ++ ds) (decimal_digit version small)

pub title-known : (version : ℕ) → IsVersion version → version_of (title version) ≡ Some version
title-known = version-cases (λ version. version_of (title version) ≡ Some version)
    (ap (λ b. cond b (Some 1) (cond (bytes_eq (title 1) (title 2)) (Some 2) None)) (same (title 1)))
    (ap (λ b. cond b (Some 1) (cond (bytes_eq (title 2) (title 2)) (Some 2) None)) apart
    ∙ ap (λ b. cond b (Some 2) None) (same (title 2)))
  where
    same : (text : List ℕ) → bytes_eq text text ≡ true
    same text = (bytes_decides text text).1 refl

    apart : bytes_eq (title 2) (title 1) ≡ false
    apart = ap₂ (λ two one. bytes_eq two one) (title-digit 2 (omega arith)) (title-digit 1 (omega arith))

pub title-plain : (version : ℕ) → IsVersion version → IsPlain (title version)
title-plain = version-cases (λ version. IsPlain (title version))
    (subst IsPlain (sym (title-digit 1 (omega arith))) (plain-test (codes "flowshop certificate " ++ 49 ∷ []) refl))
    (subst IsPlain (sym (title-digit 2 (omega arith))) (plain-test (codes "flowshop certificate " ++ 50 ∷ []) refl))

pub known-title : (text : List ℕ) (version : ℕ) → version_of text ≡ Some version →
    IsVersion version × (text ≡ title version)
known-title text version e =
    let one : IsVersion 1 = (omega arith, omega arith) in
    let two : IsVersion 2 = (omega arith, omega arith) in
    let is = find-some (λ v. bytes_eq text (title v)) IsVersion (1 ∷ 2 ∷ []) version (one, (two, tt)) e in
    (is.1, (bytes_decides text (title version)).0 is.0)

-- the line of the value

pub value-plain : (value : ℕ) → value < 2 ^ 64 → IsPlain (decimal value)
value-plain value fits = spaced-plain (value ∷ []) (fits, tt)

pub value-known : (value : ℕ) → value < 2 ^ 64 → value_of (numbers_in (decimal value)) ≡ Some value
value-known value fits =
    ap value_of (numbers-complete value [] (fits, tt))
    ∙ ap (λ b. cond b (Some value) None) (lt-ltb value (2 ^ 64) fits)

-- numbers that state a value are those of its line
states : (numbers : Option (List ℕ)) (value : ℕ) → value_of numbers ≡ Some value →
    (value < 2 ^ 64) × (numbers ≡ Some (value ∷ []))
states None value e = absurd (none-some value e)
states (Some []) value e = absurd (none-some value e)
states (Some (a ∷ b ∷ ns)) value e = absurd (none-some value e)
states (Some (read ∷ [])) value e =
    let is = cond_some (nat_lt read (2 ^ 64)) read value e in
    (subst (λ n. n < 2 ^ 64) is.1 (ltb-true read (2 ^ 64) is.0), ap (λ n. Some (n ∷ [])) is.1)

-- a text whose numbers state a value is its line
pub value-text : (text : List ℕ) (value : ℕ) → value_of (numbers_in text) ≡ Some value →
    (value < 2 ^ 64) × (text ≡ decimal value)
value-text text value e =
    let is = states (numbers_in text) value e in
    (is.0, numbers-sound text (value ∷ []) is.1 (is.0, tt))
