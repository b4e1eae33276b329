-- Bytes that are handed on in pieces.
use Rattle.std.proofs.Common.{◌≡◌, ℕ, List, [], ◌∷◌, Option, Result, Ok, Err, OnErr, ◌++◌, arith, append_assoc}
use Rattle.std.proofs.Common.{append-nil, refl, sym, ap, subst, ◌∙◌, length-append}
use Rattle.std.specs.Io.KnownBytes.{Appends}
use Rattle.std.proofs.KnownBytes.{Appends-trans}
use Rattle.flow_text.specs.Bytes.{AddsProperPrefix}
use Rattle.flow_cert.specs.internal.Gathered.{HandsOn}

pub on-err : {T E P : Type 0} (r : Result T E) → P → OnErr r P
on-err (Ok x) p = tt
on-err (Err e) p = p

joined : (x first next front y tail rest : List ℕ) → x ++ first ≡ front ++ y → y ++ next ≡ tail ++ rest →
    x ++ (first ++ next) ≡ (front ++ tail) ++ rest
joined x first next front y tail rest before behind =
    sym (append_assoc x first next)
    ∙ ap (λ t. t ++ next) before
    ∙ append_assoc front y next
    ∙ ap (λ t. front ++ t) behind
    ∙ sym (append_assoc front tail rest)

-- one piece after the other
pub then-hands : {a b c : Option (List ℕ)} {x y z first next : List ℕ} → HandsOn a b x first y → HandsOn b c y next z →
    HandsOn a c x (first ++ next) z
then-hands {a = a} {b = b} {c = c} {x = x} {y = y} {z = z} {first = first} {next = next} h k = record {
  front = h.front ++ k.front;
  whole = joined x first next h.front y k.front z h.whole k.whole;
  added = Appends-trans a b c h.front k.front h.added k.added;
}

-- a piece that is not handed on whole, after another
pub then-stops : {a b : Option (List ℕ)} {x y first : List ℕ} (c : Option (List ℕ)) (next : List ℕ) →
    HandsOn a b x first y → AddsProperPrefix b c (y ++ next) → AddsProperPrefix a c (x ++ (first ++ next))
then-stops {a = a} {b = b} {x = x} {y = y} {first = first} c next h (front, back, whole, some, added) = (
  h.front ++ front,
  back,
  joined x first next h.front y front back h.whole whole,
  some,
  Appends-trans a b c h.front
      front h.added added,
)

-- nor is a text that begins with it
pub stops-within : (a b : Option (List ℕ)) (x done rest text : List ℕ) → text ≡ done ++ rest →
    AddsProperPrefix a b (x ++ done) → AddsProperPrefix a b (x ++ text)
stops-within a b x done rest text is (front, back, whole, some, added) = (
  front,
  back ++ rest,
  ap (λ t. x ++ t) is ∙ sym (append_assoc x done rest) ∙ ap (λ t. t ++ rest) whole ∙ append_assoc front back rest,
  omega (arith, length-append back rest),
  added,
)

-- a text with some pieces after it
abbrev pub behind : List ℕ → List (List ℕ) → List ℕ
behind text [] = text
behind text (piece ∷ pieces) = behind (text ++ piece) pieces

-- where a text is not handed on whole, nor is it with pieces after it
pub stops-early : (a b : Option (List ℕ)) (x text : List ℕ) (pieces : List (List ℕ)) →
    AddsProperPrefix a b (x ++ text) → AddsProperPrefix a b (x ++ behind text pieces)
stops-early a b x text [] h = h
stops-early a b x text (piece ∷ pieces) h =
    stops-early a b x (text ++ piece) pieces (stops-within a b x text piece (text ++ piece) refl h)

-- all that was gathered is put, and what follows too
pub puts-straight : (a b c : Option (List ℕ)) (x bytes z : List ℕ) → Appends a b x → z ≡ [] → Appends b c bytes →
    HandsOn a c x bytes z
puts-straight a b c x bytes z first none next = record {
  front = x ++ bytes;
  whole = sym (ap (λ t. (x ++ bytes) ++ t) none ∙ append-nil (x ++ bytes));
  added = Appends-trans a b c x bytes first next;
}

-- all that was gathered is put, but not what follows
pub puts-then-stops : (a b c : Option (List ℕ)) (x bytes : List ℕ) → Appends a b x → AddsProperPrefix b c bytes →
    AddsProperPrefix a c (x ++ bytes)
puts-then-stops a b c x bytes first (front, back, whole, some, added) = (
  x ++ front,
  back,
  ap (λ t. x ++ t) whole
      ∙ sym (append_assoc x front back),
  some,
  Appends-trans a b c x front first added,
)

-- a text is handed on, and what is gathered at its end is put
pub then-puts : {a b : Option (List ℕ)} {y text : List ℕ} (c : Option (List ℕ)) → HandsOn a b [] text y →
    Appends b c y → Appends a c text
then-puts {a = a} {b = b} {y = y} c h k = subst (Appends a c) (sym h.whole) (Appends-trans a b c h.front y h.added k)

-- a text is handed on, and what is gathered at its end is not put whole
pub then-stops_putting : {a b : Option (List ℕ)} {y text : List ℕ} (c : Option (List ℕ)) → HandsOn a b [] text y →
    AddsProperPrefix b c y → AddsProperPrefix a c text
then-stops_putting {a = a} {b = b} c h (front, back, whole, some, added) = (
  h.front ++ front,
  back,
  h.whole ∙ ap (λ t. h.front ++ t) whole ∙ sym (append_assoc h.front front back),
  some,
  Appends-trans a b c h.front front h.added added,
)
