-- The line of two bounds: what is read of it is what it states.
use Rattle.std.proofs.Common.{◌≡◌, ◌&&◌, nat_lt, ◌^◌, ℕ, cond, List, [], ◌∷◌, Option, Some, None, ap, subst}
use Rattle.std.proofs.Common.{◌∙◌}
use Rattle.std.proofs.lemmas.Bool.{ltb-true, lt-ltb, and_from, and_parts}
use Rattle.std.proofs.lemmas.Option.{none-some, cond_some}
use Rattle.flow_check.specs.TextLines.{spaced}
use Rattle.flow_check.specs.FourLines.{AreInRange}
use Rattle.flow_check.specs.internal.Reading.{numbers_in}
use Rattle.flow_check.specs.declared.bounds.Bounds.{Bounds}
use Rattle.flow_check.proofs.Numbers.{IsPlain, numbers-sound, numbers-complete, spaced-plain}

-- the numbers of the line
abbrev pub numbers_of : Bounds → List ℕ
numbers_of bounds = bounds.lower ∷ bounds.upper ∷ []

-- the bounds that numbers state
abbrev pub bounds_of : Option (List ℕ) → Option Bounds
bounds_of (Some (lower ∷ upper ∷ [])) =
    cond (nat_lt lower (2 ^ 64) && nat_lt upper (2 ^ 64)) (Some (record { lower = lower; upper = upper })) None
bounds_of other = None

pub bounds-plain : (bounds : Bounds) → AreInRange bounds → IsPlain (spaced (numbers_of bounds))
bounds-plain bounds fits = spaced-plain (numbers_of bounds) (fits.0, (fits.1, tt))

pub bounds-known : (bounds : Bounds) → AreInRange bounds →
    bounds_of (numbers_in (spaced (numbers_of bounds))) ≡ Some bounds
bounds-known bounds fits =
    ap bounds_of (numbers-complete bounds.lower (bounds.upper ∷ []) (fits.0, (fits.1, tt)))
    ∙ ap (λ b. cond b (Some bounds) None)
    (and_from (nat_lt bounds.lower (2 ^ 64)) (nat_lt bounds.upper (2 ^ 64))
    (lt-ltb bounds.lower (2 ^ 64) fits.0) (lt-ltb bounds.upper (2 ^ 64) fits.1))

-- numbers that state bounds are those of their line
states : (numbers : Option (List ℕ)) (bounds : Bounds) → bounds_of numbers ≡ Some bounds →
    AreInRange bounds × (numbers ≡ Some (numbers_of bounds))
states None bounds e = absurd (none-some bounds e)
states (Some []) bounds e = absurd (none-some bounds e)
states (Some (a ∷ [])) bounds e = absurd (none-some bounds e)
states (Some (a ∷ b ∷ n ∷ ns)) bounds e = absurd (none-some bounds e)
states (Some (lower ∷ upper ∷ [])) bounds e =
    let read : Bounds = record { lower = lower; upper = upper } in
    let is = cond_some (nat_lt lower (2 ^ 64) && nat_lt upper (2 ^ 64)) read bounds e in
    let small = and_parts (nat_lt lower (2 ^ 64)) (nat_lt upper (2 ^ 64)) is.0 in (
      subst AreInRange is.1 (ltb-true lower (2 ^ 64) small.0, ltb-true upper (2 ^ 64) small.1),
      ap (λ (b : Bounds). Some (numbers_of b)) is.1,
    )

-- a text whose numbers state bounds is their line
pub bounds-text : (text : List ℕ) (bounds : Bounds) → bounds_of (numbers_in text) ≡ Some bounds →
    AreInRange bounds × (text ≡ spaced (numbers_of bounds))
bounds-text text bounds e =
    let is = states (numbers_in text) bounds e in
    (is.0, numbers-sound text (numbers_of bounds) is.1 (is.0.0, (is.0.1, tt)))
