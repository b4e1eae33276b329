-- The first line, the line of an instance's size and a depth, and the line of two bounds.
use Rattle.std.proofs.Common.{◌≡◌, ◌≢◌, ℕ, ◌+◌, ◌≤◌, ◌<◌, ◌^◌, true, false, nat_eq, List, [], ◌∷◌, ◌++◌, length}
use Rattle.std.proofs.Common.{take, drop, Option, Some, None, IfSome, Bor, ap, sym, ◌∙◌, append_assoc, arith}
use Rattle.std.specs.Fmt.{decimal}
use Rattle.std.specs.Option.{MatchOption, IsSomeAnd}
use Rattle.std.specs.Cmp.Lexicographic.{pointwise}
use Rattle.std.proofs.lemmas.Bool.Decides.{Decides-eqb}
use Rattle.std.proofs.lemmas.Slice.Eq.{strip_prefix_is}
use Rattle.flow_shop.specs.Limits.{greatest_depth}
use Rattle.std.specs.Prelude.{codes}
use Rattle.flow_check.specs.TextLines.{line, spaced, title}
use Rattle.flow_check.specs.internal.Heading.{BeginsWithNumber}
use Rattle.flow_check.specs.internal.FourLines.{BeginsWithBounds}
use Rattle.flow_check.specs.declared.bounds.Bounds.{Bounds}
use Rattle.flow_check.proofs.TextBegins.{cancel}

-- the first line ends in its version
pub title-parts : (version : ℕ) (rest : List ℕ) →
    line (title version) ++ rest ≡ codes "flowshop certificate " ++ (decimal version ++ 10 ∷ rest)
title-parts version rest =
    append_assoc (title version) (10 ∷ []) rest
    ∙ append_assoc (codes "flowshop certificate ") (decimal version) (10 ∷ rest)

-- its three numbers, each with the byte that ends it
pub size-parts : (a b d : ℕ) (rest : List ℕ) → line (spaced (a ∷ b ∷ d ∷ [])) ++ rest ≡ decimal a ++ 32
    ∷ (decimal b ++ 32 ∷ (decimal d ++ 10 ∷ rest))
size-parts a b d rest =
    append_assoc (decimal a ++ 32 ∷ (decimal b ++ 32 ∷ decimal d)) (10 ∷ []) rest
    ∙ append_assoc (decimal a) (32 ∷ (decimal b ++ 32 ∷ decimal d)) (10 ∷ rest)
    ∙ ap (λ xs. decimal a ++ 32 ∷ xs) (append_assoc (decimal b) (32 ∷ decimal d) (10 ∷ rest))

pub depth-fits : (depth : ℕ) → depth ≤ greatest_depth → depth < 2 ^ 64
depth-fits depth h = let small : depth ≤ 3 = h in omega arith

-- the two bounds, each with the byte that ends it
pub bounds-parts : (a b : ℕ) (rest : List ℕ) →
    line (spaced (a ∷ b ∷ [])) ++ rest ≡ decimal a ++ 32 ∷ (decimal b ++ 10 ∷ rest)
bounds-parts a b rest =
    append_assoc (decimal a ++ 32 ∷ decimal b) (10 ∷ []) rest
    ∙ append_assoc (decimal a) (32 ∷ decimal b) (10 ∷ rest)

-- the lower bound comes first, and the upper one after it
pub first-bound : (text rest : List ℕ) (bounds : Bounds) → BeginsWithBounds text bounds rest →
    BeginsWithNumber text 32 bounds.lower (decimal bounds.upper ++ 10 ∷ rest)
first-bound text rest bounds h = (h.0.0, h.1 ∙ bounds-parts bounds.lower bounds.upper rest)

-- what begins with some bytes
some-of : {A : Type 0} (P : Type 0) (Q : A → Type 0) (o : Option A) → MatchOption o P Q → IfSome o Q
some-of P Q None h = tt
some-of P Q (Some x) h = h

-- what is known of the text behind a start, where it was found
abbrev IsStripped : List ℕ → List ℕ → Option (Bor (List ℕ)) → Type 0
IsStripped text start o =
    MatchOption o (pointwise nat_eq (take (length start) text) start ≡ false)
    (λ x. (pointwise nat_eq (take (length start) text) start ≡ true) × (x.now ≡ drop (length start) text)
    × (length x.now + length start ≡ length text))

pub stripped : (text start : List ℕ) (o : Option (Bor (List ℕ))) → IsStripped text start o →
    IfSome o (λ rest. text ≡ start ++ rest.now)
stripped text start o h = some-of _ _ o (strip_prefix_is Decides-eqb text start o h)

pub stripped-only : (text start : List ℕ) (o : Option (Bor (List ℕ))) → IsStripped text start o →
    (rest : List ℕ) → text ≡ start ++ rest → IsSomeAnd o (λ r. r.now ≡ rest)
stripped-only text start o h rest e = only o (strip_prefix_is Decides-eqb text start o h)
  where
    only : (o : Option (Bor (List ℕ))) →
        MatchOption o ((more : List ℕ) → text ≢ start ++ more) (λ x. text ≡ start ++ x.now) →
        IsSomeAnd o (λ r. r.now ≡ rest)
    only None none = absurd (none rest e)
    only (Some r) is = cancel start r.now rest (sym is ∙ e)
