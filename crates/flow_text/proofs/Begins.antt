-- Bytes that came, those that come next, and what both together begin with.
use Rattle.std.proofs.Common.{◌≡◌, ◌∙◌, ◌++◌, ℕ, List, [], ◌∷◌, length, take, drop, min, ap, refl}
use Rattle.std.proofs.lemmas.List.{append_assoc, take_min, drop_min}
use Rattle.flow_shop.specs.Sequences.{Extends}

-- where both together begin so, each begins with its part of it
pub begin-parts : (all next begin : List ℕ) → Extends (all ++ next) begin →
    Extends all (take (length all) begin) × Extends next (drop (length all) begin)
begin-parts [] next begin h = (([], refl), h)
begin-parts (x ∷ all) next [] h = ((x ∷ all, refl), (next, refl))
begin-parts (x ∷ all) next (b ∷ begin) (rest, is) =
    let tail : all ++ next ≡ begin ++ rest = cc in
    let head : x ≡ b = cc in
    let parts = begin-parts all next begin (rest, tail) in
    let first : x ∷ all ≡ b ∷ (take (length all) begin ++ parts.0.0) = cc in
    ((parts.0.0, first), parts.1)

-- where each begins with its part of it, both together begin so
pub begin-whole : (all next begin : List ℕ) → Extends all (take (length all) begin) →
    Extends next (drop (length all) begin) → Extends (all ++ next) begin
begin-whole [] next begin h k = k
begin-whole (x ∷ all) next [] h k = (x ∷ all ++ next, refl)
begin-whole (x ∷ all) next (b ∷ begin) (rest, is) k =
    let whole = begin-whole all next begin (rest, cc) k in
    let head : x ≡ b = cc in
    let both : x ∷ (all ++ next) ≡ b ∷ (begin ++ whole.0) = cc in
    (whole.0, both)

-- as much of what is to begin the bytes as these bytes are long
pub begin-front : (all begin front : List ℕ) (m : ℕ) → m ≡ min (length all) (length begin) → front ≡ take m begin →
    front ≡ take (length all) begin
begin-front all begin front m is e = e ∙ ap (λ n. take n begin) is ∙ take_min (length all) begin

-- the rest of it
pub begin-back : (all begin back : List ℕ) (m : ℕ) → m ≡ min (length all) (length begin) → back ≡ drop m begin →
    back ≡ drop (length all) begin
begin-back all begin back m is e = e ∙ ap (λ n. drop n begin) is ∙ drop_min (length all) begin

-- what begins so goes on so
pub goes-on : (all next begin : List ℕ) → Extends all begin → Extends (all ++ next) begin
goes-on all next begin (rest, is) = (rest ++ next, ap (λ bytes. bytes ++ next) is ∙ append_assoc begin rest next)
