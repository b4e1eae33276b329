-- Lines that are written in pieces.
use Rattle.std.proofs.Common.{◌≡◌, ◌<◌, ◌+◌, ℕ, suc, List, [], ◌∷◌, ◌++◌, length, map, take, drop, get_or, refl}
use Rattle.std.proofs.Common.{append_assoc, append-nil, sym, ap, ◌∙◌}
use Rattle.std.specs.Fmt.{decimal}
use Rattle.std.specs.List.{flat_map}
use Rattle.std.proofs.Math.Seq.{split_at}
use Rattle.std.proofs.lemmas.List.{take_more}
use Rattle.flow_check.specs.TextLines.{line, spaced}

-- what stands between some numbers and the next
abbrev pub gap_behind : List ℕ → List ℕ
gap_behind [] = []
gap_behind (n ∷ ns) = 32 ∷ []

-- what stands after a number
abbrev pub rest_behind : List ℕ → List ℕ
rest_behind [] = []
rest_behind (n ∷ ns) = 32 ∷ spaced (n ∷ ns)

number-first : (n : ℕ) (ns : List ℕ) → spaced (n ∷ ns) ≡ decimal n ++ rest_behind ns
number-first n [] = sym (append-nil (decimal n))
number-first n (m ∷ ns) = refl

numbers-split : (done : List ℕ) (n : ℕ) (ns : List ℕ) → spaced (done ++ n ∷ ns) ≡ (spaced done ++ gap_behind done)
    ++ spaced (n ∷ ns)
numbers-split [] n ns = refl
numbers-split (m ∷ []) n ns = sym (append_assoc (decimal m) (32 ∷ []) (spaced (n ∷ ns)))
numbers-split (m ∷ k ∷ ms) n ns =
    ap (λ t. decimal m ++ 32 ∷ t) (numbers-split (k ∷ ms) n ns)
    ∙ sym (append_assoc (decimal m) ((32 ∷ spaced (k ∷ ms)) ++ 32 ∷ []) (spaced (n ∷ ns)))
    ∙ ap (λ t. t ++ spaced (n ∷ ns)) (sym (append_assoc (decimal m) (32 ∷ spaced (k ∷ ms)) (32 ∷ [])))

-- a line of numbers, up to one of them
pub at-number : (ns : List ℕ) (i n : ℕ) (gap : List ℕ) → i < length ns → n ≡ get_or ns i 0 →
    gap ≡ gap_behind (take i ns) →
    line (spaced ns) ≡ ((spaced (take i ns) ++ gap) ++ decimal n) ++ (rest_behind (drop (suc i) ns) ++ 10 ∷ [])
at-number ns i n gap h is behind =
    let next : ℕ = get_or ns i 0 in
    let more : List ℕ = drop (suc i) ns in
    let front : List ℕ = spaced (take i ns) ++ gap_behind (take i ns) in
    ap line
    (ap spaced (split_at ns i 0 h) ∙ numbers-split (take i ns) next more ∙ ap (λ t. front ++ t) (number-first next more)
    ∙ sym (append_assoc front (decimal next) (rest_behind more)))
    ∙ append_assoc (front ++ decimal next) (rest_behind more) (10 ∷ [])
    ∙ ap (λ m. (front ++ decimal m) ++ (rest_behind more ++ 10 ∷ [])) (sym is)
    ∙ ap (λ t. ((spaced (take i ns) ++ t) ++ decimal n) ++ (rest_behind more ++ 10 ∷ [])) (sym behind)

-- one more number
pub one-more-number : (ns : List ℕ) (i n : ℕ) (gap : List ℕ) → i < length ns → n ≡ get_or ns i 0 →
    gap ≡ gap_behind (take i ns) →
    spaced (take (i + 1) ns) ≡ (spaced (take i ns) ++ gap) ++ decimal n
one-more-number ns i n gap h is behind =
    ap spaced (take_more ns i 0 h)
    ∙ numbers-split (take i ns) (get_or ns i 0) []
    ∙ ap (λ m. (spaced (take i ns) ++ gap_behind (take i ns)) ++ decimal m) (sym is)
    ∙ ap (λ t. (spaced (take i ns) ++ t) ++ decimal n) (sym behind)

-- after a number there is a gap
pub gap-more : (ns : List ℕ) (i : ℕ) → i < length ns → 32 ∷ [] ≡ gap_behind (take (i + 1) ns)
gap-more ns i h = sym (ap gap_behind (take_more ns i 0 h) ∙ some (take i ns) (get_or ns i 0))
  where
    some : (ms : List ℕ) (n : ℕ) → gap_behind (ms ++ n ∷ []) ≡ 32 ∷ []
    some [] n = refl
    some (m ∷ ms) n = refl

lines-append : {V : Type 0} (text : V → List ℕ) (xs ys : List V) →
    flat_map line (map text (xs ++ ys)) ≡ flat_map line (map text xs) ++ flat_map line (map text ys)
lines-append text [] ys = refl
lines-append text (x ∷ xs) ys =
    ap (λ t. line (text x) ++ t) (lines-append text xs ys)
    ∙ sym (append_assoc (line (text x)) (flat_map line (map text xs)) (flat_map line (map text ys)))

-- lines, up to one of them
pub at-line : {V : Type 0} (text : V → List ℕ) (xs : List V) (i : ℕ) (x : V) (bytes : List ℕ) → i < length xs →
    x ≡ get_or xs i x → bytes ≡ text x →
    flat_map line (map text xs) ≡ (flat_map line (map text (take i xs)) ++ line bytes)
    ++ flat_map line (map text (drop (suc i) xs))
at-line text xs i x bytes h at is =
    let more = drop (suc i) xs in
    ap (λ ys. flat_map line (map text ys)) (split_at xs i x h)
    ∙ lines-append text (take i xs) (get_or xs i x ∷ more)
    ∙ ap (λ y. flat_map line (map text (take i xs)) ++ (line (text y) ++ flat_map line (map text more))) (sym at)
    ∙ ap (λ t. flat_map line (map text (take i xs)) ++ (line t ++ flat_map line (map text more))) (sym is)
    ∙ sym (append_assoc (flat_map line (map text (take i xs))) (line bytes) (flat_map line (map text more)))

-- one more line
pub one-more-line : {V : Type 0} (text : V → List ℕ) (xs : List V) (i : ℕ) (x : V) (bytes : List ℕ) → i < length xs →
    x ≡ get_or xs i x → bytes ≡ text x →
    flat_map line (map text (take (i + 1) xs)) ≡ flat_map line (map text (take i xs)) ++ line bytes
one-more-line text xs i x bytes h at is =
    ap (λ ys. flat_map line (map text ys)) (take_more xs i x h)
    ∙ lines-append text (take i xs) (get_or xs i x ∷ [])
    ∙ ap (λ y. flat_map line (map text (take i xs)) ++ (line (text y) ++ [])) (sym at)
    ∙ ap (λ t. flat_map line (map text (take i xs)) ++ t) (append-nil (line (text x)))
    ∙ ap (λ t. flat_map line (map text (take i xs)) ++ line t) (sym is)

-- the line of two numbers, in pieces
pub two-numbers : (a b : ℕ) → line (spaced (a ∷ b ∷ [])) ≡ (decimal a ++ 32 ∷ []) ++ line (decimal b)
two-numbers a b =
    append_assoc (decimal a) (32 ∷ decimal b) (10 ∷ []) ∙ sym (append_assoc (decimal a) (32 ∷ []) (line (decimal b)))
