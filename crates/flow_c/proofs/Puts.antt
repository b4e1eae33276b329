-- What a slice holds once three parts are put into it, one after another.
use Rattle.std.proofs.Common.{◌≡◌, ◌∙◌, ap, sym, ℕ, ◌+◌, ◌-◌, ◌≤◌, List, [], ◌++◌, length, take, drop, arith}
use Rattle.std.proofs.Common.{length-append, length-drop}
use Rattle.std.proofs.Common.{subst}
use Rattle.std.proofs.Math.Seq.{take-append-add, drop-append-add, take-length}
use Rattle.std.proofs.lemmas.List.{append-nil, drop-drop, length-take-le, nil_from_length}
use Rattle.flow_c.specs.internal.Around.{with_directions}
use borrow.Rule.Slice.PartMut.{put_mid}

-- the rest of a slice, from a place on
rest-put : (a : ℕ) (xs ys : List ℕ) → a ≤ length xs → put_mid a (length xs - a) xs ys ≡ take a xs ++ ys
rest-put a xs ys low =
    let none : drop (length xs - a) (drop a xs) ≡ [] =
    nil_from_length (drop (length xs - a) (drop a xs))
    (omega (arith, length-drop a xs, length-drop (length xs - a) (drop a xs))) in
    ap (λ t. take a xs ++ (ys ++ t)) none ∙ ap (λ t. take a xs ++ t) (append-nil ys)

-- two parts after a front: the front and the first of them
front-put : (a b : ℕ) (xs ys : List ℕ) → a ≤ length xs →
    take (a + b) (put_mid a (length xs - a) xs ys) ≡ take a xs ++ take b ys
front-put a b xs ys low =
    ap (take (a + b)) (rest-put a xs ys low)
    ∙ ap (λ n. take (n + b) (take a xs ++ ys)) (sym (length-take-le a xs low))
    ∙ take-append-add (take a xs) ys b

-- what stands after them
rest-stays : (a b : ℕ) (xs ys : List ℕ) → a ≤ length xs →
    drop (a + b) (put_mid a (length xs - a) xs ys) ≡ drop b ys
rest-stays a b xs ys low =
    ap (drop (a + b)) (rest-put a xs ys low)
    ∙ ap (λ n. drop (n + b) (take a xs ++ ys)) (sym (length-take-le a xs low))
    ∙ drop-append-add (take a xs) ys b

-- three parts: all of them stand at the front
parts-put : (one two three own second third : List ℕ) (a b c : ℕ) → a ≤ length own →
    a + b ≤ length (put_mid a (length own - a) own second) →
    take a own ≡ one → take b second ≡ two → take c third ≡ three →
    take (a + b + c)
    (put_mid (a + b) (length (put_mid a (length own - a) own second) - (a + b)) (put_mid a (length own - a) own second)
    third)
    ≡ one ++ two ++ three
parts-put one two three own second third a b c low enough first middle last =
    front-put (a + b) c (put_mid a (length own - a) own second) third enough
    ∙ ap (λ t. t ++ take c third) (front-put a b own second low)
    ∙ ap (λ t. t ++ take b second ++ take c third) first
    ∙ ap (λ t. one ++ t ++ take c third) middle
    ∙ ap (λ t. one ++ two ++ t) last

-- and what stands behind them stays
parts-leave : (before own second third : List ℕ) (a b c : ℕ) → a ≤ length own →
    a + b ≤ length (put_mid a (length own - a) own second) →
    drop a own ≡ drop a before → drop b second ≡ drop b (drop a own) →
    drop c third ≡ drop c (drop (a + b) (put_mid a (length own - a) own second)) →
    drop (a + b + c)
    (put_mid (a + b) (length (put_mid a (length own - a) own second) - (a + b)) (put_mid a (length own - a) own second)
    third)
    ≡ drop (a + b + c) before
parts-leave before own second third a b c low enough first middle last =
    rest-stays (a + b) c (put_mid a (length own - a) own second) third enough
    ∙ last
    ∙ ap (drop c) (rest-stays a b own second low)
    ∙ ap (drop c) middle
    ∙ ap (λ t. drop c (drop b t)) first
    ∙ ap (drop c) (drop-drop b a before)
    ∙ drop-drop c (a + b) before

-- the rest of a list from a place on
rest-of : (a : ℕ) (xs : List ℕ) → take (length xs - a) (drop a xs) ≡ drop a xs
rest-of a xs = ap (λ k. take k (drop a xs)) (sym (length-drop a xs)) ∙ take-length (drop a xs)

-- a slice keeps its length
put-length : (a : ℕ) (xs ys : List ℕ) → a ≤ length xs → length (put_mid a (length xs - a) xs ys) ≡ a + length ys
put-length a xs ys low =
    let own : length (take a xs) ≡ a = length-take-le a xs low in
    omega (arith, ap length (rest-put a xs ys low), length-append (take a xs) ys, own)

-- the parts of a text fit a slice that has room for it
parts-fit : (around directions before own second : List ℕ) → 5 ≤ length around →
    length around + length directions ≤ length before → length own ≡ length before →
    length second ≡ length (take (length own - (length around - 5)) (drop (length around - 5) own)) →
    (length around - 5 ≤ length own)
    × (length around - 5 + length directions
    ≤ length (put_mid (length around - 5) (length own - (length around - 5)) own second))
parts-fit around directions before own second long_enough enough same whole =
    let end : ℕ = length around - 5 in
    let low : end ≤ length own = omega (arith, long_enough, enough, same) in
    let size : length second ≡ length own - end =
    whole ∙ ap length (rest-of end own) ∙ length-drop end own in
    (low, omega (arith, long_enough, enough, same, size, put-length end own second low))

-- the ending is the last five bytes
ending-size : (around : List ℕ) → 5 ≤ length around →
    length (take (length around - (length around - 5)) (drop (length around - 5) around)) ≡ 5
ending-size around long_enough =
    let end : ℕ = length around - 5 in
    omega (arith, long_enough, ap length (rest-of end around), length-drop end around)

-- a text whose parts are put into a slice stands at its front
pub text-put : (around directions before own second third : List ℕ) → 5 ≤ length around →
    length around + length directions ≤ length before → length own ≡ length before →
    length second ≡ length (take (length own - (length around - 5)) (drop (length around - 5) own)) →
    take (length (take (length around - 5) around)) own ≡ take (length around - 5) around →
    take (length directions) second ≡ directions →
    take (length (take (length around - (length around - 5)) (drop (length around - 5) around))) third
    ≡ take (length around - (length around - 5)) (drop (length around - 5) around) →
    take (length around - 5 + length directions + 5)
    (put_mid (length around - 5 + length directions)
    (length (put_mid (length around - 5) (length own - (length around - 5)) own second)
    - (length around - 5 + length directions))
    (put_mid (length around - 5) (length own - (length around - 5)) own second) third)
    ≡ with_directions around directions
text-put around directions before own second third long_enough enough same whole one two three =
    let end : ℕ = length around - 5 in
    let fit = parts-fit around directions before own second long_enough enough same whole in
    let first : take end own ≡ take end around =
    subst (λ k. take k own ≡ take end around) (length-take-le end around (omega arith)) one in
    let last : take 5 third ≡ drop end around =
    subst (λ k. take k third ≡ drop end around) (ending-size around long_enough) (three ∙ rest-of end around) in
    parts-put (take end around) directions (drop end around) own second third end (length directions) 5 fit.0 fit.1
    first
    two last

-- and what stands behind it stays
pub text-leaves : (around directions before own second third : List ℕ) → 5 ≤ length around →
    length around + length directions ≤ length before → length own ≡ length before →
    length second ≡ length (take (length own - (length around - 5)) (drop (length around - 5) own)) →
    drop (length (take (length around - 5) around)) own ≡ drop (length (take (length around - 5) around)) before →
    drop (length directions) second
    ≡ drop (length directions) (take (length own - (length around - 5)) (drop (length around - 5) own)) →
    drop (length (take (length around - (length around - 5)) (drop (length around - 5) around))) third
    ≡ drop (length (take (length around - (length around - 5)) (drop (length around - 5) around)))
    (take
    (length (put_mid (length around - 5) (length own - (length around - 5)) own second)
    - (length around - 5 + length directions))
    (drop (length around - 5 + length directions)
    (put_mid (length around - 5) (length own - (length around - 5)) own second))) →
    drop (length around - 5 + length directions + 5)
    (put_mid (length around - 5 + length directions)
    (length (put_mid (length around - 5) (length own - (length around - 5)) own second)
    - (length around - 5 + length directions))
    (put_mid (length around - 5) (length own - (length around - 5)) own second) third)
    ≡ drop (length around - 5 + length directions + 5) before
text-leaves around directions before own second third long_enough enough same whole one two three =
    let end : ℕ = length around - 5 in
    let place : ℕ = end + length directions in
    let now : List ℕ = put_mid end (length own - end) own second in
    let fit = parts-fit around directions before own second long_enough enough same whole in
    let first : drop end own ≡ drop end before =
    subst (λ k. drop k own ≡ drop k before) (length-take-le end around (omega arith)) one in
    let middle : drop (length directions) second ≡ drop (length directions) (drop end own) =
    two ∙ ap (drop (length directions)) (rest-of end own) in
    let last : drop 5 third ≡ drop 5 (drop place now) =
    subst (λ k. drop k third ≡ drop k (drop place now)) (ending-size around long_enough)
    (three ∙ ap (drop (length (take (length around - end) (drop end around)))) (rest-of place now)) in
    parts-leave before own second third end (length directions) 5 fit.0 fit.1 first middle last
