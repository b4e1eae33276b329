-- How long a proof is that a report states: what is counted in a lawful text.
use Rattle.std.proofs.Common.{◌≡◌, ◌^◌, ◌<◌, ◌≤◌, ◌+◌, ◌-◌, ◌||◌, ℕ, zero, suc, Bool, true, false, cond, List, []}
use Rattle.std.proofs.Common.{◌∷◌, ◌++◌}
use Rattle.std.proofs.Common.{Some, None, nat_eq, length, length-append, refl, ap, ap₂, sym, subst, ◌∙◌, inl, inr}
use Rattle.std.proofs.Common.{append_assoc, codes, unwrap_or}
use Rattle.std.proofs.Common.{arith}
use Rattle.std.specs.Fmt.{decimal}
use Rattle.std.specs.List.{AllByRecursion, AllZip, concat, count_by, flat_map, slice_get, slice_split}
use Rattle.std.proofs.lemmas.Bool.{ne_eqb}
use Rattle.std.proofs.lemmas.Fmt.{decimal_is_IsNumeral}
use Rattle.std.proofs.lemmas.Option.{none-some}
use Rattle.std.proofs.lemmas.List.Elements.{All-from_recursion}
use Rattle.std.proofs.lemmas.List.Splits.{slice_split_at}
use Rattle.std.proofs.lemmas.List.Sums.{sum_by-append, sum_by-cons}
use Rattle.flow_core.specs.Limits.{greatest_depth}
use Rattle.flow_core.specs.Shop.{IsWithinLimits, Shop}
use Rattle.flow_core.specs.Bound.{bound_of}
use Rattle.flow_core.specs.Sequences.{IsSequence, cut, jobs_left}
use Rattle.flow_core.specs.Directions.{ProvesWith, first_with, last_with, sign}
use Rattle.flow_check.specs.Certificate.{Covers}
use Rattle.flow_check.specs.TextLines.{IsVersion, certificate_text, ending, heading, line, spaced, title, upto_sizes}
use Rattle.flow_check.specs.TextLines.{upto_title}
use Rattle.flow_check.specs.TextLines.{upto_value}
use Rattle.flow_check.specs.Counted.{counted_title}
use Rattle.flow_check.specs.FourLines.{bounds_lines, sequence_lines, size_lines}
use Rattle.flow_check.specs.TwoEnded.{two_ended_title}
use Rattle.flow_check.specs.declared.bounds.Bounds.{Bounds}
use Rattle.flow_check.proofs.DirectionsRead.{sign-end}
use Rattle.flow_check.proofs.Exact.{sequence-fit, size-fit}
use Rattle.flow_check.proofs.ExactLines.{plain-test, title-plain}
use Rattle.flow_check.proofs.Numbers.{AreDigits, Fit, digits-model, tells-digits}
use Rattle.flow_commands.specs.Report.{ReportStatesDirections, ReportStatesNodes, ReportStatesTrees}
use Rattle.flow_commands.specs.Report.{is_direction, is_line_end}

-- no byte of a text passes a test
abbrev HasNone : (ℕ → Bool) → List ℕ → Type 0
HasNone test text = AllByRecursion (λ b. test b ≡ false) text

-- no digit passes a test
abbrev PassesNoDigit : (ℕ → Bool) → Type 0
PassesNoDigit test = (b : ℕ) → 48 ≤ b → b ≤ 57 → test b ≡ false

-- what a byte counts
abbrev one_if : Bool → ℕ
one_if is = cond is 1 0

count-append : (test : ℕ → Bool) (xs ys : List ℕ) →
    count_by test (xs ++ ys) ≡ count_by test xs + count_by test ys
count-append test xs ys = sum_by-append (λ b. one_if (test b)) xs ys

count-cons : (test : ℕ → Bool) (x : ℕ) (xs : List ℕ) →
    count_by test (x ∷ xs) ≡ one_if (test x) + count_by test xs
count-cons test x xs = sum_by-cons (λ b. one_if (test b)) x xs

count-none : (test : ℕ → Bool) (xs : List ℕ) → HasNone test xs → count_by test xs ≡ 0
count-none test [] h = refl
count-none test (x ∷ xs) h =
    let all = count-cons test x xs in
    let first = ap one_if h.0 in
    let rest = count-none test xs h.1 in
    omega (arith, all, first, rest)

none-append : (test : ℕ → Bool) (xs ys : List ℕ) → HasNone test xs → HasNone test ys → HasNone test (xs ++ ys)
none-append test [] ys h k = k
none-append test (x ∷ xs) ys h k = (h.0, none-append test xs ys h.1 k)

none-digits : (test : ℕ → Bool) → PassesNoDigit test → (ds : List ℕ) → AreDigits ds → HasNone test ds
none-digits test off [] h = tt
none-digits test off (d ∷ ds) h =
    let k = tells-digits.parts d ds h in (off d k.0.0 k.0.1, none-digits test off ds k.1)

none-decimal : (test : ℕ → Bool) → PassesNoDigit test → (n : ℕ) → n < 2 ^ 64 → HasNone test (decimal n)
none-decimal test off n fits =
    none-digits test off (decimal n) (digits-model.from (decimal n) (decimal_is_IsNumeral n fits).0.1)

none-spaced : (test : ℕ → Bool) → PassesNoDigit test → test 32 ≡ false → (ns : List ℕ) → Fit ns →
    HasNone test (spaced ns)
none-spaced test off gap [] h = tt
none-spaced test off gap (n ∷ []) h = none-decimal test off n h.0
none-spaced test off gap (n ∷ m ∷ ns) h =
    none-append test (decimal n) (32 ∷ spaced (m ∷ ns)) (none-decimal test off n h.0)
    (gap, none-spaced test off gap (m ∷ ns) h.1)

-- directions

no-direction : PassesNoDigit is_direction
no-direction b low high = ap₂ (λ x y. x || y) (ne_eqb b 43 (omega (arith, low))) (ne_eqb b 45 (omega (arith, low)))

spaced-directions : (ns : List ℕ) → Fit ns → count_by is_direction (line (spaced ns)) ≡ 0
spaced-directions ns fits =
    count-none is_direction (line (spaced ns))
    (none-append is_direction (spaced ns) (10 ∷ []) (none-spaced is_direction no-direction refl ns fits) (refl, tt))

abbrev AreDirections : List ℕ → Type 0
AreDirections text = count_by is_direction text ≡ length text

joined-directions : (R : ℕ → List ℕ → Type 0) → ((job : ℕ) (part : List ℕ) → R job part → AreDirections part) →
    (jobs : List ℕ) (parts : List (List ℕ)) → AllZip R jobs parts → AreDirections (concat parts)
joined-directions R one [] [] h = refl
joined-directions R one [] (part ∷ parts) h = absurd h
joined-directions R one (job ∷ jobs) [] h = absurd h
joined-directions R one (job ∷ jobs) (part ∷ parts) h =
    let all = count-append is_direction part (concat parts) in
    let first = one job part h.0 in
    let rest = joined-directions R one jobs parts h.1 in
    let long = length-append part (concat parts) in
    omega (arith, all, first, rest, long)

-- a byte that is read as an end is a direction
read-end : {E : Type 0} (plus minus : Bool) (front back end : E) →
    cond plus (Some front) (cond minus (Some back) None) ≡ Some end → (plus || minus) ≡ true
read-end true minus front back end e = refl
read-end false true front back end e = refl
read-end false false front back end e = absurd (none-some end e)

signed : (byte : ℕ) (text : List ℕ) → is_direction byte ≡ true → AreDirections text → AreDirections (byte ∷ text)
signed byte text is h =
    let all = count-cons is_direction byte text in
    let first = ap one_if is in
    omega (arith, all, first, h)

are-directions : (shop : Shop) (threshold left : ℕ) (first last text : List ℕ) →
    ProvesWith shop threshold left first last text → AreDirections text
are-directions shop threshold zero first last text h = subst AreDirections (sym h.0) refl
are-directions shop threshold (suc left) first last text (inl h) = subst AreDirections (sym h.0) refl
are-directions shop threshold (suc left) first last text (inr (end, parts, below, is, all)) =
    subst AreDirections (sym is) (signed (sign end) (concat parts)
    (read-end (nat_eq (sign end) 43) (nat_eq (sign end) 45) _ _ end (sign-end end))
    (joined-directions
    (λ job part. ProvesWith shop threshold left (first_with end first job) (last_with end last job) part)
    (λ job part. are-directions shop threshold left (first_with end first job) (last_with end last job) part)
    (jobs_left shop.jobs (first ++ last)) parts all))

-- what is counted in a text of two parts
added : (text xs ys : List ℕ) → text ≡ xs ++ ys → (test : ℕ → Bool) →
    count_by test text ≡ count_by test xs + count_by test ys
added text xs ys is test = ap (λ bytes. count_by test bytes) is ∙ count-append test xs ys

line-directions : (text : List ℕ) → count_by is_direction (line text) ≡ count_by is_direction text
line-directions text =
    let all = added (line text) text (10 ∷ []) refl is_direction in
    let feed = count-none is_direction (10 ∷ []) (refl, tt) in
    omega (arith, all, feed)

frame-directions : (shop : Shop) (bounds : Bounds) (sequence : List ℕ) → IsWithinLimits shop → bounds.lower < 2 ^ 64 →
    bounds.upper < 2 ^ 64 → IsSequence shop.jobs sequence →
    count_by is_direction (sequence_lines two_ended_title shop bounds sequence) ≡ 1
frame-directions shop bounds sequence limits lower upper whole =
    let sizes = shop.jobs ∷ shop.machines ∷ [] in
    let fits = size-fit shop 0 limits (omega arith) in
    let both = bounds.lower ∷ bounds.upper ∷ [] in
    let to_sequence = added (sequence_lines two_ended_title shop bounds sequence)
    (bounds_lines two_ended_title shop bounds) (line (spaced sequence)) refl is_direction in
    let to_bounds = added (bounds_lines two_ended_title shop bounds) (size_lines two_ended_title shop)
    (line (spaced both)) refl is_direction in
    let to_sizes = added (size_lines two_ended_title shop) two_ended_title (line (spaced sizes)) refl is_direction in
    let of_sequence = spaced-directions sequence (sequence-fit shop.jobs sequence limits.jobs whole) in
    let of_bounds = spaced-directions both (lower, (upper, tt)) in
    let of_sizes = spaced-directions sizes (fits.0, (fits.1.0, tt)) in
    let title : count_by is_direction two_ended_title ≡ 1 = refl in
    omega (arith, to_sequence, to_bounds, to_sizes, of_sequence, of_bounds, of_sizes, title)

pub states_directions : ReportStatesDirections
states_directions shop bytes bounds sequence limits lawful =
    let text = lawful.directions in
    let shows = lawful.shows in
    let upper = shows.upper in
    let frame = frame-directions shop bounds sequence limits upper.fit.0 upper.fit.1 upper.whole in
    let start = sequence_lines two_ended_title shop bounds sequence in
    let all = added bytes (start ++ line text) (line ending) lawful.text is_direction in
    let before = added (start ++ line text) start (line text) refl is_direction in
    let of_text = line-directions text in
    let end : count_by is_direction (line ending) ≡ 0 = refl in
    let signs = are-directions shop bounds.lower _ [] [] text shows.proved in
    omega (arith, all, frame, before, of_text, end, signs)

-- trees

no-line-end : PassesNoDigit is_line_end
no-line-end b low high = ne_eqb b 10 (omega (arith, low))

one-line : (text : List ℕ) → HasNone is_line_end text → count_by is_line_end (line text) ≡ 1
one-line text h =
    let all = added (line text) text (10 ∷ []) refl is_line_end in
    let none = count-none is_line_end text h in
    let feed : count_by is_line_end (10 ∷ []) ≡ 1 = refl in
    omega (arith, all, none, feed)

spaced-line : (ns : List ℕ) → Fit ns → count_by is_line_end (line (spaced ns)) ≡ 1
spaced-line ns fits = one-line (spaced ns) (none-spaced is_line_end no-line-end refl ns fits)

joined-plain : (R : List ℕ → List ℕ → Type 0) → ((node part : List ℕ) → R node part → HasNone is_line_end part) →
    (f : ℕ → List ℕ) (jobs : List ℕ) (parts : List (List ℕ)) → AllZip (λ job part. R (f job) part) jobs parts →
    HasNone is_line_end (concat parts)
joined-plain R one f [] [] h = tt
joined-plain R one f [] (part ∷ parts) h = absurd h
joined-plain R one f (job ∷ jobs) [] h = absurd h
joined-plain R one f (job ∷ jobs) (part ∷ parts) h =
    none-append is_line_end part (concat parts) (one (f job) part h.0) (joined-plain R one f jobs parts h.1)

tree-plain : (shop : Shop) (bound : Shop → List ℕ → ℕ → ℕ) (value left : ℕ) (jobs text : List ℕ) →
    Covers shop bound value left jobs text → HasNone is_line_end text
tree-plain shop bound value zero jobs text h = subst (HasNone is_line_end) (sym h.0) (refl, tt)
tree-plain shop bound value (suc left) jobs text (inl (machine, low, high, is, reaches)) =
    subst (HasNone is_line_end) (sym is) (ne_eqb (64 + machine) 10 (omega arith), tt)
tree-plain shop bound value (suc left) jobs text (inr (parts, is, all)) =
    subst (HasNone is_line_end) (sym is) (
      refl,
      joined-plain (Covers shop bound value left) (tree-plain shop bound value left) (λ job. jobs ++ job ∷ [])
          (jobs_left shop.jobs jobs) parts all,
    )

tree-lines : (R : List ℕ → List ℕ → Type 0) → ((node tree : List ℕ) → R node tree → HasNone is_line_end tree) →
    (prefixes trees : List (List ℕ)) → AllZip R prefixes trees →
    count_by is_line_end (flat_map line trees) ≡ length trees
tree-lines R one [] [] h = refl
tree-lines R one [] (tree ∷ trees) h = absurd h
tree-lines R one (prefix ∷ prefixes) [] h = absurd h
tree-lines R one (prefix ∷ prefixes) (tree ∷ trees) h =
    let all = count-append is_line_end (line tree) (flat_map line trees) in
    let first = one-line tree (one prefix tree h.0) in
    let rest = tree-lines R one prefixes trees h.1 in
    omega (arith, all, first, rest)

heading-lines : (shop : Shop) (version depth value : ℕ) (sequence : List ℕ) → IsWithinLimits shop → IsVersion version →
    depth ≤ greatest_depth → value < 2 ^ 64 → IsSequence shop.jobs sequence →
    count_by is_line_end (heading shop version depth value sequence) ≡ 4
heading-lines shop version depth value sequence limits known shallow fits whole =
    let sizes = shop.jobs ∷ shop.machines ∷ depth ∷ [] in
    let to_sequence = added (heading shop version depth value sequence) (upto_value shop version depth value)
    (line (spaced sequence)) refl is_line_end in
    let to_value = added (upto_value shop version depth value) (upto_sizes shop version depth) (line (decimal value))
    refl is_line_end in
    let to_sizes = added (upto_sizes shop version depth) (upto_title version) (line (spaced sizes)) refl is_line_end in
    let of_sequence = spaced-line sequence (sequence-fit shop.jobs sequence limits.jobs whole) in
    let of_value = one-line (decimal value) (none-decimal is_line_end no-line-end value fits) in
    let of_sizes = spaced-line sizes (size-fit shop depth limits shallow) in
    let of_title : count_by is_line_end (upto_title version) ≡ 1 =
    one-line (title version) (title-plain version known) in
    omega (arith, to_sequence, to_value, to_sizes, of_sequence, of_value, of_sizes, of_title)

pub states_trees : ReportStatesTrees
states_trees shop version value depth sequence trees limits shows =
    let left = shop.jobs - depth in
    let start = heading shop version depth value sequence in
    let frame = heading-lines shop version depth value sequence limits shows.known shows.shallow shows.fits
    shows.whole in
    let all = added (certificate_text shop version depth value sequence trees) (start ++ flat_map line trees)
    (line ending) refl is_line_end in
    let before = added (start ++ flat_map line trees) start (flat_map line trees) refl is_line_end in
    let end : count_by is_line_end (line ending) ≡ 1 = refl in
    let lines = tree-lines (Covers shop (bound_of version) value left)
    (tree-plain shop (bound_of version) value left) (cut shop.jobs depth) trees shows.covered in
    omega (arith, all, frame, before, end, lines)

-- nodes

-- the first line of a text is cut off
cut-line : (text rest : List ℕ) → HasNone is_line_end text →
    slice_split is_line_end (line text ++ rest) ≡ text ∷ slice_split is_line_end rest
cut-line text rest none =
    ap (slice_split is_line_end) (append_assoc text (10 ∷ []) rest)
    ∙ slice_split_at is_line_end text 10 rest (All-from_recursion (λ b. is_line_end b ≡ false) text none) refl

-- what is cut off behind a first line
behind-line : (text rest : List ℕ) (parts : List (List ℕ)) → HasNone is_line_end text →
    slice_split is_line_end rest ≡ parts → slice_split is_line_end (line text ++ rest) ≡ text ∷ parts
behind-line text rest parts none e = cut-line text rest none ∙ ap (λ more. text ∷ more) e

-- the fifth of six lines
fifth-line : (a b c d e : List ℕ) → HasNone is_line_end a → HasNone is_line_end b → HasNone is_line_end c →
    HasNone is_line_end d → HasNone is_line_end e →
    slice_get (slice_split is_line_end (line a ++ line b ++ line c ++ line d ++ line e ++ line ending)) 4 ≡ Some e
fifth-line a b c d e of_a of_b of_c of_d of_e =
    let rest = line ending in
    let regrouped : line a ++ line b ++ line c ++ line d ++ line e ++ rest
    ≡ line a ++ (line b ++ (line c ++ (line d ++ (line e ++ rest)))) = simp append_assoc in
    ap (λ text. slice_get (slice_split is_line_end text) 4) regrouped
    ∙ ap (λ parts. slice_get parts 4) (behind-line a _ _ of_a (behind-line b _ _ of_b (behind-line c _ _ of_c
    (behind-line d _ _ of_d (behind-line e _ _ of_e refl)))))

pub states_nodes : ReportStatesNodes
states_nodes shop bytes bounds sequence limits lawful =
    let upper = lawful.shows.upper in
    let count = lawful.count in
    let sizes = shop.jobs ∷ shop.machines ∷ [] in
    let both = bounds.lower ∷ bounds.upper ∷ [] in
    let fits = size-fit shop 0 limits (omega arith) in
    let title = codes "flowshop counted 1" in
    ap (λ text. unwrap_or (slice_get (slice_split is_line_end text) 4) []) lawful.text
    ∙ ap (λ found. unwrap_or found []) (fifth-line title (spaced sizes) (spaced both) (spaced sequence) (decimal count)
    (plain-test title refl) (none-spaced is_line_end no-line-end refl sizes (fits.0, (fits.1.0, tt)))
    (none-spaced is_line_end no-line-end refl both (upper.fit.0, (upper.fit.1, tt)))
    (none-spaced is_line_end no-line-end refl sequence (sequence-fit shop.jobs sequence limits.jobs upper.whole))
    (none-decimal is_line_end no-line-end count lawful.shows.fits))
