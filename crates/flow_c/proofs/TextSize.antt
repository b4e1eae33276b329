-- How long certificates of bounds are, and how a two-ended one is put together from one with no directions.
use Rattle.std.proofs.Common.{◌≡◌, ◌⊎◌, inr, ◌∙◌, refl, ap, sym, ℕ, ◌+◌, ◌-◌, ◌*◌, ◌^◌, ◌<◌, ◌≤◌, List, [], ◌∷◌, ◌++◌}
use Rattle.std.proofs.Common.{length, take, drop, arith, append_assoc, length-append, length-drop}
use Rattle.std.proofs.Common.{min, nat_le, Bool, true, false, subst, if◌then◌else◌}
use Rattle.std.proofs.Math.Seq.{take-append_seam, drop-append_seam}
use Rattle.std.proofs.lemmas.Fmt.{length-decimal-le}
use Rattle.std.specs.Fmt.{decimal}
use Rattle.std.specs.Global.{Vec}
use Rattle.std.specs.List.{AllByRecursion}
use Rattle.std.proofs.lemmas.List.Elements.{recursion_from_All}
use Rattle.std.proofs.lemmas.List.{length-take-le}
use Rattle.flow_shop.specs.Shop.{Shop, IsWithinLimits}
use Rattle.flow_shop.specs.Sequences.{IsSequence}
use Rattle.flow_shop.specs.Paths.{span}
use Rattle.flow_shop.specs.Directions.{Proves}
use Rattle.flow_shop.specs.Ends.{end_bound}
use Rattle.flow_shop.proofs.DirectionsSound.{proved_is_lower_bound}
use Rattle.flow_check.specs.TextLines.{line, spaced, ending}
use Rattle.flow_check.specs.Counted.{counted_text, counted_title}
use Rattle.flow_check.specs.FourLines.{size_lines, bounds_lines, sequence_lines}
use Rattle.flow_check.specs.TwoEnded.{two_ended_text, two_ended_title}
use Rattle.flow_check.specs.declared.bounds.Bounds.{Bounds}
use Rattle.flow_cert.proofs.Lawful.{span-fits}
use Rattle.flow_limits.specs.Limits.{most_directions}
use Rattle.flow_directions.specs.Search.{directions_of}
use Rattle.flow_certify.specs.Searched.{Keeps}
use Rattle.flow_certify.specs.Signs.{most_searched, most_signs}
use Rattle.flow_certify.specs.declared.proof.Proof.{Proof}
use Rattle.flow_certify.specs.declared.proof.Proof.TheVariants.{Signs}
use Rattle.flow_c.specs.Statuses.{number, memory}
use Rattle.flow_c.specs.Certify.{IsTextFrom, IsTextTooLong}
use Rattle.flow_c.specs.declared.fault.Fault.{Fault}
use Rattle.flow_c.specs.declared.fault.Fault.TheVariants.{Room}
use Rattle.flow_c.specs.internal.Around.{with_directions}

-- a number of at most so many digits
abbrev IsShort : ℕ → ℕ → Type 0
IsShort k n = (n < 10 ^ k) × (n < 2 ^ 64)

-- numbers of at most so many digits, with one space between each two
spaced-short : (k : ℕ) (ns : List ℕ) → 0 < k → AllByRecursion (IsShort k) ns →
    length (spaced ns) ≤ (k + 1) * length ns
spaced-short k [] some all = omega arith
spaced-short k (n ∷ []) some all =
    let own : length (decimal n) ≤ k = length-decimal-le k n some all.0.0 all.0.1 in
    omega (arith, own)
spaced-short k (n ∷ m ∷ ns) some all =
    let own : length (decimal n) ≤ k = length-decimal-le k n some all.0.0 all.0.1 in
    let rest : length (spaced (m ∷ ns)) ≤ (k + 1) * length (m ∷ ns) = spaced-short k (m ∷ ns) some all.1 in
    let whole : length (spaced (n ∷ m ∷ ns)) ≡ length (decimal n) + length (32 ∷ spaced (m ∷ ns)) =
    length-append (decimal n) (32 ∷ spaced (m ∷ ns)) in
    omega (arith, own, rest, whole)

-- a line of them
line-short : (k : ℕ) (ns : List ℕ) → 0 < k → AllByRecursion (IsShort k) ns →
    length (line (spaced ns)) ≤ (k + 1) * length ns + 1
line-short k ns some all =
    let short : length (spaced ns) ≤ (k + 1) * length ns = spaced-short k ns some all in
    omega (arith, short, length-append (spaced ns) (10 ∷ []))

-- jobs have at most three digits
jobs-short : (n : ℕ) (jobs : List ℕ) → n ≤ 800 → AllByRecursion (λ job. (1 ≤ job) × (job ≤ n)) jobs →
    AllByRecursion (IsShort 3) jobs
jobs-short n [] few all = tt
jobs-short n (job ∷ jobs) few all =
    ((omega (arith, few, all.0.1), omega (arith, few, all.0.1)), jobs-short n jobs few all.1)

-- the four lines, with a title that is as short as those of certificates
lines-short : (title : List ℕ) (shop : Shop) (bounds : Bounds) (sequence : List ℕ) → length title ≤ 21 →
    IsWithinLimits shop → bounds.lower < 2 ^ 64 → bounds.upper < 2 ^ 64 → IsSequence shop.jobs sequence →
    length (sequence_lines title shop bounds sequence) ≤ 3275
lines-short title shop bounds sequence named limits low high is =
    let sizes : length (line (spaced (shop.jobs ∷ shop.machines ∷ []))) ≤ 9 =
    line-short 3 (shop.jobs ∷ shop.machines ∷ []) (omega arith) (
      (omega (arith, limits.jobs), omega (arith, limits.jobs)),
      ((omega (arith, limits.machines), omega (arith, limits.machines)), tt),
    ) in
    let both : length (line (spaced (bounds.lower ∷ bounds.upper ∷ []))) ≤ 43 =
    line-short 20 (bounds.lower ∷ bounds.upper ∷ []) (omega arith)
    ((omega (arith, low), low), ((omega (arith, high), high), tt)) in
    let all : length (line (spaced sequence)) ≤ 4 * length sequence + 1 =
    line-short 3 sequence (omega arith)
    (jobs-short shop.jobs sequence (omega (arith, limits.jobs)) (recursion_from_All _ sequence is.each.range)) in
    omega (
      arith,
      sizes,
      both,
      all,
      named,
      is.whole,
      limits.jobs,
      length-append title (line (spaced (shop.jobs ∷ shop.machines ∷ []))),
      length-append (size_lines title shop) (line (spaced (bounds.lower ∷ bounds.upper ∷ []))),
      length-append (bounds_lines title shop bounds) (line (spaced sequence)),
    )

-- what stands behind the directions
abbrev tail : List ℕ
tail = line [] ++ line ending

-- the text with no directions
around-length : (shop : Shop) (bounds : Bounds) (sequence : List ℕ) →
    length (two_ended_text shop bounds sequence []) ≡ length (sequence_lines two_ended_title shop bounds sequence) + 5
around-length shop bounds sequence =
    let first : length (line []) ≡ 1 = refl in
    let last : length (line ending) ≡ 4 = refl in
    let lines = sequence_lines two_ended_title shop bounds sequence in
    omega (arith, first, last, length-append (lines ++ line []) (line ending), length-append lines (line []))

-- it has at least the bytes behind the directions
pub long_enough : (shop : Shop) (bounds : Bounds) (sequence : List ℕ) →
    5 ≤ length (two_ended_text shop bounds sequence [])
long_enough shop bounds sequence = omega (arith, around-length shop bounds sequence)

-- it is short
around-short : (shop : Shop) (bounds : Bounds) (sequence : List ℕ) → IsWithinLimits shop → bounds.lower < 2 ^ 64 →
    bounds.upper < 2 ^ 64 → IsSequence shop.jobs sequence → length (two_ended_text shop bounds sequence []) ≤ 3300
around-short shop bounds sequence limits low high is =
    let title : length two_ended_title ≡ 21 = refl in
    let lines : length (sequence_lines two_ended_title shop bounds sequence) ≤ 3275 =
    lines-short two_ended_title shop bounds sequence (omega (arith, title)) limits low high is in
    omega (arith, around-length shop bounds sequence, lines)

-- a counted text is short, too
pub counted-short : (shop : Shop) (bounds : Bounds) (sequence : List ℕ) (count : ℕ) → IsWithinLimits shop →
    bounds.lower < 2 ^ 64 → IsSequence shop.jobs sequence → span shop sequence ≡ bounds.upper → count < 2 ^ 64 →
    length (counted_text shop bounds sequence count) ≤ 3300
counted-short shop bounds sequence count limits low is attained fits =
    let title : length counted_title ≡ 19 = refl in
    let high : bounds.upper < 2 ^ 64 = omega (arith, span-fits shop sequence limits is, attained) in
    let lines : length (sequence_lines counted_title shop bounds sequence) ≤ 3275 =
    lines-short counted_title shop bounds sequence (omega (arith, title)) limits low high is in
    let digits : length (decimal count) ≤ 20 =
    length-decimal-le 20 count (omega arith) (omega (arith, fits)) fits in
    let last : length (line ending) ≡ 4 = refl in
    let one : length (line []) ≡ 1 = refl in
    omega (
      arith,
      lines,
      digits,
      last,
      one,
      length-append (decimal count) (10 ∷ []),
      length-append (sequence_lines counted_title shop bounds sequence ++ line (decimal count)) (line ending),
      length-append (sequence_lines counted_title shop bounds sequence) (line (decimal count)),
    )

-- lines, and what stands behind the directions, once these are put in
put-in : (lines directions : List ℕ) →
    with_directions (lines ++ tail) directions ≡ lines ++ line directions ++ line ending
put-in lines directions =
    let five : length tail ≡ 5 = refl in
    let size : length (lines ++ tail) - 5 ≡ length lines = omega (arith, five, length-append lines tail) in
    ap (λ n. take n (lines ++ tail) ++ directions ++ drop n (lines ++ tail)) size
    ∙ ap (λ t. t ++ directions ++ drop (length lines) (lines ++ tail)) (take-append_seam lines tail)
    ∙ ap (λ t. lines ++ directions ++ t) (drop-append_seam lines tail)
    ∙ sym (append_assoc (lines ++ directions) (10 ∷ []) (line ending))
    ∙ ap (λ t. t ++ line ending) (append_assoc lines directions (10 ∷ []))

-- the text once directions are put in
pub text-with : (shop : Shop) (bounds : Bounds) (sequence directions : List ℕ) →
    with_directions (two_ended_text shop bounds sequence []) directions
    ≡ two_ended_text shop bounds sequence directions
text-with shop bounds sequence directions =
    let lines = sequence_lines two_ended_title shop bounds sequence in
    ap (λ around. with_directions around directions) (append_assoc lines (line []) (line ending))
    ∙ put-in lines directions

-- how long a text is once directions are put in
pub length-with : (around directions : List ℕ) → 5 ≤ length around →
    length (with_directions around directions) ≡ length around + length directions
length-with around directions enough =
    let end : ℕ = length around - 5 in
    omega (
      arith,
      enough,
      length-append (take end around ++ directions) (drop end around),
      length-append (take end around) directions,
      length-take-le end around (omega arith),
      length-drop end around,
    )

-- a threshold that directions prove is at most the makespan of each sequence
lower-low : (shop : Shop) (number : ℕ) (sequence directions : List ℕ) → Proves shop number directions →
    IsSequence shop.jobs sequence → number ≤ span shop sequence
lower-low shop number sequence directions proves is = proved_is_lower_bound shop number directions proves sequence is

-- the text of what was found, once the directions are put in
text-found : (shop : Shop) (start : List ℕ) (most : ℕ) (bounds : Bounds) (sequence directions around : List ℕ) →
    IsWithinLimits shop → IsSequence shop.jobs sequence → span shop sequence ≡ bounds.upper →
    bounds.upper ≤ span shop start → Proves shop bounds.lower directions → end_bound shop [] [] ≤ bounds.lower →
    length directions ≤ most → around ≡ two_ended_text shop bounds sequence [] →
    IsTextFrom shop start most (with_directions around directions) bounds sequence
text-found shop start most bounds sequence directions around limits is attained no_worse proves floor few text =
    let fits : span shop sequence < 2 ^ 64 = span-fits shop sequence limits is in
    let low : bounds.lower ≤ span shop sequence = lower-low shop bounds.lower sequence directions proves is in
    let high : bounds.upper < 2 ^ 64 = omega (arith, fits, attained) in
    let lower : bounds.lower < 2 ^ 64 = omega (arith, fits, low) in
    let enough : 5 ≤ length around = omega (arith, ap length text, long_enough shop bounds sequence) in
    record {
      lawful = record {
        directions = directions;
        shows = record {
          upper = record { fit = (lower, high); whole = is; attained = attained };
          proved = proves;
        };
        text = ap (λ t. with_directions t directions) text ∙ text-with shop bounds sequence directions;
      };
      no_worse = no_worse;
      floor = floor;
      few = few;
      short =
          omega (
            arith,
            few,
            length-with around directions enough,
            ap length text,
            around-short shop bounds sequence limits lower high is,
          );
    }

-- a search has no more directions than its limit says
searched-few : (is : Bool) (limit : ℕ) → (if is then min limit most_signs else limit) ≤ limit
searched-few true limit = omega arith
searched-few false limit = omega arith

-- the text of signs that are kept of the directions that prove the lower bound
pub text-kept : (shop : Shop) (start : List ℕ) (most : ℕ) (bounds : Bounds) (sequence : List ℕ) (signs : Vec ℕ)
    (around : List ℕ) (proof : Proof) → IsWithinLimits shop → IsSequence shop.jobs sequence →
    span shop sequence ≡ bounds.upper → bounds.upper ≤ span shop start →
    Proves shop bounds.lower (directions_of shop bounds.lower [] []) →
    Keeps proof (directions_of shop bounds.lower [] []) → proof ≡ Signs signs → end_bound shop [] [] ≤ bounds.lower →
    length (directions_of shop bounds.lower [] []) ≤ most_searched most →
    around ≡ two_ended_text shop bounds sequence [] →
    IsTextFrom shop start most (with_directions around signs.items) bounds sequence
text-kept shop start most bounds sequence signs around proof limits is attained no_worse proves keeps kept floor few
    text =
    let same : signs.items ≡ directions_of shop bounds.lower [] [] =
    subst (λ kept. Keeps kept (directions_of shop bounds.lower [] [])) kept keeps in
    text-found shop start most bounds sequence signs.items around limits is attained no_worse
    (subst (Proves shop bounds.lower) (sym same) proves) floor
    (omega (arith, ap length same, few, searched-few (nat_le most most_directions) most)) text

-- a text that has no room
pub too-long : (shop : Shop) (start : List ℕ) (most entries : ℕ) (bounds : Bounds)
    (sequence directions around : List ℕ) (fault : Fault) →
    IsTextFrom shop start most (with_directions around directions) bounds sequence →
    around ≡ two_ended_text shop bounds sequence [] →
    (fault ≡ Room (length around + length directions)) × (entries < length around + length directions) →
    (number fault ≡ memory) ⊎ IsTextTooLong shop start most entries fault
too-long shop start most entries bounds sequence directions around fault is text (refused, short) =
    let enough : 5 ≤ length around = omega (arith, ap length text, long_enough shop bounds sequence) in
    let same = length-with around directions enough in
    inr (
      with_directions around directions,
      bounds,
      sequence,
      is,
      refused ∙ ap (λ n. Room n) (sym same),
      omega (arith, same, short),
    )
