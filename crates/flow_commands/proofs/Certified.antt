-- What `certify` answers: a lawful text that is short enough for `check`.
use Rattle.std.proofs.Common.{◌≡◌, ◌≤◌, ◌<◌, ◌+◌, ◌*◌, ◌^◌, refl, ℕ, List, [], ◌∷◌, ◌++◌, length, min, arith}
use Rattle.std.proofs.Common.{Bool, true, false, Option, Some, None, Ok, decimal, length-append, append_assoc, rules}
use Rattle.std.specs.List.{AllByRecursion}
use Rattle.std.proofs.lemmas.Fmt.{length-decimal-le}
use Rattle.std.proofs.lemmas.List.Elements.{recursion_from_All}
use Rattle.std.proofs.Math.Nat.{min-le_left, min-le_right}
use Rattle.flow_core.specs.Limits.{most_certificate, most_jobs, most_machines}
use Rattle.flow_core.specs.Paths.{span}
use Rattle.flow_core.specs.Sequences.{Extends, IsSequence}
use Rattle.flow_core.specs.Shop.{Shop, IsWithinLimits}
use Rattle.flow_core.specs.Directions.{Proves}
use Rattle.flow_core.specs.Ends.{end_bound}
use Rattle.flow_directions.specs.Search.{first_below}
use Rattle.flow_certify.specs.Signs.{most_counted, most_searched, most_signs}
use Rattle.flow_certify.specs.declared.bounds.Certified.{Certified}
use Rattle.flow_check.specs.Counted.{counted_title}
use Rattle.flow_check.specs.FourLines.{sequence_lines, ShowsUpper}
use Rattle.flow_check.specs.Kinds.{IsReadAs}
use Rattle.flow_check.specs.Stated.{GivesAs}
use Rattle.flow_check.specs.TextLines.{ending, line, spaced}
use Rattle.flow_check.specs.TwoEnded.{two_ended_title}
use Rattle.flow_check.specs.declared.bounds.Bounds.{Bounds}
use Rattle.flow_requests.specs.declared.CertifyRequest.{CertifyRequest}
use Rattle.flow_requests.specs.declared.ProofForm.{ProofForm}
use Rattle.flow_requests.specs.declared.ProofForm.TheVariants.{ByLength, Count, Signs}
use Rattle.flow_commands.specs.Certify.{AnswersCertify, Certifies, certify_fault, directions_fault, is_signed}
use Rattle.flow_commands.specs.Certify.{proof_kind, proof_text, writes_signs}
use Rattle.flow_commands.specs.internal.Found.{bounds_of, found_directions, found_text}
use Rattle.flow_commands.specs.Start.{StartsFrom}

-- two numbers and a space
pair-short : (digits n m : ℕ) → 0 < digits → n < 10 ^ digits → m < 10 ^ digits → n < 2 ^ 64 → m < 2 ^ 64 →
    length (spaced (n ∷ m ∷ [])) ≤ digits + digits + 1
pair-short digits n m some few_n few_m fits_n fits_m =
    omega (
      arith,
      length-append (decimal n) (32 ∷ decimal m),
      length-decimal-le digits n some few_n fits_n,
      length-decimal-le digits m some few_m fits_m,
    )

-- jobs of at most three digits, and the spaces
jobs-short : (n : ℕ) → n ≤ most_jobs → (jobs : List ℕ) → AllByRecursion (λ job. (1 ≤ job) × (job ≤ n)) jobs →
    length (spaced jobs) ≤ 4 * length jobs
jobs-short n limit [] each = omega arith
jobs-short n limit (job ∷ []) each =
    omega (
      arith,
      length-decimal-le 3 job (omega arith) (omega (arith, each.0.1, limit))
          (omega (arith, each.0.1, limit)),
    )
jobs-short n limit (job ∷ other ∷ jobs) each =
    let one : length (decimal job) ≤ 3 =
    length-decimal-le 3 job (omega arith) (omega (arith, each.0.1, limit)) (omega (arith, each.0.1, limit)) in
    omega (
      arith,
      length-append (decimal job) (32 ∷ spaced (other ∷ jobs)),
      one,
      jobs-short n limit (other ∷ jobs) each.1,
    )

-- a line is one byte longer than what stands in it
line-length : (text : List ℕ) → length (line text) ≡ length text + 1
line-length text = length-append text (10 ∷ [])

-- the length of six lists, one after another
six-length : (a b c d e f : List ℕ) →
    length (a ++ b ++ c ++ d ++ e ++ f) ≡ length a + length b + length c + length d + length e + length f
six-length a b c d e f =
    omega (
      arith,
      length-append (a ++ b ++ c ++ d ++ e) f,
      length-append (a ++ b ++ c ++ d) e,
      length-append (a ++ b ++ c) d,
      length-append (a ++ b) c,
      length-append a b,
    )

-- a text of four lines, a line and the last one begins with its first line
begins : (title : List ℕ) (shop : Shop) (bounds : Bounds) (jobs body : List ℕ) →
    Extends (sequence_lines title shop bounds jobs ++ line body ++ line ending) title
begins title shop bounds jobs body =
    let size : List ℕ = line (spaced (shop.jobs ∷ shop.machines ∷ [])) in
    let numbers : List ℕ = line (spaced (bounds.lower ∷ bounds.upper ∷ [])) in
    (size ++ numbers ++ line (spaced jobs) ++ line body ++ line ending, simp append_assoc)

-- a text whose fifth line is short enough is within the bytes that `check` reads
text-short : (title : List ℕ) (shop : Shop) (bounds : Bounds) (jobs body : List ℕ) → length title ≤ 21 →
    IsWithinLimits shop → ShowsUpper shop bounds jobs → length body ≤ most_signs →
    length (sequence_lines title shop bounds jobs ++ line body ++ line ending) ≤ most_certificate
text-short title shop bounds jobs body titled limits shows few =
    let few_jobs : shop.jobs ≤ most_jobs = limits.jobs in
    let few_machines : shop.machines ≤ most_machines = limits.machines in
    let of_size =
    pair-short 3 shop.jobs shop.machines (omega arith) (omega (arith, few_jobs)) (omega (arith, few_machines))
    (omega (arith, few_jobs)) (omega (arith, few_machines)) in
    let of_bounds =
    pair-short 20 bounds.lower bounds.upper (omega arith) (omega (arith, shows.fit.0))
    (omega (arith, shows.fit.1)) shows.fit.0 shows.fit.1 in
    let of_jobs = jobs-short shop.jobs limits.jobs jobs (recursion_from_All (λ job. (1 ≤ job) × (job ≤ shop.jobs)) jobs
    shows.whole.each.range) in
    let size : List ℕ = spaced (shop.jobs ∷ shop.machines ∷ []) in
    let numbers : List ℕ = spaced (bounds.lower ∷ bounds.upper ∷ []) in
    omega (
      arith,
      six-length title (line size) (line numbers) (line (spaced jobs)) (line body) (line ending),
      line-length size,
      line-length numbers,
      line-length (spaced jobs),
      line-length body,
      titled,
      of_size,
      of_bounds,
      of_jobs,
      shows.whole.whole,
      few_jobs,
      few,
    )

-- the text of a proof, with signs or with a count
module _ (shop : Shop) (bounds : Bounds) (jobs directions : List ℕ) where
  -- it is read as one of its kind
  pub read-as : (signed : Bool) → IsReadAs (proof_text signed shop bounds jobs directions) (proof_kind signed)
  read-as true = begins two_ended_title shop bounds jobs directions
  read-as false = begins counted_title shop bounds jobs (decimal (length directions))

  -- where it is lawful, its sequence has the upper bound
  upper-of : (signed : Bool) → GivesAs (proof_kind signed) shop (proof_text signed shop bounds jobs directions) bounds
      jobs → ShowsUpper shop bounds jobs
  upper-of true gives = gives.shows.upper
  upper-of false gives = gives.shows.upper

  -- it is short enough, with as many signs as `check` reads, or with a count of at most 16 digits
  short-as : (signed : Bool) → IsWithinLimits shop → ShowsUpper shop bounds jobs →
      (signed ≡ true → length directions ≤ most_signs) → length directions ≤ most_counted →
      length (proof_text signed shop bounds jobs directions) ≤ most_certificate
  short-as true limits shows few within =
      text-short two_ended_title shop bounds jobs directions (omega arith) limits shows (few refl)
  short-as false limits shows few within =
      let digits : length (decimal (length directions)) ≤ 16 =
      length-decimal-le 16 (length directions) (omega arith) (omega (arith, within)) (omega (arith, within)) in
      text-short counted_title shop bounds jobs (decimal (length directions)) (omega arith) limits shows
      (omega (arith, digits))

-- numbers that are accepted have a limit on directions that is
of-directions : (request : CertifyRequest) → certify_fault request ≡ None →
    directions_fault request.proof request.directions ≡ None
of-directions request accepted = search rules

-- with a limit that is accepted, signs that are written are no more than `check` reads, and a count has at most 16
-- digits
few-signs : (form : ProofForm) (most count : ℕ) → directions_fault form most ≡ None → count ≤ most_searched most →
    writes_signs form most count ≡ true → count ≤ most_signs
few-signs form most count accepted few signed = search rules

few-counted : (form : ProofForm) (most count : ℕ) → directions_fault form most ≡ None → count ≤ most_searched most →
    (count ≤ most) × (count ≤ most_counted)
few-counted form most count accepted few = search rules

-- where the numbers are accepted, the text of what a search finds from the sequence to start from is answered
pub certified-answers : (request : CertifyRequest) (shop : Shop) (given : Option (List ℕ))
    (start : List ℕ) (found : Certified) → certify_fault request ≡ None → IsWithinLimits shop →
    StartsFrom shop given start → IsSequence shop.jobs found.sequence → span shop found.sequence ≡ found.upper →
    found.upper ≤ span shop start → Proves shop found.lower (found_directions shop found) →
    first_below shop found.lower [] [] ≡ None → end_bound shop [] [] ≤ found.lower →
    length (found_directions shop found) ≤ most_searched request.directions →
    (IsSequence shop.jobs found.sequence → span shop found.sequence ≡ found.upper →
    Proves shop found.lower (found_directions shop found) → first_below shop found.lower [] [] ≡ None →
    GivesAs (proof_kind (is_signed request (found_directions shop found))) shop (found_text request shop found)
    (bounds_of found) found.sequence) →
    AnswersCertify request shop given (Ok (found_text request shop found))
certified-answers request shop given start found accepted limits starts whole attained better proved none floor few
    lawful =
    let directions = found_directions shop found in
    let bounds = bounds_of found in
    let signed = is_signed request directions in
    let gives = lawful whole attained proved none in
    let of_start : span shop found.sequence ≤ span shop start = omega (arith, attained, better) in
    let no_fault = of-directions request accepted in
    let of_limit = few-counted request.proof request.directions (length directions) no_fault few in
    let text : List ℕ = found_text request shop found in
    let is : Certifies shop given request text = record {
      bounds = bounds;
      jobs = found.sequence;
      directions = directions;
      searched = (none, refl);
      written = refl;
      read = read-as shop bounds found.sequence directions signed;
      lawful = gives;
      improved = (start, starts, whole, of_start);
      floor = floor;
      few = of_limit.0;
      short = short-as shop bounds found.sequence directions signed limits
          (upper-of shop bounds found.sequence directions signed gives)
          (few-signs request.proof request.directions (length directions) no_fault few) of_limit.1;
    } in
    rw (AnswersCertify, accepted) (text, is, refl)
