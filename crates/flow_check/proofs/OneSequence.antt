-- A certificate states one value and one sequence: that of its fourth line.
use Rattle.std.proofs.Common.{◌≡◌, ℕ, ◌^◌, ◌<◌, ◌≤◌, List, [], ◌∷◌, ◌++◌, Option, Some, ap, sym, subst, ◌∙◌, arith}
use Rattle.std.specs.Option.{option_map_or}
use Rattle.std.specs.List.{flat_map}
use Rattle.std.proofs.lemmas.Option.{same_Some}
use Rattle.std.proofs.lemmas.List.{append-nil}
use Rattle.flow_shop.specs.Limits.{greatest_depth}
use Rattle.flow_shop.specs.Shop.{Shop, IsWithinLimits}
use Rattle.flow_shop.specs.Sequences.{IsSequence}
use Rattle.flow_check.specs.Certificate.{IsCertificateWith, IsCertificate, StatesOne}
use Rattle.std.specs.Fmt.{decimal}
use Rattle.flow_check.specs.TextLines.{IsVersion, line, spaced, title, ending, heading}
use Rattle.flow_check.specs.internal.Heading.{BeginsWithHeading}
use Rattle.flow_check.specs.internal.Reading.{first_line, numbers_in}
use Rattle.flow_check.specs.declared.heading.Heading.{Heading}
use Rattle.flow_check.proofs.Numbers.{IsPlain, spaced-plain}
use Rattle.flow_check.proofs.ExactLines.{first-line-complete, title-plain, value-plain}
use Rattle.flow_check.proofs.Exact.{glue, sequence-fit, size-fit, numbers-whole}
use Rattle.flow_check.proofs.Sound.{value_is_one}

-- the first line of a text, without its end
abbrev word_of : List ℕ → List ℕ
word_of bytes = option_map_or (λ r. r.0) (first_line bytes) []

-- the text after its first line
abbrev rest_of : List ℕ → List ℕ
rest_of bytes = option_map_or (λ r. r.1) (first_line bytes) []

word-is : (text rest : List ℕ) → IsPlain text → word_of (text ++ 10 ∷ rest) ≡ text
word-is text rest plain = ap (λ o. option_map_or (λ r. r.0) o []) (first-line-complete text rest plain)

rest-is : (text rest : List ℕ) → IsPlain text → rest_of (text ++ 10 ∷ rest) ≡ rest
rest-is text rest plain = ap (λ o. option_map_or (λ r. r.1) o []) (first-line-complete text rest plain)

-- the numbers of the fourth line
abbrev fourth : List ℕ → Option (List ℕ)
fourth bytes = numbers_in (word_of (rest_of (rest_of (rest_of bytes))))

fourth-is : (shop : Shop) (version depth value : ℕ) (sequence more rest : List ℕ) →
    IsWithinLimits shop → IsVersion version → depth ≤ greatest_depth → value < 2 ^ 64 →
    IsSequence shop.jobs sequence →
    fourth (heading shop version depth value sequence ++ more ++ rest) ≡ Some sequence
fourth-is shop version depth value sequence more rest limits known shallow fit is =
    let first : List ℕ = title version in
    let size : List ℕ = spaced (shop.jobs ∷ shop.machines ∷ depth ∷ []) in
    let third : List ℕ = decimal value in
    let rest3 : List ℕ = spaced sequence ++ 10 ∷ (more ++ rest) in
    let rest2 : List ℕ = third ++ 10 ∷ rest3 in
    let rest1 : List ℕ = size ++ 10 ∷ rest2 in
    let fits = sequence-fit shop.jobs sequence limits.jobs is in
    let some_job : 1 ≤ shop.jobs = limits.some_job in
    ap fourth (sym (glue first size third (spaced sequence) more rest))
    ∙ ap (λ t. numbers_in (word_of (rest_of (rest_of t)))) (rest-is first rest1 (title-plain version known))
    ∙ ap (λ t. numbers_in (word_of (rest_of t)))
    (rest-is size rest2 (spaced-plain (shop.jobs ∷ shop.machines ∷ depth ∷ []) (size-fit shop depth limits shallow)))
    ∙ ap (λ t. numbers_in (word_of t)) (rest-is third rest3 (value-plain value fit))
    ∙ ap numbers_in (word-is (spaced sequence) (more ++ rest) (spaced-plain sequence fits))
    ∙ numbers-whole sequence (omega (arith, is.whole, some_job)) fits

-- that of a lawful text is its sequence
fourth-given : (shop : Shop) (bytes : List ℕ) (value : ℕ) (sequence : List ℕ) →
    IsWithinLimits shop → IsCertificateWith shop bytes value sequence → fourth bytes ≡ Some sequence
fourth-given shop bytes value sequence limits (version, depth, trees, shows, text) =
    ap fourth text
    ∙ fourth-is shop version depth value sequence (flat_map line trees) (line ending) limits shows.known
    shows.shallow shows.fits shows.whole

-- the sequence that is read in the lines before the trees is the one that a lawful text gives
pub gives-read : (shop : Shop) (bytes : List ℕ) (lines : Heading) (value : ℕ) → IsWithinLimits shop →
    BeginsWithHeading shop bytes lines → IsCertificate shop bytes value →
    IsCertificateWith shop bytes value lines.sequence
gives-read shop bytes lines value limits begins (sequence, gives) =
    let front : List ℕ = heading shop lines.version lines.depth lines.value lines.sequence in
    let read : fourth bytes ≡ Some lines.sequence =
    ap fourth (begins.lines ∙ sym (append-nil (front ++ lines.trees.now)))
    ∙ fourth-is shop lines.version lines.depth lines.value lines.sequence lines.trees.now [] limits begins.known
    begins.deep.1 begins.fits begins.whole in
    subst (IsCertificateWith shop bytes value)
    (same_Some sequence lines.sequence (sym (fourth-given shop bytes value sequence limits gives) ∙ read)) gives

pub states_one : StatesOne
states_one shop bytes value other one another limits first second =
    let given : fourth bytes ≡ Some one = fourth-given shop bytes value one limits first in
    let given_again : fourth bytes ≡ Some another = fourth-given shop bytes other another limits second in (
      value_is_one shop bytes value other (one, first) (another, second),
      same_Some one another (sym given ∙ given_again),
    )
