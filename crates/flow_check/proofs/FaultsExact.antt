-- The first fault of a text is the one with which it is read; each text is judged.
use Rattle.std.proofs.Common.{◌≡◌, nat_eq, ℕ, ◌-◌, ◌⊎◌}
use Rattle.std.proofs.Common.{cond}
use Rattle.std.proofs.Common.{◌<◌, ◌^◌, List, [], ◌∷◌, ◌++◌, Result, Ok, Err, refl, ap, sym}
use Rattle.std.proofs.Common.{◌∙◌, inl, inr, append_assoc}
use Rattle.std.proofs.lemmas.Bool.{eq-eqb, ne_eqb}
use Rattle.std.proofs.lemmas.Result.{IfErr-at_err}
use Rattle.flow_shop.specs.Shop.{Shop, IsWithinLimits}
use Rattle.flow_shop.specs.Paths.{span}
use Rattle.flow_shop.specs.Sequences.{IsSequence, cut}
use Rattle.flow_shop.specs.Bound.{bound_of}
use Rattle.std.specs.Fmt.{decimal}
use Rattle.flow_check.specs.Certificate.{IsCertificate}
use Rattle.flow_check.specs.TextLines.{IsVersion, IsDepth}
use Rattle.flow_check.specs.TextLines.{line, spaced, upto_title, upto_sizes, upto_value, heading}
use Rattle.flow_check.specs.CertificateFaults.{HasFirstFault, EachTextIsJudged}
use Rattle.flow_check.specs.internal.Reading.{text_value, header_value, on_line}
use Rattle.flow_check.specs.internal.ReadTrees.{cut_value}
use Rattle.flow_check.specs.internal.Reading.{FaultIsExact}
use Rattle.flow_check.specs.declared.fault.CheckFault.{CheckFault}
use Rattle.flow_check.specs.declared.fault.CheckFault.TheVariants.{Memory, Header, Size, Value, Sequence, NotAttained}
use Rattle.flow_check.specs.declared.fault.CheckFault.TheVariants.{Most, Tree, Weak, Low, End}
use Rattle.flow_check.proofs.TreesExact.{fault-value}
use Rattle.flow_check.proofs.TreeFaults.{lines-read}
use Rattle.flow_check.proofs.Exact.{after_header, after_size, after_value, value_is_exact}
use Rattle.flow_check.proofs.HeadingLines.{title-read, title-refused, size-read, size-refused, value-read}
use Rattle.flow_check.proofs.HeadingLines.{value-refused, sequence-read, sequence-refused}
use Rattle.flow_check.proofs.FirstFaults.{sizes, TreesHaveFault, first-has}
use Rattle.flow_check.proofs.TextBegins.{outer}

-- how far a text is read that is lawful up to a line

abbrev read_at : Shop → List ℕ → Result ℕ CheckFault
read_at shop text = on_line Header (header_value shop) text

upto-title : (shop : Shop) (text : List ℕ) (version : ℕ) (rest : List ℕ) → IsVersion version →
    text ≡ upto_title version ++ rest → read_at shop text ≡ on_line Size (after_header shop version) rest
upto-title shop text version rest known e = title-read shop version text rest known e

upto-sizes : (shop : Shop) (text : List ℕ) (version depth : ℕ) (rest : List ℕ) → IsWithinLimits shop →
    IsVersion version → IsDepth shop depth → text ≡ upto_sizes shop version depth ++ rest →
    read_at shop text ≡ on_line Value (after_size shop version depth) rest
upto-sizes shop text version depth rest limits known deep e =
    let size : List ℕ = line (spaced (sizes shop depth)) in
    upto-title shop text version (size ++ rest) known (e ∙ append_assoc (upto_title version) size rest)
    ∙ size-read shop version (size ++ rest) depth rest limits (deep.0, deep.1, refl)

upto-value : (shop : Shop) (text : List ℕ) (version depth value : ℕ) (rest : List ℕ) → IsWithinLimits shop →
    IsVersion version → IsDepth shop depth → value < 2 ^ 64 → text ≡ upto_value shop version depth value ++ rest →
    read_at shop text ≡ on_line Sequence (after_value shop version depth value) rest
upto-value shop text version depth value rest limits known deep fits e =
    let third : List ℕ = line (decimal value) in
    upto-sizes shop text version depth (third ++ rest) limits known deep
    (e ∙ append_assoc (upto_sizes shop version depth) third rest)
    ∙ value-read shop version (third ++ rest) depth value rest (fits, append_assoc (decimal value) (10 ∷ []) rest)

upto-heading : (shop : Shop) (text : List ℕ) (version depth value : ℕ) (sequence rest : List ℕ) →
    IsWithinLimits shop → IsVersion version → IsDepth shop depth → value < 2 ^ 64 →
    IsSequence shop.jobs sequence → text ≡ heading shop version depth value sequence ++ rest →
    read_at shop text
    ≡ cond (nat_eq (span shop sequence) value) (cut_value shop version depth value rest) (Err NotAttained)
upto-heading shop text version depth value sequence rest limits known deep fits is e =
    let jobs : List ℕ = line (spaced sequence) in
    upto-value shop text version depth value (jobs ++ rest) limits known deep fits
    (e ∙ append_assoc (upto_value shop version depth value) jobs rest)
    ∙ sequence-read shop version (jobs ++ rest) depth value sequence rest limits (is, refl)

last-read : (shop : Shop) (text : List ℕ) (fault : CheckFault) → IsWithinLimits shop →
    TreesHaveFault shop text fault → read_at shop text ≡ Err fault
last-read shop text fault limits (version, depth, value, sequence, known, deep, fits, is, attained, lines, e, h) =
    upto-heading shop text version depth value sequence lines limits known deep fits is e
    ∙ ap (λ b. cond b (cut_value shop version depth value lines) (Err NotAttained))
    (eq-eqb (span shop sequence) value attained)
    ∙ lines-read shop (bound_of version) value (shop.jobs - depth) (cut shop.jobs depth) 5 lines fault h

all-read : (shop : Shop) (text : List ℕ) (fault : CheckFault) → IsWithinLimits shop →
    HasFirstFault shop text fault → read_at shop text ≡ Err fault
all-read shop text Memory limits h = absurd h
all-read shop text Most limits h = absurd h
all-read shop text Header limits h =
    title-refused shop text (λ version rest known e. h version known (rest, e))
all-read shop text Size limits (version, known, (rest, e), none) =
    upto-title shop text version rest known e
    ∙ size-refused shop version rest limits (λ depth more b. none depth (b.0, b.1)
    (more, outer text (upto_title version) rest (line (spaced (sizes shop depth))) more e b.2))
all-read shop text Value limits (version, depth, known, deep, (rest, e), none) =
    upto-sizes shop text version depth rest limits known deep e
    ∙ value-refused shop version rest depth (λ value more b. none value b.0 (
      more,
      outer text (upto_sizes shop version depth) rest (line (decimal value)) more e
          (b.1 ∙ sym (append_assoc (decimal value) (10 ∷ []) more)),
    ))
all-read shop text Sequence limits (version, depth, value, known, deep, fits, (rest, e), none) =
    upto-value shop text version depth value rest limits known deep fits e
    ∙ sequence-refused shop version rest depth value limits (λ jobs more b. none jobs b.0
    (more, outer text (upto_value shop version depth value) rest (line (spaced jobs)) more e b.1))
all-read shop text NotAttained limits (version, depth, value, sequence, known, deep, fits, is, (rest, e), other) =
    upto-heading shop text version depth value sequence rest limits known deep fits is e
    ∙ ap (λ b. cond b (cut_value shop version depth value rest) (Err NotAttained))
    (ne_eqb (span shop sequence) value other)
all-read shop text (Tree place) limits h = last-read shop text (Tree place) limits h
all-read shop text (Weak place) limits h = last-read shop text (Weak place) limits h
all-read shop text (Low place) limits h = last-read shop text (Low place) limits h
all-read shop text End limits h = last-read shop text End limits h

pub first-read : (shop : Shop) (text : List ℕ) (fault : CheckFault) → IsWithinLimits shop →
    HasFirstFault shop text fault → text_value shop text ≡ Err fault
unfolding text_value
first-read shop text fault limits h = all-read shop text fault limits h

-- the laws

pub fault_is_exact : FaultIsExact
fault_is_exact shop text fault limits = (
  λ e. IfErr-at_err (λ f. HasFirstFault shop text f) e (first-has shop text limits),
  first-read shop text fault limits,
)

abbrev fault_of : Result ℕ CheckFault → CheckFault
fault_of (Ok value) = Memory
fault_of (Err fault) = fault

either : (shop : Shop) (text : List ℕ) → IsWithinLimits shop → (r : Result ℕ CheckFault) → text_value shop text ≡ r →
    ((value : ℕ) × IsCertificate shop text value) ⊎ ((fault : CheckFault) × HasFirstFault shop text fault)
either shop text limits (Ok value) e = inl (value, (value_is_exact shop text value limits).0 e)
either shop text limits (Err fault) e = inr (fault, (fault_is_exact shop text fault limits).0 e)

pub each_text_is_judged : EachTextIsJudged
each_text_is_judged shop text limits = record {
  some = either shop text limits (text_value shop text) refl;
  apart = λ fault lawful h. fault-value fault lawful.0 (sym (first-read shop text fault limits h)
      ∙ (value_is_exact shop text lawful.0 limits).1 lawful.1);
  one = λ fault other h k. ap fault_of (sym (first-read shop text fault limits h)
      ∙ first-read shop text other limits k);
}
