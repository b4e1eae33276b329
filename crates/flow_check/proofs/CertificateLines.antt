-- The lines before the trees, and the sequence that a certificate states.
use Rattle.std.proofs.Common.{◌≡◌, ℕ, List, [], ◌∷◌, ◌++◌, Err, inl, inr, sym, subst, ◌∙◌, append_assoc}
use Rattle.std.specs.Fmt.{decimal}
use Rattle.flow_shop.specs.Shop.{Shop}
use Rattle.flow_shop.specs.Paths.{span}
use Rattle.flow_shop.specs.Sequences.{IsLeastMakespan}
use Rattle.flow_check.specs.TextLines.{line, spaced, title, upto_title, upto_sizes, upto_value, heading}
use Rattle.flow_check.specs.Certificate.{IsCertificateWith}
use Rattle.flow_check.specs.Stated.{GivesSequence}
use Rattle.flow_check.specs.internal.Heading.{BeginsWithNumber, BeginsWithSize, BeginsWithSequence, IsSequenceFault}
use Rattle.flow_check.specs.CertificateFaults.{UnlessMemory}
use Rattle.flow_check.specs.internal.Reading.{text_value}
use Rattle.flow_check.specs.declared.fault.CheckFault.{CheckFault}
use Rattle.flow_check.specs.declared.fault.CheckFault.TheVariants.{Sequence}
use Rattle.flow_check.proofs.TextBegins.{outer}
use Rattle.flow_check.proofs.Sound.{certificate_is_sound}

-- a text begins with the lines that are read one after the other
pub begins-heading : (shop : Shop) (text sizes third fourth rest : List ℕ) (version depth value : ℕ)
    (sequence : List ℕ) → text ≡ line (title version) ++ sizes →
    BeginsWithSize shop.jobs shop.machines sizes depth third → BeginsWithNumber third 10 value fourth →
    BeginsWithSequence shop.jobs fourth sequence rest → text ≡ heading shop version depth value sequence ++ rest
begins-heading shop text sizes third fourth rest version depth value sequence titled sized valued jobs =
    outer text (upto_value shop version depth value) fourth (line (spaced sequence)) rest
    (outer text (upto_sizes shop version depth) third (line (decimal value)) fourth
    (outer text (upto_title version) sizes (line (spaced (shop.jobs ∷ shop.machines ∷ depth ∷ []))) third titled
    sized.2) (valued.1 ∙ sym (append_assoc (decimal value) (10 ∷ []) fourth))) jobs.1

-- where no line of a sequence is read, memory ran out, or the text is at fault there
pub sequence-fails : (shop : Shop) (text start : List ℕ) (fault : CheckFault) →
    (((jobs rest : List ℕ) → BeginsWithSequence shop.jobs start jobs rest → ⊥) →
    text_value shop text ≡ Err Sequence) → IsSequenceFault shop.jobs start fault →
    UnlessMemory (λ f. text_value shop text ≡ Err f) fault
sequence-fails shop text start fault refused (inl memory) =
    subst (UnlessMemory (λ f. text_value shop text ≡ Err f)) (sym memory) tt
sequence-fails shop text start fault refused (inr (is, none)) =
    subst (UnlessMemory (λ f. text_value shop text ≡ Err f)) (sym is) (refused none)

-- the sequence of a certificate has its value as makespan, which is the least
pub value-gives : (shop : Shop) (bytes : List ℕ) (value : ℕ) (sequence : List ℕ) →
    IsCertificateWith shop bytes value sequence →
    GivesSequence shop bytes sequence × IsLeastMakespan shop (span shop sequence)
value-gives shop bytes value sequence gives =
    let attained : value ≡ span shop sequence = sym gives.3.attained in (
      subst (λ v. IsCertificateWith shop bytes v sequence) attained gives,
      subst (IsLeastMakespan shop) attained
          (certificate_is_sound shop bytes value (sequence, gives)),
    )
