-- What the checker of counted certificates gives.
use Rattle.std.proofs.Common.{◌≡◌, ◌≢◌, ◌⊎◌, ℕ, ◌≤◌, ◌<◌, nat_le, Bool, false, List, [], ◌∷◌, Result, Err, refl}
use Rattle.std.proofs.Common.{sym, subst, ◌∙◌, inl, inr, append_assoc, arith}
use Rattle.std.specs.Str.{bytes_eq}
use Rattle.std.specs.Cmp.Lexicographic.{bytes_decides}
use Rattle.std.specs.Fmt.{decimal}
use Rattle.std.proofs.lemmas.Bool.{cases_Bool, leb-true, leb-false, false≢true}
use Rattle.flow_shop.specs.Shop.{Shop, IsWithinLimits}
use Rattle.flow_check.specs.TextLines.{line, ending}
use Rattle.flow_check.specs.CertificateFaults.{UnlessMemory}
use Rattle.flow_check.specs.FourLinesFaults.{HasFourLines, FailsWithinFour}
use Rattle.flow_check.specs.Counted.{counted_title, OpensInAll, IsCountedText, IsCountedWithin}
use Rattle.flow_check.specs.Counted.{IsCountedAbove}
use Rattle.flow_check.specs.CountedFaults.{StartsWithCount, HasNoCount, HasSearchFault, HasCountFault}
use Rattle.flow_check.specs.CountedFaults.{HasCountedFault, IsCountedFault, IsNotCounted}
use Rattle.flow_check.specs.internal.Heading.{BeginsWithNumber}
use Rattle.flow_check.specs.declared.bounds.Bounds.{Bounds}
use Rattle.flow_check.specs.declared.fault.CheckFault.{CheckFault}
use Rattle.flow_check.specs.declared.fault.CheckFault.TheVariants.{Memory, Value, Most, End}
use Rattle.flow_check.proofs.FaultsSaid.{said, told, follows, decides}
use Rattle.flow_check.proofs.Judged.{refused as refused-by}
use Rattle.flow_check.proofs.CountedLaws.{each_counted_is_judged, above_is_most, counted_states_one}

-- the line of a count, as it is read

pub starts-with : (text : List ℕ) (count : ℕ) (rest : List ℕ) → BeginsWithNumber text 10 count rest →
    StartsWithCount text count rest
starts-with text count rest begins = record {
  fits = begins.0;
  line_is = begins.1 ∙ sym (append_assoc (decimal count) (10 ∷ []) rest);
}

pub no-count : (text : List ℕ) → ((count : ℕ) (rest : List ℕ) → BeginsWithNumber text 10 count rest → ⊥) →
    HasNoCount text
no-count text none = λ count fits begins.
    none count begins.0 (fits, begins.1 ∙ append_assoc (decimal count) (10 ∷ []) begins.0)

module _ (shop : Shop) (most : ℕ) (text : List ℕ) where
  -- a lawful text is allowed, or states more nodes
  allowed-or-not : (bounds : Bounds) (sequence : List ℕ) → IsCountedText shop text bounds sequence →
      IsCountedWithin shop most text ⊎ IsCountedAbove shop most text
  allowed-or-not bounds sequence is = elim (cases_Bool (nat_le is.count most)) [
    | inl within ↦ inl (bounds, sequence, is, leb-true is.count most within)
    | inr above ↦ inr (bounds, sequence, is, leb-false is.count most above)
  ]

  -- a text that is allowed states no more
  pub not-above : (bounds : Bounds) (sequence : List ℕ) → IsWithinLimits shop →
      (is : IsCountedText shop text bounds sequence) → is.count ≤ most → ¬ IsCountedAbove shop most text
  not-above bounds sequence limits is within (other, jobs, also, above) =
      let same : is.count ≡ also.count =
      (counted_states_one shop text bounds other sequence jobs limits is also).2 in
      omega (arith, same, within, above)

  -- a fault of the first four lines
  pub four-fail : (fault : CheckFault) → UnlessMemory (FailsWithinFour counted_title shop text) fault →
      IsCountedFault shop most text fault
  four-fail fault bad =
      follows (FailsWithinFour counted_title shop text) (HasCountedFault shop most text) fault (λ has. inl has) bad

  -- a text with a fault is not lawful, unless the fault is `Most`
  pub unlawful : IsWithinLimits shop → (fault : CheckFault) → IsCountedFault shop most text fault →
      IsNotCounted shop text fault
  unlawful limits fault first =
      decides (HasCountedFault shop most text)
      (λ _. (bounds : Bounds) (sequence : List ℕ) → ¬ IsCountedText shop text bounds sequence) fault
      (λ other has bounds sequence is. elim (allowed-or-not bounds sequence is) [
        | inl within ↦ (each_counted_is_judged shop most text limits).apart fault within has
        | inr above ↦ other ((each_counted_is_judged shop most text limits).one fault Most has
            (above_is_most shop most text above))
      ]) first

  -- a lawful text is refused where memory ran out, or where it states more nodes than are allowed
  pub refused : {A : Type 0} (Q : Type 0) (answer : Result A CheckFault) (fault : CheckFault) → IsWithinLimits shop →
      answer ≡ Err fault → IsCountedFault shop most text fault → (bounds : Bounds) (sequence : List ℕ) →
      IsCountedText shop text bounds sequence →
      Q ⊎ (answer ≡ Err Memory) ⊎ ((answer ≡ Err Most) × IsCountedAbove shop most text)
  refused {A} Q answer fault limits e bad bounds sequence is = elim (allowed-or-not bounds sequence is) [
    | inl within ↦ inr (inl (refused-by (IsCountedWithin shop most text) (HasCountedFault shop most text)
        (each_counted_is_judged shop most text limits) answer fault e bad within))
    | inr above ↦ inr (elim (told (HasCountedFault shop most text) fault bad) [
      | inl memory ↦ inl (subst (λ f. answer ≡ Err f) memory e)
      | inr has ↦ inr (
        subst (λ f. answer ≡ Err f) ((each_counted_is_judged shop most text limits).one fault Most has
            (above_is_most shop most text above)) e,
        above,
      )
    ])
  ]

  module _ (bounds : Bounds) (sequence rest : List ℕ)
      (four : HasFourLines counted_title shop text bounds sequence rest) where
    -- a fault behind the first four lines
    last-fails : (fault : CheckFault) → HasCountFault shop most bounds.lower rest fault →
        IsCountedFault shop most text fault
    last-fails fault bad = said (HasCountedFault shop most text) fault (behind fault bad)
      where
        behind : (fault : CheckFault) → HasCountFault shop most bounds.lower rest fault →
            HasCountedFault shop most text fault
        behind fault bad = inr (record {
          bounds = bounds;
          sequence = sequence;
          rest = rest;
          four = four;
          faulty = bad;
        })

    -- there is no count
    pub no-count-fails : HasNoCount rest → IsCountedFault shop most text Value
    no-count-fails none = last-fails Value (inl (refl, none))

    module _ (count : ℕ) (last : List ℕ) (starts : StartsWithCount rest count last) where
      -- it is more than is allowed
      pub above-fails : most < count → IsCountedFault shop most text Most
      above-fails above = last-fails Most (inr (count, last, starts, inl (refl, above)))

      module _ (within : count ≤ most) where
        -- a fault of the search, or of memory
        pub search-fails : (fault : CheckFault) → UnlessMemory (HasSearchFault shop bounds.lower count) fault →
            IsCountedFault shop most text fault
        search-fails fault bad = elim (told (HasSearchFault shop bounds.lower count) fault bad) [
          | inl memory ↦ subst (IsCountedFault shop most text) (sym memory) tt
          | inr has ↦ last-fails fault (inr (count, last, starts, inr (inl (within, has))))
        ]

        -- the text ends otherwise
        pub end-fails : OpensInAll shop bounds.lower count → (same : Bool) → same ≡ bytes_eq last (line ending) →
            same ≡ false → IsCountedFault shop most text End
        end-fails opens same test other =
            let differs : last ≢ line ending =
            λ e. false≢true (sym other ∙ test ∙ (bytes_decides last (line ending)).1 e) in
            last-fails End (inr (count, last, starts, inr (inr (refl, within, opens, differs))))
