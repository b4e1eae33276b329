-- What each line before the trees makes of the value of a text, and what its absence makes of it.
use Rattle.std.proofs.Common.{◌≡◌, ℕ, ◌≤◌, cond, ◌&&◌, nat_eq, nat_le, List, [], ◌∷◌, ◌++◌, length}
use Rattle.std.proofs.Common.{Option, Some, None, Result, Err, refl, ap, sym, subst, ◌∙◌, inl, inr, arith}
use Rattle.std.proofs.Common.{append_assoc}
use Rattle.std.specs.Option.{option_map_or}
use Rattle.std.proofs.lemmas.Bool.{cases_Bool, eqb-true, leb-true}
use Rattle.flow_shop.specs.Limits.{greatest_depth}
use Rattle.flow_shop.specs.Shop.{Shop, IsWithinLimits}
use Rattle.flow_shop.specs.Paths.{span}
use Rattle.flow_shop.specs.Sequences.{IsSequence}
use Rattle.flow_shop.specs.SequenceFaults.{sequence_fault}
use Rattle.flow_shop.specs.declared.sequence.SequenceFault.{SequenceFault}
use Rattle.flow_shop.proofs.SequenceLemmas.{sequence-fault-none-is, is-fault-none}
use Rattle.std.specs.Fmt.{decimal}
use Rattle.flow_check.specs.TextLines.{IsVersion, line, spaced, title}
use Rattle.flow_check.specs.internal.Reading.{header_value, size_value, sequence_value, value_of}
use Rattle.flow_check.specs.internal.Reading.{first_line, on_line, numbers_in, version_of}
use Rattle.flow_check.specs.internal.ReadTrees.{cut_value}
use Rattle.flow_check.specs.internal.Heading.{BeginsWithNumber, BeginsWithSize, BeginsWithSequence}
use Rattle.flow_check.specs.declared.fault.CheckFault.{CheckFault}
use Rattle.flow_check.specs.declared.fault.CheckFault.TheVariants.{Header, Size, Value, Sequence, NotAttained}
use Rattle.flow_check.proofs.Numbers.{Fit, numbers-sound, numbers-complete, spaced-plain}
use Rattle.flow_check.proofs.ExactLines.{LineOf, first-line-is, on-line-complete, title-plain, title-known}
use Rattle.flow_check.proofs.ExactLines.{known-title}
use Rattle.flow_check.proofs.Exact.{numbers-whole, size-true}
use Rattle.flow_check.proofs.ExactLines.{value-plain, value-known, value-text}
use Rattle.flow_check.proofs.Exact.{size-fit, sequence-fit, four, after_header, after_size, after_value}

-- a line that is at fault whatever stands in it
refused-of : {A : Type 0} (fault : CheckFault) (next : List ℕ → List ℕ →
    Result A CheckFault) (bytes : List ℕ) (o : Option (List ℕ × List ℕ)) → LineOf bytes o →
    ((text rest : List ℕ) → bytes ≡ text ++ 10 ∷ rest → next text rest ≡ Err fault) →
    option_map_or (λ r. next r.0 r.1) o (Err fault) ≡ Err fault
refused-of fault next bytes None is bad = refl
refused-of fault next bytes (Some r) is bad = bad r.0 r.1 is

line-refused : {A : Type 0} (fault : CheckFault) (next : List ℕ → List ℕ → Result A CheckFault) (bytes : List ℕ) →
    ((text rest : List ℕ) → bytes ≡ text ++ 10 ∷ rest → next text rest ≡ Err fault) →
    on_line fault next bytes ≡ Err fault
line-refused fault next bytes bad = refused-of fault next bytes (first_line bytes) (first-line-is bytes) bad

-- nothing is found, so the step fails
not-found : {A B : Type 0} (next : A → Result B CheckFault) (o : Option A) (fault : CheckFault) →
    ((found : A) → o ≡ Some found → ⊥) → option_map_or next o (Err fault) ≡ Err fault
not-found next None fault none = refl
not-found next (Some found) fault none = absurd (none found refl)

-- a line's text and its end, where the line stands before the rest
pub as-line : (bytes text line_text rest : List ℕ) → bytes ≡ text ++ 10 ∷ rest → text ≡ line_text →
    bytes ≡ line line_text ++ rest
as-line bytes text line_text rest e same = e ∙ ap (λ xs. xs ++ 10 ∷ rest) same
    ∙ sym (append_assoc line_text (10 ∷ []) rest)

line-read : {A : Type 0} (fault : CheckFault) (next : List ℕ → List ℕ → Result A CheckFault)
    (bytes line_text rest : List ℕ) →
    bytes ≡ line line_text ++ rest → on_line fault next (line_text ++ 10 ∷ rest) ≡ next line_text rest →
    on_line fault next bytes ≡ next line_text rest
line-read fault next bytes line_text rest e reads = ap (on_line fault next) (e ∙ append_assoc line_text (10 ∷ []) rest)
    ∙ reads

-- the first line

pub title-read : (shop : Shop) (version : ℕ) (bytes rest : List ℕ) → IsVersion version →
    bytes ≡ line (title version) ++ rest →
    on_line Header (header_value shop) bytes ≡ on_line Size (after_header shop version) rest
title-read shop version bytes rest known e =
    line-read Header (header_value shop) bytes (title version) rest e (on-line-complete Header
    (header_value shop) (title version) rest (title-plain version known))
    ∙ ap (λ o. option_map_or (λ v. on_line Size (after_header shop v) rest) o (Err Header))
    (title-known version known)

pub title-refused : (shop : Shop) (bytes : List ℕ) →
    ((version : ℕ) (rest : List ℕ) → IsVersion version → bytes ≡ line (title version) ++ rest → ⊥) →
    on_line Header (header_value shop) bytes ≡ Err Header
title-refused shop bytes none = line-refused Header (header_value shop) bytes (λ text rest e.
    not-found (λ version. on_line Size (after_header shop version) rest) (version_of text) Header
    (λ version is.
    let titled = known-title text version is in
    none version rest titled.0 (as-line bytes text (title version) rest e titled.1)))

-- the line of the size

pub size-read : (shop : Shop) (version : ℕ) (bytes : List ℕ) (depth : ℕ) (rest : List ℕ) →
    IsWithinLimits shop → BeginsWithSize shop.jobs shop.machines bytes depth rest →
    on_line Size (after_header shop version) bytes ≡ on_line Value (after_size shop version depth) rest
size-read shop version bytes depth rest limits h =
    let fits : Fit (shop.jobs ∷ shop.machines ∷ depth ∷ []) = size-fit shop depth limits h.1 in
    let text : List ℕ = spaced (shop.jobs ∷ shop.machines ∷ depth ∷ []) in
    line-read Size (after_header shop version) bytes text rest h.2
    (on-line-complete Size (after_header shop version) text rest
    (spaced-plain (shop.jobs ∷ shop.machines ∷ depth ∷ []) fits))
    ∙ ap (size_value shop version rest) (numbers-complete shop.jobs (shop.machines ∷ depth ∷ []) fits)
    ∙ ap (λ b. cond b (on_line Value (after_size shop version depth) rest) (Err Size))
    (size-true shop depth h.0 h.1)

size-other : (shop : Shop) (version : ℕ) (rest : List ℕ) (o : Option (List ℕ)) →
    ((depth : ℕ) → depth ≤ shop.jobs → depth ≤ greatest_depth → o ≡ Some (shop.jobs ∷ shop.machines ∷ depth ∷ []) → ⊥) →
    size_value shop version rest o ≡ Err Size
size-other shop version rest None none = refl
size-other shop version rest (Some []) none = refl
size-other shop version rest (Some (a ∷ [])) none = refl
size-other shop version rest (Some (a ∷ b ∷ [])) none = refl
size-other shop version rest (Some (a ∷ b ∷ d ∷ x ∷ xs)) none = refl
size-other shop version rest (Some (a ∷ b ∷ d ∷ [])) none =
    elim (cases_Bool (nat_eq a shop.jobs && nat_eq b shop.machines && nat_le d shop.jobs && nat_le d greatest_depth)) [
      | inl same ↦
          let t = four (nat_eq a shop.jobs) (nat_eq b shop.machines) (nat_le d shop.jobs)
          (nat_le d greatest_depth) same in
          absurd (none d (leb-true d shop.jobs t.2) (leb-true d greatest_depth t.3) (ap (λ k. Some (k ∷ b ∷ d
          ∷ [])) (eqb-true a shop.jobs t.0)
          ∙ ap (λ k. Some (shop.jobs ∷ k ∷ d ∷ [])) (eqb-true b shop.machines t.1)))
      | inr other ↦ ap (λ b. cond b (on_line Value (after_size shop version d) rest) (Err Size)) other
    ]

pub size-refused : (shop : Shop) (version : ℕ) (bytes : List ℕ) → IsWithinLimits shop →
    ((depth : ℕ) (rest : List ℕ) → BeginsWithSize shop.jobs shop.machines bytes depth rest → ⊥) →
    on_line Size (after_header shop version) bytes ≡ Err Size
size-refused shop version bytes limits none =
    line-refused Size (after_header shop version) bytes (λ text rest e.
    size-other shop version rest (numbers_in text) (λ depth short shallow is.
    none depth rest (
      short,
      shallow,
      as-line bytes text (spaced (shop.jobs ∷ shop.machines ∷ depth ∷ [])) rest e
          (numbers-sound text (shop.jobs ∷ shop.machines ∷ depth ∷ []) is (size-fit shop depth limits shallow)),
    )))

-- the line of the value

pub value-read : (shop : Shop) (version : ℕ) (bytes : List ℕ) (depth value : ℕ) (rest : List ℕ) →
    BeginsWithNumber bytes 10 value rest →
    on_line Value (after_size shop version depth) bytes ≡ on_line Sequence (after_value shop version depth value) rest
value-read shop version bytes depth value rest h =
    ap (on_line Value (after_size shop version depth)) h.1
    ∙ on-line-complete Value (after_size shop version depth) (decimal value) rest (value-plain value h.0)
    ∙ ap (λ o. option_map_or (λ v. on_line Sequence (after_value shop version depth v) rest) o (Err Value))
    (value-known value h.0)

pub value-refused : (shop : Shop) (version : ℕ) (bytes : List ℕ) (depth : ℕ) →
    ((value : ℕ) (rest : List ℕ) → BeginsWithNumber bytes 10 value rest → ⊥) →
    on_line Value (after_size shop version depth) bytes ≡ Err Value
value-refused shop version bytes depth none =
    line-refused Value (after_size shop version depth) bytes (λ text rest e.
    not-found (λ value. on_line Sequence (after_value shop version depth value) rest)
    (value_of (numbers_in text)) Value (λ value is.
    let third = value-text text value is in
    none value rest (third.0, e ∙ ap (λ xs. xs ++ 10 ∷ rest) third.1)))

-- the line of the sequence

pub sequence-read : (shop : Shop) (version : ℕ) (bytes : List ℕ) (depth value : ℕ) (jobs rest : List ℕ) →
    IsWithinLimits shop → BeginsWithSequence shop.jobs bytes jobs rest →
    on_line Sequence (after_value shop version depth value) bytes
    ≡ cond (nat_eq (span shop jobs) value) (cut_value shop version depth value rest) (Err NotAttained)
sequence-read shop version bytes depth value jobs rest limits h =
    let fits : Fit jobs = sequence-fit shop.jobs jobs limits.jobs h.0 in
    let whole : length jobs ≡ shop.jobs = h.0.whole in
    let some : 1 ≤ shop.jobs = limits.some_job in
    line-read Sequence (after_value shop version depth value) bytes (spaced jobs) rest h.1 (on-line-complete
    Sequence (after_value shop version depth value) (spaced jobs) rest (spaced-plain jobs fits))
    ∙ ap (sequence_value shop version depth value rest)
    (numbers-whole jobs (omega (arith, whole, some)) fits)
    ∙ ap (λ o. option_map_or (λ fault. Err Sequence) o
    (cond (nat_eq (span shop jobs) value) (cut_value shop version depth value rest) (Err NotAttained)))
    (is-fault-none shop.jobs jobs h.0)

no-sequence : {A : Type 0} (shop : Shop) (jobs : List ℕ) (next : Result A CheckFault) (o : Option SequenceFault) →
    (o ≡ None → ⊥) → option_map_or (λ fault. Err Sequence) o next ≡ Err Sequence
no-sequence shop jobs next None none = absurd (none refl)
no-sequence shop jobs next (Some fault) none = refl

sequence-other : (shop : Shop) (version depth value : ℕ) (rest : List ℕ)
    (o : Option (List ℕ)) → ((jobs : List ℕ) → IsSequence shop.jobs jobs → o ≡ Some jobs → ⊥) →
    sequence_value shop version depth value rest o ≡ Err Sequence
sequence-other shop version depth value rest None none = refl
sequence-other shop version depth value rest (Some jobs) none =
    no-sequence shop jobs (cond (nat_eq (span shop jobs) value)
    (cut_value shop version depth value rest) (Err NotAttained))
    (sequence_fault shop.jobs jobs)
    (λ fine. none jobs (sequence-fault-none-is shop.jobs jobs fine) refl)

pub sequence-refused : (shop : Shop) (version : ℕ) (bytes : List ℕ) (depth value : ℕ) → IsWithinLimits shop →
    ((jobs rest : List ℕ) → BeginsWithSequence shop.jobs bytes jobs rest → ⊥) →
    on_line Sequence (after_value shop version depth value) bytes ≡ Err Sequence
sequence-refused shop version bytes depth value limits none =
    line-refused Sequence (after_value shop version depth value) bytes (λ text rest e.
    sequence-other shop version depth value rest (numbers_in text) (λ jobs is found.
    none jobs rest (
      is,
      as-line bytes text (spaced jobs) rest e (numbers-sound text jobs found
          (sequence-fit shop.jobs jobs limits.jobs is)),
    )))

-- the size as the reader takes it

abbrev SizedAs : List ℕ → ℕ → List ℕ → ℕ → ℕ → Type 0
SizedAs bytes depth rest jobs machines = BeginsWithSize jobs machines bytes depth rest

pub size-is : (shop : Shop) (jobs machines : ℕ) (bytes : List ℕ) (depth : ℕ) (rest : List ℕ) → jobs ≡ shop.jobs →
    machines ≡ shop.machines → BeginsWithSize jobs machines bytes depth rest →
    BeginsWithSize shop.jobs shop.machines bytes depth rest
size-is shop jobs machines bytes depth rest j m h =
    subst (SizedAs bytes depth rest shop.jobs) m (subst (λ n. SizedAs bytes depth rest n machines) j h)

pub is-size : (shop : Shop) (jobs machines : ℕ) (bytes : List ℕ) (depth : ℕ) (rest : List ℕ) → jobs ≡ shop.jobs →
    machines ≡ shop.machines → BeginsWithSize shop.jobs shop.machines bytes depth rest →
    BeginsWithSize jobs machines bytes depth rest
is-size shop jobs machines bytes depth rest j m h =
    subst (SizedAs bytes depth rest jobs) (sym m) (subst (λ n. SizedAs bytes depth rest n shop.machines) (sym j) h)
