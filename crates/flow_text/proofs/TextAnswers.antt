-- What the answer of the reader says of the text.
use Rattle.std.proofs.Common.{◌≡◌, ◌∙◌, ap, ℕ, List, Some, None, Ok, Err, Result, refl, sym}
use Rattle.std.specs.Prelude.{◌≢◌, IfOk, OnOk, IfErr}
use Rattle.flow_text.specs.Lines.{lines_of}
use Rattle.flow_text.specs.Text.{Reads}
use Rattle.flow_text.specs.TextFaults.{text_fault}
use Rattle.flow_text.specs.internal.TextWalk.{walk, Gives}
use Rattle.flow_text.specs.internal.TextState.{start}
use Rattle.flow_text.specs.declared.text.block.Block.{Block}
use Rattle.flow_text.specs.declared.text.fault.TextFault.{TextFault}
use Rattle.flow_text.specs.declared.text.fault.TextFault.TheVariants as text
use Rattle.flow_text.proofs.TextGrammar.{Reads-walk}
use Rattle.flow_text.proofs.TextComplete.{walk-Reads}
use Rattle.flow_text.proofs.TextFaultLemmas.{fault_of, text_fault-walk}

-- the answer of the reader for a text
abbrev answer_of : List ℕ → Result (List Block) TextFault
answer_of bytes = walk start 0 (lines_of bytes)

pub reads-of-answer : {X : Type 0} (view : X → List Block) (result : Result X TextFault) (bytes : List ℕ) →
    Gives text.Memory view result (answer_of bytes) → IfOk result (λ x. Reads bytes (view x))
reads-of-answer view (Ok x) bytes gives = Reads-walk bytes (view x) gives
reads-of-answer view (Err fault) bytes gives = tt

pub accepted-of-answer : {X : Type 0} (view : X → List Block) (result : Result X TextFault) (bytes : List ℕ) →
    Gives text.Memory view result (answer_of bytes) → OnOk result (text_fault bytes ≡ None)
accepted-of-answer view (Ok x) bytes gives = text_fault-walk bytes ∙ ap fault_of gives
accepted-of-answer view (Err fault) bytes gives = tt

refused : (fault : TextFault) (bytes : List ℕ) → answer_of bytes ≡ Err fault → text_fault bytes ≡ Some fault
refused fault bytes e = text_fault-walk bytes ∙ ap fault_of e

pub refused-of-answer : {X : Type 0} (view : X → List Block) (result : Result X TextFault) (bytes : List ℕ) →
    Gives text.Memory view result (answer_of bytes) →
    IfErr result (λ fault. fault ≢ text.Memory → text_fault bytes ≡ Some fault)
refused-of-answer view (Ok x) t gives = tt
refused-of-answer view (Err fault) t gives = λ other. refused fault t (gives other)

read : (fault : TextFault) (bytes : List ℕ) (blocks : List Block) → Reads bytes blocks → answer_of bytes ≡ Err fault → ⊥
read fault bytes blocks reads e = let is : answer_of bytes ≡ Ok blocks = walk-Reads bytes blocks reads in cc

pub only-of-answer : {X : Type 0} (view : X → List Block) (result : Result X TextFault) (bytes : List ℕ) →
    Gives text.Memory view result (answer_of bytes) → (blocks : List Block) → Reads bytes blocks →
    IfErr result (λ fault. fault ≡ text.Memory)
only-of-answer view (Ok x) t gives blocks reads = tt
only-of-answer view (Err text.Memory) t gives blocks reads = refl
only-of-answer view (Err text.NoBlock) t gives blocks reads = absurd (read _ t blocks reads (gives (λ e. cc e)))
only-of-answer view (Err (text.Label n)) t gives blocks reads = absurd (read _ t blocks reads (gives (λ e. cc e)))
only-of-answer view (Err (text.Byte n)) t gives blocks reads = absurd (read _ t blocks reads (gives (λ e. cc e)))
only-of-answer view (Err (text.Number n)) t gives blocks reads = absurd (read _ t blocks reads (gives (λ e. cc e)))
only-of-answer view (Err (text.Head n)) t gives blocks reads = absurd (read _ t blocks reads (gives (λ e. cc e)))
only-of-answer view (Err (text.Limits n)) t gives blocks reads = absurd (read _ t blocks reads (gives (λ e. cc e)))
only-of-answer view (Err (text.Times n)) t gives blocks reads = absurd (read _ t blocks reads (gives (λ e. cc e)))

-- a text has no fault exactly where it has a reading, and it has one at most
pub none-reads : (bytes : List ℕ) → text_fault bytes ≡ None → (blocks : List Block) × Reads bytes blocks
none-reads bytes e = go (answer_of bytes) refl
  where
    go : (answer : Result (List Block) TextFault) → answer_of bytes ≡ answer → (blocks : List Block)
        × Reads bytes blocks
    go (Ok blocks) is = (blocks, Reads-walk bytes blocks is)
    go (Err fault) is = let bad : None ≡ Some fault = sym e ∙ refused fault bytes is in cc

pub reads-none : (bytes : List ℕ) (blocks : List Block) → Reads bytes blocks → text_fault bytes ≡ None
reads-none bytes blocks reads = text_fault-walk bytes ∙ ap fault_of (walk-Reads bytes blocks reads)

pub reads-one : (bytes : List ℕ) (blocks others : List Block) → Reads bytes blocks → Reads bytes others →
    blocks ≡ others
reads-one bytes blocks others reads more =
    let is : Ok blocks ≡ Ok others = sym (walk-Reads bytes blocks reads) ∙ walk-Reads bytes others more in cc
