-- What a fault says of a text.
use Rattle.std.specs.Prelude.{ℕ, List}
use Rattle.flow_shop.specs.Shop.{Shop}
use Rattle.flow_check.specs.Certificate.{IsCertificate}
use Rattle.flow_check.specs.CertificateFaults.{UnlessMemory, UnlessOpen, HasFirstFault}
use Rattle.flow_check.specs.TwoEndedFaults.{HasTwoEndedFault}
use Rattle.flow_check.specs.CountedFaults.{HasCountedFault}
use Rattle.flow_check.specs.Stated.{GivesAs}
use Rattle.flow_check.specs.declared.bounds.Bounds.{Bounds}
use Rattle.flow_check.specs.declared.fault.CheckFault.{CheckFault}
use Rattle.flow_check.specs.declared.kind.TextKind.{TextKind}
use Rattle.flow_check.specs.declared.kind.TextKind.TheVariants.{Certificate, TwoEnded, Counted}

-- the first fault of a text that is no lawful certificate; `Memory` says nothing of the text
abbrev pub IsFirstFault : Shop → List ℕ → CheckFault → Type 0
IsFirstFault shop bytes fault = UnlessMemory (HasFirstFault shop bytes) fault

-- a text with this fault is not a lawful certificate; `Memory` says nothing of the text
abbrev pub IsOfNoValue : Shop → List ℕ → CheckFault → Type 0
IsOfNoValue shop bytes fault = UnlessMemory (λ _. (value : ℕ) → ¬ IsCertificate shop bytes value) fault

-- the first fault of a text, as one of a kind, for a reader who allows so many nodes at most
abbrev pub HasFaultAs : TextKind → ℕ → Shop → List ℕ → CheckFault → Type 0
HasFaultAs Certificate most shop bytes fault = HasFirstFault shop bytes fault
HasFaultAs TwoEnded most shop bytes fault = HasTwoEndedFault shop bytes fault
HasFaultAs Counted most shop bytes fault = HasCountedFault shop most bytes fault

-- the first fault of a text, as one of a kind; `Memory` says nothing of the text
abbrev pub IsFaultAs : TextKind → ℕ → Shop → List ℕ → CheckFault → Type 0
IsFaultAs kind most shop bytes fault = UnlessMemory (HasFaultAs kind most shop bytes) fault

-- a text with this fault is not a lawful one of a kind; `Memory` and `Most` leave that open
abbrev pub IsUnlawfulAs : TextKind → Shop → List ℕ → CheckFault → Type 0
IsUnlawfulAs kind shop bytes fault =
    UnlessOpen (λ _. (bounds : Bounds) (sequence : List ℕ) → ¬ GivesAs kind shop bytes bounds sequence) fault
