-- What a fault says of a text, where it is not `Memory`; and what it says of whether the text is lawful.
use Rattle.std.proofs.Common.{◌≡◌, ◌≢◌, ◌⊎◌, refl, sym, subst, inl, inr}
use Rattle.flow_check.specs.CertificateFaults.{UnlessMemory, UnlessOpen}
use Rattle.flow_check.specs.declared.fault.CheckFault.{CheckFault}
use Rattle.flow_check.specs.declared.fault.CheckFault.TheVariants.{Memory, Header, Size, Value, Sequence, NotAttained}
use Rattle.flow_check.specs.declared.fault.CheckFault.TheVariants.{Most, Tree, Weak, Low, End}

-- what holds of a fault is said
pub said : (says : CheckFault → Type 0) (fault : CheckFault) → says fault → UnlessMemory says fault
said says Memory holds = tt
said says Header holds = holds
said says Size holds = holds
said says Value holds = holds
said says Sequence holds = holds
said says NotAttained holds = holds
said says Most holds = holds
said says (Tree line) holds = holds
said says (Weak line) holds = holds
said says (Low line) holds = holds
said says End holds = holds

-- and what is said holds, where the fault is not `Memory`
pub told : (says : CheckFault → Type 0) (fault : CheckFault) → UnlessMemory says fault →
    (fault ≡ Memory) ⊎ says fault
told says Memory it = inl refl
told says Header it = inr it
told says Size it = inr it
told says Value it = inr it
told says Sequence it = inr it
told says NotAttained it = inr it
told says Most it = inr it
told says (Tree line) it = inr it
told says (Weak line) it = inr it
told says (Low line) it = inr it
told says End it = inr it

-- what holds of a fault that is neither `Memory` nor `Most` is said of whether a text is lawful
pub decided : (says : CheckFault → Type 0) (fault : CheckFault) →
    (fault ≢ Memory → fault ≢ Most → says fault) → UnlessOpen says fault
decided says Memory holds = tt
decided says Most holds = tt
decided says Header holds = holds (λ e. cc) (λ e. cc)
decided says Size holds = holds (λ e. cc) (λ e. cc)
decided says Value holds = holds (λ e. cc) (λ e. cc)
decided says Sequence holds = holds (λ e. cc) (λ e. cc)
decided says NotAttained holds = holds (λ e. cc) (λ e. cc)
decided says (Tree line) holds = holds (λ e. cc) (λ e. cc)
decided says (Weak line) holds = holds (λ e. cc) (λ e. cc)
decided says (Low line) holds = holds (λ e. cc) (λ e. cc)
decided says End holds = holds (λ e. cc) (λ e. cc)

-- what follows from what a fault says
pub follows : (says also : CheckFault → Type 0) (fault : CheckFault) → (says fault → also fault) →
    UnlessMemory says fault → UnlessMemory also fault
follows says also fault step it = elim (told says fault it) [
  | inl memory ↦ subst (UnlessMemory also) (sym memory) tt
  | inr holds ↦ said also fault (step holds)
]

-- what follows of whether a text is lawful
pub decides : (says also : CheckFault → Type 0) (fault : CheckFault) →
    (fault ≢ Most → says fault → also fault) → UnlessMemory says fault → UnlessOpen also fault
decides says also fault step it = decided also fault (λ memory most. elim (told says fault it) [
  | inl is ↦ absurd (memory is)
  | inr holds ↦ step most holds
])

-- what cannot be is said by none but `Memory`
pub only-memory : (says : CheckFault → Type 0) (fault : CheckFault) → ¬ says fault → UnlessMemory says fault →
    fault ≡ Memory
only-memory says fault never it = elim (told says fault it) [
  | inl is ↦ is
  | inr holds ↦ absurd (never holds)
]
