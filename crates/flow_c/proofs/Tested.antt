-- The first fault of tests of which the first ones found none.
use Rattle.std.proofs.Common.{◌≡◌, ◌⊎◌, refl, inl, inr, ℕ, List, [], ◌∷◌, Option, Some, None, subst, sym}
use Rattle.std.specs.Option.{option_or}
use Rattle.flow_shop.specs.Refusals.{first_fault}
use Rattle.flow_shop.specs.SequenceFaults.{sequence_fault}
use Rattle.flow_c.specs.Faults.{IsFaultOf, numbers_fault, makespan_fault}
use Rattle.flow_c.specs.declared.shop.ShopNumbers.{ShopNumbers}
use Rattle.flow_c.specs.declared.fault.Fault.{Fault}

-- a test alone
alone : (test : Option Fault) → option_or test None ≡ test
alone None = refl
alone (Some fault) = refl

-- of the last two tests
of-last : (third fourth : Option Fault) (fault : Fault) →
    IsFaultOf third fault ⊎ ((third ≡ None) × IsFaultOf fourth fault) →
    IsFaultOf (option_or third (option_or fourth None)) fault
of-last (Some own) fourth fault (inl is) = is
of-last (Some own) fourth fault (inr (none, is)) = absurd (cc none)
of-last None fourth fault (inl (inl is)) = absurd (cc is)
of-last None fourth fault (inl (inr ran_out)) = inr ran_out
of-last None fourth fault (inr (none, is)) = subst (λ test. IsFaultOf test fault) (sym (alone fourth)) is

-- of four tests
pub of-four : (first second third fourth : Option Fault) (fault : Fault) → first ≡ None → second ≡ None →
    IsFaultOf third fault ⊎ ((third ≡ None) × IsFaultOf fourth fault) →
    IsFaultOf (first_fault (first ∷ second ∷ third ∷ fourth ∷ [])) fault
of-four first second third fourth fault one two is = rw (one, two) (of-last third fourth fault is)

-- numbers that are an instance, and jobs that are a sequence of it
pub no-makespan-fault : (numbers : ShopNumbers) (sequence : List ℕ) → numbers_fault numbers ≡ None →
    sequence_fault numbers.jobs sequence ≡ None → makespan_fault numbers sequence ≡ None
no-makespan-fault numbers sequence one two = rw (one, two) refl
