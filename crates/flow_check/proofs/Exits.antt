-- What the exit of a `?` returns.
use Rattle.std.proofs.Common.{◌≡◌, Result, Err, sym, subst}
use Rattle.std.specs.Result.{IsErrAnd, IfOk, IfErr}
use Rattle.std.proofs.lemmas.Result.{err_from_is_err_and}
use Rattle.flow_check.specs.declared.fault.CheckFault.{CheckFault}

-- the fault that was met
pub exit : {A : Type 0} (r : Result A CheckFault) (fault : CheckFault) → IsErrAnd r (λ f. f ≡ fault) → r ≡ Err fault
exit r fault h = let p = err_from_is_err_and r h in subst (λ f. r ≡ Err f) p.2 p.1

-- so nothing is said of a value
pub no_value : {A : Type 0} (r : Result A CheckFault) (fault : CheckFault) (P : A → Type 0) →
    IsErrAnd r (λ f. f ≡ fault) → IfOk r P
no_value {A} r fault P h = subst (λ (s : Result A CheckFault). IfOk s P) (sym (exit r fault h)) tt

-- and what is said of the fault is said of what is returned
pub at_exit : {A : Type 0} (r : Result A CheckFault) (fault : CheckFault) (P : CheckFault → Type 0) →
    IsErrAnd r (λ f. f ≡ fault) → P fault → IfErr r P
at_exit {A} r fault P h is = subst (λ (s : Result A CheckFault). IfErr s P) (sym (exit r fault h)) is
