-- What a checker gives that answers what a text is read as.
use Rattle.std.proofs.Common.{◌≡◌, ◌⊎◌, inr, ℕ, Bool, true, false, cond, ◌-◌, List, take, drop, length, IfErr}
use Rattle.std.proofs.Common.{Result, Ok, Err, ap, subst, sym, ◌∙◌}
use Rattle.std.specs.Str.{bytes_eq}
use Rattle.std.proofs.lemmas.List.{take_rest}
use Rattle.flow_shop.specs.Shop.{Shop, IsWithinLimits}
use Rattle.flow_check.specs.Certificate.{IsCertificate}
use Rattle.flow_check.specs.TextLines.{line, ending}
use Rattle.flow_check.specs.CertificateFaults.{UnlessMemory, HasFirstFault}
use Rattle.flow_check.specs.Faults.{IsFirstFault, IsOfNoValue}
use Rattle.flow_check.specs.internal.Heading.{IsHeadingOf}
use Rattle.flow_check.specs.internal.Reading.{text_value}
use Rattle.flow_check.specs.internal.ReadTrees.{cut_value, end_value}
use Rattle.flow_check.specs.internal.Trees.{TreesGive}
use Rattle.flow_check.specs.declared.fault.CheckFault.TheVariants.{Memory, End}
use Rattle.flow_check.specs.declared.fault.CheckFault.{CheckFault}
use Rattle.flow_check.specs.declared.heading.Heading.{Heading}
use Rattle.flow_check.proofs.Exact.{value_is_exact}
use Rattle.flow_check.proofs.FaultsExact.{fault_is_exact, first-read}
use Rattle.flow_check.proofs.FaultsSaid.{follows, only-memory as memory-alone}
use Rattle.flow_check.proofs.TreesExact.{fault-value}

-- a text with a fault is no lawful certificate
pub fault-lawless : (shop : Shop) (bytes : List ℕ) (fault : CheckFault) → IsWithinLimits shop →
    text_value shop bytes ≡ Err fault → (value : ℕ) → IsCertificate shop bytes value → ⊥
fault-lawless shop bytes fault limits read value is =
    fault-value fault value (sym read ∙ (value_is_exact shop bytes value limits).1 is)

-- a fault that is read is the first of the text
pub first-fault : (shop : Shop) (bytes : List ℕ) (fault : CheckFault) → IsWithinLimits shop →
    UnlessMemory (λ f. text_value shop bytes ≡ Err f) fault → IsFirstFault shop bytes fault
first-fault shop bytes fault limits read =
    follows (λ f. text_value shop bytes ≡ Err f) (HasFirstFault shop bytes) fault
    (λ e. (fault_is_exact shop bytes fault limits).0 e) read

-- and the text is no lawful one
pub unlawful : (shop : Shop) (bytes : List ℕ) (fault : CheckFault) → IsWithinLimits shop →
    IsFirstFault shop bytes fault → IsOfNoValue shop bytes fault
unlawful shop bytes fault limits first =
    follows (HasFirstFault shop bytes) (λ _. (value : ℕ) → ¬ IsCertificate shop bytes value) fault
    (λ has. fault-lawless shop bytes fault limits (first-read shop bytes fault limits has)) first

-- a lawful certificate is refused where memory ran out alone
pub only-memory : {A : Type 0} (shop : Shop) (bytes : List ℕ) (answer : Result A CheckFault)
    (fault : CheckFault) (value : ℕ) (Accepted : Type 0) → answer ≡ Err fault →
    IsOfNoValue shop bytes fault → IsCertificate shop bytes value → Accepted ⊎ (answer ≡ Err Memory)
only-memory shop bytes answer fault value Accepted e none is =
    inr (subst (λ f. answer ≡ Err f) (memory-alone (λ _. (s : ℕ) → ¬ IsCertificate shop bytes s) fault
    (λ no. no value is) none) e)

-- the faults of the trees are those of the text
pub trees-fault : (shop : Shop) (bytes : List ℕ) (heading : Heading) (fault : CheckFault) →
    IsWithinLimits shop → IsHeadingOf shop bytes heading →
    TreesGive shop heading.version heading.depth heading.value heading.trees.now (Err fault) →
    IsFirstFault shop bytes fault
trees-fault shop bytes heading fault limits is read =
    first-fault shop bytes fault limits
    (follows
    (λ f. cut_value shop heading.version heading.depth heading.value heading.trees.now ≡ Err f)
    (λ f. text_value shop bytes ≡ Err f) fault (λ e. is ∙ e) read)

-- what a checker answers with a fault

pub fault-at : {A : Type 0} (shop : Shop) (bytes : List ℕ) (answer : Result A CheckFault)
    (fault : CheckFault) → answer ≡ Err fault → IsFirstFault shop bytes fault →
    IfErr answer (λ f. IsFirstFault shop bytes f)
fault-at {A} shop bytes answer fault is first =
    subst (λ (r : Result A CheckFault). IfErr r (λ f. IsFirstFault shop bytes f)) (sym is) first

pub none-at : {A : Type 0} (shop : Shop) (bytes : List ℕ) (answer : Result A CheckFault)
    (fault : CheckFault) → answer ≡ Err fault → IsOfNoValue shop bytes fault →
    IfErr answer (λ f. IsOfNoValue shop bytes f)
none-at {A} shop bytes answer fault is none =
    subst (λ (r : Result A CheckFault). IfErr r (λ f. IsOfNoValue shop bytes f)) (sym is) none

-- the last line

-- what is read once the trees are read
ended : (shop : Shop) (bytes : List ℕ) (heading : Heading) (end : ℕ) (same : Bool) → IsHeadingOf shop bytes heading →
    TreesGive shop heading.version heading.depth heading.value heading.trees.now (Ok end) →
    same ≡ bytes_eq (take (length heading.trees.now - end) (drop end heading.trees.now)) (line ending) →
    text_value shop bytes ≡ cond same (Ok heading.value) (Err End)
ended shop bytes heading end same is trees test =
    is ∙ trees.0
    ∙ ap (λ xs. end_value heading.value xs) (sym (take_rest heading.trees.now end))
    ∙ ap (λ b. cond b (Ok heading.value) (Err End)) (sym test)

pub checked-value : (shop : Shop) (bytes : List ℕ) (heading : Heading) (end : ℕ) (same : Bool) →
    IsHeadingOf shop bytes heading →
    TreesGive shop heading.version heading.depth heading.value heading.trees.now (Ok end) →
    same ≡ bytes_eq (take (length heading.trees.now - end) (drop end heading.trees.now)) (line ending) →
    same ≡ true → text_value shop bytes ≡ Ok heading.value
checked-value shop bytes heading end same is trees test holds =
    ended shop bytes heading end same is trees test ∙ ap (λ b. cond b (Ok heading.value) (Err End)) holds

pub checked-end : (shop : Shop) (bytes : List ℕ) (heading : Heading) (end : ℕ) (same : Bool) →
    IsHeadingOf shop bytes heading →
    TreesGive shop heading.version heading.depth heading.value heading.trees.now (Ok end) →
    same ≡ bytes_eq (take (length heading.trees.now - end) (drop end heading.trees.now)) (line ending) →
    same ≡ false → text_value shop bytes ≡ Err End
checked-end shop bytes heading end same is trees test no_end =
    ended shop bytes heading end same is trees test ∙ ap (λ b. cond b (Ok heading.value) (Err End)) no_end
