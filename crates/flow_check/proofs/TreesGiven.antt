-- From the lines of the trees to the text from the first tree on.
use Rattle.std.proofs.Common.{◌≡◌, ℕ, ◌-◌, ◌≤◌, List, [], ◌∷◌, ◌++◌, length, Result, Ok, Err, ap, sym, subst, ◌∙◌}
use Rattle.std.proofs.Common.{arith}
use Rattle.std.proofs.lemmas.List.{append-nil}
use Rattle.flow_shop.specs.Shop.{Shop}
use Rattle.flow_shop.specs.Bound.{bound_of}
use Rattle.flow_shop.specs.Sequences.{cut}
use Rattle.flow_check.specs.internal.ReadTrees.{trees_value, cut_value}
use Rattle.flow_check.specs.internal.Trees.{TreesGive}
use Rattle.flow_check.specs.internal.PartsGive.{LinesGive}
use Rattle.flow_check.specs.declared.fault.CheckFault.{CheckFault}
use Rattle.flow_check.specs.declared.fault.CheckFault.TheVariants.{Memory, Header, Size, Value, Sequence, NotAttained}
use Rattle.flow_check.specs.declared.fault.CheckFault.TheVariants.{Most, Tree, Weak, Low, End}
use Rattle.flow_check.specs.declared.reader.Spot.{Spot}

whole : (shop : Shop) (version depth value : ℕ) (bytes : List ℕ) → cut_value shop version depth value bytes
    ≡ trees_value shop (bound_of version) value (shop.jobs - depth) (cut shop.jobs depth ++ []) 5 bytes
whole shop version depth value bytes =
    ap (λ ps. trees_value shop (bound_of version) value (shop.jobs - depth) ps 5 bytes)
    (sym (append-nil (cut shop.jobs depth)))

pub trees-ok : (shop : Shop) (version depth value : ℕ) (bytes : List ℕ) (spot : Spot) → spot.at ≤ length bytes →
    LinesGive shop version value (shop.jobs - depth) (cut shop.jobs depth) 5 0 bytes (Ok spot) →
    TreesGive shop version depth value bytes (Ok spot.at)
trees-ok shop version depth value bytes spot within give = (whole shop version depth value bytes ∙ give [], within)

pub trees-err : (shop : Shop) (version depth value : ℕ) (bytes : List ℕ) (fault : CheckFault) →
    LinesGive shop version value (shop.jobs - depth) (cut shop.jobs depth) 5 0 bytes (Err fault) →
    TreesGive shop version depth value bytes (Err fault)
trees-err shop version depth value bytes Memory give = tt
trees-err shop version depth value bytes Header give = whole shop version depth value bytes ∙ give []
trees-err shop version depth value bytes Size give = whole shop version depth value bytes ∙ give []
trees-err shop version depth value bytes Value give = whole shop version depth value bytes ∙ give []
trees-err shop version depth value bytes Sequence give = whole shop version depth value bytes ∙ give []
trees-err shop version depth value bytes NotAttained give = whole shop version depth value bytes ∙ give []
trees-err shop version depth value bytes Most give = whole shop version depth value bytes ∙ give []
trees-err shop version depth value bytes (Tree p) give = whole shop version depth value bytes ∙ give []
trees-err shop version depth value bytes (Weak p) give = whole shop version depth value bytes ∙ give []
trees-err shop version depth value bytes (Low p) give = whole shop version depth value bytes ∙ give []
trees-err shop version depth value bytes End give = whole shop version depth value bytes ∙ give []

-- the answer is that fault
pub trees-fail : (shop : Shop) (version depth value : ℕ) (bytes : List ℕ) (answer : Result ℕ CheckFault)
    (fault : CheckFault) →
    answer ≡ Err fault →
    LinesGive shop version value (shop.jobs - depth) (cut shop.jobs depth) 5 0 bytes (Err fault) →
    TreesGive shop version depth value bytes answer
trees-fail shop version depth value bytes answer fault is give =
    subst (TreesGive shop version depth value bytes) (sym is) (trees-err shop version depth value bytes fault give)

-- the lines of the cut, from the empty list on
pub cut-lines : (shop : Shop) (version depth value left : ℕ) (bytes : List ℕ) (answer : Result Spot CheckFault) →
    left ≡ shop.jobs →
    LinesGive shop version value (left - depth) (cut shop.jobs depth) 5 0 bytes answer →
    LinesGive shop version value (shop.jobs - depth) (cut shop.jobs depth) 5 0 bytes answer
cut-lines shop version depth value left bytes answer all give =
    subst (λ l. LinesGive shop version value (l - depth) (cut shop.jobs depth) 5 0 bytes answer) all give

-- the one line of the cut at depth 0
pub cut-line : (shop : Shop) (version depth value left : ℕ) (bytes : List ℕ) (answer : Result Spot CheckFault) →
    left ≡ shop.jobs → depth ≡ 0 →
    LinesGive shop version value left ([] ∷ []) 5 0 bytes answer →
    LinesGive shop version value (shop.jobs - depth) (cut shop.jobs depth) 5 0 bytes answer
cut-line shop version depth value left bytes answer all none give =
    let same : left ≡ shop.jobs - depth = omega (arith, all, none) in
    subst (λ d. LinesGive shop version value (shop.jobs - depth) (cut shop.jobs d) 5 0 bytes answer) (sym none) (subst
    (λ l. LinesGive shop version value l ([] ∷ []) 5 0 bytes answer) same give)
