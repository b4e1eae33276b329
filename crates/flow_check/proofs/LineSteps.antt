-- The steps of reading the lines of the trees.
use Rattle.std.proofs.Common.{◌≡◌, ◌≢◌, ℕ, zero, suc, ◌+◌, ◌-◌, ◌≤◌, List, [], ◌∷◌, ◌++◌, drop, Result, Ok, Err, refl}
use Rattle.std.proofs.Common.{ap, sym, subst, ◌∙◌, arith, append_assoc}
use Rattle.std.specs.List.{flat_map}
use Rattle.flow_shop.specs.Shop.{Shop}
use Rattle.flow_shop.specs.Bound.{bound_of}
use Rattle.flow_shop.specs.Sequences.{extensions}
use Rattle.flow_check.specs.internal.ReadTrees.{read_tree, after_tree, trees_value}
use Rattle.flow_check.specs.internal.Links.{IsNext}
use Rattle.flow_shop.proofs.Taken.{left_from}
use Rattle.flow_check.proofs.Stacks.{awaited}
use Rattle.flow_check.specs.internal.PartsGive.{LineEnds, LinesGive}
use Rattle.flow_check.specs.declared.fault.CheckFault.{CheckFault}
use Rattle.flow_check.specs.declared.fault.CheckFault.TheVariants.{Memory, Header, Size, Value, Sequence, NotAttained}
use Rattle.flow_check.specs.declared.fault.CheckFault.TheVariants.{Most, Tree, Weak, Low, End}
use Rattle.flow_check.specs.declared.reader.Spot.{Spot}
use Rattle.flow_check.proofs.Links.{left-next, left-none}

pub awaited-start : (n more : ℕ) (list : List ℕ) → more ≢ 0 → extensions n more list ≡ awaited n more list 1
awaited-start n zero list some = absurd (some refl)
awaited-start n (suc more) list some = let e : more ≡ suc more - 1 = omega arith in
    ap (λ m. flat_map (λ j. extensions n m (list ++ j ∷ [])) (left_from n list 1)) e

pub awaited-none : (n more : ℕ) (list : List ℕ) (last job : ℕ) → IsNext n list last job → job ≡ 0 →
    awaited n more list (last + 1) ≡ []
awaited-none n more list last job is none =
    ap (flat_map (λ j. extensions n (more - 1) (list ++ j ∷ []))) (left-none n list last job is none)

pub awaited-next : (n more : ℕ) (list : List ℕ) (last job : ℕ) (rest : List (List ℕ)) → IsNext n list last job →
    job ≢ 0 →
    awaited n more list (last + 1) ++ rest ≡ extensions n (more - 1) (list ++ job ∷ [])
    ++ (awaited n more list (job + 1) ++ rest)
awaited-next n more list last job rest is some =
    ap (λ js. flat_map (λ j. extensions n (more - 1) (list ++ j ∷ [])) js
    ++ rest) (left-next n list last job is some)
    ∙ append_assoc (extensions n (more - 1) (list ++ job ∷ [])) (awaited n more list (job + 1)) rest

-- the trees of the next child come first
pub awaited-lines : (shop : Shop) (version value left more : ℕ) (list : List ℕ) (last job place : ℕ) (bytes : List ℕ)
    (rest : List (List ℕ)) → IsNext shop.jobs list last job → job ≢ 0 → more ≢ 0 → more ≤ left →
    trees_value shop (bound_of version) value (left - more) (awaited shop.jobs more list (last + 1) ++ rest) place bytes
    ≡ trees_value shop (bound_of version) value (left - 1 - (more - 1))
    (extensions shop.jobs (more - 1) (list ++ job ∷ [])
    ++ (awaited shop.jobs more list (job + 1) ++ rest)) place bytes
awaited-lines shop version value left more list last job place bytes rest is some deep within =
    let same : left - more ≡ left - 1 - (more - 1) = omega (arith, deep, within) in
    ap (λ ps. trees_value shop (bound_of version) value (left - more) ps place bytes)
    (awaited-next shop.jobs more list last job rest is some)
    ∙ ap (λ l. trees_value shop (bound_of version) value l (extensions shop.jobs (more - 1) (list ++ job ∷ [])
    ++ (awaited shop.jobs more list (job + 1) ++ rest)) place bytes) same

-- the line of the next child comes first
pub awaited-line : (shop : Shop) (version value left child_left more : ℕ) (list : List ℕ) (last job line : ℕ)
    (bytes : List ℕ)
    (rest : List (List ℕ)) → IsNext shop.jobs list last job → job ≢ 0 → more ≡ 1 → left ≡ suc child_left →
    trees_value shop (bound_of version) value (left - more) (awaited shop.jobs more list (last + 1) ++ rest) line bytes
    ≡ trees_value shop (bound_of version) value child_left ((list ++ job ∷ [])
    ∷ (awaited shop.jobs more list (job + 1) ++ rest)) line bytes
awaited-line shop version value left child_left more list last job line bytes rest is some one deep =
    let same : left - more ≡ child_left = omega (arith, one, deep) in
    let none : more - 1 ≡ 0 = omega (arith, one) in
    ap (λ ps. trees_value shop (bound_of version) value (left - more) ps line bytes)
    (awaited-next shop.jobs more list last job rest is some)
    ∙ ap (λ l. trees_value shop (bound_of version) value l (extensions shop.jobs (more - 1) (list ++ job ∷ [])
    ++ (awaited shop.jobs more list (job + 1) ++ rest)) line bytes) same
    ∙ ap (λ m. trees_value shop (bound_of version) value child_left (extensions shop.jobs m (list ++ job ∷ [])
    ++ (awaited shop.jobs more list (job + 1) ++ rest)) line bytes) none

abbrev Bad : Shop → ℕ → ℕ → ℕ → List (List ℕ) → ℕ → ℕ → List ℕ → CheckFault → Type 0
Bad shop version value left prefixes line from bytes fault = (rest : List (List ℕ)) →
    trees_value shop (bound_of version) value left (prefixes ++ rest) line (drop from bytes) ≡ Err fault

lines-fail : (shop : Shop) (version value l m : ℕ) (ps qs : List (List ℕ)) (line place from at : ℕ) (bytes : List ℕ)
    (fault : CheckFault) →
    (Bad shop version value m qs place at bytes fault → Bad shop version value l ps line from bytes fault) →
    LinesGive shop version value m qs place at bytes (Err fault) → LinesGive shop version value l ps line from bytes
    (Err fault)
lines-fail shop version value l m ps qs line place from at bytes Memory pass h = tt
lines-fail shop version value l m ps qs line place from at bytes Header pass h = pass h
lines-fail shop version value l m ps qs line place from at bytes Size pass h = pass h
lines-fail shop version value l m ps qs line place from at bytes Value pass h = pass h
lines-fail shop version value l m ps qs line place from at bytes Sequence pass h = pass h
lines-fail shop version value l m ps qs line place from at bytes NotAttained pass h = pass h
lines-fail shop version value l m ps qs line place from at bytes Most pass h = pass h
lines-fail shop version value l m ps qs line place from at bytes (Tree p) pass h = pass h
lines-fail shop version value l m ps qs line place from at bytes (Weak p) pass h = pass h
lines-fail shop version value l m ps qs line place from at bytes (Low p) pass h = pass h
lines-fail shop version value l m ps qs line place from at bytes End pass h = pass h

pub lines-err : (shop : Shop) (version value l m : ℕ) (ps qs : List (List ℕ)) (line place from at : ℕ) (bytes : List ℕ)
    (answer : Result Spot CheckFault) (fault : CheckFault) → answer ≡ Err fault →
    (Bad shop version value m qs place at bytes fault → Bad shop version value l ps line from bytes fault) →
    LinesGive shop version value m qs place at bytes (Err fault) → LinesGive shop version value l ps line from bytes
    answer
lines-err shop version value l m ps qs line place from at bytes answer fault is pass h =
    subst (LinesGive shop version value l ps line from bytes) (sym is)
    (lines-fail shop version value l m ps qs line place from at bytes fault pass h)

-- one line

-- a whole tree, and its end
pub line-gives : (shop : Shop) (version value left : ℕ) (list : List ℕ) (line from end : ℕ) (bytes : List ℕ)
    (answer : Result Spot CheckFault) → read_tree shop (bound_of version) value line left list (drop from bytes)
    ≡ Ok (drop end bytes) → LineEnds (record { line = line; at = end }) bytes answer →
    LinesGive shop version value left (list ∷ []) line from bytes answer
line-gives shop version value left list line from end bytes (Ok next) tree ends = λ rest.
    ap (after_tree line (trees_value shop (bound_of version) value left rest (line + 1))) tree
    ∙ ap (λ b. after_tree line (trees_value shop (bound_of version) value left rest (line + 1)) (Ok b)) ends.0
    ∙ ap (λ l. trees_value shop (bound_of version) value left rest l (drop next.at bytes)) (sym ends.1)
line-gives shop version value left list line from end bytes (Err fault) tree ends =
    subst (λ (f : CheckFault). LinesGive shop version value left (list ∷ []) line from bytes (Err f)) (sym ends.0)
    (λ rest.
    ap (after_tree line (trees_value shop (bound_of version) value left rest (line + 1))) tree
    ∙ ends.1 (trees_value shop (bound_of version) value left rest (line + 1))
    ∙ ap failed ends.0)
  where
    failed : CheckFault → Result ℕ CheckFault
    failed f = Err f
