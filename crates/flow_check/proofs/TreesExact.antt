-- Trees are read exactly where they cover.
use Rattle.std.proofs.Common.{nat_lt, ◌≡◌, ℕ, zero, suc, ◌+◌, ◌-◌, ◌<◌, ◌≤◌, Bool, true, false, cond, nat_eq}
use Rattle.std.proofs.Common.{nat_le, List, [], ◌∷◌, ◌++◌, Result, Ok, Err, refl, ap, sym, subst, ◌∙◌, inl, inr, arith}
use Rattle.std.proofs.Common.{append_assoc}
use Rattle.std.specs.List.{AllZip, concat, flat_map}
use Rattle.std.proofs.lemmas.Bool.{cases_Bool, eqb-true, leb-true, ltb-true, le-leb, and_parts}
use Rattle.flow_shop.specs.Shop.{Shop}
use Rattle.flow_shop.specs.Paths.{span}
use Rattle.flow_shop.specs.Sequences.{jobs_left}
use Rattle.flow_shop.specs.Bound.{Bound, letter}
use Rattle.flow_check.specs.Certificate.{Covers}
use Rattle.flow_check.specs.TextLines.{line, ending}
use Rattle.flow_check.specs.internal.ReadTrees.{read_tree, each_tree, then_read, leaf_fault, cut_fault, is_letter}
use Rattle.flow_check.specs.internal.ReadTrees.{after_tree, trees_value}
use Rattle.std.specs.Str.{bytes_eq}
use Rattle.std.specs.Cmp.Lexicographic.{bytes_decides}
use Rattle.flow_check.specs.declared.fault.CheckFault.{CheckFault}
use Rattle.flow_check.specs.declared.fault.CheckFault.TheVariants.{Tree, Weak, Low, End}
use Rattle.flow_check.proofs.TreeBytes.{cut-strong}

abbrev OkOnly : Result (List ℕ) CheckFault → Type 0
OkOnly (Ok r) = Unit {0}
OkOnly (Err e) = ⊥

abbrev got : Result (List ℕ) CheckFault → List ℕ
got (Ok r) = r
got (Err e) = []

err-ok : (f : CheckFault) (r : List ℕ) → Err f ≡ Ok r → ⊥
err-ok f r e = subst OkOnly (sym e) tt

abbrev pub okay : List ℕ → Result (List ℕ) CheckFault
okay r = Ok r

pub ok-same : (a b : List ℕ) → okay a ≡ okay b → a ≡ b
ok-same a b e = ap got e

leaf-ok : (p h : Bool) (place : ℕ) (after rest : List ℕ) → leaf_fault p h place after ≡ Ok rest → (p ≡ true)
    × (h ≡ true) × (after ≡ rest)
leaf-ok true true place after rest e = (refl, refl, ok-same after rest e)
leaf-ok true false place after rest e = absurd (err-ok (Low place) rest e)
leaf-ok false h place after rest e = absurd (err-ok (Tree place) rest e)

cut-ok : (p h : Bool) (place : ℕ) (after rest : List ℕ) → cut_fault p h place after ≡ Ok rest → (p ≡ true) × (h ≡ true)
    × (after ≡ rest)
cut-ok true true place after rest e = (refl, refl, ok-same after rest e)
cut-ok true false place after rest e = absurd (err-ok (Weak place) rest e)
cut-ok false h place after rest e = absurd (err-ok (Tree place) rest e)

-- what a reader of trees gives
abbrev pub Sound : (ℕ → List ℕ → Result (List ℕ) CheckFault) → (ℕ → List ℕ → Type 0) → Type 0
Sound read c = (job : ℕ) (bytes rest : List ℕ) → read job bytes ≡ Ok rest → (part : List ℕ) × (bytes ≡ part ++ rest)
    × c job part

abbrev pub Parts : (ℕ → List ℕ → Type 0) → List ℕ → List ℕ → List ℕ → Type 0
Parts c jobs bytes rest = (parts : List (List ℕ)) × (bytes ≡ concat parts ++ rest) × AllZip c jobs parts

each-step : (c : ℕ → List ℕ → Type 0) (next : List ℕ →
    Result (List ℕ) CheckFault) (job : ℕ) (jobs bytes rest : List ℕ) →
    ((mid : List ℕ) → next mid ≡ Ok rest → Parts c jobs mid rest) →
    (r : Result (List ℕ) CheckFault) →
    ((mid : List ℕ) → r ≡ Ok mid → (part : List ℕ) × (bytes ≡ part ++ mid) × c job part) →
    then_read r next ≡ Ok rest → Parts c (job ∷ jobs) bytes rest
each-step c next job jobs bytes rest more (Err f) first e = absurd (err-ok f rest e)
each-step c next job jobs bytes rest more (Ok mid) first e =
    let h = first mid refl in
    let k = more mid e in
    (h.0 ∷ k.0, h.1 ∙ ap (λ xs. h.0 ++ xs) k.1 ∙ sym (append_assoc h.0 (concat k.0) rest), (h.2, k.2))

pub each-sound : (read : ℕ → List ℕ → Result (List ℕ) CheckFault) (c : ℕ → List ℕ → Type 0) → Sound read c →
    (jobs bytes rest : List ℕ) → each_tree read jobs bytes ≡ Ok rest → Parts c jobs bytes rest
each-sound read c sound [] bytes rest e = ([], ok-same bytes rest e, tt)
each-sound read c sound (job ∷ jobs) bytes rest e =
    each-step c (each_tree read jobs) job jobs bytes rest (λ mid f. each-sound read c sound jobs mid rest f)
    (read job bytes) (λ mid f. sound job bytes mid f) e

-- a text that is read is a covering tree and what follows it
pub tree-sound : (shop : Shop) (bound : Bound) (value place left : ℕ) (node bytes rest : List ℕ) →
    read_tree shop bound value place left node bytes ≡ Ok rest → (part : List ℕ) × (bytes ≡ part ++ rest)
    × Covers shop bound value left node part
tree-sound shop bound value place zero node [] rest e = absurd (err-ok (Tree place) rest e)
tree-sound shop bound value place zero node (byte ∷ after) rest e =
    let h = leaf-ok (nat_eq byte 46) (nat_le value (span shop node)) place after rest e in (
      46 ∷ [],
      ap (λ b. b ∷ after) (eqb-true byte 46 h.0)
          ∙ ap (λ xs. 46 ∷ xs) h.2,
      (refl, leb-true value (span shop node) h.1),
    )
tree-sound shop bound value place (suc left) node [] rest e = absurd (err-ok (Tree place) rest e)
tree-sound shop bound value place (suc left) node (byte ∷ after) rest e =
    let read : ℕ → List ℕ → Result (List ℕ) CheckFault =
    λ job. read_tree shop bound value place left (node ++ job ∷ []) in
    let each : Result (List ℕ) CheckFault = each_tree read (jobs_left shop.jobs node) after in
    let one : Result (List ℕ) CheckFault =
    cut_fault (is_letter shop byte) (nat_le value (bound shop node (byte - 64))) place after in
    elim (cases_Bool (nat_eq byte 43)) [
      | inl plus ↦
          let f : each ≡ Ok rest = sym (ap (λ b. cond b each one) plus) ∙ e in
          let h = each-sound read (λ job part. Covers shop bound value left (node ++ job
          ∷ []) part) (λ job bytes more g. tree-sound shop bound value place left (node ++ job
          ∷ []) bytes more g) (jobs_left shop.jobs node) after rest f in
          (43 ∷ concat h.0, ap (λ b. b ∷ after) (eqb-true byte 43 plus) ∙ ap (λ xs. 43 ∷ xs) h.1, inr (h.0, refl, h.2))
      | inr other ↦
          let f : one ≡ Ok rest = sym (ap (λ b. cond b each one) other) ∙ e in
          let h = cut-ok (is_letter shop byte) (nat_le value (bound shop node (byte - 64))) place after rest f in
          let l = and_parts (nat_lt 64 byte) (nat_le (byte - 64) shop.machines) h.0 in
          let above : 64 < byte = ltb-true 64 byte l.0 in
          let is : byte ≡ letter (byte - 64) = omega arith in (
            byte ∷ [],
            ap (λ xs. byte
                ∷ xs) h.2,
            inl (
              byte - 64,
              omega arith,
              leb-true (byte - 64) shop.machines l.1,
              ap (λ b. b
                  ∷ []) is,
              leb-true value (bound shop node (byte - 64)) h.1,
            ),
          )
    ]

pub each-complete : (read : ℕ → List ℕ → Result (List ℕ) CheckFault) (c : ℕ → List ℕ → Type 0) →
    ((job : ℕ) (part rest : List ℕ) → c job part → read job (part ++ rest) ≡ Ok rest) →
    (jobs : List ℕ) (parts : List (List ℕ)) (rest : List ℕ) → AllZip c jobs parts →
    each_tree read jobs (concat parts ++ rest) ≡ Ok rest
each-complete read c whole [] [] rest z = refl
each-complete read c whole [] (p ∷ ps) rest z = absurd z
each-complete read c whole (job ∷ jobs) [] rest z = absurd z
each-complete read c whole (job ∷ jobs) (p ∷ ps) rest z =
    ap (λ xs. then_read (read job xs) (each_tree read jobs)) (append_assoc p (concat ps) rest)
    ∙ ap (λ r. then_read r (each_tree read jobs)) (whole job p (concat ps ++ rest) z.0)
    ∙ each-complete read c whole jobs ps rest z.1

-- a covering tree is read
pub tree-complete : (shop : Shop) (bound : Bound) (value place left : ℕ) (node part rest : List ℕ) →
    Covers shop bound value left node part → read_tree shop bound value place left node (part ++ rest) ≡ Ok rest
tree-complete shop bound value place zero node part rest c =
    ap (λ t. read_tree shop bound value place zero node (t ++ rest)) c.0
    ∙ ap (λ b. leaf_fault true b place rest) (le-leb value (span shop node) c.1)
tree-complete shop bound value place (suc left) node part rest (inl cut_here) =
    let k : ℕ = cut_here.0 in
    let back : k ≡ letter k - 64 = omega arith in
    let from : 1 ≤ k = cut_here.1 in
    let to : k ≤ shop.machines = cut_here.2 in
    ap (λ t. read_tree shop bound value place (suc left) node (t ++ rest)) cut_here.3
    ∙ cut-strong shop bound value place (suc left) node (letter k) true (omega arith) (omega arith)
    (omega arith) (omega arith) (sym (le-leb value (bound shop node (letter k - 64)) (subst
    (λ j. value ≤ bound shop node j) back cut_here.4))) refl rest
tree-complete shop bound value place (suc left) node part rest (inr branch) =
    ap (λ t. read_tree shop bound value place (suc left) node (t ++ rest)) branch.1
    ∙ each-complete (λ job. read_tree shop bound value place left (node ++ job
    ∷ [])) (λ job part. Covers shop bound value left (node ++ job
    ∷ []) part) (λ job p more c. tree-complete shop bound value place left (node ++ job
    ∷ []) p more c) (jobs_left shop.jobs node) branch.0 rest branch.2

-- the lines of trees, and the end

abbrev worth : Result ℕ CheckFault → ℕ
worth (Ok value) = value
worth (Err fault) = 0

abbrev ValueOnly : {A : Type 0} → Result A CheckFault → Type 0
ValueOnly (Ok value) = Unit {0}
ValueOnly (Err fault) = ⊥

pub fault-value : {A : Type 0} (fault : CheckFault) (value : A) → Err fault ≡ Ok value → ⊥
fault-value {A} fault value e = subst (λ (r : Result A CheckFault). ValueOnly r) (sym e) tt

abbrev valued : ℕ → Result ℕ CheckFault
valued value = Ok value

value-same : (v w : ℕ) → valued v ≡ valued w → v ≡ w
value-same v w e = ap worth e

pub passes : {A : Type 0} (b : Bool) (next : Result A CheckFault) (fault : CheckFault) (v : A) →
    cond b next (Err fault) ≡ Ok v → (b ≡ true) × (next ≡ Ok v)
passes true next fault v e = (refl, e)
passes false next fault v e = absurd (fault-value fault v e)

abbrev AreTreeLines : Shop → Bound → ℕ → ℕ → List (List ℕ) → List ℕ → Type 0
AreTreeLines shop bound value left prefixes bytes =
    (trees : List (List ℕ)) × (bytes ≡ flat_map line trees ++ line ending)
    × AllZip (λ prefix tree. Covers shop bound value left prefix tree) prefixes trees

tree-line : (place : ℕ) (next : List ℕ → Result ℕ CheckFault) (r : Result (List ℕ) CheckFault) (v : ℕ) →
    after_tree place next r ≡ Ok v → (rest : List ℕ) × (r ≡ Ok (10 ∷ rest)) × (next rest ≡ Ok v)
tree-line place next (Err f) v e = absurd (fault-value f v e)
tree-line place next (Ok []) v e = absurd (fault-value (Tree place) v e)
tree-line place next (Ok (byte ∷ rest)) v e =
    let p = passes (nat_eq byte 10) (next rest) (Tree place) v e in
    (rest, ap (λ b. Ok (b ∷ rest)) (eqb-true byte 10 p.0), p.1)

pub trees-sound : (shop : Shop) (bound : Shop → List ℕ → ℕ →
    ℕ) (value left : ℕ) (prefixes : List (List ℕ)) (place : ℕ) (bytes : List ℕ) (v : ℕ) →
    trees_value shop bound value left prefixes place bytes ≡ Ok v → AreTreeLines shop bound value left prefixes bytes
    × (value ≡ v)
trees-sound shop bound value left [] place bytes v e =
    let p = passes (bytes_eq bytes (line ending)) (Ok value) End v e in
    (([], (bytes_decides bytes (line ending)).0 p.0, tt), value-same value v p.1)
trees-sound shop bound value left (prefix ∷ prefixes) place bytes v e =
    let h = tree-line place (trees_value shop bound value left prefixes (place
    + 1)) (read_tree shop bound value place left prefix bytes) v e in
    let t = tree-sound shop bound value place left prefix bytes (10 ∷ h.0) h.1 in
    let more = trees-sound shop bound value left prefixes (place + 1) h.0 v h.2 in (
      (
        t.0 ∷ more.0.0,
        t.1 ∙ ap (λ xs. t.0 ++ 10 ∷ xs) more.0.1 ∙ joined t.0 (flat_map line more.0.0) (line ending),
        (t.2, more.0.2),
      ),
      more.1,
    )
  where
    joined : (p xs ys : List ℕ) → p ++ 10 ∷ (xs ++ ys) ≡ (line p ++ xs) ++ ys
    joined p xs ys = sym (append_assoc (line p) xs ys ∙ append_assoc p (10 ∷ []) (xs ++ ys))

pub trees-complete : (shop : Shop) (bound : Shop → List ℕ → ℕ →
    ℕ) (value left : ℕ) (prefixes : List (List ℕ)) (place : ℕ) (trees : List (List ℕ)) →
    AllZip (λ prefix tree. Covers shop bound value left prefix tree) prefixes trees →
    trees_value shop bound value left prefixes place (flat_map line trees ++ line ending) ≡ Ok value
trees-complete shop bound value left [] place [] z =
    ap (λ b. cond b (Ok value) (Err End)) ((bytes_decides (line ending) (line ending)).1 refl)
trees-complete shop bound value left [] place (p ∷ ps) z = absurd z
trees-complete shop bound value left (prefix ∷ prefixes) place [] z = absurd z
trees-complete shop bound value left (prefix ∷ prefixes) place (p ∷ ps) z =
    let rest : List ℕ = flat_map line ps ++ line ending in
    let text : (line p ++ flat_map line ps) ++ line ending ≡ p ++ 10 ∷ rest =
    append_assoc (line p) (flat_map line ps) (line ending) ∙ append_assoc p (10 ∷ []) rest in
    ap (λ xs. after_tree place (trees_value shop bound value left prefixes (place
    + 1)) (read_tree shop bound value place left prefix xs)) text
    ∙ ap (after_tree place (trees_value shop bound value left prefixes (place
    + 1))) (tree-complete shop bound value place left prefix p (10 ∷ rest) z.0)
    ∙ trees-complete shop bound value left prefixes (place + 1) ps z.1
