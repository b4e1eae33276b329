-- What one byte of a tree says.
use Rattle.std.proofs.Common.{◌≡◌, ◌≢◌, ◌&&◌, ℕ, zero, suc, ◌-◌, ◌<◌, ◌≤◌, Bool, true, false, cond, nat_le, List, ◌∷◌}
use Rattle.std.proofs.Common.{◌++◌, [], Ok, Err, ap, sym, subst, ◌∙◌, arith}
use Rattle.std.proofs.lemmas.Bool.{eq-eqb, ne_eqb, le-leb, lt-leb, lt-ltb, le-ltb}
use Rattle.flow_shop.specs.Shop.{Shop}
use Rattle.flow_shop.specs.Paths.{span}
use Rattle.flow_shop.specs.Sequences.{jobs_left}
use Rattle.flow_shop.specs.Bound.{Bound}
use Rattle.flow_check.specs.internal.ReadTrees.{read_tree, each_tree, cut_fault, leaf_fault, is_letter}
use Rattle.flow_check.specs.declared.fault.CheckFault.TheVariants.{Tree, Weak, Low}

-- one byte where jobs are left

cut-reads : (shop : Shop) (reach : Bound) (value place left : ℕ) (node : List ℕ) (byte : ℕ) (rest : List ℕ) →
    byte ≢ 43 → read_tree shop reach value place (suc left) node (byte ∷ rest)
    ≡ cut_fault (is_letter shop byte) (nat_le value (reach shop node (byte - 64))) place rest
cut-reads shop reach value place left node byte rest h =
    ap (λ b. cond b (each_tree (λ job. read_tree shop reach value place left (node ++ job
    ∷ [])) (jobs_left shop.jobs node) rest) (cut_fault (is_letter shop byte) (nat_le value (reach shop node
    (byte - 64))) place rest)) (ne_eqb byte 43 h)

pub cut-before : (shop : Shop) (reach : Bound) (value place left : ℕ) (node : List ℕ) (byte : ℕ) →
    left ≢ 0 → byte ≢ 43 → byte ≤ 64 → (rest : List ℕ) → read_tree shop reach value place left node (byte ∷ rest)
    ≡ Err (Tree place)
cut-before shop reach value place zero node byte e h low rest = absurd (omega (arith, e))
cut-before shop reach value place (suc left) node byte e h low rest =
    cut-reads shop reach value place left node byte rest h
    ∙ ap (λ b. cut_fault (b
    && nat_le (byte - 64) shop.machines) (nat_le value (reach shop node (byte - 64))) place rest)
    (le-ltb 64 byte low)

known : (shop : Shop) (byte : ℕ) (b : Bool) → 64 < byte → nat_le (byte - 64) shop.machines ≡ b → is_letter shop byte ≡ b
known shop byte b above e = ap (λ x. x && nat_le (byte - 64) shop.machines) (lt-ltb 64 byte above) ∙ e

pub cut-past : (shop : Shop) (reach : Bound) (value place left : ℕ) (node : List ℕ) (byte : ℕ) →
    left ≢ 0 → byte ≢ 43 → 64 < byte → shop.machines < byte - 64 → (rest : List ℕ) →
    read_tree shop reach value place left node (byte ∷ rest) ≡ Err (Tree place)
cut-past shop reach value place zero node byte e h above past rest = absurd (omega (arith, e))
cut-past shop reach value place (suc left) node byte e h above past rest =
    cut-reads shop reach value place left node byte rest h
    ∙ ap (λ b. cut_fault b (nat_le value (reach shop node (byte - 64))) place rest) (known shop byte false above (lt-leb
    (byte - 64) shop.machines past))

pub cut-weak : (shop : Shop) (reach : Bound) (value place left : ℕ) (node : List ℕ) (byte : ℕ)
    (reaches : Bool) → left ≢ 0 → byte ≢ 43 → 64 < byte → byte - 64 ≤ shop.machines →
    reaches ≡ nat_le value (reach shop node (byte - 64)) → reaches ≡ false →
    (rest : List ℕ) → read_tree shop reach value place left node (byte ∷ rest) ≡ Err (Weak place)
cut-weak shop reach value place zero node byte reaches e h above within is low rest = absurd (omega (arith, e))
cut-weak shop reach value place (suc left) node byte reaches e h above within is low rest =
    cut-reads shop reach value place left node byte rest h
    ∙ ap (λ b. cut_fault b (nat_le value (reach shop node (byte - 64))) place rest) (known shop byte true above (le-leb
    (byte - 64) shop.machines within))
    ∙ ap (λ b. cut_fault true b place rest) (sym is ∙ low)

pub cut-strong : (shop : Shop) (reach : Bound) (value place left : ℕ) (node : List ℕ) (byte : ℕ)
    (reaches : Bool) → left ≢ 0 → byte ≢ 43 → 64 < byte → byte - 64 ≤ shop.machines →
    reaches ≡ nat_le value (reach shop node (byte - 64)) → reaches ≡ true →
    (rest : List ℕ) → read_tree shop reach value place left node (byte ∷ rest) ≡ Ok rest
cut-strong shop reach value place zero node byte reaches e h above within is high rest = absurd (omega (arith, e))
cut-strong shop reach value place (suc left) node byte reaches e h above within is high rest =
    cut-reads shop reach value place left node byte rest h
    ∙ ap (λ b. cut_fault b (nat_le value (reach shop node (byte - 64))) place rest) (known shop byte true above (le-leb
    (byte - 64) shop.machines within))
    ∙ ap (λ b. cut_fault true b place rest) (sym is ∙ high)

-- one byte where no job is left

pub leaf-low : (shop : Shop) (reach : Bound) (value place left : ℕ) (node : List ℕ) (byte makespan : ℕ) →
    left ≡ 0 → byte ≡ 46 → makespan ≡ span shop node →
    makespan < value → (rest : List ℕ) → read_tree shop reach value place left node (byte ∷ rest) ≡ Err (Low place)
leaf-low shop reach value place zero node byte makespan e point is low rest =
    ap (λ b. leaf_fault b (nat_le value (span shop node)) place rest) (eq-eqb byte 46 point)
    ∙ ap (λ b. leaf_fault true b place rest) (lt-leb value (span shop node) (subst (λ m. m < value) is low))
leaf-low shop reach value place (suc left) node byte makespan e point is low rest = absurd (omega (arith, e))

pub leaf-high : (shop : Shop) (reach : Bound) (value place left : ℕ) (node : List ℕ) (byte makespan : ℕ) →
    left ≡ 0 → byte ≡ 46 → makespan ≡ span shop node →
    value ≤ makespan → (rest : List ℕ) → read_tree shop reach value place left node (byte ∷ rest) ≡ Ok rest
leaf-high shop reach value place zero node byte makespan e point is high rest =
    ap (λ b. leaf_fault b (nat_le value (span shop node)) place rest) (eq-eqb byte 46 point)
    ∙ ap (λ b. leaf_fault true b place rest) (le-leb value (span shop node) (subst (λ m. value ≤ m) is high))
leaf-high shop reach value place (suc left) node byte makespan e point is high rest = absurd (omega (arith, e))
