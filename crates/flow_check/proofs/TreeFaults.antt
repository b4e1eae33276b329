-- The fault with which trees are read is the one that they have.
use Rattle.std.proofs.Common.{◌≡◌, ◌≢◌, ◌&&◌, nat_eq, nat_lt, nat_le, ℕ, zero, suc, ◌+◌, ◌-◌, ◌<◌, ◌≤◌, Bool, true}
use Rattle.std.proofs.Common.{false, cond, List, [], ◌∷◌, ◌++◌, Result, Ok, Err, IfErr, refl, ap, sym, subst, ◌∙◌, inl}
use Rattle.std.proofs.Common.{inr, arith}
use Rattle.std.specs.Str.{bytes_eq}
use Rattle.std.specs.Cmp.Lexicographic.{bytes_decides}
use Rattle.std.proofs.lemmas.Bool.{cases_Bool, eqb-true, leb-true, leb-false, ltb-true, lt-leb, lt-ltb, le-leb}
use Rattle.std.proofs.lemmas.Bool.{and_parts}
use Rattle.std.proofs.lemmas.Bool.{eq-eqb, false≢true, false_from_ne_true}
use Rattle.std.proofs.lemmas.Result.{IfErr-weaker}
use Rattle.flow_shop.specs.Shop.{Shop}
use Rattle.flow_shop.specs.Paths.{span}
use Rattle.flow_shop.specs.Sequences.{Extends, jobs_left}
use Rattle.flow_shop.specs.Bound.{Bound, letter, point, plus}
use Rattle.flow_shop.specs.Characters.{line_feed}
use Rattle.flow_check.specs.Certificate.{Covers}
use Rattle.flow_check.specs.TextLines.{line, ending}
use Rattle.flow_check.specs.CertificateFaults.{HasFaultAmong, HasTreeFault, HasLineFault}
use Rattle.flow_check.specs.internal.ReadTrees.{read_tree, each_tree, then_read, leaf_fault, cut_fault, is_letter}
use Rattle.flow_check.specs.internal.ReadTrees.{after_tree, trees_value}
use Rattle.flow_check.specs.declared.fault.CheckFault.{CheckFault}
use Rattle.flow_check.specs.declared.fault.CheckFault.TheVariants.{Tree, Weak, Low, End}
use Rattle.flow_check.proofs.TreesExact.{tree-sound, tree-complete}
use Rattle.flow_check.proofs.TreeBytes.{leaf-low, cut-before, cut-past, cut-weak}

-- the first byte of a text

abbrev first_of : List ℕ → ℕ
first_of [] = 0
first_of (byte ∷ rest) = byte

abbrev rest_of : List ℕ → List ℕ
rest_of [] = []
rest_of (byte ∷ rest) = rest

abbrev pub IsSome : List ℕ → Type 0
IsSome [] = ⊥
IsSome (byte ∷ rest) = Unit {0}

pub nothing-begins : (byte : ℕ) → Extends [] (byte ∷ []) → ⊥
nothing-begins byte h = subst IsSome (sym h.1) tt

pub begins-is : (byte start : ℕ) (rest : List ℕ) → Extends (byte ∷ rest) (start ∷ []) → byte ≡ start
begins-is byte start rest h = ap first_of h.1

pub is-begun : (byte start : ℕ) (rest : List ℕ) → byte ≡ start → Extends (byte ∷ rest) (start ∷ [])
is-begun byte start rest e = (rest, ap (λ b. b ∷ rest) e)

-- a fault that is read is one that the text has

leaf-has : (P : CheckFault → Type 0) (p h : Bool) (place : ℕ) (rest : List ℕ) → (p ≡ false → P (Tree place)) →
    (p ≡ true → h ≡ false → P (Low place)) → IfErr (leaf_fault p h place rest) P
leaf-has P true true place rest tree low = tt
leaf-has P true false place rest tree low = low refl refl
leaf-has P false h place rest tree low = tree refl

cut-has : (P : CheckFault → Type 0) (p h : Bool) (place : ℕ) (rest : List ℕ) → (p ≡ false → P (Tree place)) →
    (p ≡ true → h ≡ false → P (Weak place)) → IfErr (cut_fault p h place rest) P
cut-has P true true place rest tree weak = tt
cut-has P true false place rest tree weak = weak refl refl
cut-has P false h place rest tree weak = tree refl

abbrev pub Reader : Type 0
Reader = ℕ → List ℕ → Result (List ℕ) CheckFault

abbrev pub IsSound : Reader → (ℕ → List ℕ → Type 0) → Type 0
IsSound read lawful = (job : ℕ) (text rest : List ℕ) → read job text ≡ Ok rest →
    (part : List ℕ) × (text ≡ part ++ rest) × lawful job part

among-step : (read : Reader) (lawful : ℕ → List ℕ → Type 0) (faulty : ℕ → List ℕ → CheckFault → Type 0) (job : ℕ)
    (jobs text : List ℕ) → IsSound read lawful →
    ((more : List ℕ) → IfErr (each_tree read jobs more) (λ fault. HasFaultAmong lawful faulty jobs more fault)) →
    (r : Result (List ℕ) CheckFault) → read job text ≡ r → IfErr r (λ fault. faulty job text fault) →
    IfErr (then_read r (each_tree read jobs)) (λ fault. HasFaultAmong lawful faulty (job ∷ jobs) text fault)
among-step read lawful faulty job jobs text sound later (Err fault) e bad = inl bad
among-step read lawful faulty job jobs text sound later (Ok rest) e bad =
    let is = sound job text rest e in
    IfErr-weaker (each_tree read jobs rest) (λ fault. HasFaultAmong lawful faulty jobs rest fault)
    (λ fault. HasFaultAmong lawful faulty (job ∷ jobs) text fault)
    (λ fault h. inr (is.0, rest, is.1, is.2, h)) (later rest)

pub among-has : (read : Reader) (lawful : ℕ → List ℕ → Type 0) (faulty : ℕ → List ℕ → CheckFault → Type 0) →
    IsSound read lawful → ((job : ℕ) (text : List ℕ) → IfErr (read job text) (λ fault. faulty job text fault)) →
    (jobs text : List ℕ) → IfErr (each_tree read jobs text) (λ fault. HasFaultAmong lawful faulty jobs text fault)
among-has read lawful faulty sound bad [] text = tt
among-has read lawful faulty sound bad (job ∷ jobs) text =
    among-step read lawful faulty job jobs text sound (among-has read lawful faulty sound bad jobs) (read job text) refl
    (bad job text)

pub tree-has : (shop : Shop) (bound : Bound) (value place left : ℕ) (node text : List ℕ) →
    IfErr (read_tree shop bound value place left node text)
    (λ fault. HasTreeFault shop bound value place left node text fault)
tree-has shop bound value place zero node [] = inl (refl, nothing-begins point)
tree-has shop bound value place zero node (byte ∷ rest) =
    leaf-has (λ fault. HasTreeFault shop bound value place zero node (byte ∷ rest) fault) (nat_eq byte 46)
    (nat_le value (span shop node)) place rest
    (λ other. inl (refl, λ h. false≢true (sym other ∙ eq-eqb byte 46 (begins-is byte 46 rest h))))
    (λ same low. inr (
      refl,
      is-begun byte 46 rest (eqb-true byte 46 same),
      leb-false value (span shop node) low,
    ))
tree-has shop bound value place (suc left) node [] =
    inl (refl, nothing-begins plus, λ machine from to. nothing-begins (letter machine))
tree-has shop bound value place (suc left) node (byte ∷ rest) =
    let P : CheckFault → Type 0 = λ fault. HasTreeFault shop bound value place (suc left) node (byte ∷ rest) fault in
    let read : Reader = λ job. read_tree shop bound value place left (node ++ job ∷ []) in
    let each : Result (List ℕ) CheckFault = each_tree read (jobs_left shop.jobs node) rest in
    let one : Result (List ℕ) CheckFault =
    cut_fault (is_letter shop byte) (nat_le value (bound shop node (byte - 64))) place rest in
    elim (cases_Bool (nat_eq byte 43)) [
      | inl same ↦
          let among : IfErr each (λ fault. HasFaultAmong (λ job. Covers shop bound value left (node ++ job ∷ []))
          (λ job. HasTreeFault shop bound value place left (node ++ job ∷ [])) (jobs_left shop.jobs node) rest fault) =
          among-has read (λ job. Covers shop bound value left (node ++ job ∷ []))
          (λ job. HasTreeFault shop bound value place left (node ++ job ∷ []))
          (λ job text more e. tree-sound shop bound value place left (node ++ job ∷ []) text more e)
          (λ job text. tree-has shop bound value place left (node ++ job ∷ []) text) (jobs_left shop.jobs node) rest in
          subst (λ b. IfErr (cond b each one) P) (sym same)
          (IfErr-weaker each (λ fault. HasFaultAmong (λ job. Covers shop bound value left (node ++ job ∷ []))
          (λ job. HasTreeFault shop bound value place left (node ++ job ∷ [])) (jobs_left shop.jobs node) rest fault) P
          (λ fault h. inr (inr (rest, ap (λ b. b ∷ rest) (eqb-true byte 43 same), h))) among)
      | inr other ↦ subst (λ b. IfErr (cond b each one) P) (sym other)
          (cut-has P (is_letter shop byte) (nat_le value (bound shop node (byte - 64))) place rest
          (λ none. inl (
            refl,
            λ h. false≢true (sym other ∙ eq-eqb byte 43 (begins-is byte 43 rest h)),
            λ machine from to h. false≢true (sym none
                ∙ known-letter shop byte machine from to (begins-is byte (letter machine) rest h)),
          ))
          (λ known weak.
          let is = letter-known shop byte known in
          inr (inl (
            byte - 64,
            is.0,
            is.1,
            refl,
            is-begun byte (letter (byte - 64)) rest is.2,
            leb-false value (bound shop node (byte - 64)) weak,
          ))))
    ]
  where
    all : (a b : Bool) → a ≡ true → b ≡ true → (a && b) ≡ true
    all a b p q = ap (λ x. x && b) p ∙ q

    letter-known : (shop : Shop) (byte : ℕ) → is_letter shop byte ≡ true →
        (1 ≤ byte - 64) × (byte - 64 ≤ shop.machines) × (byte ≡ letter (byte - 64))
    letter-known shop byte e =
        let l = and_parts (nat_lt 64 byte) (nat_le (byte - 64) shop.machines) e in
        let above : 64 < byte = ltb-true 64 byte l.0 in
        (omega arith, leb-true (byte - 64) shop.machines l.1, omega arith)

    known-letter : (shop : Shop) (byte machine : ℕ) → 1 ≤ machine → machine ≤ shop.machines →
        byte ≡ letter machine → is_letter shop byte ≡ true
    known-letter shop byte machine from to e =
        all (nat_lt 64 byte) (nat_le (byte - 64) shop.machines) (lt-ltb 64 byte (omega (arith, e, from)))
        (le-leb (byte - 64) shop.machines (omega (arith, e, from, to)))

-- a fault that a text has is the one that is read

abbrev pub refused : CheckFault → Result (List ℕ) CheckFault
refused fault = Err fault

pub among-read : (read : Reader) (lawful : ℕ → List ℕ → Type 0) (faulty : ℕ → List ℕ → CheckFault → Type 0) →
    ((job : ℕ) (part rest : List ℕ) → lawful job part → read job (part ++ rest) ≡ Ok rest) →
    ((job : ℕ) (text : List ℕ) (fault : CheckFault) → faulty job text fault → read job text ≡ Err fault) →
    (jobs text : List ℕ) (fault : CheckFault) → HasFaultAmong lawful faulty jobs text fault →
    each_tree read jobs text ≡ Err fault
among-read read lawful faulty whole bad [] text fault h = absurd h
among-read read lawful faulty whole bad (job ∷ jobs) text fault (inl here) =
    ap (λ r. then_read r (each_tree read jobs)) (bad job text fault here)
among-read read lawful faulty whole bad (job ∷ jobs) text fault (inr later) =
    ap (λ xs. then_read (read job xs) (each_tree read jobs)) later.2
    ∙ ap (λ r. then_read r (each_tree read jobs)) (whole job later.0 later.1 later.3)
    ∙ among-read read lawful faulty whole bad jobs later.1 fault later.4

pub tree-read : (shop : Shop) (bound : Bound) (value place left : ℕ) (node text : List ℕ)
    (fault : CheckFault) → HasTreeFault shop bound value place left node text fault →
    read_tree shop bound value place left node text ≡ Err fault
tree-read shop bound value place zero node [] fault (inl h) = ap refused (sym h.0)
tree-read shop bound value place zero node [] fault (inr h) = absurd (nothing-begins point h.1)
tree-read shop bound value place zero node (byte ∷ rest) fault (inl h) =
    ap (λ p. leaf_fault p (nat_le value (span shop node)) place rest)
    (false_from_ne_true (nat_eq byte 46) (λ same. h.1 (is-begun byte 46 rest (eqb-true byte 46 same))))
    ∙ ap refused (sym h.0)
tree-read shop bound value place zero node (byte ∷ rest) fault (inr h) =
    leaf-low shop bound value place zero node byte (span shop node) refl (begins-is byte 46 rest h.1) refl h.2 rest
    ∙ ap refused (sym h.0)
tree-read shop bound value place (suc left) node [] fault (inl h) = ap refused (sym h.0)
tree-read shop bound value place (suc left) node [] fault (inr (inl h)) = absurd (nothing-begins (letter h.0) h.4)
tree-read shop bound value place (suc left) node [] fault (inr (inr h)) = absurd (subst IsSome (sym h.1) tt)
tree-read shop bound value place (suc left) node (byte ∷ rest) fault (inl h) =
    let other : byte ≢ 43 = λ e. h.1 (is-begun byte 43 rest e) in
    elim (cases_Bool (nat_le byte 64)) [
      | inl low ↦
          cut-before shop bound value place (suc left) node byte (omega arith) other (leb-true byte 64 low) rest
          ∙ ap refused (sym h.0)
      | inr high ↦
          let above : 64 < byte = leb-false byte 64 high in
          elim (cases_Bool (nat_le (byte - 64) shop.machines)) [
            | inl within ↦
                let is : byte ≡ letter (byte - 64) = omega arith in
                absurd (h.2 (byte - 64) (omega arith) (leb-true (byte - 64) shop.machines within)
                (is-begun byte (letter (byte - 64)) rest is))
            | inr past ↦
                cut-past shop bound value place (suc left) node byte (omega arith) other above
                (leb-false (byte - 64) shop.machines past) rest
                ∙ ap refused (sym h.0)
          ]
    ]
tree-read shop bound value place (suc left) node (byte ∷ rest) fault (inr (inl h)) =
    let from : 1 ≤ h.0 = h.1 in
    let to : h.0 ≤ shop.machines = h.2 in
    let is : byte ≡ letter h.0 = begins-is byte (letter h.0) rest h.4 in
    let machine : byte - 64 ≡ h.0 = omega (arith, is) in
    cut-weak shop bound value place (suc left) node byte false (omega arith) (omega (arith, is, from))
    (omega (arith, is, from)) (omega (arith, is, to))
    (sym (lt-leb value (bound shop node (byte - 64)) (subst (λ k. bound shop node k < value) (sym machine) h.5))) refl
    rest
    ∙ ap refused (sym h.3)
tree-read shop bound value place (suc left) node (byte ∷ rest) fault (inr (inr h)) =
    let read : Reader = λ job. read_tree shop bound value place left (node ++ job ∷ []) in
    ap (λ text. read_tree shop bound value place (suc left) node text) h.1
    ∙ among-read read (λ job. Covers shop bound value left (node ++ job ∷ []))
    (λ job. HasTreeFault shop bound value place left (node ++ job ∷ []))
    (λ job part more c. tree-complete shop bound value place left (node ++ job ∷ []) part more c)
    (λ job text other bad. tree-read shop bound value place left (node ++ job ∷ []) text other bad)
    (jobs_left shop.jobs node) h.0 fault h.2

-- the lines

abbrev okay : ℕ → Result ℕ CheckFault
okay value = Ok value

abbrev none : CheckFault → Result ℕ CheckFault
none fault = Err fault

read-to : (shop : Shop) (bound : Bound) (value left : ℕ) (prefix : List ℕ)
    (prefixes : List (List ℕ)) (place : ℕ) (text tree rest : List ℕ) → text ≡ tree ++ rest →
    Covers shop bound value left prefix tree → trees_value shop bound value left (prefix ∷ prefixes) place text
    ≡ after_tree place (trees_value shop bound value left prefixes (place + 1)) (Ok rest)
read-to shop bound value left prefix prefixes place text tree rest is covers =
    ap (λ t. after_tree place (trees_value shop bound value left prefixes (place + 1))
    (read_tree shop bound value place left prefix t)) is
    ∙ ap (after_tree place (trees_value shop bound value left prefixes (place + 1)))
    (tree-complete shop bound value place left prefix tree rest covers)

no-end : (rest : List ℕ) (next : List ℕ → Result ℕ CheckFault) (place : ℕ) → (Extends rest (line_feed ∷ []) → ⊥) →
    after_tree place next (Ok rest) ≡ Err (Tree place)
no-end [] next place h = refl
no-end (byte ∷ rest) next place h = ap (λ b. cond b (next rest) (Err (Tree place)))
    (false_from_ne_true (nat_eq byte 10) (λ same. h (is-begun byte 10 rest (eqb-true byte 10 same))))

ending-has : (P : CheckFault → Type 0) (value : ℕ) (b : Bool) → (b ≡ false → P End) →
    IfErr (cond b (okay value) (Err End)) P
ending-has P value true none = tt
ending-has P value false none = none refl

line-has : (shop : Shop) (bound : Bound) (value left : ℕ) (prefix : List ℕ)
    (prefixes : List (List ℕ)) (place : ℕ) (text : List ℕ) →
    ((lines : List ℕ) → IfErr (trees_value shop bound value left prefixes (place + 1) lines)
    (λ fault. HasLineFault shop bound value left prefixes (place + 1) lines fault)) →
    (r : Result (List ℕ) CheckFault) → read_tree shop bound value place left prefix text ≡ r →
    IfErr r (λ fault. HasTreeFault shop bound value place left prefix text fault) →
    IfErr (after_tree place (trees_value shop bound value left prefixes (place + 1)) r)
    (λ fault. HasLineFault shop bound value left (prefix ∷ prefixes) place text fault)
line-has shop bound value left prefix prefixes place text later (Err fault) e bad = inl bad
line-has shop bound value left prefix prefixes place text later (Ok []) e bad =
    let is = tree-sound shop bound value place left prefix text [] e in
    inr (is.0, [], is.1, is.2, inl (refl, nothing-begins line_feed))
line-has shop bound value left prefix prefixes place text later (Ok (byte ∷ lines)) e bad =
    let is = tree-sound shop bound value place left prefix text (byte ∷ lines) e in
    let P : CheckFault → Type 0 = λ fault. HasLineFault shop bound value left (prefix ∷ prefixes) place text fault in
    let next : Result ℕ CheckFault = trees_value shop bound value left prefixes (place + 1) lines in
    elim (cases_Bool (nat_eq byte 10)) [
      | inl same ↦ subst (λ b. IfErr (cond b next (Err (Tree place))) P) (sym same)
          (IfErr-weaker next (λ fault. HasLineFault shop bound value left prefixes (place + 1) lines fault) P
          (λ fault h. inr (
            is.0,
            byte ∷ lines,
            is.1,
            is.2,
            inr (lines, ap (λ b. b ∷ lines) (eqb-true byte 10 same), h),
          )) (later lines))
      | inr other ↦ subst (λ b. IfErr (cond b next (Err (Tree place))) P) (sym other)
          (inr (
            is.0,
            byte ∷ lines,
            is.1,
            is.2,
            inl (refl, λ h. false≢true (sym other ∙ eq-eqb byte 10 (begins-is byte 10 lines h))),
          ))
    ]

pub lines-have : (shop : Shop) (bound : Bound) (value left : ℕ) (prefixes : List (List ℕ))
    (place : ℕ) (text : List ℕ) → IfErr (trees_value shop bound value left prefixes place text)
    (λ fault. HasLineFault shop bound value left prefixes place text fault)
lines-have shop bound value left [] place text =
    ending-has (λ fault. HasLineFault shop bound value left [] place text fault) value (bytes_eq text (line ending))
    (λ none. (refl, λ same. false≢true (sym none ∙ (bytes_decides text (line ending)).1 same)))
lines-have shop bound value left (prefix ∷ prefixes) place text =
    line-has shop bound value left prefix prefixes place text (lines-have shop bound value left prefixes (place + 1))
    (read_tree shop bound value place left prefix text) refl (tree-has shop bound value place left prefix text)

pub lines-read : (shop : Shop) (bound : Bound) (value left : ℕ) (prefixes : List (List ℕ))
    (place : ℕ) (text : List ℕ) (fault : CheckFault) →
    HasLineFault shop bound value left prefixes place text fault →
    trees_value shop bound value left prefixes place text ≡ Err fault
lines-read shop bound value left [] place text fault h =
    ap (λ b. cond b (okay value) (Err End))
    (false_from_ne_true (bytes_eq text (line ending)) (λ same. h.1 ((bytes_decides text (line ending)).0 same)))
    ∙ ap none (sym h.0)
lines-read shop bound value left (prefix ∷ prefixes) place text fault (inl bad) =
    ap (after_tree place (trees_value shop bound value left prefixes (place + 1)))
    (tree-read shop bound value place left prefix text fault bad)
lines-read shop bound value left (prefix ∷ prefixes) place text fault (inr (tree, rest, is, covers, inl h)) =
    read-to shop bound value left prefix prefixes place text tree rest is covers
    ∙ no-end rest (trees_value shop bound value left prefixes (place + 1)) place h.1 ∙ ap none (sym h.0)
lines-read shop bound value left (prefix ∷ prefixes) place text fault (inr (tree, rest, is, covers, inr h)) =
    read-to shop bound value left prefix prefixes place text tree rest is covers
    ∙ ap (λ r. after_tree place (trees_value shop bound value left prefixes (place + 1)) (Ok r)) h.1
    ∙ lines-read shop bound value left prefixes (place + 1) h.0 fault h.2
