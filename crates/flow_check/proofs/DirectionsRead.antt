-- A text is read exactly to where the directions end that prove the threshold.
use Rattle.std.proofs.Common.{◌≡◌, ℕ, zero, suc, ◌<◌, cond, nat_eq, nat_le, List, [], ◌∷◌, ◌++◌, Option, Some, None}
use Rattle.std.proofs.Common.{Ok, Err, refl, ap, sym, ◌∙◌, inl, inr}
use Rattle.std.specs.List.{concat}
use Rattle.std.proofs.lemmas.Bool.{cases_Bool, eqb-true, leb-true, leb-false, le-leb, lt-leb}
use Rattle.flow_shop.specs.Shop.{Shop}
use Rattle.flow_shop.specs.Sequences.{jobs_left}
use Rattle.flow_shop.specs.declared.end.End.{End}
use Rattle.flow_shop.specs.declared.end.End.TheVariants.{Front, Back}
use Rattle.flow_shop.specs.Ends.{end_bound}
use Rattle.flow_shop.specs.Directions.{sign, first_with, last_with, ProvesWith}
use Rattle.flow_check.specs.internal.ReadTrees.{each_tree}
use Rattle.flow_check.specs.internal.ReadDirections.{Reading, end_of_sign, read_at, read_node}
use Rattle.flow_check.specs.declared.fault.CheckFault.TheVariants.{Low, Tree}
use Rattle.flow_check.proofs.TreesExact.{each-sound, each-complete, okay, ok-same, fault-value}

-- the sign of an end is its own

some-same : (a b : End) → Some a ≡ Some b → a ≡ b
some-same a b e = cc

none-end : (a : End) → None ≡ Some a → ⊥
none-end a e = cc

pub end-sign : (byte : ℕ) (end : End) → end_of_sign byte ≡ Some end → byte ≡ sign end
end-sign byte end e = elim (cases_Bool (nat_eq byte 43)) [
  | inl plus ↦
      let is : Some Front ≡ Some end = sym (ap (λ b. cond b (Some Front) (cond (nat_eq byte 45) (Some Back) None)) plus)
      ∙ e in
      eqb-true byte 43 plus ∙ ap sign (some-same Front end is)
  | inr other ↦
      let f : cond (nat_eq byte 45) (Some Back) None ≡ Some end =
      sym (ap (λ b. cond b (Some Front) (cond (nat_eq byte 45) (Some Back) None)) other) ∙ e in
      elim (cases_Bool (nat_eq byte 45)) [
        | inl minus ↦
            let is : Some Back ≡ Some end = sym (ap (λ b. cond b (Some Back) None) minus) ∙ f in
            eqb-true byte 45 minus ∙ ap sign (some-same Back end is)
        | inr none ↦
            let is : None ≡ Some end = sym (ap (λ b. cond b (Some Back) None) none) ∙ f in
            absurd (none-end end is)
      ]
]

pub sign-end : (end : End) → end_of_sign (sign end) ≡ Some end
sign-end Front = refl
sign-end Back = refl

-- what is read behind a sign
read-sign : (read : End → List ℕ → Reading) (o : Option End) (byte : ℕ) (after rest : List ℕ) →
    end_of_sign byte ≡ o → read_at read o after ≡ Ok rest →
    (end : End) × (byte ≡ sign end) × (read end after ≡ Ok rest)
read-sign read None byte after rest is e = absurd (fault-value (Tree 5) rest e)
read-sign read (Some end) byte after rest is e = (end, end-sign byte end is, e)

module _ (shop : Shop) (threshold : ℕ) where
  abbrev pub child_read : ℕ → List ℕ → List ℕ → End → ℕ → List ℕ → Reading
  child_read left first last end job = read_node shop threshold left (first_with end first job) (last_with end last job)

  abbrev pub child_proved : ℕ → List ℕ → List ℕ → End → ℕ → List ℕ → Type 0
  child_proved left first last end job = ProvesWith shop threshold left (first_with end first job) (last_with end last job)

  -- what is read of the children at an end
  abbrev pub opened_at : ℕ → List ℕ → List ℕ → End → List ℕ → Reading
  opened_at left first last end = each_tree (child_read left first last end) (jobs_left shop.jobs (first ++ last))

  -- what is read of a node below the threshold
  abbrev pub opened : ℕ → List ℕ → List ℕ → List ℕ → Reading
  opened left first last [] = Err (Tree 5)
  opened left first last (byte ∷ after) = read_at (opened_at left first last) (end_of_sign byte) after

  -- a node with jobs left is read by its bound
  pub read-split : (left : ℕ) (first last text : List ℕ) →
      read_node shop threshold (suc left) first last text
      ≡ cond (nat_le threshold (end_bound shop first last)) (Ok text) (opened left first last text)
  read-split left first last [] = refl
  read-split left first last (byte ∷ after) = refl

  opened-sound : (left : ℕ) (first last text rest : List ℕ) →
      ((end : End) (job : ℕ) (bytes more : List ℕ) → child_read left first last end job bytes ≡ Ok more →
      (part : List ℕ) × (bytes ≡ part ++ more) × child_proved left first last end job part) →
      end_bound shop first last < threshold → opened left first last text ≡ Ok rest →
      (part : List ℕ) × (text ≡ part ++ rest) × ProvesWith shop threshold (suc left) first last part
  opened-sound left first last [] rest sound below e = absurd (fault-value (Tree 5) rest e)
  opened-sound left first last (byte ∷ after) rest sound below e =
      let s = read-sign (opened_at left first last) (end_of_sign byte) byte after rest refl e in
      let parts = each-sound (child_read left first last s.0) (child_proved left first last s.0) (sound s.0)
      (jobs_left shop.jobs (first ++ last)) after rest s.2 in (
        sign s.0 ∷ concat parts.0,
        ap (λ b. b ∷ after) s.1 ∙ ap (λ xs. sign s.0 ∷ xs) parts.1,
        inr (s.0, parts.0, below, refl, parts.2),
      )

  pub read-sound : (left : ℕ) (first last text rest : List ℕ) → read_node shop threshold left first last text ≡ Ok rest →
      (part : List ℕ) × (text ≡ part ++ rest) × ProvesWith shop threshold left first last part
  read-sound zero first last text rest e = elim (cases_Bool (nat_le threshold (end_bound shop first last))) [
    | inl high ↦
        let f : okay text ≡ Ok rest = sym (ap (λ b. cond b (Ok text) (Err (Low 5))) high) ∙ e in
        ([], ok-same text rest f, (refl, leb-true threshold (end_bound shop first last) high))
    | inr low ↦ absurd (fault-value (Low 5) rest (sym (ap (λ b. cond b (Ok text) (Err (Low 5))) low) ∙ e))
  ]
  read-sound (suc left) first last text rest e =
      let split = read-split left first last text in
      elim (cases_Bool (nat_le threshold (end_bound shop first last))) [
        | inl high ↦
            let f : okay text ≡ Ok rest =
            sym (split ∙ ap (λ b. cond b (Ok text) (opened left first last text)) high) ∙ e in
            ([], ok-same text rest f, inl (refl, leb-true threshold (end_bound shop first last) high))
        | inr low ↦ opened-sound left first last text rest
            (λ end job bytes more g.
            read-sound left (first_with end first job) (last_with end last job) bytes more g)
            (leb-false threshold (end_bound shop first last) low)
            (sym (split ∙ ap (λ b. cond b (Ok text) (opened left first last text)) low) ∙ e)
      ]

  pub read-complete : (left : ℕ) (first last part rest : List ℕ) → ProvesWith shop threshold left first last part →
      read_node shop threshold left first last (part ++ rest) ≡ Ok rest
  read-complete zero first last part rest p =
      ap (λ t. read_node shop threshold zero first last (t ++ rest)) p.0
      ∙ ap (λ b. cond b (Ok rest) (Err (Low 5))) (le-leb threshold (end_bound shop first last) p.1)
  read-complete (suc left) first last part rest (inl p) =
      ap (λ t. read_node shop threshold (suc left) first last (t ++ rest)) p.0
      ∙ read-split left first last rest
      ∙ ap (λ b. cond b (Ok rest) (opened left first last rest)) (le-leb threshold (end_bound shop first last) p.1)
  read-complete (suc left) first last part rest (inr (end, parts, low, is, each)) =
      let after : List ℕ = concat parts ++ rest in
      ap (λ t. read_node shop threshold (suc left) first last (t ++ rest)) is
      ∙ read-split left first last (sign end ∷ after)
      ∙ ap (λ b. cond b (Ok (sign end ∷ after)) (opened left first last (sign end ∷ after)))
      (lt-leb threshold (end_bound shop first last) low)
      ∙ ap (λ o. read_at (opened_at left first last) o after) (sign-end end)
      ∙ each-complete (child_read left first last end) (child_proved left first last end)
      (λ job part rest p. read-complete left (first_with end first job) (last_with end last job) part rest p)
      (jobs_left shop.jobs (first ++ last)) parts rest each
