-- The fault with which directions are read is the one that they have.
use Rattle.std.proofs.Common.{◌≡◌, ℕ, zero, suc, ◌<◌, cond, nat_le, List, [], ◌∷◌, ◌++◌, Option, Some, None}
use Rattle.std.proofs.Common.{Ok, Err, IfErr, refl, ap, sym, ◌∙◌, subst, inl, inr}
use Rattle.std.proofs.lemmas.Bool.{cases_Bool, leb-false, lt-leb}
use Rattle.std.proofs.lemmas.Option.{none-some}
use Rattle.std.proofs.lemmas.Result.{IfErr-weaker}
use Rattle.flow_shop.specs.Shop.{Shop}
use Rattle.flow_shop.specs.Sequences.{Extends, jobs_left}
use Rattle.flow_shop.specs.declared.end.End.{End}
use Rattle.flow_shop.specs.Ends.{end_bound}
use Rattle.flow_shop.specs.Directions.{sign, first_with, last_with}
use Rattle.flow_check.specs.CertificateFaults.{HasFaultAmong}
use Rattle.flow_check.specs.TwoEndedFaults.{HasDirectionsFault}
use Rattle.flow_check.specs.internal.ReadDirections.{Reading, end_of_sign, read_at, read_node}
use Rattle.flow_check.specs.declared.fault.CheckFault.{CheckFault}
use Rattle.flow_check.specs.declared.fault.CheckFault.TheVariants.{Low, Tree}
use Rattle.flow_check.proofs.TreeFaults.{nothing-begins, begins-is, is-begun, refused, among-has, among-read}
use Rattle.flow_check.proofs.TextBegins.{test}
use Rattle.flow_check.proofs.DirectionsRead.{end-sign, sign-end, child_read, child_proved, opened_at, opened}
use Rattle.flow_check.proofs.DirectionsRead.{read-split, read-sound, read-complete}

-- a text that begins with the sign of no end is read at none
no-end : (byte : ℕ) (after : List ℕ) → ((end : End) → ¬ Extends (byte ∷ after) (sign end ∷ [])) →
    end_of_sign byte ≡ None
no-end byte after none = one (end_of_sign byte) refl
  where
    one : (o : Option End) → end_of_sign byte ≡ o → o ≡ None
    one None is = refl
    one (Some end) is = absurd (none end (is-begun byte (sign end) after (end-sign byte end is)))

module _ (shop : Shop) (threshold : ℕ) where
  abbrev child_fault : ℕ → List ℕ → List ℕ → End → ℕ → List ℕ → CheckFault → Type 0
  child_fault left first last end job =
      HasDirectionsFault shop threshold left (first_with end first job) (last_with end last job)

  -- a fault that is read is one that the text has

  sign-has : (left : ℕ) (first last : List ℕ) (byte : ℕ) (after : List ℕ) →
      ((end : End) (job : ℕ) (text : List ℕ) →
      IfErr (child_read shop threshold left first last end job text) (child_fault left first last end job text)) →
      end_bound shop first last < threshold → (o : Option End) → end_of_sign byte ≡ o →
      IfErr (read_at (opened_at shop threshold left first last) o after)
      (λ fault. HasDirectionsFault shop threshold (suc left) first last (byte ∷ after) fault)
  sign-has left first last byte after each below None is = (
    below,
    inl (refl, λ end h. none-some end (sym is ∙ ap end_of_sign (begins-is byte (sign end) after h) ∙ sign-end end)),
  )
  sign-has left first last byte after each below (Some end) is =
      let jobs : List ℕ = jobs_left shop.jobs (first ++ last) in
      IfErr-weaker (opened_at shop threshold left first last end after)
      (λ fault. HasFaultAmong (child_proved shop threshold left first last end) (child_fault left first last end) jobs
      after fault)
      (λ fault. HasDirectionsFault shop threshold (suc left) first last (byte ∷ after) fault)
      (λ fault h. (below, inr (end, after, ap (λ b. b ∷ after) (end-sign byte end is), h)))
      (among-has (child_read shop threshold left first last end) (child_proved shop threshold left first last end)
      (child_fault left first last end)
      (λ job text rest e. read-sound shop threshold left (first_with end first job) (last_with end last job) text rest e)
      (each end) jobs after)

  opened-has : (left : ℕ) (first last : List ℕ) →
      ((end : End) (job : ℕ) (text : List ℕ) →
      IfErr (child_read shop threshold left first last end job text) (child_fault left first last end job text)) →
      end_bound shop first last < threshold → (text : List ℕ) →
      IfErr (opened shop threshold left first last text)
      (λ fault. HasDirectionsFault shop threshold (suc left) first last text fault)
  opened-has left first last each below [] = (below, inl (refl, λ end. nothing-begins (sign end)))
  opened-has left first last each below (byte ∷ after) =
      sign-has left first last byte after each below (end_of_sign byte) refl

  pub directions-have : (left : ℕ) (first last text : List ℕ) →
      IfErr (read_node shop threshold left first last text)
      (λ fault. HasDirectionsFault shop threshold left first last text fault)
  directions-have zero first last text =
      test (λ fault. HasDirectionsFault shop threshold zero first last text fault) (Low 5) (Ok text)
      (nat_le threshold (end_bound shop first last))
      (λ low. (refl, leb-false threshold (end_bound shop first last) low)) (λ high. tt)
  directions-have (suc left) first last text =
      let P : Reading → Type 0 =
      λ r. IfErr r (λ fault. HasDirectionsFault shop threshold (suc left) first last text fault) in
      let each = λ (end : End) (job : ℕ) (text : List ℕ).
      directions-have left (first_with end first job) (last_with end last job) text in
      subst P (sym (read-split shop threshold left first last text))
      (elim (cases_Bool (nat_le threshold (end_bound shop first last))) [
        | inl high ↦ subst (λ b. P (cond b (Ok text) (opened shop threshold left first last text))) (sym high) tt
        | inr low ↦ subst (λ b. P (cond b (Ok text) (opened shop threshold left first last text))) (sym low)
            (opened-has left first last each (leb-false threshold (end_bound shop first last) low) text)
      ])

  -- a fault that a text has is the one that is read

  unsigned : (left : ℕ) (first last text : List ℕ) → ((end : End) → ¬ Extends text (sign end ∷ [])) →
      opened shop threshold left first last text ≡ Err (Tree 5)
  unsigned left first last [] none = refl
  unsigned left first last (byte ∷ after) none =
      ap (λ o. read_at (opened_at shop threshold left first last) o after) (no-end byte after none)

  pub directions-fault : (left : ℕ) (first last text : List ℕ) (fault : CheckFault) →
      HasDirectionsFault shop threshold left first last text fault →
      read_node shop threshold left first last text ≡ Err fault
  directions-fault zero first last text fault h =
      ap (λ b. cond b (Ok text) (Err (Low 5))) (lt-leb threshold (end_bound shop first last) h.1) ∙ ap refused (sym h.0)
  directions-fault (suc left) first last text fault (low, inl h) =
      read-split shop threshold left first last text
      ∙ ap (λ b. cond b (Ok text) (opened shop threshold left first last text))
      (lt-leb threshold (end_bound shop first last) low)
      ∙ unsigned left first last text h.1 ∙ ap refused (sym h.0)
  directions-fault (suc left) first last text fault (low, inr (end, after, is, h)) =
      ap (read_node shop threshold (suc left) first last) is
      ∙ read-split shop threshold left first last (sign end ∷ after)
      ∙ ap (λ b. cond b (Ok (sign end ∷ after)) (opened shop threshold left first last (sign end ∷ after)))
      (lt-leb threshold (end_bound shop first last) low)
      ∙ ap (λ o. read_at (opened_at shop threshold left first last) o after) (sign-end end)
      ∙ among-read (child_read shop threshold left first last end) (child_proved shop threshold left first last end)
      (child_fault left first last end)
      (λ job part rest p.
      read-complete shop threshold left (first_with end first job) (last_with end last job) part rest p)
      (λ job text other bad.
      directions-fault left (first_with end first job) (last_with end last job) text other bad)
      (jobs_left shop.jobs (first ++ last)) after fault h
