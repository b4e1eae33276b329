-- What the walk from the root gives.
use Rattle.std.proofs.Common.{◌≡◌, ◌⊎◌, ℕ, ◌≤◌, List, [], length, take, drop, Result, Ok, Err, IfOk, IfErr}
use Rattle.std.proofs.Common.{refl, ap, sym, ◌∙◌, subst, arith, inl, inr, length-append}
use Rattle.std.proofs.Math.Seq.{take-append_seam}
use Rattle.std.proofs.lemmas.List.{length-drop}
use Rattle.std.proofs.lemmas.Result.{IfErr-at_err}
use Rattle.flow_shop.specs.Shop.{Shop}
use Rattle.flow_shop.specs.Directions.{Proves}
use Rattle.flow_check.specs.TwoEndedFaults.{HasDirectionsFault}
use Rattle.flow_check.specs.internal.ReadDirections.{EndsAt, read_node}
use Rattle.flow_check.specs.declared.fault.CheckFault.{CheckFault}
use Rattle.flow_check.specs.declared.fault.CheckFault.TheVariants.{Memory}
use Rattle.flow_check.proofs.DirectionsRead.{read-sound}
use Rattle.flow_check.proofs.DirectionFaults.{directions-have}
use Rattle.flow_check.proofs.TwoEndedFound.{proves-root}

ok-clash : (place : ℕ) (fault : CheckFault) (r : Result ℕ CheckFault) → r ≡ Ok place → r ≡ Err fault → ⊥
ok-clash place fault r e f = cc

err-same : (fault other : CheckFault) (r : Result ℕ CheckFault) → r ≡ Err fault → r ≡ Err other → fault ≡ other
err-same fault other r e f = cc

module _ (shop : Shop) (threshold : ℕ) (text : List ℕ) where
  -- where it ends, directions end that prove the threshold
  pub root-proved : (r : Result ℕ CheckFault) →
      EndsAt text (read_node shop threshold shop.jobs [] [] text) r ⊎ (r ≡ Err Memory) →
      IfOk r (λ place. place ≤ length text) → IfOk r (λ place. Proves shop threshold (take place text))
  root-proved (Err fault) is within = tt
  root-proved (Ok place) (inr none) within = absurd (ok-clash place Memory (Ok place) refl none)
  root-proved (Ok place) (inl is) within =
      let read = read-sound shop threshold shop.jobs [] [] text (drop place text) is in
      let size : length read.0 ≡ place =
      omega (arith, ap length read.1, length-append read.0 (drop place text), length-drop place text, within) in
      let same : take place text ≡ read.0 =
      ap (λ n. take n text) (sym size) ∙ ap (take (length read.0)) read.1 ∙ take-append_seam read.0 (drop place text) in
      subst (Proves shop threshold) (sym same) (proves-root shop threshold read.0 read.2)

  -- its fault is that of the directions
  pub root-fault : (r : Result ℕ CheckFault) →
      EndsAt text (read_node shop threshold shop.jobs [] [] text) r ⊎ (r ≡ Err Memory) →
      IfErr r (λ fault. HasDirectionsFault shop threshold shop.jobs [] [] text fault ⊎ (fault ≡ Memory))
  root-fault (Ok place) is = tt
  root-fault (Err fault) (inr none) = inr (err-same fault Memory (Err fault) refl none)
  root-fault (Err fault) (inl is) =
      inl (IfErr-at_err (λ f. HasDirectionsFault shop threshold shop.jobs [] [] text f) is
      (directions-have shop threshold shop.jobs [] [] text))
