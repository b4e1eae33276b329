-- What is still to be read of a node, by the frames of its child that is read, of the child of this one, and so on.
use Rattle.std.proofs.Common.{◌≡◌, ℕ, suc, ◌+◌, ◌-◌, ◌<◌, ◌≤◌, List, [], ◌∷◌, ◌++◌, length, Err}
use Rattle.std.proofs.Common.{refl, ap, ◌∙◌, subst, arith}
use Rattle.flow_shop.specs.Shop.{Shop}
use Rattle.flow_shop.specs.Directions.{first_with, last_with}
use Rattle.flow_nodes.specs.Marks.{chosen}
use Rattle.flow_check.specs.declared.fault.CheckFault.{CheckFault}
use Rattle.flow_check.specs.declared.two_ended.walk.NodeFrame.{NodeFrame}
use Rattle.flow_check.specs.internal.ReadTrees.{then_read}
use Rattle.flow_check.specs.internal.ReadDirections.{Reading}
use Rattle.flow_check.specs.internal.Frames.{first_of, last_of, AreFrames, IsFrame}
use Rattle.flow_check.proofs.DirectionSteps.{children_read}

module _ (shop : Shop) (threshold : ℕ) where
  -- what is read of a node, where this is read of the last child, by the names among which so many jobs left stand
  abbrev pub around : (ℕ → List ℕ) → ℕ → List ℕ → List ℕ → List NodeFrame → Reading → Reading
  around names left first last [] reading = reading
  around names left first last (frame ∷ frames) reading =
      then_read (around names (left - 1) (first_with frame.end first frame.job) (last_with frame.end last frame.job)
      frames reading)
      (children_read shop threshold frame.end left first last (chosen frame.below.words (names left)))

  -- one more frame
  pub around-push : (names : ℕ → List ℕ) (left : ℕ) (first last : List ℕ) (frames : List NodeFrame)
      (frame : NodeFrame) (reading : Reading) →
      around names left first last (frames ++ frame ∷ []) reading
      ≡ around names left first last frames
      (around names (left - length frames) (first_of first frames) (last_of last frames) (frame ∷ []) reading)
  around-push names left first last [] frame reading =
      let e : left ≡ left - 0 = omega arith in
      ap (λ l. around names l first last (frame ∷ []) reading) e
  around-push names left first last (f ∷ fs) frame reading =
      let first2 : List ℕ = first_with f.end first f.job in
      let last2 : List ℕ = last_with f.end last f.job in
      let e : left - 1 - length fs ≡ left - suc (length fs) = omega arith in
      ap (λ r. then_read r (children_read shop threshold f.end left first last (chosen f.below.words (names left))))
      (around-push names (left - 1) first2 last2 fs frame reading
      ∙ ap (λ l. around names (left - 1) first2 last2 fs
      (around names l (first_of first2 fs) (last_of last2 fs) (frame ∷ []) reading)) e)

  -- a fault stays
  pub around-fault : (names : ℕ → List ℕ) (left : ℕ) (first last : List ℕ) (frames : List NodeFrame)
      (fault : CheckFault) → around names left first last frames (Err fault) ≡ Err fault
  around-fault names left first last [] fault = refl
  around-fault names left first last (f ∷ fs) fault =
      ap (λ r. then_read r (children_read shop threshold f.end left first last (chosen f.below.words (names left))))
      (around-fault names (left - 1) (first_with f.end first f.job) (last_with f.end last f.job) fs fault)

  -- other names, which are the same for the frames
  pub around-same : (names others : ℕ → List ℕ) (left : ℕ) (first last : List ℕ) (frames : List NodeFrame)
      (reading : Reading) → ((l : ℕ) → left < l + length frames → l ≤ left → names l ≡ others l) →
      around names left first last frames reading ≡ around others left first last frames reading
  around-same names others left first last [] reading same = refl
  around-same names others left first last (f ∷ fs) reading same =
      ap (λ r. then_read r (children_read shop threshold f.end left first last (chosen f.below.words (names left))))
      (around-same names others (left - 1) (first_with f.end first f.job) (last_with f.end last f.job) fs reading
      (λ l low high. same l (omega (arith, low)) (omega (arith, high))))
      ∙ ap (λ ns. then_read (around others (left - 1) (first_with f.end first f.job) (last_with f.end last f.job) fs
      reading) (children_read shop threshold f.end left first last (chosen f.below.words ns)))
      (same left (omega arith) (omega arith))

  pub frames-push : (names : ℕ → List ℕ) (left : ℕ) (first last : List ℕ) (frames : List NodeFrame)
      (frame : NodeFrame) → AreFrames shop threshold names left first last frames →
      IsFrame shop threshold (first_of first frames) (last_of last frames) (names (left - length frames)) frame →
      AreFrames shop threshold names left first last (frames ++ frame ∷ [])
  frames-push names left first last [] frame are is =
      let e : left - 0 ≡ left = omega arith in
      (subst (λ l. IsFrame shop threshold first last (names l) frame) e is, tt)
  frames-push names left first last (f ∷ fs) frame are is =
      let e : left - suc (length fs) ≡ left - 1 - length fs = omega arith in (
        are.0,
        frames-push names (left - 1) (first_with f.end first f.job) (last_with f.end last f.job) fs frame are.1
            (subst (λ l. IsFrame shop threshold (first_of (first_with f.end first f.job) fs)
            (last_of (last_with f.end last f.job) fs) (names l) frame) e is),
      )

  pub frames-pop : (names : ℕ → List ℕ) (left : ℕ) (first last : List ℕ) (frames : List NodeFrame)
      (frame : NodeFrame) → AreFrames shop threshold names left first last (frames ++ frame ∷ []) →
      AreFrames shop threshold names left first last frames
      × IsFrame shop threshold (first_of first frames) (last_of last frames) (names (left - length frames)) frame
  frames-pop names left first last [] frame are =
      let e : left ≡ left - 0 = omega arith in
      (tt, subst (λ l. IsFrame shop threshold first last (names l) frame) e are.0)
  frames-pop names left first last (f ∷ fs) frame are =
      let e : left - 1 - length fs ≡ left - suc (length fs) = omega arith in
      let rest = frames-pop names (left - 1) (first_with f.end first f.job) (last_with f.end last f.job) fs frame are.1
      in (
        (are.0, rest.0),
        subst (λ l. IsFrame shop threshold (first_of (first_with f.end first f.job) fs)
            (last_of (last_with f.end last f.job) fs) (names l) frame) e rest.1,
      )

  pub frames-same : (names others : ℕ → List ℕ) (left : ℕ) (first last : List ℕ) (frames : List NodeFrame) →
      ((l : ℕ) → left < l + length frames → l ≤ left → names l ≡ others l) →
      AreFrames shop threshold names left first last frames → AreFrames shop threshold others left first last frames
  frames-same names others left first last [] same are = tt
  frames-same names others left first last (f ∷ fs) same are = (
    subst (λ ns. IsFrame shop threshold first last ns f) (same left (omega arith) (omega arith)) are.0,
    frames-same names others (left - 1) (first_with f.end first f.job) (last_with f.end last f.job) fs
        (λ l low high. same l (omega (arith, low)) (omega (arith, high))) are.1,
  )

pub first-push : (first : List ℕ) (frames : List NodeFrame) (frame : NodeFrame) →
    first_of first (frames ++ frame ∷ []) ≡ first_with frame.end (first_of first frames) frame.job
first-push first [] frame = refl
first-push first (f ∷ fs) frame = first-push (first_with f.end first f.job) fs frame

pub last-push : (last : List ℕ) (frames : List NodeFrame) (frame : NodeFrame) →
    last_of last (frames ++ frame ∷ []) ≡ last_with frame.end (last_of last frames) frame.job
last-push last [] frame = refl
last-push last (f ∷ fs) frame = last-push (last_with f.end last f.job) fs frame
