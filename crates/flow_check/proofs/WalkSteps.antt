-- How the walk goes to a child and back.
use Rattle.std.proofs.Common.{◌≡◌, ◌≢◌, ℕ, suc, ◌+◌, ◌-◌, ◌*◌, ◌<◌, ◌≤◌, Bool, true, cond, nat_lt, List, [], ◌∷◌, ◌++◌}
use Rattle.std.proofs.Common.{length, filter, take, drop, Some, None, Ok, Err, ap, sym, ◌∙◌, subst, inl, inr}
use Rattle.std.proofs.Common.{slice_index_or, arith, length-append}
use Rattle.std.specs.List.{AllByRecursion}
use Rattle.std.proofs.Math.Seq.{take-suc}
use Rattle.std.proofs.lemmas.Bool.{cases_Bool, ltb-true}
use Rattle.std.proofs.lemmas.List.{length-take-le}
use Rattle.flow_shop.specs.Shop.{Shop}
use Rattle.flow_shop.specs.Sequences.{jobs_left}
use Rattle.flow_shop.proofs.JobsLeft.{each-left}
use Rattle.flow_shop.specs.declared.end.End.{End}
use Rattle.flow_shop.specs.Ends.{end_bound}
use Rattle.flow_shop.specs.Directions.{first_with, last_with}
use Rattle.flow_nodes.specs.Groups.{child_bound}
use Rattle.flow_nodes.specs.Nodes.{IsNode}
use Rattle.flow_nodes.specs.Marks.{mark, chosen}
use Rattle.flow_nodes.specs.Packs.{HasLeft, left_below}
use Rattle.flow_nodes.specs.declared.pack.Pack.{Pack}
use Rattle.flow_nodes.proofs.KeptNodes.{lengths}
use Rattle.flow_shop.proofs.Lists.{some-of}
use Rattle.flow_check.specs.declared.fault.CheckFault.TheVariants.{Low, Tree}
use Rattle.flow_check.specs.declared.two_ended.walk.NodeFrame.{NodeFrame}
use Rattle.flow_check.specs.declared.two_ended.walk.Path.{Path}
use Rattle.flow_check.specs.internal.ReadTrees.{then_read}
use Rattle.flow_check.specs.internal.ReadDirections.{Reading, first_end, read_node}
use Rattle.flow_check.specs.internal.Frames.{first_of, last_of, AreFrames, IsFrame, IsOpen, IsReady, frame_at, here}
use Rattle.flow_check.specs.internal.Frames.{above, names_at}
use Rattle.flow_check.proofs.PackNames.{names-is}
use Rattle.flow_check.proofs.DirectionSteps.{children_read, children-filter, read-low, read-sign, read-children}
use Rattle.flow_check.proofs.FrameSteps.{around, around-push, around-fault, around-same}
use Rattle.flow_check.proofs.FrameSteps.{frames-push, frames-pop, frames-same, first-push, last-push}

-- the children of a node that are below the threshold

each-kept : (P : ℕ → Type 0) (p : ℕ → Bool) (jobs : List ℕ) → AllByRecursion (λ job. p job ≡ true → P job) jobs →
    AllByRecursion P (filter p jobs)
each-kept P p [] each = tt
each-kept P p (job ∷ jobs) each =
    let more : AllByRecursion P (filter p jobs) = each-kept P p jobs each.1 in
    elim (cases_Bool (p job)) [
      | inl is ↦ subst (λ b. AllByRecursion P (cond b (job ∷ filter p jobs) (filter p jobs))) (sym is)
          (each.0 is, more)
      | inr is ↦ subst (λ b. AllByRecursion P (cond b (job ∷ filter p jobs) (filter p jobs))) (sym is) more
    ]

pub below-open : (shop : Shop) (threshold : ℕ) (end : End) (first last : List ℕ) →
    AllByRecursion (IsOpen shop threshold end first last) (left_below shop threshold end first last)
below-open shop threshold end first last =
    let p : ℕ → Bool = λ job. nat_lt (child_bound shop end first last job) threshold in
    each-kept (IsOpen shop threshold end first last) p (jobs_left shop.jobs (first ++ last))
    (each-left (λ job. p job ≡ true → IsOpen shop threshold end first last job) (first ++ last) 1
    (shop.jobs + 1 - 1) (λ job from to fresh under. record {
      is_job = (from, omega (arith, to));
      left = fresh;
      below = ltb-true (child_bound shop end first last job) threshold under;
    }))

-- the frame of a node that is opened
pub frame-opened : (shop : Shop) (threshold : ℕ) (first last names : List ℕ) (frame : NodeFrame) →
    IsNode shop first last frame.node → HasLeft shop first last names frame.left →
    ((place : ℕ) → place < length names → mark frame.below.words place ≡ 1 → mark frame.left.words place ≡ 1) →
    chosen frame.below.words names ≡ left_below shop threshold frame.end first last →
    IsFrame shop threshold first last names frame
frame-opened shop threshold first last names frame is has_left within below = record {
  is_node = is;
  has_left = has_left;
  within = within;
  each = subst (AllByRecursion (IsOpen shop threshold frame.end first last)) (sym below)
      (below-open shop threshold frame.end first last);
}

-- a path's node is opened
pub record IsOpened {V : Type 0} (shop : Shop) (threshold : ℕ) (first last names : List ℕ) (path : Path V) : Type 0 where
  pub frame : IsFrame shop threshold first last names (here path)
  pub below : chosen (here path).below.words names ≡ left_below shop threshold (here path).end first last

pub path-opened : {V : Type 0} (list : V → List ℕ) (cap width : ℕ) (shop : Shop) (threshold : ℕ) (first last : List ℕ)
    (groups : ℕ) (end : End) (old new : Path V) → IsReady list cap width shop threshold first last groups old →
    groups - 1 < length old.packs.items → new.packs ≡ old.packs → (here new).end ≡ end →
    (here new).node ≡ (here old).node → (here new).left ≡ (here old).left →
    ((none : Pack V) (place : ℕ) →
    place < length (slice_index_or old.packs.items (groups - 1) none).groups.items * 16 →
    mark (here new).below.words place ≡ 1 → mark (here old).left.words place ≡ 1) →
    chosen (here new).below.words (names_at old.packs.items (groups - 1)) ≡ left_below shop threshold end first last →
    IsOpened shop threshold first last (names_at new.packs.items (groups - 1)) new
path-opened list cap width shop threshold first last groups end old new ready low packs end_is node left within below =
    let names : List ℕ = names_at old.packs.items (groups - 1) in
    let none = some-of old.packs.items (omega (arith, low)) in
    let size : length names ≡ length (slice_index_or old.packs.items (groups - 1) none).groups.items * 16 =
    ap length (names-is old.packs.items (groups - 1) none low) ∙ (ready.is_pack none).room.names in
    let is_below : chosen (here new).below.words names ≡ left_below shop threshold (here new).end first last =
    below ∙ ap (λ e. left_below shop threshold e first last) (sym end_is) in
    subst (λ ps. IsOpened shop threshold first last (names_at ps.items (groups - 1)) new) (sym packs) (record {
      frame = frame-opened shop threshold first last names (here new)
          (subst (IsNode shop first last) (sym node) ready.is_node)
          (subst (HasLeft shop first last names) (sym left) ready.has_left)
          (λ place inside marked. ap (λ m. mark m.words place) left
          ∙ within none place (omega (arith, inside, size)) marked)
          is_below;
      below = is_below;
    })

-- how many jobs the lists of frames have
pub frames-count : (first last : List ℕ) (frames : List NodeFrame) →
    length (first_of first frames) + length (last_of last frames) ≡ length first + length last + length frames
frames-count first last [] = omega arith
frames-count first last (f ∷ fs) =
    omega (
      arith,
      frames-count (first_with f.end first f.job) (last_with f.end last f.job) fs,
      lengths f.end first last f.job,
    )

-- the nodes of a path
pub count-above : {V : Type 0} (path : Path V) → path.depth < length path.frames.items →
    length (above path) ≡ path.depth
count-above path within = length-take-le path.depth path.frames.items (omega arith)

pub last-above : (frames : List NodeFrame) (depth : ℕ) → 0 < depth → depth < length frames →
    take depth frames ≡ take (depth - 1) frames ++ frame_at frames (depth - 1) ∷ []
last-above frames depth some within =
    let e : depth ≡ suc (depth - 1) = omega arith in
    ap (λ d. take d frames) e ∙ take-suc frames (depth - 1) _ (omega arith)

-- the walk stands at a place of a text, and reads the children of a frame that are still to be read
pub record StandsAt
    (shop : Shop) (threshold : ℕ) (whole : Reading) (text : List ℕ) (place : ℕ) (names : ℕ → List ℕ)
    (frames : List NodeFrame) (frame : NodeFrame) (first last : List ℕ) (left : ℕ) : Type 0 where
  pub frames_are : AreFrames shop threshold names shop.jobs [] [] frames
  pub is_frame : IsFrame shop threshold first last (names left) frame
  pub answer : whole ≡ around shop threshold names shop.jobs [] [] frames
      (children_read shop threshold frame.end left first last (chosen frame.below.words (names left)) (drop place text))

abbrev pub Stands : Shop → ℕ → Reading → List ℕ → ℕ → (ℕ → List ℕ) → List NodeFrame → NodeFrame → Type 0
Stands shop threshold whole text place names frames frame =
    StandsAt shop threshold whole text place names frames frame (first_of [] frames) (last_of [] frames)
    (shop.jobs - length frames)

-- at the root
pub stands-root : (shop : Shop) (threshold : ℕ) (text : List ℕ) (names : ℕ → List ℕ) (frame : NodeFrame) →
    end_bound shop [] [] < threshold → 1 ≤ shop.jobs → first_end (drop 0 text) ≡ Some frame.end →
    chosen frame.below.words (names shop.jobs) ≡ left_below shop threshold frame.end [] [] →
    IsFrame shop threshold [] [] (names shop.jobs) frame →
    Stands shop threshold (read_node shop threshold shop.jobs [] [] text) text 1 names [] frame
stands-root shop threshold text names frame low some is below is_frame =
    let none : shop.jobs ≢ 0 = omega (arith, some) in
    let all : shop.jobs ≡ shop.jobs - 0 = omega arith in
    subst (StandsAt shop threshold (read_node shop threshold shop.jobs [] [] text) text 1 names [] frame [] []) all (record {
      frames_are = tt;
      is_frame = is_frame;
      answer = read-children shop threshold shop.jobs [] [] text 0 frame.end low none is
          ∙ children-filter shop threshold frame.end shop.jobs [] [] (jobs_left shop.jobs []) (drop 1 text)
          ∙ ap (λ jobs. children_read shop threshold frame.end shop.jobs [] [] jobs (drop 1 text)) (sym below);
    })

-- once all children are read
module _ (shop : Shop) (threshold : ℕ) (whole : Reading) (text : List ℕ) (place : ℕ) (names : ℕ → List ℕ) where
  -- it was the root's frame
  pub stands-done : (frames : List NodeFrame) (frame : NodeFrame) →
      Stands shop threshold whole text place names frames frame →
      chosen frame.below.words (names (shop.jobs - length frames)) ≡ [] → length frames ≡ 0 →
      whole ≡ Ok (drop place text)
  stands-done [] frame stands none e =
      stands.answer
      ∙ ap (λ jobs. children_read shop threshold frame.end (shop.jobs - 0) [] [] jobs (drop place text)) none
  stands-done (f ∷ fs) frame stands none e = absurd (omega (arith, e))

  -- or the walk goes back
  pub stands-back : (frames aboves : List NodeFrame) (frame above : NodeFrame) →
      Stands shop threshold whole text place names frames frame →
      chosen frame.below.words (names (shop.jobs - length frames)) ≡ [] → frames ≡ aboves ++ above ∷ [] →
      Stands shop threshold whole text place names aboves above
  stands-back frames aboves frame above stands none e =
      let are = frames-pop shop threshold names shop.jobs [] [] aboves above
      (subst (AreFrames shop threshold names shop.jobs [] []) e stands.frames_are) in
      record {
        frames_are = are.0;
        is_frame = are.1;
        answer = stands.answer
            ∙ ap (λ jobs. around shop threshold names shop.jobs [] [] frames (children_read shop threshold frame.end
            (shop.jobs - length frames) (first_of [] frames) (last_of [] frames) jobs (drop place text))) none
            ∙ ap (λ fs. around shop threshold names shop.jobs [] [] fs (Ok (drop place text))) e
            ∙ around-push shop threshold names shop.jobs [] [] aboves above (Ok (drop place text));
      }

-- the frame of a node, once the child of the next job is taken from those that are still to be read
pub record IsTaken (names : List ℕ) (old new : NodeFrame) : Type 0 where
  pub end : new.end ≡ old.end
  pub first : chosen old.below.words names ≡ new.job ∷ chosen new.below.words names

module _ (shop : Shop) (threshold : ℕ) (whole : Reading) (text : List ℕ) (place : ℕ) (names : ℕ → List ℕ)
    (frames : List NodeFrame) (old frame : NodeFrame) (first last : List ℕ) (left : ℕ)
    (stands : StandsAt shop threshold whole text place names frames old first last left)
    (taken : IsTaken (names left) old frame) where
  each-taken : AllByRecursion (IsOpen shop threshold frame.end first last)
      (frame.job ∷ chosen frame.below.words (names left))
  each-taken =
      subst (λ end. AllByRecursion (IsOpen shop threshold end first last)
      (frame.job ∷ chosen frame.below.words (names left))) (sym taken.end)
      (subst (AllByRecursion (IsOpen shop threshold old.end first last)) taken.first stands.is_frame.each)

  pub opened : IsOpen shop threshold frame.end first last frame.job
  opened = each-taken.0

  pub others-open : AllByRecursion (IsOpen shop threshold frame.end first last) (chosen frame.below.words (names left))
  others-open = each-taken.1

  -- what is read of the child
  child-read : (r : Reading) →
      read_node shop threshold (left - 1) (first_with frame.end first frame.job) (last_with frame.end last frame.job)
      (drop place text) ≡ r →
      whole ≡ around shop threshold names shop.jobs [] [] frames
      (then_read r (children_read shop threshold frame.end left first last (chosen frame.below.words (names left))))
  child-read r is =
      stands.answer
      ∙ ap (λ end. around shop threshold names shop.jobs [] [] frames (children_read shop threshold end left first last
      (chosen old.below.words (names left)) (drop place text))) (sym taken.end)
      ∙ ap (λ jobs. around shop threshold names shop.jobs [] [] frames (children_read shop threshold frame.end left first last
      jobs (drop place text))) taken.first
      ∙ ap (λ r. around shop threshold names shop.jobs [] [] frames (then_read r (children_read shop threshold frame.end left
      first last (chosen frame.below.words (names left))))) is

  pub fails-low : left ≡ 1 → whole ≡ Err (Low 5)
  fails-low one =
      let none : left - 1 ≡ 0 = omega (arith, one) in
      child-read (Err (Low 5)) (read-low shop threshold (left - 1) (first_with frame.end first frame.job)
      (last_with frame.end last frame.job) (drop place text) opened.below none)
      ∙ around-fault shop threshold names shop.jobs [] [] frames (Low 5)

  pub fails-sign : 1 < left → first_end (drop place text) ≡ None → whole ≡ Err (Tree 5)
  fails-sign some none =
      let more : left - 1 ≢ 0 = omega (arith, some) in
      child-read (Err (Tree 5)) (read-sign shop threshold (left - 1) (first_with frame.end first frame.job)
      (last_with frame.end last frame.job) (drop place text) opened.below more none)
      ∙ around-fault shop threshold names shop.jobs [] [] frames (Tree 5)

  module _ (others : ℕ → List ℕ) (child : NodeFrame) (some : 1 < left)
      (is : first_end (drop place text) ≡ Some child.end)
      (below : chosen child.below.words (others (left - 1)) ≡ left_below shop threshold child.end
      (first_with frame.end first frame.job) (last_with frame.end last frame.job)) where
    children-below : read_node shop threshold (left - 1) (first_with frame.end first frame.job)
        (last_with frame.end last frame.job) (drop place text)
        ≡ children_read shop threshold child.end (left - 1) (first_with frame.end first frame.job)
        (last_with frame.end last frame.job) (chosen child.below.words (others (left - 1))) (drop (place + 1) text)
    children-below =
        let more : left - 1 ≢ 0 = omega (arith, some) in
        read-children shop threshold (left - 1) (first_with frame.end first frame.job)
        (last_with frame.end last frame.job) text place child.end opened.below more is
        ∙ children-filter shop threshold child.end (left - 1) (first_with frame.end first frame.job)
        (last_with frame.end last frame.job)
        (jobs_left shop.jobs (first_with frame.end first frame.job ++ last_with frame.end last frame.job))
        (drop (place + 1) text)
        ∙ ap (λ jobs. children_read shop threshold child.end (left - 1) (first_with frame.end first frame.job)
        (last_with frame.end last frame.job) jobs (drop (place + 1) text)) (sym below)

    pub read-child : whole ≡ around shop threshold names shop.jobs [] [] frames
        (then_read (children_read shop threshold child.end (left - 1) (first_with frame.end first frame.job)
        (last_with frame.end last frame.job) (chosen child.below.words (others (left - 1))) (drop (place + 1) text))
        (children_read shop threshold frame.end left first last (chosen frame.below.words (names left))))
    read-child = child-read (children_read shop threshold child.end (left - 1) (first_with frame.end first frame.job)
        (last_with frame.end last frame.job) (chosen child.below.words (others (left - 1))) (drop (place + 1) text))
        children-below

-- the walk goes to the next child below the threshold. The packs may be others from then on, but not for the frames above
pub stands-child : (shop : Shop) (threshold : ℕ) (whole : Reading) (text : List ℕ) (place : ℕ)
    (names others : ℕ → List ℕ) (frames : List NodeFrame) (old frame child : NodeFrame) →
    Stands shop threshold whole text place names frames old → IsTaken (names (shop.jobs - length frames)) old frame →
    IsFrame shop threshold (first_of [] frames) (last_of [] frames) (names (shop.jobs - length frames)) frame →
    ((l : ℕ) → shop.jobs < l + suc (length frames) → l ≤ shop.jobs → names l ≡ others l) →
    length frames + 1 < shop.jobs → first_end (drop place text) ≡ Some child.end →
    chosen child.below.words (others (shop.jobs - length frames - 1)) ≡ left_below shop threshold child.end
    (first_with frame.end (first_of [] frames) frame.job) (last_with frame.end (last_of [] frames) frame.job) →
    IsFrame shop threshold (first_with frame.end (first_of [] frames) frame.job)
    (last_with frame.end (last_of [] frames) frame.job) (others (shop.jobs - length frames - 1)) child →
    Stands shop threshold whole text (place + 1) others (frames ++ frame ∷ []) child
stands-child shop threshold whole text place names others frames old frame child stands taken is_parent same room is below
    is_frame =
    let first : List ℕ = first_of [] frames in
    let last : List ℕ = last_of [] frames in
    let left : ℕ = shop.jobs - length frames in
    let all : List NodeFrame = frames ++ frame ∷ [] in
    let long : length all ≡ length frames + 1 = length-append frames (frame ∷ []) in
    let last_read : Reading = children_read shop threshold child.end (left - 1) (first_with frame.end first frame.job)
    (last_with frame.end last frame.job) (chosen child.below.words (others (left - 1))) (drop (place + 1) text) in
    let agree : (l : ℕ) → shop.jobs < l + length all → l ≤ shop.jobs → names l ≡ others l =
    λ l low high. same l (omega (arith, low, long)) high in
    let at : StandsAt shop threshold whole text (place + 1) others all child (first_with frame.end first frame.job)
    (last_with frame.end last frame.job) (left - 1) =
    record {
      frames_are = frames-same shop threshold names others shop.jobs [] [] all agree
          (frames-push shop threshold names shop.jobs [] [] frames frame stands.frames_are is_parent);
      is_frame = is_frame;
      answer = read-child shop threshold whole text place names frames old frame first last left stands taken others child
          (omega (arith, room)) is below
          ∙ sym (around-push shop threshold names shop.jobs [] [] frames frame last_read)
          ∙ around-same shop threshold names others shop.jobs [] [] all last_read agree;
    } in
    let count : left - 1 ≡ shop.jobs - length all = omega (arith, long) in
    subst (StandsAt shop threshold whole text (place + 1) others all child (first_of [] all) (last_of [] all)) count
    (subst (λ l. StandsAt shop threshold whole text (place + 1) others all child (first_of [] all) l (left - 1))
    (sym (last-push [] frames frame))
    (subst (λ f. StandsAt shop threshold whole text (place + 1) others all child f
    (last_with frame.end last frame.job) (left - 1)) (sym (first-push [] frames frame)) at))
