-- How the walk turns to the next child of a node.
use Rattle.std.proofs.Common.{◌≡◌, ℕ, ◌+◌, ◌-◌, ◌*◌, ◌<◌, ◌≤◌, List, [], ◌∷◌, ◌++◌, length, slice_index}
use Rattle.std.proofs.Common.{drop, Some, ap, sym, ◌∙◌, subst, arith}
use Rattle.flow_shop.specs.Shop.{Shop}
use Rattle.flow_shop.specs.Directions.{first_with, last_with}
use Rattle.flow_nodes.specs.Nodes.{IsNode}
use Rattle.flow_check.specs.internal.Frames.{pack_groups}
use Rattle.flow_nodes.specs.Marks.{mark, chosen}
use Rattle.flow_check.specs.declared.two_ended.walk.NodeFrame.{NodeFrame}
use Rattle.flow_check.specs.declared.two_ended.walk.Path.{Path}
use Rattle.flow_check.specs.internal.ReadDirections.{Reading, first_end}
use Rattle.flow_check.specs.internal.Frames.{HavePacks, IsFrame, IsNext, IsOpen, first_of, last_of, here, above}
use Rattle.flow_check.specs.internal.Frames.{names_at}
use Rattle.flow_check.proofs.PackNames.{names-count}
use Rattle.flow_check.proofs.WalkSteps.{IsOpened, IsTaken, Stands, count-above, frames-count, opened, others-open}
use Rattle.flow_check.proofs.WalkSteps.{stands-child}

-- the names among which so many jobs left stand
abbrev pub names_of : {V : Type 0} → Path V → ℕ → List ℕ
names_of path left = names_at path.packs.items (pack_groups left - 1)

-- a path whose node has so many groups of jobs left, before and after the place of the next child is taken
pub record IsTurn {V : Type 0} (groups : ℕ) (old new : Path V) (place : ℕ) : Type 0 where
  pub packs : new.packs ≡ old.packs
  pub end : (here new).end ≡ (here old).end
  pub node : (here new).node ≡ (here old).node
  pub left : (here new).left ≡ (here old).left
  pub fewer : (other : ℕ) → mark (here new).below.words other ≡ 1 → mark (here old).below.words other ≡ 1
  pub within : place < groups * 16
  pub marked : mark (here old).below.words place ≡ 1
  pub job : (here new).job ≡ slice_index (names_at old.packs.items (groups - 1)) place
  pub first : chosen (here old).below.words (names_at old.packs.items (groups - 1))
      ≡ (here new).job ∷ chosen (here new).below.words (names_at old.packs.items (groups - 1))

-- where the walk stands before
pub record IsAt {V : Type 0} (shop : Shop) (threshold : ℕ) (whole : Reading) (text : List ℕ) (spot : ℕ) (left : ℕ)
    (path : Path V) : Type 0 where
  pub size : length path.frames.items ≡ shop.jobs
  pub left_is : left + path.depth ≡ shop.jobs
  pub some : 1 ≤ left
  pub have : HavePacks shop path.packs.items
  pub stands : Stands shop threshold whole text spot (names_of path) (above path) (here path)

module _ {V : Type 0} (shop : Shop) (threshold : ℕ) (whole : Reading) (text : List ℕ) (spot left groups place : ℕ)
    (old mid : Path V) (at : IsAt shop threshold whole text spot left old) (groups_are : groups ≡ pack_groups left)
    (turn : IsTurn groups old mid place) where
  abbrev frames : List NodeFrame
  frames = above old

  deep : length frames ≡ old.depth
  deep = count-above old (omega (arith, at.size, at.left_is, at.some))

  here-is : groups - 1 ≡ pack_groups (shop.jobs - length frames) - 1
  here-is = omega (arith, groups_are, at.left_is, deep)

  pub turn-taken : IsTaken (names_of old (shop.jobs - length (above old))) (here old) (here mid)
  turn-taken =
      subst (λ n. IsTaken (names_at old.packs.items n) (here old) (here mid)) here-is (record {
        end = turn.end;
        first = turn.first;
      })

  pub turn-open : IsOpen shop threshold (here mid).end (first_of [] (above old)) (last_of [] (above old)) (here mid).job
  turn-open =
      opened shop threshold whole text spot (names_of old) (above old) (here old) (here mid) (first_of [] (above old))
      (last_of [] (above old)) (shop.jobs - length (above old)) at.stands turn-taken

  -- the frame of the node then
  pub turn-frame : IsFrame shop threshold (first_of [] (above old)) (last_of [] (above old))
      (names_of old (shop.jobs - length (above old))) (here mid)
  turn-frame = record {
    is_node = subst (IsNode shop (first_of [] (above old)) (last_of [] (above old))) (sym turn.node)
        at.stands.is_frame.is_node;
    has_left = ap (λ m. chosen m.words (names_of old (shop.jobs - length (above old)))) turn.left
        ∙ at.stands.is_frame.has_left;
    within = λ other inside marked.
        ap (λ m. mark m.words other) turn.left
        ∙ at.stands.is_frame.within other inside (turn.fewer other marked);
    each = others-open shop threshold whole text spot (names_of old) (above old) (here old) (here mid)
        (first_of [] (above old)) (last_of [] (above old)) (shop.jobs - length (above old)) at.stands turn-taken;
  }

  pub turn-next : (less : ℕ) → less ≡ left - 1 →
      IsNext shop (first_of [] (above old)) (last_of [] (above old)) less place mid
  turn-next less less_is =
      let first : List ℕ = first_of [] (above old) in
      let last : List ℕ = last_of [] (above old) in
      let all : List ℕ = names_at mid.packs.items (pack_groups (less + 1) - 1) in
      let index : pack_groups (less + 1) - 1 ≡ groups - 1 = omega (arith, less_is, at.some, groups_are) in
      let names : all ≡ names_at old.packs.items (groups - 1) =
      ap (λ ps. names_at ps.items (pack_groups (less + 1) - 1)) turn.packs ∙ ap (names_at old.packs.items) index in
      let stood : all ≡ names_of old (shop.jobs - length (above old)) = names ∙ ap (names_at old.packs.items) here-is in
      let size : length (names_at old.packs.items (groups - 1)) ≡ (groups - 1 + 1) * 16 =
      names-count shop old.packs.items (groups - 1) at.have
      (omega (arith, at.have.count, groups_are, at.left_is, at.some)) in
      let inside : place < length all =
      omega (arith, ap length names, size, turn.within, groups_are, at.some) in
      record {
        is_node = turn-frame.is_node;
        is_job = turn-open.is_job;
        fresh = turn-open.left;
        count = omega (arith, frames-count [] [] (above old), deep, at.left_is, at.some, less_is);
        has_left = ap (chosen (here mid).left.words) stood ∙ turn-frame.has_left;
        within = inside;
        named = ap (λ ns. slice_index ns place) names ∙ sym turn.job;
        marked = ap (λ m. mark m.words place) turn.left
            ∙ at.stands.is_frame.within place (omega (arith, inside, ap length stood)) turn.marked;
      }

  -- the walk goes to the child
  pub turn-stands : (less groups2 : ℕ) (put new : Path V) → less ≡ left - 1 → 1 ≤ less →
      groups2 ≡ pack_groups less → above mid ≡ above old → above put ≡ above mid ++ here mid ∷ [] →
      ((more : ℕ) → less < more → more ≤ shop.jobs →
      names_at mid.packs.items (pack_groups more - 1) ≡ names_at put.packs.items (pack_groups more - 1)) →
      new.packs ≡ put.packs → above new ≡ above put → first_end (drop spot text) ≡ Some (here new).end →
      IsOpened shop threshold (first_with (here mid).end (first_of [] (above old)) (here mid).job)
      (last_with (here mid).end (last_of [] (above old)) (here mid).job)
      (names_at new.packs.items (groups2 - 1)) new →
      Stands shop threshold whole text (spot + 1) (names_of new) (above new) (here new)
  turn-stands less groups2 put new less_is more_left groups2_are above_mid above_put names packs above_new is is_opened =
      let first2 : List ℕ = first_with (here mid).end (first_of [] (above old)) (here mid).job in
      let last2 : List ℕ = last_with (here mid).end (last_of [] (above old)) (here mid).job in
      let index : groups2 - 1 ≡ pack_groups (shop.jobs - length (above old) - 1) - 1 =
      omega (arith, groups2_are, less_is, at.left_is, deep) in
      let child : IsOpened shop threshold first2 last2 (names_of new (shop.jobs - length (above old) - 1)) new =
      subst (λ n. IsOpened shop threshold first2 last2 (names_at new.packs.items n) new) index is_opened in
      let longer : above new ≡ above old ++ here mid ∷ [] =
      above_new ∙ above_put ∙ ap (λ fs. fs ++ here mid ∷ []) above_mid in
      subst (λ fs. Stands shop threshold whole text (spot + 1) (names_of new) fs (here new)) (sym longer)
      (stands-child shop threshold whole text spot (names_of old) (names_of new) (above old) (here old) (here mid)
      (here new) at.stands turn-taken turn-frame
      (λ l low high.
      ap (λ ps. names_at ps.items (pack_groups l - 1)) (sym turn.packs)
      ∙ names l (omega (arith, low, deep, at.left_is, less_is, more_left)) high
      ∙ ap (λ ps. names_at ps.items (pack_groups l - 1)) (sym packs))
      (omega (arith, deep, at.left_is, less_is, more_left)) is child.below child.frame)
