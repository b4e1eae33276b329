-- The nodes and packs of a tree, once one of them is written.
use Rattle.std.proofs.Common.{◌≡◌, ℕ, zero, suc, ◌+◌, ◌-◌, ◌*◌, ◌<◌, ◌≤◌, List, [], ◌∷◌, ◌++◌, length}
use Rattle.std.proofs.Common.{slice_index_or, set, take, drop, Option, Some, None, cond, false}
use Rattle.std.proofs.Common.{Bool, true, not, nat_lt, refl, ap, sym, ◌∙◌, subst, inl, inr, arith}
use Rattle.std.proofs.lemmas.Bool.{cases_eq, cases_lt}
use Rattle.std.proofs.lemmas.Option.{none-some}
use Rattle.std.proofs.lemmas.List.Filters.{length-filter_both}
use Rattle.std.proofs.lemmas.List.{get_or-take, get_or-set_same, get_or-set_other, length-set, set-append_right}
use Rattle.std.proofs.Math.Seq.{get_or-append_seam, take-length}
use Rattle.std.proofs.lemmas.List.{append-nil, drop_all, length-append}
use Rattle.std.proofs.lemmas.List.{get_or_append_left, get_or-append_right, get_or_default}
use Rattle.flow_shop.specs.Shop.{Shop}
use Rattle.flow_shop.specs.Directions.{first_with, last_with}
use Rattle.flow_shop.specs.declared.end.End.{End}
use Rattle.flow_shop.specs.declared.end.End.TheVariants.{Front, Back}
use Rattle.flow_shop.specs.Sequences.{jobs_left}
use Rattle.flow_limits.specs.Limits.{most_jobs}
use Rattle.flow_nodes.specs.Nodes.{IsNode}
use Rattle.flow_nodes.specs.Groups.{child_bound}
use Rattle.flow_nodes.specs.Packs.{HasRoom, IsPack}
use Rattle.flow_nodes.specs.declared.node.Node.{Node}
use Rattle.flow_nodes.specs.declared.pack.Pack.{Pack}
use Rattle.flow_directions.specs.Search.{count_below}
use Rattle.flow_nodes.specs.declared.open.OpenNode.{OpenNode}
use Rattle.flow_nodes.specs.Open.{AreChildren, HasRoomToOpen, IsOpenNode, children_at}
use Rattle.flow_directions.specs.internal.Tree.{AreKept, HavePacks, IsOpenAt}

module _ {X : Type 0} where
  -- where the first elements stay, so does each of them
  pub place-kept : (old new : List X) (count place : ℕ) (none : X) → take count new ≡ take count old → place < count →
      slice_index_or new place none ≡ slice_index_or old place none
  place-kept old new count place none same low =
      sym (get_or-take count new place none low) ∙ ap (λ l. slice_index_or l place none) same
      ∙ get_or-take count old place none low

  -- where more of the first elements stay, so do fewer
  pub fewer-kept : (old new : List X) (few many : ℕ) → few ≤ many → take many new ≡ take many old →
      take few new ≡ take few old
  fewer-kept old new few many low same =
      sym (take-take few many new low) ∙ ap (take few) same ∙ take-take few many old low
    where
      take-take : (few many : ℕ) (xs : List X) → few ≤ many → take few (take many xs) ≡ take few xs
      take-take zero many xs low = refl
      take-take (suc few) zero xs low = absurd (omega (arith, low))
      take-take (suc few) (suc many) [] low = refl
      take-take (suc few) (suc many) (x ∷ xs) low = ap (λ l. x ∷ l) (take-take few many xs (omega (arith, low)))

  -- a list that grew
  pub grown-kept : (old new : List X) (count : ℕ) → count ≤ length old → take (length old) new ≡ old →
      take count new ≡ take count old
  grown-kept old new count low same = fewer-kept old new count (length old) low (same ∙ sym (take-length old))

  -- of a list that is parted at a place, the first element behind it is written
  pub parted-set : (above deeper : List X) (at : ℕ) (x : X) → length above ≡ at →
      above ++ set deeper 0 x ≡ set (above ++ deeper) at x
  parted-set above deeper at x size =
      let e : at - at ≡ 0 = omega arith in
      ap (λ i. above ++ set deeper i x) (sym e) ∙ sym (set-append_right above deeper at at x size (omega arith))

  -- the elements of a list that is parted: one before the place, and the first behind it
  pub parted-left : (xs above deeper : List X) (place : ℕ) (none other : X) → xs ≡ above ++ deeper →
      place < length above → slice_index_or xs place none ≡ slice_index_or above place other
  parted-left xs above deeper place none other value low =
      ap (λ l. slice_index_or l place none) value
      ∙ get_or_append_left above deeper none place low
      ∙ get_or_default above place none other low

  pub parted-right : (xs above deeper : List X) (at : ℕ) (none other : X) → xs ≡ above ++ deeper →
      length above ≡ at → at < length xs → slice_index_or xs at none ≡ slice_index_or deeper 0 other
  parted-right xs above deeper at none other value size low =
      let first : at - at ≡ 0 = omega arith in
      get_or_default xs at none other low
      ∙ ap (λ l. slice_index_or l at other) value
      ∙ get_or-append_right above deeper at at other size (omega arith)
      ∙ ap (λ i. slice_index_or deeper i other) first

  -- a list that is written through the whole of it
  pub written-back : (count : ℕ) (old new : List X) → count ≡ length old → length new ≡ length old →
      take count (new ++ drop (length new) old) ≡ new
  written-back count old new size same =
      let e : count ≡ length new = omega (arith, size, same) in
      ap (λ l. take count (new ++ l)) (drop_all (length new) old (omega (arith, same)))
      ∙ ap (take count) (append-nil new)
      ∙ ap (λ n. take n new) e
      ∙ take-length new

  -- a fact about each element stays, where it holds of the one that is written
  pub each-set : (P : ℕ → X → Type 0) (xs : List X) (at : ℕ) (x : X) → at < length xs → P at x →
      ((place : ℕ) (none : X) → place < length xs → P place (slice_index_or xs place none)) →
      (place : ℕ) (none : X) → place < length (set xs at x) → P place (slice_index_or (set xs at x) place none)
  each-set P xs at x within here before place none low = elim (cases_eq place at) [
    | inl same ↦
        subst (λ p. P p (slice_index_or (set xs at x) p none)) (sym same)
        (subst (P at) (sym (get_or-set_same xs at x none within)) here)
    | inr apart ↦
        subst (P place) (sym (get_or-set_other xs at place x none apart))
        (before place none (omega (arith, low, length-set xs at x)))
  ]

  -- likewise where one more element is there
  pub each-push : (P : ℕ → X → Type 0) (xs : List X) (x : X) → P (length xs) x →
      ((place : ℕ) (none : X) → place < length xs → P place (slice_index_or xs place none)) →
      (place : ℕ) (none : X) → place < length (xs ++ x ∷ []) → P place (slice_index_or (xs ++ x ∷ []) place none)
  each-push P xs x here before place none within = elim (cases_lt place (length xs)) [
    | inl low ↦ subst (P place) (sym (get_or_append_left xs (x ∷ []) none place low)) (before place none low)
    | inr high ↦
        let same : place ≡ length xs = omega (arith, high, within, length-append xs (x ∷ [])) in
        subst (λ n. P n (slice_index_or (xs ++ x ∷ []) n none)) (sym same)
        (subst (P (length xs)) (sym (get_or-append_seam xs x [] none)) here)
  ]

-- packs, once one of them is filled
pub packs-set : {V : Type 0} (shop : Shop) (packs : List (Pack V)) (at : ℕ) (pack : Pack V) → at < length packs →
    HasRoom shop pack → length pack.groups.items ≡ at + 1 → HavePacks shop packs → HavePacks shop (set packs at pack)
packs-set shop packs at pack within room groups have = record {
  few = omega (arith, have.few, length-set packs at pack);
  rooms = each-set (λ _ p. HasRoom shop p) packs at pack within room have.rooms;
  groups = each-set (λ place p. length p.groups.items ≡ place + 1) packs at pack within groups have.groups;
}

-- memory for fewer groups
pub room-fewer : {V : Type 0} (shop : Shop) (few many : ℕ) (node : OpenNode V) → few ≤ many →
    HasRoomToOpen shop many node → HasRoomToOpen shop few node
room-fewer shop few many node low room = record {
  at_front = record { enough = omega (arith, low, room.at_front.enough); machines = room.at_front.machines };
  at_back = record { enough = omega (arith, low, room.at_back.enough); machines = room.at_back.machines };
  front_bounds = omega (arith, low, room.front_bounds);
  back_bounds = omega (arith, low, room.back_bounds);
}

-- memory for the bounds of so many groups at an end
pub bounds-room : {V : Type 0} (shop : Shop) (groups : ℕ) (end : End) (node : OpenNode V) →
    HasRoomToOpen shop groups node → groups ≤ length (children_at end node).bounds.items
bounds-room shop groups Front node room = room.front_bounds
bounds-room shop groups Back node room = room.back_bounds

-- how many names the pack at a place has
pub names-count : {V : Type 0} (shop : Shop) (packs : List (Pack V)) (place : ℕ) (none : Pack V) →
    HavePacks shop packs → place < length packs →
    length (slice_index_or packs place none).names.items ≡ (place + 1) * 16
names-count shop packs place none have within =
    omega (arith, (have.rooms place none within).names, have.groups place none within)

-- the children of an open node at an end
pub children-of : {V : Type 0} (list : V → List ℕ) (cap width : ℕ) (shop : Shop) (threshold : ℕ) (end : End)
    (first last : List ℕ) (pack : Pack V) (node : OpenNode V) →
    IsOpenNode list cap width shop threshold first last pack node →
    AreChildren list cap width shop threshold end first last pack.names.items node.left (children_at end node)
children-of list cap width shop threshold Front first last pack node is = is.at_front
children-of list cap width shop threshold Back first last pack node is = is.at_back

module _ {V : Type 0} (list : V → List ℕ) (cap width : ℕ) (shop : Shop) (threshold : ℕ) where
  -- where the pack and the node are the same, the node is still open
  pub open-moved : (first last : List ℕ) (groups place : ℕ) (packs packs2 : List (Pack V))
      (nodes nodes2 : List (OpenNode V)) →
      ((none : Pack V) → slice_index_or packs2 (groups - 1) none ≡ slice_index_or packs (groups - 1) none) →
      ((empty : OpenNode V) → slice_index_or nodes2 place empty ≡ slice_index_or nodes place empty) →
      IsOpenAt list cap width shop threshold first last groups place packs nodes →
      IsOpenAt list cap width shop threshold first last groups place packs2 nodes2
  open-moved first last groups place packs packs2 nodes nodes2 pack node is = record {
    below = is.below;
    is_pack = λ none. subst (IsPack list cap width shop) (sym (pack none)) (is.is_pack none);
    is_open = λ none empty.
        subst (λ p. IsOpenNode list cap width shop threshold first last p (slice_index_or nodes2 place empty))
        (sym (pack none))
        (subst (IsOpenNode list cap width shop threshold first last (slice_index_or packs (groups - 1) none))
        (sym (node empty)) (is.is_open none empty));
  }

  -- the node, as it is read
  pub open-read : (first last : List ℕ) (groups place : ℕ) (packs : List (Pack V)) (nodes : List (OpenNode V))
      (pack : Pack V) (node : OpenNode V) → pack ≡ slice_index_or packs (groups - 1) pack →
      node ≡ slice_index_or nodes place node →
      IsOpenAt list cap width shop threshold first last groups place packs nodes →
      IsOpenNode list cap width shop threshold first last pack node
  open-read first last groups place packs nodes pack node pack_is node_is is =
      subst (λ p. IsOpenNode list cap width shop threshold first last p node) (sym pack_is)
      (subst (IsOpenNode list cap width shop threshold first last (slice_index_or packs (groups - 1) pack)) (sym node_is)
      (is.is_open pack node))

  -- likewise where the packs stay, and the first nodes
  pub open-kept : (first last : List ℕ) (groups place count : ℕ) (packs packs2 : List (Pack V))
      (nodes nodes2 : List (OpenNode V)) → packs2 ≡ packs → take count nodes2 ≡ take count nodes → place < count →
      IsOpenAt list cap width shop threshold first last groups place packs nodes →
      IsOpenAt list cap width shop threshold first last groups place packs2 nodes2
  open-kept first last groups place count packs packs2 nodes nodes2 pack node low =
      open-moved first last groups place packs packs2 nodes nodes2
      (λ none. ap (λ ps. slice_index_or ps (groups - 1) none) pack)
      (λ empty. place-kept nodes nodes2 count place empty node low)

  -- and the children that are kept are still kept
  pub children-kept : (end : End) (first last : List ℕ) (groups : ℕ) (jobs : List ℕ) (from count : ℕ)
      (packs packs2 : List (Pack V)) (nodes nodes2 : List (OpenNode V)) → packs2 ≡ packs →
      take count nodes2 ≡ take count nodes → from + length jobs ≤ count →
      AreKept list cap width shop threshold end first last groups jobs from packs nodes →
      AreKept list cap width shop threshold end first last groups jobs from packs2 nodes2
  children-kept end first last groups [] from count packs packs2 nodes nodes2 pack node low are = tt
  children-kept end first last groups (job ∷ jobs) from count packs packs2 nodes nodes2 pack node low are = (
    open-kept (first_with end first job) (last_with end last job) groups from count packs packs2 nodes nodes2 pack node
        (omega (arith, low)) are.0,
    children-kept end first last groups jobs (from + 1) count packs packs2 nodes nodes2 pack node (omega (arith, low))
        are.1,
  )

  -- one more child behind those that are kept
  pub children-more : (end : End) (first last : List ℕ) (groups : ℕ) (jobs : List ℕ) (job from : ℕ)
      (packs : List (Pack V)) (nodes : List (OpenNode V)) →
      AreKept list cap width shop threshold end first last groups jobs from packs nodes →
      IsOpenAt list cap width shop threshold (first_with end first job) (last_with end last job) groups
      (from + length jobs) packs nodes →
      AreKept list cap width shop threshold end first last groups (jobs ++ job ∷ []) from packs nodes
  children-more end first last groups [] job from packs nodes are is =
      let e : from + 0 ≡ from = omega arith in (
        subst (λ p. IsOpenAt list cap width shop threshold (first_with end first job) (last_with end last job) groups p
            packs nodes) e is,
        tt,
      )
  children-more end first last groups (other ∷ jobs) job from packs nodes are is =
      let e : from + length (other ∷ jobs) ≡ from + 1 + length jobs = omega arith in (
        are.0,
        children-more end first last groups jobs job (from + 1) packs nodes are.1
            (subst (λ p. IsOpenAt list cap width shop threshold (first_with end first job) (last_with end last job) groups
            p packs nodes) e is),
      )

-- few children of a node are below the threshold
pub count-small : (shop : Shop) (threshold : ℕ) (first last : List ℕ) (end : End) (node : Node) →
    IsNode shop first last node → count_below shop threshold end first last ≤ most_jobs
count-small shop threshold first last end node is =
    let p : ℕ → Bool = λ job. nat_lt (child_bound shop end first last job) threshold in
    omega (
      arith,
      length-filter_both p (λ job. not (p job)) (λ job. refl) (jobs_left shop.jobs (first ++ last)),
      is.count,
      is.limits.jobs,
    )

-- a place, where children are kept
pub place-is : (keeps : Bool) (place from : ℕ) → cond keeps (Some place) None ≡ Some from →
    (keeps ≡ true) × (place ≡ from)
place-is true place from is = (refl, ap the_place is)
  where
    the_place : Option ℕ → ℕ
    the_place None = 0
    the_place (Some threshold) = threshold
place-is false place from is = absurd (none-some from is)
