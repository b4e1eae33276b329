-- Sums of the bounds of children, group by group and lane by lane.
use Rattle.std.proofs.Common.{◌≡◌, ◌≢◌, ℕ, suc, ◌+◌, ◌-◌, ◌*◌, ◌/◌, ◌%◌, ◌<◌, cond, false, nat_eq, List, [], ◌∷◌, ◌++◌}
use Rattle.std.proofs.Common.{length, slice_index, slice_index_or, take, drop, refl, ap, sym, ◌∙◌, subst, arith}
use Rattle.std.specs.Global.{Vec}
use Rattle.std.specs.Int.{bit_at}
use Rattle.std.specs.Prelude.{Some, None}
use Rattle.std.specs.List.{sum_by}
use Rattle.std.proofs.lemmas.Bool.{cond-true, cond-false, eq-eqb, ne_eqb}
use Rattle.std.proofs.lemmas.List.{drop_more}
use Rattle.std.proofs.lemmas.Nat.Bits.{bit_at-zero}
use Rattle.std.proofs.lemmas.List.Sums.{sum_by-cons, sum_by-append}
use Rattle.flow_shop.specs.Shop.{Shop}
use Rattle.flow_shop.specs.Sequences.{has}
use Rattle.flow_shop.specs.declared.end.End.{End}
use Rattle.flow_shop.proofs.Lists.{some-of}
use Rattle.flow_nodes.specs.Vectors.{HasLane}
use Rattle.flow_nodes.specs.Groups.{IsGroup, child_bound}
use Rattle.flow_nodes.specs.Marks.{mark, picked, chosen}
use Rattle.flow_nodes.specs.Packs.{HasLeft, IsPack}
use Rattle.flow_nodes.specs.Open.{IsOpenNode, children_at}
use Rattle.flow_nodes.specs.declared.open.OpenNode.{OpenNode}
use Rattle.flow_nodes.specs.declared.marks.Marks.{Marks}
use Rattle.flow_nodes.specs.declared.pack.Pack.{Pack}
use Rattle.flow_nodes.proofs.ChosenNames.{chosen-group, chosen-nothing}
use Rattle.flow_nodes.proofs.JobsMarked.{group-name, marked-left}
use Rattle.flow_directions.proofs.TreeSteps.{children-of}

picked-next : (word lane : ℕ) (names : List ℕ) → lane < length names →
    picked word lane (drop lane names)
    ≡ cond (nat_eq (bit_at word lane) 1) (slice_index names lane ∷ picked word (suc lane) (drop (lane + 1) names))
    (picked word (suc lane) (drop (lane + 1) names))
unfolding picked
picked-next word lane names within = ap (picked word lane) (drop_more names lane 0 within)

module _ (f : ℕ → ℕ) (word lane : ℕ) (names : List ℕ) (within : lane < length names) where
  rest-is : sum_by f (picked word (suc lane) (drop (lane + 1) names))
      ≡ sum_by f (picked word (lane + 1) (drop (lane + 1) names))
  rest-is =
      let e : suc lane ≡ lane + 1 = omega arith in
      ap (λ l. sum_by f (picked word l (drop (lane + 1) names))) e

  -- the names picked from a lane on have the lane's name, where its bit is 1
  pub lane-picked : bit_at word lane ≡ 1 →
      sum_by f (picked word lane (drop lane names))
      ≡ f (slice_index names lane) + sum_by f (picked word (lane + 1) (drop (lane + 1) names))
  lane-picked is =
      ap (sum_by f) (picked-next word lane names within ∙ cond-true _ _ _ (eq-eqb (bit_at word lane) 1 is))
      ∙ sum_by-cons f (slice_index names lane) (picked word (suc lane) (drop (lane + 1) names))
      ∙ ap (λ s. f (slice_index names lane) + s) rest-is

  -- and else not
  pub lane-passed : bit_at word lane ≢ 1 →
      sum_by f (picked word lane (drop lane names)) ≡ sum_by f (picked word (lane + 1) (drop (lane + 1) names))
  lane-passed other =
      ap (sum_by f) (picked-next word lane names within ∙ cond-false _ _ _ (ne_eqb (bit_at word lane) 1 other))
      ∙ rest-is

-- no names are picked from the last lane on
pub none-picked : (f : ℕ → ℕ) (word lane : ℕ) → sum_by f (picked word lane []) ≡ 0
unfolding picked
none-picked f word lane = refl

zero-none : (lane : ℕ) (names : List ℕ) → picked 0 lane names ≡ []
unfolding picked
zero-none lane [] = refl
zero-none lane (name ∷ names) =
    ap (λ m. cond (nat_eq m 1) (name ∷ picked 0 (suc lane) names) (picked 0 (suc lane) names)) (bit_at-zero lane)
    ∙ zero-none (suc lane) names

-- a word without bits picks no names
pub zero-picked : (f : ℕ → ℕ) (lane : ℕ) (names : List ℕ) → sum_by f (picked 0 lane names) ≡ 0
zero-picked f lane names = ap (sum_by f) (zero-none lane names)

-- no names are chosen behind the last group
pub none-chosen : (f : ℕ → ℕ) (words : List ℕ) → sum_by f (chosen words []) ≡ 0
none-chosen f words = ap (sum_by f) (chosen-nothing words)

-- the sum over the names from a group on
pub group-sum : (f : ℕ → ℕ) (words names : List ℕ) (group : ℕ) → group < length words →
    sum_by f (chosen (drop group words) (drop (group * 16) names))
    ≡ sum_by f (picked (slice_index words group) 0 (take 16 (drop (group * 16) names)))
    + sum_by f (chosen (drop (group + 1) words) (drop ((group + 1) * 16) names))
group-sum f words names group low =
    let e : suc group ≡ group + 1 = omega arith in
    ap (sum_by f) (chosen-group words names group low)
    ∙ sum_by-append f (picked (slice_index words group) 0 (take 16 (drop (group * 16) names)))
    (chosen (drop (suc group) words) (drop (suc group * 16) names))
    ∙ ap (λ g. sum_by f (picked (slice_index words group) 0 (take 16 (drop (group * 16) names)))
    + sum_by f (chosen (drop g words) (drop (g * 16) names))) e

-- the mark of a lane of a word
lane-mark : (words : List ℕ) (group lane : ℕ) → lane < 16 →
    mark words (group * 16 + lane) ≡ bit_at (slice_index words group) lane
lane-mark words group lane low =
    let word : (group * 16 + lane) / 16 ≡ group = omega (arith, low) in
    let there : (group * 16 + lane) % 16 ≡ lane = omega (arith, low) in
    ap (λ w. bit_at (slice_index words w) ((group * 16 + lane) % 16)) word
    ∙ ap (bit_at (slice_index words group)) there

-- a pack has the group at a place, and its jobs at marked lanes are left
pub group-at : {V : Type 0} (list : V → List ℕ) (cap width : ℕ) (shop : Shop) (first last : List ℕ) (pack : Pack V)
    (left : Marks) (group : ℕ) (names : List ℕ) (vector : Vec V) (vectors : List V) →
    IsPack list cap width shop pack → HasLeft shop first last pack.names.items left → group < length pack.groups.items →
    names ≡ take 16 (drop (group * 16) pack.names.items) → vector ≡ slice_index_or pack.groups.items group vector →
    vectors ≡ vector.items →
    IsGroup list cap width shop names vectors
    × ((lane : ℕ) → lane < 16 → bit_at (slice_index left.words group) lane ≡ 1 →
    has (first ++ last) (slice_index names lane) ≡ false)
group-at list cap width shop first last pack left group names vector vectors is has_left within names_are vector_is
    vectors_are = (
      subst (λ l. IsGroup list cap width shop l vectors) (sym names_are)
          (subst (IsGroup list cap width shop (take 16 (drop (group * 16) pack.names.items)))
          (sym (vectors_are ∙ ap (λ v. v.items) vector_is)) (is.each group vector within)),
      λ lane low bit.
          ap (λ l. has (first ++ last) (slice_index l lane)) names_are
          ∙ ap (has (first ++ last)) (group-name pack.names.items group lane low)
          ∙ marked-left shop.jobs (first ++ last) left.words pack.names.items has_left (group * 16 + lane)
          (omega (arith, low, within, is.room.names))
          (lane-mark left.words group lane low ∙ bit),
    )

-- sixteen names from a place on
pub sixteen : (names all : List ℕ) (from : ℕ) → names ≡ all →
    take (from + 16 - from) (drop from names) ≡ take 16 (drop from all)
sixteen names all from are =
    let size : from + 16 - from ≡ 16 = omega arith in
    ap (λ n. take n (drop from names)) size ∙ ap (λ l. take 16 (drop from l)) are

-- where the bounds of a group are known, a job left of it has its bound
pub known-lane : {V : Type 0} (list : V → List ℕ) (cap width : ℕ) (shop : Shop) (threshold : ℕ) (end : End)
    (first last : List ℕ) (pack : Pack V) (open_node : OpenNode V) (group lane : ℕ) (bounds : V) →
    IsOpenNode list cap width shop threshold first last pack open_node → IsPack list cap width shop pack →
    group < length pack.groups.items → lane < 16 → bit_at (slice_index open_node.left.words group) lane ≡ 1 →
    slice_index_or (children_at end open_node).bounds.items group None ≡ Some bounds →
    HasLane cap width (list bounds) lane
    (child_bound shop end first last (slice_index (take 16 (drop (group * 16) pack.names.items)) lane))
known-lane list cap width shop threshold end first last pack open_node group lane bounds is is_pack within low bit known =
    let place : ℕ = group * 16 + lane in
    let word : place / 16 ≡ group = omega (arith, low) in
    let there : place % 16 ≡ lane = omega (arith, low) in
    let none = some-of pack.groups.items (omega (arith, within)) in
    let whole = (children-of list cap width shop threshold end first last pack open_node is).whole place none bounds
    (omega (arith, low, within, is_pack.room.names)) (lane-mark open_node.left.words group lane low ∙ bit)
    (ap (λ g. slice_index_or (children_at end open_node).bounds.items g None) word ∙ known) in
    subst (λ job. HasLane cap width (list bounds) lane (child_bound shop end first last job))
    (sym (group-name pack.names.items group lane low))
    (subst (λ l. HasLane cap width (list bounds) l
    (child_bound shop end first last (slice_index pack.names.items place))) there whole.bound)
