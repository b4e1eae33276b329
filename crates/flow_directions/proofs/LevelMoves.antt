-- Levels, once nodes and packs are written, and once a child is taken.
use Rattle.std.proofs.Common.{◌≡◌, ℕ, ◌+◌, ◌-◌, ◌*◌, ◌<◌, ◌≤◌, List, [], ◌∷◌, ◌++◌, length, slice_index}
use Rattle.std.proofs.Common.{slice_index_or, take, Option, Some, None, ap, sym, ◌∙◌, subst, arith}
use Rattle.std.specs.List.{AllByRecursion}
use Rattle.std.specs.Prelude.{Result, Ok, Err, OnOk}
use Rattle.std.proofs.lemmas.Option.{none-some}
use Rattle.flow_shop.specs.Shop.{Shop}
use Rattle.flow_shop.specs.Sequences.{jobs_left, AreDistinct}
use Rattle.flow_shop.specs.Directions.{first_with, last_with}
use Rattle.flow_shop.specs.declared.end.End.{End}
use Rattle.flow_shop.specs.declared.end.End.TheVariants.{Front, Back}
use Rattle.flow_shop.proofs.EndSteps.{count-child}
use Rattle.flow_shop.proofs.Lists.{some-of}
use Rattle.flow_nodes.specs.Groups.{group_count}
use Rattle.flow_nodes.specs.Marks.{mark, chosen}
use Rattle.flow_nodes.specs.declared.marks.Marks.{Marks}
use Rattle.flow_nodes.specs.declared.pack.Pack.{Pack}
use Rattle.flow_nodes.specs.Packs.{left_below}
use Rattle.flow_directions.specs.Search.{end_taken}
use Rattle.flow_nodes.specs.Open.{IsOpenNode, children_at}
use Rattle.flow_directions.specs.internal.Tree.{AreKept, IsOpenAt}
use Rattle.flow_directions.specs.internal.Levels.{HasChildren, IsBegun, IsLevel, IsNext, IsOpen, jobs_of, names_of}
use Rattle.flow_nodes.specs.declared.open.OpenNode.{OpenNode}
use Rattle.flow_directions.specs.declared.level.Level.{Level}
use Rattle.flow_directions.proofs.PackNames.{names-is, names-same}
use Rattle.flow_directions.proofs.TreeSteps.{open-moved, place-kept}
use Rattle.flow_directions.proofs.WalkSteps.{below-each, below-distinct}

-- a level, before and after the place of its next child is taken
pub record IsTurn (names : List ℕ) (place : ℕ) (old new : Level) : Type 0 where
  pub at : new.at ≡ old.at
  pub top : new.top ≡ old.top
  pub end : new.end ≡ old.end
  pub kept : new.kept ≡ old.kept
  pub fewer : (other : ℕ) → mark new.rest.words other ≡ 1 → mark old.rest.words other ≡ 1
  pub within : place < length names
  pub marked : mark old.rest.words place ≡ 1
  pub job : new.job ≡ slice_index names place
  pub first : chosen old.rest.words names ≡ new.job ∷ chosen new.rest.words names

module _ {V : Type 0} (list : V → List ℕ) (cap width : ℕ) (shop : Shop) (threshold : ℕ) where
  -- where the packs and the first nodes stay, children that are kept are still kept
  pub kept-moved : (end : End) (first last : List ℕ) (groups count : ℕ) (packs packs2 : List (Pack V))
      (nodes nodes2 : List (OpenNode V)) →
      ((none : Pack V) → slice_index_or packs2 (groups - 1) none ≡ slice_index_or packs (groups - 1) none) →
      take count nodes2 ≡ take count nodes → (jobs : List ℕ) (from : ℕ) → from + length jobs ≤ count →
      AreKept list cap width shop threshold end first last groups jobs from packs nodes →
      AreKept list cap width shop threshold end first last groups jobs from packs2 nodes2
  kept-moved end first last groups count packs packs2 nodes nodes2 pack same [] from low are = tt
  kept-moved end first last groups count packs packs2 nodes nodes2 pack same (job ∷ jobs) from low are = (
    open-moved list cap width shop threshold (first_with end first job) (last_with end last job) groups from packs packs2
        nodes nodes2 pack (λ empty. place-kept nodes nodes2 count from empty same (omega (arith, low))) are.0,
    kept-moved end first last groups count packs packs2 nodes nodes2 pack same jobs (from + 1) (omega (arith, low))
        are.1,
  )

  -- a level stays, where the pack stays and the nodes before its first free place
  pub children-moved : (packs packs2 : List (Pack V)) (nodes nodes2 : List (OpenNode V)) (left : ℕ)
      (first last jobs : List ℕ) (level : Level) →
      ((none : Pack V) →
      slice_index_or packs2 (group_count left - 1) none ≡ slice_index_or packs (group_count left - 1) none) →
      take level.top nodes2 ≡ take level.top nodes →
      HasChildren list cap width shop threshold packs nodes left first last jobs level →
      HasChildren list cap width shop threshold packs2 nodes2 left first last jobs level
  children-moved packs packs2 nodes nodes2 left first last jobs level pack same is = record {
    count = is.count;
    is_open = open-moved list cap width shop threshold first last (group_count left) level.at packs packs2 nodes nodes2
        pack (λ empty. place-kept nodes nodes2 level.top level.at empty same is.low) is.is_open;
    low = is.low;
    within = λ empty place marked.
        ap (λ n. mark (children_at level.end n).below.words place)
        (place-kept nodes nodes2 level.top level.at empty same is.low)
        ∙ is.within empty place marked;
    each = is.each;
    distinct = is.distinct;
    behind = is.behind;
    small = is.small;
    kept = λ from k. kept-moved level.end first last (group_count left) level.top packs packs2 nodes nodes2 pack same
        jobs from (is.behind from k).1 (is.kept from k);
  }

  pub level-moved : (packs packs2 : List (Pack V)) (nodes nodes2 : List (OpenNode V)) (left : ℕ)
      (first last : List ℕ) (level : Level) → group_count left - 1 < length packs → length packs2 ≡ length packs →
      ((none : Pack V) →
      slice_index_or packs2 (group_count left - 1) none ≡ slice_index_or packs (group_count left - 1) none) →
      take level.top nodes2 ≡ take level.top nodes →
      IsLevel list cap width shop threshold packs nodes left first last level →
      IsLevel list cap width shop threshold packs2 nodes2 left first last level
  level-moved packs packs2 nodes nodes2 left first last level within size pack same is =
      subst (λ ns. HasChildren list cap width shop threshold packs2 nodes2 left first last (chosen level.rest.words ns)
      level) (sym (names-same packs packs2 (group_count left - 1) within size pack))
      (children-moved packs packs2 nodes nodes2 left first last (jobs_of (names_of packs) left level) level pack same
      is)

  module _ (packs : List (Pack V)) (nodes : List (OpenNode V)) (left : ℕ) (first last : List ℕ) where
    -- the child that is searched next
    pub next-turn : (place : ℕ) (old new : Level) → length (names_of packs left) ≡ group_count left * 16 →
        IsTurn (names_of packs left) place old new →
        IsLevel list cap width shop threshold packs nodes left first last old →
        IsNext list cap width shop threshold packs nodes left first last place new
    next-turn place old new size turn is =
        let rest : List ℕ = jobs_of (names_of packs) left new in
        record {
          has_children = record {
            count = is.count;
            is_open = subst (λ at. IsOpenAt list cap width shop threshold first last (group_count left) at packs nodes)
                (sym turn.at) is.is_open;
            low = omega (arith, is.low, turn.at, turn.top);
            within = λ empty other marked.
                ap (λ e. mark (children_at e (slice_index_or nodes new.at empty)).below.words other) turn.end
                ∙ ap (λ at. mark (children_at old.end (slice_index_or nodes at empty)).below.words other) turn.at
                ∙ is.within empty other (turn.fewer other marked);
            each = subst (λ e. AllByRecursion (IsOpen shop threshold e first last) (new.job ∷ rest)) (sym turn.end)
                (subst (AllByRecursion (IsOpen shop threshold old.end first last)) turn.first is.each);
            distinct = subst AreDistinct turn.first is.distinct;
            behind = λ from k.
                let before = is.behind from (sym turn.kept ∙ k) in (
                  omega (arith, before.0, turn.at),
                  omega (arith, before.1, turn.top, ap length turn.first),
                );
            small = λ from k. omega (arith, is.small from (sym turn.kept ∙ k), turn.top);
            kept = λ from k.
                subst (λ e. AreKept list cap width shop threshold e first last (group_count left) (new.job ∷ rest) from
                packs nodes) (sym turn.end)
                (subst (λ jobs. AreKept list cap width shop threshold old.end first last (group_count left) jobs from
                packs nodes) turn.first (is.kept from (sym turn.kept ∙ k)));
          };
          marked = λ empty.
              ap (λ e. mark (children_at e (slice_index_or nodes new.at empty)).below.words place) turn.end
              ∙ ap (λ at. mark (children_at old.end (slice_index_or nodes at empty)).below.words place) turn.at
              ∙ is.within empty place turn.marked;
          within = omega (arith, turn.within, size);
          named = sym turn.job;
        }

    -- the child that is kept is taken
    pub taken-kept : (at top : ℕ) (end : End) (rest : Marks) (kept : Option ℕ) (job from : ℕ) (jobs : List ℕ) →
        kept ≡ Some from →
        HasChildren list cap width shop threshold packs nodes left first last (job ∷ jobs)
        (record { at = at; top = top; end = end; rest = rest; kept = kept; job = job }) →
        HasChildren list cap width shop threshold packs nodes left first last jobs
        (record { at = at; top = top; end = end; rest = rest; kept = Some (from + 1); job = job })
    taken-kept at top end rest kept job from jobs is_kept is =
        let before = is.behind from is_kept in
        let are = is.kept from is_kept in
        record {
          count = is.count;
          is_open = is.is_open;
          low = is.low;
          within = is.within;
          each = is.each.1;
          distinct = is.distinct.1;
          behind = λ place k.
              let same : from + 1 ≡ place = some-is (from + 1) place k in
              (omega (arith, before.0, same), omega (arith, before.1, same));
          small = λ place k. is.small from is_kept;
          kept = λ place k.
              subst (λ p. AreKept list cap width shop threshold end first last (group_count left) jobs p packs nodes)
              (some-is (from + 1) place k) are.1;
        }
      where
        some-is : (x y : ℕ) → Some x ≡ Some y → x ≡ y
        some-is x y e = ap value e
          where
            value : Option ℕ → ℕ
            value (Some z) = z
            value None = 0

    -- or is made
    pub taken-made : (jobs : List ℕ) (level : Level) → level.kept ≡ None →
        HasChildren list cap width shop threshold packs nodes left first last (level.job ∷ jobs) level →
        HasChildren list cap width shop threshold packs nodes left first last jobs level
    taken-made jobs level none is = record {
      count = is.count;
      is_open = is.is_open;
      low = is.low;
      within = is.within;
      each = is.each.1;
      distinct = is.distinct.1;
      behind = λ from k. absurd (none-some from (sym none ∙ k));
      small = λ from k. absurd (none-some from (sym none ∙ k));
      kept = λ from k. absurd (none-some from (sym none ∙ k));
    }

-- the children of an open node at an end
children-of : {V : Type 0} (list : V → List ℕ) (cap width : ℕ) (shop : Shop) (threshold : ℕ) (first last : List ℕ)
    (pack : Pack V) (node : OpenNode V) (end : End) →
    IsOpenNode list cap width shop threshold first last pack node →
    chosen (children_at end node).below.words pack.names.items ≡ left_below shop threshold end first last
children-of list cap width shop threshold first last pack node Front is = is.at_front.below
children-of list cap width shop threshold first last pack node Back is = is.at_back.below

-- a level of which no child is searched yet
pub level-begun : {V : Type 0} (list : V → List ℕ) (cap width : ℕ) (shop : Shop) (threshold : ℕ) (packs : List (Pack V))
    (nodes : List (OpenNode V)) (left : ℕ) (first last : List ℕ) (at top : ℕ) (end : End) (node : OpenNode V)
    (kept : Option ℕ) (job : ℕ) →
    IsOpenAt list cap width shop threshold first last (group_count left) at packs nodes →
    group_count left - 1 < length packs → at < top →
    ((empty : OpenNode V) → slice_index_or nodes at empty ≡ node) →
    length (jobs_left shop.jobs (first ++ last)) ≡ left → end ≡ end_taken shop threshold first last →
    ((from : ℕ) → kept ≡ Some from →
    (at < from) × (from + length (left_below shop threshold end first last) ≤ top)) →
    ((from : ℕ) → kept ≡ Some from → top ≤ 4294967295) →
    ((from : ℕ) → kept ≡ Some from →
    AreKept list cap width shop threshold end first last (group_count left) (left_below shop threshold end first last) from
    packs nodes) →
    IsBegun list cap width shop threshold packs nodes left first last (record {
      at = at;
      top = top;
      end = end;
      rest = (children_at end node).below;
      kept = kept;
      job = job;
    })
level-begun list cap width shop threshold packs nodes left first last at top end node kept job is within low here count
    taken behind small are =
    let none = some-of packs (omega (arith, within)) in
    let pack = slice_index_or packs (group_count left - 1) none in
    let rest : chosen (children_at end node).below.words (names_of packs left) ≡ left_below shop threshold end first last =
    ap (chosen (children_at end node).below.words) (names-is packs (group_count left - 1) none within)
    ∙ children-of list cap width shop threshold first last pack node end
    (subst (IsOpenNode list cap width shop threshold first last pack) (here node) (is.is_open none node)) in
    record {
      is_level = record {
        count = count;
        is_open = is;
        low = low;
        within = λ empty place marked.
            ap (λ n. mark (children_at end n).below.words place) (here empty) ∙ marked;
        each = subst (AllByRecursion (IsOpen shop threshold end first last)) (sym rest)
            (below-each shop threshold first last end);
        distinct = subst AreDistinct (sym rest) (below-distinct shop threshold first last end);
        behind = λ from k.
            let before = behind from k in (before.0, omega (arith, before.1, ap length rest));
        small = small;
        kept = λ from k.
            subst (λ jobs. AreKept list cap width shop threshold end first last (group_count left) jobs from packs nodes)
            (sym rest) (are from k);
      };
      end = taken;
      rest = rest;
    }

-- how many jobs are left at the child that is searched next
pub next-count : {V : Type 0} (list : V → List ℕ) (cap width : ℕ) (shop : Shop) (threshold : ℕ) (packs : List (Pack V))
    (nodes : List (OpenNode V)) (left : ℕ) (first last : List ℕ) (place : ℕ) (level : Level) →
    IsNext list cap width shop threshold packs nodes (left + 1) first last place level →
    length (jobs_left shop.jobs (first_with level.end first level.job ++ last_with level.end last level.job)) ≡ left
next-count list cap width shop threshold packs nodes left first last place level next =
    let open_job = next.has_children.each.0 in
    omega (
      arith,
      next.has_children.count,
      count-child shop.jobs level.end first last level.job open_job.is_job.0 open_job.is_job.1 open_job.left,
    )

-- what holds in any case holds where something is returned
pub on-ok : {T E : Type 0} (result : Result T E) (P : Type 0) → P → OnOk result P
on-ok (Ok x) P is = is
on-ok (Err e) P is = tt
