-- Where the walk stands: what is still to be met, by the levels.
use Rattle.std.proofs.Common.{◌≡◌, ℕ, ◌+◌, ◌-◌, ◌*◌, ◌<◌, ◌≤◌, List, [], ◌∷◌, ◌++◌, length, take, Some, None}
use Rattle.std.proofs.Common.{slice_index_or, refl, ap, sym, ◌∙◌, subst, arith, append_assoc, length-append}
use Rattle.std.specs.List.{flat_map, AllByRecursion}
use Rattle.flow_shop.specs.Shop.{Shop}
use Rattle.flow_shop.specs.Sequences.{jobs_left, AreDistinct}
use Rattle.flow_shop.specs.Ends.{end_bound}
use Rattle.flow_shop.specs.Directions.{sign, first_with, last_with}
use Rattle.flow_nodes.specs.Groups.{group_count}
use Rattle.flow_nodes.specs.Marks.{chosen}
use Rattle.flow_nodes.specs.declared.pack.Pack.{Pack}
use Rattle.flow_directions.specs.Search.{Visit, Continues, child_visits, directions_of, first_below, first_reached}
use Rattle.flow_directions.specs.Search.{opens}
use Rattle.flow_directions.specs.Search.{reaches, signs, visits}
use Rattle.flow_directions.specs.internal.Lists.{HasLists}
use Rattle.flow_directions.specs.internal.Levels.{AreLevels, AreNested, IsAbove, IsAt, IsBegun, IsLevel}
use Rattle.flow_directions.specs.internal.Levels.{IsNext, IsOpen, IsStopped, StandsBelow, first_of, jobs_of, last_of}
use Rattle.flow_directions.specs.internal.Levels.{met_with, names_of}
use Rattle.flow_directions.specs.internal.Levels.{rest_met}
use Rattle.flow_nodes.specs.declared.open.OpenNode.{OpenNode}
use Rattle.flow_directions.specs.declared.level.Level.{Level}
use Rattle.flow_directions.specs.declared.lists.Lists.{Lists}
use Rattle.flow_directions.specs.declared.tree.Tree.{Tree}
use Rattle.flow_directions.proofs.LevelMoves.{IsTurn, level-moved, next-turn}
use Rattle.flow_directions.proofs.LevelSteps.{first-push, last-push, levels-map, levels-pop, levels-push}
use Rattle.flow_directions.proofs.LevelSteps.{lists-push, nested-pop, nested-push}
use Rattle.flow_directions.proofs.MetSteps.{met-opens, met-push, met-reaches, met-same}
use Rattle.flow_directions.proofs.PackNames.{names-same}
use Rattle.flow_directions.proofs.TreeSteps.{fewer-kept}
use Rattle.flow_directions.proofs.VisitSteps.{visits-whole}
use Rattle.flow_directions.proofs.WalkSteps.{met-opened, whole-lists}

-- the walk wrote a text, and searches the children of a level, below the nodes of others, of which the first is where
-- the search began: these lists were its own, and so many jobs were left there
pub record StandsAt {V : Type 0} (list : V → List ℕ) (cap width : ℕ) (shop : Shop) (threshold : ℕ) (first last : List ℕ)
    (left : ℕ) (text : List ℕ) (lists : Lists) (packs : List (Pack V)) (nodes : List (OpenNode V))
    (levels : List Level) (here : Level) (begin behind : List ℕ) (more : ℕ) : Type 0 where
  pub are_levels : AreLevels (IsAbove list cap width shop threshold packs nodes) left first last levels
  pub is_here : IsLevel list cap width shop threshold packs nodes more begin behind here
  pub nested : AreNested levels here.top
  pub has_lists : HasLists shop.jobs begin behind lists
  pub continues : Continues (visits shop threshold first last) text
      (met_with shop threshold (names_of packs) left first last levels
      (rest_met shop threshold (names_of packs) more begin behind here))

abbrev pub Stands : {V : Type 0} → (V → List ℕ) → ℕ → ℕ → Shop → ℕ → List ℕ → List ℕ → ℕ → List ℕ → Lists →
    List (Pack V) → List (OpenNode V) → List Level → Level → Type 0
Stands list cap width shop threshold first last left text lists packs nodes levels here =
    StandsAt list cap width shop threshold first last left text lists packs nodes levels here (first_of first levels)
    (last_of last levels) (left - length levels)

module _ {V : Type 0} (list : V → List ℕ) (cap width : ℕ) (shop : Shop) (threshold : ℕ) (first last : List ℕ)
    (left : ℕ) where
  -- at first
  pub stands-first : (lists : Lists) (before : Tree V) (packs : List (Pack V)) (nodes : List (OpenNode V))
      (here : Level) → IsAt list cap width shop threshold first last left lists before → 1 ≤ left →
      IsBegun list cap width shop threshold packs nodes left first last here →
      Stands list cap width shop threshold first last left (sign here.end ∷ []) lists packs nodes [] here
  stands-first lists before packs nodes here at some begun =
      let all : left ≡ left - 0 = omega arith in
      let rest : List Visit = rest_met shop threshold (names_of packs) left first last here in
      let opened : visits shop threshold first last ≡ opens here.end ∷ rest =
      met-opened shop threshold first last here.end (jobs_of (names_of packs) left here)
      (omega (arith, at.count, some)) at.is_open.below begun.end begun.rest in
      subst (StandsAt list cap width shop threshold first last left (sign here.end ∷ []) lists packs nodes [] here first
      last) all
      (record {
        are_levels = tt;
        is_here = begun.is_level;
        nested = tt;
        has_lists = at.has_lists;
        continues = (ap signs opened, ap first_reached opened);
      })

  module _ (text : List ℕ) (lists : Lists) (packs : List (Pack V)) (nodes : List (OpenNode V)) where
    -- once all is searched
    pub stands-done : (levels : List Level) (here : Level) →
        Stands list cap width shop threshold first last left text lists packs nodes levels here → length levels ≡ 0 →
        jobs_of (names_of packs) (left - length levels) here ≡ [] →
        (first_below shop threshold first last ≡ None) × (text ≡ directions_of shop threshold first last)
    stands-done [] here stands none empty =
        let rest : rest_met shop threshold (names_of packs) (left - 0) first last here ≡ [] =
        ap (flat_map (child_visits shop threshold here.end first last)) empty in (
          stands.continues.1 ∙ ap first_reached rest,
          sym (stands.continues.0 ∙ ap (λ v. text ++ signs v) rest ∙ append-nil-right text),
        )
      where
        append-nil-right : (xs : List ℕ) → xs ++ [] ≡ xs
        append-nil-right [] = refl
        append-nil-right (x ∷ xs) = ap (λ ys. x ∷ ys) (append-nil-right xs)
    stands-done (l ∷ ls) here stands none empty = absurd (omega (arith, none))

    -- once the children of a level are searched, the walk goes back
    pub stands-back : (levels aboves : List Level) (here above : Level) (lists2 : Lists) →
        Stands list cap width shop threshold first last left text lists packs nodes levels here →
        jobs_of (names_of packs) (left - length levels) here ≡ [] → levels ≡ aboves ++ above ∷ [] →
        HasLists shop.jobs (first_of first aboves) (last_of last aboves) lists2 →
        Stands list cap width shop threshold first last left text lists2 packs nodes aboves above
    stands-back levels aboves here above lists2 stands empty is has_lists =
        let P : ℕ → List ℕ → List ℕ → Level → Type 0 = IsAbove list cap width shop threshold packs nodes in
        let are = levels-pop P left first last aboves above
        (subst (AreLevels P left first last) is stands.are_levels) in
        let nested = nested-pop aboves above here.top (subst (λ ls. AreNested ls here.top) is stands.nested) in
        let names : ℕ → List ℕ = names_of packs in
        let same : met_with shop threshold names left first last levels
        (rest_met shop threshold names (left - length levels) (first_of first levels) (last_of last levels) here)
        ≡ met_with shop threshold names left first last aboves
        (rest_met shop threshold names (left - length aboves) (first_of first aboves) (last_of last aboves) above) =
        ap (λ jobs. met_with shop threshold names left first last levels (flat_map (child_visits shop threshold here.end
        (first_of first levels) (last_of last levels)) jobs)) empty
        ∙ ap (λ ls. met_with shop threshold names left first last ls []) is
        ∙ met-push shop threshold names left first last aboves above [] in
        record {
          are_levels = are.0;
          is_here = are.1.is_level;
          nested = nested.0;
          has_lists = has_lists;
          continues = subst (Continues (visits shop threshold first last) text) same stands.continues;
        }

    -- the child of a level's job is searched next
    module _ (levels : List Level) (old here : Level) (place : ℕ)
        (stands : Stands list cap width shop threshold first last left text lists packs nodes levels old)
        (turn : IsTurn (names_of packs (left - length levels)) place old here) where
      abbrev pub begin : List ℕ
      begin = first_of first levels

      abbrev pub behind : List ℕ
      behind = last_of last levels

      abbrev pub more : ℕ
      more = left - length levels

      abbrev pub first2 : List ℕ
      first2 = first_with here.end begin here.job

      abbrev pub last2 : List ℕ
      last2 = last_with here.end behind here.job

      abbrev pub rest : List Visit
      rest = rest_met shop threshold (names_of packs) more begin behind here

      pub turn-next : length (names_of packs (left - length levels)) ≡ group_count (left - length levels) * 16 →
          IsNext list cap width shop threshold packs nodes (left - length levels) (first_of first levels)
          (last_of last levels) place here
      turn-next size =
          next-turn list cap width shop threshold packs nodes (left - length levels) (first_of first levels)
          (last_of last levels) place old here size turn stands.is_here

      pub turn-open : IsOpen shop threshold here.end (first_of first levels) (last_of last levels) here.job
      turn-open =
          let each : AllByRecursion (IsOpen shop threshold old.end begin behind)
          (here.job ∷ jobs_of (names_of packs) (left - length levels) here) =
          subst (AllByRecursion (IsOpen shop threshold old.end begin behind)) turn.first stands.is_here.each in
          subst (λ end. IsOpen shop threshold end begin behind here.job) (sym turn.end) each.0

      -- what is met from then on
      turn-met : Continues (visits shop threshold first last) text
          (met_with shop threshold (names_of packs) left first last levels (visits shop threshold first2 last2 ++ rest))
      turn-met =
          let e : rest_met shop threshold (names_of packs) more begin behind old
          ≡ visits shop threshold first2 last2 ++ rest =
          ap (flat_map (child_visits shop threshold old.end begin behind)) turn.first
          ∙ ap (λ end. flat_map (child_visits shop threshold end begin behind)
          (here.job ∷ jobs_of (names_of packs) more here)) (sym turn.end) in
          subst (λ v. Continues (visits shop threshold first last) text
          (met_with shop threshold (names_of packs) left first last levels v)) e stands.continues

      low : end_bound shop first2 last2 < threshold
      low = turn-open.below

      -- where the search stops there, the levels are those above the child
      pub turn-stopped : (total : ℕ) (lists2 : Lists) → total ≡ left → HasLists shop.jobs first2 last2 lists2 →
          StandsBelow shop threshold (names_of packs) first last total lists2 (levels ++ here ∷ [])
      turn-stopped total lists2 all has_lists =
          let R : ℕ → List ℕ → List ℕ → Level → Type 0 = IsStopped shop threshold (names_of packs) in
          let jobs : List ℕ = jobs_of (names_of packs) (left - length levels) here in
          let each : AllByRecursion (IsOpen shop threshold old.end begin behind) (here.job ∷ jobs) =
          subst (AllByRecursion (IsOpen shop threshold old.end begin behind)) turn.first stands.is_here.each in
          let distinct : AreDistinct (here.job ∷ jobs) = subst AreDistinct turn.first stands.is_here.distinct in
          let last_is : R (left - length levels) begin behind here = record {
            each = subst (λ end. AllByRecursion (IsOpen shop threshold end begin behind) jobs) (sym turn.end) each.1;
            distinct = distinct.1;
            opened = turn-open;
          } in
          let are : AreLevels R left first last levels =
          levels-map (IsAbove list cap width shop threshold packs nodes) R old.top left first last levels
          (λ n f b level least most top is. record {
            each = is.is_level.each;
            distinct = is.is_level.distinct;
            opened = is.opened;
          }) stands.nested stands.are_levels in
          record {
            are_levels = subst (λ n. AreLevels R n first last (levels ++ here ∷ [])) (sym all)
                (levels-push R left first last levels here are last_is);
            has_lists = lists-push (λ f l. HasLists shop.jobs f l lists2) first last levels here has_lists;
          }

      -- where it was the last job, a sequence below the threshold is reached
      pub turn-low : (lists2 : Lists) → length (jobs_left shop.jobs (first2 ++ last2)) ≡ 0 →
          length first2 + length last2 ≡ shop.jobs → HasLists shop.jobs first2 last2 lists2 →
          (first_below shop threshold first last ≡ Some lists2.jobs.items)
          × (text ≡ directions_of shop threshold first last)
      turn-low lists2 none all has_lists =
          let met : met_with shop threshold (names_of packs) left first last levels
          (visits shop threshold first2 last2 ++ rest)
          ≡ reaches (first2 ++ last2) ∷ met_with shop threshold (names_of packs) left first last levels rest =
          ap (λ v. met_with shop threshold (names_of packs) left first last levels (v ++ rest))
          (visits-whole shop threshold first2 last2 none low)
          ∙ met-reaches shop threshold (names_of packs) left first last levels (first2 ++ last2) rest in (
            turn-met.1 ∙ ap first_reached met ∙ ap Some (sym (whole-lists shop.jobs first2 last2 lists2 has_lists all)),
            sym (turn-met.0 ∙ ap (λ v. text ++ signs v) met ∙ append-nil-right text),
          )
        where
          append-nil-right : (xs : List ℕ) → xs ++ [] ≡ xs
          append-nil-right [] = refl
          append-nil-right (x ∷ xs) = ap (λ ys. x ∷ ys) (append-nil-right xs)

      -- where the search is over there, this is what it goes on with
      pub turn-over : Continues (visits shop threshold first last) text
          (met_with shop threshold (names_of packs) left first last (levels ++ here ∷ [])
          (visits shop threshold (first_of first (levels ++ here ∷ [])) (last_of last (levels ++ here ∷ []))))
      turn-over =
          let all : List Level = levels ++ here ∷ [] in
          let met : met_with shop threshold (names_of packs) left first last levels
          (visits shop threshold first2 last2 ++ rest)
          ≡ met_with shop threshold (names_of packs) left first last all
          (visits shop threshold (first_of first all) (last_of last all)) =
          sym (met-push shop threshold (names_of packs) left first last levels here (visits shop threshold first2 last2))
          ∙ ap (λ f. met_with shop threshold (names_of packs) left first last all (visits shop threshold f last2))
          (sym (first-push first levels here))
          ∙ ap (λ l. met_with shop threshold (names_of packs) left first last all
          (visits shop threshold (first_of first all) l)) (sym (last-push last levels here)) in
          subst (Continues (visits shop threshold first last) text) met turn-met

      -- the walk goes to the child, whose level is begun. The packs and the nodes may be others from then on, but not
      -- for the levels above
      module _ (packs2 : List (Pack V)) (nodes2 : List (OpenNode V)) (lists2 : Lists) (parent child : Level)
          (size : length packs2 ≡ length packs) (enough : group_count left ≤ length packs)
          (room : length levels + 1 < left)
          (others : (n : ℕ) (none : Pack V) → more - 1 < n →
          slice_index_or packs2 (group_count n - 1) none ≡ slice_index_or packs (group_count n - 1) none)
          (same : take here.top nodes2 ≡ take here.top nodes)
          (end_is : parent.end ≡ here.end) (job_is : parent.job ≡ here.job) (top_is : parent.top ≡ here.top)
          (rest_is : parent.rest ≡ here.rest)
          (is_parent : IsLevel list cap width shop threshold packs2 nodes2 more begin behind parent)
          (begun : IsBegun list cap width shop threshold packs2 nodes2 (more - 1) first2 last2 child)
          (below : here.top ≤ child.top) (has_lists : HasLists shop.jobs first2 last2 lists2) where
        abbrev pub P : ℕ → List ℕ → List ℕ → Level → Type 0
        P = IsAbove list cap width shop threshold packs nodes

        abbrev pub Q : ℕ → List ℕ → List ℕ → Level → Type 0
        Q = IsAbove list cap width shop threshold packs2 nodes2

        is-above : Q more begin behind parent
        is-above = record {
          is_level = is_parent;
          opened = subst (λ j. IsOpen shop threshold parent.end begin behind j) (sym job_is)
              (subst (λ e. IsOpen shop threshold e begin behind here.job) (sym end_is) turn-open);
        }

        nested : AreNested levels here.top
        nested = subst (AreNested levels) (sym turn.top) stands.nested

        names-kept : (n : ℕ) → more ≤ n → n ≤ left → names_of packs n ≡ names_of packs2 n
        names-kept n least most =
            sym (names-same packs packs2 (group_count n - 1) (omega (arith, most, least, enough, room)) size
            (λ none. others n none (omega (arith, least, room))))

        are-levels : AreLevels Q left first last levels
        are-levels =
            levels-map P Q here.top left first last levels
            (λ n f b level least most top is. record {
              is_level = level-moved list cap width shop threshold packs packs2 nodes nodes2 n f b level
                  (omega (arith, most, least, enough, room)) size
                  (λ none. others n none (omega (arith, least, room)))
                  (fewer-kept nodes nodes2 level.top here.top top same) is.is_level;
              opened = is.opened;
            }) nested stands.are_levels

        rest-kept : rest ≡ rest_met shop threshold (names_of packs2) more begin behind parent
        rest-kept =
            ap (λ ns. flat_map (child_visits shop threshold here.end begin behind) (chosen here.rest.words ns))
            (names-kept more (omega arith) (omega arith))
            ∙ ap (λ e. flat_map (child_visits shop threshold e begin behind)
            (chosen here.rest.words (names_of packs2 more))) (sym end_is)
            ∙ ap (λ m. flat_map (child_visits shop threshold parent.end begin behind)
            (chosen m.words (names_of packs2 more))) (sym rest_is)

        abbrev found : List Visit
        found = rest_met shop threshold (names_of packs2) (more - 1) first2 last2 child

        met-down : met_with shop threshold (names_of packs) left first last levels
            (visits shop threshold first2 last2 ++ rest)
            ≡ opens child.end ∷ met_with shop threshold (names_of packs2) left first last (levels ++ parent ∷ []) found
        met-down =
            ap (λ v. met_with shop threshold (names_of packs) left first last levels (v ++ rest))
            (met-opened shop threshold first2 last2 child.end (jobs_of (names_of packs2) (more - 1) child)
            (omega (arith, begun.is_level.count, room)) low begun.end begun.rest)
            ∙ met-opens shop threshold (names_of packs) left first last levels child.end (found ++ rest)
            ∙ ap (λ v. opens child.end ∷ v)
            (met-same shop threshold (names_of packs) (names_of packs2) left first last levels (found ++ rest)
            (λ n least most. names-kept n (omega (arith, least, room)) most)
            ∙ ap (λ v. met_with shop threshold (names_of packs2) left first last levels (found ++ v)) rest-kept
            ∙ sym (met-push shop threshold (names_of packs2) left first last levels parent found))

        pub turn-down : Stands list cap width shop threshold first last left (text ++ sign child.end ∷ []) lists2 packs2
            nodes2 (levels ++ parent ∷ []) child
        turn-down =
            let text2 : List ℕ = text ++ sign child.end ∷ [] in
            let all : List Level = levels ++ parent ∷ [] in
            let v : List Visit = met_with shop threshold (names_of packs2) left first last all found in
            let deep : left - length levels - 1 ≡ left - length all =
            omega (arith, length-append levels (parent ∷ [])) in
            let first_is : first2 ≡ first_of first all =
            ap (λ e. first_with e begin here.job) (sym end_is)
            ∙ ap (λ j. first_with parent.end begin j) (sym job_is) ∙ sym (first-push first levels parent) in
            let last_is : last2 ≡ last_of last all =
            ap (λ e. last_with e behind here.job) (sym end_is)
            ∙ ap (λ j. last_with parent.end behind j) (sym job_is) ∙ sym (last-push last levels parent) in
            let at : StandsAt list cap width shop threshold first last left text2 lists2 packs2 nodes2 all child first2
            last2
            (left - length levels - 1) =
            record {
              are_levels = levels-push Q left first last levels parent are-levels is-above;
              is_here = begun.is_level;
              nested = nested-push levels parent child.top (subst (AreNested levels) (sym top_is) nested)
                  (omega (arith, top_is, below));
              has_lists = has_lists;
              continues = (
                turn-met.0 ∙ ap (λ v. text ++ signs v) met-down
                    ∙ sym (append_assoc text (sign child.end ∷ []) (signs v)),
                turn-met.1 ∙ ap first_reached met-down,
              );
            } in
            subst (StandsAt list cap width shop threshold first last left text2 lists2 packs2 nodes2 all child
            (first_of first all) (last_of last all)) deep
            (subst (λ l. StandsAt list cap width shop threshold first last left text2 lists2 packs2 nodes2 all child
            (first_of first all) l (left - length levels - 1)) last_is
            (subst (λ f. StandsAt list cap width shop threshold first last left text2 lists2 packs2 nodes2 all child f
            last2
            (left - length levels - 1)) first_is at))
