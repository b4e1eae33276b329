-- Steps of the walk to the first place that waits.
use Rattle.std.proofs.Common.{◌≡◌, ◌≢◌, ℕ, ◌+◌, ◌-◌, ◌≤◌, ◌⊎◌, inl, inr, cond, List, [], ◌∷◌, ◌++◌, length, refl, ap}
use Rattle.std.proofs.Common.{sym, ◌∙◌, subst, arith, eqb, append_assoc, append-nil, length-append}
use Rattle.std.specs.List.{AllByRecursion}
use Rattle.std.proofs.lemmas.Bool.{cases_eq, ne_eqb}
use Rattle.flow_parts.specs.declared.place.Place.{Place}
use Rattle.flow_parts.specs.Orders.{place_at, IsOneOf, IsLinked, AreSkipped, SkipsSearched, IsSameButSkip}
use Rattle.flow_parts.specs.internal.Walks.{IsBegun, IsFirstWaiting, IsRunTo, onward_of}
use Rattle.flow_parts.proofs.Numbers.{all-append, all-each, all-weaker, one-rest}
use Rattle.flow_parts.proofs.Links.{linked-rest, apart-first, apart-rest}
use Rattle.flow_parts.proofs.Walking.{linked-none, linked-some, none-long}
use Rattle.flow_parts.proofs.Skips.{skip-set, same-state, same-next, same-place, same-more, same-again, skip-kept}
use Rattle.flow_parts.proofs.Skips.{AreStill, skips-kept, skips-at, skips-rest, skipped-to, skipped-split}

-- a run of searched places that ends some places, by the link of its first one
pub record IsRun (at : ℕ → Place) (above : List ℕ) (run : ℕ) : Type 0 where
  pub before : List ℕ
  pub between : List ℕ
  pub are : above ≡ before ++ (run - 1) ∷ between
  pub some : run ≢ 0
  pub first : (at (run - 1)).state ≡ 2
  pub searched : AllByRecursion (λ q. (at q).state ≡ 2) between

-- a walk over places that do not wait, after so many steps of those that an array has
pub record Seeking (at at' : ℕ → Place) (size step link run : ℕ) (order : List ℕ) : Type 0 where
  pub above : List ℕ
  pub below : List ℕ
  pub are : order ≡ above ++ below
  pub passed : AllByRecursion (λ q. (at q).state ≢ 0) above
  pub linked : IsLinked (λ q. (at q).next) 1 order
  pub then : IsLinked (λ q. (at q).next) link below
  pub short : length below + step ≤ size
  pub same : (q : ℕ) → IsSameButSkip above at at' q
  pub skips : SkipsSearched at' order
  pub runs : (run ≡ 0) ⊎ IsRun at above run

-- from a searched place on, by its skip or else the place behind it
onward-to : (at at' : ℕ → Place) (here : ℕ) (more : List ℕ) → ((q : ℕ) → (at' q).state ≡ (at q).state) →
    (at' here).next ≡ (at here).next → IsLinked (λ q. (at q).next) (at here).next more →
    SkipsSearched at' (here ∷ more) →
    (gap : List ℕ) × (below : List ℕ) × (more ≡ gap ++ below) × AllByRecursion (λ q. (at q).state ≡ 2) gap
    × IsLinked (λ q. (at q).next) (onward_of (at' here)) below
onward-to at at' here more states next linked skips = elim (cases_eq (at' here).skip 0) [
  | inl none ↦ (
    [],
    more,
    refl,
    tt,
    subst (λ n. IsLinked (λ q. (at q).next) n more)
        (sym (ap (λ n. cond (eqb n 0) (at' here).next n) none ∙ next)) linked,
  )
  | inr some ↦ elim skips.0 [
    | inl none ↦ absurd (some none)
    | inr skipped ↦
        let split = skipped-split at' more (at' here).skip skipped.1 in (
          split.0,
          split.1 ∷ split.2,
          split.3,
          all-weaker (λ q. (at' q).state ≡ 2) (λ q. (at q).state ≡ 2) split.0 (λ q is. sym (states q) ∙ is) split.5,
          (
            ap (λ b. cond b (at' here).next (at' here).skip) (ne_eqb (at' here).skip 0 some) ∙ split.4,
            linked-rest (λ q. (at q).next) (at here).next split.0 split.1 split.2
                (subst (λ xs. IsLinked (λ q. (at q).next) (at here).next xs) split.3 linked),
          ),
        )
  ]
]

module _ (at at' : ℕ → Place) (size step link run : ℕ) (order : List ℕ)
    (walk : Seeking at at' size step link run order) where
  states : (q : ℕ) → (at' q).state ≡ (at q).state
  states q = same-state walk.above at at' q (walk.same q)

  seek-nil : walk.below ≡ [] → IsFirstWaiting at at' order 0
  seek-nil is = record {
    passed = walk.above;
    same = walk.same;
    skips = walk.skips;
    none_waits = walk.passed;
    found = inl (refl, sym (walk.are ∙ ap (λ xs. walk.above ++ xs) is ∙ append-nil walk.above));
  }

  pub seeking-none : link ≡ 0 → IsFirstWaiting at at' order 0
  seeking-none none = seek-nil (linked-none (λ q. (at q).next) link walk.below walk.then none)

  pub seeking-end : size ≤ step → IsFirstWaiting at at' order 0
  seeking-end all = seek-nil (none-long walk.below (omega (arith, walk.short, all)))

  -- the place at which the walk stands
  module _ (some : link ≢ 0) where
    first : (more : List ℕ) × (walk.below ≡ (link - 1) ∷ more)
        × IsLinked (λ q. (at q).next) (at (link - 1)).next more
    first = linked-some (λ q. (at q).next) link walk.below walk.then some

    order-is : order ≡ walk.above ++ (link - 1) ∷ first.0
    order-is = walk.are ∙ ap (λ xs. walk.above ++ xs) first.1

    pub seeking-waits : (at' (link - 1)).state ≡ 0 → IsFirstWaiting at at' order link
    seeking-waits waits = record {
      passed = walk.above;
      same = walk.same;
      skips = walk.skips;
      none_waits = walk.passed;
      found = inr (link - 1, first.0, omega (arith, some), order-is, sym (states (link - 1)) ∙ waits);
    }

    -- over a place that was not searched
    pub seeking-over : (next : ℕ) → (at' (link - 1)).state ≢ 0 → next ≡ (at' (link - 1)).next →
        Seeking at at' size (step + 1) next 0 order
    seeking-over next not is = record {
      above = walk.above ++ (link - 1) ∷ [];
      below = first.0;
      are = order-is ∙ sym (append_assoc walk.above ((link - 1) ∷ []) first.0);
      passed = all-append (λ q. (at q).state ≢ 0) walk.above ((link - 1) ∷ []) walk.passed
          ((λ waits. not (states (link - 1) ∙ waits)), tt);
      linked = walk.linked;
      then = subst (λ n. IsLinked (λ q. (at q).next) n first.0)
          (sym (is ∙ same-next walk.above at at' (link - 1) (walk.same (link - 1)))) first.2;
      short = omega (arith, walk.short, ap length first.1);
      same = λ q. same-more walk.above at at' q ((link - 1) ∷ []) (walk.same q);
      skips = walk.skips;
      runs = inl refl;
    }

    -- over one that was
    module _ (at'' : ℕ → Place) (run' : ℕ) (goes : IsRunTo at' at'' run link run')
        (searched : (at' (link - 1)).state ≡ 2) where
      here : (at (link - 1)).state ≡ 2
      here = sym (states (link - 1)) ∙ searched

      -- the first place of the run, with its skip
      run-first : IsRun at walk.above run → (at'' (run - 1) ≡ at' (run - 1))
          ⊎ (at'' (run - 1) ≡ record (at' (run - 1)) { skip = link })
      run-first is = (goes.goes_on is.some).1

      -- a place is as it was, or the first one of the run
      cases-first : (q : ℕ) → (at'' q ≡ at' q) ⊎ ((q ≡ run - 1) × IsRun at walk.above run)
      cases-first q = elim walk.runs [
        | inl none ↦ inl (goes.others q (λ e. absurd (omega (arith, e, none))))
        | inr is ↦ elim (cases_eq q (run - 1)) [
          | inl same ↦ inr (same, is)
          | inr not ↦ inl (goes.others q (λ e. not (omega (arith, e))))
        ]
      ]

      first-states : IsRun at walk.above run → (at'' (run - 1)).state ≡ (at' (run - 1)).state
      first-states is = elim (run-first is) [
        | inl still ↦ ap (λ place. place.state) still
        | inr set ↦ ap (λ place. place.state) set
      ]

      kept'' : (q : ℕ) → (at' q).state ≡ 2 → (at'' q).state ≡ 2
      kept'' q searched_q = elim (cases-first q) [
        | inl still ↦ ap (λ place. place.state) still ∙ searched_q
        | inr one ↦ subst (λ n. (at'' n).state ≡ 2) (sym one.0)
            (first-states one.1 ∙ subst (λ n. (at' n).state ≡ 2) one.0 searched_q)
      ]

      all-still : (xs : List ℕ) → AreStill at' at'' xs
      all-still xs = all-each (λ q. (at' q).state ≡ 2 → (at'' q).state ≡ 2) xs (λ q one. kept'' q)

      first-same : (is : IsRun at walk.above run) → IsSameButSkip walk.above at at'' (run - 1)
      first-same is =
          let was : at' (run - 1) ≡ record (at (run - 1)) { skip = (at' (run - 1)).skip } =
          same-place walk.above at at' (run - 1) (walk.same (run - 1)) in
          inr (
            subst (IsOneOf (run - 1)) (sym is.are) (one-rest (run - 1) is.before ((run - 1) ∷ is.between) (inl refl)),
            is.first,
            elim (run-first is) [
              | inl still ↦ skip-set (at (run - 1)) (at'' (run - 1)) (at' (run - 1)).skip (still ∙ was)
              | inr set ↦ skip-set (at (run - 1)) (at'' (run - 1)) link
                  (set ∙ ap {A = Place} {B = Place} (λ place. record place { skip = link }) was)
            ],
          )

      same'' : (q : ℕ) → IsSameButSkip walk.above at at'' q
      same'' q = elim (cases-first q) [
        | inl still ↦ same-again walk.above at at' at'' q still (walk.same q)
        | inr one ↦ subst (IsSameButSkip walk.above at at'') (sym one.0) (first-same one.1)
      ]

      -- the order, from the first place of the run on
      run-order : (is : IsRun at walk.above run) →
          order ≡ is.before ++ (run - 1) ∷ (is.between ++ (link - 1) ∷ first.0)
      run-order is = order-is ∙ ap (λ xs. xs ++ (link - 1) ∷ first.0) is.are
          ∙ append_assoc is.before ((run - 1) ∷ is.between) ((link - 1) ∷ first.0)

      -- what the first place of the run skips
      first-skips : (is : IsRun at walk.above run) → ((at'' (run - 1)).skip ≡ 0)
          ⊎ (((at'' (run - 1)).state ≡ 2)
          × AreSkipped at'' (is.between ++ (link - 1) ∷ first.0) (at'' (run - 1)).skip)
      first-skips is = elim (run-first is) [
        | inl still ↦ skip-kept at' at'' (run - 1) (is.between ++ (link - 1) ∷ first.0)
            (all-still ((run - 1) ∷ (is.between ++ (link - 1) ∷ first.0)))
            (ap (λ place. place.skip) still)
            (skips-rest at' is.before ((run - 1) ∷ (is.between ++ (link - 1) ∷ first.0))
            (subst (SkipsSearched at') (run-order is) walk.skips)).0
        | inr set ↦ inr (
          kept'' (run - 1) (states (run - 1) ∙ is.first),
          subst (AreSkipped at'' (is.between ++ (link - 1) ∷ first.0))
              (omega (arith, ap (λ place. place.skip) set, some))
              (skipped-to at'' is.between (link - 1) first.0
              (all-weaker (λ q. (at q).state ≡ 2) (λ q. (at'' q).state ≡ 2) is.between
              (λ q is_q. kept'' q (states q ∙ is_q)) is.searched)
              (kept'' (link - 1) searched)),
        )
      ]

      skips-run : IsRun at walk.above run → SkipsSearched at'' order
      skips-run is =
          let from : List ℕ = is.between ++ (link - 1) ∷ first.0 in
          let linked = subst (λ xs. IsLinked (λ q. (at q).next) 1 xs) (run-order is) walk.linked in
          let still : (q : ℕ) → q ≢ run - 1 → (at'' q).skip ≡ (at' q).skip =
          λ q not. ap (λ place. place.skip) (goes.others q (λ e. not (omega (arith, e)))) in
          subst (SkipsSearched at'') (sym (run-order is))
          (skips-at at' at'' is.before (run - 1) from (all-still (is.before ++ (run - 1) ∷ from))
          (all-weaker (λ q. q ≢ run - 1) (λ q. (at'' q).skip ≡ (at' q).skip) is.before still
          (apart-first (λ q. (at q).next) 1 is.before (run - 1) from linked))
          (all-weaker (λ q. q ≢ run - 1) (λ q. (at'' q).skip ≡ (at' q).skip) from still
          (apart-rest (λ q. (at q).next) 1 is.before (run - 1) from linked))
          (first-skips is) (subst (SkipsSearched at') (run-order is) walk.skips))

      skips'' : SkipsSearched at'' order
      skips'' = elim walk.runs [
        | inl none ↦ skips-kept at' at'' order (all-still order) (all-each (λ q. (at'' q).skip ≡ (at' q).skip) order
            (λ q one. ap (λ place. place.skip) (goes.others q (λ e. absurd (omega (arith, e, none)))))) walk.skips
        | inr is ↦ skips-run is
      ]

      -- the run goes on with this place, and with those that it skips
      run-on : (gap : List ℕ) → AllByRecursion (λ q. (at q).state ≡ 2) gap →
          IsRun at (walk.above ++ (link - 1) ∷ gap) run'
      run-on gap searched_gap = elim walk.runs [
        | inl none ↦ subst (IsRun at (walk.above ++ (link - 1) ∷ gap)) (sym (goes.begins none)) (record {
          before = walk.above;
          between = gap;
          are = refl;
          some = some;
          first = here;
          searched = searched_gap;
        })
        | inr is ↦ subst (IsRun at (walk.above ++ (link - 1) ∷ gap)) (sym (goes.goes_on is.some).0) (record {
          before = is.before;
          between = is.between ++ (link - 1) ∷ gap;
          are = ap (λ xs. xs ++ (link - 1) ∷ gap) is.are
              ∙ append_assoc is.before ((run - 1) ∷ is.between) ((link - 1) ∷ gap);
          some = is.some;
          first = is.first;
          searched = all-append (λ q. (at q).state ≡ 2) is.between ((link - 1) ∷ gap) is.searched (here, searched_gap);
        })
      ]

      pub seeking-more : (next : ℕ) → next ≡ onward_of (at' (link - 1)) →
          Seeking at at'' size (step + 1) next run' order
      seeking-more next is =
          let on = onward-to at at' (link - 1) first.0 states
          (same-next walk.above at at' (link - 1) (walk.same (link - 1))) first.2
          (skips-rest at' walk.above ((link - 1) ∷ first.0) (subst (SkipsSearched at') order-is walk.skips)) in
          let gap : List ℕ = on.0 in
          record {
            above = walk.above ++ (link - 1) ∷ gap;
            below = on.1;
            are = order-is ∙ ap (λ xs. walk.above ++ (link - 1) ∷ xs) on.2
                ∙ sym (append_assoc walk.above ((link - 1) ∷ gap) on.1);
            passed = all-append (λ q. (at q).state ≢ 0) walk.above ((link - 1) ∷ gap) walk.passed (
              (λ waits. absurd (omega (arith, here, waits))),
              all-weaker (λ q. (at q).state ≡ 2) (λ q. (at q).state ≢ 0) gap
                  (λ q is_q waits. absurd (omega (arith, is_q, waits))) on.3,
            );
            linked = walk.linked;
            then = subst (λ n. IsLinked (λ q. (at q).next) n on.1) (sym is) on.4;
            short = omega (arith, walk.short, ap length first.1, ap length on.2, length-append gap on.1);
            same = λ q. same-more walk.above at at'' q ((link - 1) ∷ gap) (same'' q);
            skips = skips'';
            runs = inr (run-on gap on.3);
          }

-- before the first step
pub seeking-begun : (places : List Place) (start : ℕ) (order : List ℕ) → IsBegun places start order →
    Seeking (place_at places) (place_at places) (length places) 0 start 0 order
seeking-begun places start order from = record {
  above = from.above;
  below = from.below;
  are = from.are;
  passed = from.passed;
  linked = from.linked;
  then = from.then;
  short = omega (arith, from.short);
  same = λ q. inl refl;
  skips = from.skips;
  runs = inl refl;
}
