-- A stronger bound has no longer trees.
use Rattle.std.proofs.Common.{◌≡◌, ℕ, zero, suc, ◌+◌, ◌-◌, ◌≤◌, Bool, true, false, cond, not, nat_lt, nat_le, List}
use Rattle.std.proofs.Common.{[], ◌∷◌, ◌++◌, Option, Some, None, length, map, refl, ap, sym, ◌∙◌, inl, inr, arith}
use Rattle.std.proofs.Common.{length-append}
use Rattle.std.specs.List.{find, flat_map, range_with_len, position, position_or_len}
use Rattle.std.specs.Option.{option_map_or}
use Rattle.std.proofs.lemmas.Bool.{cases_Bool, cases_lt, leb-true, le-leb, lt-ltb, le-ltb}
use Rattle.std.proofs.lemmas.List.{length-map}
use Rattle.flow_shop.specs.Shop.{Shop}
use Rattle.flow_shop.specs.Sequences.{jobs_left}
use Rattle.flow_shop.specs.Bound.{Bound, IsStronger, letter, bound_at, released_bound_at}
use Rattle.flow_shop.proofs.Admissible.{released_bound_is_stronger}
use Rattle.flow_search.specs.Search.{in_force, tree_at, tree, pruning_machine}
use Rattle.flow_search.specs.Plans.{prefix_of, prefixes_of}
use Rattle.flow_search.specs.VersionLaws.{StrongerBoundsShortenTrees, SecondVersionShortensTrees}
use Rattle.flow_search.specs.VersionLaws.{SecondVersionKeepsBudget}

-- where none of some numbers passes a test, none passes a stricter one
none-stricter : (p q : ℕ → Bool) (from n : ℕ) → 1 ≤ from → ((k : ℕ) → 1 ≤ k → q k ≡ true → p k ≡ true) →
    find p (range_with_len from n) ≡ None → find q (range_with_len from n) ≡ None
none-stricter p q from zero low h none = refl
none-stricter p q from (suc n) low h none = elim (cases_Bool (p from)) [
  | inl pass ↦
      let found : Some from ≡ None =
      sym (ap (λ b. cond b (Some from) (find p (range_with_len (from + 1) n))) pass) ∙ none in
      absurd (cc)
  | inr fail ↦
      let rest : find p (range_with_len (from + 1) n) ≡ None =
      sym (ap (λ b. cond b (Some from) (find p (range_with_len (from + 1) n))) fail) ∙ none in
      let out : q from ≡ false = elim (cases_Bool (q from)) [
        | inl pass ↦ let same : true ≡ false = sym (h from low pass) ∙ fail in absurd (cc)
        | inr is ↦ is
      ] in
      ap (λ b. cond b (Some from) (find q (range_with_len (from + 1) n))) out
      ∙ none-stricter p q (from + 1) n (omega arith) h rest
]

-- the tree of a node, by the machine that prunes it
abbrev node_text : List ℕ → Option ℕ → List ℕ
node_text texts prunes = option_map_or (λ machine. letter machine ∷ []) prunes (43 ∷ texts)

texts-shorter : (f g : ℕ → List ℕ) (jobs : List ℕ) → ((job : ℕ) → length (f job) ≤ length (g job)) →
    length (flat_map f jobs) ≤ length (flat_map g jobs)
texts-shorter f g [] h = omega arith
texts-shorter f g (job ∷ jobs) h =
    omega (
      arith,
      h job,
      texts-shorter f g jobs h,
      length-append (f job) (flat_map f jobs),
      length-append (g job) (flat_map g jobs),
    )

some-text : (texts : List ℕ) (prunes : Option ℕ) → 1 ≤ length (node_text texts prunes)
some-text texts None = omega arith
some-text texts (Some machine) = omega arith

node-shorter : (texts others : List ℕ) (prunes other_prunes : Option ℕ) → length texts ≤ length others →
    (prunes ≡ None → other_prunes ≡ None) → length (node_text texts prunes) ≤ length (node_text others other_prunes)
node-shorter texts others (Some machine) other_prunes short h = some-text others other_prunes
node-shorter texts others None other_prunes short h =
    omega (arith, short, ap (λ o. length (node_text others o)) (h refl))

module _ (bound other : Bound) (stronger : IsStronger bound other) (shop : Shop) (start : ℕ) (prefix : List ℕ) where
  tree_at-shorter : (left : ℕ) (node : List ℕ) →
      length (tree_at shop bound start prefix left node) ≤ length (tree_at shop other start prefix left node)
  unfolding tree_at
  tree_at-shorter zero node = omega arith
  tree_at-shorter (suc left) node =
      node-shorter (flat_map (λ job. tree_at shop bound start prefix left (node ++ job ∷ [])) (jobs_left shop.jobs
      node))
      (flat_map (λ job. tree_at shop other start prefix left (node ++ job ∷ [])) (jobs_left shop.jobs node))
      (pruning_machine shop bound start prefix node) (pruning_machine shop other start prefix node)
      (texts-shorter (λ job. tree_at shop bound start prefix left (node ++ job ∷ []))
      (λ job. tree_at shop other start prefix left (node ++ job ∷ [])) (jobs_left shop.jobs node)
      (λ job. tree_at-shorter left (node ++ job ∷ [])))
      (none-stricter (λ machine. nat_le (in_force shop start prefix node) (bound shop node machine))
      (λ machine. nat_le (in_force shop start prefix node) (other shop node machine)) 1 (shop.machines + 1 - 1)
      (omega arith)
      (λ k low prunes. le-leb (in_force shop start prefix node) (bound shop node k)
      (omega (
        arith,
        leb-true (in_force shop start prefix node) (other shop node k) prunes,
        stronger shop node k low,
      ))))

pub stronger_bounds_shorten_trees : StrongerBoundsShortenTrees
stronger_bounds_shorten_trees bound other stronger shop start prefix =
    tree_at-shorter bound other stronger shop start prefix (shop.jobs - length prefix) prefix

pub second_version_shortens_trees : SecondVersionShortensTrees
second_version_shortens_trees plan number =
    stronger_bounds_shorten_trees released_bound_at bound_at released_bound_is_stronger plan.shop plan.start.value
    (prefix_of plan number)

-- the first text that is longer than a budget comes no earlier where each text is no longer
later-place : (budget : ℕ) (f g : List ℕ → List ℕ) (lists : List (List ℕ)) →
    ((list : List ℕ) → length (f list) ≤ length (g list)) →
    position_or_len (λ text. nat_lt budget (length text)) (map g lists)
    ≤ position_or_len (λ text. nat_lt budget (length text)) (map f lists)
later-place budget f g [] h = omega arith
later-place budget f g (list ∷ lists) h = elim (cases_lt budget (length (g list))) [
  | inl longer ↦
      let first : position_or_len (λ text. nat_lt budget (length text)) (map g (list ∷ lists)) ≡ 0 =
      ap (λ b. cond (not b) (1 + position_or_len (λ text. nat_lt budget (length text)) (map g lists)) 0)
      (lt-ltb budget (length (g list)) longer) in
      omega (arith, first)
  | inr within ↦
      let ih = later-place budget f g lists h in
      let one : position_or_len (λ text. nat_lt budget (length text)) (map g (list ∷ lists))
      ≡ 1 + position_or_len (λ text. nat_lt budget (length text)) (map g lists) =
      ap (λ b. cond (not b) (1 + position_or_len (λ text. nat_lt budget (length text)) (map g lists)) 0)
      (le-ltb budget (length (g list)) within) in
      let two : position_or_len (λ text. nat_lt budget (length text)) (map f (list ∷ lists))
      ≡ 1 + position_or_len (λ text. nat_lt budget (length text)) (map f lists) =
      ap (λ b. cond (not b) (1 + position_or_len (λ text. nat_lt budget (length text)) (map f lists)) 0)
      (le-ltb budget (length (f list)) (omega (arith, within, h list))) in
      omega (arith, one, two, ih)
]

-- none is longer than the budget
no-place : (budget : ℕ) (texts : List (List ℕ)) → position (λ text. nat_lt budget (length text)) texts ≡ None →
    length texts ≤ position_or_len (λ text. nat_lt budget (length text)) texts
no-place budget texts none =
    elim (cases_lt (position_or_len (λ text. nat_lt budget (length text)) texts) (length texts)) [
      | inl low ↦
          let at : ℕ = position_or_len (λ text. nat_lt budget (length text)) texts in
          let found : Some at ≡ None = sym (ap (λ b. cond b (Some at) None) (lt-ltb at (length texts) low)) ∙ none in
          absurd (cc)
      | inr high ↦ high
    ]

pub second_version_keeps_budget : SecondVersionKeepsBudget
second_version_keeps_budget plan none =
    let f : List ℕ → List ℕ = tree plan.shop released_bound_at plan.start.value in
    let g : List ℕ → List ℕ = tree plan.shop bound_at plan.start.value in
    let lists : List (List ℕ) = prefixes_of plan in
    let at : ℕ = position_or_len (λ text. nat_lt plan.options.budget (length text)) (map f lists) in
    let later = later-place plan.options.budget f g lists
    (stronger_bounds_shorten_trees released_bound_at bound_at released_bound_is_stronger plan.shop plan.start.value) in
    let high : length (map f lists) ≤ at =
    omega (arith, later, no-place plan.options.budget (map g lists) none, length-map lists f, length-map lists g) in
    ap (λ b. cond b (Some at) None) (le-ltb at (length (map f lists)) high)
