-- What the first prefixes come to, one by one.
use Rattle.std.proofs.Common.{◌≡◌, ℕ, zero, suc, ◌+◌, ◌-◌, ◌<◌, ◌≤◌, Bool, true, false, cond, not, ◌&&◌, nat_lt, nat_le}
use Rattle.std.proofs.Common.{List, [], ◌∷◌, ◌++◌, Option, Some, None, length, map, take, slice_index_or, Vec, Global}
use Rattle.std.proofs.Common.{refl, ap, sym, subst, ◌∙◌, inl, inr, arith, unwrap_or}
use Rattle.std.specs.List.{flat_map, prefix_len, AllByRecursion}
use Rattle.std.specs.Option.{option_map, option_to_list}
use Rattle.std.proofs.lemmas.List.{append-nil, take_all, take_more, length-map, get_or-map, map_push}
use Rattle.std.proofs.lemmas.List.Concat.{flat_map-append}
use Rattle.std.proofs.lemmas.List.Folds.{list_all-append}
use Rattle.std.proofs.lemmas.Bool.{cond-true, cond-false, cases_Bool, cases_lt, and_parts, leb-true, le-leb, lt-leb}
use Rattle.std.proofs.lemmas.Bool.{lt-ltb, le-ltb}
use Rattle.std.proofs.Math.Bool.{and-true}
use Rattle.flow_shop.specs.Bound.{bound_of}
use Rattle.flow_shop.specs.Paths.{span}
use Rattle.flow_shop.specs.Sequences.{IsSequence, IsLeastMakespan}
use Rattle.flow_search.specs.Search.{Solution, tree, best}
use Rattle.flow_search.specs.Plans.{Planned, IsPlan, prefixes_of, prefix_of, tree_of, best_of, trees_of, verdict_of}
use Rattle.flow_search.specs.Outcomes.{IsLawful, AreLawful, IsDone, solution_of, first_over_budget}
use Rattle.flow_search.specs.Verdicts.{IsVerdict, IsLeast, refusal, first_refusal}
use Rattle.flow_search.specs.internal.Tally.{IsTally, undercuts}
use Rattle.flow_search.specs.declared.outcome.Best.{Best}
use Rattle.flow_search.specs.declared.outcome.Outcome.{Outcome}
use Rattle.flow_search.specs.declared.outcome.Outcome.TheVariants.{Done, NoMemory, NoPrefix}
use Rattle.flow_search.specs.declared.outcome.Outcome.TheVariants as outcome
use Rattle.flow_search.specs.declared.tally.Tally.{Tally}
use Rattle.flow_search.specs.declared.verdict.Verdict.{Verdict}
use Rattle.flow_search.specs.declared.verdict.RunFault.{RunFault}
use Rattle.flow_search.specs.declared.verdict.RunFault.TheVariants.{OverBudget}
use Rattle.flow_search.proofs.BestOf.{first, none_under}
use Rattle.flow_search.proofs.Lists.{all-append}
use Rattle.flow_search.proofs.LeastVerdict.{verdict_is_least}

-- of two that may be there the lower one, on ties the earlier
abbrev pub lower : Option Solution → Option Solution → Option Solution
lower None next = next
lower (Some f) None = Some f
lower (Some f) (Some g) = cond (nat_lt g.value f.value) (Some g) (Some f)

-- the first least of a list is no lower than what bounds the list
first-bounded : (v : ℕ) (fs : List Solution) (g : Solution) → none_under v fs ≡ true → first fs ≡ Some g → v ≤ g.value
first-bounded v [] g all e = let none : None ≡ Some g = e in absurd (cc)
first-bounded v (f ∷ fs) g all e =
    let parts = and_parts (nat_le v f.value) (none_under v fs) all in
    elim (cases_Bool (none_under f.value fs)) [
      | inl low ↦
          let is : Some f ≡ Some g = sym (cond-true (none_under f.value fs) (Some f) (first fs) low) ∙ e in
          let same : f ≡ g = cc in
          subst (λ h. v ≤ h.value) same (leb-true v f.value parts.0)
      | inr high ↦ first-bounded v fs g parts.1 (sym (cond-false (none_under f.value fs) (Some f) (first fs) high) ∙ e)
    ]

-- a lower one at the end wins
lower-end : (v : ℕ) (fs : List Solution) (g : Solution) (o : Option Solution) → none_under v fs ≡ true → g.value < v →
    first fs ≡ o → lower o (Some g) ≡ Some g
lower-end v fs g None all below e = refl
lower-end v fs g (Some f) all below e =
    let low : v ≤ f.value = first-bounded v fs f all e in
    cond-true (nat_lt g.value f.value) (Some g) (Some f) (lt-ltb g.value f.value (omega arith))

-- one more at the end
pub first-push : (fs : List Solution) (g : Solution) → first (fs ++ g ∷ []) ≡ lower (first fs) (Some g)
first-push [] g = refl
first-push (f ∷ fs) g =
    let ih = first-push fs g in
    let test : none_under f.value (fs ++ g ∷ []) ≡ (none_under f.value fs && nat_le f.value g.value) =
    list_all-append (λ h. nat_le f.value h.value) fs (g ∷ [])
    ∙ ap (λ b. none_under f.value fs && b) (and-true (nat_le f.value g.value)) in
    let rest : Option Solution = first (fs ++ g ∷ []) in
    elim (cases_Bool (none_under f.value fs)) [
      | inl all ↦
          let here : first (f ∷ fs) ≡ Some f = cond-true (none_under f.value fs) (Some f) (first fs) all in
          elim (cases_lt g.value f.value) [
            | inl below ↦
                let no : none_under f.value (fs ++ g ∷ []) ≡ false = test ∙ ap (λ b. b && nat_le f.value g.value) all
                ∙ lt-leb f.value g.value below in
                cond-false (none_under f.value (fs ++ g ∷ [])) (Some f) rest no
                ∙ ih
                ∙ lower-end f.value fs g (first fs) all below refl
                ∙ sym (ap (λ o. lower o (Some g)) here
                ∙ cond-true (nat_lt g.value f.value) (Some g) (Some f) (lt-ltb g.value f.value below))
            | inr above ↦
                let yes : none_under f.value (fs ++ g ∷ []) ≡ true = test ∙ ap (λ b. b && nat_le f.value g.value) all
                ∙ le-leb f.value g.value above in
                cond-true (none_under f.value (fs ++ g ∷ [])) (Some f) rest yes
                ∙ sym (ap (λ o. lower o (Some g)) here
                ∙ cond-false (nat_lt g.value f.value) (Some g) (Some f) (le-ltb g.value f.value above))
          ]
      | inr some ↦
          let no : none_under f.value (fs ++ g ∷ []) ≡ false = test ∙ ap (λ b. b && nat_le f.value g.value) some in
          cond-false (none_under f.value (fs ++ g ∷ [])) (Some f) rest no
          ∙ ih
          ∙ sym (ap (λ o. lower o (Some g)) (cond-false (none_under f.value fs) (Some f) (first fs) some))
    ]

lower-none : (o : Option Solution) → lower o None ≡ o
lower-none None = refl
lower-none (Some f) = refl

pub first-more : (fs : List Solution) (o : Option Solution) → first (fs ++ option_to_list o) ≡ lower (first fs) o
first-more fs None = ap first (append-nil fs) ∙ sym (lower-none (first fs))
first-more fs (Some g) = first-push fs g

-- the bests of the first prefixes
abbrev pub bests : Planned → ℕ → List Solution
bests plan count = flat_map (λ prefix. option_to_list (best plan.shop plan.start.value prefix)) (take count
    (prefixes_of plan))

pub bests-more : (plan : Planned) (number : ℕ) → number < length (prefixes_of plan) →
    first (bests plan (number + 1)) ≡ lower (first (bests plan number)) (best_of plan number)
bests-more plan number h =
    let f : List ℕ → List Solution = λ prefix. option_to_list (best plan.shop plan.start.value prefix) in
    let more : bests plan (number + 1) ≡ bests plan number ++ option_to_list (best_of plan number) =
    ap (flat_map f) (take_more (prefixes_of plan) number [] h)
    ∙ flat_map-append f (take number (prefixes_of plan)) (prefix_of plan number ∷ [])
    ∙ ap (λ fs. bests plan number ++ fs) (append-nil (option_to_list (best_of plan number))) in
    ap first more ∙ first-more (bests plan number) (best_of plan number)

pub trees-count : (plan : Planned) → length (trees_of plan) ≡ length (prefixes_of plan)
trees-count plan = length-map (prefixes_of plan) (tree plan.shop (bound_of plan.options.version) plan.start.value)

pub tree-at : (plan : Planned) (number : ℕ) → number < length (prefixes_of plan) →
    slice_index_or (trees_of plan) number [] ≡ tree_of plan number
tree-at plan number h = get_or-map (tree plan.shop (bound_of plan.options.version) plan.start.value) (prefixes_of
    plan) number [] [] h

pub trees-more : (plan : Planned) (number : ℕ) → number < length (prefixes_of plan) →
    take (number + 1) (trees_of plan) ≡ take number (trees_of plan) ++ tree_of plan number ∷ []
trees-more plan number h =
    let low : number < length (trees_of plan) = omega (arith, h, trees-count plan) in
    take_more (trees_of plan) number [] low ∙ ap (λ t. take number (trees_of plan) ++ t ∷ []) (tree-at plan number h)

pub bests-all : (plan : Planned) → bests plan (length (prefixes_of plan))
    ≡ flat_map (λ prefix. option_to_list (best plan.shop plan.start.value prefix)) (prefixes_of plan)
bests-all plan = ap (flat_map (λ prefix. option_to_list (best plan.shop plan.start.value prefix))) (take_all
    (length (prefixes_of plan)) (prefixes_of plan) (omega arith))

-- the first trees of a plan are within the budget
abbrev pub AreWithin : Planned → ℕ → Type 0
AreWithin plan count = AllByRecursion (λ text. length text ≤ plan.options.budget) (take count (trees_of plan))

pub within-more : (plan : Planned) (number : ℕ) → number < length (prefixes_of plan) →
    length (tree_of plan number) ≤ plan.options.budget → AreWithin plan number → AreWithin plan (number + 1)
within-more plan number h fits w =
    subst (AllByRecursion (λ text. length text ≤ plan.options.budget)) (sym (trees-more plan number h))
    (all-append (λ text. length text ≤ plan.options.budget) (take number (trees_of plan)) (tree_of plan number
    ∷ []) w (fits, tt))

-- where the first text beyond a budget stands
over-place : (budget : ℕ) (texts : List (List ℕ)) (i : ℕ) → i < length texts →
    AllByRecursion (λ text. length text ≤ budget) (take i texts) →
    budget < length (slice_index_or texts i []) → prefix_len (λ text. not (nat_lt budget (length text))) texts ≡ i
over-place budget [] i h w over = absurd (omega arith)
over-place budget (t ∷ ts) zero h w over =
    let test : not (nat_lt budget (length t)) ≡ false = ap not (lt-ltb budget (length t) over) in
    cond-false (not (nat_lt budget (length t))) (1 + prefix_len (λ text. not (nat_lt budget (length text))) ts) 0 test
over-place budget (t ∷ ts) (suc i) h w over =
    let test : not (nat_lt budget (length t)) ≡ true = ap not (le-ltb budget (length t) w.0) in
    let rest = over-place budget ts i (omega arith) w.1 over in
    cond-true (not (nat_lt budget (length t))) (1 + prefix_len (λ text. not (nat_lt budget (length text))) ts) 0 test
    ∙ omega (arith, rest)

none-over : (budget : ℕ) (texts : List (List ℕ)) → AllByRecursion (λ text. length text ≤ budget) texts →
    prefix_len (λ text. not (nat_lt budget (length text))) texts ≡ length texts
none-over budget [] w = refl
none-over budget (t ∷ ts) w =
    let test : not (nat_lt budget (length t)) ≡ true = ap not (le-ltb budget (length t) w.0) in
    let rest = none-over budget ts w.1 in
    cond-true (not (nat_lt budget (length t))) (1 + prefix_len (λ text. not (nat_lt budget (length text))) ts) 0 test
    ∙ omega (arith, rest)

pub first-over : (plan : Planned) (number : ℕ) → number < length (prefixes_of plan) → AreWithin plan number →
    plan.options.budget < length (tree_of plan number) →
    first_over_budget plan ≡ Some number
first-over plan number h w over =
    let texts : List (List ℕ) = trees_of plan in
    let low : number < length texts = omega (arith, h, trees-count plan) in
    let longer : plan.options.budget < length (slice_index_or texts number []) =
    subst (λ t. plan.options.budget < length t) (sym (tree-at plan number h)) over in
    let place = over-place plan.options.budget texts number low w longer in
    ap (λ k. cond (nat_lt k (length texts)) (Some k) None) place
    ∙ cond-true (nat_lt number (length texts)) (Some number) None (lt-ltb number (length texts) low)

pub no-over : (plan : Planned) → AreWithin plan (length (prefixes_of plan)) → first_over_budget plan ≡ None
no-over plan w =
    let texts : List (List ℕ) = trees_of plan in
    let whole : AllByRecursion (λ text. length text ≤ plan.options.budget) texts =
    subst (AllByRecursion (λ text. length text ≤ plan.options.budget)) (ap (λ k. take k texts) (sym (trees-count plan))
    ∙ take_all (length texts) texts (omega arith)) w in
    let place = none-over plan.options.budget texts whole in
    let past : nat_lt (length texts) (length texts) ≡ false = le-ltb (length texts) (length texts) (omega arith) in
    ap (λ k. cond (nat_lt k (length texts)) (Some k) None) place
    ∙ cond-false (nat_lt (length texts) (length texts)) (Some (length texts)) None past

-- Tallies.

lower-is : (next least : Option Best) → option_map solution_of (cond (undercuts next least) next least)
    ≡ lower (option_map solution_of least) (option_map solution_of next)
lower-is None None = refl
lower-is None (Some least) = refl
lower-is (Some next) None = refl
lower-is (Some next) (Some least) = pick (nat_lt next.value least.value)
  where
    pick : (b : Bool) → option_map solution_of (cond b (Some next) (Some least))
        ≡ cond b (Some (solution_of next)) (Some (solution_of least))
    pick true = refl
    pick false = refl

pub tally-more : (plan : Planned) (number : ℕ) (old new : Tally) (best : Option Best) (text : Vec ℕ Global) →
    number < length (prefixes_of plan) → IsTally plan number old →
    IsLawful plan number (Done best text) → new.best ≡ cond (undercuts best old.best) best old.best →
    new.trees.items ≡ old.trees.items ++ text ∷ [] → IsTally plan (number + 1) new
tally-more plan number old new best text h is lawful best_is trees_are = record {
  trees =
      ap (map (λ tree. tree.items)) trees_are
      ∙ map_push (λ tree. tree.items) old.trees.items text
      ∙ ap (λ xs. xs ++ text.items ∷ []) is.trees
      ∙ ap (λ t. take number (trees_of plan) ++ t ∷ []) lawful.1
      ∙ sym (trees-more plan number h);
  within = within-more plan number h (subst (λ t. length t ≤ plan.options.budget) lawful.1 lawful.2) is.within;
  best =
      ap (option_map solution_of) best_is
      ∙ lower-is best old.best
      ∙ ap (λ o. lower o (option_map solution_of best)) is.best
      ∙ ap (lower (first (bests plan number))) lawful.0
      ∙ sym (bests-more plan number h);
}

-- the first refusal among lawful outcomes of the first prefixes, of which so many more follow
pub record Refuses (plan : Planned) (more : ℕ) (refused : Option RunFault) : Type 0 where
  pub over : (number : ℕ) → refused ≡ Some (OverBudget number) → first_over_budget plan ≡ Some number
  pub none : more ≡ 0 → refused ≡ None → first_over_budget plan ≡ None

abbrev LawfulFrom : Planned → ℕ → List Outcome → Type 0
LawfulFrom plan number outcomes = (i : ℕ) (other : Outcome) → i < length outcomes →
    IsLawful plan (number + i) (slice_index_or outcomes i other)

refusal-from : (plan : Planned) (number more : ℕ) (outcomes : List Outcome) →
    number + length outcomes + more ≡ length (prefixes_of plan) → LawfulFrom plan number outcomes →
    AreWithin plan number → Refuses plan more (first_refusal number outcomes)
refusal-from plan number more [] size lawful w =
    record {
      over = λ k e. absurd (cc);
      none = λ zero e. let all : number ≡ length (prefixes_of plan) = omega (arith, size, zero) in
          no-over plan (subst (AreWithin plan) all w);
    }
refusal-from plan number more (o ∷ os) size lawful w =
    let low : number < length (prefixes_of plan) = omega arith in
    let here : IsLawful plan (number + 0) o = lawful 0 o (omega arith) in
    let zero_is : number + 0 ≡ number = omega arith in
    let rest : LawfulFrom plan (number + 1) os = λ i other h.
    let place : number + suc i ≡ number + 1 + i = omega arith in
    subst (λ k. IsLawful plan k (slice_index_or os i other)) place (lawful (suc i) other (omega arith)) in
    go o (subst (λ k. IsLawful plan k o) zero_is here) low
    (λ within. refusal-from plan (number + 1) more os (omega arith) rest within)
  where
    go : (o : Outcome) → IsLawful plan number o → number < length (prefixes_of plan) →
        (AreWithin plan (number + 1) → Refuses plan more (first_refusal (number + 1) os)) →
        Refuses plan more (first_refusal number (o ∷ os))
    go (Done best text) here low rest =
        rest (within-more plan number low (subst (λ t. length t ≤ plan.options.budget) here.1 here.2) w)
    go outcome.OverBudget here low rest =
        record {
          over = λ k e. let same : number ≡ k = cc in first-over plan number low w here
              ∙ ap (λ k. Some k) same;
          none = λ zero e. absurd (cc);
        }
    go NoMemory here low rest = record { over = λ k e. absurd (cc); none = λ zero e. absurd (cc) }
    go NoPrefix here low rest = absurd here

pub refusals : (plan : Planned) (outcomes : List Outcome) → length outcomes ≤ length (prefixes_of plan) →
    AreLawful plan outcomes → Refuses plan (length (prefixes_of plan) - length outcomes) (first_refusal 0 outcomes)
refusals plan outcomes few lawful =
    refusal-from plan 0 (length (prefixes_of plan) - length outcomes) outcomes (omega (arith, few)) (λ i other h.
    let same : i ≡ 0 + i = omega arith in
    subst (λ k. IsLawful plan k (slice_index_or outcomes i other)) same (lawful i other h)) tt

-- a lawful outcome with the fault that its tree is longer than the budget
pub refused-over : (plan : Planned) (number k : ℕ) (o : Outcome) → IsLawful plan number o →
    refusal number o ≡ Some (OverBudget k) → (plan.options.budget < length (tree_of plan number)) × (number ≡ k)
refused-over plan number k (Done best text) here e = absurd (cc)
refused-over plan number k outcome.OverBudget here e = let same : number ≡ k = cc in (here, same)
refused-over plan number k NoMemory here e = absurd (cc)
refused-over plan number k NoPrefix here e = absurd here

-- an outcome that refuses nothing is done
pub refuses-nothing : (number : ℕ) (o : Outcome) → refusal number o ≡ None → IsDone o
refuses-nothing number (Done best text) e = tt
refuses-nothing number outcome.OverBudget e = absurd (cc)
refuses-nothing number NoMemory e = absurd (cc)
refuses-nothing number NoPrefix e = absurd (cc)

-- outcomes that refuse nothing are all done
pub done-at : (number : ℕ) (outcomes : List Outcome) (i : ℕ) (other : Outcome) → first_refusal number outcomes ≡ None →
    i < length outcomes → IsDone (slice_index_or outcomes i other)
done-at number [] i other e h = absurd (omega arith)
done-at number (o ∷ os) zero other e h = go o e
  where
    go : (o : Outcome) → first_refusal number (o ∷ os) ≡ None → IsDone o
    go (Done best text) e = tt
    go outcome.OverBudget e = absurd (cc)
    go NoMemory e = absurd (cc)
    go NoPrefix e = absurd (cc)
done-at number (o ∷ os) (suc i) other e h = done-at (number + 1) os i other (go o e) (omega arith)
  where
    go : (o : Outcome) → first_refusal number (o ∷ os) ≡ None → first_refusal (number + 1) os ≡ None
    go (Done best text) e = e
    go outcome.OverBudget e = absurd (cc)
    go NoMemory e = absurd (cc)
    go NoPrefix e = absurd (cc)

-- A tally of all prefixes has the verdict: the least of the bests, and the start where there is none.
pub tally-verdict : (plan : Planned) (tally : Tally) (f : Solution) → IsTally plan (length (prefixes_of plan)) tally →
    f ≡ unwrap_or (option_map solution_of tally.best) plan.start →
    IsVerdict plan (record { value = f.value; sequence = f.sequence; trees = tally.trees })
tally-verdict plan tally f is e =
    let same : f ≡ verdict_of plan = e ∙ ap (λ o. unwrap_or o plan.start) (is.best ∙ ap first (bests-all plan)) in
    record {
      value = ap (λ f. f.value) same;
      sequence = ap (λ f. f.sequence) same;
      trees =
          is.trees ∙ ap (λ count. take count (trees_of plan)) (sym (trees-count plan))
          ∙ take_all (length (trees_of plan)) (trees_of plan) (omega arith);
    }

pub verdict-least : (plan : Planned) (verdict : Verdict) → IsPlan plan → IsVerdict plan verdict →
    IsLeast plan.shop verdict
verdict-least plan verdict is of =
    let law = verdict_is_least plan.shop plan.start plan.options.depth is.deep (is.is_sequence, sym is.is_span) in
    record {
      least = subst (IsLeastMakespan plan.shop) (sym of.value) law.1;
      attained = ap (span plan.shop) of.sequence ∙ law.0.1 ∙ sym of.value;
      sequence = subst (IsSequence plan.shop.jobs) (sym of.sequence) law.0.0;
    }
