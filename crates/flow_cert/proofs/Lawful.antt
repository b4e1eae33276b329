-- The certificate of a plan is lawful.
use Rattle.std.proofs.Common.{◌≡◌, ℕ, zero, suc, ◌+◌, ◌-◌, ◌*◌, ◌^◌, ◌<◌, ◌≤◌, Bool, nat_le, List, [], ◌∷◌, ◌++◌}
use Rattle.std.proofs.Common.{Option, Some, None, length, map, refl, ap, sym, subst, ◌∙◌, inl, inr, arith}
use Rattle.std.proofs.Common.{length-append}
use Rattle.std.proofs.lemmas.List.{length-map}
use Rattle.std.specs.List.{AllZip, AllByRecursion, flat_map, filter, find, concat}
use Rattle.std.specs.Option.{option_map_or}
use Rattle.std.proofs.lemmas.List.Elements.{All-from_recursion}
use Rattle.std.proofs.lemmas.Bool.{leb-true, cases_Bool, cond-true, cond-false}
use Rattle.flow_limits.specs.Limits.{greatest_time, most_machines, most_jobs}
use Rattle.flow_shop.specs.Shop.{Shop, IsWithinLimits, numbers}
use Rattle.flow_shop.specs.Least.{least}
use Rattle.flow_shop.specs.Paths.{span}
use Rattle.flow_shop.specs.Sequences.{jobs_left, cut, IsSequence, IsLeastMakespan}
use Rattle.flow_shop.specs.Bound.{Bound, bound_of, letter}
use Rattle.flow_shop.proofs.Fronts.{completion-small}
use Rattle.flow_search.specs.Search.{comes_before, in_force, tree_at, tree, trees, sequences_from}
use Rattle.flow_search.specs.Plans.{Planned, prefixes_of, trees_of, verdict_of}
use Rattle.flow_search.specs.Verdicts.{IsVerdict}
use Rattle.flow_search.specs.declared.verdict.Verdict.{Verdict}
use Rattle.flow_limits.specs.Limits.{greatest_version}
use Rattle.flow_shop.proofs.Lists.{find-some}
use Rattle.flow_search.proofs.Lists.{all-weaken}
use Rattle.flow_search.proofs.Walk.{Fresh, IsLeft, fresh-push, jobs_left-are, extensions-are, range-all}
use Rattle.flow_search.proofs.LeastVerdict.{cut-fresh, verdict_is_least}
use Rattle.flow_check.specs.Certificate.{Covers, IsCertificate}
use Rattle.flow_check.specs.TextLines.{certificate_text}
use Rattle.flow_cert.specs.PlanCertificates.{certificate_of, text_with, PlanIsCertified, VerdictIsCertified}

concat-map : (f : ℕ → List ℕ) (xs : List ℕ) → flat_map f xs ≡ concat (map f xs)
concat-map f [] = refl
concat-map f (x ∷ xs) = ap (λ ys. f x ++ ys) (concat-map f xs)

zip-map : {A B : Type 0} (P : A → Type 0) (R : A → B → Type 0) (f : A → B) (xs : List A) → ((x : A) → P x → R x (f x)) →
    AllByRecursion P xs → AllZip R xs (map f xs)
zip-map P R f [] h k = tt
zip-map P R f (x ∷ xs) h k = (h x k.0, zip-map P R f xs h k.1)

least-above : (v u : ℕ) (ns : List ℕ) → v ≤ u → AllByRecursion (λ n. v ≤ n) ns → v ≤ least (u ∷ ns)
least-above v u [] l h = l
least-above v u (n ∷ ns) l h = let ih : v ≤ least (n ∷ ns) = least-above v n ns h.0 h.1 in omega arith

all-filter-map : (shop : Shop) (v : ℕ) (p : List ℕ → Bool) (xs : List (List ℕ)) →
    AllByRecursion (λ s. v ≤ span shop s) xs → AllByRecursion (λ n. v ≤ n) (map (span shop) (filter p xs))
all-filter-map shop v p [] h = tt
all-filter-map shop v p (x ∷ xs) h = elim (cases_Bool (p x)) [
  | inl pass ↦ subst (λ ys. AllByRecursion (λ n. v ≤ n) (map (span shop) ys)) (sym (cond-true (p x) (x
      ∷ filter p xs) (filter p xs) pass)) (h.0, all-filter-map shop v p xs h.1)
  | inr fail ↦ subst (λ ys. AllByRecursion (λ n. v ≤ n) (map (span shop) ys)) (sym (cond-false (p x) (x
      ∷ filter p xs) (filter p xs) fail)) (all-filter-map shop v p xs h.1)
]

-- the bound in force is at least what all sequences are
force-above : (shop : Shop) (v start : ℕ) (prefix node : List ℕ) → v ≤ start → Fresh shop.jobs prefix →
    length prefix ≤ shop.jobs → ((s : List ℕ) → IsSequence shop.jobs s → v ≤ span shop s) →
    v ≤ in_force shop start prefix node
unfolding in_force
force-above shop v start prefix node low f short h =
    least-above v start (map (span shop) (filter (λ jobs. comes_before jobs node) (sequences_from shop prefix))) low
    (all-filter-map shop v (λ jobs. comes_before jobs node) (sequences_from shop prefix)
    (all-weaken (IsSequence shop.jobs) (λ s. v
    ≤ span shop s) (sequences_from shop prefix) h (extensions-are shop.jobs (shop.jobs - length prefix) prefix f
    (omega arith))))

-- a tree covers what no sequence is below
covers-cases : (shop : Shop) (bound : Bound) (v start left : ℕ) (prefix node : List ℕ) →
    v ≤ in_force shop start prefix node →
    AllZip (λ job part. Covers shop bound v left (node ++ job
    ∷ []) part) (jobs_left shop.jobs node) (map (λ job. tree_at shop bound start prefix left (node ++ job
    ∷ [])) (jobs_left shop.jobs node)) →
    (o : Option ℕ) → find (λ machine. nat_le (in_force shop start prefix node) (bound shop node machine))
    (numbers 1 shop.machines) ≡ o →
    Covers shop bound v (suc left) node (option_map_or (λ machine. letter machine ∷ []) o (43
    ∷ flat_map (λ job. tree_at shop bound start prefix left (node ++ job ∷ [])) (jobs_left shop.jobs node)))
covers-cases shop bound v start left prefix node low zip (Some k) e =
    let at = find-some (λ machine. nat_le (in_force shop start prefix node) (bound shop node machine)) (λ k. (1 ≤ k)
    × (k ≤ shop.machines)) (numbers 1 shop.machines) k (range-all shop.machines) e in
    let reach = leb-true (in_force shop start prefix node) (bound shop node k) at.0 in
    inl (k, at.1.0, at.1.1, refl, omega (arith, low, reach))
covers-cases shop bound v start left prefix node low zip None e =
    inr (
      map (λ job. tree_at shop bound start prefix left (node ++ job ∷ [])) (jobs_left shop.jobs node),
      ap (λ xs. 43 ∷ xs) (concat-map (λ job. tree_at shop bound start prefix left (node ++ job
          ∷ [])) (jobs_left shop.jobs node)),
      zip,
    )

tree-covers : (shop : Shop) (bound : Bound) (v start left : ℕ) (prefix node : List ℕ) → v ≤ start →
    Fresh shop.jobs prefix →
    length prefix ≤ shop.jobs → ((s : List ℕ) → IsSequence shop.jobs s → v ≤ span shop s) →
    Fresh shop.jobs node → length node + left ≡ shop.jobs →
    Covers shop bound v left node (tree_at shop bound start prefix left node)
unfolding tree_at
tree-covers shop bound v start zero prefix node low f short h fresh whole = (
  refl,
  h node (record {
    whole = omega (arith, whole);
    each = record {
      range = All-from_recursion (λ job. (1 ≤ job)
          × (job ≤ shop.jobs)) node fresh.0;
      distinct = fresh.1;
    };
  }),
)
tree-covers shop bound v start (suc left) prefix node low f short h fresh whole =
    covers-cases shop bound v start left prefix node (force-above shop v start prefix node low f short h)
    (zip-map (IsLeft shop.jobs node) (λ job part. Covers shop bound v left (node ++ job
    ∷ []) part) (λ job. tree_at shop bound start prefix left (node ++ job ∷ [])) (jobs_left shop.jobs node)
    (λ job l. tree-covers shop bound v start left prefix (node ++ job
    ∷ []) low f short h (fresh-push shop.jobs node job fresh l) (omega (
      arith,
      whole,
      length-append node (job
          ∷ []),
    )))
    (jobs_left-are shop.jobs node))
    (find (λ machine. nat_le (in_force shop start prefix node) (bound shop node machine))
    (numbers 1 shop.machines)) refl

-- the makespan of a sequence fits a word
pub span-fits : (shop : Shop) (sequence : List ℕ) → IsWithinLimits shop → IsSequence shop.jobs sequence →
    span shop sequence < 2 ^ 64
span-fits shop sequence limits is =
    let small : span shop sequence ≤ (length sequence + shop.machines) * greatest_time =
    completion-small shop sequence shop.machines limits in
    let few : length sequence + shop.machines ≤ most_jobs + most_machines =
    omega (arith, is.whole, limits.jobs, limits.machines) in
    omega (arith, small, few)

-- the trees from a number cover each value up to it that no sequence is below
pub trees-cover : (shop : Shop) (version v start depth : ℕ) → depth ≤ shop.jobs → v ≤ start →
    ((s : List ℕ) → IsSequence shop.jobs s → v ≤ span shop s) →
    AllZip (λ prefix part. Covers shop (bound_of version) v (shop.jobs - depth) prefix part) (cut shop.jobs depth)
    (trees shop (bound_of version) start depth)
trees-cover shop version v start depth short low least =
    zip-map (λ p. Fresh shop.jobs p
    × (length p ≡ 0 + depth)) (λ prefix part. Covers shop (bound_of version) v (shop.jobs - depth) prefix part)
    (tree shop (bound_of version) start) (cut shop.jobs depth)
    (λ p h.
    let size : length p ≡ depth = omega (arith, h.1) in
    subst (λ left. Covers shop (bound_of version) v left p (tree shop (bound_of version) start p))
    (ap (λ n. shop.jobs - n) size)
    (tree-covers shop (bound_of version) v start (shop.jobs - length p) p p low h.0 (omega (arith, size)) least h.0
    (omega (arith, size))))
    (cut-fresh shop.jobs depth [] (tt, tt))

pub plan_is_certified : PlanIsCertified
plan_is_certified plan is =
    let shop = plan.shop in
    let start = plan.start in
    let depth = plan.options.depth in
    let value = (verdict_of plan).value in
    let first : 1 ≤ plan.options.version = is.option_limits.first_version in
    let last : plan.options.version ≤ greatest_version = is.option_limits.last_version in
    let short : depth ≤ shop.jobs = is.deep in
    let v = verdict_is_least shop start depth short (is.is_sequence, sym is.is_span) in
    let low : value ≤ start.value =
    subst (λ n. value ≤ n) (sym is.is_span) (v.1.least start.sequence is.is_sequence) in (
      (verdict_of plan).sequence,
      (
        plan.options.version,
        depth,
        trees_of plan,
        record {
          known = (first, omega (arith, last));
          jobs_enough = short;
          shallow = is.option_limits.depth;
          fits = subst (λ n. n < 2 ^ 64) v.0.1 (span-fits shop (verdict_of plan).sequence is.shop_limits v.0.0);
          whole = v.0.0;
          attained = v.0.1;
          covered = trees-cover shop plan.options.version value start.value depth short low v.1.least;
        },
        refl,
      ),
    )

-- the text with the verdict of a plan
pub text-of-plan : (plan : Planned) (verdict : Verdict) → IsVerdict plan verdict →
    text_with plan verdict ≡ certificate_of plan
text-of-plan plan verdict of =
    ap (λ value. certificate_text plan.shop plan.options.version plan.options.depth value verdict.sequence (map
    (λ tree. tree.items) verdict.trees.items)) of.value
    ∙ ap (λ sequence. certificate_text plan.shop plan.options.version plan.options.depth (verdict_of plan).value
    sequence (map
    (λ tree. tree.items) verdict.trees.items)) of.sequence
    ∙ ap (λ trees. certificate_text plan.shop plan.options.version plan.options.depth (verdict_of plan).value
    (verdict_of plan).sequence trees) of.trees

pub verdict_is_certified : VerdictIsCertified
verdict_is_certified plan verdict is of =
    let v = verdict_is_least plan.shop plan.start plan.options.depth is.deep (is.is_sequence, sym is.is_span) in
    record {
      each = sym (length-map verdict.trees.items (λ tree. tree.items)) ∙ ap length of.trees
          ∙ length-map (prefixes_of plan) (tree plan.shop (bound_of plan.options.version) plan.start.value);
      text = text-of-plan plan verdict of;
      lawful = subst (IsCertificate plan.shop (certificate_of plan)) (sym of.value) (plan_is_certified plan is);
      least = subst (IsLeastMakespan plan.shop) (sym of.value) v.1;
    }
