-- The jobs whose marks are set once the groups of a pack are looked at.
use Rattle.std.proofs.Common.{◌≡◌, ◌↔◌, ◌⊎◌, ℕ, ◌+◌, ◌*◌, ◌/◌, ◌%◌, ◌<◌, ◌≤◌, nat_lt, false, List, ◌++◌, length, slice_index}
use Rattle.std.proofs.Common.{slice_index_or, take, drop, refl, ap, sym, ◌∙◌, subst, inl, inr, arith}
use Rattle.std.specs.Global.{Vec}
use Rattle.std.specs.List.{filter}
use Rattle.std.proofs.lemmas.Bool.Decides.{Decides-ltb}
use Rattle.flow_shop.specs.Shop.{Shop}
use Rattle.flow_shop.specs.Sequences.{has}
use Rattle.flow_shop.specs.declared.end.End.{End}
use Rattle.flow_shop.proofs.Lists.{some-of}
use Rattle.flow_nodes.specs.Groups.{IsGroup, child_bound}
use Rattle.flow_nodes.specs.Marks.{mark}
use Rattle.flow_nodes.specs.Packs.{HasLeft, IsPack, jobs_at, left_below}
use Rattle.flow_nodes.specs.declared.marks.Marks.{Marks}
use Rattle.flow_nodes.specs.declared.pack.Pack.{Pack}
use Rattle.flow_nodes.proofs.ChosenNames.{chosen-filter}
use Rattle.flow_nodes.proofs.JobsMarked.{group-name, marked-left}

module _ {V : Type 0} (list : V → List ℕ) (cap width : ℕ) (shop : Shop) (threshold : ℕ) (end : End)
    (first last : List ℕ) (pack : Pack V) (left below : Marks) (slices : List (Vec V))
    (value : slices ≡ pack.groups.items) where
  -- they are the jobs left whose children are below the threshold
  pub jobs-left-below : IsPack list cap width shop pack → HasLeft shop first last pack.names.items left →
      ((place : ℕ) → place / 16 < length slices → mark below.words place ≡ 1 → mark left.words place ≡ 1) →
      ((jobs : List ℕ) (place : ℕ) (none : Vec V) → place / 16 < length slices →
      IsGroup list cap width shop jobs (slice_index_or slices (place / 16) none).items →
      mark left.words place ≡ 1 → has (first ++ last) (slice_index jobs (place % 16)) ≡ false →
      mark below.words place ≡ 1 ↔ (child_bound shop end first last (slice_index jobs (place % 16)) < threshold)) →
      jobs_at pack below ≡ left_below shop threshold end first last
  jobs-left-below is_pack has_left stays exact =
      let bound : ℕ → ℕ = child_bound shop end first last in
      let names = pack.names.items in
      let groups = pack.groups.items in
      chosen-filter (λ job. nat_lt (bound job) threshold) left.words below.words names
      (λ place inside.
      let group = place / 16 in
      let long : group < length groups = omega (arith, inside, is_pack.room.names) in
      let within : group < length slices = omega (arith, long, ap length value) in
      let none = some-of slices (omega (arith, within)) in
      let are = subst (λ l. IsGroup list cap width shop (take 16 (drop (group * 16) names))
      (slice_index_or l group none).items) (sym value) (is_pack.each group none long) in
      let at = group-name names group (place % 16) (omega arith) in
      let there : group * 16 + place % 16 ≡ place = omega arith in
      let named = at ∙ ap (slice_index names) there in
      let tells : mark left.words place ≡ 1 →
      mark below.words place ≡ 1 ↔ (bound (slice_index names place) < threshold) =
      λ was. subst (λ job. mark below.words place ≡ 1 ↔ (bound job < threshold)) named
      (exact (take 16 (drop (group * 16) names)) place none within are was
      (ap (has (first ++ last)) named
      ∙ marked-left shop.jobs (first ++ last) left.words names has_left place inside was)) in (
        λ marked.
            let was = stays place within marked in
            (was, (Decides-ltb (bound (slice_index names place)) threshold).1 ((tells was).0 marked)),
        λ both. (tells both.0).1 ((Decides-ltb (bound (slice_index names place)) threshold).0 both.1),
      ))
      ∙ ap (filter (λ job. nat_lt (bound job) threshold)) has_left

  -- the same, where those that are not kept of the jobs left have children at or above the threshold
  pub kept-left-below : (kept : Marks) → IsPack list cap width shop pack →
      HasLeft shop first last pack.names.items left →
      ((place : ℕ) → place / 16 < length slices → mark kept.words place ≡ 1 → mark left.words place ≡ 1) →
      ((place : ℕ) → place / 16 < length slices → mark below.words place ≡ 1 → mark kept.words place ≡ 1) →
      ((jobs : List ℕ) (place : ℕ) → place / 16 < length slices →
      jobs ≡ take 16 (drop (place / 16 * 16) pack.names.items) → mark left.words place ≡ 1 →
      has (first ++ last) (slice_index jobs (place % 16)) ≡ false →
      (mark kept.words place ≡ 1) ⊎ (threshold ≤ child_bound shop end first last (slice_index jobs (place % 16)))) →
      ((jobs : List ℕ) (place : ℕ) (none : Vec V) → place / 16 < length slices →
      IsGroup list cap width shop jobs (slice_index_or slices (place / 16) none).items →
      mark kept.words place ≡ 1 → has (first ++ last) (slice_index jobs (place % 16)) ≡ false →
      mark below.words place ≡ 1 ↔ (child_bound shop end first last (slice_index jobs (place % 16)) < threshold)) →
      jobs_at pack below ≡ left_below shop threshold end first last
  kept-left-below kept is_pack has_left kept_left below_kept rest exact =
      let bound : ℕ → ℕ = child_bound shop end first last in
      let names = pack.names.items in
      let groups = pack.groups.items in
      chosen-filter (λ job. nat_lt (bound job) threshold) left.words below.words names
      (λ place inside.
      let group = place / 16 in
      let long : group < length groups = omega (arith, inside, is_pack.room.names) in
      let within : group < length slices = omega (arith, long, ap length value) in
      let none = some-of slices (omega (arith, within)) in
      let jobs : List ℕ = take 16 (drop (group * 16) names) in
      let are = subst (λ l. IsGroup list cap width shop jobs
      (slice_index_or l group none).items) (sym value) (is_pack.each group none long) in
      let at = group-name names group (place % 16) (omega arith) in
      let there : group * 16 + place % 16 ≡ place = omega arith in
      let named : slice_index jobs (place % 16) ≡ slice_index names place = at ∙ ap (slice_index names) there in
      let fresh : mark left.words place ≡ 1 → has (first ++ last) (slice_index jobs (place % 16)) ≡ false =
      λ was. ap (has (first ++ last)) named
      ∙ marked-left shop.jobs (first ++ last) left.words names has_left place inside was in (
        λ marked.
            let stays = below_kept place within marked in
            let was = kept_left place within stays in (
              was,
              (Decides-ltb (bound (slice_index names place)) threshold).1
                  (subst (λ job. bound job < threshold) named ((exact jobs place none within are stays (fresh was)).0 marked)),
            ),
        λ both.
            let under : bound (slice_index jobs (place % 16)) < threshold =
            subst (λ job. bound job < threshold) (sym named)
            ((Decides-ltb (bound (slice_index names place)) threshold).0 both.1) in
            elim (rest jobs place within refl both.0 (fresh both.0)) [
              | inl stays ↦ (exact jobs place none within are stays (fresh both.0)).1 under
              | inr high ↦ absurd (omega (arith, high, under))
            ],
      ))
      ∙ ap (filter (λ job. nat_lt (bound job) threshold)) has_left
