-- A job that is put at an end of a node: one of its children there that are below the threshold.
use Rattle.std.proofs.Common.{◌≡◌, ◌≢◌, ℕ, ◌-◌, ◌<◌, false, List, ◌∷◌, ◌++◌, length, get_or, slice_index}
use Rattle.std.proofs.Common.{slice_index_or, ap, sym, ◌∙◌, subst, arith}
use Rattle.std.proofs.lemmas.List.{get_or_read}
use Rattle.flow_shop.specs.Shop.{Shop}
use Rattle.flow_shop.specs.Rows.{IsRow, AreRows}
use Rattle.flow_shop.specs.declared.row.Row.{Row}
use Rattle.flow_shop.specs.Sequences.{has}
use Rattle.flow_shop.specs.Directions.{first_with, last_with}
use Rattle.flow_shop.specs.declared.end.End.{End}
use Rattle.flow_shop.specs.declared.end.End.TheVariants.{Front, Back}
use Rattle.flow_nodes.specs.Nodes.{IsJob}
use Rattle.flow_nodes.specs.Groups.{child_bound}
use Rattle.flow_nodes.specs.Marks.{mark, chosen}
use Rattle.flow_nodes.specs.Packs.{HasLeft, IsPack}
use Rattle.flow_nodes.specs.Open.{AreChildren, IsOpenNode, children_at}
use Rattle.flow_nodes.specs.declared.marks.Marks.{Marks}
use Rattle.flow_nodes.specs.declared.pack.Pack.{Pack}
use Rattle.flow_nodes.specs.declared.open.OpenNode.{OpenNode}
use Rattle.flow_nodes.proofs.JobsMarked.{marked-left}
use Rattle.flow_nodes.proofs.LeftSteps.{left-parted}
use Rattle.flow_nodes.proofs.OpenSteps.{below-threshold}

-- of marks that of a place is taken away
module _ (old new : List ℕ) (place : ℕ) (is : mark new place ≡ 0)
    (others : (other : ℕ) → other ≢ place → mark new other ≡ mark old other) where
  pub cleared-apart : (at : ℕ) → mark new at ≡ 1 → at ≢ place
  cleared-apart at one same = omega (arith, ap (mark new) same, is, one)

  pub cleared-was : (at : ℕ) → mark new at ≡ 1 → mark old at ≡ 1
  cleared-was at one = sym (others at (cleared-apart at one)) ∙ one

module _ {V : Type 0} {list : V → List ℕ} {cap width : ℕ} {shop : Shop} {threshold : ℕ} {first last : List ℕ}
    {pack : Pack V} {parent : OpenNode V} (is : IsOpenNode list cap width shop threshold first last pack parent) where
  -- its children at an end
  children-are : (end : End) →
      AreChildren list cap width shop threshold end first last pack.names.items parent.left (children_at end parent)
  children-are Front = is.at_front
  children-are Back = is.at_back

  module _ (is_pack : IsPack list cap width shop pack) (end : End) (place : ℕ)
      (inside : place < length pack.names.items) (marked : mark (children_at end parent).below.words place ≡ 1) where
    abbrev job : ℕ
    job = slice_index pack.names.items place

    pub put-job : IsJob shop job
    put-job = is_pack.room.jobs place inside

    -- it was left
    pub put-was : mark parent.left.words place ≡ 1
    put-was = (children-are end).within place inside marked

    pub put-fresh : has (first ++ last) job ≡ false
    put-fresh =
        marked-left shop.jobs (first ++ last) parent.left.words pack.names.items is.has_left place inside put-was

    -- the child is below the threshold
    pub put-below : child_bound shop end first last job < threshold
    put-below =
        below-threshold list cap width shop threshold end first last pack.names.items parent.left (children_at end parent)
        (children-are end) place inside marked

    -- the row that is read is that of the job
    pub put-row : (rows : List Row) (name from : ℕ) (row : Row) → AreRows shop rows →
        name ≡ get_or pack.names.items place name → from ≡ name → row ≡ slice_index_or rows (from - 1) row →
        IsRow shop job row
    put-row rows name from row are named same read =
        let here : from - 1 ≡ job - 1 = omega (arith, same, get_or_read pack.names.items place name inside named 0) in
        subst (IsRow shop job) (sym (read ∙ ap (λ i. slice_index_or rows i row) here))
        (are.each job row put-job.0 put-job.1)

    -- the jobs left at the child, once its mark is taken away
    pub put-left : (other : End) (left : Marks) →
        ((names : List ℕ) → place < length names → mark parent.left.words place ≡ 1 →
        (before : List ℕ) × (behind : List ℕ)
        × (chosen parent.left.words names ≡ before ++ slice_index names place ∷ behind)
        × (chosen left.words names ≡ before ++ behind)) →
        HasLeft shop (first_with other first job) (last_with other last job) pack.names.items left
    put-left other left parted =
        let parts = parted pack.names.items inside put-was in
        parts.3
        ∙ sym (left-parted shop.jobs other first last job parts.0 parts.1 put-job.0 put-job.1 put-fresh
        (sym is.has_left ∙ parts.2))
