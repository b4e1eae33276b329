-- The weight of an end, child by child.
use Rattle.std.proofs.Common.{◌≡◌, ℕ, ◌+◌, List, ◌∷◌, sum_by, refl, ap, arith}
use Rattle.std.proofs.lemmas.List.Sums.{sum_by-cons}
use Rattle.flow_shop.specs.Shop.{Shop}
use Rattle.flow_shop.specs.Directions.{first_with, last_with}
use Rattle.flow_shop.specs.declared.end.End.{End}
use Rattle.flow_nodes.specs.Packs.{left_below}
use Rattle.flow_directions.specs.Search.{fewest_below, weight}

-- what the child that puts a job at an end adds to its weight
abbrev pub fewest_at : Shop → ℕ → End → List ℕ → List ℕ → ℕ → ℕ
fewest_at shop threshold end first last job =
    fewest_below shop threshold (first_with end first job) (last_with end last job)

module _ (shop : Shop) (threshold : ℕ) (end : End) (first last : List ℕ) where
  pub weight-is : weight shop threshold end first last
      ≡ sum_by (fewest_at shop threshold end first last) (left_below shop threshold end first last)
  unfolding weight
  weight-is = refl

  -- once a child is added
  pub weight-more : (job : ℕ) (old rest : List ℕ) (sum fewest : ℕ) → old ≡ job ∷ rest →
      fewest ≡ fewest_at shop threshold end first last job →
      sum + sum_by (fewest_at shop threshold end first last) old ≡ weight shop threshold end first last →
      sum + fewest + sum_by (fewest_at shop threshold end first last) rest ≡ weight shop threshold end first last
  weight-more job old rest sum fewest parted is before =
      omega (
        arith,
        before,
        is,
        ap (sum_by (fewest_at shop threshold end first last)) parted,
        sum_by-cons (fewest_at shop threshold end first last) job rest,
      )
