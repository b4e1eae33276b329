-- What is still to be met of some levels.
use Rattle.std.proofs.Common.{◌≡◌, ℕ, suc, ◌+◌, ◌-◌, ◌<◌, ◌≤◌, List, [], ◌∷◌, ◌++◌, length, refl, ap, ◌∙◌, arith}
use Rattle.std.specs.List.{flat_map}
use Rattle.flow_shop.specs.Shop.{Shop}
use Rattle.flow_shop.specs.Directions.{first_with, last_with}
use Rattle.flow_shop.specs.declared.end.End.{End}
use Rattle.flow_nodes.specs.Marks.{chosen}
use Rattle.flow_directions.specs.Search.{Visit, opens, reaches, child_visits}
use Rattle.flow_directions.specs.internal.Levels.{first_of, last_of, met_with, rest_met}
use Rattle.flow_directions.specs.declared.level.Level.{Level}

module _ (shop : Shop) (threshold : ℕ) where
  -- one more level
  pub met-push : (names : ℕ → List ℕ) (left : ℕ) (first last : List ℕ) (levels : List Level) (level : Level)
      (met : List Visit) →
      met_with shop threshold names left first last (levels ++ level ∷ []) met
      ≡ met_with shop threshold names left first last levels
      (met ++ rest_met shop threshold names (left - length levels) (first_of first levels) (last_of last levels) level)
  met-push names left first last [] level met =
      let e : left ≡ left - 0 = omega arith in
      ap (λ n. met ++ rest_met shop threshold names n first last level) e
  met-push names left first last (l ∷ ls) level met =
      let first2 : List ℕ = first_with l.end first l.job in
      let last2 : List ℕ = last_with l.end last l.job in
      let e : left - 1 - length ls ≡ left - suc (length ls) = omega arith in
      ap (λ v. v ++ rest_met shop threshold names left first last l)
      (met-push names (left - 1) first2 last2 ls level met
      ∙ ap (λ n. met_with shop threshold names (left - 1) first2 last2 ls
      (met ++ rest_met shop threshold names n (first_of first2 ls) (last_of last2 ls) level)) e)

  -- other names, which are the same for the levels
  pub met-same : (names others : ℕ → List ℕ) (left : ℕ) (first last : List ℕ) (levels : List Level)
      (met : List Visit) → ((n : ℕ) → left < n + length levels → n ≤ left → names n ≡ others n) →
      met_with shop threshold names left first last levels met ≡ met_with shop threshold others left first last levels met
  met-same names others left first last [] met same = refl
  met-same names others left first last (l ∷ ls) met same =
      let first2 : List ℕ = first_with l.end first l.job in
      let last2 : List ℕ = last_with l.end last l.job in
      ap (λ v. v ++ rest_met shop threshold names left first last l)
      (met-same names others (left - 1) first2 last2 ls met
      (λ n low high. same n (omega (arith, low)) (omega (arith, high))))
      ∙ ap (λ ns. met_with shop threshold others (left - 1) first2 last2 ls met
      ++ flat_map (child_visits shop threshold l.end first last) (chosen l.rest.words ns))
      (same left (omega arith) (omega arith))

  -- a node that is opened first
  pub met-opens : (names : ℕ → List ℕ) (left : ℕ) (first last : List ℕ) (levels : List Level) (end : End)
      (met : List Visit) →
      met_with shop threshold names left first last levels (opens end ∷ met)
      ≡ opens end ∷ met_with shop threshold names left first last levels met
  met-opens names left first last [] end met = refl
  met-opens names left first last (l ∷ ls) end met =
      ap (λ v. v ++ rest_met shop threshold names left first last l)
      (met-opens names (left - 1) (first_with l.end first l.job) (last_with l.end last l.job) ls end met)

  -- a sequence that is reached first
  pub met-reaches : (names : ℕ → List ℕ) (left : ℕ) (first last : List ℕ) (levels : List Level) (jobs : List ℕ)
      (met : List Visit) →
      met_with shop threshold names left first last levels (reaches jobs ∷ met)
      ≡ reaches jobs ∷ met_with shop threshold names left first last levels met
  met-reaches names left first last [] jobs met = refl
  met-reaches names left first last (l ∷ ls) jobs met =
      ap (λ v. v ++ rest_met shop threshold names left first last l)
      (met-reaches names (left - 1) (first_with l.end first l.job) (last_with l.end last l.job) ls jobs met)
