-- Levels: the lists to which they lead, and what holds of each of them.
use Rattle.std.proofs.Common.{◌≡◌, ℕ, suc, ◌+◌, ◌-◌, ◌<◌, ◌≤◌, List, [], ◌∷◌, ◌++◌, length, refl, ap, sym, ◌∙◌}
use Rattle.std.proofs.Common.{subst, arith}
use Rattle.flow_shop.specs.Directions.{first_with, last_with}
use Rattle.flow_nodes.proofs.KeptNodes.{lengths}
use Rattle.flow_directions.specs.internal.Levels.{AreLevels, AreNested, first_of, first_top, last_of}
use Rattle.flow_directions.specs.declared.level.Level.{Level}

-- one more level

pub first-push : (first : List ℕ) (levels : List Level) (level : Level) →
    first_of first (levels ++ level ∷ []) ≡ first_with level.end (first_of first levels) level.job
first-push first [] level = refl
first-push first (l ∷ ls) level = first-push (first_with l.end first l.job) ls level

pub last-push : (last : List ℕ) (levels : List Level) (level : Level) →
    last_of last (levels ++ level ∷ []) ≡ last_with level.end (last_of last levels) level.job
last-push last [] level = refl
last-push last (l ∷ ls) level = last-push (last_with l.end last l.job) ls level

-- how many jobs the lists have
pub levels-count : (first last : List ℕ) (levels : List Level) →
    length (first_of first levels) + length (last_of last levels) ≡ length first + length last + length levels
levels-count first last [] = omega arith
levels-count first last (l ∷ ls) =
    omega (
      arith,
      levels-count (first_with l.end first l.job) (last_with l.end last l.job) ls,
      lengths l.end first last l.job,
    )

module _ (P : ℕ → List ℕ → List ℕ → Level → Type 0) where
  pub levels-push : (left : ℕ) (first last : List ℕ) (levels : List Level) (level : Level) →
      AreLevels P left first last levels →
      P (left - length levels) (first_of first levels) (last_of last levels) level →
      AreLevels P left first last (levels ++ level ∷ [])
  levels-push left first last [] level are is =
      let e : left - 0 ≡ left = omega arith in
      (subst (λ n. P n first last level) e is, tt)
  levels-push left first last (l ∷ ls) level are is =
      let e : left - suc (length ls) ≡ left - 1 - length ls = omega arith in (
        are.0,
        levels-push (left - 1) (first_with l.end first l.job) (last_with l.end last l.job) ls level are.1
            (subst (λ n. P n (first_of (first_with l.end first l.job) ls) (last_of (last_with l.end last l.job) ls)
            level) e is),
      )

  pub levels-pop : (left : ℕ) (first last : List ℕ) (levels : List Level) (level : Level) →
      AreLevels P left first last (levels ++ level ∷ []) →
      AreLevels P left first last levels
      × P (left - length levels) (first_of first levels) (last_of last levels) level
  levels-pop left first last [] level are =
      let e : left ≡ left - 0 = omega arith in
      (tt, subst (λ n. P n first last level) e are.0)
  levels-pop left first last (l ∷ ls) level are =
      let e : left - 1 - length ls ≡ left - suc (length ls) = omega arith in
      let rest = levels-pop (left - 1) (first_with l.end first l.job) (last_with l.end last l.job) ls level are.1 in (
        (are.0, rest.0),
        subst (λ n. P n (first_of (first_with l.end first l.job) ls) (last_of (last_with l.end last l.job) ls) level) e
            rest.1,
      )

-- levels that are nested
pub top-least : (levels : List Level) (top : ℕ) → AreNested levels top → first_top levels top ≤ top
top-least [] top are = omega arith
top-least (l ∷ ls) top are = omega (arith, are.0, top-least ls top are.1)

top-push : (levels : List Level) (level : Level) (top : ℕ) →
    first_top (levels ++ level ∷ []) top ≡ first_top levels level.top
top-push [] level top = refl
top-push (l ∷ ls) level top = refl

pub nested-push : (levels : List Level) (level : Level) (top : ℕ) → AreNested levels level.top → level.top ≤ top →
    AreNested (levels ++ level ∷ []) top
nested-push [] level top are low = (low, tt)
nested-push (l ∷ ls) level top are low = (
  omega (arith, are.0, top-push ls level top),
  nested-push ls level top are.1 low,
)

pub nested-pop : (levels : List Level) (level : Level) (top : ℕ) → AreNested (levels ++ level ∷ []) top →
    AreNested levels level.top × (level.top ≤ top)
nested-pop [] level top are = (tt, are.0)
nested-pop (l ∷ ls) level top are =
    let rest = nested-pop ls level top are.1 in
    ((omega (arith, are.0, top-push ls level top), rest.0), rest.1)

-- what holds of each level by some nodes and packs holds by others
pub levels-map : (P Q : ℕ → List ℕ → List ℕ → Level → Type 0) (top left : ℕ) (first last : List ℕ)
    (levels : List Level) →
    ((more : ℕ) (begin behind : List ℕ) (level : Level) → left < more + length levels → more ≤ left →
    level.top ≤ top → P more begin behind level → Q more begin behind level) → AreNested levels top →
    AreLevels P left first last levels → AreLevels Q left first last levels
levels-map P Q top left first last [] each nested are = tt
levels-map P Q top left first last (l ∷ ls) each nested are = (
  each left first last l (omega arith) (omega arith) (omega (arith, nested.0, top-least ls top nested.1)) are.0,
  levels-map P Q top (left - 1) (first_with l.end first l.job) (last_with l.end last l.job) ls
      (λ more begin behind level low high. each more begin behind level (omega (arith, low)) (omega (arith, high)))
      nested.1 are.1,
)

-- a fact about the lists to which levels lead, where the last of them is parted
pub lists-pop : (P : List ℕ → List ℕ → Type 0) (first last : List ℕ) (levels rest : List Level) (level : Level) →
    levels ≡ rest ++ level ∷ [] → P (first_of first levels) (last_of last levels) →
    P (first_with level.end (first_of first rest) level.job) (last_with level.end (last_of last rest) level.job)
lists-pop P first last levels rest level is holds =
    subst (P (first_with level.end (first_of first rest) level.job)) (ap (last_of last) is ∙ last-push last rest level)
    (subst (λ f. P f (last_of last levels)) (ap (first_of first) is ∙ first-push first rest level) holds)

-- and where one more is put behind them
pub lists-push : (P : List ℕ → List ℕ → Type 0) (first last : List ℕ) (levels : List Level) (level : Level) →
    P (first_with level.end (first_of first levels) level.job) (last_with level.end (last_of last levels) level.job) →
    P (first_of first (levels ++ level ∷ [])) (last_of last (levels ++ level ∷ []))
lists-push P first last levels level holds =
    subst (P (first_of first (levels ++ level ∷ []))) (sym (last-push last levels level))
    (subst (λ f. P f (last_with level.end (last_of last levels) level.job)) (sym (first-push first levels level)) holds)
