-- What is met, one after the other.
use Rattle.std.proofs.Common.{◌≡◌, List, ℕ, [], ◌++◌, inl, inr, Option, Some, None, refl, ap, sym, ◌∙◌}
use Rattle.std.proofs.Common.{append_assoc, append-nil}
use Rattle.flow_directions.specs.Search.{Visit, signs, first_reached}
use Rattle.flow_directions.proofs.VisitSteps.{none-or-reached, signs-append, first_reached-append}
use Rattle.flow_directions.proofs.VisitSteps.{signs-append-reached, first_reached-append-reached}
use Rattle.flow_parts.specs.Meanings.{Met, met, joined, behind}

-- two pairs
pub pair : {A B : Type 0} (a c : A) (b d : B) → a ≡ c → b ≡ d → ◌≡◌ {A = A × B} (a, b) (c, d)
pair a c b d p q = ap (λ x. (x, b)) p ∙ ap (λ y. (c, y)) q

joined-nil : (text : List ℕ) (reached : Option (List ℕ)) → joined text reached ([], None) ≡ (text, reached)
joined-nil text None = ap (λ t. (t, None)) (append-nil text)
joined-nil text (Some jobs) = refl

-- nothing is met behind
pub behind-nil : (first : Met) → behind first ([], None) ≡ first
behind-nil first = joined-nil first.0 first.1

joined-assoc : (s : List ℕ) (r : Option (List ℕ)) (t : List ℕ) (q : Option (List ℕ)) (c : Met) →
    behind (joined s r (t, q)) c ≡ joined s r (joined t q c)
joined-assoc s None t None c = ap (λ x. (x, c.1)) (append_assoc s t c.0)
joined-assoc s None t (Some jobs) c = refl
joined-assoc s (Some jobs) t q c = refl

-- three, one after the other
pub behind-assoc : (a b c : Met) → behind (behind a b) c ≡ behind a (behind b c)
behind-assoc a b c = joined-assoc a.0 a.1 b.0 b.1 c

-- what two lists of visits meet
pub met-append : (xs ys : List Visit) → met (xs ++ ys) ≡ behind (met xs) (met ys)
met-append xs ys = elim (none-or-reached (first_reached xs)) [
  | inl none ↦
      pair (signs (xs ++ ys)) (signs xs ++ signs ys) (first_reached (xs ++ ys)) (first_reached ys)
      (signs-append xs ys none) (first_reached-append xs ys none)
      ∙ sym (ap (λ r. joined (signs xs) r (met ys)) none)
  | inr found ↦
      pair (signs (xs ++ ys)) (signs xs) (first_reached (xs ++ ys)) (Some found.0)
      (signs-append-reached xs ys found.0 found.1) (first_reached-append-reached xs ys found.0 found.1)
      ∙ sym (ap (λ r. joined (signs xs) r (met ys)) found.1)
]
