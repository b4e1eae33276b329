-- Steps of the walks.
use Rattle.std.proofs.Common.{◌≡◌, ◌≢◌, ℕ, ◌+◌, ◌-◌, ◌<◌, ◌≤◌, ◌^◌, true, false, cond, List, [], ◌∷◌}
use Rattle.std.proofs.Common.{length, refl, ap, sym, ◌∙◌, subst, arith}
use Rattle.flow_parts.specs.declared.place.Place.{Place}
use Rattle.flow_parts.specs.declared.walks.Settled.{Settled}
use Rattle.flow_parts.specs.Orders.{is_open, IsLinked, settled_in, first_open_in}
use Rattle.flow_parts.specs.internal.Walks.{IsPassed}

-- from 0 on there is no place
pub linked-none : (link : ℕ → ℕ) (start : ℕ) (xs : List ℕ) → IsLinked link start xs → start ≡ 0 → xs ≡ []
linked-none link start [] linked is = refl
linked-none link start (x ∷ xs) linked is = absurd (omega (arith, linked.0, is))

-- from another start on there is a first one
pub linked-some : (link : ℕ → ℕ) (start : ℕ) (xs : List ℕ) → IsLinked link start xs → start ≢ 0 →
    (more : List ℕ) × (xs ≡ (start - 1) ∷ more) × IsLinked link (link (start - 1)) more
linked-some link start [] linked not = absurd (not linked)
linked-some link start (x ∷ xs) linked not =
    let is : x ≡ start - 1 = omega (arith, linked.0) in
    (xs, ap (λ n. n ∷ xs) is, subst (λ n. IsLinked link (link n) xs) is linked.1)

-- a list of no length
pub none-long : (xs : List ℕ) → length xs ≤ 0 → xs ≡ []
none-long [] short = refl
none-long (x ∷ xs) short = absurd (omega (arith, short))

-- a walk over places that are not open, after so many steps of those that an array has
pub record Settling (at : ℕ → Place) (size step : ℕ) (begun now : Settled) (rest : List ℕ) : Type 0 where
  pub more : List ℕ
  pub linked : IsLinked (λ number. (at number).next) now.first_open more
  pub written : now.written + settled_in at more ≡ begun.written + settled_in at rest
  pub first_open : first_open_in at more ≡ first_open_in at rest
  pub short : length more + step ≤ size

module _ (at : ℕ → Place) (size step : ℕ) (begun now : Settled) (rest : List ℕ)
    (walk : Settling at size step begun now rest) where
  passed-nil : walk.more ≡ [] → now.first_open ≡ 0 → IsPassed at begun now rest
  passed-nil is none = record {
    written = omega (arith, walk.written, ap (settled_in at) is);
    first_open = none ∙ sym (ap (first_open_in at) is) ∙ walk.first_open;
  }

  pub settling-none : now.first_open ≡ 0 → IsPassed at begun now rest
  settling-none none =
      passed-nil (linked-none (λ number. (at number).next) now.first_open walk.more walk.linked none) none

  pub settling-end : size ≤ step → IsPassed at begun now rest
  settling-end all =
      let is : walk.more ≡ [] = none-long walk.more (omega (arith, walk.short, all)) in
      passed-nil is (subst (λ xs. IsLinked (λ number. (at number).next) now.first_open xs) is walk.linked)

  pub settling-open : now.first_open ≢ 0 → is_open (at (now.first_open - 1)) ≡ true → IsPassed at begun now rest
  settling-open some opened =
      let first = linked-some (λ number. (at number).next) now.first_open walk.more walk.linked some in
      let none : settled_in at walk.more ≡ 0 = ap (settled_in at) first.1
      ∙ ap (λ b. cond b 0 ((at (now.first_open - 1)).written + settled_in at first.0)) opened in
      let first_open : first_open_in at walk.more ≡ (now.first_open - 1) + 1 = ap (first_open_in at) first.1
      ∙ ap (λ b. cond b ((now.first_open - 1) + 1) (first_open_in at first.0)) opened in
      record {
        written = omega (arith, walk.written, none);
        first_open = omega (arith, some, first_open, walk.first_open);
      }

  pub settling-more : (next : Settled) → now.first_open ≢ 0 → is_open (at (now.first_open - 1)) ≡ false →
      begun.written + settled_in at rest < 2 ^ 64 →
      (now.written + (at (now.first_open - 1)).written < 2 ^ 64 →
      next.written ≡ now.written + (at (now.first_open - 1)).written) →
      next.first_open ≡ (at (now.first_open - 1)).next →
      Settling at size (step + 1) begun next rest
  settling-more next some done fits written is =
      let first = linked-some (λ number. (at number).next) now.first_open walk.more walk.linked some in
      let settled : settled_in at walk.more ≡ (at (now.first_open - 1)).written + settled_in at first.0 =
      ap (settled_in at) first.1
      ∙ ap (λ b. cond b 0 ((at (now.first_open - 1)).written + settled_in at first.0)) done in
      let first_open : first_open_in at walk.more ≡ first_open_in at first.0 = ap (first_open_in at) first.1
      ∙ ap (λ b. cond b ((now.first_open - 1) + 1) (first_open_in at first.0)) done in
      let sum : next.written ≡ now.written + (at (now.first_open - 1)).written =
      written (omega (arith, walk.written, settled, fits)) in
      record {
        more = first.0;
        linked = subst (λ n. IsLinked (λ number. (at number).next) n first.0) (sym is) first.2;
        written = omega (arith, walk.written, settled, sum);
        first_open = sym first_open ∙ walk.first_open;
        short = omega (arith, walk.short, ap length first.1);
      }
