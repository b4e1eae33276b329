-- Lists over the places and the machines.
use Rattle.std.proofs.Common.{◌≡◌, ◌∙◌, ℕ, ◌+◌, ◌-◌, ◌≤◌, List, [], ◌∷◌, ◌++◌, map, ap, sym}
use Rattle.std.proofs.Common.{append_assoc}
use Rattle.std.specs.List.{flat_map}
use Rattle.std.proofs.lemmas.List.{map_push, append-nil}
use Rattle.std.proofs.lemmas.List.Concat.{flat_map-append}
use Rattle.flow_shop.specs.Shop.{numbers}
use Rattle.flow_shop.proofs.Ranges.{numbers-step}

-- one more machine
pub map-more : {X : Type 0} (f : ℕ → X) (old items : List X) (x : X) (k : ℕ) → 1 ≤ k → x ≡ f k →
    items ≡ old ++ map f (numbers 1 (k - 1)) → items ++ x ∷ [] ≡ old ++ map f (numbers 1 (k + 1 - 1))
map-more f old items x k from value is =
    ap (λ xs. xs ++ x ∷ []) is ∙ append_assoc old (map f (numbers 1 (k - 1))) (x ∷ [])
    ∙ ap (λ y. old ++ (map f (numbers 1 (k - 1)) ++ y ∷ [])) value
    ∙ ap (λ xs. old ++ xs) (sym (ap (map f) (numbers-step k from) ∙ map_push f (numbers 1 (k - 1)) k))

-- one more place
pub flat_map-more : {X : Type 0} (f : ℕ → List X) (items new : List X) (k : ℕ) → 1 ≤ k →
    items ≡ flat_map f (numbers 1 (k - 1)) → new ≡ items ++ f k → new ≡ flat_map f (numbers 1 (k + 1 - 1))
flat_map-more f items new k from is more =
    more ∙ ap (λ xs. xs ++ f k) is ∙ ap (λ xs. flat_map f (numbers 1 (k - 1)) ++ xs) (sym (append-nil (f k)))
    ∙ sym (ap (flat_map f) (numbers-step k from) ∙ flat_map-append f (numbers 1 (k - 1)) (k ∷ []))
