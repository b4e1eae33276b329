-- The lanes of the workers that ended, before those of the workers that are still to end.
use Rattle.std.proofs.Common.{◌≡◌, ℕ, List, [], ◌∷◌, ◌++◌, length, map, drop, refl, sym, ap, ◌∙◌}
use Rattle.std.proofs.Math.Seq.{drop-append_seam}
use Rattle.std.proofs.lemmas.List.{length-map}

map_push-append : {X Z : Type 0} (f : X → Z) (xs : List X) (x : X) (rest : List Z) →
    map f (xs ++ x ∷ []) ++ rest ≡ map f xs ++ f x ∷ rest
map_push-append f [] x rest = refl
map_push-append f (y ∷ xs) x rest = ap (λ l. f y ∷ l) (map_push-append f xs x rest)

-- one more worker has ended
pub rest-pushed : {X Z : Type 0} (f : X → Z) (before after : List Z) (ends front done ended : List X) (mine back : X)
    → ends ≡ front ++ mine ∷ [] → done ≡ ended ++ back ∷ [] → f back ≡ f mine
    → ((rest : List Z) → before ≡ map f front ++ rest → after ≡ map f ended ++ rest)
    → (rest : List Z) → before ≡ map f ends ++ rest → after ≡ map f done ++ rest
rest-pushed f before after ends front done ended mine back popped pushed same inner rest e =
    inner (f mine ∷ rest) (e ∙ (ap (λ l. map f l ++ rest) popped ∙ map_push-append f front mine rest))
    ∙ (ap (λ z. map f ended ++ z ∷ rest) (sym same)
    ∙ (sym (map_push-append f ended back rest) ∙ ap (λ l. map f l ++ rest) (sym pushed)))

-- no worker was started
pub rest-dropped : {X Z : Type 0} (f : X → Z) (before after : List Z) (ends cleared : List X) (first : ℕ)
    → after ≡ drop first before → first ≡ length ends → cleared ≡ []
    → (rest : List Z) → before ≡ map f ends ++ rest → after ≡ map f cleared ++ rest
rest-dropped f before after ends cleared first dropped all none rest e =
    let many : first ≡ length (map f ends) = all ∙ sym (length-map ends f) in
    dropped ∙ (ap (λ n. drop n before) many
    ∙ (ap (drop (length (map f ends))) e
    ∙ (drop-append_seam (map f ends) rest ∙ ap (λ l. map f l ++ rest) (sym none))))
