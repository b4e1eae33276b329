-- The names of packs.
use Rattle.std.proofs.Common.{◌≡◌, ℕ, zero, suc, ◌<◌, List, [], ◌∷◌, length, slice_index_or, refl, ap, sym, ◌∙◌, arith}
use Rattle.flow_shop.proofs.Lists.{some-of}
use Rattle.flow_nodes.specs.declared.pack.Pack.{Pack}
use Rattle.flow_directions.specs.internal.Levels.{names_at}

module _ {V : Type 0} where
  pub names-is : (packs : List (Pack V)) (place : ℕ) (none : Pack V) → place < length packs →
      names_at packs place ≡ (slice_index_or packs place none).names.items
  names-is [] place none within = absurd (omega (arith, within))
  names-is (pack ∷ packs) zero none within = refl
  names-is (pack ∷ packs) (suc place) none within = names-is packs place none (omega (arith, within))

  -- where the pack is the same, so are its names
  pub names-same : (old new : List (Pack V)) (place : ℕ) → place < length old → length new ≡ length old →
      ((none : Pack V) → slice_index_or new place none ≡ slice_index_or old place none) →
      names_at new place ≡ names_at old place
  names-same old new place within size same =
      let none : Pack V = some-of old (omega (arith, within)) in
      names-is new place none (omega (arith, within, size))
      ∙ ap (λ p. p.names.items) (same none)
      ∙ sym (names-is old place none within)
