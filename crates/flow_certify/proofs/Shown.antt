-- What a search from the node of two empty lists shows.
use Rattle.std.proofs.Common.{◌≡◌, ℕ, ◌<◌, List, [], None, ap, arith}
use Rattle.std.proofs.Math.Nat.{le_refl}
use Rattle.flow_shop.specs.Shop.{Shop}
use Rattle.flow_shop.specs.Sequences.{IsSequence}
use Rattle.flow_shop.specs.Ends.{end_bound}
use Rattle.flow_shop.specs.Directions.{Proves}
use Rattle.flow_shop.proofs.SequenceLemmas.{no-jobs}
use Rattle.flow_directions.specs.Search.{IsFound, directions_of, first_below, first_reached, signs}
use Rattle.flow_directions.specs.declared.found.Found.TheVariants.{Below}
use Rattle.flow_directions.proofs.SearchProves.{directions_prove}
use Rattle.flow_directions.proofs.SearchReaches.{reached_is_below}
use Rattle.flow_directions.proofs.VisitSteps.{visits-high}

-- where it reaches no sequence below a threshold, its directions prove the threshold
pub shows-bound : (shop : Shop) (threshold : ℕ) → first_below shop threshold [] [] ≡ None →
    Proves shop threshold (directions_of shop threshold [] [])
shows-bound shop threshold none = directions_prove shop threshold [] [] (no-jobs shop.jobs) none

-- below the bound of the two lists it reaches none
pub reaches-none : (shop : Shop) → first_below shop (end_bound shop [] []) [] [] ≡ None
reaches-none shop = ap first_reached (visits-high shop (end_bound shop [] []) [] [] (le_refl (end_bound shop [] [])))

-- and writes no directions
pub writes-none : (shop : Shop) → directions_of shop (end_bound shop [] []) [] [] ≡ []
writes-none shop = ap signs (visits-high shop (end_bound shop [] []) [] [] (le_refl (end_bound shop [] [])))

-- what it finds below a threshold is a sequence, and its makespan is below the threshold
pub shows-below : (shop : Shop) (threshold budget : ℕ) (sequence : List ℕ) (makespan directions : ℕ) →
    IsFound shop threshold budget [] [] (Below sequence makespan directions) →
    IsSequence shop.jobs sequence × (makespan < threshold)
shows-below shop threshold budget sequence makespan directions is =
    let reached = reached_is_below shop threshold [] [] sequence (no-jobs shop.jobs) is.0 in
    (reached.0.2, omega (arith, reached.1, is.1))
