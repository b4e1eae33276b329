-- Bounds that hold are proved.
use Rattle.std.proofs.Common.{◌≡◌, ℕ, ◌≤◌, List, sym, subst, ◌∙◌}
use Rattle.flow_shop.specs.Shop.{Shop}
use Rattle.flow_shop.specs.Paths.{span}
use Rattle.flow_shop.specs.Sequences.{IsLowerBound}
use Rattle.flow_check.specs.Bounds.{AreProved}
use Rattle.flow_check.specs.FourLines.{ShowsUpper}
use Rattle.flow_check.specs.declared.bounds.Bounds.{Bounds}

-- a sequence that has the upper bound as its makespan, where no sequence is below the lower one
pub proved-bounds : (shop : Shop) (bounds : Bounds) (sequence : List ℕ) → ShowsUpper shop bounds sequence →
    IsLowerBound shop bounds.lower → AreProved shop bounds
proved-bounds shop bounds sequence upper low =
    let attained : span shop sequence ≡ bounds.upper = upper.attained in
    record {
      hold = record {
        lower = low;
        upper = (sequence, upper.whole, attained);
        between = λ least best. (
          subst (λ n. bounds.lower ≤ n) best.attained.2 (low best.attained.0 best.attained.1),
          subst (λ n. least ≤ n) attained (best.least sequence upper.whole),
        );
      };
      least = λ same. record { attained = (sequence, upper.whole, attained ∙ sym same); least = low };
    }
