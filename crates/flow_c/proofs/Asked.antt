-- Why no text is given, where the arguments of a search for bounds have no fault.
use Rattle.std.proofs.Common.{◌≡◌, ◌⊎◌, refl, inl, inr, ℕ, List, Some, None}
use Rattle.flow_limits.specs.Limits.{most_directions}
use Rattle.flow_shop.specs.SequenceFaults.{sequence_fault}
use Rattle.flow_c.specs.Statuses.{number, memory}
use Rattle.flow_c.specs.Faults.{shop_of, numbers_fault, fault_of_effort, room_fault}
use Rattle.flow_c.specs.Certify.{IsTextTooLong, certify_fault, directions_fault}
use Rattle.flow_c.specs.declared.shop.ShopNumbers.{ShopNumbers}
use Rattle.flow_c.specs.declared.effort.EffortNumbers.{EffortNumbers}
use Rattle.flow_c.specs.declared.fault.Fault.{Fault}
use Rattle.flow_c.proofs.Tested.{no-makespan-fault}

module _ (numbers : ShopNumbers) (start : List ℕ) (effort : EffortNumbers) (directions entries : ℕ)
    (one : numbers_fault numbers ≡ None) (two : sequence_fault numbers.jobs start ≡ None)
    (three : fault_of_effort effort ≡ None) (four : directions_fault most_directions directions ≡ None)
    (five : room_fault numbers.jobs entries ≡ None) where
  -- the arguments have no fault
  no-certify-fault : certify_fault numbers start effort directions entries ≡ None
  no-certify-fault = rw (certify_fault, no-makespan-fault numbers start one two, three, four, five) refl

  -- the same, with why no text is given
  pub is-refused : (bytes : ℕ) (fault : Fault) →
      (number fault ≡ memory) ⊎ IsTextTooLong (shop_of numbers) start directions bytes fault →
      (number fault ≡ memory)
      ⊎ (certify_fault numbers start effort directions entries ≡ Some fault)
      ⊎ ((certify_fault numbers start effort directions entries ≡ None)
      × IsTextTooLong (shop_of numbers) start directions bytes fault)
  is-refused bytes fault (inl ran_out) = inl ran_out
  is-refused bytes fault (inr is) = inr (inr (no-certify-fault, is))
