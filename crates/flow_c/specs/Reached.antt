-- What a search of better sequences comes to, and what a call for one gives.
use Rattle.std.specs.Prelude.{ℕ, ◌≡◌, ◌≤◌, ◌⊎◌, true, List, take, drop, Option, None, Result, IfOk, OnOk, IfErr}
use Rattle.flow_shop.specs.Paths.{span}
use Rattle.flow_shop.specs.Sequences.{IsSequence}
use Rattle.flow_bound.specs.Taillard.{taillard_bound}
use Rattle.flow_improve.specs.declared.reached.Reached.{Reached}
use Rattle.flow_c.specs.Statuses.{number, done, memory}
use Rattle.flow_c.specs.Faults.{shop_of, numbers_fault, IsFaultOf, Reports}
use Rattle.flow_c.specs.Rooms.{IsSameRoom}
use Rattle.flow_c.specs.declared.fault.Fault.{Fault}
use Rattle.flow_c.specs.declared.outcome.Outcome.{Outcome}
use Rattle.flow_c.specs.declared.reached.ReachedRoom.{ReachedRoom}
use Rattle.flow_c.specs.declared.shop.ShopNumbers.{ShopNumbers}

-- a sequence of the instance, its makespan, that it is no worse than a starting sequence, and that the search is whole
-- where the makespan has Taillard's bound (inner)
pub record IsReached (numbers : ShopNumbers) (start : List ℕ) (reached : Reached) : Type 0 where
  pub each : IsSequence numbers.jobs reached.sequence
  pub value : reached.value ≡ span (shop_of numbers) reached.sequence
  pub least : reached.value ≤ span (shop_of numbers) start
  pub whole : reached.value ≤ taillard_bound (shop_of numbers) → reached.whole ≡ true

-- what is reached where nothing is refused and so many entries are enough; else the refusal (inner)
pub record Finds (numbers : ShopNumbers) (start : List ℕ) (refusal : Option Fault) (entries : ℕ)
    (found : Result Reached Fault) : Type 0 where
  pub reached : IfOk found (IsReached numbers start)
  pub accepted : OnOk found (refusal ≡ None)
  pub enough : OnOk found (numbers.jobs ≤ entries)
  pub refused : IfErr found (IsFaultOf refusal)
  pub memory : IfErr found (λ fault. number fault ≡ memory → numbers_fault numbers ≡ None)

-- what a call gives: it reports the refusal, or that memory ran out, and leaves the room as it was; or it is done, and
-- the first entries of the room are a sequence that is no worse than the start, with its makespan; and `whole` is 1
-- where the makespan has Taillard's bound
pub record GivesReached (numbers : ShopNumbers) (start : List ℕ) (refusal : Option Fault) (old new : ReachedRoom)
    (outcome : Outcome) : Type 0 where
  pub status : Reports refusal outcome
  pub memory : outcome.status ≡ memory → numbers_fault numbers ≡ None
  pub each : outcome.status ≡ done → IsSequence numbers.jobs (take numbers.jobs new.sequence.now)
  pub makespan : outcome.status ≡ done →
      new.makespan ≡ span (shop_of numbers) (take numbers.jobs new.sequence.now)
  pub least : outcome.status ≡ done → new.makespan ≤ span (shop_of numbers) start
  pub whole : outcome.status ≡ done → new.whole ≤ 1
  pub at_bound : outcome.status ≡ done → new.makespan ≤ taillard_bound (shop_of numbers) → new.whole ≡ 1
  pub rest : drop numbers.jobs new.sequence.now ≡ drop numbers.jobs old.sequence.now
  pub room : IsSameRoom new.sequence old.sequence
  pub stays : outcome.status ≡ done → outcome.place ≡ 0
  pub kept : (outcome.status ≡ done) ⊎ (new ≡ old)
