-- What a run of `certify` keeps.
use Rattle.std.specs.Prelude.{◌≡◌, ◌≤◌, [], length, None}
use Rattle.flow_shop.specs.Shop.{Shop}
use Rattle.flow_shop.specs.Paths.{span}
use Rattle.flow_shop.specs.Sequences.{IsSequence}
use Rattle.flow_directions.specs.Search.{directions_of, first_below}
use Rattle.flow_certify.specs.Searched.{Keeps, has_signs}
use Rattle.flow_certify.specs.declared.kept.Kept.{Kept}

-- the bounds of a run are proved: its best sequence has the upper one; the search below the lower one reaches no
-- sequence, the proof keeps the directions that it writes, and they are no more than the greatest budget
pub record IsProved (shop : Shop) (kept : Kept) : Type 0 where
  pub start : IsSequence shop.jobs kept.start
  pub best : IsSequence shop.jobs kept.best
  pub before : IsSequence shop.jobs kept.before
  pub attained : span shop kept.best ≡ kept.run.upper
  pub searched : first_below shop kept.run.lower [] [] ≡ None
  pub keeps : Keeps kept.proof (directions_of shop kept.run.lower [] [])
  pub few : length (directions_of shop kept.run.lower [] []) ≤ kept.run.fund.most

-- after a task the bounds are still proved, the proof has the same form, the sequence is no worse, and the lower bound
-- is no smaller
pub record IsLater (shop : Shop) (before after : Kept) : Type 0 where
  pub proved : IsProved shop after
  pub form : has_signs after.proof ≡ has_signs before.proof
  pub most : after.run.fund.most ≡ before.run.fund.most
  pub upper : after.run.upper ≤ before.run.upper
  pub lower : before.run.lower ≤ after.run.lower
