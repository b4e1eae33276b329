use Rattle.std.proofs.Common.{◌≡◌, ℕ, ◌+◌, ◌-◌, List, ◌++◌}
use Rattle.flow_shop.specs.Sequences.{jobs_left}
use Rattle.flow_shop.specs.TwoLeast.{AreTwoLeast, time_to}
use Rattle.flow_check.specs.internal.Links.{AreLinks, IsPlace}
use Rattle.flow_shop.proofs.Taken.{left_from}
use Rattle.flow_check.proofs.release.find_lags.Given as goal

-- the lags of the jobs left up to the last one are taken in
abbrev pub invariant-jobs : goal.invariant-jobs
invariant-jobs l = record {
  place : (list : List ℕ) → AreLinks l.text.shop.now.jobs list l.links → IsPlace l.text.shop.now.jobs list l.last;
  taken : (list : List ℕ) → AreLinks l.text.shop.now.jobs list l.links →
      (jobs : List ℕ)
      × (jobs ++ left_from l.text.shop.now.jobs list (l.last + 1) ≡ jobs_left l.text.shop.now.jobs list)
      × AreTwoLeast (time_to l.text.shop.now l.machine) l.machine jobs l.lags;
}

abbrev pub decreases-jobs : goal.decreases-jobs
decreases-jobs l = l.text.shop.now.jobs - l.last
