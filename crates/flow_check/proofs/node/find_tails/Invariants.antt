use Rattle.std.proofs.Common.{◌≡◌, ℕ, ◌+◌, ◌-◌, List}
use Rattle.flow_shop.specs.Sequences.{jobs_left}
use Rattle.flow_shop.specs.TwoLeast.{tails, least_below, second_below, least_of_none}
use Rattle.flow_check.specs.internal.Links.{AreLinks, IsPlace}
use Rattle.flow_shop.proofs.Taken.{left_from}
use Rattle.flow_check.proofs.node.find_tails.Given as goal

abbrev pub invariant-jobs : goal.invariant-jobs
invariant-jobs l = record {
  place : (list : List ℕ) → AreLinks l.text.shop.now.jobs list l.links →
      IsPlace l.text.shop.now.jobs list l.last;
  least : (list : List ℕ) → AreLinks l.text.shop.now.jobs list l.links →
      least_below least_of_none (tails l.text.shop.now l.machine (jobs_left l.text.shop.now.jobs list))
      ≡ least_below l.two.least (tails l.text.shop.now l.machine (left_from l.text.shop.now.jobs list (l.last
      + 1)));
  second : (list : List ℕ) → AreLinks l.text.shop.now.jobs list l.links →
      second_below least_of_none least_of_none (tails l.text.shop.now l.machine (jobs_left l.text.shop.now.jobs list))
      ≡ second_below l.two.least l.two.second (tails l.text.shop.now l.machine (left_from l.text.shop.now.jobs list
      (l.last + 1)));
}

abbrev pub decreases-jobs : goal.decreases-jobs
decreases-jobs l = l.text.shop.now.jobs - l.last
