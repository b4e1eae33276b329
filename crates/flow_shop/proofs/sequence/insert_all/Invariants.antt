use Rattle.std.proofs.Common.{◌≡◌, List, ℕ, ◌+◌, ◌++◌, take, drop}
use Rattle.flow_shop.specs.JobSet.{AreTaken}
use Rattle.flow_shop.specs.SequenceFaults.{place_fault}
use Rattle.flow_shop.proofs.sequence.insert_all.Given as goal

-- the jobs so far are taken too, and the fault is that of the others
abbrev pub invariant-loop-index : goal.invariant-loop-index
invariant-loop-index l = (earlier : List ℕ) → AreTaken l.instance earlier l.count l.initial.taken →
    AreTaken l.instance (earlier ++ take l.index l.jobs) (l.count + l.index) l.taken
    × (place_fault l.instance.jobs earlier l.jobs
    ≡ place_fault l.instance.jobs (earlier ++ take l.index l.jobs) (drop l.index l.jobs))
