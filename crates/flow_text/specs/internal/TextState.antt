-- The state of a reading: what is wanted, the numbers since the last label, the head of the block, and the blocks.
use Rattle.std.specs.Prelude.{◌≡◌, ℕ, ◌≤◌, true, List, [], slice_index}
use Rattle.flow_text.specs.Lines.{are_small}
use Rattle.flow_text.specs.TextFaults.{are_times}
use Rattle.flow_limits.specs.Limits.{most_jobs, most_machines, greatest_number}
use Rattle.flow_text.specs.declared.text.block.Block.{Block}
use Rattle.flow_text.specs.declared.text.progress.Want.{Want}
use Rattle.flow_text.specs.declared.text.progress.Want.TheVariants.{FirstLabel, HeadNumbers, SecondLabel, Times}
use Rattle.flow_text.specs.declared.text.progress.Progress.{Progress}
use Rattle.flow_text.specs.declared.text.progress.Head.{Head}

-- the five numbers at the head of a block
pub record Sizes : Type 0 where
  pub jobs : ℕ
  pub machines : ℕ
  pub seed : ℕ
  pub upper : ℕ
  pub lower : ℕ

-- a head as its five numbers
abbrev pub sizes : Head → Sizes
sizes h = record { jobs = h.jobs; machines = h.machines; seed = h.seed; upper = h.upper; lower = h.lower }

-- the first five numbers of a list as a head
abbrev pub sizes_of : List ℕ → Sizes
sizes_of ns = record {
  jobs = slice_index ns 0;
  machines = slice_index ns 1;
  seed = slice_index ns 2;
  upper = slice_index ns 3;
  lower = slice_index ns 4;
}

-- the head of a block keeps the limits
pub record SizesFit (h : Sizes) : Type 0 where
  pub some_job : 1 ≤ h.jobs
  pub jobs : h.jobs ≤ most_jobs
  pub some_machine : 1 ≤ h.machines
  pub machines : h.machines ≤ most_machines
  pub seed : h.seed ≤ greatest_number
  pub upper : h.upper ≤ greatest_number
  pub lower : h.lower ≤ greatest_number

-- what is wanted, the numbers since the last label, the head of the block, and the blocks before it
pub record State : Type 0 where
  pub want : Want
  pub numbers : List ℕ
  pub head : Sizes
  pub blocks : List Block

-- the state of a reading
abbrev pub state_of : Progress → State
state_of p = record { want = p.want; numbers = p.numbers.items; head = sizes p.head; blocks = p.blocks.items }

-- the state before the first line
abbrev pub start : State
start = record {
  want = FirstLabel;
  numbers = [];
  head = record { jobs = 1; machines = 1; seed = 0; upper = 0; lower = 0 };
  blocks = [];
}

-- what the tests so far have shown
abbrev pub Keeps : State → Type 0
Keeps s = elim s.want [
  | FirstLabel ↦ Unit {0}
  | HeadNumbers ↦ are_small s.numbers ≡ true
  | SecondLabel ↦ SizesFit s.head
  | Times ↦ SizesFit s.head × (are_times s.numbers ≡ true)
]
