-- The limits. Contracts name these numbers, and never the code's constants, which are the same
-- (law: limits_are_those_stated).
use Rattle.std.specs.Prelude.{ℕ}

-- the most jobs of an instance
abbrev pub most_jobs : ℕ
most_jobs = 800

-- the most machines of an instance
abbrev pub most_machines : ℕ
most_machines = 26

-- the greatest time of a job on a machine
abbrev pub greatest_time : ℕ
greatest_time = 999999

-- the greatest time of a front to which a job is added, so that no sum can overflow; no list of distinct jobs of an
-- instance reaches it, so the code has no constant for it
abbrev pub greatest_completion : ℕ
greatest_completion = 1000000000

-- the greatest number in a benchmark text
abbrev pub greatest_number : ℕ
greatest_number = 4294967295

-- the greatest seed of random numbers
abbrev pub greatest_seed : ℕ
greatest_seed = 2147483646

-- the greatest depth of a cut
abbrev pub greatest_depth : ℕ
greatest_depth = 3

-- the least version of a certificate
abbrev pub least_version : ℕ
least_version = 1

-- the greatest version of a certificate
abbrev pub greatest_version : ℕ
greatest_version = 2

-- the most workers of a run
abbrev pub most_workers : ℕ
most_workers = 64

-- the most prefixes of a plan
abbrev pub most_prefixes : ℕ
most_prefixes = 100000

-- the greatest budget: how many bytes the tree of a prefix may have
abbrev pub greatest_budget : ℕ
greatest_budget = 100000000

-- the most bytes of a benchmark text or a start text that a command reads
abbrev pub most_text : ℕ
most_text = 16777216

-- the most bytes of a certificate that a command reads
abbrev pub most_certificate : ℕ
most_certificate = 1000000000

-- the most rounds of an improvement
abbrev pub most_rounds : ℕ
most_rounds = 100000000

-- the greatest width of a beam
abbrev pub most_width : ℕ
most_width = 65536

-- the most steps of an improvement, in millions
abbrev pub most_work : ℕ
most_work = 1000000

-- the most directions of a proof
abbrev pub most_directions : ℕ
most_directions = 1000000000
