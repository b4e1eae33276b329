-- The jobs of a node with at most eight jobs left, side by side in eight columns.
use Rattle.std.specs.Prelude.{ℕ, ◌≡◌, ◌≢◌, ◌⊎◌, ◌+◌, ◌-◌, ◌*◌, ◌<◌, ◌≤◌, false, List, [], ◌∷◌, ◌++◌, slice_index}
use Rattle.std.specs.Prelude.{slice_index_or, sum_by, length, filter, nat_eq}
use Rattle.std.specs.List.{range_with_len}
use Rattle.flow_limits.specs.Limits.{most_machines, greatest_time, greatest_completion}
use Rattle.flow_shop.specs.Shop.{Shop, time, time_between, AreOf}
use Rattle.flow_shop.specs.Paths.{completion}
use Rattle.flow_shop.specs.Front.{IsFrontOf}
use Rattle.flow_shop.specs.Sequences.{has, jobs_left}
use Rattle.flow_shop.specs.Bound.{Bound}
use Rattle.flow_search.specs.declared.few_left.group.TheConstants.{GONE}
use Rattle.flow_search.specs.declared.few_left.group.MachineRow.{MachineRow}
use Rattle.flow_search.specs.declared.few_left.group.Group.{Group}
use Rattle.flow_search.specs.declared.few_left.group.ColumnFrame.{ColumnFrame}

-- how many columns there are: as many as a node walked in columns may have jobs left
abbrev pub most_columns : ℕ
most_columns = 8

-- a value is the least number of the columns other than one
pub record IsLeastOfOthers (numbers : List ℕ) (column value : ℕ) : Type 0 where
  pub least : (other : ℕ) → other < most_columns → other ≢ column → value ≤ slice_index numbers other
  pub one : (other : ℕ) × (other < most_columns) × (other ≢ column) × (value ≡ slice_index numbers other)

-- each is a job of an instance
abbrev pub AreJobsOf : Shop → List ℕ → Type 0
AreJobsOf shop jobs =
    (column : ℕ) → column < length jobs → (1 ≤ slice_index jobs column) × (slice_index jobs column ≤ shop.jobs)

-- a list leaves these jobs, at most eight, and has this front
pub record IsFew (shop : Shop) (list front jobs : List ℕ) : Type 0 where
  pub few : length jobs ≤ most_columns
  pub left : jobs ≡ jobs_left shop.jobs list
  pub count : length list + length jobs ≡ shop.jobs
  pub times : IsFrontOf shop list front

-- the job of a column is left
pub record IsColumnLeft (frame : ColumnFrame) (column : ℕ) : Type 0 where
  pub within : column < most_columns
  pub left : slice_index frame.gone column ≡ 0

-- the columns whose jobs are left, in increasing order
abbrev pub columns_of : ColumnFrame → List ℕ
columns_of frame = filter (λ column. nat_eq (slice_index frame.gone column) 0) (range_with_len 0 most_columns)

-- the job of a column
abbrev pub job_of : Group → ℕ → ℕ
job_of group column = slice_index group.jobs column

-- the list with the job of a column at its end
abbrev pub child : List ℕ → Group → ℕ → List ℕ
child list group column = list ++ job_of group column ∷ []

-- no time is above the limit, nor is a time behind a machine as great as what stands for a job that is gone
pub record IsSmallRow (row : MachineRow) (column : ℕ) : Type 0 where
  pub time : slice_index row.time column ≤ greatest_time
  pub tail : slice_index row.tail column < GONE

-- a column has the times of a job
pub record IsRowOf (shop : Shop) (row : MachineRow) (column job machine : ℕ) : Type 0 where
  pub time : slice_index row.time column ≡ time shop job machine
  pub tail : slice_index row.tail column ≡ time_between shop job (machine + 1) shop.machines

-- the jobs that a list leaves stand in the columns that are left, in increasing order, with their times; the list's
-- front is known, and for each machine the sum of their times
pub record IsFrameOf (shop : Shop) (list : List ℕ) (group : Group) (frame : ColumnFrame) : Type 0 where
  pub count : length list + length (jobs_left shop.jobs list) ≡ shop.jobs
  pub times : IsFrontOf shop list frame.front
  pub sums : AreOf shop (λ machine. sum_by (λ job. time shop job machine) (jobs_left shop.jobs list)) frame.sum
  pub gone : (column : ℕ) → column < most_columns → (slice_index frame.gone column ≡ 0) ⊎
      (slice_index frame.gone column ≡ GONE)
  pub small : (row : MachineRow) (machine column : ℕ) → 1 ≤ machine → machine ≤ shop.machines → column < most_columns →
      IsSmallRow (slice_index_or group.rows (machine - 1) row) column
  pub from : (column : ℕ) → IsColumnLeft frame column → 1 ≤ job_of group column
  pub to : (column : ℕ) → IsColumnLeft frame column → job_of group column ≤ shop.jobs
  pub fresh : (column : ℕ) → IsColumnLeft frame column → has list (job_of group column) ≡ false
  pub rows : (row : MachineRow) (column machine : ℕ) → IsColumnLeft frame column → 1 ≤ machine →
      machine ≤ shop.machines →
      IsRowOf shop (slice_index_or group.rows (machine - 1) row) column (job_of group column) machine
  pub each : (job : ℕ) → 1 ≤ job → job ≤ shop.jobs → has list job ≡ false →
      (column : ℕ) × IsColumnLeft frame column × (job_of group column ≡ job)
  pub order : (column other : ℕ) → IsColumnLeft frame column → IsColumnLeft frame other → column < other →
      job_of group column < job_of group other
  pub columns : (place : ℕ) → place < length (columns_of frame) →
      slice_index frame.columns place ≡ slice_index (columns_of frame) place

-- the node of a frame, where each child's front is known too
pub record IsOpened (shop : Shop) (list : List ℕ) (group : Group) (frame : ColumnFrame) : Type 0 where
  pub at : IsFrameOf shop list group frame
  pub free : (place column : ℕ) → IsColumnLeft frame column → place < shop.machines →
      slice_index (slice_index_or frame.free place []) column ≡ completion shop (child list group column) (place + 1)

-- no time at which a child leaves a machine is great, nor what stands for it in a column that is not left
abbrev pub AreSmallFrees : Shop → ColumnFrame → Type 0
AreSmallFrees shop frame =
    (place column : ℕ) → place < shop.machines → column < most_columns →
    slice_index (slice_index_or frame.free place []) column ≤ greatest_completion + most_machines * greatest_time

-- so many machines, of the first ones, stand before the first whose bound reaches a limit; all of them where none does
pub record IsUnprunedCount (shop : Shop) (bound : Bound) (list : List ℕ) (limit machines unpruned : ℕ) : Type 0 where
  pub within : unpruned ≤ machines
  pub above : (machine : ℕ) → 1 ≤ machine → machine ≤ unpruned → bound shop list machine < limit
  pub cut : unpruned < machines → limit ≤ bound shop list (unpruned + 1)

-- the children are opened, and each that leaves a job was tested against the frame's value
pub record IsTested (shop : Shop) (bound : Bound) (list : List ℕ) (group : Group) (frame : ColumnFrame) : Type 0 where
  pub opened : IsOpened shop list group frame
  pub unpruned : (column other : ℕ) → IsColumnLeft frame column → IsColumnLeft frame other → other ≢ column →
      IsUnprunedCount shop bound (child list group column) frame.value shop.machines (slice_index frame.unpruned column)

-- a frame has the same columns left, in the same order, and the same next place as before
pub record KeepsColumns (old new : ColumnFrame) : Type 0 where
  pub gone : new.gone ≡ old.gone
  pub columns : new.columns ≡ old.columns
  pub next : new.next ≡ old.next
