-- One machine of the pass over a node's children.
use Rattle.std.proofs.Common.{◌≡◌, ◌≢◌, ◌⊎◌, ℕ, ◌+◌, ◌-◌, ◌*◌, ◌<◌, ◌≤◌, max, not}
use Rattle.std.proofs.Common.{List, [], ◌∷◌, ◌++◌, length, map, slice_index, slice_index_or, replicate, set, refl, ap}
use Rattle.std.proofs.Common.{sym, ◌∙◌, subst, inl, inr, arith}
use Rattle.std.specs.List.{sum_by}
use Rattle.std.proofs.lemmas.Bool.{cases_lt, cases_order}
use Rattle.std.proofs.lemmas.List.{get_or-set_other, get_or-set_same, get_or-replicate}
use Rattle.flow_limits.specs.Limits.{most_jobs, greatest_time, greatest_completion}
use Rattle.flow_shop.specs.Shop.{Shop, time, time_between, IsWithinLimits}
use Rattle.flow_shop.specs.Least.{least}
use Rattle.flow_shop.specs.Paths.{completion}
use Rattle.flow_shop.specs.Sequences.{has, jobs_left}
use Rattle.flow_shop.specs.Bound.{Bound, bound_at}
use Rattle.flow_shop.proofs.Recurrence.{completion-push, completion-after}
use Rattle.flow_shop.proofs.Fronts.{front-within, time-small}
use Rattle.flow_shop.proofs.Admissible.{front_of-is}
use Rattle.flow_shop.proofs.JobsLeft.{kept-small, kept}
use Rattle.flow_search.specs.declared.few_left.group.TheConstants.{GONE}
use Rattle.flow_search.specs.declared.few_left.group.MachineRow.{MachineRow}
use Rattle.flow_search.specs.declared.few_left.group.Group.{Group}
use Rattle.flow_search.specs.declared.few_left.group.ColumnFrame.{ColumnFrame}
use Rattle.flow_search.specs.internal.Columns.{IsLeastOfOthers}
use Rattle.flow_search.specs.internal.Columns.{IsColumnLeft, IsFrameOf, IsUnprunedCount, IsSmallRow, job_of, child}
use Rattle.flow_shop.proofs.Taken.{left-sum, has-other}
use Rattle.flow_search.proofs.JobsTaken.{left-here, left-child, least-is}

-- the jobs of two columns that are left differ
columns-differ : (shop : Shop) (list : List ℕ) (group : Group) (frame : ColumnFrame) (column other : ℕ) →
    IsFrameOf shop list group frame → IsColumnLeft frame column → IsColumnLeft frame other → other ≢ column →
    job_of group other ≢ job_of group column
columns-differ shop list group frame column other at here there differ e = elim (cases_order column other) [
  | inl same ↦ differ (sym same)
  | inr apart ↦ elim apart [
    | inl less ↦ omega (arith, e, at.order column other here there less)
    | inr more ↦ omega (arith, e, at.order other column there here more)
  ]
]

-- a column's row is small
pub row-small : (shop : Shop) (list : List ℕ) (group : Group) (frame : ColumnFrame) (row : MachineRow)
    (place column : ℕ) →
    IsFrameOf shop list group frame → place < shop.machines → column < 8 →
    IsSmallRow (slice_index_or group.rows place row) column
row-small shop list group frame row place column at to within =
    let e : place + 1 - 1 ≡ place = omega arith in
    subst (λ k. IsSmallRow (slice_index_or group.rows k row) column) e (at.small row (place
    + 1) column (omega arith) (omega (arith, to)) within)

-- the least value of the jobs that a child leaves, from the values in the columns
pub least-left : (shop : Shop) (list : List ℕ) (group : Group) (frame : ColumnFrame) (f : ℕ → ℕ)
    (column other value : ℕ) (values numbers : List ℕ) →
    IsFrameOf shop list group frame → IsColumnLeft frame column → IsColumnLeft frame other → other ≢ column →
    ((k : ℕ) → IsColumnLeft frame k → slice_index values k ≡ f (job_of group k)) → slice_index values other < GONE →
    ((k : ℕ) → k < 8 → slice_index numbers k ≡ max (slice_index values k) (slice_index frame.gone k)) →
    IsLeastOfOthers numbers column value → value ≡ least (map f (jobs_left shop.jobs (child list group column)))
least-left shop list group frame f column other value values numbers at here there differ are small made is =
    let number-of : (k : ℕ) → IsColumnLeft frame k → slice_index numbers k ≡ f (job_of group k) =
    λ k left. omega (arith, made k left.within, left.left, are k left) in
    let best : ℕ = is.one.0 in
    let low : value < GONE =
    omega (arith, is.least other there.within differ, made other there.within, there.left, small) in
    let still : IsColumnLeft frame best = record {
      within = is.one.1;
      left = elim (at.gone best is.one.1) [
        | inl none ↦ none
        | inr gone ↦ absurd (omega
            (arith, low, is.one.3, made best is.one.1, gone))
      ];
    } in
    let apart = columns-differ shop list group frame column best at here still is.one.2 in
    let left = left-here shop.jobs (child list group column) (job_of group best) (at.from best still) (at.to best still)
    (has-other list (job_of group column) (job_of group best) apart ∙ at.fresh best still) in
    least-is f (jobs_left shop.jobs (child list group column)) (job_of group best) value left (is.one.3
    ∙ number-of best still)
    (λ job h.
    let parts = left-child shop.jobs list (job_of group column) job h in
    let stands = at.each job parts.0 parts.1 parts.2 in
    let elsewhere : stands.0 ≢ column = λ e. parts.3 (sym stands.2 ∙ ap (job_of group) e) in
    let same : f (job_of group stands.0) ≡ f job = ap f stands.2 in
    omega (arith, is.least stands.0 stands.1.within elsewhere, number-of stands.0 stands.1, same))

-- the least time behind a machine of the jobs that a child leaves
pub behind-is : (shop : Shop) (list : List ℕ) (group : Group) (frame : ColumnFrame) (row : MachineRow)
    (column other place value : ℕ) (tails : List ℕ) →
    IsFrameOf shop list group frame → IsColumnLeft frame column → IsColumnLeft frame other → other ≢ column →
    place < shop.machines →
    ((k : ℕ) → k < 8 → slice_index tails k
    ≡ max (slice_index (slice_index_or group.rows place row).tail k) (slice_index frame.gone k)) →
    IsLeastOfOthers tails column value →
    value ≡ least (map (λ job. time_between shop job (place + 1 + 1) shop.machines)
    (jobs_left shop.jobs (child list group column)))
behind-is shop list group frame row column other place value tails at here there differ to made is =
    let e : place + 1 - 1 ≡ place = omega arith in
    least-left shop list group frame (λ job. time_between shop job (place + 1 + 1) shop.machines) column other value
    (slice_index_or group.rows place row).tail tails at here there differ
    (λ k left. sym (ap (λ i. slice_index (slice_index_or group.rows i row).tail k) e)
    ∙ (at.rows row k (place + 1) left (omega arith) (omega (arith, to))).tail)
    (row-small shop list group frame row place other at to there.within).tail made is

-- when a child leaves a machine
pub free-is : (shop : Shop) (list : List ℕ) (group : Group) (frame : ColumnFrame) (row : MachineRow)
    (column place free start : ℕ) →
    IsFrameOf shop list group frame → IsColumnLeft frame column → place < shop.machines →
    free ≡ completion shop (child list group column) place → start ≡ max free (slice_index frame.front place) →
    start + slice_index (slice_index_or group.rows place row).time column
    ≡ completion shop (child list group column) (place + 1)
free-is shop list group frame row column place free start at here to was is =
    let e : place + 1 - 1 ≡ place = omega arith in
    let front : slice_index frame.front place ≡ completion shop list (place + 1) = sym (ap (slice_index frame.front) e)
    ∙ at.times (place + 1) (omega arith) (omega (arith, to)) in
    let row_is : slice_index (slice_index_or group.rows place row).time column
    ≡ time shop (job_of group column) (place + 1) =
    sym (ap (λ k. slice_index (slice_index_or group.rows k row).time column) e)
    ∙ (at.rows row column (place + 1) here (omega arith) (omega (arith, to))).time in
    omega (arith, completion-push shop list (job_of group column) place, front, row_is, was, is)

-- the bound of a child with jobs left
pub bound-is : (shop : Shop) (list : List ℕ) (group : Group) (frame : ColumnFrame) (row : MachineRow)
    (column other place free start behind : ℕ) (tails : List ℕ) →
    IsFrameOf shop list group frame → IsColumnLeft frame column → IsColumnLeft frame other → other ≢ column →
    place < shop.machines →
    free ≡ completion shop (child list group column) place → start ≡ max free (slice_index frame.front place) →
    ((k : ℕ) → k < 8 → slice_index tails k
    ≡ max (slice_index (slice_index_or group.rows place row).tail k) (slice_index frame.gone k)) →
    IsLeastOfOthers tails column behind →
    start + behind + slice_index frame.sum place ≡ bound_at shop (child list group column) (place + 1)
bound-is shop list group frame row column other place free start behind tails at here there differ to was is made
    is_least =
    let e : place + 1 - 1 ≡ place = omega arith in
    let low : 1 ≤ place + 1 = omega arith in
    let high : place + 1 ≤ shop.machines = omega (arith, to) in
    let leaves = free-is shop list group frame row column place free start at here to was is in
    let row_is : slice_index (slice_index_or group.rows place row).time column
    ≡ time shop (job_of group column) (place + 1) =
    sym (ap (λ k. slice_index (slice_index_or group.rows k row).time column) e)
    ∙ (at.rows row column (place + 1) here low high).time in
    let front = front_of-is shop (child list group column) (place + 1) low high in
    let load : slice_index frame.sum place ≡ sum_by (λ job. time shop job (place + 1)) (jobs_left shop.jobs list) =
    sym (ap (slice_index frame.sum) e) ∙ at.sums (place + 1) low high in
    let sum = left-sum (λ job. time shop job (place
    + 1)) shop.jobs list (job_of group column) (at.from column here) (at.to column here) (at.fresh column here) in
    let tail = behind-is shop list group frame row column other place behind tails at here there differ to made is_least
    in
    omega (arith, leaves, row_is, front, load, sum, tail)

-- the state of a child's unpruned after some machines: still open, or pruned before
pub record IsPassed (shop : Shop) (bound : Bound) (list : List ℕ) (limit machines unpruned flag : ℕ) : Type 0 where
  pub is : IsUnprunedCount shop bound list limit machines unpruned
  pub state : ((flag ≡ 1) × (unpruned ≡ machines)) ⊎ ((flag ≡ 0) × (unpruned < machines))

passed-none : (shop : Shop) (bound : Bound) (list : List ℕ) (limit : ℕ) → IsPassed shop bound list limit 0 0 1
passed-none shop bound list limit = record {
  is = record {
    within = omega arith;
    above = λ machine from to. absurd (omega (arith, from, to));
    cut =
        λ h. absurd (omega (arith, h));
  };
  state = inl (refl, refl);
}

pub passed-more : (shop : Shop) (bound : Bound) (list : List ℕ) (limit place unpruned flag next more : ℕ) →
    IsPassed shop bound list limit place unpruned flag →
    (bound shop list (place + 1) < limit → next ≡ flag) → (limit ≤ bound shop list (place + 1) → next ≡ 0) →
    more ≡ unpruned + next →
    IsPassed shop bound list limit (place + 1) more next
passed-more shop bound list limit place unpruned flag next more was kept cut is = elim was.state [
  | inl still ↦ elim (cases_lt (bound shop list (place + 1)) limit) [
    | inl under ↦
        let one : next ≡ 1 = kept under ∙ still.0 in
        let whole : more ≡ place + 1 = omega (arith, is, one, still.1) in
        record {
          is = record {
            within = omega (arith, whole);
            above = λ machine from to. elim (cases_lt place machine) [
              | inl last ↦ let e : machine ≡ place + 1 = omega (arith, last, to, whole) in
                  subst (λ m. bound shop list m < limit) (sym e) under
              | inr before ↦ was.is.above machine from (omega (arith, before, still.1))
            ];
            cut = λ h. absurd (omega (arith, h, whole));
          };
          state = inl (one, whole);
        }
    | inr over ↦
        let none : next ≡ 0 = cut over in
        let same : more ≡ place = omega (arith, is, none, still.1) in
        record {
          is = record {
            within = omega (arith, same);
            above = λ machine from to. was.is.above machine from (omega (arith, to, same, still.1));
            cut = λ h. subst (λ m. limit ≤ bound shop list (m + 1)) (sym same) over;
          };
          state = inr (none, omega (arith, same));
        }
  ]
  | inr closed ↦
      let none : next ≡ 0 = elim (cases_lt (bound shop list (place + 1)) limit) [
        | inl under ↦ kept under
            ∙ closed.0
        | inr over ↦ cut over
      ] in
      let same : more ≡ unpruned = omega (arith, is, none) in
      record {
        is = record {
          within = omega (arith, same, closed.1);
          above = λ machine from to. was.is.above machine from (omega (arith, to, same));
          cut = λ h. subst (λ m. limit ≤ bound shop list (m + 1)) (sym same) (was.is.cut closed.1);
        };
        state = inr (none, omega (arith, same, closed.1));
      }
]

-- ranges

-- a column's bound is below the limit of u32
pub sum-small : (shop : Shop) (list : List ℕ) (group : Group) (frame : ColumnFrame) (place : ℕ) → IsWithinLimits shop →
    IsFrameOf shop list group frame → place < shop.machines → slice_index frame.sum place ≤ most_jobs * greatest_time
sum-small shop list group frame place limits at to =
    let e : place + 1 - 1 ≡ place = omega arith in
    let load = sym (ap (slice_index frame.sum) e) ∙ at.sums (place + 1) (omega arith) (omega (arith, to)) in
    let small = kept-small (λ job. time shop job (place
    + 1)) (λ job. not (has list job)) greatest_time shop.jobs (λ job. time-small shop job (place + 1) limits) in
    omega (arith, load, small, limits.jobs)

-- a machine's time fits
front-small : (shop : Shop) (list : List ℕ) (group : Group) (frame : ColumnFrame) (place : ℕ) → IsWithinLimits shop →
    IsFrameOf shop list group frame → place < shop.machines → slice_index frame.front place ≤ greatest_completion
front-small shop list group frame place limits at to =
    front-within shop list frame.front limits (omega (arith, at.count)) at.times place to

-- the child list begins at time 0
pub free-none : (shop : Shop) (list : List ℕ) (job : ℕ) → 0 ≡ completion shop (list ++ job ∷ []) 0
free-none shop list job = sym (completion-after shop list job 0)

-- each column has the same number
pub all-same : (number column : ℕ) → column < 8 → slice_index (replicate 8 number) column ≡ number
all-same number column low = get_or-replicate 8 column number 0 low

pub passed-start : (shop : Shop) (bound : Bound) (list : List ℕ) (limit unpruned flag : ℕ) → unpruned ≡ 0 → flag ≡ 1 →
    IsPassed shop bound list limit 0 unpruned flag
passed-start shop bound list limit unpruned flag none whole =
    subst (λ a. IsPassed shop bound list limit 0 a flag) (sym none) (subst (λ b. IsPassed shop bound list limit 0 0 b)
    (sym whole)
    (passed-none shop bound list limit))

pub start-small : (shop : Shop) (list : List ℕ) (group : Group) (frame : ColumnFrame) (place free start : ℕ) →
    IsWithinLimits shop → IsFrameOf shop list group frame → place < shop.machines →
    free ≤ greatest_completion + place * greatest_time → start ≡ max free (slice_index frame.front place) →
    start ≤ greatest_completion + place * greatest_time
start-small shop list group frame place free start limits at to small is =
    omega (arith, front-small shop list group frame place limits at to, small, is)

pub behind-small : (shop : Shop) (list : List ℕ) (group : Group) (frame : ColumnFrame) (row : MachineRow)
    (place column value : ℕ) (tails : List ℕ) → IsFrameOf shop list group frame → place < shop.machines →
    ((k : ℕ) → k < 8 → slice_index tails k
    ≡ max (slice_index (slice_index_or group.rows place row).tail k) (slice_index frame.gone k)) →
    IsLeastOfOthers tails column value → value ≤ GONE
behind-small shop list group frame row place column value tails at to made is =
    let small = (row-small shop list group frame row place is.one.0 at to is.one.1).tail in
    elim (at.gone is.one.0 is.one.1) [
      | inl none ↦ omega (arith, is.one.3, made is.one.0 is.one.1, small, none)
      | inr gone ↦ omega (arith, is.one.3, made is.one.0 is.one.1, small, gone)
    ]

-- one more place of a list of lists
pub done-more : {A : Type 0} (P : ℕ → A → Type 0) (xs : List A) (other : A) (place : ℕ) (value : A) →
    place < length xs → P place value → ((k : ℕ) → k < place → P k (slice_index_or xs k other)) →
    (k : ℕ) → k < place + 1 → P k (slice_index_or (set xs place value) k other)
done-more P xs other place value within here done k low = elim (cases_lt k place) [
  | inl earlier ↦
      let apart : k ≢ place = omega (arith, earlier) in
      subst (P k) (sym (get_or-set_other xs place k value other apart)) (done k earlier)
  | inr last ↦
      let e : place ≡ k = omega (arith, last, low) in
      subst (λ i. P i (slice_index_or (set xs place value) i other)) e (subst (P place) (sym
      (get_or-set_same xs place value other within)) here)
]
