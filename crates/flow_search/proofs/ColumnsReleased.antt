-- The release of a machine at a child in a column.
use Rattle.std.proofs.Common.{◌≡◌, ◌≢◌, ℕ, ◌+◌, ◌-◌, ◌<◌, ◌≤◌, max, List, [], map}
use Rattle.std.proofs.Common.{slice_index, slice_index_or, ap, sym, ◌∙◌, arith}
use Rattle.std.specs.List.{sum_by}
use Rattle.flow_limits.specs.Limits.{most_machines}
use Rattle.flow_shop.specs.Shop.{Shop, numbers, time, time_between, IsWithinLimits}
use Rattle.flow_shop.specs.Least.{greatest}
use Rattle.flow_shop.specs.Sequences.{jobs_left}
use Rattle.flow_shop.specs.Bound.{release, released_bound_at, front_of}
use Rattle.flow_shop.proofs.Recurrence.{completion-push, time_between-first}
use Rattle.flow_shop.proofs.Fronts.{tail-small}
use Rattle.flow_shop.proofs.Admissible.{front_of-is}
use Rattle.flow_shop.proofs.Ranges.{greatest-next}
use Rattle.flow_shop.proofs.Taken.{left-sum}
use Rattle.flow_bound.proofs.Releases.{start_from, start-here}
use Rattle.flow_shop.proofs.Times.{time_between-split}
use Rattle.flow_search.specs.declared.few_left.group.TheConstants.{GONE}
use Rattle.flow_search.specs.declared.few_left.group.MachineRow.{MachineRow}
use Rattle.flow_search.specs.declared.few_left.group.Group.{Group}
use Rattle.flow_search.specs.declared.few_left.group.ColumnFrame.{ColumnFrame}
use Rattle.flow_search.specs.internal.Columns.{IsLeastOfOthers, IsColumnLeft, IsFrameOf, IsOpened, job_of, child}
use Rattle.flow_search.proofs.ColumnsPassed.{least-left, behind-is}

-- the release, from the starts from the earlier machines
pub release-is : (shop : Shop) (front left : List ℕ) (place : ℕ) →
    release shop front left (place + 1)
    ≡ max (slice_index front place) (greatest (map (start_from shop front left (place + 1)) (numbers 1 place)))
release-is shop front left place =
    let e : place + 1 - 1 ≡ place = omega arith in
    let here = start-here shop front left (place + 1) (omega arith) ∙ ap (slice_index front) e in
    omega (arith, greatest-next (start_from shop front left (place + 1)) place, here)

-- one more machine
pub start_from-more : (shop : Shop) (front left : List ℕ) (machine place first made next : ℕ) →
    made ≡ max first (greatest (map (start_from shop front left machine) (numbers 1 place))) →
    next ≡ max made (start_from shop front left machine (place + 1)) →
    next ≡ max first (greatest (map (start_from shop front left machine) (numbers 1 (place + 1))))
start_from-more shop front left machine place first made next was is =
    omega (arith, was, is, greatest-next (start_from shop front left machine) place)

-- what a column's job needs between two machines
pub between-is : (shop : Shop) (list : List ℕ) (group : Group) (frame : ColumnFrame) (row : MachineRow)
    (column earlier place : ℕ) → IsFrameOf shop list group frame → IsColumnLeft frame column →
    earlier < place → place < shop.machines →
    (slice_index (slice_index_or group.rows earlier row).time column
    + slice_index (slice_index_or group.rows earlier row).tail column)
    - (slice_index (slice_index_or group.rows place row).time column
    + slice_index (slice_index_or group.rows place row).tail column)
    ≡ time_between shop (job_of group column) (earlier + 1) (place + 1 - 1)
between-is shop list group frame row column earlier place at here before to =
    let job : ℕ = job_of group column in
    let needs : (k : ℕ) → k < shop.machines → slice_index (slice_index_or group.rows k row).time column
    + slice_index (slice_index_or group.rows k row).tail column ≡ time_between shop job (k + 1) shop.machines =
    λ k low.
    let e : k + 1 - 1 ≡ k = omega arith in
    let is = at.rows row column (k + 1) here (omega arith) (omega (arith, low)) in
    omega (
      arith,
      ap (λ i. slice_index (slice_index_or group.rows i row).time column) e,
      ap (λ i. slice_index (slice_index_or group.rows i row).tail column) e,
      is.time,
      is.tail,
      time_between-first shop job (k + 1) shop.machines (omega (arith, low)),
    ) in
    let e : place + 1 - 1 ≡ place = omega arith in
    omega (
      arith,
      needs earlier (omega (arith, before, to)),
      needs place to,
      time_between-split shop job (earlier + 1) place shop.machines (omega (arith, before)) (omega (arith, to)),
      ap (time_between shop job (earlier + 1)) e,
    )

-- the start from an earlier machine, from the columns
pub start_from-is : (shop : Shop) (list : List ℕ) (group : Group) (frame : ColumnFrame) (row : MachineRow)
    (column other earlier place value : ℕ) (between masked : List ℕ) → IsWithinLimits shop →
    IsOpened shop list group frame → IsColumnLeft frame column → IsColumnLeft frame other → other ≢ column →
    earlier < place → place < shop.machines →
    ((k : ℕ) → k < 8 → slice_index between k
    ≡ (slice_index (slice_index_or group.rows earlier row).time k
    + slice_index (slice_index_or group.rows earlier row).tail k)
    - (slice_index (slice_index_or group.rows place row).time k
    + slice_index (slice_index_or group.rows place row).tail k)) →
    ((k : ℕ) → k < 8 → slice_index masked k ≡ max (slice_index between k) (slice_index frame.gone k)) →
    IsLeastOfOthers masked column value →
    slice_index (slice_index_or frame.free earlier []) column + value
    ≡ start_from shop (front_of shop (child list group column)) (jobs_left shop.jobs (child list group column)) (place
    + 1)
    (earlier + 1)
start_from-is shop list group frame row column other earlier place value between masked limits opened here there
    differ before
    to
    are made is =
    let f : ℕ → ℕ = λ job. time_between shop job (earlier + 1) (place + 1 - 1) in
    let at = opened.at in
    let each : (k : ℕ) → IsColumnLeft frame k → slice_index between k ≡ f (job_of group k) =
    λ k left. are k left.within ∙ between-is shop list group frame row k earlier place at left before to in
    let most : shop.machines ≤ most_machines = limits.machines in
    let e : place + 1 - 1 ≡ place = omega arith in
    let all = time_between-split shop (job_of group other) (earlier + 1) place shop.machines (omega (arith, before))
    (omega (arith, to)) in
    let small : slice_index between other < GONE =
    omega (
      arith,
      each other there,
      ap (time_between shop (job_of group other) (earlier + 1)) e,
      all,
      tail-small shop (job_of group other) (shop.machines - earlier) earlier limits (omega (arith, before, to)),
      most,
    ) in
    let tail = least-left shop list group frame f column other value between masked at here there differ each small made
    is
    in
    let free = opened.free earlier column here (omega (arith, before, to)) in
    let front = front_of-is shop (child list group column) (earlier + 1) (omega arith) (omega (arith, before, to)) in
    omega (arith, free, front, tail)

-- the released bound of a child with jobs left
pub released-is : (shop : Shop) (list : List ℕ) (group : Group) (frame : ColumnFrame) (row : MachineRow)
    (column other place released start behind : ℕ) (tails : List ℕ) →
    IsOpened shop list group frame → IsColumnLeft frame column → IsColumnLeft frame other → other ≢ column →
    place < shop.machines →
    released ≡ release shop (front_of shop (child list group column)) (jobs_left shop.jobs (child list group column))
    (place + 1) →
    start ≡ released - slice_index (slice_index_or group.rows place row).time column →
    ((k : ℕ) → k < 8 → slice_index tails k
    ≡ max (slice_index (slice_index_or group.rows place row).tail k) (slice_index frame.gone k)) →
    IsLeastOfOthers tails column behind →
    start + behind + slice_index frame.sum place ≡ released_bound_at shop (child list group column) (place + 1)
released-is shop list group frame row column other place released start behind tails opened here there differ to
    release_is
    start_is made is_least =
    let at = opened.at in
    let e : place + 1 - 1 ≡ place = omega arith in
    let low : 1 ≤ place + 1 = omega arith in
    let high : place + 1 ≤ shop.machines = omega (arith, to) in
    let row_is : slice_index (slice_index_or group.rows place row).time column
    ≡ time shop (job_of group column) (place + 1) =
    sym (ap (λ k. slice_index (slice_index_or group.rows k row).time column) e)
    ∙ (at.rows row column (place + 1) here low high).time in
    let front = front_of-is shop (child list group column) (place + 1) low high in
    let load : slice_index frame.sum place ≡ sum_by (λ job. time shop job (place + 1)) (jobs_left shop.jobs list) =
    sym (ap (slice_index frame.sum) e) ∙ at.sums (place + 1) low high in
    let sum = left-sum (λ job. time shop job (place
    + 1)) shop.jobs list (job_of group column) (at.from column here) (at.to column here) (at.fresh column here) in
    let tail = behind-is shop list group frame row column other place behind tails at here there differ to made is_least
    in
    let late = release-is shop (front_of shop (child list group column)) (jobs_left shop.jobs (child list group column))
    place in
    let leaves = completion-push shop list (job_of group column) place in
    omega (
      arith,
      release_is,
      start_is,
      row_is,
      ap (slice_index (front_of shop (child list group column))) e,
      front,
      load,
      sum,
      tail,
      late,
      leaves,
    )
