-- The first node of a subtree.
use Rattle.std.proofs.Common.{◌≡◌, ◌≢◌, ℕ, ◌+◌, ◌-◌, ◌<◌, ◌≤◌, ◌⊎◌, Bool, true, false, not, nat_eq, List, [], ◌∷◌}
use Rattle.std.proofs.Common.{◌++◌, length, length-append, append_assoc, take, slice_index, slice_index_or, set, ap}
use Rattle.std.proofs.Common.{sym, ◌∙◌, subst, inl, inr, arith}
use Rattle.std.specs.List.{filter, range_with_len, sum_by}
use Rattle.std.proofs.lemmas.Bool.{cases_lt, eq-eqb, ne_eqb, not-true}
use Rattle.std.proofs.lemmas.List.{get_or-set_other, get_or-set_same, take_more_set, length-take, append-nil}
use Rattle.std.proofs.lemmas.List.{nil_from_length}
use Rattle.flow_shop.specs.Shop.{Shop, numbers, time}
use Rattle.flow_shop.specs.JobSet.{contains}
use Rattle.flow_shop.specs.Sequences.{has}
use Rattle.flow_search.specs.internal.Nodes.{IsAt}
use Rattle.flow_search.specs.declared.few_left.group.TheConstants.{GONE}
use Rattle.flow_search.specs.declared.few_left.group.MachineRow.{MachineRow}
use Rattle.flow_search.specs.declared.few_left.group.Group.{Group}
use Rattle.flow_search.specs.declared.few_left.group.ColumnFrame.{ColumnFrame}
use Rattle.flow_search.specs.internal.Columns.{IsColumnLeft, IsFrameOf, IsRowOf, IsSmallRow, columns_of}
use Rattle.flow_search.specs.internal.Columns.{AreJobsOf, IsFew}
use Rattle.flow_search.proofs.Nodes.{filter-here, left-count, left-is, members-are, numbers-none}
use Rattle.flow_search.proofs.JobsTaken.{filter-has, left-here}
use Rattle.flow_bound.proofs.Places.{has-at}
use Rattle.flow_search.proofs.Increasing.{place-of, Increases, increases-filter, increases-order, below-filter}
use Rattle.std.proofs.lemmas.List.FromFn.{get_or-range_with_len, length-range_with_len}

left-at : (shop : Shop) (list front jobs : List ℕ) (column : ℕ) → IsFew shop list front jobs → column < length jobs →
    (1 ≤ slice_index jobs column) × (slice_index jobs column ≤ shop.jobs) × (has list (slice_index jobs column) ≡ false)
left-at shop list front jobs column is low =
    let there = filter-has (λ k. not (has list k)) shop.jobs (slice_index jobs column) (ap (λ js. has js
    (slice_index jobs column)) (sym is.left) ∙ has-at jobs column low) in
    (there.1, there.2, not-true (has list (slice_index jobs column)) there.0)

pub jobs-of : (shop : Shop) (list front jobs : List ℕ) → IsFew shop list front jobs → AreJobsOf shop jobs
jobs-of shop list front jobs is column low = let there = left-at shop list front jobs column is low in
    (there.0, there.1)

-- the machines that are done
pub record AreDone (shop : Shop) (front jobs : List ℕ) (rows : List MachineRow) (times sums : List ℕ)
    (machine : ℕ) : Type 0 where
  pub each : (row : MachineRow) (k column : ℕ) → machine < k → k ≤ shop.machines → column < length jobs →
      IsRowOf shop (slice_index_or rows (k - 1) row) column (slice_index jobs column) k
  pub small : (row : MachineRow) (k column : ℕ) → machine < k → k ≤ shop.machines → column < 8 →
      IsSmallRow (slice_index_or rows (k - 1) row) column
  pub begins : (k : ℕ) → machine < k → k ≤ shop.machines → slice_index times (k - 1) ≡ slice_index front (k - 1)
  pub loads : (k : ℕ) → machine < k → k ≤ shop.machines → slice_index sums (k - 1) ≡ sum_by
      (λ job. time shop job k) jobs

-- one more place of a list, from the back
more : {A : Type 0} (P : ℕ → A → Type 0) (xs : List A) (other value : A) (machine most : ℕ) → 1 ≤ machine →
    machine - 1 < length xs → P machine value →
    ((k : ℕ) → machine < k → k ≤ most → P k (slice_index_or xs (k - 1) other)) →
    (k : ℕ) → machine - 1 < k → k ≤ most → P k (slice_index_or (set xs (machine - 1) value) (k - 1) other)
more P xs other value machine most low within here done k above to = elim (cases_lt machine k) [
  | inl later ↦
      let apart : k - 1 ≢ machine - 1 = omega (arith, later, low) in
      subst (P k) (sym (get_or-set_other xs (machine - 1) (k - 1) value other apart)) (done k later to)
  | inr last ↦
      let e : machine ≡ k = omega (arith, last, above) in
      subst (λ i. P i (slice_index_or (set xs (machine - 1) value) (i - 1) other)) e (subst (P machine) (sym
      (get_or-set_same xs (machine - 1) value other within)) here)
]

pub done-next : (shop : Shop) (front jobs : List ℕ) (rows : List MachineRow) (times sums : List ℕ) (machine : ℕ)
    (value : MachineRow) (free sum : ℕ) → AreDone shop front jobs rows times sums machine → 1 ≤ machine →
    machine - 1 < length rows → machine - 1 < length times → machine - 1 < length sums →
    ((column : ℕ) → column < length jobs → IsRowOf shop value column (slice_index jobs column) machine) →
    ((column : ℕ) → column < 8 → IsSmallRow value column) →
    free ≡ slice_index front (machine - 1) → sum ≡ sum_by (λ job. time shop job machine) jobs →
    AreDone shop front jobs (set rows (machine - 1) value) (set times (machine - 1) free) (set sums (machine - 1) sum)
    (machine - 1)
done-next shop front jobs rows times sums machine value free sum is low in_rows in_times in_sums row small free_is
    sum_is = record {
      each = λ other k column above to within. more (λ i r. IsRowOf shop r column
          (slice_index jobs column) i) rows other value machine shop.machines low in_rows (row column within)
          (λ i a b. is.each other i column a b within) k above to;
      small = λ other k column above to within. more
          (λ i r. IsSmallRow r column) rows other value machine shop.machines low in_rows (small column within)
          (λ i a b. is.small other i column a b within) k above to;
      begins = more (λ i v. v
          ≡ slice_index front (i - 1)) times 0 free machine shop.machines low in_times free_is is.begins;
      loads = more (λ i v. v
          ≡ sum_by (λ job. time shop job i) jobs) sums 0 sum machine shop.machines low in_sums sum_is is.loads;
    }

-- once all machines and columns are filled
pub entered : (shop : Shop) (list front jobs : List ℕ) (group : Group) (frame : ColumnFrame) (machine : ℕ) →
    IsFew shop list front jobs → machine ≡ 0 →
    AreDone shop front jobs group.rows frame.front frame.sum machine →
    ((column : ℕ) → column < length jobs → slice_index group.jobs column ≡ slice_index jobs column) →
    ((column : ℕ) → column < 8 → column < length jobs → slice_index frame.gone column ≡ 0) →
    ((column : ℕ) → column < 8 → length jobs ≤ column → slice_index frame.gone column ≡ GONE) →
    frame.columns ≡ range_with_len 0 8 → IsFrameOf shop list group frame
entered shop list front jobs group frame machine is e done columns left gone all =
    let filled : (column : ℕ) → IsColumnLeft frame column → column < length jobs =
    λ column here. elim (cases_lt column (length jobs)) [
      | inl there ↦ there
      | inr past ↦ absurd (omega (arith, gone column here.within past, here.left))
    ] in
    let job : (column : ℕ) → IsColumnLeft frame column → slice_index group.jobs column ≡ slice_index jobs column =
    λ column here. columns column (filled column here) in
    let firsts : columns_of frame ≡ range_with_len 0 (length jobs) =
    below-filter (λ column. nat_eq (slice_index frame.gone column) 0) 0 8 (length jobs) is.few
    (λ column low high. eq-eqb (slice_index frame.gone column) 0
    (left column (omega (arith, high, is.few)) (omega (arith, high))))
    (λ column low high. ne_eqb (slice_index frame.gone column) 0
    (λ none. omega (arith, none, gone column (omega (arith, high)) (omega (arith, low))))) in
    record {
      count = omega (arith, is.count, ap length is.left);
      times = λ k from to. done.begins k (omega (arith, e, from)) to ∙ is.times k from to;
      sums = λ k from to. done.loads k (omega (arith, e, from)) to ∙ ap (sum_by (λ j. time shop j k)) is.left;
      gone = λ column within. elim (cases_lt column (length jobs)) [
        | inl there ↦ inl
            (left column within there)
        | inr past ↦ inr (gone column within past)
      ];
      small = λ row k column from to within. done.small row k column (omega (arith, e, from)) to within;
      from = λ column here. omega (
        arith,
        job column here,
        (left-at shop list front jobs column is
            (filled column here)).0,
      );
      to = λ column here. omega (
        arith,
        job column here,
        (left-at shop list front jobs column is
            (filled column here)).1,
      );
      fresh = λ column here. ap (has list) (job column here)
          ∙ (left-at shop list front jobs column is (filled column here)).2;
      rows = λ row column k here from to.
          subst (λ j. IsRowOf shop (slice_index_or group.rows (k - 1) row) column j k) (sym (job column here))
          (done.each row k column (omega (arith, e, from)) to (filled column here));
      each = λ j low high fresh.
          let stands = place-of jobs j (ap (λ js. has js j) is.left ∙ left-here shop.jobs list j low high fresh) in
          let within : stands.0 < 8 = omega (arith, stands.1, is.few) in (
            stands.0,
            record { within = within; left = left stands.0 within stands.1 },
            columns stands.0 stands.1
                ∙ stands.2,
          );
      order = λ column other here there less.
          let whole : Increases 1 jobs =
          subst (Increases 1) (sym is.left) (increases-filter (λ k. not (has list k)) 1 (shop.jobs + 1 - 1)) in
          omega (
            arith,
            job column here,
            job other there,
            increases-order 1 jobs column other whole less
                (filled other there),
          );
      columns = λ place low.
          let within : place < length jobs =
          omega (arith, low, ap length firsts, length-range_with_len 0 (length jobs)) in
          ap (λ xs. slice_index xs place) all
          ∙ get_or-range_with_len 0 8 place 0 (omega (arith, within, is.few))
          ∙ sym (ap (λ xs. slice_index xs place) firsts ∙ get_or-range_with_len 0 (length jobs) place 0 within);
    }

-- the jobs that pass a test, gathered in increasing order: one more, and none more
pub gathered-more : (p : ℕ → Bool) (made : List ℕ) (count job n : ℕ) → length made ≡ 8 → count ≤ 8 →
    length (filter p (numbers 1 n)) ≤ 8 →
    job ≤ n → p job ≡ true → take count made ++ filter p (numbers job n) ≡ filter p (numbers 1 n) →
    (count < 8) × (take (count + 1) (set made count job) ++ filter p (numbers (job + 1) n) ≡ filter p (numbers 1 n))
gathered-more p made count job n size few all to pass so_far =
    let here : filter p (numbers job n) ≡ job ∷ filter p (numbers (job + 1) n) = filter-here p job n to pass in
    let room : count < 8 =
    omega (
      arith,
      few,
      all,
      size,
      length-take count made,
      ap length so_far,
      length-append (take count made) (filter p
          (numbers job n)),
      ap length here,
    ) in (
      room,
      ap (λ xs. xs ++ filter p (numbers (job + 1) n)) (take_more_set made count job (omega (arith, size, room)))
          ∙ append_assoc (take count made) (job ∷ []) (filter p (numbers (job + 1) n))
          ∙ ap (λ xs. take count made ++ xs) (sym here)
          ∙ so_far,
    )

-- all of them, where there are no more
pub gathered-all : (p : ℕ → Bool) (made : List ℕ) (left count job n : ℕ) → length made ≡ 8 → count ≤ 8 →
    length (filter p (numbers 1 n)) ≡ left → (job ≡ n + 1) ⊎ (count ≡ left) →
    take count made ++ filter p (numbers job n) ≡ filter p (numbers 1 n) → take left made ≡ filter p (numbers 1 n)
gathered-all p made left count job n size few all end so_far =
    let sizes : count + length (filter p (numbers job n)) ≡ left =
    omega (
      arith,
      ap length so_far,
      length-append (take count made) (filter p (numbers job n)),
      length-take count made,
      size,
      few,
      all,
    ) in
    let none : filter p (numbers job n) ≡ [] =
    elim end [
      | inl past ↦ ap (λ k. filter p (numbers k n)) past ∙ ap (filter p) (numbers-none n)
      | inr whole ↦ nil_from_length (filter p (numbers job n)) (omega (arith, sizes, whole))
    ] in
    let long : left ≡ count = omega (arith, sizes, ap length none) in
    ap (λ k. take k made) long ∙ sym (append-nil (take count made)) ∙ ap (λ xs. take count made ++ xs) (sym none)
    ∙ so_far

-- how many jobs are left at a node
pub count-is : (shop : Shop) (node front : List ℕ) (unscheduled : List Bool) (count : ℕ) →
    IsAt shop node front unscheduled count →
    length (filter (contains unscheduled) (numbers 1 shop.jobs)) ≡ count
count-is shop node front unscheduled count at =
    ap length (left-is shop node front unscheduled count at ∙ sym (members-are shop node front unscheduled count at))
    ∙ left-count shop node front unscheduled count at

-- the jobs that were gathered at a node
pub few-at : (shop : Shop) (node front : List ℕ) (unscheduled : List Bool) (count : ℕ) (made : List ℕ) →
    IsAt shop node front unscheduled count → count ≤ 8 →
    take count made ≡ filter (contains unscheduled) (numbers 1 shop.jobs) →
    IsFew shop node front (take count made)
few-at shop node front unscheduled count made at few is =
    let size = count-is shop node front unscheduled count at in
    record {
      few = omega (arith, ap length is, size, few);
      left = is ∙ left-is shop node front unscheduled count at;
      count = omega (arith, ap length is, size, at.whole);
      times = at.is_front;
    }
