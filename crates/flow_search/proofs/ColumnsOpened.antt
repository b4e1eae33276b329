-- The nodes of children.
use Rattle.std.proofs.Common.{◌≡◌, ◌≢◌, ℕ, ◌+◌, ◌-◌, ◌<◌, ◌≤◌, false, List, [], ◌∷◌, ◌++◌, length, nat_eq, slice_index}
use Rattle.std.proofs.Common.{slice_index_or, set, refl, ap, sym, ◌∙◌, inl, inr, arith, length-append}
use Rattle.std.specs.List.{filter, range_with_len, sum_by}
use Rattle.std.proofs.lemmas.Bool.{cases_eq, cases_order, false≢true, ne_eqb}
use Rattle.std.proofs.lemmas.List.{get_or-set_other, get_or-set_same}
use Rattle.flow_shop.specs.Shop.{Shop, time}
use Rattle.flow_shop.specs.Paths.{completion}
use Rattle.flow_shop.specs.Sequences.{has, jobs_left}
use Rattle.flow_shop.specs.Bound.{Bound}
use Rattle.flow_shop.proofs.JobsLeft.{bool_cases}
use Rattle.flow_search.specs.declared.few_left.group.TheConstants.{GONE}
use Rattle.flow_search.specs.declared.few_left.group.MachineRow.{MachineRow}
use Rattle.flow_search.specs.declared.few_left.group.Group.{Group}
use Rattle.flow_search.specs.declared.few_left.group.ColumnFrame.{ColumnFrame}
use Rattle.flow_search.specs.internal.Columns.{IsColumnLeft, IsFrameOf, IsOpened, IsTested, job_of, child, columns_of}
use Rattle.flow_search.proofs.Increasing.{without-one, places-gone, size-filter}
use Rattle.flow_shop.proofs.Taken.{left-sum, left-count, has-other, has-more, has-same}

-- a node that differs in the answers only
at-same : (shop : Shop) (list : List ℕ) (group : Group) (a b : ColumnFrame) → b.front ≡ a.front → b.sum ≡ a.sum →
    b.gone ≡ a.gone → b.columns ≡ a.columns → IsFrameOf shop list group a → IsFrameOf shop list group b
at-same shop list group a b front sum gone columns at =
    let back : (column : ℕ) → IsColumnLeft b column → IsColumnLeft a column =
    λ column left. record { within = left.within; left = sym (ap (λ g. slice_index g column) gone) ∙ left.left } in
    record {
      count = at.count;
      times = λ machine from to. ap (λ f. slice_index f (machine - 1)) front ∙ at.times machine from to;
      sums = λ machine from to. ap (λ f. slice_index f (machine - 1)) sum ∙ at.sums machine from to;
      gone = λ column low. elim (at.gone column low) [
        | inl none ↦ inl (ap (λ g. slice_index g column) gone ∙ none)
        | inr whole ↦ inr (ap (λ g. slice_index g column) gone ∙ whole)
      ];
      small = at.small;
      from = λ column left. at.from column (back column left);
      to = λ column left. at.to column (back column left);
      fresh = λ column left. at.fresh column (back column left);
      rows = λ row column machine left. at.rows row column machine (back column left);
      each = λ job low high fresh.
          let stands = at.each job low high fresh in (
            stands.0,
            record {
              within = stands.1.within;
              left = ap (λ g. slice_index g stands.0) gone
                  ∙ stands.1.left;
            },
            stands.2,
          );
      order = λ column other here there. at.order column other (back column here) (back other there);
      columns = λ place low.
          let same : columns_of b ≡ columns_of a =
          ap (λ g. filter (λ column. nat_eq (slice_index g column) 0) (range_with_len 0 8)) gone in
          ap (λ xs. slice_index xs place) columns ∙ at.columns place (omega (arith, low, ap length same))
          ∙ ap (λ xs. slice_index xs place) (sym same);
    }

pub opened-same : (shop : Shop) (list : List ℕ) (group : Group) (a b : ColumnFrame) → b.front ≡ a.front →
    b.sum ≡ a.sum →
    b.gone ≡ a.gone → b.columns ≡ a.columns → IsFrameOf shop list group a →
    ((place column : ℕ) → IsColumnLeft a column → place < shop.machines →
    slice_index (slice_index_or b.free place []) column ≡ completion shop (child list group column) (place + 1)) →
    IsOpened shop list group b
opened-same shop list group a b front sum gone columns at free = record {
  at = at-same shop list group a b front sum gone columns at;
  free = λ place column left. free place column (record {
    within = left.within;
    left =
        sym (ap (λ g. slice_index g column) gone) ∙ left.left;
  });
}

-- a job that is left fits into what is load
pub time-within : (shop : Shop) (list : List ℕ) (group : Group) (frame : ColumnFrame) (row : MachineRow)
    (column place : ℕ) →
    IsFrameOf shop list group frame → IsColumnLeft frame column → place < shop.machines →
    slice_index frame.sum place ≡ slice_index (slice_index_or group.rows place row).time column
    + sum_by (λ job. time shop job (place + 1)) (jobs_left shop.jobs (child list group column))
time-within shop list group frame row column place at here to =
    let e : place + 1 - 1 ≡ place = omega arith in
    let low : 1 ≤ place + 1 = omega arith in
    let high : place + 1 ≤ shop.machines = omega (arith, to) in
    let load = sym (ap (slice_index frame.sum) e) ∙ at.sums (place + 1) low high in
    let row_is : slice_index (slice_index_or group.rows place row).time column
    ≡ time shop (job_of group column) (place + 1) =
    sym (ap (λ k. slice_index (slice_index_or group.rows k row).time column) e)
    ∙ (at.rows row column (place + 1) here low high).time in
    let sum = left-sum (λ job. time shop job (place
    + 1)) shop.jobs list (job_of group column) (at.from column here) (at.to column here) (at.fresh column here) in
    omega (arith, load, row_is, sum)

pub child-at : (shop : Shop) (list : List ℕ) (group : Group) (parent made : ColumnFrame) (row : MachineRow)
    (column place : ℕ) → IsOpened shop list group parent → IsColumnLeft parent column →
    place < length (columns_of parent) → slice_index (columns_of parent) place ≡ column →
    ((k : ℕ) → k < shop.machines → slice_index made.front k ≡ slice_index (slice_index_or parent.free k []) column) →
    ((k : ℕ) → k < shop.machines → slice_index made.sum k
    ≡ slice_index parent.sum k - slice_index (slice_index_or group.rows k row).time column) →
    made.gone ≡ set parent.gone column GONE → length parent.gone ≡ 8 →
    ((k : ℕ) → k < place → k < 8 → slice_index made.columns k ≡ slice_index parent.columns k) →
    ((k : ℕ) → place ≤ k → k < 7 → slice_index made.columns k ≡ slice_index parent.columns (k + 1)) →
    IsFrameOf shop (child list group column) group made
child-at shop list group parent made row column place is here stands column_is front sum gone size before behind =
    let at : IsFrameOf shop list group parent = is.at in
    let job : ℕ = job_of group column in
    let there : slice_index made.gone column ≡ GONE = ap (λ g. slice_index g column) gone
    ∙ get_or-set_same parent.gone column GONE 0 (omega (arith, size, here.within)) in
    let elsewhere : (k : ℕ) → k ≢ column → slice_index made.gone k ≡ slice_index parent.gone k =
    λ k other. ap (λ g. slice_index g k) gone ∙ get_or-set_other parent.gone column k GONE 0 other in
    let apart : (k : ℕ) → IsColumnLeft made k → k ≢ column =
    λ k left e. omega (arith, there, left.left, ap (slice_index made.gone) e) in
    let back : (k : ℕ) → IsColumnLeft made k → IsColumnLeft parent k =
    λ k left. record { within = left.within; left = sym (elsewhere k (apart k left)) ∙ left.left } in
    let differ : (k : ℕ) → IsColumnLeft made k → job_of group k ≢ job = λ k left e. elim (cases_order k column) [
      | inl same ↦ apart k left same
      | inr two ↦ elim two [
        | inl less ↦ omega (arith, e, at.order k column (back k left) here less)
        | inr more ↦ omega (arith, e, at.order column k here (back k left) more)
      ]
    ] in
    record {
      count = omega (
        arith,
        at.count,
        length-append list (job
            ∷ []),
        left-count shop.jobs list job (at.from column here) (at.to column here) (at.fresh column here),
      );
      times = λ machine from to.
          let e : machine - 1 + 1 ≡ machine = omega (arith, from) in
          let low : machine - 1 < shop.machines = omega (arith, from, to) in
          front (machine - 1) low ∙ is.free (machine - 1) column here low
          ∙ ap (completion shop (child list group column)) e;
      sums = λ machine from to.
          let e : machine - 1 + 1 ≡ machine = omega (arith, from) in
          let low : machine - 1 < shop.machines = omega (arith, from, to) in
          let whole = time-within shop list group parent row column (machine - 1) at here low in
          let same : sum_by (λ j. time shop j (machine - 1 + 1)) (jobs_left shop.jobs (child list group column))
          ≡ sum_by (λ j. time shop j machine) (jobs_left shop.jobs (child list group column)) =
          ap (λ m. sum_by (λ j. time shop j m) (jobs_left shop.jobs (child list group column))) e in
          omega (arith, sum (machine - 1) low, whole, same);
      gone = λ k low. elim (cases_eq k column) [
        | inl same ↦ inr (ap (slice_index made.gone) same ∙ there)
        | inr other ↦ elim (at.gone k low) [
          | inl none ↦ inl (elsewhere k other
              ∙ none)
          | inr was ↦ inr (elsewhere k other ∙ was)
        ]
      ];
      small = at.small;
      from = λ k left. at.from k (back k left);
      to = λ k left. at.to k (back k left);
      fresh = λ k left. has-other list job (job_of group k) (differ k left) ∙ at.fresh k (back k left);
      rows = λ r k machine left. at.rows r k machine (back k left);
      each = λ j low high fresh.
          let before : has list j ≡ false =
          elim (bool_cases (has list j)) [
            | inl old ↦ absurd (false≢true (sym fresh
                ∙ has-more list job j old))
            | inr none ↦ none
          ] in
          let stands = at.each j low high before in
          let other : stands.0 ≢ column =
          λ e. false≢true (sym fresh ∙ ap (has (list ++ job ∷ [])) (sym stands.2 ∙ ap (job_of group) e)
          ∙ has-same list job) in
          (stands.0, record { within = stands.1.within; left = elsewhere stands.0 other ∙ stands.1.left }, stands.2);
      order = λ k other a b. at.order k other (back k a) (back other b);
      columns = places-gone parent.columns made.columns (columns_of parent) (columns_of made) place at.columns
          (without-one (λ k. nat_eq (slice_index parent.gone k) 0) (λ k. nat_eq (slice_index made.gone k) 0) 0 8 place
          column (λ k other. ap (λ n. nat_eq n 0) (elsewhere k other))
          (ne_eqb (slice_index made.gone column) 0 (λ none. omega (arith, none, there))) stands column_is)
          stands (size-filter (λ k. nat_eq (slice_index parent.gone k) 0) 0 8) before behind;
    }

-- a node whose next column is another
abbrev pub moved-column : ColumnFrame → ℕ → ColumnFrame
moved-column frame next = record {
  free = frame.free;
  front = frame.front;
  sum = frame.sum;
  gone = frame.gone;
  unpruned = frame.unpruned;
  value = frame.value;
  columns = frame.columns;
  next = next;
}

pub tested-moved : (shop : Shop) (bound : Bound) (list : List ℕ) (group : Group) (frame : ColumnFrame) (next : ℕ) →
    IsTested shop bound list group frame → IsTested shop bound list group (moved-column frame next)
tested-moved shop bound list group frame next is = record {
  opened = opened-same shop list group frame (moved-column frame next) refl refl refl refl is.opened.at is.opened.free;
  unpruned = λ column other here there.
      is.unpruned column other (record { within = here.within; left = here.left })
      (record { within = there.within; left = there.left });
}
