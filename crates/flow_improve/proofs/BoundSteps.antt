-- The bounds of children: once those of a group are written, and their sums and counts place by place.
use Rattle.std.proofs.Common.{◌≡◌, ℕ, ◌+◌, ◌-◌, ◌*◌, ◌/◌, ◌%◌, ◌<◌, ◌≤◌, Bool, false, nat_lt, List, ◌++◌}
use Rattle.std.proofs.Common.{length, slice_index, take, drop, sum_by, ap, sym, ◌∙◌, arith}
use Rattle.std.specs.List.{count_by}
use Rattle.std.proofs.lemmas.Bool.{lt-ltb, le-ltb}
use Rattle.std.proofs.lemmas.List.{get_or-take, get_or-drop, length-take, length-drop}
use Rattle.std.proofs.lemmas.List.Sums.{sum_by_more, count_by_more_yes, count_by_more_no}
use Rattle.std.proofs.lemmas.List.Elements.{All-get_or}
use Rattle.flow_shop.specs.Shop.{Shop}
use Rattle.flow_shop.specs.Sequences.{has}
use Rattle.flow_shop.specs.declared.end.End.{End}
use Rattle.flow_nodes.specs.Vectors.{capped, HasLane}
use Rattle.flow_nodes.specs.Nodes.{IsJob, IsNode}
use Rattle.flow_nodes.specs.Groups.{AreNames, IsCappedBound, IsGroup, child_bound}
use Rattle.flow_improve.specs.internal.Beams.{IsEntry, job_at}
use Rattle.flow_improve.specs.internal.Opens.{bound_at_end, left_of}
use Rattle.flow_improve.specs.declared.two_ended.entry.Entry.{Entry}

-- the jobs of an entry are those of the instance
pub is-job : (shop : Shop) (entry : Entry) (place : ℕ) → IsEntry shop entry → place < entry.before →
    IsJob shop (job_at entry place)
is-job shop entry place is low =
    All-get_or (λ job. (1 ≤ job) × (job ≤ shop.jobs)) entry.jobs.items place 0
    (omega (arith, low, is.within, is.jobs.whole)) is.jobs.each.range

-- the bound of the child of a job that stands in a group whose lanes are written
pub lane-written : {V : Type 0} (list : V → List ℕ) (cap width : ℕ) (shop : Shop) (entry : Entry) (end : End)
    (group : ℕ) (names : List ℕ) (vectors : List V) (lanes : V) (numbers : List ℕ) (place : ℕ) → width ≡ 16 →
    IsEntry shop entry → entry.first ≤ place → place < entry.before → (job_at entry place - 1) / 16 ≡ group →
    AreNames shop group names → IsGroup list cap width shop names vectors →
    ((shop : Shop) (first last jobs : List ℕ) (lane : ℕ) → IsNode shop first last entry.node →
    IsGroup list cap width shop jobs vectors → lane < width → has (first ++ last) (slice_index jobs lane) ≡ false →
    HasLane cap width (list lanes) lane (child_bound shop end first last (slice_index jobs lane))) →
    ((lane value : ℕ) → lane < 16 → HasLane cap width (list lanes) lane value →
    slice_index numbers (group * 16 + lane) ≡ capped cap value) →
    IsCappedBound shop entry.node end (job_at entry place) cap (slice_index numbers (job_at entry place - 1))
lane-written list cap width shop entry end group names vectors lanes numbers place wide is from low there are of_group
    bounds written first last node fresh =
    let job = job_at entry place in
    let lane = (job - 1) % 16 in
    let known = is-job shop entry place is low in
    let least : 1 ≤ job = known.0 in
    let most : job ≤ shop.jobs = known.1 in
    let few : lane < 16 = omega arith in
    let within : lane < width = omega (arith, few, wide) in
    let at : job - 1 ≡ group * 16 + lane = omega (arith, there) in
    let name : slice_index names lane ≡ job = omega (arith, are lane few, at, least, most) in
    let bound = bounds shop first last names lane node of_group within (ap (has (first ++ last)) name ∙ fresh) in
    ap (slice_index numbers) at ∙ written lane _ few bound
    ∙ ap (λ j. capped cap (child_bound shop end first last j)) name

-- a job among those between the lists of an entry
pub left-at : (jobs : List ℕ) (first place before : ℕ) → first ≤ place → place < before → before ≤ length jobs →
    slice_index (take (before - first) (drop first jobs)) (place - first) ≡ slice_index jobs place
left-at jobs first place before from low within =
    let next : first + (place - first) ≡ place = omega (arith, from) in
    get_or-take (before - first) (drop first jobs) (place - first) 0 (omega (arith, from, low))
    ∙ get_or-drop first jobs (place - first) 0 ∙ ap (slice_index jobs) next

-- how many jobs an entry has between its lists
left-length : (shop : Shop) (entry : Entry) → IsEntry shop entry → length (left_of entry) ≡ entry.before - entry.first
left-length shop entry is =
    omega (
      arith,
      length-take (entry.before - entry.first) (drop entry.first entry.jobs.items),
      length-drop entry.first entry.jobs.items,
      is.order,
      is.within,
      is.jobs.whole,
    )

-- the jobs of an entry between its lists, place by place
module _ (shop : Shop) (entry : Entry) (end : End) (place bound : ℕ) (is : IsEntry shop entry)
    (from : entry.first ≤ place) (low : place < entry.before)
    (bound_is : bound ≡ bound_at_end shop entry end (job_at entry place)) where
  next-place : place + 1 - entry.first ≡ place - entry.first + 1
  next-place = omega (arith, from)

  inside : place - entry.first < length (left_of entry)
  inside = omega (arith, left-length shop entry is, from, low)

  job-is : bound_at_end shop entry end (slice_index (left_of entry) (place - entry.first)) ≡ bound
  job-is =
      ap (bound_at_end shop entry end) (left-at entry.jobs.items entry.first place entry.before from low
      (omega (arith, is.within, is.jobs.whole))) ∙ sym bound_is

  -- one more bound is summed
  pub sum-more : sum_by (bound_at_end shop entry end) (take (place + 1 - entry.first) (left_of entry))
      ≡ sum_by (bound_at_end shop entry end) (take (place - entry.first) (left_of entry)) + bound
  sum-more =
      ap (λ n. sum_by (bound_at_end shop entry end) (take n (left_of entry))) next-place
      ∙ sum_by_more (bound_at_end shop entry end) (left_of entry) (place - entry.first) 0 inside
      ∙ ap (λ n. sum_by (bound_at_end shop entry end) (take (place - entry.first) (left_of entry)) + n) job-is

  -- one more child is below a threshold
  pub count-yes : (threshold : ℕ) → bound < threshold →
      count_by (λ job. nat_lt (bound_at_end shop entry end job) threshold) (take (place + 1 - entry.first) (left_of entry))
      ≡ count_by (λ job. nat_lt (bound_at_end shop entry end job) threshold)
      (take (place - entry.first) (left_of entry)) + 1
  count-yes threshold below =
      let p : ℕ → Bool = λ job. nat_lt (bound_at_end shop entry end job) threshold in
      ap (λ n. count_by p (take n (left_of entry))) next-place
      ∙ count_by_more_yes p (left_of entry) (place - entry.first) 0 inside
      (ap (λ n. nat_lt n threshold) job-is ∙ lt-ltb bound threshold below)

  -- or is not
  pub count-no : (threshold : ℕ) → threshold ≤ bound →
      count_by (λ job. nat_lt (bound_at_end shop entry end job) threshold) (take (place + 1 - entry.first) (left_of entry))
      ≡ count_by (λ job. nat_lt (bound_at_end shop entry end job) threshold) (take (place - entry.first) (left_of entry))
  count-no threshold above =
      let p : ℕ → Bool = λ job. nat_lt (bound_at_end shop entry end job) threshold in
      ap (λ n. count_by p (take n (left_of entry))) next-place
      ∙ count_by_more_no p (left_of entry) (place - entry.first) 0 inside
      (ap (λ n. nat_lt n threshold) job-is ∙ le-ltb bound threshold above)
