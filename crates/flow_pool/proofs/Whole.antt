-- How the facts of the hub and of the workers come together.
use Rattle.std.proofs.Common.{◌≡◌, ℕ, ◌<◌, ◌≤◌, List, [], ◌∷◌, ◌++◌, length, map, get_or, refl, sym, ap, ◌∙◌, arith}
use Rattle.std.proofs.Common.{length-append, subst, zero-add}
use Rattle.std.specs.Prelude.{All, HoldsAt, slice_index_or, ◌/◌, ◌%◌}
use Rattle.std.proofs.Math.Nat.{mod-lt}
use Rattle.std.specs.List.{range_with_len}
use Rattle.std.proofs.lemmas.List.{length-map, get_or-map, append_cancel_right}
use Rattle.std.proofs.lemmas.Simd.{map-map}
use Rattle.std.proofs.lemmas.List.Elements.{All-same}
use Rattle.std.proofs.lemmas.List.FromFn.{fill_by_all, length-map-range_with_len, get_or-map-range_with_len}
use Rattle.std.proofs.lemmas.List.FromFn.{length-range_with_len, get_or-range_with_len}
use Rattle.flow_shop.proofs.Lists.{some-of}
use Rattle.flow_search.specs.declared.outcome.Outcome.{Outcome}
use Rattle.flow_search.specs.Plans.{Planned}
use Rattle.flow_search.specs.Outcomes.{IsLawful, AreLawful, IsDone}
use Rattle.flow_lanes.specs.Lane.{Lane}
use Rattle.flow_lanes.specs.declared.settled.Settled.{Settled}
use Rattle.flow_pool.specs.declared.messages.Task.{Task}
use Rattle.flow_pool.specs.declared.messages.Task.TheVariants.{End}
use Rattle.flow_pool.specs.declared.messages.Answer.{Answer}
use Rattle.flow_pool.specs.declared.lane_ends.HubEnds.{HubEnds}
use Rattle.flow_pool.specs.declared.lane_ends.WorkerEnds.{WorkerEnds}
use Rattle.flow_pool.specs.Report.{run_slots}
use Rattle.flow_pool.specs.Deal.{dealt, by_worker}
use Rattle.flow_pool.specs.Work.{share, asking, tasks_of, prefix_count, answered, IsLawfulAnswer}
use Rattle.flow_pool.specs.internal.Start.{IsServed}
use Rattle.flow_pool.specs.Hub.{HasCollected, hub_lanes, sent_lists, received_lists}
use Rattle.flow_pool.specs.internal.HubSteps.{hub_slots, HasDealt, HasDirected}
use Rattle.flow_pool.specs.internal.Settling.{IsCollected, ends_once, worker_tasks, worker_answers, pair_lanes}
use Rattle.flow_pool.specs.internal.Settling.{pair_tasks, pair_answers, IsReceived}
use Rattle.flow_pool.specs.Report.{IsDoneAnswer, AreWholeWork}
use Rattle.flow_pool.proofs.Undeal.{same_from_dealt, All-from_dealt, length-dealt_from, All-dealt_from}
use Rattle.flow_pool.proofs.Turns.{get_or-dealt}
use Rattle.flow_pool.proofs.Settles.{ends_once-asking, asking-injective}

-- lists that give the same list are of one length
pub same-length : {X Y Z : Type 0} (f : X → Z) (g : Y → Z) (xs : List X) (ys : List Y) → map f xs ≡ map g ys →
    length xs ≡ length ys
same-length f g xs ys e = sym (length-map xs f) ∙ (ap length e ∙ length-map ys g)

pub by_worker-length : {X Y : Type 0} (f : X → Y) (g : ℕ → Y) (xs : List X) (k : ℕ) → map f xs ≡ by_worker k g →
    length xs ≡ k
by_worker-length {X} {Y} f g xs k e =
    let both : length (map f xs) ≡ length (by_worker k g) = ap length e in
    let left : length (map f xs) ≡ length xs = rw length-map refl in
    omega (arith, length-map-range_with_len g 0 k)

-- what is so of the lists is so of each element
pub by_worker-at : {X Y : Type 0} (f : X → Y) (g : ℕ → Y) (xs : List X) (k : ℕ) → map f xs ≡ by_worker k g →
    (i : ℕ) (d : X) → i < length xs → f (get_or xs i d) ≡ g i
by_worker-at {X} {Y} f g xs k e i d l =
    let long = by_worker-length f g xs k e in
    sym (get_or-map f xs i d (f d) l)
    ∙ (ap (λ ys. get_or ys i (f d)) e ∙ get_or-map-range_with_len g 0 k i i (f d) (omega arith) (omega arith))

-- and the other way round
by_worker-from_at : {X Y : Type 0} (f : X → Y) (g : ℕ → Y) (xs : List X) (k : ℕ) (e : Y) → length xs ≡ k →
    ((i : ℕ) (d : X) → i < length xs → f (get_or xs i d) ≡ g i) → map f xs ≡ by_worker k g
by_worker-from_at {X} {Y} f g xs k e long at =
    let left : length (map f xs) ≡ length xs = rw length-map refl in
    fill_by_all g (map f xs) k e (left ∙ long) (λ i l.
    let within : i < length xs = omega arith in
    let d = some-of xs (omega arith) in
    get_or-map f xs i d e within ∙ at i d within)

-- a worker's turns have as many answers as its share has prefixes
length-dealt-share : (k n worker : ℕ) (answers : List Answer) → length answers ≡ n →
    length (dealt k worker answers) ≡ length (share k n worker)
length-dealt-share k n worker answers long =
    length-dealt_from k worker 0 answers (range_with_len 0 n) (long ∙ sym (length-range_with_len 0 n))

-- the hub has sent each worker one end, and taken an answer for each prefix that it sent
pub All-IsCollected : (k : ℕ) (before hubs : List HubEnds) (answers : List Answer) →
    HasDealt k before hubs answers → All IsCollected hubs
All-IsCollected k before hubs answers has i d l =
    let n = length answers in
    let numbers = share k n i in
    let sent : (get_or hubs i d).tasks.sent ≡ asking numbers ++ End ∷ [] =
    by_worker-at (λ (h : HubEnds). h.tasks.sent) (tasks_of k n) hubs k has.sent i d l in
    let got : (get_or hubs i d).answers.received ≡ dealt k i answers =
    by_worker-at (λ (h : HubEnds). h.answers.received) (λ worker. dealt k worker answers) hubs k has.received i d l in
    let as_many : length (dealt k i answers) ≡ length numbers = length-dealt-share k n i answers refl in
    let asked : length (asking numbers) ≡ length numbers = rw length-map refl in
    record {
      ends = ap ends_once sent ∙ ends_once-asking numbers;
      count = ap length sent ∙ omega (arith, length-append (asking numbers) (End ∷ []), ap length got);
    }

-- each worker has answered just its share
pub answered-by_worker : (plan : Planned) (before hubs : List HubEnds) (ends : List WorkerEnds) (answers : List Answer)
    → HasDealt plan.options.workers before hubs answers → All (IsServed plan) ends →
    map worker_tasks ends ≡ sent_lists hubs
    → map (λ e. answered (worker_answers e)) ends
    ≡ by_worker plan.options.workers (share plan.options.workers (length answers))
answered-by_worker plan before hubs ends answers has served same =
    let k = plan.options.workers in
    let n = length answers in
    let tasks : map worker_tasks ends ≡ by_worker k (tasks_of k n) = same ∙ has.sent in
    by_worker-from_at (λ (e : WorkerEnds). answered (worker_answers e)) (share k n) ends k []
    (by_worker-length worker_tasks (tasks_of k n) ends k tasks) (λ i d l.
    let e = get_or ends i d in
    let both : asking (answered (worker_answers e)) ++ End ∷ [] ≡ asking (share k n i) ++ End ∷ [] =
    sym (served i d l).asked ∙ by_worker-at worker_tasks (tasks_of k n) ends k tasks i d l in
    asking-injective _ _ (append_cancel_right _ _ (End ∷ []) both))

-- item i of the answers has number i
pub answered-in_order : (plan : Planned) (before hubs : List HubEnds) (ends : List WorkerEnds) (answers : List Answer)
    → HasDealt plan.options.workers before hubs answers → All (IsServed plan) ends →
    map worker_tasks ends ≡ sent_lists hubs → map worker_answers ends ≡ received_lists hubs → 0 < plan.options.workers
    → answered answers ≡ range_with_len 0 (length answers)
answered-in_order plan before hubs ends answers has served same_tasks same_answers some =
    let k = plan.options.workers in
    let n = length answers in
    let numbers = answered-by_worker plan before hubs ends answers has served same_tasks in
    let long = by_worker-length (λ (e : WorkerEnds). answered (worker_answers e)) (share k n) ends k numbers in
    let d = some-of ends (omega arith) in
    same_from_dealt (λ (a : Answer). a.number) k 0 answers (range_with_len 0 n) some (sym
    (length-range_with_len 0 n)) (λ worker l.
    let within : worker < length ends = omega arith in
    ap answered (sym (by_worker-at worker_answers (λ worker'. dealt k worker' answers) ends k (same_answers
    ∙ has.received) worker d within))
    ∙ by_worker-at (λ (e : WorkerEnds). answered (worker_answers e)) (share k n) ends k numbers worker d within)

-- each answer is lawful
pub All-IsLawfulAnswer : (plan : Planned) (before hubs : List HubEnds) (ends : List WorkerEnds) (answers : List Answer)
    → HasDealt plan.options.workers before hubs answers → All (IsServed plan) ends →
    map worker_answers ends ≡ received_lists hubs → 0 < plan.options.workers
    → All (IsLawfulAnswer plan) answers
All-IsLawfulAnswer plan before hubs ends answers has served same some =
    let k = plan.options.workers in
    let got : map worker_answers ends ≡ by_worker k (λ worker. dealt k worker answers) = same ∙ has.received in
    let long = by_worker-length worker_answers (λ worker. dealt k worker answers) ends k got in
    let d = some-of ends (omega arith) in
    All-from_dealt (IsLawfulAnswer plan) k 0 answers some (λ worker l.
    let within : worker < length ends = omega arith in
    All-same (IsLawfulAnswer plan) _ _ (sym (by_worker-at worker_answers
    (λ worker'. dealt k worker' answers) ends k got worker d within)) (served worker d within).lawful)

-- both, once all lanes are settled
pub answers-of-run : (plan : Planned) (before hubs : List HubEnds) (ends : List WorkerEnds) (answers : List Answer)
    (lanes : List (Settled Task × Settled Answer))
    → HasDealt plan.options.workers before hubs answers → All (IsServed plan) ends
    → (map pair_tasks lanes ≡ sent_lists hubs) × (map pair_tasks lanes ≡ map worker_tasks ends)
    → (map pair_answers lanes ≡ received_lists hubs) × (map pair_answers lanes ≡ map worker_answers ends) →
    0 < plan.options.workers
    → (answered answers ≡ range_with_len 0 (length answers)) × All (IsLawfulAnswer plan) answers
answers-of-run plan before hubs ends answers lanes has served tasks got some =
    let same_answers = sym got.1 ∙ got.0 in (
      answered-in_order plan before hubs ends answers has served (sym tasks.1 ∙ tasks.0) same_answers some,
      All-IsLawfulAnswer plan before hubs ends answers has served same_answers some,
    )

-- the number of an answer is its place
number-at : (answers : List Answer) → answered answers ≡ range_with_len 0 (length answers) →
    (i : ℕ) (d : Answer) → i < length answers → (get_or answers i d).number ≡ i
number-at answers numbers i d within =
    sym (get_or-map (λ (b : Answer). b.number) answers i d 0 within)
    ∙ (ap (λ ns. get_or ns i 0) numbers ∙ (get_or-range_with_len 0 (length answers) i 0 within ∙ zero-add i))

-- outcome i is lawful for prefix i
pub AreLawful-outcomes : (plan : Planned) (answers : List Answer) (outcomes : List Outcome) →
    length answers ≤ prefix_count plan → answered answers ≡ range_with_len 0 (length answers)
    → All (IsLawfulAnswer plan) answers → outcomes ≡ map (λ a. a.outcome) answers → AreLawful plan outcomes
AreLawful-outcomes plan answers outcomes few numbers lawful same i d l =
    let as_many : length (map (λ (a : Answer). a.outcome) answers) ≡ length answers = rw length-map refl in
    let within : i < length answers = omega (arith, ap length same) in
    let da = some-of answers (omega arith) in
    let a = get_or answers i da in
    let number : a.number ≡ i = number-at answers numbers i da within in
    let outcome : get_or outcomes i d ≡ a.outcome = ap (λ os. get_or os i d) same
    ∙ get_or-map (λ (b : Answer). b.outcome) answers i da d within in
    let here : IsLawful plan a.number a.outcome = (lawful i da within).within (omega arith) in
    let P : ℕ → Type 0 = λ m. IsLawful plan m a.outcome in
    let Q : Outcome → Type 0 = λ o. IsLawful plan i o in
    subst Q (sym outcome) (subst P number here)

-- the outcomes of a run are lawful, and as many as its answers
pub lawful-outcomes : (plan : Planned) (before hubs : List HubEnds) (ends : List WorkerEnds) (answers : List Answer)
    (lanes : List (Settled Task × Settled Answer)) (outcomes : List Outcome)
    → HasDirected plan before hubs answers → All (IsServed plan) ends
    → (map pair_tasks lanes ≡ sent_lists hubs) × (map pair_tasks lanes ≡ map worker_tasks ends)
    → (map pair_answers lanes ≡ received_lists hubs) × (map pair_answers lanes ≡ map worker_answers ends) →
    0 < plan.options.workers → outcomes ≡ map (λ a. a.outcome) answers
    → AreLawful plan outcomes × (length outcomes ≡ length answers)
lawful-outcomes plan before hubs ends answers lanes outcomes has served tasks got some same =
    let run = answers-of-run plan before hubs ends answers lanes has.dealt served tasks got some in
    let as_many : length (map (λ (a : Answer). a.outcome) answers) ≡ length answers = rw length-map refl in
    (AreLawful-outcomes plan answers outcomes has.few run.0 run.1 same, ap length same ∙ as_many)

-- each answer is done, and lawful
pub All-IsDoneAnswer : (plan : Planned) (answers : List Answer) (outcomes : List Outcome) →
    length answers ≤ prefix_count plan → answered answers ≡ range_with_len 0 (length answers)
    → All (IsLawfulAnswer plan) answers → outcomes ≡ map (λ a. a.outcome) answers → All IsDone outcomes →
    All (IsDoneAnswer plan) answers
All-IsDoneAnswer plan answers outcomes few numbers lawful same done i da within =
    let as_many : length (map (λ (a : Answer). a.outcome) answers) ≡ length answers = rw length-map refl in
    let a = get_or answers i da in
    let number : a.number ≡ i = number-at answers numbers i da within in
    let outcome : get_or outcomes i da.outcome ≡ a.outcome = ap (λ os. get_or os i da.outcome) same
    ∙ get_or-map (λ (b : Answer). b.outcome) answers i da da.outcome within in
    record {
      lawful = (lawful i da within).within (omega arith);
      done = subst IsDone outcome (done i da.outcome (omega (arith, ap length same)));
    }

-- where the hub has collected, it has dealt all prefixes; and the other way round
HasDealt-collected : (plan : Planned) (before hubs : List HubEnds) (answers : List Answer) →
    HasCollected plan before hubs answers → HasDealt plan.options.workers before hubs answers
HasDealt-collected plan before hubs answers has =
    let k = plan.options.workers in
    record {
      lanes = has.lanes;
      sent = has.sent ∙ ap (λ m. by_worker k (tasks_of k m)) (sym has.count);
      received = has.received;
    }

pub HasCollected-dealt : (plan : Planned) (before hubs : List HubEnds) (answers : List Answer) →
    HasDealt plan.options.workers before hubs answers → length answers ≡ prefix_count plan →
    HasCollected plan before hubs answers
HasCollected-dealt plan before hubs answers has all =
    let k = plan.options.workers in
    record {
      lanes = has.lanes;
      sent = has.sent ∙ ap (λ m. by_worker k (tasks_of k m)) all;
      received = has.received;
      count = all;
    }

-- the settled lanes of each worker hold its whole work
pub AreWholeWork-from_parts : (plan : Planned) (before hubs : List HubEnds) (ends : List WorkerEnds)
    (answers : List Answer) (lanes : List (Settled Task × Settled Answer))
    → HasCollected plan before hubs answers → All (IsServed plan) ends → All (IsDoneAnswer plan) answers
    → map pair_tasks lanes ≡ sent_lists hubs → map pair_tasks lanes ≡ map worker_tasks ends
    → map pair_answers lanes ≡ received_lists hubs → map pair_answers lanes ≡ map worker_answers ends
    → All IsReceived lanes → map pair_lanes lanes ≡ map hub_lanes hubs → map hub_slots before
    ≡ by_worker plan.options.workers (λ worker. (run_slots, run_slots))
    → AreWholeWork plan lanes
AreWholeWork-from_parts plan before hubs ends answers lanes has served done t0 t1 a0 a1 back c0 c1 =
    let k = plan.options.workers in
    let n = prefix_count plan in
    let tasks : map pair_tasks lanes ≡ by_worker k (tasks_of k n) = t0 ∙ has.sent in
    let numbers : map (λ (q : Settled Task × Settled Answer). answered (pair_answers q)) lanes
    ≡ by_worker k (share k n) =
    sym (map-map answered pair_answers lanes)
    ∙ (ap (map answered) a1
    ∙ (map-map answered worker_answers ends
    ∙ (answered-by_worker plan before hubs ends answers (HasDealt-collected plan before hubs answers has) served (sym t1
    ∙ t0)
    ∙ ap (λ m. by_worker k (share k m)) has.count))) in
    let got : map pair_answers lanes ≡ by_worker k (λ worker. dealt k worker answers) = a0 ∙ has.received in
    let slots_of : Lane × Lane → ℕ × ℕ = λ q. (q.0.capacity, q.1.capacity) in
    let slots : map (λ (q : Settled Task × Settled Answer). slots_of (pair_lanes q)) lanes
    ≡ by_worker k (λ worker. (run_slots, run_slots)) =
    sym (map-map slots_of pair_lanes lanes)
    ∙ (ap (map slots_of) (c0 ∙ has.lanes) ∙ (map-map slots_of hub_lanes before ∙ c1)) in
    let count : length lanes ≡ k = by_worker-length pair_tasks (tasks_of k n) lanes k tasks in
    record {
      count = count;
      each = λ worker within d.
          let here : worker < length lanes = omega arith in
          let both = by_worker-at (λ (q : Settled Task
          × Settled Answer). slots_of (pair_lanes q)) (λ worker.
          (run_slots, run_slots)) lanes k slots worker d here in
          record {
            tasks = by_worker-at pair_tasks (tasks_of k n) lanes k tasks worker d here;
            numbers = by_worker-at (λ (q : Settled Task
                × Settled Answer). answered (pair_answers q)) (share k n) lanes k numbers worker d here;
            answers = All-same (IsDoneAnswer plan) _ _ (by_worker-at pair_answers
                (λ worker. dealt k worker answers) lanes k got worker d here) (All-dealt_from
                (IsDoneAnswer plan) k worker 0 answers done);
            received = back worker d here;
            slots = (ap (λ (s : ℕ × ℕ). s.0) both, ap (λ (s : ℕ × ℕ). s.1) both);
          };
    }

-- as many answers came from each worker as it was sent prefixes
pub answers-as_many : (plan : Planned) (before hubs : List HubEnds) (answers : List Answer) →
    HasCollected plan before hubs answers → (worker : ℕ) → worker < plan.options.workers
    → HoldsAt (λ h. length h.answers.received
    ≡ length (share plan.options.workers (prefix_count plan) worker)) hubs worker
answers-as_many plan before hubs answers has worker within h =
    let k = plan.options.workers in
    let long = by_worker-length (λ (h' : HubEnds). h'.answers.received)
    (λ worker. dealt k worker answers) hubs k has.received in
    ap length (by_worker-at (λ (h' : HubEnds). h'.answers.received)
    (λ worker. dealt k worker answers) hubs k has.received worker h (omega arith))
    ∙ length-dealt-share k (prefix_count plan) worker answers has.count

-- answer i is answer i / k of worker i % k
pub answer-in_turn : (plan : Planned) (before hubs : List HubEnds) (answers : List Answer) →
    HasCollected plan before hubs answers → 0 < plan.options.workers → (i : ℕ) (d : Answer) → i < length answers
    → HoldsAt (λ h. slice_index_or h.answers.received (i / plan.options.workers) d
    ≡ slice_index_or answers i d) hubs (i % plan.options.workers)
answer-in_turn plan before hubs answers has some i d l h =
    let k = plan.options.workers in
    let long = by_worker-length (λ (h' : HubEnds). h'.answers.received)
    (λ worker. dealt k worker answers) hubs k has.received in
    let within : i % k < length hubs = (let m = mod-lt i some in omega arith) in
    ap (λ xs. slice_index_or xs (i / k) d) (by_worker-at (λ (h' : HubEnds). h'.answers.received)
    (λ worker. dealt k worker answers) hubs k has.received (i % k) h within)
    ∙ get_or-dealt k answers i d some l
