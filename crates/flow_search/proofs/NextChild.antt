-- The next child of a node: its job is the first that is left, and the walk goes on with it.
use Rattle.std.proofs.Common.{◌≡◌, ℕ, zero, suc, ◌+◌, ◌-◌, ◌<◌, ◌≤◌, Bool, true, false, cond, not, nat_le, List}
use Rattle.std.proofs.Common.{[], ◌∷◌, ◌++◌, Option, Some, None, length, slice_index_or, refl, ap}
use Rattle.std.proofs.Common.{sym, subst, ◌∙◌, inl, inr, arith, append_assoc, length-append}
use Rattle.std.specs.List.{filter, find, range_with_len}
use Rattle.std.proofs.lemmas.Bool.{not-true}
use Rattle.flow_shop.specs.Shop.{Shop, numbers}
use Rattle.flow_shop.specs.Front.{IsFrontOf}
use Rattle.flow_shop.specs.JobSet.{contains, members}
use Rattle.flow_shop.specs.Sequences.{has, jobs_left}
use Rattle.flow_shop.specs.Bound.{Bound}
use Rattle.flow_shop.proofs.JobsLeft.{bool_cases}
use Rattle.flow_shop.proofs.Taken.{left_from}
use Rattle.flow_bound.specs.Loads.{AreLoadsOf}
use Rattle.flow_search.specs.internal.Walk.{Walk, Incumbent, walk, walk_each}
use Rattle.flow_search.specs.internal.Tails.{second_tail}
use Rattle.flow_search.specs.internal.Nodes.{IsAt}
use Rattle.flow_search.specs.internal.Nodes.{then_walk}
use Rattle.flow_search.specs.internal.Frames.{IsFrame, IsChild, path, walk_from, resume}
use Rattle.flow_search.specs.declared.frame.Frame.{Frame}
use Rattle.flow_search.proofs.Walk.{answer_of}
use Rattle.flow_search.proofs.Nodes.{members-are, left-count}

-- the first of some numbers that pass a test, which agrees with another test on them
next-in : (p q : ℕ → Bool) (a len j : ℕ) → ((k : ℕ) → a ≤ k → k < a + len → p k ≡ q k) →
    Some j ≡ find p (range_with_len a len) →
    (filter q (range_with_len a len) ≡ j ∷ filter q (range_with_len (j + 1) (a + len - (j + 1)))) × (a ≤ j)
    × (j < a + len) × (p j ≡ true)
next-in p q a zero j same e = absurd (cc)
next-in p q a (suc len) j same e =
    let rest : List ℕ = range_with_len (a + 1) len in
    elim (bool_cases (p a)) [
      | inl pass ↦
          let found : Some j ≡ Some a = e ∙ ap (λ b. cond b (Some a) (find p rest)) pass in
          let is : j ≡ a = cc in
          let there : q a ≡ true = sym (same a (omega arith) (omega arith)) ∙ pass in
          let len_is : len ≡ a + suc len - (j + 1) = omega arith in
          let from : a + 1 ≡ j + 1 = omega arith in (
            ap (λ b. cond b (a ∷ filter q rest) (filter q rest)) there
                ∙ ap (λ k. k ∷ filter q rest) (sym is)
                ∙ ap (λ k. j ∷ filter q (range_with_len k len)) from
                ∙ ap (λ k. j ∷ filter q (range_with_len (j + 1) k)) len_is,
            omega arith,
            omega arith,
            ap p is ∙ pass,
          )
      | inr fail ↦
          let there : q a ≡ false = sym (same a (omega arith) (omega arith)) ∙ fail in
          let later = next-in p q (a + 1) len j (λ k low high. same k (omega arith) (omega arith))
          (e ∙ ap (λ b. cond b (Some a) (find p rest)) fail) in
          let len_is : a + 1 + len - (j + 1) ≡ a + suc len - (j + 1) = omega arith in (
            ap (λ b. cond b (a ∷ filter q rest) (filter q rest)) there
                ∙ later.0
                ∙ ap (λ k. j ∷ filter q (range_with_len (j + 1) k)) len_is,
            omega (arith, later.1),
            omega (arith, later.2),
            later.3,
          )
    ]

none-in : (p q : ℕ → Bool) (a len : ℕ) → ((k : ℕ) → a ≤ k → k < a + len → p k ≡ q k) →
    None ≡ find p (range_with_len a len) →
    filter q (range_with_len a len) ≡ []
none-in p q a zero same e = refl
none-in p q a (suc len) same e =
    let rest : List ℕ = range_with_len (a + 1) len in
    elim (bool_cases (p a)) [
      | inl pass ↦
          let found : None ≡ Some a = e ∙ ap (λ b. cond b (Some a) (find p rest)) pass in
          absurd (cc)
      | inr fail ↦
          let there : q a ≡ false = sym (same a (omega arith) (omega arith)) ∙ fail in
          ap (λ b. cond b (a ∷ filter q rest) (filter q rest)) there
          ∙ none-in p q (a + 1) len (λ k low high. same k (omega arith) (omega arith)) (e
          ∙ ap (λ b. cond b (Some a) (find p rest)) fail)
    ]

-- the jobs that a node leaves, where the next one is found in the set of them

pub left-next : (shop : Shop) (node front : List ℕ) (set : List Bool) (count from j : ℕ) →
    IsAt shop node front set count → 1 ≤ from →
    from ≤ shop.jobs + 1 → Some j ≡ find (contains set) (numbers from shop.jobs) →
    (left_from shop.jobs node from ≡ j ∷ left_from shop.jobs node (j + 1)) × IsChild shop.jobs node j × (from ≤ j)
    × (contains set j ≡ true)
left-next shop node front set count from j at low high e =
    let found = next-in (contains set) (λ k. not (has node k)) from (shop.jobs + 1 - from) j
    (λ k a b. at.left k (omega arith) (omega arith)) e in
    let len_is : from + (shop.jobs + 1 - from) - (j + 1) ≡ shop.jobs + 1 - (j + 1) = omega arith in
    let free : not (has node j) ≡ true = sym (at.left j (omega (arith, found.1)) (omega (arith, found.2)))
    ∙ found.3 in (
      found.0 ∙ ap (λ n. j ∷ filter (λ k. not (has node k)) (range_with_len (j + 1) n)) len_is,
      record { from = omega (arith, found.1); to = omega (arith, found.2); fresh = not-true (has node j) free },
      found.1,
      found.3,
    )

pub left-none : (shop : Shop) (node front : List ℕ) (set : List Bool) (count from : ℕ) →
    IsAt shop node front set count → 1 ≤ from →
    from ≤ shop.jobs + 1 → None ≡ find (contains set) (numbers from shop.jobs) → left_from shop.jobs node from ≡ []
left-none shop node front set count from at low high e =
    none-in (contains set) (λ k. not (has node k)) from (shop.jobs
    + 1 - from) (λ k a b. at.left k (omega arith) (omega arith)) e

-- where a part of a text is longer than the budget, the text is
pub longer-part : (budget : ℕ) (now first rest old whole : List ℕ) → budget < length now + length first →
    now ++ (first ++ rest) ≡ old ++ whole → budget < length old + length whole
longer-part budget now first rest old whole over same =
    omega (
      arith,
      over,
      ap length same,
      length-append now (first ++ rest),
      length-append first rest,
      length-append old whole,
    )

-- walks one after another

pub then-assoc : (a : Walk) (f g : Incumbent → Walk) → then_walk (then_walk a f) g ≡ then_walk a
    (λ st. then_walk (f st) g)
then-assoc a f g = ap (λ t. (t, (g (f a.1).1).1)) (append_assoc a.0 (f a.1).0 (g (f a.1).1).0)

pub resume-next : (shop : Shop) (bound : Bound) (root : List ℕ) (left job : ℕ) (here later : Frame) (fs : List Frame)
    (st : Incumbent) →
    left_from shop.jobs (path root fs) here.next ≡ job ∷ left_from shop.jobs (path root fs) (job + 1) →
    later.next ≡ job + 1 →
    resume shop bound root left (here ∷ fs) st
    ≡ then_walk (walk shop bound left (path root fs ++ job ∷ []) st) (resume shop bound root left (later ∷ fs))
resume-next shop bound root left job here later fs st e next =
    let w : ℕ → Incumbent → Walk = λ k. walk shop bound left (path root fs ++ k ∷ []) in
    let more : Incumbent → Walk = resume shop bound root (suc left) fs in
    ap (λ js. then_walk (walk_each w js st) more) e
    ∙ then-assoc (w job st) (walk_each w (left_from shop.jobs (path root fs) (job + 1))) more
    ∙ ap (λ k. then_walk (w job st) (λ s. then_walk (walk_from shop bound left (path root fs) k s) more)) (sym next)

pub resume-none : (shop : Shop) (bound : Bound) (root : List ℕ) (left : ℕ) (here : Frame) (fs : List Frame) (st :
    Incumbent) →
    left_from shop.jobs (path root fs) here.next ≡ [] → resume shop bound root left (here ∷ fs) st
    ≡ resume shop bound root (suc left) fs st
resume-none shop bound root left here fs st e =
    ap (λ js. then_walk (walk_each (λ k. walk shop bound left (path root fs ++ k
    ∷ [])) js st) (resume shop bound root (suc left) fs)) e

-- a frame whose next child is another
abbrev pub moved : Frame → ℕ → Frame
moved here next = record { front = here.front; loads = here.loads; second = here.second; next = next }

pub moved-frame : (shop : Shop) (node : List ℕ) (left : ℕ) (here : Frame) (next : ℕ) → IsFrame shop node left here →
    IsFrame shop node left (moved here next)
moved-frame shop node left here next is =
    record { times = is.times; loads_are = is.loads_are; second_is = is.second_is; count = is.count; some = is.some }

-- a walk writes something
pub walk-some : (shop : Shop) (bound : Bound) (left : ℕ) (node : List ℕ) (st : Incumbent) →
    1 ≤ length (walk shop bound left node st).0
walk-some shop bound zero node st = omega arith
walk-some shop bound (suc left) node st =
    some (walk_each (λ k. walk shop bound left (node ++ k ∷ [])) (jobs_left shop.jobs node) st)
    (find (λ machine. nat_le st.0 (bound shop node machine)) (numbers 1 shop.machines))
  where
    some : (below : Walk) (o : Option ℕ) → 1 ≤ length (answer_of st below o).0
    some below None = omega arith
    some below (Some machine) = omega arith

-- a job that a node leaves
pub kid-of : (shop : Shop) (node front : List ℕ) (set : List Bool) (count job : ℕ) → IsAt shop node front set count →
    1 ≤ job → job ≤ shop.jobs →
    contains set job ≡ true → IsChild shop.jobs node job
kid-of shop node front set count job at low high there =
    record { from = low; to = high; fresh = not-true (has node job) (sym (at.left job low high) ∙ there) }

-- the frame of a node, from its rest
pub frame-of : (shop : Shop) (node front : List ℕ) (set : List Bool) (left : ℕ) (frame : Frame) →
    IsAt shop node front set left →
    IsFrontOf shop node frame.front → AreLoadsOf shop (members set) frame.loads →
    ((machine : ℕ) → 1 ≤ machine → machine ≤ shop.machines →
    slice_index_or frame.second (machine - 1) 0 ≡ second_tail shop (members set) machine) →
    IsFrame shop node left frame
frame-of shop node front set left frame at times rest second =
    let left_is : members set ≡ jobs_left shop.jobs node = members-are shop node front set left at in
    record {
      times = times;
      loads_are = subst (λ js. AreLoadsOf shop js frame.loads) left_is rest;
      second_is = λ machine from to. second machine from to ∙ ap (λ js. second_tail shop js machine) left_is;
      count = at.whole;
      some = ap length (sym left_is) ∙ left-count shop node front set left at;
    }
