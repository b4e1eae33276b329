-- The walk of a node's children with a stack of frames is the walk of the definition.
use Rattle.std.proofs.Common.{◌≡◌, ◌≢◌, ℕ, suc, ◌+◌, ◌-◌, ◌<◌, ◌≤◌, Bool, true, false, not, nat_le, List}
use Rattle.std.proofs.Common.{[], ◌∷◌, ◌++◌, Some, None, length, slice_index_or, slice_set, refl, ap}
use Rattle.std.proofs.Common.{sym, subst, ◌∙◌, inl, inr, arith, append_assoc}
use Rattle.std.specs.List.{find}
use Rattle.std.proofs.lemmas.Bool.{cases_lt}
use Rattle.std.proofs.lemmas.Bool.Decides.{eqb_tells}
use Rattle.std.proofs.lemmas.List.{append-nil, get_or-set_other, get_or-set_same, ext_get_or, length-set}
use Rattle.flow_limits.specs.Limits.{most_jobs}
use Rattle.flow_shop.specs.Shop.{Shop, numbers}
use Rattle.flow_shop.specs.Front.{IsFrontOf}
use Rattle.flow_shop.specs.JobSet.{contains, members}
use Rattle.flow_shop.specs.Sequences.{has, jobs_left, AreJobs}
use Rattle.flow_shop.specs.Bound.{Bound, letter, front_of}
use Rattle.flow_shop.proofs.Admissible.{front_of-is}
use Rattle.flow_bound.specs.Loads.{AreLoadsOf}
use Rattle.flow_search.specs.internal.Walk.{Walk, Incumbent, walk, walk_each}
use Rattle.flow_search.specs.internal.Tails.{second_tail}
use Rattle.flow_search.specs.internal.Nodes.{IsAt, Wrote, Entered, Left, Gave, Walked, Opens, walked, incumbent_of}
use Rattle.flow_search.specs.internal.Nodes.{then_walk}
use Rattle.flow_search.specs.internal.Frames.{IsFrame, IsChild, IsStack, IsWalking, path, walk_from, resume}
use Rattle.flow_shop.proofs.Taken.{left_from}
use Rattle.flow_search.specs.declared.frame.Frame.{Frame}
use Rattle.flow_search.specs.declared.state.SearchState.{SearchState}
use Rattle.flow_search.proofs.Walk.{answer_of}
use Rattle.flow_search.proofs.Nodes.{at-child, members-are, left-count, put-back}
use Rattle.flow_shop.proofs.Taken.{has-other}
use Rattle.flow_search.proofs.NextChild.{left-next, left-none, longer-part, resume-next, resume-none, moved}
use Rattle.flow_search.proofs.NextChild.{moved-frame}

-- a child whose subtree was walked
child-walk : (shop : Shop) (bound : Bound) (below job : ℕ) (old in_child : SearchState) → Entered job old in_child →
    walked shop bound below in_child ≡ walk shop bound below (old.node.items ++ job ∷ []) (incumbent_of old)
child-walk shop bound below job old in_child entered =
    ap (λ q. walk shop bound below q (incumbent_of in_child)) entered.node
    ∙ ap (walk shop bound below (old.node.items ++ job ∷ [])) entered.incumbent

pub child-done : (shop : Shop) (bound : Bound) (budget below job : ℕ) (old in_child after new : SearchState) →
    Entered job
    old in_child →
    Walked shop bound budget below in_child after → Left job old.node.items after new → contains old.unscheduled job ≡
    true →
    Gave budget (walk shop bound below (old.node.items ++ job ∷ []) (incumbent_of old)) old new
child-done shop bound budget below job old in_child after new entered w left there =
    let same = child-walk shop bound below job old in_child entered in
    record {
      tree = left.tree ∙ w.tree ∙ ap (λ t. t ++ (walked shop bound below in_child).0) entered.tree
          ∙ ap (λ p. old.tree.items ++ p.0) same;
      incumbent = left.incumbent ∙ w.incumbent ∙ ap (λ p. p.1) same;
      node = left.node;
      unscheduled =
          left.unscheduled
          ∙ ap (λ u. slice_set u (job - 1) true) (w.unscheduled ∙ entered.unscheduled)
          ∙ put-back old.unscheduled (job - 1) there;
      within = subst (λ t. length t ≤ budget) (sym left.tree) w.within;
    }

pub child-over : (shop : Shop) (bound : Bound) (budget below job : ℕ) (old in_child : SearchState) → Entered job old
    in_child →
    budget < length in_child.tree.items + length (walked shop bound below in_child).0 →
    budget < length old.tree.items + length (walk shop bound below (old.node.items ++ job ∷ [])
    (incumbent_of old)).0
child-over shop bound budget below job old in_child entered over =
    omega (
      arith,
      over,
      ap length entered.tree,
      ap (λ w. length w.0) (child-walk shop bound below job old in_child
          entered),
    )

-- a child that a bound prunes
pub pruned-done : (shop : Shop) (bound : Bound) (budget below job machine : ℕ) (old new : SearchState) → below ≢ 0 →
    Some machine ≡ find (λ m. nat_le old.value (bound shop (old.node.items ++ job
    ∷ []) m)) (numbers 1 shop.machines) →
    Wrote budget (64 + machine) old new →
    Gave budget (walk shop bound below (old.node.items ++ job ∷ []) (incumbent_of old)) old new
pruned-done shop bound budget below job machine old new some found w =
    let node : List ℕ = old.node.items ++ job ∷ [] in
    let st : Incumbent = incumbent_of old in
    let more : below ≡ suc (below - 1) = omega arith in
    let cut : walk shop bound below node st ≡ (letter machine ∷ [], st) =
    ap (λ n. walk shop bound n node st) more
    ∙ ap (answer_of st (walk_each (λ k. walk shop bound (below - 1) (node ++ k
    ∷ [])) (jobs_left shop.jobs node) st)) (sym found) in
    record {
      tree = w.tree ∙ ap (λ p. old.tree.items ++ p.0) (sym cut);
      incumbent = w.incumbent ∙ ap (λ p. p.1) (sym cut);
      node = w.node;
      unscheduled = w.unscheduled;
      within = w.within;
    }

-- the jobs left at a node, once its child's job is put back
at-parent : (shop : Shop) (node front : List ℕ) (set : List Bool) (count left job : ℕ) (f : Frame) →
    IsAt shop (node ++ job ∷ []) front set count →
    IsFrame shop node left f → IsChild shop.jobs node job → AreJobs shop.jobs node →
    IsAt shop node f.front (slice_set set (job - 1) true) left
at-parent shop node front set count left job f at frame kid jobs =
    let most : shop.jobs ≤ most_jobs = at.limits.jobs in
    let low : 1 ≤ job = kid.from in
    let high : job ≤ shop.jobs = kid.to in
    let within : job - 1 < length set = omega (arith, at.size) in
    record {
      limits = at.limits;
      whole = frame.count;
      jobs = jobs;
      is_front = frame.times;
      left = λ k from to. elim (eqb_tells k job) [
        | inl same ↦
            ap (contains (slice_set set (job - 1) true)) same.1
            ∙ get_or-set_same set (job - 1) true false within
            ∙ ap not (sym (ap (has node) same.1 ∙ kid.fresh))
        | inr other ↦
            let ne : k ≢ job = other.1 in
            let far : k - 1 ≢ job - 1 = omega arith in
            get_or-set_other set (job - 1) (k - 1) true false far ∙ at.left k from to
            ∙ ap not (has-other node job k ne)
      ];
      none = λ k past.
          let far : k - 1 ≢ job - 1 = omega arith in
          get_or-set_other set (job - 1) (k - 1) true false far ∙ at.none k past;
      size = length-set set (job - 1) true ∙ at.size;
    }

-- the set of the jobs left at a node is one alone
same-set : (shop : Shop) (node front other_front : List ℕ) (set other : List Bool) (count other_count : ℕ) →
    IsAt shop node front set count → IsAt shop node other_front other other_count → set ≡ other
same-set shop node front other_front set other count other_count a b =
    ext_get_or false set other (a.size ∙ sym b.size) (λ i within.
    let e : i + 1 - 1 ≡ i = omega arith in
    ap (λ n. slice_index_or set n false) (sym e) ∙ each (i + 1) (omega arith)
    ∙ ap (λ n. slice_index_or other n false) e)
  where
    each : (k : ℕ) → 1 ≤ k → contains set k ≡ contains other k
    each k low = elim (cases_lt shop.jobs k) [
      | inl past ↦ a.none k past ∙ sym (b.none k past)
      | inr in_range ↦ a.left k low in_range ∙ sym (b.left k low in_range)
    ]

module _ {shop : Shop} {bound : Bound} {budget : ℕ} {root : List ℕ} {whole : List ℕ
    × Incumbent} {old : SearchState} {here : Frame} {below : ℕ} {fs : List Frame} {now : SearchState}
    (i : IsWalking shop bound budget root whole old here below fs now) where
  -- the next child
  pub walking-child : (job : ℕ) → Some job ≡ find (contains now.unscheduled) (numbers here.next shop.jobs) →
      (left_from shop.jobs (path root fs) here.next ≡ job ∷ left_from shop.jobs (path root fs) (job + 1))
      × IsChild shop.jobs (path root fs) job
      × (contains now.unscheduled job ≡ true)
  walking-child job found =
      let next = left-next shop now.node.items here.front now.unscheduled
      (suc below) here.next job i.at i.next i.past found in (
        subst (λ q. left_from shop.jobs q here.next ≡ job ∷ left_from shop.jobs q (job + 1)) i.node next.0,
        subst (λ q. IsChild shop.jobs q job) i.node next.1,
        next.3,
      )

  -- a child's subtree was walked
  pub walking-whole : (job : ℕ) (new : SearchState) →
      Some job ≡ find (contains now.unscheduled) (numbers here.next shop.jobs) →
      Gave budget (walk shop bound below (now.node.items ++ job ∷ []) (incumbent_of now)) now new →
      IsWalking shop bound budget root whole old (moved here (job + 1)) below fs new
  walking-whole job new found gave =
      let kid = walking-child job found in
      let st : Incumbent = incumbent_of now in
      let later : Frame = moved here (job + 1) in
      let first : Walk = walk shop bound below (path root fs ++ job ∷ []) st in
      let first_is : walk shop bound below (now.node.items ++ job ∷ []) st ≡ first =
      ap (λ q. walk shop bound below (q ++ job ∷ []) st) i.node in
      let all : resume shop bound root below (here ∷ fs) st ≡ then_walk first (resume shop bound root below (later ∷
      fs)) =
      resume-next shop bound root below job here later fs st kid.0 refl in
      let after : incumbent_of new ≡ first.1 = gave.incumbent ∙ ap (λ w. w.1) first_is in
      let tree : new.tree.items ≡ now.tree.items ++ first.0 = gave.tree ∙ ap (λ w. now.tree.items ++ w.0) first_is in
      let rest : Incumbent → Walk = resume shop bound root below (later ∷ fs) in
      record {
        at = subst (λ u. IsAt shop new.node.items here.front u (suc below)) (sym gave.unscheduled)
            (subst (λ q. IsAt shop q here.front now.unscheduled (suc below)) (sym gave.node) i.at);
        node = gave.node ∙ i.node;
        frame = moved-frame shop (path root fs) (suc below) here (job + 1) i.frame;
        next = omega arith;
        past = omega (arith, kid.1.to);
        stack = i.stack;
        text =
            ap (λ s. new.tree.items ++ (rest s).0) after
            ∙ ap (λ t. t ++ (rest first.1).0) tree
            ∙ append_assoc now.tree.items first.0 (rest first.1).0
            ∙ ap (λ w. now.tree.items ++ w.0) (sym all)
            ∙ i.text;
        state = ap (λ s. (rest s).1) after ∙ ap (λ w. w.1) (sym all) ∙ i.state;
        many = i.many;
        within = gave.within;
      }

  -- a child's text is longer than the budget
  pub walking-over : (job : ℕ) → Some job ≡ find (contains now.unscheduled) (numbers here.next shop.jobs) →
      budget < length now.tree.items
      + length (walk shop bound below (now.node.items ++ job ∷ []) (incumbent_of now)).0 →
      budget < length old.tree.items + length whole.0
  walking-over job found over =
      let kid = walking-child job found in
      let st : Incumbent = incumbent_of now in
      let first : Walk = walk shop bound below (path root fs ++ job ∷ []) st in
      let rest : Walk = resume shop bound root below (moved here (job + 1) ∷ fs) first.1 in
      let first_is : walk shop bound below (now.node.items ++ job ∷ []) st ≡ first =
      ap (λ q. walk shop bound below (q ++ job ∷ []) st) i.node in
      let all : now.tree.items ++ (first.0 ++ rest.0) ≡ old.tree.items ++ whole.0 =
      ap (λ w. now.tree.items ++ w.0) (sym (resume-next shop bound root below job here (moved here (job
      + 1)) fs st kid.0 refl)) ∙ i.text in
      longer-part budget now.tree.items first.0 rest.0 old.tree.items whole.0
      (subst (λ w. budget < length now.tree.items + length w.0) first_is over) all

  -- the plus of a child is written, and its node entered
  pub walking-down : (job : ℕ) (mid new : SearchState) (child : Frame) →
      Some job ≡ find (contains now.unscheduled) (numbers here.next shop.jobs) → 9 ≤ below →
      Opens shop bound budget job now mid → Entered job mid new →
      IsFrontOf shop (now.node.items ++ job ∷ []) child.front →
      AreLoadsOf shop (members new.unscheduled) child.loads →
      ((machine : ℕ) → 1 ≤ machine → machine ≤ shop.machines →
      slice_index_or child.second (machine - 1) 0 ≡ second_tail shop (members new.unscheduled) machine) →
      child.next ≡ 1 →
      IsWalking shop bound budget root whole old child (below - 1) (moved here (job + 1) ∷ fs) new
  walking-down job mid new child found deep opens entered front rest_given second next =
      let kid = walking-child job found in
      let st : Incumbent = incumbent_of now in
      let more : below ≡ suc (below - 1) = omega (arith, deep) in
      let left : ℕ = below - 1 in
      let later : Frame = moved here (job + 1) in
      let back : job + 1 - 1 ≡ job = omega arith in
      let here_at : path root fs ++ (job + 1 - 1) ∷ [] ≡ now.node.items ++ job ∷ [] =
      ap (λ j. path root fs ++ j ∷ []) back ∙ ap (λ q. q ++ job ∷ []) (sym i.node) in
      let node : new.node.items ≡ now.node.items ++ job ∷ [] = entered.node
      ∙ ap (λ q. q ++ job ∷ []) opens.wrote.node in
      let set : new.unscheduled ≡ slice_set now.unscheduled (job - 1) false = entered.unscheduled
      ∙ ap (λ u. slice_set u (job - 1) false) opens.wrote.unscheduled in
      let st_is : incumbent_of new ≡ st = entered.incumbent ∙ opens.wrote.incumbent in
      let at_kid = at-child shop now.node.items here.front child.front now.unscheduled
      (suc below) below job i.at refl kid.1.from kid.1.to kid.2 front in
      let at_new : IsAt shop new.node.items child.front new.unscheduled (suc left) =
      subst (λ q. IsAt shop q child.front new.unscheduled (suc left)) (sym node)
      (subst (λ u. IsAt shop (now.node.items ++ job ∷ []) child.front u (suc left)) (sym set)
      (subst (IsAt shop (now.node.items ++ job
      ∷ []) child.front (slice_set now.unscheduled (job - 1) false)) more at_kid)) in
      let members_is : members new.unscheduled ≡ jobs_left shop.jobs new.node.items =
      members-are shop new.node.items child.front new.unscheduled (suc left) at_new in
      let left_is : members new.unscheduled ≡ jobs_left shop.jobs (path root (later ∷ fs)) = members_is
      ∙ ap (jobs_left shop.jobs) (node ∙ sym here_at) in
      let first : Walk = walk shop bound below (path root fs ++ job ∷ []) st in
      let deeper : Incumbent → Walk = walk_from shop bound left (path root (later ∷ fs)) 1 in
      let rest : Incumbent → Walk = resume shop bound root below (later ∷ fs) in
      let unpruned : find (λ machine. nat_le st.0 (bound shop (path root fs ++ job
      ∷ []) machine)) (numbers 1 shop.machines) ≡ None =
      ap (λ q. find (λ machine. nat_le st.0 (bound shop (q ++ job
      ∷ []) machine)) (numbers 1 shop.machines)) (sym i.node) ∙ opens.unpruned in
      let first_is : first ≡ (43 ∷ (deeper st).0, (deeper st).1) =
      ap (λ n. walk shop bound n (path root fs ++ job ∷ []) st) more
      ∙ ap (answer_of st (walk_each (λ k. walk shop bound left ((path root fs ++ job ∷ []) ++ k
      ∷ [])) (jobs_left shop.jobs (path root fs ++ job ∷ [])) st)) unpruned
      ∙ ap (λ q. (43 ∷ (walk_from shop bound left q 1 st).0, (walk_from shop bound left q 1 st).1)) (ap (λ j. path
      root fs ++ j
      ∷ []) (sym back)) in
      let all : resume shop bound root below (here ∷ fs) st ≡ then_walk first rest =
      resume-next shop bound root below job here later fs st kid.0 refl in
      let tree : new.tree.items ≡ now.tree.items ++ 43 ∷ [] = entered.tree ∙ opens.wrote.tree in
      let child_rest : Incumbent → Walk = resume shop bound root left (child ∷ later ∷ fs) in
      let child_is : (s : Incumbent) → child_rest s ≡ then_walk (deeper s) rest = λ s.
      ap (λ n. then_walk (walk_from shop bound left (path root (later ∷ fs)) n s) (resume shop bound root (suc left)
      (later
      ∷ fs))) next
      ∙ ap (λ n. then_walk (deeper s) (resume shop bound root n (later ∷ fs))) (sym more) in
      let whole_is : resume shop bound root below (here ∷ fs) st ≡ (43 ∷ (child_rest st).0, (child_rest st).1) =
      all ∙ ap (λ f. then_walk f rest) first_is ∙ ap (λ r. (43 ∷ r.0, r.1)) (sym (child_is st)) in
      record {
        at = at_new;
        node = node ∙ sym here_at;
        frame = record {
          times = subst (λ q. IsFrontOf shop q child.front) (sym here_at) front;
          loads_are = subst (λ js. AreLoadsOf shop js child.loads) left_is rest_given;
          second_is = λ machine from to. second machine from to ∙ ap (λ js. second_tail shop js machine) left_is;
          count = ap (λ q. length q + suc left) (sym (node ∙ sym here_at)) ∙ at_new.whole;
          some = ap length (sym left_is)
              ∙ left-count shop new.node.items child.front new.unscheduled (suc left) at_new;
        };
        next = omega (arith, next);
        past = omega (arith, next);
        stack = (
          moved-frame shop (path root fs) (suc (suc left)) here (job
              + 1) (subst (λ n. IsFrame shop (path root fs) (suc n) here) more i.frame),
          subst (IsChild shop.jobs (path root fs)) (sym back) kid.1,
          subst (AreJobs shop.jobs) i.node i.at.jobs,
          subst (λ n. IsStack shop root (suc (suc n)) fs) more i.stack,
        );
        text =
            ap (λ s. new.tree.items ++ (child_rest s).0) st_is
            ∙ ap (λ t. t ++ (child_rest st).0) tree
            ∙ append_assoc now.tree.items (43 ∷ []) (child_rest st).0
            ∙ ap (λ w. now.tree.items ++ w.0) (sym whole_is)
            ∙ i.text;
        state = ap (λ s. (child_rest s).1) st_is ∙ ap (λ w. w.1) (sym whole_is) ∙ i.state;
        many = omega (arith, deep);
        within = subst (λ t. length t ≤ budget) (sym entered.tree) opens.wrote.within;
      }

  -- the node of a child whose plus is written
  pub walking-entered : (job : ℕ) (mid new : SearchState) → Some job
      ≡ find (contains now.unscheduled) (numbers here.next shop.jobs) →
      Opens shop bound budget job now mid → Entered job mid new →
      IsAt shop new.node.items (front_of shop (now.node.items ++ job ∷ [])) new.unscheduled below
      × AreLoadsOf shop (members (slice_set new.unscheduled (job - 1) true)) here.loads
  walking-entered job mid new found opens entered =
      let kid = walking-child job found in
      let node : new.node.items ≡ now.node.items ++ job ∷ [] = entered.node
      ∙ ap (λ q. q ++ job ∷ []) opens.wrote.node in
      let set : new.unscheduled ≡ slice_set now.unscheduled (job - 1) false = entered.unscheduled
      ∙ ap (λ u. slice_set u (job - 1) false) opens.wrote.unscheduled in
      let front : List ℕ = front_of shop (now.node.items ++ job ∷ []) in
      let at_kid = at-child shop now.node.items here.front front now.unscheduled
      (suc below) below job i.at refl kid.1.from kid.1.to kid.2
      (front_of-is shop (now.node.items ++ job ∷ [])) in
      let whole : slice_set new.unscheduled (job - 1) true ≡ now.unscheduled =
      ap (λ u. slice_set u (job - 1) true) set ∙ put-back now.unscheduled (job - 1) kid.2 in
      let jobs : jobs_left shop.jobs (path root fs) ≡ members (slice_set new.unscheduled (job - 1) true) =
      ap (jobs_left shop.jobs) (sym i.node)
      ∙ sym (members-are shop now.node.items here.front now.unscheduled (suc below) i.at)
      ∙ ap members (sym whole) in (
        subst (λ q. IsAt shop q front new.unscheduled below) (sym node)
            (subst (λ u. IsAt shop (now.node.items ++ job ∷ []) front u below) (sym set) at_kid),
        subst (λ js. AreLoadsOf shop js here.loads) jobs i.frame.loads_are,
      )

  -- no child is left: back at the node above
  pub walking-up : (f : Frame) (gs : List Frame) (new : SearchState) →
      None ≡ find (contains now.unscheduled) (numbers here.next shop.jobs) →
      fs ≡ f ∷ gs → Left (f.next - 1) (path root gs) now new →
      IsWalking shop bound budget root whole old f (suc below) gs new
  walking-up f gs new none e left =
      let empty : left_from shop.jobs (path root fs) here.next ≡ [] =
      subst (λ q. left_from shop.jobs q here.next
      ≡ []) i.node (left-none shop now.node.items here.front now.unscheduled
      (suc below) here.next i.at i.next i.past none) in
      let st : Incumbent = incumbent_of now in
      let above = subst (IsStack shop root (suc (suc below))) e i.stack in
      let job : ℕ = f.next - 1 in
      let node : now.node.items ≡ path root gs ++ job ∷ [] = i.node ∙ ap (path root) e in
      let same : resume shop bound root below (here ∷ fs) st ≡ resume shop bound root (suc below) (f ∷ gs) st =
      resume-none shop bound root below here fs st empty ∙ ap (λ xs. resume shop bound root (suc below) xs st) e in
      let at_now : IsAt shop (path root gs ++ job ∷ []) here.front now.unscheduled (suc below) =
      subst (λ q. IsAt shop q here.front now.unscheduled (suc below)) node i.at in
      record {
        at =
            subst (λ q. IsAt shop q f.front new.unscheduled (suc (suc below))) (sym left.node)
            (subst (λ u. IsAt shop (path root gs) f.front u (suc (suc below))) (sym left.unscheduled)
            (at-parent shop (path root gs) here.front now.unscheduled (suc below) (suc
            (suc below)) job f at_now above.0 above.1 above.2));
        node = left.node;
        frame = above.0;
        next = omega (arith, above.1.from);
        past = omega (arith, above.1.to);
        stack = above.3;
        text = ap (λ s. new.tree.items ++ (resume shop bound root (suc below) (f ∷ gs) s).0) left.incumbent
            ∙ ap (λ t. t ++ (resume shop bound root (suc below) (f ∷ gs) st).0) left.tree
            ∙ ap (λ w. now.tree.items ++ w.0) (sym same)
            ∙ i.text;
        state = ap (λ s. (resume shop bound root (suc below) (f ∷ gs) s).1) left.incumbent ∙ ap (λ w. w.1) (sym same)
            ∙ i.state;
        many = omega (arith, i.many);
        within = subst (λ t. length t ≤ budget) (sym left.tree) i.within;
      }

  -- no child is left, of the root
  pub walking-done : (front : List ℕ) (count : ℕ) →
      None ≡ find (contains now.unscheduled) (numbers here.next shop.jobs) → fs ≡ [] →
      IsAt shop old.node.items front old.unscheduled count → root ≡ old.node.items → Gave budget whole old now
  walking-done front count none e start root_is =
      let empty : left_from shop.jobs (path root fs) here.next ≡ [] =
      subst (λ q. left_from shop.jobs q here.next
      ≡ []) i.node (left-none shop now.node.items here.front now.unscheduled
      (suc below) here.next i.at i.next i.past none) in
      let st : Incumbent = incumbent_of now in
      let node : now.node.items ≡ old.node.items = i.node ∙ ap (path root) e ∙ root_is in
      let same : resume shop bound root below (here ∷ fs) st ≡ ([], st) =
      resume-none shop bound root below here fs st empty ∙ ap (λ xs. resume shop bound root (suc below) xs st) e in
      record {
        tree = sym (append-nil now.tree.items) ∙ ap (λ w. now.tree.items ++ w.0) (sym same) ∙ i.text;
        incumbent = ap (λ w. w.1) (sym same) ∙ i.state;
        node = node;
        unscheduled = same-set shop old.node.items here.front front now.unscheduled old.unscheduled (suc below) count
            (subst (λ q. IsAt shop q here.front now.unscheduled (suc below)) node i.at) start;
        within = i.within;
      }
