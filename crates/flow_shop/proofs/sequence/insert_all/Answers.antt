use Rattle.std.proofs.Common.{◌≡◌, ℕ, true, false, Some, ◌+◌, ◌≤◌, List, [], ◌∷◌, ◌++◌, take, drop, slice_index}
use Rattle.std.proofs.Common.{ap, sym, ◌∙◌, subst, arith}
use Rattle.std.proofs.lemmas.List.{drop_more}
use Rattle.flow_shop.specs.JobSet.{AreTaken}
use Rattle.flow_shop.specs.Sequences.{has}
use Rattle.flow_shop.specs.SequenceFaults.{place_fault}
use Rattle.flow_shop.specs.declared.sequence.SequenceFault.TheVariants.{Twice}
use Rattle.flow_shop.proofs.InstanceLemmas.{in-range}
use Rattle.flow_shop.proofs.SequenceLemmas.{fault-twice, fault-later}
use Rattle.flow_shop.proofs.JobLists.{few-taken, taken-push, at-more}
use Rattle.flow_shop.proofs.sequence.insert_all.Goals as goal

pub overflow_add-place : goal.overflow_add-place
overflow_add-place c =
    let now = c.loop-index.invariant c.requires.0 c.requires.1 in
    omega (arith, few-taken c.args.instance.now _ _ _ now.0, c.jobs-n.ensures.value, c.jobs-n.type_inv)

pub overflow_add-place-in-loop-index : goal.overflow_add-place-in-loop-index
overflow_add-place-in-loop-index c =
    let now = c.loop-index.invariant c.requires.0 c.requires.1 in
    omega (arith, few-taken c.args.instance.now _ _ _ now.0, c.jobs-n.ensures.value, c.jobs-n.type_inv)

pub returns-then-contains-clause-fault : goal.returns-then-contains-clause-fault
returns-then-contains-clause-fault c earlier are =
    let n = c.args.instance.now.jobs in
    let jobs = c.args.jobs.now in
    let index = c.loop-index.index in
    let job = slice_index jobs index in
    let list : List ℕ = earlier ++ take index jobs in
    let now = c.loop-index.invariant earlier are in
    let high : job ≤ n = omega (arith, c.if-job-n.false, c.jobs-n.ensures.value) in
    let held : has list job ≡ true =
    sym (now.0.holds.each job c.if-job-lt1.false high) ∙ sym c.contains.ensures.value ∙ c.if-contains.true in
    ap (λ place. Some (Twice (place + 1))) (sym now.0.size)
    ∙ sym (fault-twice n list (drop (index + 1) jobs) job (in-range n job c.if-job-lt1.false high) held)
    ∙ ap (place_fault n list) (sym (drop_more jobs index 0 (omega arith)))
    ∙ sym now.1

pub loop-index-preserved : goal.loop-index-preserved
loop-index-preserved c earlier are =
    let shop = c.args.instance.now in
    let jobs = c.args.jobs.now in
    let index = c.loop-index.index in
    let job = slice_index jobs index in
    let list : List ℕ = earlier ++ take index jobs in
    let now = c.loop-index.invariant earlier are in
    let high : job ≤ shop.jobs = omega (arith, c.if-job-n.false, c.jobs-n.ensures.value) in
    let fresh : has list job ≡ false =
    sym (now.0.holds.each job c.if-job-lt1.false high) ∙ sym c.contains.ensures.value ∙ c.if-contains.false in
    let more = sym (at-more earlier jobs index (omega arith)) in
    let count : c.args.count + index + 1 ≡ c.args.count + (index + 1) = omega arith in
    let taken = taken-push shop list (c.args.count + index) c.loop-index.taken job c.jobs-n.ensures.limits.jobs now.0
    (record { from = c.if-job-lt1.false; to = high; fresh = fresh }) in (
      subst (λ xs. AreTaken shop xs (c.args.count + (index + 1)) c.insert.new.self) more
          (subst (λ k. AreTaken shop (list ++ job ∷ []) k c.insert.new.self) count
          (subst (AreTaken shop (list ++ job ∷ []) (c.args.count + index + 1)) (sym c.insert.ensures.value) taken)),
      now.1
          ∙ ap (place_fault shop.jobs list) (drop_more jobs index 0 (omega arith))
          ∙ fault-later shop.jobs list (drop (index + 1) jobs) job (in-range shop.jobs job c.if-job-lt1.false high) fresh
          ∙ ap (λ xs. place_fault shop.jobs xs (drop (index + 1) jobs)) more,
    )
