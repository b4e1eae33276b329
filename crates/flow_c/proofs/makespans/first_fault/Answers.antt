use Rattle.std.proofs.Common.{◌≡◌, ap, sym, subst, ◌∙◌, ◌*◌, [], Some, None, below_more, arith}
use Rattle.std.proofs.lemmas.Nat.{row_fits}
use Rattle.std.specs.Fork.{slice_chunk}
use Rattle.flow_shop.specs.Sequences.{AreJobs}
use Rattle.flow_shop.specs.SequenceFaults.{place_fault}
use Rattle.flow_c.specs.Makespans.{moved}
use Rattle.flow_c.proofs.FirstFault.{placed-at, passed, found}
use Rattle.flow_c.proofs.makespans.first_fault.Goals as goal

pub moved-requires : goal.moved-requires
moved-requires c =
    let index = c.loop-index.index in
    let size = c.from-jobs.result in
    let within = placed-at c.args.instance.now.jobs c.list_at-list.result.now c.in-Some.fault
    (sym c.in-Some.ensures.fault) in
    let whole : c.args.count * size ≡ c.args.count * c.args.instance.now.jobs =
    ap (λ n. c.args.count * n) (c.from-jobs.ensures ∙ c.jobs.ensures.value) in
    omega (arith, row_fits index size c.args.count size (omega arith) (omega arith), whole, within)

pub returns-in-Some-clause-fault : goal.returns-in-Some-clause-fault
returns-in-Some-clause-fault c =
    let n = c.args.instance.now.jobs in
    let lists = c.args.lists.now in
    let index = c.loop-index.index in
    let fault = c.in-Some.fault in
    let size : c.from-jobs.result ≡ c.args.instance.now.jobs = c.from-jobs.ensures ∙ c.jobs.ensures.value in
    let is : place_fault n [] (slice_chunk lists n index) ≡ Some fault =
    ap (λ j. place_fault n [] (slice_chunk lists j index)) (sym size)
    ∙ ap (place_fault n []) (sym c.list_at-list.ensures.list) ∙ sym c.in-Some.ensures.fault in
    ap Some c.moved.ensures ∙ ap (λ j. Some (moved (index * j) fault)) size
    ∙ sym (found n lists index c.args.count fault (omega arith) is) ∙ c.loop-index.invariant.later

pub loop-index-preserved : goal.loop-index-preserved
loop-index-preserved c =
    let n = c.args.instance.now.jobs in
    let lists = c.args.lists.now in
    let index = c.loop-index.index in
    let size : c.from-jobs.result ≡ c.args.instance.now.jobs = c.from-jobs.ensures ∙ c.jobs.ensures.value in
    let none : place_fault n [] (slice_chunk lists n index) ≡ None =
    ap (λ j. place_fault n [] (slice_chunk lists j index)) (sym size)
    ∙ ap (place_fault n []) (sym c.list_at-list.ensures.list) ∙ sym c.in_default.ensures.fault in
    let here : AreJobs n (slice_chunk lists n index) =
    subst (AreJobs n) (c.list_at-list.ensures.list ∙ ap (λ j. slice_chunk lists j index) size)
    c.in_default.ensures.none in
    record {
      later = passed n lists index c.args.count (omega arith) none ∙ c.loop-index.invariant.later;
      none = below_more (λ k. AreJobs n (slice_chunk lists n k)) index c.loop-index.invariant.none here;
    }
