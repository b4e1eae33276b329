use Rattle.std.proofs.Common.{◌≡◌, ℕ, ◌+◌, ◌-◌, ◌++◌, ◌∷◌, [], List, vec_len, true, false, ap, sym, ◌∙◌, arith}
use Rattle.std.specs.List.{concat}
use Rattle.flow_shop.specs.Sequences.{has, extensions}
use Rattle.flow_search.proofs.CutLemmas.{added, added-skip, added-taken}
use Rattle.flow_search.proofs.Nodes.{take-last}
use Rattle.flow_search.proofs.cut_lists.+extend.Goals as goal
use Rattle.flow_search.proofs.cut_lists.+extend.Goals.{then-not-holds+in_ok-push+in_ok-extend, else-not-holds}

pub loop-job-preserved : goal.loop-job-preserved
loop-job-preserved t c =
    let n : ℕ = c.args.jobs in
    let list : List ℕ = c.args.list.now.items in
    let job : ℕ = c.loop-job.job in
    let holds : c.holds.result ≡ has list job = c.holds.ensures
    ∙ ap (λ q. has q job) (c.deref-in-loop-job.ensures.value ∙ c.loop-job.invariant.list) in
    elim c.if-not-holds.branch [
      | then-not-holds+in_ok-push+in_ok-extend w ↦
          let free : has list job ≡ false = sym holds ∙ w.if-not-holds.true in
          let pushed : w.push.new.self.items ≡ list ++ job ∷ [] = w.in_ok-push.ensures.items
          ∙ ap (λ q. q ++ job ∷ []) c.loop-job.invariant.list in
          let more : w.extend.new.lists.items ≡ c.loop-job.lists.items
          ++ concat (extensions n (c.args.more - 1) (list ++ job ∷ [])) =
          w.in_ok-extend.ensures.lists
          ∙ ap (λ q. c.loop-job.lists.items ++ concat (extensions n (c.args.more - 1) q)) pushed in
          let back : w.pop.new.self.items ≡ list =
          w.pop.ensures.rest ∙ take-last (vec_len w.extend.new.list) w.extend.new.list.items list job
          (w.in_ok-extend.ensures.list ∙ pushed) w.extend.new.list.ok.0 in
          record {
            lists =
                ap (λ ls. ls.items ++ concat (added n (c.args.more - 1) list (job + 1))) w.lists-is
                ∙ added-taken n (c.args.more - 1) list job c.loop-job.lists.items w.extend.new.lists.items
                (c.args.lists.now.items
                ++ concat (extensions n c.args.more list)) (omega arith) free more c.loop-job.invariant.lists;
            list = ap (λ q. q.items) w.list-is ∙ back;
          }
      | else-not-holds w ↦
          let there : has list job ≡ true = sym holds ∙ w.if-not-holds.false in
          record {
            lists =
                ap (λ ls. ls.items ++ concat (added n (c.args.more - 1) list (job + 1))) w.lists-is
                ∙ ap (λ ls. c.loop-job.lists.items
                ++ concat ls) (added-skip n (c.args.more - 1) list job (omega arith) there)
                ∙ c.loop-job.invariant.lists;
            list = ap (λ q. q.items) w.list-is ∙ c.loop-job.invariant.list;
          }
    ]
