use Rattle.std.proofs.Common.{◌≡◌, ◌+◌, ◌++◌, true, sym, ◌∙◌, ap, inl, inr, arith, length, take, set}
use Rattle.std.specs.List.{filter}
use Rattle.std.proofs.lemmas.List.{length-set}
use Rattle.flow_shop.specs.Shop.{numbers}
use Rattle.flow_shop.specs.JobSet.{contains}
use Rattle.flow_search.proofs.Nodes.{filter-skip}
use Rattle.flow_search.proofs.ColumnsEntered.{gathered-more, gathered-all}
use Rattle.flow_search.proofs.few_left.walk.jobs_of.Goals as goal
use Rattle.flow_search.proofs.few_left.walk.jobs_of.Goals.{then-contains, else-contains}

pub loop-job-preserved : goal.loop-job-preserved
loop-job-preserved c = elim c.if-contains.branch [
  | then-contains w ↦
      let there : contains c.args.set.now c.loop-job.job ≡ true = sym c.contains.ensures.value ∙ w.if-contains.true in
      let more = gathered-more (contains c.args.set.now) c.loop-job.made c.loop-job.count c.loop-job.job
      c.args.instance.now.jobs
      c.loop-job.invariant.size c.loop-job.invariant.few (omega (arith, c.requires.few, c.requires.count))
      (omega arith) there c.loop-job.invariant.jobs in
      record {
        size = ap length w.made-is ∙ length-set c.loop-job.made c.loop-job.count c.loop-job.job
            ∙ c.loop-job.invariant.size;
        few = omega (arith, w.count-is, more.0);
        jobs =
            ap (λ made. take c.if-contains.count made ++ filter (contains c.args.set.now)
            (numbers (c.loop-job.job + 1) c.args.instance.now.jobs)) w.made-is
            ∙ ap (λ count. take count (set c.loop-job.made c.loop-job.count c.loop-job.job) ++ filter
            (contains c.args.set.now) (numbers (c.loop-job.job + 1) c.args.instance.now.jobs)) w.count-is
            ∙ more.1;
      }
  | else-contains w ↦
      let out = sym c.contains.ensures.value ∙ w.if-contains.false in
      record {
        size = ap length w.made-is ∙ c.loop-job.invariant.size;
        few = omega (arith, w.count-is, c.loop-job.invariant.few);
        jobs =
            ap (λ made. take c.if-contains.count made ++ filter (contains c.args.set.now)
            (numbers (c.loop-job.job + 1) c.args.instance.now.jobs)) w.made-is
            ∙ ap (λ count. take count c.loop-job.made ++ filter (contains c.args.set.now)
            (numbers (c.loop-job.job + 1) c.args.instance.now.jobs)) w.count-is
            ∙ ap (λ xs. take c.loop-job.count c.loop-job.made ++ xs)
            (sym (filter-skip (contains c.args.set.now) c.loop-job.job c.args.instance.now.jobs (omega arith) out))
            ∙ c.loop-job.invariant.jobs;
      }
]

pub returns-then-count-left : goal.returns-then-count-left
returns-then-count-left c =
    gathered-all (contains c.args.set.now) c.loop-job.made c.args.left c.loop-job.count c.loop-job.job
    c.args.instance.now.jobs c.loop-job.invariant.size c.loop-job.invariant.few c.requires.count
    (inr c.if-count-left.true) c.loop-job.invariant.jobs

pub returns : goal.returns
returns c =
    gathered-all (contains c.args.set.now) c.loop-job.made c.args.left c.loop-job.count c.loop-job.job
    c.args.instance.now.jobs c.loop-job.invariant.size c.loop-job.invariant.few c.requires.count
    (inl (omega arith)) c.loop-job.invariant.jobs
