use Rattle.std.proofs.Common.{◌≡◌, ℕ, ◌+◌, ◌-◌, ◌*◌, ◌<◌, ◌≤◌, max, List, [], ◌∷◌, ◌++◌, map, slice_index, ap, sym, ◌∙◌}
use Rattle.std.proofs.Common.{subst, arith}
use Rattle.flow_limits.specs.Limits.{most_machines, greatest_time}
use Rattle.flow_shop.specs.Shop.{Shop, numbers, time_between}
use Rattle.flow_shop.specs.Least.{least, greatest}
use Rattle.flow_shop.specs.Sequences.{jobs_left}
use Rattle.flow_shop.specs.TwoLeast.{IsLeastWithout}
use Rattle.flow_shop.specs.Bound.{release}
use Rattle.flow_shop.specs.TwoLeast.{time_to}
use Rattle.flow_search.specs.internal.Lags.{IsLagged}
use Rattle.flow_bound.proofs.Releases.{start_from}
use Rattle.flow_search.proofs.ColumnsReleased.{start_from-more, release-is}
use Rattle.flow_search.proofs.Lags.{child-lag}
use Rattle.flow_search.proofs.release.release_at_child.Goals as goal
use Rattle.flow_search.proofs.release.release_at_child.Goals.{After-without-least}

pub loop-earlier-init : goal.loop-earlier-init
loop-earlier-init c = record {
  least = omega arith;
  limit = omega (arith, c.requires.small (c.args.machine - 1) (omega (arith, c.requires.from)));
  value = λ shop node front left job is same.
      omega (arith, same (c.args.machine - 1) (omega (arith, c.requires.from)));
}

pub lag-requires-clause-row : goal.lag-requires-clause-row
lag-requires-clause-row c =
    let is = c.requires.child.4 in (c.requires.child.0, c.requires.child.3, is.limits, is.row_is, is.to)

-- the least lag of the jobs that the child leaves
least-is : (c : After-without-least) (shop : Shop) (node : List ℕ) (left job : ℕ) →
    IsLagged shop node left job c.args.machine c.args.row.now c.args.lags.now →
    (c.without-least.result
    ≡ least (map (time_to shop c.args.machine (c.loop-earlier.earlier - 1)) (jobs_left shop.jobs (node ++ job ∷ []))))
    × (c.without-least.result ≤ most_machines * greatest_time)
least-is c shop node left job is =
    let low : 1 ≤ c.loop-earlier.earlier = c.loop-earlier.auto.earlier in
    let before : c.loop-earlier.earlier < c.args.machine = c.loop-earlier-test.true in
    let e : c.loop-earlier.earlier - 1 + 1 ≡ c.loop-earlier.earlier = omega (arith, low) in
    child-lag shop node left job c.args.machine (c.loop-earlier.earlier - 1) c.lag.result
    c.without-least.result c.args.row.now c.args.lags.now is (omega (arith, low, before))
    (c.lag.ensures shop job is.row_is is.to ∙ ap (λ k. time_between shop job k (c.args.machine - 1)) (sym e))
    (subst (λ n. IsLeastWithout c.lag.result n
    (slice_index c.args.lags.now.second (c.loop-earlier.earlier - 1)) c.without-least.result) c.at.ensures.least
    (subst (λ n. IsLeastWithout c.lag.result c.at.result.least n c.without-least.result)
    c.at.ensures.second c.without-least.ensures))

pub overflow_add-free : goal.overflow_add-free
overflow_add-free c =
    let small = least-is (goal.at.overflow_add-free c).After-without-least c.requires.child.0 c.requires.child.1
    c.requires.child.2 c.requires.child.3 c.requires.child.4 in
    let before : c.loop-earlier.earlier - 1 < c.args.machine = omega (arith, c.loop-earlier-test.true) in
    omega (arith, small.1, c.requires.small (c.loop-earlier.earlier - 1) before)

pub loop-earlier-preserved : goal.loop-earlier-preserved
loop-earlier-preserved c =
    let earlier : ℕ = c.loop-earlier.earlier in
    let low : 1 ≤ earlier = c.loop-earlier.auto.earlier in
    let before : earlier - 1 < c.args.machine = omega (arith, c.loop-earlier-test.true) in
    let i = c.loop-earlier.invariant in
    let small = least-is (goal.at.loop-earlier-preserved c).After-without-least c.requires.child.0 c.requires.child.1
    c.requires.child.2 c.requires.child.3 c.requires.child.4 in
    record {
      least = omega (arith, i.least, c.max-made.ensures);
      limit = omega (arith, i.limit, c.max-made.ensures, small.1, c.requires.small (earlier - 1) before);
      value = λ shop node front left job is same.
          let step = least-is (goal.at.loop-earlier-preserved c).After-without-least shop node left job is in
          let jobs : List ℕ = jobs_left shop.jobs (node ++ job ∷ []) in
          let back : earlier - 1 + 1 - 1 ≡ earlier - 1 = omega arith in
          let next : earlier - 1 + 1 ≡ earlier + 1 - 1 = omega (arith, low) in
          start_from-more shop front jobs c.args.machine (earlier - 1)
          (slice_index front (c.args.machine - 1)) c.loop-earlier.made c.max-made.result
          (i.value shop node front left job is same)
          (omega (
            arith,
            c.max-made.ensures,
            step.0,
            same (earlier - 1) before,
            ap (slice_index front) back,
          ))
          ∙ ap (λ n. max (slice_index front (c.args.machine - 1))
          (greatest (map (start_from shop front jobs c.args.machine) (numbers 1 n)))) next;
    }

pub returns-clause-value : goal.returns-clause-value
returns-clause-value c shop node front left job is same =
    let jobs : List ℕ = jobs_left shop.jobs (node ++ job ∷ []) in
    let e : c.args.machine - 1 + 1 ≡ c.args.machine = omega (arith, c.requires.from) in
    let last : c.loop-earlier.earlier - 1 ≡ c.args.machine - 1 = omega
    (arith, c.loop-earlier-test.false, c.loop-earlier.auto.earlier-end, c.requires.from) in
    c.loop-earlier.invariant.value shop node front left job is same
    ∙ ap (λ n. max (slice_index front (c.args.machine - 1))
    (greatest (map (start_from shop front jobs c.args.machine) (numbers 1 n)))) last
    ∙ ap (λ k. max (slice_index front (c.args.machine - 1))
    (greatest (map (start_from shop front jobs k) (numbers 1 (c.args.machine - 1))))) (sym e)
    ∙ sym (release-is shop front jobs (c.args.machine - 1))
    ∙ ap (release shop front jobs) e
