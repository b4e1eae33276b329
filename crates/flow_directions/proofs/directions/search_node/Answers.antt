use Rattle.std.proofs.Common.{◌≡◌, ◌<◌, [], ◌++◌, length, sym, subst, arith}
use Rattle.flow_shop.specs.Sequences.{jobs_left, IsSequence}
use Rattle.flow_shop.specs.Ends.{end_bound}
use Rattle.flow_directions.specs.internal.Outcomes.{IsReached}
use Rattle.flow_directions.proofs.NodeLists.{whole-node}
use Rattle.flow_directions.proofs.FoundSteps.{found-high, found-whole}
use Rattle.flow_directions.proofs.directions.search_node.Goals as goal

pub returns-then-from-terms-clause-found : goal.returns-then-from-terms-clause-found
returns-then-from-terms-clause-found g c = (
  [],
  c.requires.none,
  found-high c.args.instance.now c.args.terms.threshold c.args.terms.budget c.args.first.now c.args.last.now (omega (
    arith,
    c.if-from-terms.true,
    c.from.ensures,
    c.bound.ensures c.args.first.now c.args.last.now c.in_ok-start.ensures.start.is_node,
  )),
)

pub sequence_of-requires : goal.sequence_of-requires
sequence_of-requires g c =
    let shop = c.args.instance.now in
    let is = c.in_ok-start.ensures.start in
    let none : length (jobs_left shop.jobs (c.args.first.now ++ c.args.last.now)) ≡ 0 =
    omega (arith, is.left, c.if-start-eq0.true) in
    let sequence = whole-node shop.jobs (c.args.first.now ++ c.args.last.now) is.are_jobs none in
    let all : c.all.result.now ≡ c.args.first.now ++ c.args.last.now =
    c.all.ensures.lists shop.jobs c.args.first.now c.args.last.now is.has_lists sequence.whole in
    subst (IsSequence shop.jobs) (sym all) sequence

pub returns-then-start-eq0-clause-found : goal.returns-then-start-eq0-clause-found
returns-then-start-eq0-clause-found g c =
    let shop = c.args.instance.now in
    let is = c.in_ok-start.ensures.start in
    let low : end_bound shop c.args.first.now c.args.last.now < c.args.terms.threshold = omega (
      arith,
      c.if-from-terms.false,
      c.from.ensures,
      c.bound.ensures c.args.first.now c.args.last.now is.is_node,
    ) in
    let none : length (jobs_left shop.jobs (c.args.first.now ++ c.args.last.now)) ≡ 0 =
    omega (arith, is.left, c.if-start-eq0.true) in
    let sequence = whole-node shop.jobs (c.args.first.now ++ c.args.last.now) is.are_jobs none in
    let all : c.all.result.now ≡ c.args.first.now ++ c.args.last.now =
    c.all.ensures.lists shop.jobs c.args.first.now c.args.last.now is.has_lists sequence.whole in (
      [],
      c.requires.none,
      found-whole shop c.args.terms.threshold c.args.terms.budget c.args.first.now c.args.last.now c.in_ok-outcome.outcome
          none low (subst (λ jobs. IsReached shop jobs c.in_ok-outcome.outcome) all c.in_ok-outcome.ensures.found),
    )
