use Rattle.flow_search.proofs.LeastOfOthers.{others-are}
use Rattle.flow_search.proofs.few_left.vectors.others.Goals as goal

pub returns-clause-each : goal.returns-clause-each
returns-clause-each c =
    others-are c.args.numbers.now c.min-pair_0.result c.min-pair_1.result c.min-pair_2.result c.min-pair_3.result
    c.min-low.result c.min-high.result
    c.min-far_0.result c.min-far_1.result c.min-far_2.result c.min-far_3.result
    c.min.result c.min-2.result c.min-3.result c.min-4.result c.min-5.result c.min-6.result c.min-7.result
    c.min-8.result
    c.min-pair_0.ensures c.min-pair_1.ensures c.min-pair_2.ensures c.min-pair_3.ensures c.min-low.ensures
    c.min-high.ensures
    c.min-far_0.ensures c.min-far_1.ensures c.min-far_2.ensures c.min-far_3.ensures
    c.min.ensures c.min-2.ensures c.min-3.ensures c.min-4.ensures c.min-5.ensures c.min-6.ensures c.min-7.ensures
    c.min-8.ensures
