use Rattle.std.proofs.lemmas.List.Sorted.{IsPermutation-trans}
use Rattle.flow_improve.proofs.draws.shuffle.Goals as goal

pub loop-index-preserved : goal.loop-index-preserved
loop-index-preserved c =
    IsPermutation-trans c.args.list.now c.loop-index.list c.swap.new.self c.loop-index.invariant
    c.swap.ensures.permutation
