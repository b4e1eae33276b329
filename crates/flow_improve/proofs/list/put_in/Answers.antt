use Rattle.std.proofs.Common.{◌-◌, length}
use Rattle.std.proofs.lemmas.List.Sorted.{IsPermutation-put_mid}
use Rattle.flow_improve.proofs.list.put_in.Goals as goal

pub returns-clause-permutation : goal.returns-clause-permutation
returns-clause-permutation c =
    IsPermutation-put_mid c.args.place (length c.args.list.now - c.args.place) c.args.list.now c.rotate_right.new.self
    c.rotate_right.ensures.permutation
