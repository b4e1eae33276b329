use Rattle.std.proofs.Common.{◌-◌, length}
use Rattle.std.proofs.lemmas.List.Sorted.{IsPermutation-put_mid}
use Rattle.flow_improve.proofs.list.take_out.Goals as goal

pub returns : goal.returns
returns c =
    IsPermutation-put_mid c.args.place (length c.args.list.now - c.args.place) c.args.list.now c.rotate_left.new.self
    c.rotate_left.ensures.permutation
