use Rattle.std.proofs.Common.{◌+◌, ◌++◌, take, drop, subst}
use Rattle.std.specs.List.Sorted.{IsPermutation}
use Rattle.std.proofs.lemmas.List.{take-append-drop}
use Rattle.std.proofs.lemmas.List.Sorted.{IsPermutation-append_left}
use Rattle.flow_bound.proofs.ByTotal.{sequence-moved}
use Rattle.flow_improve.proofs.place.Room.place.Goals as goal

pub returns-clause-list : goal.returns-clause-list
returns-clause-list c =
    let list = c.args.list.now in
    let placed = c.args.count + 1 in
    let moved : IsPermutation list (c.put_in.new.list ++ drop placed list) =
    subst (λ xs. IsPermutation xs (c.put_in.new.list ++ drop placed list)) (take-append-drop placed list)
    (IsPermutation-append_left (drop placed list) (take placed list) c.put_in.new.list c.put_in.ensures.permutation) in
    sequence-moved c.args.instance.now.jobs list (c.put_in.new.list ++ drop placed list) moved c.requires.list
