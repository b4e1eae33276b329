use Rattle.std.proofs.Common.{◌≡◌, ◌∙◌, List, ℕ, arith, sym, subst}
use Rattle.std.specs.List.Sorted.{IsPermutation}
use Rattle.std.proofs.lemmas.List.{take_at}
use Rattle.flow_shop.specs.Sequences.{IsSequence}
use Rattle.flow_bound.proofs.ByTotal.{sequence-moved}
use Rattle.flow_improve.proofs.round.Rounds.pass.Goals as goal

pub returns-clause-rounds : goal.returns-clause-rounds
returns-clause-rounds c =
    let n = c.args.instance.now.jobs in
    let rounds = c.requires.rounds in
    let copied : List ℕ = c.copy_from_slice.new.self in
    let drawn : List ℕ = c.shuffle.new.list in
    let same : copied ≡ c.args.self.now.jobs.items = c.copy_from_slice.ensures.after ∙ c.as_slice.ensures.value in
    let held : c.as_mut_slice-2.result.now ≡ copied =
    c.as_mut_slice-2.ensures.value
    ∙ take_at copied _ c.args.self.now.order.len
    (omega (arith, c.copy_from_slice.ensures.len, c.as_mut_slice.ensures.len)) in
    let moved : IsPermutation copied drawn = subst (λ xs. IsPermutation xs drawn) held c.shuffle.ensures in
    let is : IsSequence n drawn = sequence-moved n copied drawn moved (subst (IsSequence n) (sym same) rounds.jobs) in
    record {
      room = c.place_each.ensures.room;
      jobs = rounds.jobs;
      order = subst (IsSequence n)
          (sym (take_at drawn _ c.args.self.now.order.len (omega (
            arith,
            c.shuffle.auto.list,
            c.copy_from_slice.ensures.len,
            c.as_mut_slice.ensures.len,
            c.as_mut_slice-2.ensures.len,
          )))) is;
    }
