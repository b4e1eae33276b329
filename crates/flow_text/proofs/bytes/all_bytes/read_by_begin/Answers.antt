use Rattle.std.proofs.Common.{◌++◌, take, subst, List, ℕ, refl}
use Rattle.std.proofs.KnownBytes.{Appends-trans}
use Rattle.flow_text.specs.Bytes.{IsWithinBy}
use Rattle.flow_text.proofs.bytes.all_bytes.read_by_begin.Goals as goal

pub returns-then-not-may_come-clause-too_long : goal.returns-then-not-may_come-clause-too_long
returns-then-not-may_come-clause-too_long g c = λ _.
    let piece = take c.in-Ok.count c.get.new.buffer in
    let beyond = c.if-not-may_come.ensures.no refl in (
      c.calls.all.items ++ piece,
      subst (λ (all : List ℕ). ¬ IsWithinBy c.args.begin.now c.args.limit c.args.long (all ++ piece))
          c.as_slice.ensures.value beyond,
      Appends-trans _ _ _ _ _ c.calls.invariant.came c.in-Ok.ensures.bytes,
    )

pub returns-then-not-may_come-clause-stands : goal.returns-then-not-may_come-clause-stands
returns-then-not-may_come-clause-stands g c =
    (_, Appends-trans _ _ _ _ _ c.calls.invariant.came c.in-Ok.ensures.bytes)

pub returns-in_err-extend_from_slice-clause-memory : goal.returns-in_err-extend_from_slice-clause-memory
returns-in_err-extend_from_slice-clause-memory g c = λ _.
    let piece = take c.in-Ok.count c.get.new.buffer in
    let within = c.if-not-may_come.ensures.yes refl in (
      c.calls.all.items ++ piece,
      subst (λ (all : List ℕ). IsWithinBy c.args.begin.now c.args.limit c.args.long (all ++ piece))
          c.as_slice.ensures.value within,
      Appends-trans _ _ _ _ _ c.calls.invariant.came c.in-Ok.ensures.bytes,
    )

pub returns-in_err-extend_from_slice-clause-stands : goal.returns-in_err-extend_from_slice-clause-stands
returns-in_err-extend_from_slice-clause-stands g c =
    (_, Appends-trans _ _ _ _ _ c.calls.invariant.came c.in-Ok.ensures.bytes)
