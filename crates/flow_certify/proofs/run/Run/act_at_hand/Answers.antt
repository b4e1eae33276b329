use Rattle.std.proofs.Common.{◌≡◌, ℕ, List, length, Option, None, Some, sym, refl, ◌∙◌, arith}
use Rattle.std.proofs.lemmas.Grind.{common_steps}
use Rattle.std.proofs.lemmas.Option.{slice_get_past, slice_get_read}
use Rattle.std.specs.List.{slice_get}
use Rattle.std.specs.Option.{option_copied}
use Rattle.std.specs.Slice.{IsItemAt}
use Rattle.std.specs.Borrow.{Bor}
use Rattle.flow_certify.specs.Schedule.{act_at_hand}
use Rattle.flow_certify.specs.declared.acts.TheConstants.{ACTS}
use Rattle.flow_certify.proofs.run.Run.act_at_hand.Goals as goal

-- the element that is lent at a place
lent-copied : {X : Type 0} (xs : List X) (place : ℕ) (lent : Option (Bor X)) → IsItemAt xs place lent →
    option_copied lent ≡ slice_get xs place
lent-copied xs place None past = sym (slice_get_past xs place past.3)
lent-copied xs place (Some x) at = sym (slice_get_read xs (length xs) place x.now refl at.3.0 at.1)

pub returns-clause-act : goal.returns-clause-act
unfolding act_at_hand
returns-clause-act c =
    let e = c.copied.ensures ∙ lent-copied ACTS c.args.self.now.act c.get.result c.get.ensures.lookup in
    grind (arith, common_steps)
