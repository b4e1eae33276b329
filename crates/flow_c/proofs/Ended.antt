-- Where memory ran out there is no place.
use Rattle.std.proofs.Common.{◌≡◌, refl, arith}
use Rattle.flow_shop.specs.declared.instance.InstanceFault.TheVariants as instance
use Rattle.flow_shop.specs.declared.sequence.SequenceFault.TheVariants as sequence
use Rattle.flow_search.specs.declared.verdict.RunFault.TheVariants as run
use Rattle.flow_check.specs.declared.fault.CheckFault.TheVariants as check
use Rattle.flow_text.specs.declared.text.fault.TextFault.TheVariants as text
use Rattle.flow_c.specs.Statuses.{number, memory}
use Rattle.flow_c.specs.Places.{place_of}
use Rattle.flow_c.specs.declared.fault.Fault.{Fault}
use Rattle.flow_c.specs.declared.fault.Fault.TheVariants.{Room, Instance, Sequence, Run, Certificate, Text}
use Rattle.flow_c.specs.declared.fault.Fault.TheVariants.{Index}

-- a fault whose number is that of want of memory has no place
pub no-place : (fault : Fault) → number fault ≡ memory → place_of fault ≡ 0
no-place (Room needed) is = absurd (omega (arith, is))
no-place (Instance (instance.Time place)) is = absurd (omega (arith, is))
no-place (Sequence (sequence.Job place)) is = absurd (omega (arith, is))
no-place (Sequence (sequence.Twice place)) is = absurd (omega (arith, is))
no-place (Run (run.OverBudget prefix)) is = absurd (omega (arith, is))
no-place (Certificate (check.Tree line)) is = absurd (omega (arith, is))
no-place (Certificate (check.Weak line)) is = absurd (omega (arith, is))
no-place (Certificate (check.Low line)) is = absurd (omega (arith, is))
no-place (Text (text.Label line)) is = absurd (omega (arith, is))
no-place (Text (text.Byte line)) is = absurd (omega (arith, is))
no-place (Text (text.Number line)) is = absurd (omega (arith, is))
no-place (Text (text.Head line)) is = absurd (omega (arith, is))
no-place (Text (text.Limits line)) is = absurd (omega (arith, is))
no-place (Text (text.Times line)) is = absurd (omega (arith, is))
no-place (Index count) is = absurd (omega (arith, is))
no-place fault is = refl
