-- Results that name no device.
use Rattle.std.specs.Prelude.{Result, IsErrOf}
use Rattle.flow_core.specs.declared.bytes.fault.ReadFault.TheVariants as read
use Rattle.flow_core.specs.declared.bytes.fault.WriteFault.TheVariants as write
use Rattle.flow_commands.specs.declared.refusals.CommandFault.{CommandFault}
use Rattle.flow_commands.specs.declared.refusals.CommandFault.TheVariants as command

-- a result says of no device that it refused
abbrev pub NamesNoDevice : {T : Type 0} → Result T CommandFault → Type 0
NamesNoDevice result =
    (IsErrOf result (command.Read read.Device) → ⊥) × (IsErrOf result (command.Write write.Device) → ⊥)
