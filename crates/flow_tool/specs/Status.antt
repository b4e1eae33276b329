-- The status with which the program ends where it did not do what it was asked for.
use Rattle.std.specs.Prelude.{ℕ}
use Rattle.flow_commands.specs.declared.refusals.CommandFault.TheVariants.{Read, Write}
use Rattle.flow_tool.specs.declared.refusal.Stop.{Stop}
use Rattle.flow_tool.specs.declared.refusal.Stop.TheVariants.{CommandLine, Fault, Open}

-- 2 for the command line; 3 for a file or stream that can't be opened, read or written, or that has more bytes than are
-- read; 1 for all else
abbrev pub exit_status : Stop → ℕ
exit_status CommandLine = 2
exit_status Open = 3
exit_status (Fault (Read fault)) = 3
exit_status (Fault (Write fault)) = 3
exit_status stop = 1
