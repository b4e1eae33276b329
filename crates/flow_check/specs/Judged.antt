-- That each text is lawful, or has one first fault.
use Rattle.std.specs.Prelude.{◌≡◌, ◌⊎◌}
use Rattle.flow_check.specs.declared.fault.CheckFault.{CheckFault}

-- a text is lawful, or has one first fault, and not both
pub record IsJudgedBy (Lawful : Type 0) (HasFault : CheckFault → Type 0) : Type 0 where
  pub some : Lawful ⊎ ((fault : CheckFault) × HasFault fault)
  pub apart : (fault : CheckFault) → Lawful → ¬ HasFault fault
  pub one : (fault other : CheckFault) → HasFault fault → HasFault other → fault ≡ other
