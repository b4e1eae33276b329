-- What the reading of a certificate's trees gives.
use Rattle.std.specs.Prelude.{ℕ, ◌≡◌, ◌≤◌, List, length, drop, Result, Ok, Err}
use Rattle.flow_shop.specs.Shop.{Shop}
use Rattle.flow_check.specs.CertificateFaults.{UnlessMemory}
use Rattle.flow_check.specs.internal.ReadTrees.{cut_value, end_value}
use Rattle.flow_check.specs.declared.fault.CheckFault.{CheckFault}

-- where the last line begins, after the trees of the cut; or the first fault of the trees
abbrev pub TreesGive : Shop → ℕ → ℕ → ℕ → List ℕ → Result ℕ CheckFault → Type 0
TreesGive shop version depth value bytes (Ok end) =
    (cut_value shop version depth value bytes ≡ end_value value (drop end bytes)) × (end ≤ length bytes)
TreesGive shop version depth value bytes (Err fault) =
    UnlessMemory (λ f. cut_value shop version depth value bytes ≡ Err f) fault
