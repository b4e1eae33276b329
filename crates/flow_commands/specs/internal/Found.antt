-- What was found of a shop.
use Rattle.std.specs.Prelude.{◌≤◌, ℕ, List, []}
use Rattle.flow_core.specs.Directions.{Proves}
use Rattle.flow_core.specs.Shop.{Shop}
use Rattle.flow_check.specs.Counted.{IsCountedText}
use Rattle.flow_check.specs.declared.bounds.Bounds.{Bounds}
use Rattle.flow_check.specs.declared.shown.Shown.{Shown}
use Rattle.flow_certify.specs.Searched.{IsSearched}
use Rattle.flow_certify.specs.Signs.{most_signs}
use Rattle.flow_certify.specs.declared.bounds.Certified.{Certified}
use Rattle.flow_directions.specs.Search.{directions_of}
use Rattle.flow_requests.specs.declared.CertifyRequest.{CertifyRequest}
use Rattle.flow_commands.specs.Certify.{is_signed, proof_text}

-- the bounds that were certified
abbrev pub bounds_of : Certified → Bounds
bounds_of found = record { lower = found.lower; upper = found.upper }

-- the directions that prove its lower bound
abbrev pub found_directions : Shop → Certified → List ℕ
found_directions shop found = directions_of shop found.lower [] []

-- the text of it that a request asks for
abbrev pub found_text : CertifyRequest → Shop → Certified → List ℕ
found_text request shop found =
    proof_text (is_signed request (found_directions shop found)) shop (bounds_of found) found.sequence
    (found_directions shop found)

-- a lawful counted certificate shows this, and the search below its lower bound writes these directions, which prove it
pub record SignsOf (shop : Shop) (bytes : List ℕ) (shown : Shown) (directions : List ℕ) : Type 0 where
  pub counted : IsCountedText shop bytes shown.bounds shown.sequence
  pub few : counted.count ≤ most_signs
  pub searched : IsSearched shop shown.bounds.lower directions
  pub proved : Proves shop shown.bounds.lower directions
