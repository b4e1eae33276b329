-- The version of the library as one number.
use Rattle.std.specs.Prelude.{ℕ, ◌+◌, ◌*◌}

-- a million for each major version, a thousand for each minor one, and the patches
abbrev pub version_number : ℕ → ℕ → ℕ → ℕ
version_number major minor patch = major * 1000000 + minor * 1000 + patch
