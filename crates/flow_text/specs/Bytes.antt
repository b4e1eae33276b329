-- What calls on sinks and sources do to lists of bytes. `None` is a list that is not known: nothing is said of it.
use Rattle.std.specs.Prelude.{◌≡◌, ◌<◌, ◌≤◌, ℕ, Bool, false, List, Option, ◌++◌, length, Result, Ok, Err, ◌==◌}
use Rattle.std.specs.Io.KnownBytes.{Appends}
use Rattle.flow_shop.specs.Sequences.{Extends}

-- whether a call found the end of the input: it returned 0
abbrev pub is_end : {E : Type 0} → Result ℕ E → Bool
is_end (Ok count) = count == 0
is_end (Err e) = false

-- a proper prefix of the bytes was added
abbrev pub AddsProperPrefix : Option (List ℕ) → Option (List ℕ) → List ℕ → Type 0
AddsProperPrefix old new bytes =
    (front : List ℕ) × (back : List ℕ) × (bytes ≡ front ++ back) × (0 < length back) × Appends old new front

-- some bytes were added, and no byte was taken back
abbrev pub Grows : Option (List ℕ) → Option (List ℕ) → Type 0
Grows old new = (bytes : List ℕ) × Appends old new bytes

-- at most this many bytes were added
abbrev pub GrowsWithin : Option (List ℕ) → Option (List ℕ) → ℕ → Type 0
GrowsWithin old new limit = (bytes : List ℕ) × (length bytes ≤ limit) × Appends old new bytes

-- more than this many bytes were added
abbrev pub GrowsBeyond : Option (List ℕ) → Option (List ℕ) → ℕ → Type 0
GrowsBeyond old new limit = (bytes : List ℕ) × (limit < length bytes) × Appends old new bytes

-- bytes were added of which this holds
abbrev pub Adds : (List ℕ → Type 0) → Option (List ℕ) → Option (List ℕ) → Type 0
Adds Holds old new = (bytes : List ℕ) × Holds bytes × Appends old new bytes

-- bytes are within a limit: no more than `long`, and where they do not begin with `begin`, no more than `limit`
abbrev pub IsWithinBy : List ℕ → ℕ → ℕ → List ℕ → Type 0
IsWithinBy begin limit long bytes = (length bytes ≤ long) × ((¬ Extends bytes begin) → length bytes ≤ limit)
