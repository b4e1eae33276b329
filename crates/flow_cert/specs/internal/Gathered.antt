-- Bytes that are gathered before a sink takes them.
use Rattle.std.specs.Prelude.{◌≡◌, ℕ, List, Option, ◌++◌}
use Rattle.std.specs.Io.KnownBytes.{Appends}

-- bytes were handed on: those gathered before and these are what was added, and after that what is gathered now
pub record HandsOn (old new : Option (List ℕ)) (before bytes after : List ℕ) : Type 0 where
  pub front : List ℕ
  pub whole : before ++ bytes ≡ front ++ after
  pub added : Appends old new front
