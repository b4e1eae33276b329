-- What contracts see of the sinks and sources of this crate. What a file or a terminal holds is not known, so nothing
-- is said of it. Where a writer or reader of the library says what it holds, `put` and `get` say that just those bytes
-- went through it.
use Rattle.std.specs.Prelude.{ℕ, Bool, List, Option}

-- a sink in memory: the bytes that it took, how many it takes in all, and whether it refused
pub record BytesTaken : Type 0 where
  pub bytes : List ℕ
  pub limit : ℕ
  pub failed : Bool

-- a source in memory: its bytes, how many of them it gave, the most that it gives in a call and in all, whether its
-- last call found the end, and whether it refused
pub record BytesToGive : Type 0 where
  pub bytes : List ℕ
  pub given : ℕ
  pub piece : ℕ
  pub fail_after : Option ℕ
  pub ended : Bool
  pub failed : Bool

-- a sink over a writer, and whether it refused
pub record Writing (W : Type 0) : Type 0 where
  pub writer : W
  pub failed : Bool

-- a source over a reader, whether its last call found the end, and whether it refused
pub record Reading (R : Type 0) : Type 0 where
  pub reader : R
  pub ended : Bool
  pub failed : Bool
