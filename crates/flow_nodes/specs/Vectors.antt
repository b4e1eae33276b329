-- Vectors: numbers side by side.
use Rattle.std.specs.Prelude.{ℕ, ◌≡◌, ◌<◌, List, length, slice_index, min}

-- a number, or the cap where that is less
abbrev pub capped : ℕ → ℕ → ℕ
capped cap number = min number cap

-- the limit that stands for a number in 32 bits: the number, or the greatest of 32 bits where that is less; no bound of
-- a child is greater
abbrev pub limit_of : ℕ → ℕ
limit_of number = min number 4294967295

-- a lane of so many has a number, or the cap where that is less
pub record HasLane (cap width : ℕ) (lanes : List ℕ) (lane number : ℕ) : Type 0 where
  pub count : length lanes ≡ width
  pub within : lane < width
  pub value : slice_index lanes lane ≡ capped cap number
