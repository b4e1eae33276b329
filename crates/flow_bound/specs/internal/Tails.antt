-- The tails of a list, as insertions compute with them.
use Rattle.std.specs.Prelude.{ℕ, List}
use Rattle.flow_shop.specs.Shop.{Shop, AreOf}
use Rattle.flow_shop.specs.Ends.{path_tail}

-- the path tail of a list from each machine
abbrev pub AreTails : Shop → List ℕ → List ℕ → Type 0
AreTails shop jobs tails = AreOf shop (path_tail shop jobs) tails
