use Rattle.std.proofs.Common.{◌≡◌, take}
use Rattle.std.specs.List.{flat_map}
use Rattle.flow_c.specs.Searches.{numbers_of}
use Rattle.flow_c.proofs.part.numbers_of.Given as goal

-- the numbers of the parts so far
abbrev pub invariant-loop-part : goal.invariant-loop-part
invariant-loop-part l = l.numbers.items ≡ flat_map numbers_of (take l.part-index l.parts)
