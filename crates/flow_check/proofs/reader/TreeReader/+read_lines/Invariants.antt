use Rattle.std.proofs.Common.{◌≡◌, ℕ, suc, ◌≤◌, ◌+◌, ◌-◌, ◌++◌, length, drop, List}
use Rattle.flow_shop.specs.Bound.{bound_of}
use Rattle.flow_shop.specs.Sequences.{extensions}
use Rattle.flow_check.specs.internal.ReadTrees.{trees_value}
use Rattle.flow_check.specs.internal.Links.{IsPlace}
use Rattle.flow_check.specs.internal.Reader.{Stands, IsBack}
use Rattle.flow_check.proofs.Stacks.{awaited}
use Rattle.flow_check.proofs.reader.TreeReader.+read_lines.Given as goal

abbrev pub invariant-children : goal.invariant-children
invariant-children l = record {
  within : l.place.at ≤ length l.text.bytes.now;
  line : l.place.line ≤ l.place.at + 5;
  back : IsBack l.text.shop.now l.fn.self l.self;
  after_last : (list : List ℕ) → Stands l.text.shop.now list l.fn.self → IsPlace l.text.shop.now.jobs list l.last;
  fault : (list : List ℕ) → Stands l.text.shop.now list l.fn.self → (rest : List (List ℕ)) →
      trees_value l.text.shop.now (bound_of l.text.version) l.text.value (suc l.fn.self.child_left - l.more)
      (extensions l.text.shop.now.jobs l.more list
      ++ rest) l.fn.spot.line (drop l.fn.spot.at l.text.bytes.now)
      ≡ trees_value l.text.shop.now (bound_of l.text.version) l.text.value (suc l.fn.self.child_left - l.more)
      (awaited l.text.shop.now.jobs l.more list (l.last + 1)
      ++ rest) l.place.line (drop l.place.at l.text.bytes.now);
}

abbrev pub decreases-read_lines : goal.decreases-read_lines
decreases-read_lines l = l.more

abbrev pub decreases-children : goal.decreases-children
decreases-children l = l.text.shop.now.jobs - l.last
