use Rattle.std.proofs.Common.{◌≡◌, ℕ, ◌+◌, ◌-◌, ◌*◌, ◌<◌, ◌≤◌, List, length, drop}
use Rattle.flow_check.specs.internal.Lags.{AreKept}
use Rattle.flow_check.specs.internal.Reader.{Stands, children_read, frame_at, above}
use Rattle.flow_check.proofs.Stacks.{put_back}
use Rattle.flow_check.proofs.ReaderSteps.{Reads, reached}
use Rattle.flow_check.proofs.reader.TreeReader.read_children.Given as goal

abbrev pub invariant-children : goal.invariant-children
invariant-children l = record {
  from : l.fn.spot.at ≤ l.at;
  within : l.at ≤ length l.text.bytes.now;
  deep : l.self.child_left ≤ l.base;
  size : length l.self.frames.items ≡ length l.fn.self.frames.items;
  others : (place : ℕ) → l.fn.self.child_left < place → frame_at l.self.frames.items place
      ≡ frame_at l.fn.self.frames.items place;
  back : put_back l.self.links.items (above l.self.frames.items l.self.child_left (l.base - l.self.child_left))
      ≡ l.fn.self.links.items;
  reading : (root : List ℕ) → Stands l.text.shop.now root l.fn.self →
      Reads l.text.shop.now l.text.version l.text.value l.spot.line root
      (children_read l.text.shop.now l.text.version l.text.value l.spot.line l.fn.self.child_left root
      (drop l.fn.spot.at l.text.bytes.now)) l.base l.self l.last l.at l.text.bytes.now;
  lags : (root : List ℕ) → Stands l.text.shop.now root l.fn.self →
      AreKept l.text.shop.now (reached root l.base l.self) l.self.lags.items;
}

abbrev pub decreases-children : goal.decreases-children
decreases-children l = 2 * (length l.text.bytes.now - l.at) + (l.base - l.self.child_left)
