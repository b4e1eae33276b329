use Rattle.std.proofs.Common.{◌≡◌, ◌≢◌, ℕ, suc, ◌+◌, ◌-◌, ◌<◌, ◌≤◌, List, ◌∷◌, length, drop, get_or, nat_le, set}
use Rattle.std.proofs.Common.{Result, refl, ap, sym, subst, ◌∙◌, arith}
use Rattle.std.specs.Vec.{with_items}
use Rattle.std.proofs.lemmas.List.{with_items_is}
use Rattle.flow_shop.specs.Bound.{bound_of}
use Rattle.flow_check.specs.internal.ReadTrees.{read_tree}
use Rattle.flow_check.specs.internal.Lags.{AreKept}
use Rattle.flow_check.specs.internal.Links.{AreLinks}
use Rattle.flow_check.specs.internal.Nodes.{IsAt, IsChild, grown, left_before, left_here}
use Rattle.flow_check.specs.internal.Reader.{here, Stands, IsBack}
use Rattle.flow_check.specs.declared.fault.CheckFault.{CheckFault}
use Rattle.flow_check.specs.declared.reader.TreeReader.{TreeReader}
use Rattle.flow_check.proofs.Readers.{frame-is, before-here, at-same, learnt}
use Rattle.flow_check.proofs.TreeBytes.{leaf-low, leaf-high, cut-before, cut-past, cut-weak, cut-strong}
use Rattle.flow_check.proofs.TreeReading.{drop-step}
use Rattle.flow_check.proofs.reader.TreeReader.read_letter.Goals as goal
use Rattle.flow_check.proofs.reader.TreeReader.read_letter.Goals.{After-left_here, After-deref, After-reaches}

-- the list's node, read where it stands
reached : (c : After-left_here) (list : List ℕ) → Stands c.args.text.now.shop.now list c.args.self.now →
    IsAt c.args.text.now.shop.now list c.index_mut.result.now.node c.args.self.now.links.items
    (suc c.args.self.now.child_left)
reached c list stands =
    let within : c.args.self.now.child_left < length c.args.self.now.frames.items =
    omega (arith, stands.room, stands.at.is_node.count) in
    let frame = frame-is c.args.self.now.frames.items c.args.self.now.child_left c.index_mut.result.now within
    c.index_mut.ensures.value in
    at-same c.args.text.now.shop.now list c.index_mut.result.now.node
    (here c.args.self.now) c.args.self.now.links.items c.args.self.now.links.items (suc c.args.self.now.child_left)
    (suc c.args.self.now.child_left) (ap (λ f. f.node) frame) refl refl stands.at

-- what the byte gives, the text gives
read : (c : After-left_here) (list : List ℕ) (r : Result (List ℕ) CheckFault) →
    read_tree c.args.text.now.shop.now (bound_of c.args.text.now.version) c.args.text.now.value c.args.spot.line
    c.left_here.result
    (grown list c.args.child) (get_or c.args.text.now.bytes.now c.args.spot.at 0
    ∷ drop (c.args.spot.at + 1) c.args.text.now.bytes.now) ≡ r →
    read_tree c.args.text.now.shop.now (bound_of c.args.text.now.version) c.args.text.now.value c.args.spot.line
    (left_here c.args.child c.args.self.now.child_left) (grown list c.args.child)
    (drop c.args.spot.at c.args.text.now.bytes.now) ≡ r
read c list r is =
    ap (read_tree c.args.text.now.shop.now (bound_of c.args.text.now.version) c.args.text.now.value
    c.args.spot.line
    (left_here c.args.child c.args.self.now.child_left) (grown list c.args.child))
    (drop-step c.args.text.now.bytes.now c.args.spot.at c.if-spot-text.false)
    ∙ ap (λ l. read_tree c.args.text.now.shop.now (bound_of c.args.text.now.version) c.args.text.now.value
    c.args.spot.line l
    (grown list c.args.child) (get_or c.args.text.now.bytes.now c.args.spot.at 0
    ∷ drop (c.args.spot.at + 1) c.args.text.now.bytes.now)) (sym c.left_here.ensures)
    ∙ is

-- the reader, where the list's node is as it was read
as-read : (c : After-left_here) (new : TreeReader) → new.child_left ≡ c.args.self.now.child_left →
    new.links.items ≡ c.args.self.now.links.items →
    new.frames.items ≡ set c.args.self.now.frames.items c.args.self.now.child_left (record {
      node = c.index_mut.result.now.node;
      job = c.index_mut.result.now.job;
      last = c.index_mut.result.now.last;
    }) → new.lags.items ≡ c.args.self.now.lags.items → IsBack c.args.text.now.shop.now c.args.self.now new
as-read c new child_left links frames lags =
    learnt c.args.text.now.shop.now c.args.self.now new _ child_left links frames
    (omega (arith, c.requires.at.1.room, c.requires.at.1.at.is_node.count)) (reached c)
    (λ list stands. subst (AreKept c.args.text.now.shop.now list) (sym lags) stands.lags)

pub returns-then-byte-ne46-clause-back : goal.returns-then-byte-ne46-clause-back
returns-then-byte-ne46-clause-back c =
    as-read (goal.at.returns-then-byte-ne46-clause-back c).After-left_here _ refl refl refl refl

pub returns-then-makespan_at-text-clause-back : goal.returns-then-makespan_at-text-clause-back
returns-then-makespan_at-text-clause-back c =
    as-read (goal.at.returns-then-makespan_at-text-clause-back c).After-left_here _ refl refl refl refl

pub returns-then-left_here-eq0-clause-back : goal.returns-then-left_here-eq0-clause-back
returns-then-left_here-eq0-clause-back c =
    as-read (goal.at.returns-then-left_here-eq0-clause-back c).After-left_here _ refl refl refl refl

pub returns-then-byte-eq43-clause-back : goal.returns-then-byte-eq43-clause-back
returns-then-byte-eq43-clause-back c =
    as-read (goal.at.returns-then-byte-eq43-clause-back c).After-left_here _ refl refl refl refl

pub returns-then-byte-lt65-clause-back : goal.returns-then-byte-lt65-clause-back
returns-then-byte-lt65-clause-back c =
    as-read (goal.at.returns-then-byte-lt65-clause-back c).After-left_here _ refl refl refl refl

pub returns-then-machine-machines-clause-back : goal.returns-then-machine-machines-clause-back
returns-then-machine-machines-clause-back c =
    as-read (goal.at.returns-then-machine-machines-clause-back c).After-left_here _ refl refl refl refl

pub returns-then-makespan_at-text-clause-gives : goal.returns-then-makespan_at-text-clause-gives
returns-then-makespan_at-text-clause-gives c list stands kid =
    let before = (goal.at.returns-then-makespan_at-text-clause-gives c).After-left_here in
    let at = reached before list stands in
    read before list _ (leaf-low c.args.text.now.shop.now (bound_of c.args.text.now.version)
    c.args.text.now.value c.args.spot.line
    c.left_here.result (grown list c.args.child)
    (get_or c.args.text.now.bytes.now c.args.spot.at 0) c.makespan_at.result c.if-left_here-eq0.true
    c.if-byte-ne46.false (c.makespan_at.ensures list
    (suc c.args.self.now.child_left) at.is_node) c.if-makespan_at-text.true (drop (c.args.spot.at
    + 1) c.args.text.now.bytes.now))

pub returns-then-left_here-eq0-clause-gives : goal.returns-then-left_here-eq0-clause-gives
returns-then-left_here-eq0-clause-gives c list stands kid =
    let before = (goal.at.returns-then-left_here-eq0-clause-gives c).After-left_here in
    let at = reached before list stands in (
      c.if-spot-text.false,
      read before list _
          (leaf-high c.args.text.now.shop.now (bound_of c.args.text.now.version) c.args.text.now.value
          c.args.spot.line c.left_here.result
          (grown list c.args.child)
          (get_or c.args.text.now.bytes.now c.args.spot.at 0) c.makespan_at.result c.if-left_here-eq0.true
          c.if-byte-ne46.false (c.makespan_at.ensures list
          (suc c.args.self.now.child_left) at.is_node) c.if-makespan_at-text.false (drop (c.args.spot.at
          + 1) c.args.text.now.bytes.now)),
    )

pub returns-then-byte-lt65-clause-gives : goal.returns-then-byte-lt65-clause-gives
returns-then-byte-lt65-clause-gives c list stands kid =
    read (goal.at.returns-then-byte-lt65-clause-gives c).After-left_here list _
    (cut-before c.args.text.now.shop.now (bound_of c.args.text.now.version) c.args.text.now.value
    c.args.spot.line c.left_here.result
    (grown list c.args.child)
    (get_or c.args.text.now.bytes.now c.args.spot.at 0) c.if-left_here-eq0.false c.if-byte-eq43.false (omega
    (arith, c.if-byte-lt65.true)) (drop (c.args.spot.at + 1) c.args.text.now.bytes.now))

pub returns-then-machine-machines-clause-gives : goal.returns-then-machine-machines-clause-gives
returns-then-machine-machines-clause-gives c list stands kid =
    read (goal.at.returns-then-machine-machines-clause-gives c).After-left_here list _
    (cut-past c.args.text.now.shop.now (bound_of c.args.text.now.version) c.args.text.now.value c.args.spot.line
    c.left_here.result
    (grown list c.args.child)
    (get_or c.args.text.now.bytes.now c.args.spot.at 0) c.if-left_here-eq0.false c.if-byte-eq43.false (omega
    (arith, c.if-byte-lt65.false))
    (omega (arith, c.if-machine-machines.true, c.from-machine.ensures, c.machines.ensures.value, c.if-byte-lt65.false))
    (drop (c.args.spot.at + 1) c.args.text.now.bytes.now))

-- the list is reached where the bound is asked for
asked : (c : After-deref) (list : List ℕ) →
    IsAt c.args.text.now.shop.now list c.index_mut.result.now.node c.args.self.now.links.items
    (suc c.args.self.now.child_left) → c.left_here.result ≢ 0 →
    IsAt c.args.text.now.shop.now list c.index_mut.result.now.node c.deref.result.now (left_before c.args.child
    (suc (c.left_here.result - 1)))
asked c list at some =
    let more : c.left_here.result ≡ suc (c.left_here.result - 1) = omega (arith, some) in
    at-same c.args.text.now.shop.now list c.index_mut.result.now.node c.index_mut.result.now.node
    c.deref.result.now c.args.self.now.links.items (left_before c.args.child (suc (c.left_here.result - 1)))
    (suc c.args.self.now.child_left) refl c.deref.ensures.value
    (before-here c.args.child c.args.self.now.child_left (c.left_here.result - 1) (sym c.left_here.ensures ∙ more)) at

-- the lags that are kept are the list's
lent : (c : After-deref) (list : List ℕ) → Stands c.args.text.now.shop.now list c.args.self.now →
    AreKept c.args.text.now.shop.now list c.deref_mut.result.now
lent c list stands =
    subst (AreKept c.args.text.now.shop.now list) (sym c.deref_mut.ensures.value) stands.lags

pub reaches-requires-clause-at : goal.reaches-requires-clause-at
reaches-requires-clause-at c = (
  c.requires.at.0,
  c.left_here.result - 1,
  asked (goal.at.reaches-requires-clause-at c).After-deref c.requires.at.0
      (reached (goal.at.reaches-requires-clause-at c).After-left_here c.requires.at.0 c.requires.at.1)
      c.if-left_here-eq0.false,
  lent (goal.at.reaches-requires-clause-at c).After-deref c.requires.at.0 c.requires.at.1,
  c.requires.at.2,
)

-- what the list knows of its jobs left
known : (c : After-reaches) (list : List ℕ) →
    IsAt c.args.text.now.shop.now list c.index_mut.result.now.node c.args.self.now.links.items
    (suc c.args.self.now.child_left) →
    IsAt c.args.text.now.shop.now list c.reaches.new.node c.args.self.now.links.items (suc c.args.self.now.child_left)
known c list at =
    let was = at-same c.args.text.now.shop.now list c.index_mut.result.now.node c.index_mut.result.now.node
    c.deref.result.now c.args.self.now.links.items (suc c.args.self.now.child_left)
    (suc c.args.self.now.child_left) refl c.deref.ensures.value refl at in
    at-same c.args.text.now.shop.now list c.reaches.new.node c.reaches.new.node c.args.self.now.links.items
    c.deref.result.now (suc c.args.self.now.child_left) (suc c.args.self.now.child_left) refl
    (sym c.deref.ensures.value) refl
    (c.reaches.ensures.node list (suc c.args.self.now.child_left) was)

-- and so are those that are kept then
left : (c : After-reaches) (list : List ℕ) → Stands c.args.text.now.shop.now list c.args.self.now →
    AreKept c.args.text.now.shop.now list c.deref_mut.result.now →
    AreKept c.args.text.now.shop.now list (with_items c.args.self.now.lags c.reaches.new.kept).items
left c list stands kept =
    let links : AreLinks c.args.text.now.shop.now.jobs list c.deref.result.now =
    subst (AreLinks c.args.text.now.shop.now.jobs list) (sym c.deref.ensures.value) stands.at.are_links in
    subst (AreKept c.args.text.now.shop.now list) (sym (with_items_is c.args.self.now.lags c.reaches.new.kept
    (c.reaches.ensures.size ∙ c.deref_mut.ensures.len))) (c.reaches.ensures.kept list links kept)

pub returns-then-not-reaches-clause-back : goal.returns-then-not-reaches-clause-back
returns-then-not-reaches-clause-back c =
    let before = goal.at.returns-then-not-reaches-clause-back c in
    let within : c.args.self.now.child_left < length c.args.self.now.frames.items =
    omega (arith, c.requires.at.1.room, c.requires.at.1.at.is_node.count) in
    learnt c.args.text.now.shop.now c.args.self.now _ (record {
      node = c.reaches.new.node;
      job =
          c.index_mut.result.now.job;
      last =
          c.index_mut.result.now.last;
    }) refl refl refl within (λ list stands. known before.After-reaches list
    (reached before.After-left_here list stands)) (λ list stands. left before.After-reaches list stands
    (lent before.After-deref list stands))

pub returns-clause-back : goal.returns-clause-back
returns-clause-back c =
    let before = goal.at.returns-clause-back c in
    let within : c.args.self.now.child_left < length c.args.self.now.frames.items =
    omega (arith, c.requires.at.1.room, c.requires.at.1.at.is_node.count) in
    learnt c.args.text.now.shop.now c.args.self.now _ (record {
      node = c.reaches.new.node;
      job =
          c.index_mut.result.now.job;
      last =
          c.index_mut.result.now.last;
    }) refl refl refl within (λ list stands. known before.After-reaches list
    (reached before.After-left_here list stands)) (λ list stands. left before.After-reaches list stands
    (lent before.After-deref list stands))

-- the byte is a machine's letter, and that machine's bound is tested
bounded : (c : After-reaches) (list : List ℕ) →
    IsAt c.args.text.now.shop.now list c.index_mut.result.now.node c.deref.result.now (left_before c.args.child
    (suc (c.left_here.result - 1))) → AreKept c.args.text.now.shop.now list c.deref_mut.result.now →
    IsChild c.args.text.now.shop.now.jobs list c.args.child →
    (64 < get_or c.args.text.now.bytes.now c.args.spot.at 0)
    × (get_or c.args.text.now.bytes.now c.args.spot.at 0 - 64 ≤ c.args.text.now.shop.now.machines)
    × (c.reaches.result ≡ nat_le c.args.text.now.value (bound_of c.args.text.now.version
    c.args.text.now.shop.now (grown list c.args.child) (get_or c.args.text.now.bytes.now c.args.spot.at 0 - 64)))
bounded c list at kept kid =
    let letter : c.from-machine.result + 1 ≡ get_or c.args.text.now.bytes.now c.args.spot.at 0 - 64 =
    omega (arith, c.from-machine.ensures, c.if-byte-lt65.false) in (
      omega (arith, c.if-byte-lt65.false),
      omega (arith, c.if-machine-machines.false, letter, c.machines.ensures.value),
      c.reaches.ensures.value list (c.left_here.result - 1) at kept kid
          ∙ ap (λ machine. nat_le c.args.text.now.value (bound_of c.args.text.now.version
          c.args.text.now.shop.now (grown list c.args.child) machine)) letter,
    )

pub returns-then-not-reaches-clause-gives : goal.returns-then-not-reaches-clause-gives
returns-then-not-reaches-clause-gives c list stands kid =
    let before = goal.at.returns-then-not-reaches-clause-gives c in
    let is = bounded before.After-reaches list (asked before.After-deref list
    (reached before.After-left_here list stands) c.if-left_here-eq0.false) (lent before.After-deref list stands) kid in
    read before.After-left_here list _
    (cut-weak c.args.text.now.shop.now (bound_of c.args.text.now.version) c.args.text.now.value c.args.spot.line
    c.left_here.result
    (grown list c.args.child)
    (get_or c.args.text.now.bytes.now c.args.spot.at 0) c.reaches.result c.if-left_here-eq0.false
    c.if-byte-eq43.false is.0 is.1 is.2 c.if-not-reaches.true (drop (c.args.spot.at
    + 1) c.args.text.now.bytes.now))

pub returns-clause-gives : goal.returns-clause-gives
returns-clause-gives c list stands kid =
    let before = goal.at.returns-clause-gives c in
    let is = bounded before.After-reaches list (asked before.After-deref list
    (reached before.After-left_here list stands) c.if-left_here-eq0.false) (lent before.After-deref list stands) kid
    in (
      c.if-spot-text.false,
      read before.After-left_here list _
          (cut-strong c.args.text.now.shop.now (bound_of c.args.text.now.version) c.args.text.now.value
          c.args.spot.line c.left_here.result
          (grown list c.args.child)
          (get_or c.args.text.now.bytes.now c.args.spot.at 0) c.reaches.result c.if-left_here-eq0.false
          c.if-byte-eq43.false is.0 is.1 is.2 c.if-not-reaches.false (drop (c.args.spot.at
          + 1) c.args.text.now.bytes.now)),
    )
