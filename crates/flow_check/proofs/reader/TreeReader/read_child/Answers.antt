use Rattle.std.proofs.Common.{◌≡◌, ◌≢◌, ℕ, ◌+◌, ◌<◌, Bool, List, [], ◌∷◌, ◌++◌, length, drop, slice_index, Some, Result}
use Rattle.std.proofs.Common.{Ok, Err, true, refl, sym, ap, subst, ◌∙◌, arith}
use Rattle.std.proofs.lemmas.Grind.{get_or_default_zero}
use Rattle.flow_shop.specs.Bound.{bound_of}
use Rattle.flow_check.specs.internal.ReadTrees.{read_tree}
use Rattle.flow_check.specs.internal.Links.{IsPlace}
use Rattle.flow_check.specs.internal.Nodes.{IsChild}
use Rattle.flow_check.specs.internal.Reader.{Stands, Opened}
use Rattle.flow_check.specs.internal.PartsGive.{LetterGives, TreeGives}
use Rattle.flow_check.specs.declared.fault.CheckFault.{CheckFault}
use Rattle.flow_check.proofs.Exits.{exit}
use Rattle.flow_check.proofs.Links.{next-some}
use Rattle.flow_check.proofs.Readers.{opened-stands, closed-back, back-twice}
use Rattle.flow_check.proofs.TreeReading.{letter-open, letter-whole, plus-gives, tree-fails}
use Rattle.flow_check.proofs.reader.TreeReader.read_child.Goals as goal
use Rattle.flow_check.proofs.reader.TreeReader.read_child.Goals.{After-index-job, After-open}

-- the job that is read is where the link leads, and it is the next child's
leads : (c : After-index-job) → c.index-job.result.now ≡ slice_index c.args.self.now.links.items c.args.last
leads c =
    let within : c.args.last < length c.args.self.now.links.items =
    omega (arith, c.requires.at.2.0, c.requires.at.1.at.are_links.size) in
    c.index-job.ensures ∙ get_or_default_zero c.args.self.now.links.items c.args.last c.index-job.result.now within

-- the letter of the next child
given : (c : After-index-job) (list : List ℕ) → Stands c.args.text.now.shop.now list c.args.self.now →
    IsPlace c.args.text.now.shop.now.jobs list c.args.last →
    IsChild c.args.text.now.shop.now.jobs list (Some c.index-job.result.now)
given c list stands place =
    let next = next-some c.args.text.now.shop.now.jobs list c.args.last
    (slice_index c.args.self.now.links.items c.args.last)
    (stands.at.are_links.each c.args.last place) c.requires.some in
    subst (λ j. IsChild c.args.text.now.shop.now.jobs list (Some j)) (sym (leads c)) (next.1, next.2, next.3)

pub read_letter-requires : goal.read_letter-requires
read_letter-requires c =
    let kid = given (goal.at.read_letter-requires c).After-index-job c.requires.at.0 c.requires.at.1 c.requires.at.2 in
    record { at = (c.requires.at.0, c.requires.at.1, kid) }

pub returns-in_err-open-clause-tree : goal.returns-in_err-open-clause-tree
returns-in_err-open-clause-tree c list stands place =
    let at = (goal.at.returns-in_err-open-clause-tree c).After-index-job in
    tree-fails c.args.spot.at c.args.text.now.bytes.now
    (read_tree c.args.text.now.shop.now (bound_of c.args.text.now.version) c.args.text.now.value c.args.spot.line
    c.args.self.now.child_left
    (list ++ slice_index c.args.self.now.links.items c.args.last
    ∷ []) (drop c.args.spot.at c.args.text.now.bytes.now)) c.from_residual.result c.in_err-open.field-0.0
    (exit c.from_residual.result c.in_err-open.field-0.0 c.from_residual.ensures.1)
    (subst (λ j. read_tree c.args.text.now.shop.now (bound_of c.args.text.now.version) c.args.text.now.value
    c.args.spot.line
    c.args.self.now.child_left (list ++ j ∷ []) (drop c.args.spot.at c.args.text.now.bytes.now)
    ≡ Err c.in_err-open.field-0.0) (leads at) (c.in_err-open.ensures.gives list stands
    (given at list stands place)))

pub returns-then-not-open-clause-tree : goal.returns-then-not-open-clause-tree
returns-then-not-open-clause-tree c list stands place =
    let at = (goal.at.returns-then-not-open-clause-tree c).After-index-job in
    let is = letter-whole c.args.text.now.shop.now c.args.text.now.version c.args.text.now.value c.args.spot.line
    c.args.self.now.child_left
    (list ++ c.index-job.result.now
    ∷ []) c.args.spot.at c.args.text.now.bytes.now c.in_ok-open.open (c.in_ok-open.ensures.gives list stands
    (given at list stands place)) c.if-not-open.true in (
      ap (λ j. read_tree c.args.text.now.shop.now (bound_of c.args.text.now.version) c.args.text.now.value
          c.args.spot.line
          c.args.self.now.child_left (list ++ j ∷ []) (drop c.args.spot.at c.args.text.now.bytes.now)) (sym (leads at))
          ∙ is.1,
      omega arith,
      omega (arith, is.0),
    )

-- a plus was read
plus : (c : After-index-job) (b : Bool) → b ≡ true → (list : List ℕ) →
    LetterGives c.args.text.now.shop.now c.args.text.now.version c.args.text.now.value c.args.spot.line
    c.args.self.now.child_left (list
    ++ c.index-job.result.now ∷ []) c.args.spot.at c.args.text.now.bytes.now (Ok b) →
    (0 < c.args.self.now.child_left) × (c.args.spot.at < length c.args.text.now.bytes.now)
    × (drop c.args.spot.at c.args.text.now.bytes.now ≡ 43 ∷ drop (c.args.spot.at + 1) c.args.text.now.bytes.now)
plus c b is list gives =
    letter-open c.args.text.now.shop.now c.args.text.now.version c.args.text.now.value c.args.spot.line
    c.args.self.now.child_left (list
    ++ c.index-job.result.now ∷ []) c.args.spot.at c.args.text.now.bytes.now b gives is

pub open-requires-clause-more : goal.open-requires-clause-more
open-requires-clause-more c =
    let at = (goal.at.open-requires-clause-more c).After-index-job in
    let is = plus at c.in_ok-open.open c.if-not-open.false c.requires.at.0
    (c.in_ok-open.ensures.gives c.requires.at.0 c.requires.at.1
    (given at c.requires.at.0 c.requires.at.1 c.requires.at.2)) in
    omega (arith, is.0, c.read_letter.ensures.back.child_left)

-- the child is opened after the link that led to it
out : (c : After-open) → c.index-job.result.now ≡ slice_index c.args.self.now.links.items c.args.last →
    Opened c.args.text.now.shop.now c.args.last
    (slice_index c.read_letter.new.self.links.items c.args.last) c.read_letter.new.self c.open.new.self
out c job = subst (λ j. Opened c.args.text.now.shop.now c.args.last j c.read_letter.new.self c.open.new.self) (job
    ∙ ap (λ l. slice_index l c.args.last) (sym c.read_letter.ensures.back.links)) c.open.ensures

-- and it is reached
there : (c : After-open) → c.index-job.result.now ≡ slice_index c.args.self.now.links.items c.args.last →
    (list : List ℕ) → Stands c.args.text.now.shop.now list c.args.self.now →
    IsPlace c.args.text.now.shop.now.jobs list c.args.last →
    Stands c.args.text.now.shop.now (list ++ slice_index c.args.self.now.links.items c.args.last
    ∷ []) c.open.new.self
there c job list stands place =
    let links = c.read_letter.ensures.back.links in
    let some : slice_index c.read_letter.new.self.links.items c.args.last ≢ 0 =
    λ e. c.requires.some (ap (λ l. slice_index l c.args.last) (sym links) ∙ e) in
    subst (λ l. Stands c.args.text.now.shop.now (list ++ slice_index l c.args.last ∷ []) c.open.new.self) links
    (opened-stands c.args.text.now.shop.now list c.args.last c.read_letter.new.self c.open.new.self
    (c.read_letter.ensures.back.kept list stands) place some (out c job))

pub read_children-requires-clause-at : goal.read_children-requires-clause-at
read_children-requires-clause-at c =
    let at = goal.at.read_children-requires-clause-at c in (
      c.requires.at.0 ++ slice_index c.args.self.now.links.items c.args.last
          ∷ [],
      there at.After-open (leads at.After-index-job) c.requires.at.0 c.requires.at.1 c.requires.at.2,
    )

pub read_children-requires-clause-within : goal.read_children-requires-clause-within
read_children-requires-clause-within c =
    let at = (goal.at.read_children-requires-clause-within c).After-index-job in
    let is = plus at c.in_ok-open.open c.if-not-open.false c.requires.at.0
    (c.in_ok-open.ensures.gives c.requires.at.0 c.requires.at.1
    (given at c.requires.at.0 c.requires.at.1 c.requires.at.2)) in
    omega (arith, is.1)

pub returns-in_err-end-clause-tree : goal.returns-in_err-end-clause-tree
returns-in_err-end-clause-tree c list stands place =
    let at = goal.at.returns-in_err-end-clause-tree c in
    let is = plus at.After-index-job c.in_ok-open.open c.if-not-open.false list (c.in_ok-open.ensures.gives list stands
    (given at.After-index-job list stands place)) in
    subst (λ (r : Result ℕ CheckFault). TreeGives c.args.spot.at c.args.text.now.bytes.now r
    (read_tree c.args.text.now.shop.now (bound_of c.args.text.now.version) c.args.text.now.value c.args.spot.line
    c.args.self.now.child_left
    (list ++ slice_index c.args.self.now.links.items c.args.last
    ∷ []) (drop c.args.spot.at c.args.text.now.bytes.now)))
    (sym (exit c.from_residual-in_err-end.result c.in_err-end.field-0.0 c.from_residual-in_err-end.ensures.1))
    (plus-gives c.args.text.now.shop.now c.args.text.now.version c.args.text.now.value c.args.spot.line (list
    ++ slice_index c.args.self.now.links.items c.args.last
    ∷ []) c.args.self.now.child_left c.open.new.self.child_left c.args.spot.at c.args.text.now.bytes.now 43
    (Err c.in_err-end.field-0.0)
    (sym (c.open.ensures.child_left
    ∙ c.read_letter.ensures.back.child_left)) refl is.2 (c.in_err-end.ensures.trees (list
    ++ slice_index c.args.self.now.links.items c.args.last
    ∷ []) (there at.After-open (leads at.After-index-job) list stands place)))

pub returns-clause-back : goal.returns-clause-back
returns-clause-back c =
    let at = goal.at.returns-clause-back c in
    back-twice c.args.text.now.shop.now c.args.self.now c.read_letter.new.self c.close.new.self
    c.read_letter.ensures.back
    (closed-back c.args.text.now.shop.now c.args.last c.read_letter.new.self c.open.new.self
    c.read_children.new.self c.close.new.self (out at.After-open
    (leads at.After-index-job)) c.in_ok-end.ensures.back c.close.ensures.closed)

pub returns-clause-tree : goal.returns-clause-tree
returns-clause-tree c list stands place =
    let at = goal.at.returns-clause-tree c in
    let is = plus at.After-index-job c.in_ok-open.open c.if-not-open.false list (c.in_ok-open.ensures.gives list stands
    (given at.After-index-job list stands place)) in
    plus-gives c.args.text.now.shop.now c.args.text.now.version c.args.text.now.value c.args.spot.line (list
    ++ slice_index c.args.self.now.links.items c.args.last
    ∷ []) c.args.self.now.child_left c.open.new.self.child_left c.args.spot.at c.args.text.now.bytes.now 43
    (Ok c.in_ok-end.end)
    (sym (c.open.ensures.child_left
    ∙ c.read_letter.ensures.back.child_left)) refl is.2 (c.in_ok-end.ensures.trees (list
    ++ slice_index c.args.self.now.links.items c.args.last
    ∷ []) (there at.After-open (leads at.After-index-job) list stands place))
