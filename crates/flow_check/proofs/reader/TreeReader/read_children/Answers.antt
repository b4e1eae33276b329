use Rattle.std.proofs.Common.{◌≡◌, ◌≢◌, ℕ, suc, ◌+◌, ◌-◌, ◌<◌, ◌≤◌, List, [], ◌∷◌, ◌++◌, length, drop, slice_index}
use Rattle.std.proofs.Common.{Bool, Some, Ok, Err, true, false, refl, sym, ap, subst, ◌∙◌, arith}
use Rattle.std.proofs.lemmas.Grind.{get_or_default_zero}
use Rattle.flow_check.specs.internal.Lags.{AreKept}
use Rattle.flow_check.specs.internal.Nodes.{IsAt, IsChild}
use Rattle.flow_check.specs.internal.Reader.{children_read, frame_at, here, Stands, Opened}
use Rattle.flow_check.proofs.Stacks.{put_back, path, IsStack}
use Rattle.flow_check.specs.internal.PartsGive.{LetterGives}
use Rattle.flow_shop.specs.Bound.{bound_of}
use Rattle.flow_check.specs.internal.ReadTrees.{read_tree}
use Rattle.flow_check.proofs.Readers.{above-more, none-kept}
use Rattle.flow_check.proofs.Exits.{exit}
use Rattle.flow_check.proofs.ReaderSteps.{Reads, reached, none-above, reads-start, reads-back, reads-open, reads-close}
use Rattle.flow_check.proofs.ReaderSteps.{back-open, back-close, back-same, reached-back}
use Rattle.flow_check.proofs.TreeReading.{reading-child, reading-fault, reading-leaf, reading-done, letter-open}
use Rattle.flow_check.proofs.TreeReading.{letter-whole, tree-fails}
use Rattle.flow_check.proofs.reader.TreeReader.read_children.Goals as goal
use Rattle.flow_check.proofs.reader.TreeReader.read_children.Goals.{After-index-job, After-branch-open}
use Rattle.flow_check.proofs.reader.TreeReader.read_children.Goals.{After-open}

pub children-init : goal.children-init
children-init c =
    let none : c.args.self.now.child_left - c.args.self.now.child_left ≡ 0 = omega arith in
    record {
      from = omega arith;
      within = c.requires.within;
      deep = omega arith;
      size = refl;
      others = λ place over. refl;
      back = ap (put_back c.args.self.now.links.items) (none-above c.args.self.now.frames.items
          c.args.self.now.child_left
          (c.args.self.now.child_left - c.args.self.now.child_left) none);
      reading = λ root stands. reads-start c.args.text.now.shop.now c.args.text.now.version c.args.text.now.value
          c.args.spot.line root
          c.args.self.now c.args.spot.at c.args.text.now.bytes.now stands;
      lags = λ root stands. subst (λ fs. AreKept c.args.text.now.shop.now (path root fs)
          c.args.self.now.lags.items) (sym (none-above c.args.self.now.frames.items c.args.self.now.child_left
          (c.args.self.now.child_left - c.args.self.now.child_left) none)) stands.lags;
    }

-- the job that is read is where the link leads
leads : (c : After-index-job) → c.index-job.result.now ≡ slice_index c.children.self.links.items c.children.last
leads c =
    let i = c.children.invariant.reading c.requires.at.0 c.requires.at.1 in
    let within : c.children.last < length c.children.self.links.items =
    omega (arith, i.after_last.0, i.here.are_links.size) in
    c.index-job.ensures ∙ get_or_default_zero c.children.self.links.items c.children.last c.index-job.result.now within

pub returns-then-self-base-clause-back : goal.returns-then-self-base-clause-back
returns-then-self-base-clause-back c =
    let none : c.args.self.now.child_left - c.children.self.child_left ≡ 0 = omega (arith, c.if-self-base.true) in
    let empty = none-above c.children.self.frames.items c.children.self.child_left
    (c.args.self.now.child_left - c.children.self.child_left) none in
    record {
      child_left = c.if-self-base.true;
      links = sym (ap (put_back c.children.self.links.items) empty) ∙ c.children.invariant.back;
      size = c.children.invariant.size;
      others = c.children.invariant.others;
      kept = λ list stands. record {
        at = subst (λ fs. IsAt c.args.text.now.shop.now (path list fs)
            (here c.children.self) c.children.self.links.items (suc c.children.self.child_left)) empty
            (c.children.invariant.reading list stands).here;
        room = c.children.invariant.size ∙ stands.room;
        lags = subst (λ fs. AreKept c.args.text.now.shop.now (path list fs) c.children.self.lags.items) empty
            (c.children.invariant.lags list stands);
      };
    }

pub returns-then-self-base-clause-trees : goal.returns-then-self-base-clause-trees
returns-then-self-base-clause-trees c root stands =
    let none : c.args.self.now.child_left - c.children.self.child_left ≡ 0 = omega (arith, c.if-self-base.true) in (
      reading-done (c.children.invariant.reading root stands) (sym (leads
          (goal.at.returns-then-self-base-clause-trees c).After-index-job) ∙ c.if-job-eq0.true)
          (none-above c.children.self.frames.items c.children.self.child_left
          (c.args.self.now.child_left - c.children.self.child_left) none),
      c.children.invariant.from,
      c.children.invariant.within,
    )

pub close-last-requires-clause-last : goal.close-last-requires-clause-last
close-last-requires-clause-last c =
    let root : List ℕ = c.requires.at.0 in
    let i = c.children.invariant.reading root c.requires.at.1 in
    let deep : c.children.self.child_left < c.args.self.now.child_left =
    omega (arith, c.if-self-base.false, c.children.invariant.deep) in
    let s = subst (IsStack c.args.text.now.shop.now root c.children.self.links.items (suc
    (suc c.children.self.child_left)))
    (above-more c.children.self.frames.items c.children.self.child_left c.args.self.now.child_left deep) i.stack in
    omega (arith, s.4, i.here.are_links.size)

pub children-preserved-then-job-eq0 : goal.children-preserved-then-job-eq0
children-preserved-then-job-eq0 c =
    let deep : c.children.self.child_left < c.args.self.now.child_left =
    omega (arith, c.if-self-base.false, c.children.invariant.deep) in
    let is = c.close-last.ensures.closed in
    let none = sym (leads (goal.at.children-preserved-then-job-eq0 c).After-index-job) ∙ c.if-job-eq0.true in
    record {
      from = c.children.invariant.from;
      within = c.children.invariant.within;
      deep = omega (arith, is.child_left, deep);
      size = ap length is.frames ∙ c.children.invariant.size;
      others = λ place over. ap (λ fs. frame_at fs place) is.frames ∙ c.children.invariant.others place over;
      back = back-close c.args.self.now.child_left c.children.self c.close-last.new.self deep is
          ∙ c.children.invariant.back;
      reading = λ root stands.
          subst (λ k. Reads c.args.text.now.shop.now c.args.text.now.version c.args.text.now.value
          c.args.spot.line root
          (children_read c.args.text.now.shop.now c.args.text.now.version c.args.text.now.value c.args.spot.line
          c.args.self.now.child_left
          root (drop c.args.spot.at c.args.text.now.bytes.now)) c.args.self.now.child_left c.close-last.new.self k
          c.children.at c.args.text.now.bytes.now) (sym c.close-last.ensures.job)
          (reads-close c.args.text.now.shop.now c.args.text.now.version c.args.text.now.value c.args.spot.line
          root
          (children_read c.args.text.now.shop.now c.args.text.now.version c.args.text.now.value c.args.spot.line
          c.args.self.now.child_left
          root (drop c.args.spot.at c.args.text.now.bytes.now)) c.args.self.now.child_left c.children.self
          c.close-last.new.self c.children.last c.children.at c.args.text.now.bytes.now
          (c.children.invariant.reading root stands) none deep is);
      lags = λ root stands. none-kept c.args.text.now.shop.now (reached root c.args.self.now.child_left
          c.close-last.new.self) c.close-last.new.self.lags.items is.lags;
    }

-- the list is reached, and the job that is read is its next child's
child : (c : After-index-job) → c.index-job.result.now ≢ 0 → (root : List ℕ) →
    Stands c.args.text.now.shop.now root c.args.self.now →
    Stands c.args.text.now.shop.now (reached root c.args.self.now.child_left c.children.self) c.children.self
    × IsChild c.args.text.now.shop.now.jobs (reached root c.args.self.now.child_left c.children.self)
    (Some c.index-job.result.now)
child c some root stands =
    let i = c.children.invariant.reading root stands in
    let next = reading-child i (λ e. some (leads c ∙ e)) in (
      record {
        at = i.here;
        room = c.children.invariant.size
            ∙ stands.room;
        lags = c.children.invariant.lags root stands;
      },
      subst (λ j. IsChild c.args.text.now.shop.now.jobs
          (reached root c.args.self.now.child_left c.children.self) (Some j)) (sym (leads c)) (next.1, next.2, next.3),
    )

pub read_letter-requires : goal.read_letter-requires
read_letter-requires c =
    let next = child (goal.at.read_letter-requires c).After-index-job c.if-job-eq0.false c.requires.at.0
    c.requires.at.1 in
    record { at = (reached c.requires.at.0 c.args.self.now.child_left c.children.self, next.0, next.1) }

pub returns-in_err-open-clause-trees : goal.returns-in_err-open-clause-trees
returns-in_err-open-clause-trees c root stands =
    let at = (goal.at.returns-in_err-open-clause-trees c).After-index-job in
    let i = c.children.invariant.reading root stands in
    let next = child at c.if-job-eq0.false root stands in
    let bad = c.in_err-open.ensures.gives (reached root c.args.self.now.child_left c.children.self) next.0 next.1 in
    tree-fails c.args.spot.at c.args.text.now.bytes.now
    (children_read c.args.text.now.shop.now c.args.text.now.version c.args.text.now.value c.args.spot.line
    c.args.self.now.child_left root
    (drop c.args.spot.at c.args.text.now.bytes.now)) c.from_residual.result c.in_err-open.field-0.0
    (exit c.from_residual.result c.in_err-open.field-0.0 c.from_residual.ensures.1)
    (reading-fault (drop c.children.at c.args.text.now.bytes.now) c.in_err-open.field-0.0 i (λ e. c.if-job-eq0.false
    (leads at ∙ e)) refl
    (subst (λ j. read_tree c.args.text.now.shop.now (bound_of c.args.text.now.version) c.args.text.now.value
    c.args.spot.line
    c.children.self.child_left (reached root c.args.self.now.child_left c.children.self ++ j
    ∷ []) (drop c.children.at c.args.text.now.bytes.now) ≡ Err c.in_err-open.field-0.0) (leads at) bad))

-- what is read once the byte is
letter : (c : After-branch-open) → c.index-job.result.now ≢ 0 → (root : List ℕ) →
    Stands c.args.text.now.shop.now root c.args.self.now →
    Reads c.args.text.now.shop.now c.args.text.now.version c.args.text.now.value c.args.spot.line root
    (children_read c.args.text.now.shop.now c.args.text.now.version c.args.text.now.value c.args.spot.line
    c.args.self.now.child_left root
    (drop c.args.spot.at c.args.text.now.bytes.now)) c.args.self.now.child_left c.read_letter.new.self c.children.last
    c.children.at c.args.text.now.bytes.now
letter c some root stands =
    reads-back c.args.text.now.shop.now c.args.text.now.version c.args.text.now.value c.args.spot.line root
    (children_read c.args.text.now.shop.now c.args.text.now.version c.args.text.now.value c.args.spot.line
    c.args.self.now.child_left root
    (drop c.args.spot.at c.args.text.now.bytes.now)) c.args.self.now.child_left c.children.self c.read_letter.new.self
    c.children.last c.children.at c.args.text.now.bytes.now
    (c.children.invariant.reading root stands) (record {
      at = (c.children.invariant.reading root stands).here;
      room = c.children.invariant.size ∙ stands.room;
      lags = c.children.invariant.lags root stands;
    }) c.read_letter.ensures.back

pub open-requires-clause-at : goal.open-requires-clause-at
open-requires-clause-at c =
    let root : List ℕ = c.requires.at.0 in
    let i = c.children.invariant.reading root c.requires.at.1 in
    let next = child (goal.at.open-requires-clause-at c).After-index-job c.if-job-eq0.false root c.requires.at.1 in (
      reached root c.args.self.now.child_left c.children.self,
      c.read_letter.ensures.back.kept
          (reached root c.args.self.now.child_left c.children.self) next.0,
      i.after_last,
    )

-- a plus was read
plus : (c : After-index-job) (b : Bool) → b ≡ true →
    ((list : List ℕ) → Stands c.args.text.now.shop.now list c.children.self →
    IsChild c.args.text.now.shop.now.jobs list (Some c.index-job.result.now) →
    LetterGives c.args.text.now.shop.now c.args.text.now.version c.args.text.now.value c.args.spot.line
    c.children.self.child_left (list
    ++ c.index-job.result.now ∷ []) c.children.at c.args.text.now.bytes.now (Ok b)) → (root : List ℕ) →
    Stands c.args.text.now.shop.now (reached root c.args.self.now.child_left c.children.self) c.children.self
    × IsChild c.args.text.now.shop.now.jobs (reached root c.args.self.now.child_left c.children.self)
    (Some c.index-job.result.now) →
    (0 < c.children.self.child_left) × (c.children.at < length c.args.text.now.bytes.now)
    × (drop c.children.at c.args.text.now.bytes.now ≡ 43 ∷ drop (c.children.at + 1) c.args.text.now.bytes.now)
plus c b is gives root next =
    letter-open c.args.text.now.shop.now c.args.text.now.version c.args.text.now.value c.args.spot.line
    c.children.self.child_left
    (reached root c.args.self.now.child_left c.children.self ++ c.index-job.result.now
    ∷ []) c.children.at c.args.text.now.bytes.now b (gives
    (reached root c.args.self.now.child_left c.children.self) next.0 next.1) is

pub open-requires-clause-more : goal.open-requires-clause-more
open-requires-clause-more c =
    let at = goal.at.open-requires-clause-more c in
    let more = plus at.After-index-job c.in_ok-open.open c.if-open.true c.in_ok-open.ensures.gives c.requires.at.0
    (child at.After-index-job c.if-job-eq0.false c.requires.at.0 c.requires.at.1) in
    omega (arith, more.0, c.read_letter.ensures.back.child_left)

-- the child is opened after the link that led to it
out : (c : After-open) → (c.index-job.result.now ≡ slice_index c.children.self.links.items c.children.last) →
    Opened c.args.text.now.shop.now c.children.last
    (slice_index c.read_letter.new.self.links.items c.children.last) c.read_letter.new.self c.open.new.self
out c job =
    subst (λ j. Opened c.args.text.now.shop.now c.children.last j c.read_letter.new.self c.open.new.self) (job
    ∙ ap (λ l. slice_index l c.children.last) (sym c.read_letter.ensures.back.links)) c.open.ensures

pub children-smaller-then-open : goal.children-smaller-then-open
children-smaller-then-open c =
    let at = goal.at.children-smaller-then-open c in
    let more = plus at.After-index-job c.in_ok-open.open c.if-open.true c.in_ok-open.ensures.gives c.requires.at.0
    (child at.After-index-job c.if-job-eq0.false c.requires.at.0 c.requires.at.1) in
    omega (arith, more.1, c.open.ensures.child_left, c.read_letter.ensures.back.child_left, c.children.invariant.deep)

pub children-preserved-then-open : goal.children-preserved-then-open
children-preserved-then-open c =
    let at = goal.at.children-preserved-then-open c in
    let job = leads at.After-index-job in
    let is = out at.After-open job in
    let back = c.read_letter.ensures.back in
    let some : slice_index c.read_letter.new.self.links.items c.children.last ≢ 0 =
    λ e. c.if-job-eq0.false (job ∙ ap (λ l. slice_index l c.children.last) (sym back.links) ∙ e) in
    let deep : c.read_letter.new.self.child_left ≤ c.args.self.now.child_left =
    omega (arith, back.child_left, c.children.invariant.deep) in
    let more = plus at.After-index-job c.in_ok-open.open c.if-open.true c.in_ok-open.ensures.gives c.requires.at.0
    (child at.After-index-job c.if-job-eq0.false c.requires.at.0 c.requires.at.1) in
    record {
      from = omega (arith, c.children.invariant.from);
      within = omega (arith, more.1);
      deep = omega (arith, is.child_left, deep);
      size = is.size ∙ back.size ∙ c.children.invariant.size;
      others = λ place over.
          is.others place (omega (arith, over, deep))
          ∙ back.others place (omega (arith, over, c.children.invariant.deep))
          ∙ c.children.invariant.others place over;
      back =
          back-open c.args.text.now.shop.now c.args.self.now.child_left c.read_letter.new.self c.open.new.self
          c.children.last deep is
          ∙ back-same c.args.text.now.shop.now c.args.self.now.child_left c.children.self c.read_letter.new.self back
          ∙ c.children.invariant.back;
      reading = λ root stands.
          let there = plus at.After-index-job c.in_ok-open.open c.if-open.true c.in_ok-open.ensures.gives root
          (child at.After-index-job c.if-job-eq0.false root stands) in
          reads-open c.args.text.now.shop.now c.args.text.now.version c.args.text.now.value c.args.spot.line root
          (children_read c.args.text.now.shop.now c.args.text.now.version c.args.text.now.value c.args.spot.line
          c.args.self.now.child_left
          root (drop c.args.spot.at c.args.text.now.bytes.now)) c.args.self.now.child_left c.read_letter.new.self
          c.open.new.self c.children.last c.children.at c.args.text.now.bytes.now
          (letter at.After-branch-open c.if-job-eq0.false root stands) some there.2 deep is;
      lags = λ root stands. none-kept c.args.text.now.shop.now (reached root c.args.self.now.child_left
          c.open.new.self) c.open.new.self.lags.items is.lags;
    }

-- a letter or a point was read
whole : (c : After-index-job) (b : Bool) → b ≡ false →
    ((list : List ℕ) → Stands c.args.text.now.shop.now list c.children.self →
    IsChild c.args.text.now.shop.now.jobs list (Some c.index-job.result.now) →
    LetterGives c.args.text.now.shop.now c.args.text.now.version c.args.text.now.value c.args.spot.line
    c.children.self.child_left (list
    ++ c.index-job.result.now ∷ []) c.children.at c.args.text.now.bytes.now (Ok b)) → (root : List ℕ) →
    Stands c.args.text.now.shop.now (reached root c.args.self.now.child_left c.children.self) c.children.self
    × IsChild c.args.text.now.shop.now.jobs (reached root c.args.self.now.child_left c.children.self)
    (Some c.index-job.result.now) →
    (c.children.at < length c.args.text.now.bytes.now)
    × (read_tree c.args.text.now.shop.now (bound_of c.args.text.now.version) c.args.text.now.value
    c.args.spot.line c.children.self.child_left
    (reached root c.args.self.now.child_left c.children.self ++ c.index-job.result.now
    ∷ []) (drop c.children.at c.args.text.now.bytes.now)
    ≡ Ok (drop (c.children.at + 1) c.args.text.now.bytes.now))
whole c b is gives root next =
    letter-whole c.args.text.now.shop.now c.args.text.now.version c.args.text.now.value c.args.spot.line
    c.children.self.child_left
    (reached root c.args.self.now.child_left c.children.self ++ c.index-job.result.now
    ∷ []) c.children.at c.args.text.now.bytes.now b (gives
    (reached root c.args.self.now.child_left c.children.self) next.0 next.1) is

pub children-smaller : goal.children-smaller
children-smaller c =
    let at = goal.at.children-smaller c in
    let more = whole at.After-index-job c.in_ok-open.open c.if-open.false c.in_ok-open.ensures.gives c.requires.at.0
    (child at.After-index-job c.if-job-eq0.false c.requires.at.0 c.requires.at.1) in
    omega (arith, more.0, c.read_letter.ensures.back.child_left)

pub children-preserved : goal.children-preserved
children-preserved c =
    let at = goal.at.children-preserved c in
    let job = leads at.After-index-job in
    let back = c.read_letter.ensures.back in
    let some : slice_index c.children.self.links.items c.children.last ≢ 0 = λ e. c.if-job-eq0.false (job ∙ e) in
    let more = whole at.After-index-job c.in_ok-open.open c.if-open.false c.in_ok-open.ensures.gives c.requires.at.0
    (child at.After-index-job c.if-job-eq0.false c.requires.at.0 c.requires.at.1) in
    record {
      from = omega (arith, c.children.invariant.from);
      within = omega (arith, more.0);
      deep = omega (arith, back.child_left, c.children.invariant.deep);
      size = back.size ∙ c.children.invariant.size;
      others = λ place over. back.others place (omega (arith, over, c.children.invariant.deep))
          ∙ c.children.invariant.others place over;
      back = back-same c.args.text.now.shop.now c.args.self.now.child_left c.children.self c.read_letter.new.self back
          ∙ c.children.invariant.back;
      reading = λ root stands.
          let there = whole at.After-index-job c.in_ok-open.open c.if-open.false c.in_ok-open.ensures.gives root
          (child at.After-index-job c.if-job-eq0.false root stands) in
          let tree = subst (λ j. read_tree c.args.text.now.shop.now (bound_of c.args.text.now.version)
          c.args.text.now.value
          c.args.spot.line c.children.self.child_left (reached root c.args.self.now.child_left c.children.self ++ j
          ∷ []) (drop c.children.at c.args.text.now.bytes.now)
          ≡ Ok (drop (c.children.at + 1) c.args.text.now.bytes.now)) job there.1 in
          let read = reading-leaf (c.children.invariant.reading root stands) some tree in
          subst (λ j. Reads c.args.text.now.shop.now c.args.text.now.version c.args.text.now.value
          c.args.spot.line root
          (children_read c.args.text.now.shop.now c.args.text.now.version c.args.text.now.value c.args.spot.line
          c.args.self.now.child_left
          root (drop c.args.spot.at c.args.text.now.bytes.now)) c.args.self.now.child_left c.read_letter.new.self j
          (c.children.at + 1) c.args.text.now.bytes.now) (sym job)
          (reads-back c.args.text.now.shop.now c.args.text.now.version c.args.text.now.value c.args.spot.line
          root
          (children_read c.args.text.now.shop.now c.args.text.now.version c.args.text.now.value c.args.spot.line
          c.args.self.now.child_left
          root (drop c.args.spot.at c.args.text.now.bytes.now)) c.args.self.now.child_left c.children.self
          c.read_letter.new.self (slice_index c.children.self.links.items c.children.last) (c.children.at
          + 1) c.args.text.now.bytes.now
          read (child at.After-index-job c.if-job-eq0.false root stands).0 back);
      lags = λ root stands.
          let was = child at.After-index-job c.if-job-eq0.false root stands in
          subst (λ list. AreKept c.args.text.now.shop.now list c.read_letter.new.self.lags.items) (sym
          (reached-back c.args.text.now.shop.now root c.args.self.now.child_left c.children.self
          c.read_letter.new.self back)) (back.kept (reached root c.args.self.now.child_left c.children.self)
          was.0).lags;
    }
