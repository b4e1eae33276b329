use Rattle.std.proofs.Common.{◌≡◌, ◌≢◌, ℕ, suc, ◌+◌, ◌-◌, ◌<◌, List, [], ◌∷◌, ◌++◌, length, drop, slice_index, sym, ap}
use Rattle.std.proofs.Common.{subst, ◌∙◌, arith}
use Rattle.std.proofs.lemmas.Grind.{get_or_default_zero}
use Rattle.flow_shop.specs.Bound.{bound_of}
use Rattle.flow_shop.specs.Sequences.{extensions}
use Rattle.flow_check.specs.internal.ReadTrees.{trees_value}
use Rattle.flow_check.specs.internal.Links.{IsNext, IsPlace}
use Rattle.flow_check.specs.internal.Reader.{Stands, IsBack, Opened}
use Rattle.flow_check.proofs.Stacks.{awaited}
use Rattle.flow_check.proofs.Exits.{exit, no_value}
use Rattle.flow_check.specs.internal.Gives.{IsSpotOf}
use Rattle.flow_check.proofs.Links.{start-place, next-place, next-some}
use Rattle.flow_check.proofs.LineSteps.{awaited-start, awaited-none, awaited-line, awaited-lines, lines-err}
use Rattle.flow_check.proofs.Readers.{opened-stands, frame-kept, closed-back, back-none, back-twice}
use Rattle.flow_check.proofs.reader.TreeReader.+read_lines.Goals as goal
use Rattle.flow_check.proofs.reader.TreeReader.+read_lines.Goals.{After-index-job, After-open, After-close-last}

pub children-init : goal.children-init
children-init t c = record {
  within = c.requires.spot.0;
  line = c.requires.spot.1;
  back = back-none c.args.text.now.shop.now c.args.self.now;
  after_last = λ list stands. start-place c.args.text.now.shop.now.jobs list;
  fault = λ list stands rest.
      ap (λ ps. trees_value c.args.text.now.shop.now (bound_of c.args.text.now.version) c.args.text.now.value
      (suc c.args.self.now.child_left - c.args.more) (ps
      ++ rest) c.args.spot.line (drop c.args.spot.at c.args.text.now.bytes.now))
      (awaited-start c.args.text.now.shop.now.jobs c.args.more list c.requires.some);
}

-- where the link leads
next : (t : ℕ) (c : After-index-job t) (list : List ℕ) → Stands c.args.text.now.shop.now list c.args.self.now →
    IsNext c.args.text.now.shop.now.jobs list c.children.last
    (slice_index c.children.self.links.items c.children.last)
next t c list stands =
    (c.children.invariant.back.kept list stands).at.are_links.each c.children.last
    (c.children.invariant.after_last list stands)

-- the job that is read is there
leads : (t : ℕ) (c : After-index-job t) → c.index-job.result.now
    ≡ slice_index c.children.self.links.items c.children.last
leads t c =
    let stands = c.children.invariant.back.kept c.requires.at.0 c.requires.at.1 in
    let place = c.children.invariant.after_last c.requires.at.0 c.requires.at.1 in
    let within : c.children.last < length c.children.self.links.items =
    omega (arith, place.0, stands.at.are_links.size) in
    c.index-job.ensures ∙ get_or_default_zero c.children.self.links.items c.children.last c.index-job.result.now within

pub returns-then-job-eq0-clause-within : goal.returns-then-job-eq0-clause-within
returns-then-job-eq0-clause-within t c = (c.children.invariant.within, c.children.invariant.line)

pub returns-then-job-eq0-clause-back : goal.returns-then-job-eq0-clause-back
returns-then-job-eq0-clause-back t c = c.children.invariant.back

pub read_line-requires-clause-at : goal.read_line-requires-clause-at
read_line-requires-clause-at t c = (
  c.requires.at.0,
  c.children.invariant.back.kept c.requires.at.0 c.requires.at.1,
  c.children.invariant.after_last c.requires.at.0 c.requires.at.1,
)

pub read_line-requires-clause-some : goal.read_line-requires-clause-some
read_line-requires-clause-some t c e =
    c.if-job-eq0.false (leads t (goal.at.read_line-requires-clause-some t c).After-index-job ∙ e)

pub read_line-requires-clause-spot : goal.read_line-requires-clause-spot
read_line-requires-clause-spot t c = (c.children.invariant.within, c.children.invariant.line)

pub returns-in_err-place-clause-within : goal.returns-in_err-place-clause-within
returns-in_err-place-clause-within t c =
    no_value c.from_residual.result c.in_err-place.field-0.0 (IsSpotOf c.args.text.now) c.from_residual.ensures.1

pub returns-in_err-place-clause-back : goal.returns-in_err-place-clause-back
returns-in_err-place-clause-back t c =
    no_value c.from_residual.result c.in_err-place.field-0.0
    (λ spot. IsBack c.args.text.now.shop.now c.args.self.now c.read_line.new.self) c.from_residual.ensures.1

pub open-requires-clause-at : goal.open-requires-clause-at
open-requires-clause-at t c = (
  c.requires.at.0,
  c.children.invariant.back.kept c.requires.at.0 c.requires.at.1,
  c.children.invariant.after_last c.requires.at.0 c.requires.at.1,
)

pub open-requires-clause-next : goal.open-requires-clause-next
open-requires-clause-next t c = sym (leads t (goal.at.open-requires-clause-next t c).After-index-job)

pub open-requires-clause-some : goal.open-requires-clause-some
open-requires-clause-some t c = c.if-job-eq0.false

pub open-requires-clause-more : goal.open-requires-clause-more
open-requires-clause-more t c = omega
    (arith, c.requires.more, c.requires.some, c.if-more-eq1.false, c.children.invariant.back.child_left)

pub returns-in_err-place-2-clause-within : goal.returns-in_err-place-2-clause-within
returns-in_err-place-2-clause-within t c =
    no_value c.from_residual-in_err-place-2.result c.in_err-place-2.field-0.0 (IsSpotOf c.args.text.now)
    c.from_residual-in_err-place-2.ensures.1

pub returns-in_err-place-2-clause-back : goal.returns-in_err-place-2-clause-back
returns-in_err-place-2-clause-back t c =
    no_value c.from_residual-in_err-place-2.result c.in_err-place-2.field-0.0
    (λ spot. IsBack c.args.text.now.shop.now c.args.self.now c.read_lines.new.self)
    c.from_residual-in_err-place-2.ensures.1

pub returns-then-job-eq0-clause-lines : goal.returns-then-job-eq0-clause-lines
returns-then-job-eq0-clause-lines t c list stands rest =
    let at = (goal.at.returns-then-job-eq0-clause-lines t c).After-index-job in
    c.children.invariant.fault list stands rest
    ∙ ap (λ ps. trees_value c.args.text.now.shop.now (bound_of c.args.text.now.version) c.args.text.now.value
    (suc c.args.self.now.child_left - c.args.more) (ps
    ++ rest) c.children.place.line (drop c.children.place.at c.args.text.now.bytes.now))
    (awaited-none c.args.text.now.shop.now.jobs c.args.more list c.children.last
    (slice_index c.children.self.links.items c.children.last) (next t at list stands) (sym (leads t at)
    ∙ c.if-job-eq0.true))

pub returns-in_err-place-clause-lines : goal.returns-in_err-place-clause-lines
returns-in_err-place-clause-lines t c list stands =
    let at = (goal.at.returns-in_err-place-clause-lines t c).After-index-job in
    let job : ℕ = slice_index c.children.self.links.items c.children.last in
    let back = c.children.invariant.back in
    let place = c.children.invariant.after_last list stands in
    let some : job ≢ 0 = λ e. c.if-job-eq0.false (leads t at ∙ e) in
    lines-err c.args.text.now.shop.now c.args.text.now.version c.args.text.now.value
    (suc c.args.self.now.child_left - c.args.more) c.children.self.child_left
    (extensions c.args.text.now.shop.now.jobs c.args.more list) ((list ++ job ∷ [])
    ∷ []) c.args.spot.line c.children.place.line c.args.spot.at c.children.place.at c.args.text.now.bytes.now
    c.from_residual.result c.in_err-place.field-0.0
    (exit c.from_residual.result c.in_err-place.field-0.0 c.from_residual.ensures.1)
    (λ bad rest.
    c.children.invariant.fault list stands rest
    ∙ awaited-line c.args.text.now.shop.now c.args.text.now.version c.args.text.now.value
    (suc c.args.self.now.child_left) c.children.self.child_left c.args.more list c.children.last job
    c.children.place.line
    (drop c.children.place.at c.args.text.now.bytes.now) rest (next t at list stands) some c.if-more-eq1.true
    (ap suc (sym back.child_left))
    ∙ bad (awaited c.args.text.now.shop.now.jobs c.args.more list (job + 1) ++ rest))
    (c.in_err-place.ensures.lines list (back.kept list stands) place)

pub children-smaller-then-more-eq1 : goal.children-smaller-then-more-eq1
children-smaller-then-more-eq1 t c =
    let at = (goal.at.children-smaller-then-more-eq1 t c).After-index-job in
    let job : ℕ = slice_index c.children.self.links.items c.children.last in
    let some : job ≢ 0 = λ e. c.if-job-eq0.false (leads t at ∙ e) in
    let is = next-some c.args.text.now.shop.now.jobs c.requires.at.0 c.children.last job
    (next t at c.requires.at.0 c.requires.at.1) some in
    omega (arith, is.0, is.2, leads t at)

pub children-preserved-then-more-eq1 : goal.children-preserved-then-more-eq1
children-preserved-then-more-eq1 t c =
    let at = (goal.at.children-preserved-then-more-eq1 t c).After-index-job in
    let job : ℕ = slice_index c.children.self.links.items c.children.last in
    let back = c.children.invariant.back in
    let some : job ≢ 0 = λ e. c.if-job-eq0.false (leads t at ∙ e) in
    record {
      within = c.in_ok-place.ensures.within.0;
      line = c.in_ok-place.ensures.within.1;
      back = back-twice c.args.text.now.shop.now c.args.self.now c.children.self c.read_line.new.self back
          c.in_ok-place.ensures.back;
      after_last = λ list stands. subst (IsPlace c.args.text.now.shop.now.jobs list) (sym (leads t at))
          (next-place c.args.text.now.shop.now.jobs list c.children.last job (next t at list stands));
      fault = λ list stands rest.
          let left : c.children.self.child_left ≡ suc c.args.self.now.child_left - c.args.more =
          omega (arith, back.child_left, c.if-more-eq1.true) in
          c.children.invariant.fault list stands rest
          ∙ awaited-line c.args.text.now.shop.now c.args.text.now.version c.args.text.now.value
          (suc c.args.self.now.child_left) c.children.self.child_left c.args.more list c.children.last job
          c.children.place.line (drop c.children.place.at c.args.text.now.bytes.now) rest
          (next t at list stands) some c.if-more-eq1.true (ap suc (sym back.child_left))
          ∙ c.in_ok-place.ensures.lines list (back.kept list stands) (c.children.invariant.after_last list stands)
          (awaited c.args.text.now.shop.now.jobs c.args.more list (job + 1) ++ rest)
          ∙ ap (λ l. trees_value c.args.text.now.shop.now (bound_of c.args.text.now.version)
          c.args.text.now.value l
          (awaited c.args.text.now.shop.now.jobs c.args.more list (job + 1)
          ++ rest) c.in_ok-place.place.line (drop c.in_ok-place.place.at c.args.text.now.bytes.now)) left
          ∙ ap (λ j. trees_value c.args.text.now.shop.now (bound_of c.args.text.now.version)
          c.args.text.now.value
          (suc c.args.self.now.child_left - c.args.more) (awaited c.args.text.now.shop.now.jobs c.args.more list (j
          + 1) ++ rest) c.in_ok-place.place.line (drop c.in_ok-place.place.at c.args.text.now.bytes.now)) (sym
          (leads t at));
    }

-- the child is opened after the link that led to it
out : (t : ℕ) (c : After-open t) → c.index-job.result.now ≡ slice_index c.children.self.links.items c.children.last →
    Opened c.args.text.now.shop.now c.children.last
    (slice_index c.children.self.links.items c.children.last) c.children.self c.open.new.self
out t c job = subst (λ j. Opened c.args.text.now.shop.now c.children.last j c.children.self c.open.new.self) job
    c.open.ensures

-- and it is reached
there : (t : ℕ) (c : After-open t) → c.index-job.result.now ≡ slice_index c.children.self.links.items c.children.last →
    c.index-job.result.now ≢ 0 → (list : List ℕ) → Stands c.args.text.now.shop.now list c.args.self.now →
    Stands c.args.text.now.shop.now (list ++ slice_index c.children.self.links.items c.children.last
    ∷ []) c.open.new.self
there t c job some list stands =
    opened-stands c.args.text.now.shop.now list c.children.last c.children.self c.open.new.self
    (c.children.invariant.back.kept list stands) (c.children.invariant.after_last list stands) (λ e. some (job
    ∙ e)) (out t c job)

pub read_lines-requires : goal.read_lines-requires
read_lines-requires t c =
    let at = goal.at.read_lines-requires t c in
    let list : List ℕ = c.requires.at.0 in
    let job : ℕ = slice_index c.children.self.links.items c.children.last in (
      omega (arith, c.decreases, c.requires.some),
      (
        (
          list ++ job ∷ [],
          there t at.After-open
              (leads t at.After-index-job) c.if-job-eq0.false list c.requires.at.1,
        ),
        (
          omega (arith, c.requires.some, c.if-more-eq1.false),
          (
            omega
                (arith, c.requires.more, c.open.ensures.child_left, c.children.invariant.back.child_left),
            (c.children.invariant.within, c.children.invariant.line),
          ),
        ),
      ),
    )

pub returns-in_err-place-2-clause-lines : goal.returns-in_err-place-2-clause-lines
returns-in_err-place-2-clause-lines t c list stands =
    let at = goal.at.returns-in_err-place-2-clause-lines t c in
    let job : ℕ = slice_index c.children.self.links.items c.children.last in
    let back = c.children.invariant.back in
    let some : job ≢ 0 = λ e. c.if-job-eq0.false (leads t at.After-index-job ∙ e) in
    let left : suc c.args.self.now.child_left - 1 - (c.args.more - 1) ≡ suc c.open.new.self.child_left -
    (c.args.more - 1) =
    omega (arith, c.open.ensures.child_left, back.child_left) in
    lines-err c.args.text.now.shop.now c.args.text.now.version c.args.text.now.value
    (suc c.args.self.now.child_left - c.args.more)
    (suc c.open.new.self.child_left - (c.args.more - 1)) (extensions c.args.text.now.shop.now.jobs c.args.more list)
    (extensions c.args.text.now.shop.now.jobs (c.args.more - 1) (list ++ job
    ∷ [])) c.args.spot.line c.children.place.line c.args.spot.at c.children.place.at c.args.text.now.bytes.now
    c.from_residual-in_err-place-2.result c.in_err-place-2.field-0.0
    (exit c.from_residual-in_err-place-2.result c.in_err-place-2.field-0.0 c.from_residual-in_err-place-2.ensures.1)
    (λ bad rest.
    c.children.invariant.fault list stands rest
    ∙ awaited-lines c.args.text.now.shop.now c.args.text.now.version c.args.text.now.value
    (suc c.args.self.now.child_left) c.args.more list c.children.last job c.children.place.line
    (drop c.children.place.at c.args.text.now.bytes.now) rest
    (next t at.After-index-job list stands) some c.requires.some c.requires.more
    ∙ ap (λ l. trees_value c.args.text.now.shop.now (bound_of c.args.text.now.version) c.args.text.now.value l
    (extensions c.args.text.now.shop.now.jobs (c.args.more - 1) (list ++ job ∷ [])
    ++ (awaited c.args.text.now.shop.now.jobs c.args.more list (job + 1)
    ++ rest)) c.children.place.line (drop c.children.place.at c.args.text.now.bytes.now)) left
    ∙ bad (awaited c.args.text.now.shop.now.jobs c.args.more list (job + 1) ++ rest))
    (c.in_err-place-2.ensures.lines (list ++ job
    ∷ []) (there t at.After-open (leads t at.After-index-job) c.if-job-eq0.false list stands))

-- the job of the child that was closed
shut : (t : ℕ) (c : After-close-last t) → c.index-job.result.now
    ≡ slice_index c.children.self.links.items c.children.last →
    IsBack c.args.text.now.shop.now c.open.new.self c.read_lines.new.self →
    c.close-last.result ≡ slice_index c.children.self.links.items c.children.last
shut t c job back =
    c.close-last.ensures.job
    ∙ ap (λ f. f.job) (frame-kept c.args.text.now.shop.now c.children.last c.index-job.result.now
    c.children.self c.open.new.self c.read_lines.new.self c.open.ensures back) ∙ job

pub children-smaller : goal.children-smaller
children-smaller t c =
    let at = goal.at.children-smaller t c in
    let job : ℕ = slice_index c.children.self.links.items c.children.last in
    let some : job ≢ 0 = λ e. c.if-job-eq0.false (leads t at.After-index-job ∙ e) in
    let is = next-some c.args.text.now.shop.now.jobs c.requires.at.0 c.children.last job
    (next t at.After-index-job c.requires.at.0 c.requires.at.1) some in
    omega (arith, is.0, is.2, shut t at.After-close-last (leads t at.After-index-job) c.in_ok-place-2.ensures.back)

pub children-preserved : goal.children-preserved
children-preserved t c =
    let at = goal.at.children-preserved t c in
    let job : ℕ = slice_index c.children.self.links.items c.children.last in
    let back = c.children.invariant.back in
    let some : job ≢ 0 = λ e. c.if-job-eq0.false (leads t at.After-index-job ∙ e) in
    let last = shut t at.After-close-last (leads t at.After-index-job) c.in_ok-place-2.ensures.back in
    record {
      within = c.in_ok-place-2.ensures.within.0;
      line = c.in_ok-place-2.ensures.within.1;
      back = back-twice c.args.text.now.shop.now c.args.self.now c.children.self c.close-last.new.self back
          (closed-back c.args.text.now.shop.now c.children.last c.children.self c.open.new.self
          c.read_lines.new.self c.close-last.new.self (out t at.After-open
          (leads t at.After-index-job)) c.in_ok-place-2.ensures.back c.close-last.ensures.closed);
      after_last = λ list stands. subst (IsPlace c.args.text.now.shop.now.jobs list) (sym last)
          (next-place c.args.text.now.shop.now.jobs list c.children.last job
          (next t at.After-index-job list stands));
      fault = λ list stands rest.
          let after : List (List ℕ) = awaited c.args.text.now.shop.now.jobs c.args.more list (job + 1) ++ rest in
          let left : suc c.args.self.now.child_left - 1 - (c.args.more - 1) ≡ suc c.open.new.self.child_left -
          (c.args.more - 1) =
          omega (arith, c.open.ensures.child_left, back.child_left) in
          let same : suc c.open.new.self.child_left - (c.args.more - 1) ≡ suc c.args.self.now.child_left - c.args.more =
          omega (arith, c.open.ensures.child_left, back.child_left, c.requires.some, c.requires.more) in
          c.children.invariant.fault list stands rest
          ∙ awaited-lines c.args.text.now.shop.now c.args.text.now.version c.args.text.now.value
          (suc c.args.self.now.child_left) c.args.more list c.children.last job c.children.place.line
          (drop c.children.place.at c.args.text.now.bytes.now) rest
          (next t at.After-index-job list stands) some c.requires.some c.requires.more
          ∙ ap (λ l. trees_value c.args.text.now.shop.now (bound_of c.args.text.now.version)
          c.args.text.now.value l
          (extensions c.args.text.now.shop.now.jobs (c.args.more - 1) (list ++ job ∷ [])
          ++ after) c.children.place.line (drop c.children.place.at c.args.text.now.bytes.now)) left
          ∙ c.in_ok-place-2.ensures.lines (list ++ job
          ∷ []) (there t at.After-open (leads t at.After-index-job) c.if-job-eq0.false list stands) after
          ∙ ap (λ l. trees_value c.args.text.now.shop.now (bound_of c.args.text.now.version)
          c.args.text.now.value l after
          c.in_ok-place-2.place.line (drop c.in_ok-place-2.place.at c.args.text.now.bytes.now)) same
          ∙ ap (λ j. trees_value c.args.text.now.shop.now (bound_of c.args.text.now.version)
          c.args.text.now.value
          (suc c.args.self.now.child_left - c.args.more) (awaited c.args.text.now.shop.now.jobs c.args.more list (j
          + 1) ++ rest) c.in_ok-place-2.place.line (drop c.in_ok-place-2.place.at c.args.text.now.bytes.now))
          (sym last);
    }
