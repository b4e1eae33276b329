-- The line of a sequence.
use Rattle.std.proofs.Common.{◌≡◌, ◌≢◌, ℕ, suc, ◌+◌, ◌-◌, ◌≤◌, ◌<◌, Bool, true, false, cond, ◌||◌, nat_eq, List, []}
use Rattle.std.proofs.Common.{◌∷◌, ◌++◌, length, refl, ap, sym, subst, ◌∙◌, inl, inr, append_assoc, arith}
use Rattle.std.proofs.Common.{set as set_at}
use Rattle.std.specs.Fmt.{decimal}
use Rattle.std.proofs.lemmas.List.{append-nil, length_push, get_or-set_same, get_or-set_other}
use Rattle.std.proofs.lemmas.List.Folds.{list_any-append}
use Rattle.std.proofs.lemmas.List.Elements.{All-from_recursion, recursion_from_All}
use Rattle.std.proofs.lemmas.Bool.{cases_Bool, eq-eqb, ne_eqb, false≢true, eqb-true}
use Rattle.flow_shop.specs.Limits.{most_jobs}
use Rattle.flow_shop.specs.Shop.{Shop}
use Rattle.flow_shop.specs.Front.{IsFrontOf}
use Rattle.flow_shop.specs.JobSet.{contains}
use Rattle.flow_shop.specs.Sequences.{has, AreDistinct}
use Rattle.std.proofs.Math.Bool.{or-true}
use Rattle.flow_shop.proofs.JobsLeft.{InRange, apart, or_false}
use Rattle.flow_shop.proofs.Lists.{not_eq-sym}
use Rattle.flow_check.specs.TextLines.{line, spaced}
use Rattle.flow_check.specs.internal.Heading.{BeginsWithJob, BeginsWithSequence, end_of}

-- numbers, each with the byte that ends it, where so many are still to come
abbrev pub ended : ℕ → List ℕ → List ℕ
ended left [] = []
ended left (n ∷ ns) = decimal n ++ end_of left ∷ ended (left - 1) ns

ended-more : (left n : ℕ) (ns : List ℕ) → ended left (ns ++ n ∷ []) ≡ ended left ns
    ++ (decimal n ++ end_of (left - length ns) ∷ [])
ended-more left n [] = let none : left - 0 ≡ left = omega arith in ap (λ k. decimal n ++ end_of k ∷ []) (sym none)
ended-more left n (m ∷ ns) =
    let less : left - 1 - length ns ≡ left - suc (length ns) = omega arith in
    ap (λ xs. decimal m ++ end_of left ∷ xs) (ended-more (left - 1) n ns)
    ∙ ap (λ k. decimal m ++ end_of left ∷ (ended (left - 1) ns ++ (decimal n ++ end_of k ∷ []))) less
    ∙ sym (append_assoc (decimal m) (end_of left ∷ ended (left - 1) ns) (decimal n ++ end_of (left - suc (length ns))
    ∷ []))

pub ended-push : (left n : ℕ) (ns rest : List ℕ) → ended left ns ++ (decimal n ++ end_of (left - length ns) ∷ rest)
    ≡ ended left (ns ++ n ∷ []) ++ rest
ended-push left n ns rest =
    let e : ℕ = end_of (left - length ns) in
    ap (λ xs. ended left ns ++ xs) (sym (append_assoc (decimal n) (e ∷ []) rest))
    ∙ sym (append_assoc (ended left ns) (decimal n ++ e ∷ []) rest)
    ∙ ap (λ xs. xs ++ rest) (sym (ended-more left n ns))

-- all of them are a line
pub ended-line : (n : ℕ) (ns : List ℕ) → length ns ≡ n → 1 ≤ n → ended n ns ≡ line (spaced ns)
ended-line n [] e some = absurd (omega arith)
ended-line n (j ∷ []) e some = ap (λ k. decimal j ++ end_of k ∷ []) (sym e)
ended-line n (j ∷ k ∷ ns) e some =
    let more : n ≢ 1 = omega arith in
    let less : suc (length ns) ≡ n - 1 = omega arith in
    ap (λ b. decimal j ++ cond b 10 32 ∷ ended (n - 1) (k ∷ ns)) (ne_eqb n 1 more)
    ∙ ap (λ xs. decimal j ++ 32 ∷ xs) (ended-line (n - 1) (k ∷ ns) less (omega arith))
    ∙ sym (append_assoc (decimal j) (32 ∷ spaced (k ∷ ns)) (10 ∷ []))

-- one more job

pub range-push : (n job : ℕ) (jobs : List ℕ) → InRange n jobs → 1 ≤ job → job ≤ n → InRange n (jobs ++ job ∷ [])
range-push n job [] h low high = ((low, high), tt)
range-push n job (j ∷ js) h low high = (h.0, range-push n job js h.1 low high)

pub distinct-push : (job : ℕ) (jobs : List ℕ) → AreDistinct jobs → has jobs job ≡ false → AreDistinct (jobs ++ job ∷ [])
distinct-push job [] h new = (refl, tt)
distinct-push job (j ∷ js) h new =
    let parts = or_false (nat_eq job j) (has js job) new in (
      list_any-append (nat_eq j) js (job ∷ []) ∙ ap (λ b. b || (nat_eq j job || false)) h.0
          ∙ ap (λ b. b || false) (not_eq-sym job j parts.0),
      distinct-push job js h.1 parts.1,
    )

-- each sequence with whose line a text begins begins with these jobs, and the line goes on after them with this rest
abbrev pub GoesOn : ℕ → List ℕ → List ℕ → List ℕ → Type 0
GoesOn n text rest done =
    (jobs after : List ℕ) → BeginsWithSequence n text jobs after → (more : List ℕ)
    × (jobs ≡ done ++ more) × (rest ≡ ended (n - length done) more ++ after)

-- the jobs that were read up to a place of the line: the set and the front are theirs, the text goes on after them,
-- and each sequence in whose line it goes on begins with them
pub record IsDone (shop : Shop) (text : List ℕ) (place : ℕ) (set : List Bool) (front rest done : List ℕ) : Type 0 where
  pub count : length done + 1 ≡ place
  pub range : InRange shop.jobs done
  pub distinct : AreDistinct done
  pub times : IsFrontOf shop done front
  pub members : (job : ℕ) → 1 ≤ job → job ≤ most_jobs → contains set job ≡ has done job
  pub read : text ≡ ended shop.jobs done ++ rest
  pub only : GoesOn shop.jobs text rest done

-- before the first job the whole line is to come
goes-on-at-first : (n : ℕ) (text : List ℕ) → 1 ≤ n → GoesOn n text text []
goes-on-at-first n text some jobs after h = let none : n - 0 ≡ n = omega arith in (
  jobs,
  refl,
  h.1 ∙ ap (λ xs. xs ++ after) (sym (ended-line n jobs h.0.whole some)) ∙ ap (λ k. ended k jobs ++ after) (sym none),
)

-- at the first place nothing was read
pub none-done : (shop : Shop) (text : List ℕ) (set : List Bool) (front : List ℕ) → 1 ≤ shop.jobs →
    IsFrontOf shop [] front → ((job : ℕ) → contains set job ≡ false) → IsDone shop text 1 set front text []
none-done shop text set front some times empty = record {
  count = refl;
  range = tt;
  distinct = tt;
  times = times;
  members = λ job low high. empty job;
  read = refl;
  only = goes-on-at-first shop.jobs text some;
}

-- a sequence in whose line the text goes on has a next job at a place that is not after the last
next-job : (n : ℕ) (text rest done : List ℕ) → GoesOn n text rest done → length done < n → (jobs after : List ℕ) →
    BeginsWithSequence n text jobs after →
    (job : ℕ) × (more : List ℕ) × (jobs ≡ done ++ job ∷ more)
    × BeginsWithJob n rest (end_of (n - length done)) job (ended (n - length done - 1) more
    ++ after) × (has done job ≡ false)
next-job n text rest done only within jobs after h =
    let k = only jobs after h in split k.0 k.1 k.2
  where
    in-range : (n : ℕ) (xs ys : List ℕ) (j : ℕ) → InRange n (xs ++ j ∷ ys) → (1 ≤ j) × (j ≤ n)
    in-range n [] ys j h = h.0
    in-range n (x ∷ xs) ys j h = in-range n xs ys j h.1

    fresh : (j : ℕ) (ys : List ℕ) (b : Bool) → AreDistinct (done ++ j ∷ ys) → has done j ≡ b → has done j ≡ false
    fresh j ys false d e = e
    fresh j ys true d e = absurd (false≢true (sym (apart done (j ∷ ys) j d e)
        ∙ ap (λ b. b || has ys j) (eq-eqb j j refl)))

    split : (more : List ℕ) → jobs ≡ done ++ more → rest ≡ ended (n - length done) more ++ after →
        (job : ℕ) × (more : List ℕ) × (jobs ≡ done ++ job ∷ more)
        × BeginsWithJob n rest (end_of (n - length done)) job (ended
        (n - length done - 1) more ++ after) × (has done job ≡ false)
    split [] e r =
        let whole : length jobs ≡ n = h.0.whole in
        let same : length jobs ≡ length done = ap length (e ∙ append-nil done) in
        absurd (omega (arith, within))
    split (j ∷ js) e r =
        let range = recursion_from_All (λ job. (1 ≤ job) × (job ≤ n)) jobs h.0.each.range in
        let here = in-range n done js j (subst (InRange n) e range) in (
          j,
          js,
          e,
          (
            here.0,
            here.1,
            r ∙ append_assoc (decimal j) (end_of (n - length done) ∷ ended (n - length done - 1) js) after,
          ),
          fresh j js (has done j)
              (subst AreDistinct e h.0.each.distinct) refl,
        )

-- one more job was read, and the text begins with no other
goes-on-after : (n : ℕ) (text rest done : List ℕ) (job : ℕ) (next : List ℕ) → GoesOn n text rest done →
    length done < n →
    ((j : ℕ) (r : List ℕ) → BeginsWithJob n rest (end_of (n - length done)) j r → (job ≡ j) × (next ≡ r)) →
    GoesOn n text next (done ++ job ∷ [])
goes-on-after n text rest done job next goes within only jobs after h =
    let is = next-job n text rest done goes within jobs after h in
    let same = only is.0 (ended (n - length done - 1) is.1 ++ after) is.3 in
    let left : n - length done - 1 ≡ n - length (done ++ job ∷ []) =
    (let long : length (done ++ job ∷ []) ≡ length done + 1 = length_push done job in omega (arith, long)) in (
      is.1,
      is.2 ∙ ap (λ j. done ++ j ∷ is.1) (sym same.0) ∙ sym (append_assoc done (job ∷ []) is.1),
      same.1 ∙ ap (λ k. ended k is.1 ++ after) left,
    )

-- the byte after a job, as the reader takes it
read-end : (n m place len end : ℕ) → len + 1 ≡ place → place ≤ m → m ≡ n → end ≡ end_of (m + 1 - place) →
    end ≡ end_of (n - len)
read-end n m place len end count within same is = let left : m + 1 - place ≡ n - len =
    omega (arith, count, within, same) in is ∙ ap end_of left

as-read : (n m : ℕ) (text : List ℕ) (end other job : ℕ) (rest : List ℕ) → m ≡ n → other ≡ end →
    BeginsWithJob n text end job rest → BeginsWithJob m text other job rest
as-read n m text end other job rest same byte h =
    (h.0, omega (arith, h.1, same), h.2 ∙ ap (λ e. decimal job ++ e ∷ rest) (sym byte))

-- the next job, as the reader takes it
pub at-job : {shop : Shop} {text : List ℕ} {place : ℕ} {set : List Bool} {front rest done : List ℕ} →
    IsDone shop text place set front rest done → (m end : ℕ) → m ≡ shop.jobs → place ≤ m →
    end ≡ end_of (m + 1 - place) →
    (jobs after : List ℕ) → BeginsWithSequence shop.jobs text jobs after → (job : ℕ) × (more : List ℕ)
    × BeginsWithJob m rest end job more × (has done job ≡ false)
at-job {shop} {text} {place} {set} {front} {rest} {done} is m end same within byte jobs after h =
    let left : ℕ = shop.jobs - length done in
    let next = next-job shop.jobs text rest done is.only (omega (arith, is.count, within, same)) jobs after h in
    let more : List ℕ = ended (left - 1) next.1 ++ after in (
      next.0,
      more,
      as-read shop.jobs m rest (end_of left) end next.0 more same
          (read-end shop.jobs m place (length done) end is.count within same byte) next.3,
      next.4,
    )

members-more : (set : List Bool) (done : List ℕ) (job k : ℕ) → length set ≡ most_jobs → 1 ≤ job → job ≤ most_jobs →
    1 ≤ k → k ≤ most_jobs → contains set k ≡ has done k → contains (set_at set (job - 1) true) k
    ≡ has (done ++ job ∷ []) k
members-more set done job k size low high from to before = elim (cases_Bool (nat_eq k job)) [
  | inl same ↦
      let e : k ≡ job = eqb-true k job same in
      let within : job - 1 < length set = omega (arith, size, low, high) in
      ap (contains (set_at set (job - 1) true)) e
      ∙ get_or-set_same set (job - 1) true false within
      ∙ sym (list_any-append (nat_eq k) done (job ∷ []) ∙ ap (λ b. has done k || (b || false)) same
      ∙ or-true (has done k))
  | inr other ↦
      let apart_from : k - 1 ≢ job - 1 = λ e. false≢true (sym other ∙ eq-eqb k job (omega (arith, e, low, from))) in
      get_or-set_other set (job - 1) (k - 1) true false apart_from
      ∙ before
      ∙ sym (list_any-append (nat_eq k) done (job ∷ []) ∙ ap (λ b. has done k || (b || false)) other
      ∙ or-none (has done k))
]
  where
    or-none : (b : Bool) → (b || (false || false)) ≡ b
    or-none true = refl
    or-none false = refl

-- one more job is read
done-next : (shop : Shop) (text : List ℕ) (place : ℕ) (set : List Bool) (front rest : List ℕ) (more : List Bool)
    (times after : List ℕ) (job : ℕ) (done : List ℕ) →
    IsDone shop text place set front rest done → place ≤ shop.jobs → shop.jobs ≤ most_jobs →
    BeginsWithJob shop.jobs rest (end_of (shop.jobs - length done)) job after →
    ((j : ℕ) (r : List ℕ) → BeginsWithJob shop.jobs rest (end_of (shop.jobs - length done)) j r → (job ≡ j)
    × (after ≡ r)) →
    contains set job ≡ false → length set ≡ most_jobs → more ≡ set_at set (job - 1) true →
    IsFrontOf shop (done ++ job ∷ []) times →
    IsDone shop text (place + 1) more times after (done ++ job ∷ [])
done-next shop text place set front rest more times after job done is within limit here only new size inserted pushed =
    record {
      count = let long : length (done ++ job ∷ []) ≡ length done + 1 = length_push done job in
          omega (arith, long, is.count);
      range = range-push shop.jobs job done is.range here.0 here.1;
      distinct = distinct-push job done is.distinct (sym (is.members job here.0 (omega (arith, here.1, limit))) ∙ new);
      times = pushed;
      members = λ k low high. ap (λ s. contains s k) inserted
          ∙ members-more set done job k size here.0 (omega (arith, here.1, limit)) low high (is.members k low high);
      read = is.read ∙ ap (λ xs. ended shop.jobs done ++ xs) here.2 ∙ ended-push shop.jobs job done after;
      only = goes-on-after shop.jobs text rest done job after is.only
          (omega (arith, is.count, within)) only;
    }

-- and it is as the reader takes it
pub done-more : {shop : Shop} {text : List ℕ} {place : ℕ} {set : List Bool} {front rest done : List ℕ} →
    IsDone shop text place set front rest done → (more : List Bool) (times after : List ℕ) (job m end : ℕ) →
    m ≡ shop.jobs → place ≤ m → end ≡ end_of (m + 1 - place) → shop.jobs ≤ most_jobs →
    BeginsWithJob m rest end job after →
    ((j : ℕ) (r : List ℕ) → BeginsWithJob m rest end j r → (job ≡ j) × (after ≡ r)) →
    contains set job ≡ false → length set ≡ most_jobs → more ≡ set_at set (job - 1) true →
    IsFrontOf shop (done ++ job ∷ []) times →
    IsDone shop text (place + 1) more times after (done ++ job ∷ [])
done-more {shop} {text} {place} {set} {front} {rest} {done} is more times after job m end same within byte limit here
    only new size inserted pushed =
    let left : ℕ = shop.jobs - length done in
    let is_end : end ≡ end_of left = read-end shop.jobs m place (length done) end is.count within same byte in
    done-next shop text place set front rest more times after job done is (omega (arith, within, same)) limit
    (as-read m shop.jobs rest end (end_of left) job after (sym same) (sym is_end) here)
    (λ j r h. only j r (as-read shop.jobs m rest (end_of left) end j r same is_end h))
    new size inserted pushed

-- after the last place the sequence is read

pub all-done : (shop : Shop) (text : List ℕ) (place : ℕ) (set : List Bool) (front rest done : List ℕ) →
    IsDone shop text place set front rest done → place ≡ shop.jobs + 1 → 1 ≤ shop.jobs →
    BeginsWithSequence shop.jobs text done rest
all-done shop text place set front rest done is last some =
    let whole : length done ≡ shop.jobs = omega (arith, is.count, last) in (
      record {
        whole = whole;
        each =
            record {
              range = All-from_recursion (λ job. (1 ≤ job) × (job ≤ shop.jobs)) done is.range;
              distinct =
                  is.distinct;
            };
      },
      is.read ∙ ap (λ xs. xs ++ rest) (ended-line shop.jobs done whole some),
    )
