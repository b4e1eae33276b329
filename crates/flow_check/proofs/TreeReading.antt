-- The steps of reading a tree with a stack.
use Rattle.std.proofs.Common.{◌≡◌, ◌≢◌, ℕ, zero, suc, ◌+◌, ◌<◌, ◌≤◌, Bool, true, false, List, [], ◌∷◌, ◌++◌, length}
use Rattle.std.proofs.Common.{drop, slice_index, slice_set, Result, Ok, Err, refl, ap, sym, subst, ◌∙◌, arith, get_or}
use Rattle.std.proofs.Math.Seq.{drop-cons}
use Rattle.flow_shop.specs.Shop.{Shop}
use Rattle.flow_shop.specs.Bound.{bound_of}
use Rattle.flow_shop.specs.Sequences.{has, jobs_left}
use Rattle.flow_check.specs.internal.ReadTrees.{read_tree, each_tree, then_read}
use Rattle.flow_check.specs.internal.Links.{AreLinks}
use Rattle.flow_shop.proofs.Taken.{left_from}
use Rattle.flow_check.specs.internal.Nodes.{IsListNode, IsAt}
use Rattle.flow_check.specs.internal.Reader.{children_read}
use Rattle.flow_check.proofs.Stacks.{path, resume, IsStack, IsReading}
use Rattle.flow_check.specs.internal.PartsGive.{LetterGives, TreeGives}
use Rattle.flow_check.specs.declared.fault.CheckFault.{CheckFault}
use Rattle.flow_check.specs.declared.fault.CheckFault.TheVariants.{Memory, Header, Size, Value, Sequence, NotAttained}
use Rattle.flow_check.specs.declared.fault.CheckFault.TheVariants.{Most, Tree, Weak, Low, End}
use Rattle.flow_check.specs.declared.node.ListNode.{ListNode}
use Rattle.flow_check.specs.declared.reader.ListFrame.{ListFrame}
use Rattle.flow_check.proofs.Links.{left-next, left-none, next-some, next-place, start-place, links-out}
use Rattle.flow_check.proofs.Links.{links-back}

then-assoc : (r : Result (List ℕ) CheckFault) (f g : List ℕ → Result (List ℕ) CheckFault) →
    then_read (then_read r f) g ≡ then_read r (λ b. then_read (f b) g)
then-assoc (Ok b) f g = refl
then-assoc (Err e) f g = refl

then-done : (shop : Shop) (version value place : ℕ) (root : List ℕ) (left : ℕ) (r : Result (List ℕ) CheckFault) →
    r ≡ then_read r (resume shop version value place root left [])
then-done shop version value place root left (Ok b) = refl
then-done shop version value place root left (Err e) = refl

pub no-byte : (shop : Shop) (version value place left : ℕ) (list : List ℕ) →
    read_tree shop (bound_of version) value place left list [] ≡ Err (Tree place)
no-byte shop version value place zero list = refl
no-byte shop version value place (suc left) list = refl

pub reading-start : (shop : Shop) (version value place : ℕ) (root : List ℕ) (node : ListNode) (links : List ℕ)
    (child_left from : ℕ)
    (bytes : List ℕ) → IsAt shop root node links (suc child_left) →
    IsReading shop version value place root (children_read shop version value place child_left root
    (drop from bytes)) node links child_left 0 from bytes []
reading-start shop version value place root node links child_left from bytes at = record {
  here = at;
  after_last = start-place shop.jobs root;
  stack = tt;
  answer = then-done shop version value place root (suc child_left)
      (children_read shop version value place child_left root (drop from bytes));
}

-- a plus, and the trees of the children
plus-read : (shop : Shop) (version value place : ℕ) (root : List ℕ) (left child_left from : ℕ) (bytes : List ℕ)
    (byte : ℕ) →
    left ≡ suc child_left → byte ≡ 43 → drop from bytes ≡ byte ∷ drop (from + 1) bytes →
    read_tree shop (bound_of version) value place left root (drop from bytes)
    ≡ children_read shop version value place child_left root (drop (from + 1) bytes)
plus-read shop version value place root left child_left from bytes byte e plus step =
    ap (λ l. read_tree shop (bound_of version) value place l root (drop from bytes)) e
    ∙ ap (read_tree shop (bound_of version) value place (suc child_left) root) step
    ∙ ap (λ b. read_tree shop (bound_of version) value place (suc child_left) root (b ∷ drop (from + 1) bytes)) plus

gives-before : (from : ℕ) (bytes : List ℕ) (r : Result ℕ CheckFault) (read all : Result (List ℕ) CheckFault) →
    all ≡ read → TreeGives (from + 1) bytes r read → TreeGives from bytes r all
gives-before from bytes (Ok end) read all e h = (e ∙ h.0, omega (arith, h.1), h.2)
gives-before from bytes (Err Memory) read all e h = tt
gives-before from bytes (Err Header) read all e h = e ∙ h
gives-before from bytes (Err Size) read all e h = e ∙ h
gives-before from bytes (Err Value) read all e h = e ∙ h
gives-before from bytes (Err Sequence) read all e h = e ∙ h
gives-before from bytes (Err NotAttained) read all e h = e ∙ h
gives-before from bytes (Err Most) read all e h = e ∙ h
gives-before from bytes (Err (Tree p)) read all e h = e ∙ h
gives-before from bytes (Err (Weak p)) read all e h = e ∙ h
gives-before from bytes (Err (Low p)) read all e h = e ∙ h
gives-before from bytes (Err End) read all e h = e ∙ h

pub plus-gives : (shop : Shop) (version value place : ℕ) (root : List ℕ) (left child_left from : ℕ) (bytes : List ℕ)
    (byte : ℕ)
    (r : Result ℕ CheckFault) → left ≡ suc child_left → byte ≡ 43 → drop from bytes ≡ byte ∷ drop (from + 1) bytes →
    TreeGives (from + 1) bytes r (children_read shop version value place child_left root (drop (from + 1) bytes)) →
    TreeGives from bytes r (read_tree shop (bound_of version) value place left root (drop from bytes))
plus-gives shop version value place root left child_left from bytes byte r e plus step h =
    gives-before from bytes r (children_read shop version value place child_left root (drop (from
    + 1) bytes)) (read_tree shop (bound_of version) value place left root (drop from bytes))
    (plus-read shop version value place root left child_left from bytes byte e plus step) h

-- the next child, where there is one
pub reading-child : {shop : Shop} {version value place : ℕ} {root : List ℕ} {whole : Result
    (List ℕ) CheckFault} {node : ListNode} {links : List ℕ} {child_left last at : ℕ} {bytes : List ℕ}
    {frames : List ListFrame} →
    IsReading shop version value place root whole node links child_left last at bytes frames →
    slice_index links last ≢ 0 →
    (last < slice_index links last) × (1 ≤ slice_index links last) × (slice_index links last ≤ shop.jobs)
    × (has (path root frames) (slice_index links last) ≡ false)
reading-child {shop} {root} {links} {last} {frames} i some =
    next-some shop.jobs (path root frames) last (slice_index links last) (i.here.are_links.each last i.after_last) some

-- the next child is read
child-read : {shop : Shop} {version value place : ℕ} {root : List ℕ} {whole : Result
    (List ℕ) CheckFault} {node : ListNode} {links : List ℕ} {child_left last at : ℕ} {bytes : List ℕ}
    {frames : List ListFrame} (bs : List ℕ) →
    IsReading shop version value place root whole node links child_left last at bytes frames →
    slice_index links last ≢ 0 →
    drop at bytes ≡ bs →
    whole ≡ then_read (then_read (read_tree shop (bound_of version) value place child_left
    (path root frames ++ slice_index links last
    ∷ []) bs) (each_tree (λ j. read_tree shop (bound_of version) value place child_left (path root frames ++ j
    ∷ [])) (left_from shop.jobs (path root frames) (slice_index links last
    + 1)))) (resume shop version value place root (suc child_left) frames)
child-read {shop} {version} {value} {place} {root} {whole} {node} {links} {child_left} {last} {at} {bytes} {frames} bs
    i some
    dropped =
    let read : ℕ → List ℕ → Result (List ℕ) CheckFault =
    λ j. read_tree shop (bound_of version) value place child_left (path root frames ++ j ∷ []) in
    let k : List ℕ → Result (List ℕ) CheckFault = resume shop version value place root (suc child_left) frames in
    i.answer
    ∙ ap (λ js. then_read (each_tree read js (drop at bytes)) k) (left-next shop.jobs (path root frames) last
    (slice_index links last) (i.here.are_links.each last i.after_last) some)
    ∙ ap (λ b. then_read (each_tree read (slice_index links last
    ∷ left_from shop.jobs (path root frames) (slice_index links last + 1)) b) k) dropped

pub reading-fault : {shop : Shop} {version value place : ℕ} {root : List ℕ} {whole : Result
    (List ℕ) CheckFault} {node : ListNode} {links : List ℕ} {child_left last at : ℕ} {bytes : List ℕ}
    {frames : List ListFrame} (bs : List ℕ) (fault : CheckFault) →
    IsReading shop version value place root whole node links child_left last at bytes frames →
    slice_index links last ≢ 0 →
    drop at bytes ≡ bs →
    read_tree shop (bound_of version) value place child_left (path root frames ++ slice_index links last ∷ []) bs
    ≡ Err fault →
    whole ≡ Err fault
reading-fault {shop} {version} {value} {place} {root} {whole} {node} {links} {child_left} {last} {at} {bytes} {frames}
    bs
    fault i some
    dropped bad =
    child-read bs i some dropped
    ∙ ap (λ r. then_read (then_read r (each_tree (λ j. read_tree shop (bound_of version) value place child_left
    (path root frames ++ j
    ∷ [])) (left_from shop.jobs (path root frames) (slice_index links last
    + 1)))) (resume shop version value place root (suc child_left) frames)) bad

pub reading-leaf : {shop : Shop} {version value place : ℕ} {root : List ℕ} {whole : Result
    (List ℕ) CheckFault} {node : ListNode} {links : List ℕ} {child_left last at : ℕ} {bytes : List ℕ}
    {frames : List ListFrame} →
    IsReading shop version value place root whole node links child_left last at bytes frames →
    slice_index links last ≢ 0 →
    read_tree shop (bound_of version) value place child_left (path root frames ++ slice_index links last ∷ [])
    (drop at bytes)
    ≡ Ok (drop (at + 1) bytes) →
    IsReading shop version value place root whole node links child_left (slice_index links last) (at + 1) bytes frames
reading-leaf {shop} {version} {value} {place} {root} {whole} {node} {links} {child_left} {last} {at} {bytes} {frames} i
    some
    good =
    record {
      here = i.here;
      after_last = next-place shop.jobs (path root frames) last (slice_index links last)
          (i.here.are_links.each last i.after_last);
      stack = i.stack;
      answer =
          child-read (drop at bytes) i some refl
          ∙ ap (λ r. then_read (then_read r (each_tree (λ j. read_tree shop (bound_of version) value place child_left
          (path root frames
          ++ j ∷ [])) (left_from shop.jobs (path root frames) (slice_index links last
          + 1)))) (resume shop version value place root (suc child_left) frames)) good;
    }

pub reading-dive : {shop : Shop} {version value place : ℕ} {root : List ℕ} {whole : Result
    (List ℕ) CheckFault} {node : ListNode} {links : List ℕ} {child_left last at : ℕ} {bytes : List ℕ}
    {frames : List ListFrame} (child : ListNode) (less : List ℕ) (lower byte : ℕ) (deeper : List ListFrame) →
    IsReading shop version value place root whole node links child_left last at bytes frames →
    slice_index links last ≢ 0 →
    drop at bytes ≡ byte ∷ drop (at + 1) bytes →
    IsListNode shop (path root frames ++ slice_index links last ∷ []) child child_left →
    less ≡ slice_set links last (slice_index links (slice_index links last)) → child_left ≡ suc lower → byte ≡ 43 →
    deeper ≡ record { node = node; job = slice_index links last; last = last } ∷ frames →
    IsReading shop version value place root whole child less lower 0 (at + 1) bytes deeper
reading-dive {shop} {version} {value} {place} {root} {whole} {node} {links} {child_left} {last} {at} {bytes} {frames}
    child
    less lower
    byte deeper i some dropped is out e plus pushed =
    let job : ℕ = slice_index links last in
    let next = reading-child i some in
    let taken = links-out shop.jobs (path root frames) links last job
    (slice_index links job) i.here.are_links i.after_last refl some refl in
    let back : slice_set less last job ≡ links = ap (λ l. slice_set l last job) out
    ∙ links-back links last job (slice_index links job) refl in
    let js : List ℕ = left_from shop.jobs (path root frames) (job + 1) in
    let goal : IsReading shop version value place root whole child less lower 0 (at
    + 1) bytes (record { node = node; job = job; last = last } ∷ frames) = record {
      here = record {
        is_node = subst (IsListNode shop (path root frames ++ job ∷ []) child) e is;
        are_links =
            subst (λ l. AreLinks shop.jobs (path root frames ++ job ∷ []) l) (sym out) taken;
      };
      after_last = start-place shop.jobs (path root frames ++ job ∷ []);
      stack = (
        subst (λ l. IsAt shop (path root frames) node l (suc (suc lower))) (sym back) (subst (λ l. IsAt shop
            (path root frames) node links (suc l)) e i.here),
        next.1,
        next.2,
        next.3,
        i.after_last.0,
        subst (λ l. IsStack shop root l (suc (suc (suc lower))) frames) (sym back) (subst (λ l. IsStack shop root links
            (suc (suc l)) frames) e i.stack),
      );
      answer =
          child-read (byte ∷ drop (at + 1) bytes) i some dropped
          ∙ ap (λ l. then_read (then_read (read_tree shop (bound_of version) value place l
          (path root frames ++ job ∷ []) (byte
          ∷ drop (at + 1) bytes)) (each_tree (λ j. read_tree shop (bound_of version) value place l
          (path root frames ++ j
          ∷ [])) js)) (resume shop version value place root (suc l) frames)) e
          ∙ ap (λ b. then_read (then_read (read_tree shop (bound_of version) value place (suc lower)
          (path root frames ++ job
          ∷ []) (b ∷ drop (at + 1) bytes)) (each_tree (λ j. read_tree shop (bound_of version) value place (suc lower)
          (path root frames ++ j ∷ [])) js)) (resume shop version value place root (suc (suc lower)) frames)) plus
          ∙ then-assoc (each_tree (λ j. read_tree shop (bound_of version) value place lower
          ((path root frames ++ job ∷ []) ++ j
          ∷ [])) (jobs_left shop.jobs (path root frames ++ job ∷ [])) (drop (at
          + 1) bytes)) (each_tree (λ j. read_tree shop (bound_of version) value place (suc lower) (path root frames ++ j
          ∷ [])) js) (resume shop version value place root (suc (suc lower)) frames);
    } in
    subst (IsReading shop version value place root whole child less lower 0 (at + 1) bytes) (sym pushed) goal

-- no child is left
reading-none : {shop : Shop} {version value place : ℕ} {root : List ℕ} {whole : Result
    (List ℕ) CheckFault} {node : ListNode} {links : List ℕ} {child_left last at : ℕ} {bytes : List ℕ}
    {frames : List ListFrame} →
    IsReading shop version value place root whole node links child_left last at bytes frames → slice_index links last
    ≡ 0 →
    whole ≡ resume shop version value place root (suc child_left) frames (drop at bytes)
reading-none {shop} {version} {value} {place} {root} {whole} {node} {links} {child_left} {last} {at} {bytes} {frames} i
    none
    =
    i.answer
    ∙ ap (λ js. then_read (each_tree (λ j. read_tree shop (bound_of version) value place child_left
    (path root frames ++ j
    ∷ [])) js (drop at bytes)) (resume shop version value place root (suc child_left) frames)) (left-none shop.jobs
    (path root frames) last (slice_index links last) (i.here.are_links.each last i.after_last) none)

pub reading-done : {shop : Shop} {version value place : ℕ} {root : List ℕ} {whole : Result
    (List ℕ) CheckFault} {node : ListNode} {links : List ℕ} {child_left last at : ℕ} {bytes : List ℕ}
    {frames : List ListFrame} →
    IsReading shop version value place root whole node links child_left last at bytes frames → slice_index links last
    ≡ 0 →
    frames ≡ [] → whole ≡ Ok (drop at bytes)
reading-done {shop} {version} {value} {place} {root} {whole} {node} {links} {child_left} {last} {at} {bytes} {frames} i
    none
    empty =
    reading-none i none ∙ ap (λ fs. resume shop version value place root (suc child_left) fs (drop at bytes)) empty

pub reading-up : {shop : Shop} {version value place : ℕ} {root : List ℕ} {whole : Result
    (List ℕ) CheckFault} {node : ListNode} {links : List ℕ} {child_left last at : ℕ} {bytes : List ℕ}
    {frames : List ListFrame} (back : List ℕ) (f : ListFrame) (higher : List ListFrame) →
    IsReading shop version value place root whole node links child_left last at bytes frames → slice_index links last
    ≡ 0 →
    frames ≡ f ∷ higher → back ≡ slice_set links f.last f.job →
    IsReading shop version value place root whole f.node back (child_left + 1) f.job at bytes higher
reading-up {shop} {version} {value} {place} {root} {whole} {node} {links} {child_left} {last} {at} {bytes} {frames}
    back f
    higher i
    none popped is =
    let was : IsReading shop version value place root whole node links child_left last at bytes (f ∷ higher) =
    subst (IsReading shop version value place root whole node links child_left last at bytes) popped i in
    let s = was.stack in
    let more : suc child_left ≡ child_left + 1 = omega arith in
    subst (λ l. IsReading shop version value place root whole f.node back l f.job at bytes higher) more
    (record {
      here = subst (λ l. IsAt shop (path root higher) f.node l (suc (suc child_left))) (sym is) s.0;
      after_last = (s.2, λ low. s.3);
      stack = subst (λ l. IsStack shop root l (suc (suc (suc child_left))) higher) (sym is) s.5;
      answer = reading-none was none;
    })

-- what a byte says

pub letter-open : (shop : Shop) (version value line left : ℕ) (list : List ℕ) (at : ℕ) (bytes : List ℕ) (b : Bool) →
    LetterGives shop version value line left list at bytes (Ok b) → b ≡ true →
    (0 < left) × (at < length bytes) × (drop at bytes ≡ 43 ∷ drop (at + 1) bytes)
letter-open shop version value line left list at bytes b g t =
    subst (λ o. LetterGives shop version value line left list at bytes (Ok o)) t g

pub letter-whole : (shop : Shop) (version value line left : ℕ) (list : List ℕ) (at : ℕ) (bytes : List ℕ) (b : Bool) →
    LetterGives shop version value line left list at bytes (Ok b) → b ≡ false →
    (at < length bytes) × (read_tree shop (bound_of version) value line left list (drop at bytes)
    ≡ Ok (drop (at + 1) bytes))
letter-whole shop version value line left list at bytes b g t =
    subst (λ o. LetterGives shop version value line left list at bytes (Ok o)) t g

fails : (from : ℕ) (bytes : List ℕ) (read : Result (List ℕ) CheckFault) (fault : CheckFault) → read ≡ Err fault →
    TreeGives from bytes (Err fault) read
fails from bytes read Memory e = tt
fails from bytes read Header e = e
fails from bytes read Size e = e
fails from bytes read Value e = e
fails from bytes read Sequence e = e
fails from bytes read NotAttained e = e
fails from bytes read Most e = e
fails from bytes read (Tree p) e = e
fails from bytes read (Weak p) e = e
fails from bytes read (Low p) e = e
fails from bytes read End e = e

pub tree-fails : (from : ℕ) (bytes : List ℕ) (read : Result (List ℕ) CheckFault) (answer : Result ℕ CheckFault)
    (fault : CheckFault) → answer ≡ Err fault → read ≡ Err fault → TreeGives from bytes answer read
tree-fails from bytes read answer fault is e =
    subst (λ (a : Result ℕ CheckFault). TreeGives from bytes a read) (sym is) (fails from bytes read fault e)

pub drop-step : (bytes : List ℕ) (at : ℕ) → at < length bytes → drop at bytes ≡ get_or bytes at 0 ∷ drop (at + 1) bytes
drop-step bytes at h = let n : suc at ≡ at + 1 = omega arith in drop-cons bytes at 0 h
    ∙ ap (λ k. get_or bytes at 0 ∷ drop k bytes) n
