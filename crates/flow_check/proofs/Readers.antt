-- How a reader goes to a child and back.
use Rattle.std.proofs.Common.{◌≡◌, ◌≢◌, ℕ, zero, suc, ◌+◌, ◌-◌, ◌<◌, ◌≤◌, List, [], ◌∷◌, ◌++◌, length, slice_index}
use Rattle.std.proofs.Common.{slice_set, slice_index_or, replicate, set, get_or, Option, Some, None, false, refl, ap}
use Rattle.std.proofs.Common.{sym, subst, ◌∙◌, arith}
use Rattle.std.proofs.Common.{IfSome}
use Rattle.std.proofs.lemmas.List.{get_or_default, get_or-set_same, get_or-set_other, length-set, set-append_left}
use Rattle.std.proofs.lemmas.List.{set-append_right, get_or-replicate, length-replicate}
use Rattle.flow_shop.specs.Shop.{Shop}
use Rattle.flow_shop.specs.Sequences.{has}
use Rattle.flow_check.specs.internal.Lags.{AreTwoLeastLagsTo, AreKept, AreUnknown}
use Rattle.flow_check.specs.internal.Links.{AreLinks, IsPlace}
use Rattle.flow_check.specs.internal.Nodes.{IsListNode, IsAt, left_before, left_here}
use Rattle.flow_check.specs.internal.Reader.{frame_at, here, above, Stands, IsBack, Opened, Closed}
use Rattle.flow_check.specs.declared.node.ListNode.{ListNode}
use Rattle.flow_shop.specs.declared.least_pairs.LeastPairs.{LeastPairs}
use Rattle.flow_check.specs.declared.reader.ListFrame.{ListFrame}
use Rattle.flow_check.specs.declared.reader.TreeReader.{TreeReader}
use Rattle.flow_check.proofs.Links.{next-some, links-out, links-back}

-- a frame that was read is the one at its place
pub frame-is : (frames : List ListFrame) (place : ℕ) (f : ListFrame) → place < length frames →
    f ≡ get_or frames place f → f ≡ frame_at frames place
frame-is frames place f within is = is ∙ get_or_default frames place f _ within

-- jobs left at a list or its child, before and after the child is taken
pub before-here : (child : Option ℕ) (child_left left : ℕ) → left_here child child_left ≡ suc left →
    left_before child (suc left) ≡ suc child_left
before-here None child_left left e = sym e
before-here (Some job) child_left left e = ap suc (sym e)

-- a list is reached by the same node, links and count
pub at-same : (shop : Shop) (list : List ℕ) (node other : ListNode) (links same : List ℕ) (left right : ℕ) →
    node ≡ other → links ≡ same → left ≡ right → IsAt shop list other same right → IsAt shop list node links left
at-same shop list node other links same left right e f g at =
    subst (λ n. IsAt shop list n links left) (sym e) (subst (λ l. IsAt shop list other l left) (sym f) (subst
    (IsAt shop list other same) (sym g) at))

-- what is no known pair is none
pub only-none : (P : Option LeastPairs → Type 0) → ((known : LeastPairs) → ¬ P (Some known)) →
    (lags : Option LeastPairs) → P lags → lags ≡ None
only-none P unknown None is = refl
only-none P unknown (Some known) is = absurd (unknown known is)

-- lags of which none is known
pub all-unknown : (count : ℕ) (kept : List (Option LeastPairs)) → kept ≡ replicate count None → AreUnknown kept
all-unknown count kept is place low =
    ap (λ ks. slice_index_or ks place None) is
    ∙ get_or-replicate count place None None (omega (arith, low, ap length is, length-replicate count none))
  where
    none : Option LeastPairs
    none = None

-- where no lags are known, those that are kept are any list's
pub none-kept : (shop : Shop) (list : List ℕ) (kept : List (Option LeastPairs)) → AreUnknown kept →
    AreKept shop list kept
none-kept shop list kept none machine from within =
    subst (λ (o : Option LeastPairs). IfSome o (λ two. AreTwoLeastLagsTo shop list machine two))
    (sym (none (machine - 1) (omega (arith, from, within)))) tt

-- the list's node may know more
pub learnt : (shop : Shop) (old new : TreeReader) (f : ListFrame) → new.child_left ≡ old.child_left →
    new.links.items ≡ old.links.items → new.frames.items ≡ set old.frames.items old.child_left f →
    old.child_left < length old.frames.items →
    ((list : List ℕ) → Stands shop list old → IsAt shop list f.node old.links.items (suc old.child_left)) →
    ((list : List ℕ) → Stands shop list old → AreKept shop list new.lags.items) → IsBack shop old new
learnt shop old new f child_left links frames within kept lags = record {
  child_left = child_left;
  links = links;
  size = ap length frames ∙ length-set old.frames.items old.child_left f;
  others = λ place over. let apart : place ≢ old.child_left = omega (arith, over) in ap (λ fs. frame_at fs place) frames
      ∙ get_or-set_other old.frames.items old.child_left place f _ apart;
  kept = λ list stands.
      let there : frame_at new.frames.items new.child_left ≡ f = ap (frame_at new.frames.items) child_left
      ∙ ap (λ fs. frame_at fs old.child_left) frames ∙ get_or-set_same old.frames.items old.child_left f _ within in
      record {
        at = at-same shop list (here new) f.node new.links.items old.links.items (suc new.child_left)
            (suc old.child_left) (ap
            (λ g. g.node) there) links (ap suc child_left) (kept list stands);
        room = ap length frames ∙ length-set old.frames.items old.child_left f ∙ stands.room;
        lags = lags list stands;
      };
}

-- frames that are written in two parts
pub parts-set : (lower upper : List ListFrame) (child_left place : ℕ) (f kid : ListFrame) → length lower ≡ child_left →
    place < child_left →
    set lower place kid ++ set upper 0 f ≡ set (set (lower ++ upper) child_left f) place kid
parts-set lower upper child_left place f kid parted under =
    let none : child_left - child_left ≡ 0 = omega arith in
    let room : place < length lower = omega (arith, parted, under) in
    sym (ap (λ fs. set fs place kid) (set-append_right lower upper child_left child_left f parted (omega arith))
    ∙ ap (λ i. set (lower ++ set upper i f) place kid) none
    ∙ set-append_left lower (set upper 0 f) place kid room)

-- a child is opened
pub opened : (shop : Shop) (last job value : ℕ) (old new : TreeReader) (f kid : ListFrame) → suc new.child_left
    ≡ old.child_left →
    new.links.items ≡ slice_set old.links.items last value → value ≡ slice_index old.links.items job →
    new.frames.items ≡ set (set old.frames.items old.child_left f) new.child_left kid →
    old.child_left < length old.frames.items →
    f ≡ record { node = here old; job = job; last = last } →
    ((list : List ℕ) → IsListNode shop list (here old) (suc old.child_left) → has list job ≡ false →
    IsListNode shop (list ++ job ∷ []) kid.node (suc new.child_left)) → AreUnknown new.lags.items →
    Opened shop last job old new
opened shop last job value old new f kid child_left links leads frames within is made none = record {
  lags = none;
  child_left = child_left;
  links = links ∙ ap (slice_set old.links.items last) leads;
  size = ap length frames ∙ length-set (set old.frames.items old.child_left f) new.child_left kid
      ∙ length-set old.frames.items old.child_left f;
  frame =
      let apart : old.child_left ≢ new.child_left = omega (arith, child_left) in
      ap (λ fs. frame_at fs old.child_left) frames
      ∙ get_or-set_other (set old.frames.items old.child_left f) new.child_left old.child_left kid _ apart
      ∙ get_or-set_same old.frames.items old.child_left f _ within ∙ is;
  others = λ place over.
      let apart : place ≢ new.child_left = omega (arith, over, child_left) in
      let other : place ≢ old.child_left = omega (arith, over) in
      ap (λ fs. frame_at fs place) frames
      ∙ get_or-set_other (set old.frames.items old.child_left f) new.child_left place kid _ apart
      ∙ get_or-set_other old.frames.items old.child_left place f _ other;
  child = λ list node fresh.
      let room : new.child_left < length (set old.frames.items old.child_left f) =
      omega (arith, length-set old.frames.items old.child_left f, within, child_left) in
      let there : here new ≡ kid.node = ap (λ fs. (frame_at fs new.child_left).node) frames
      ∙ ap (λ g. g.node) (get_or-set_same (set old.frames.items old.child_left f) new.child_left kid _ room) in
      subst (λ n. IsListNode shop (list ++ job ∷ []) n (suc new.child_left)) (sym there) (made list node fresh);
}

-- the frames above

pub same-above : (fs gs : List ListFrame) (place count : ℕ) → ((k : ℕ) → place < k → frame_at fs k ≡ frame_at gs k) →
    above fs place count ≡ above gs place count
same-above fs gs place zero same = refl
same-above fs gs place (suc count) same =
    ap (λ f. f ∷ above fs (place + 1) count) (same (place + 1) (omega arith))
    ∙ ap (λ r. frame_at gs (place + 1) ∷ r) (same-above fs gs (place
    + 1) count (λ k over. same k (omega (arith, over))))

-- one more, once a child is opened
pub above-opened : (shop : Shop) (last job base : ℕ) (old new : TreeReader) → Opened shop last job old new →
    old.child_left ≤ base →
    above new.frames.items new.child_left (base - new.child_left) ≡ record { node = here old; job = job; last = last }
    ∷ above old.frames.items old.child_left (base - old.child_left)
above-opened shop last job base old new is deep =
    let count : base - new.child_left ≡ suc (base - old.child_left) = omega (arith, is.child_left, deep) in
    let next : new.child_left + 1 ≡ old.child_left = omega (arith, is.child_left) in
    ap (above new.frames.items new.child_left) count
    ∙ ap (λ k. frame_at new.frames.items k ∷ above new.frames.items k (base - old.child_left)) next
    ∙ ap (λ f. f ∷ above new.frames.items old.child_left (base - old.child_left)) is.frame
    ∙ ap (λ r. record { node = here old; job = job; last = last }
    ∷ r) (same-above new.frames.items old.frames.items old.child_left (base - old.child_left) is.others)

pub above-more : (frames : List ListFrame) (place base : ℕ) → place < base →
    above frames place (base - place) ≡ frame_at frames (suc place) ∷ above frames (suc place) (base - suc place)
above-more frames place base deep =
    let count : base - place ≡ suc (base - suc place) = omega (arith, deep) in
    let next : place + 1 ≡ suc place = omega arith in
    ap (above frames place) count ∙ ap (λ k. frame_at frames k ∷ above frames k (base - suc place)) next

-- one less, once a child is closed
pub above-closed : (base : ℕ) (old new : TreeReader) → Closed (frame_at old.frames.items (suc old.child_left)) old new →
    old.child_left < base →
    above old.frames.items old.child_left (base - old.child_left) ≡ frame_at old.frames.items (suc old.child_left)
    ∷ above new.frames.items new.child_left (base - new.child_left)
above-closed base old new is deep =
    above-more old.frames.items old.child_left base deep
    ∙ ap (λ k. frame_at old.frames.items (suc old.child_left) ∷ above old.frames.items k (base - k)) (sym is.child_left)
    ∙ ap (λ fs. frame_at old.frames.items (suc old.child_left) ∷ above fs new.child_left (base - new.child_left))
    (sym is.frames)

-- a reader that did not move, and one that is back twice

pub back-none : (shop : Shop) (r : TreeReader) → IsBack shop r r
back-none shop r = record {
  child_left = refl;
  links = refl;
  size = refl;
  others = λ place over. refl;
  kept =
      λ list stands. stands;
}

pub back-twice : (shop : Shop) (a b c : TreeReader) → IsBack shop a b → IsBack shop b c → IsBack shop a c
back-twice shop a b c p q = record {
  child_left = q.child_left ∙ p.child_left;
  links = q.links ∙ p.links;
  size = q.size ∙ p.size;
  others = λ place over. q.others place (omega (arith, over, p.child_left)) ∙ p.others place over;
  kept = λ list stands. q.kept list (p.kept list stands);
}

-- a child is reached once it is opened
pub opened-stands : (shop : Shop) (list : List ℕ) (last : ℕ) (r o : TreeReader) → Stands shop list r →
    IsPlace shop.jobs list last → slice_index r.links.items last ≢ 0 →
    Opened shop last (slice_index r.links.items last) r o →
    Stands shop (list ++ slice_index r.links.items last ∷ []) o
opened-stands shop list last r o stands place some is =
    let links : List ℕ = r.links.items in
    let job : ℕ = slice_index links last in
    let next = next-some shop.jobs list last job (stands.at.are_links.each last place) some in
    record {
      at = record {
        is_node = is.child list stands.at.is_node next.3;
        are_links = subst (AreLinks shop.jobs (list ++ job
            ∷ [])) (sym is.links) (links-out shop.jobs list links last job
            (slice_index links job) stands.at.are_links place refl some refl);
      };
      room = is.size ∙ stands.room;
      lags = none-kept shop (list ++ job ∷ []) o.lags.items is.lags;
    }

-- the frame of the list above stays while a child is read
pub frame-kept : (shop : Shop) (last job : ℕ) (r o b : TreeReader) → Opened shop last job r o → IsBack shop o b →
    frame_at b.frames.items (suc b.child_left) ≡ record { node = here r; job = job; last = last }
frame-kept shop last job r o b is back =
    ap (λ k. frame_at b.frames.items (suc k)) back.child_left ∙ back.others (suc o.child_left) (omega arith)
    ∙ ap (frame_at o.frames.items) is.child_left ∙ is.frame

-- a child was opened, read and closed
pub closed-back : (shop : Shop) (last : ℕ) (r o b c : TreeReader) →
    Opened shop last (slice_index r.links.items last) r o → IsBack shop o b →
    Closed (frame_at b.frames.items (suc b.child_left)) b c → IsBack shop r c
closed-back shop last r o b c is back closed =
    let job : ℕ = slice_index r.links.items last in
    let frame = frame-kept shop last job r o b is back in
    let child_left : c.child_left ≡ r.child_left = closed.child_left ∙ ap suc back.child_left ∙ is.child_left in
    let links : c.links.items ≡ r.links.items =
    closed.links ∙ ap (λ f. slice_set b.links.items f.last f.job) frame
    ∙ ap (λ l. slice_set l last job) (back.links ∙ is.links)
    ∙ links-back r.links.items last job (slice_index r.links.items job) refl in
    let node : here c ≡ here r =
    ap (λ k. (frame_at c.frames.items k).node) closed.child_left ∙ ap (λ fs. (frame_at fs
    (suc b.child_left)).node) closed.frames
    ∙ ap (λ f. f.node) frame in
    let size : length c.frames.items ≡ length r.frames.items = ap length closed.frames ∙ back.size ∙ is.size in
    record {
      child_left = child_left;
      links = links;
      size = size;
      others = λ place over. ap (λ fs. frame_at fs place) closed.frames
          ∙ back.others place (omega (arith, over, is.child_left)) ∙ is.others place over;
      kept = λ list stands. record {
        at = at-same shop list (here c) (here r) c.links.items r.links.items (suc c.child_left)
            (suc r.child_left) node links
            (ap suc child_left) stands.at;
        room = size ∙ stands.room;
        lags = none-kept shop list c.lags.items closed.lags;
      };
    }
