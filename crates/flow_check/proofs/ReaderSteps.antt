-- The steps of a reader that reads the children of a list.
use Rattle.std.proofs.Common.{◌≡◌, ◌≢◌, ℕ, suc, ◌+◌, ◌-◌, ◌<◌, ◌≤◌, List, [], ◌∷◌, ◌++◌, drop, slice_index}
use Rattle.std.proofs.Common.{slice_set, Result, refl, ap, sym, subst, ◌∙◌, arith}
use Rattle.flow_shop.specs.Shop.{Shop}
use Rattle.flow_check.specs.internal.Nodes.{IsListNode, IsAt}
use Rattle.flow_check.specs.internal.Reader.{frame_at, here, above, Stands, IsBack, Opened, Closed}
use Rattle.flow_check.proofs.Stacks.{path, put_back}
use Rattle.flow_check.specs.internal.Reader.{children_read}
use Rattle.flow_check.proofs.Stacks.{IsReading}
use Rattle.flow_check.specs.declared.fault.CheckFault.{CheckFault}
use Rattle.flow_check.specs.declared.reader.ListFrame.{ListFrame}
use Rattle.flow_check.specs.declared.reader.TreeReader.{TreeReader}
use Rattle.flow_check.proofs.Links.{links-back}
use Rattle.flow_check.proofs.Readers.{at-same, same-above, above-opened, above-closed}
use Rattle.flow_check.proofs.TreeReading.{reading-start, reading-child, reading-dive, reading-up}

-- a reader reads the children of a list, at whose children so many jobs are left
abbrev pub Reads : Shop → ℕ → ℕ → ℕ → List ℕ → Result (List ℕ) CheckFault → ℕ → TreeReader → ℕ → ℕ → List ℕ → Type 0
Reads shop version value line root whole base r last at bytes =
    IsReading shop version value line root whole (here r) r.links.items r.child_left last at bytes
    (above r.frames.items r.child_left
    (base - r.child_left))

-- the list that it reached
abbrev pub reached : List ℕ → ℕ → TreeReader → List ℕ
reached root base r = path root (above r.frames.items r.child_left (base - r.child_left))

pub none-above : (frames : List ListFrame) (place count : ℕ) → count ≡ 0 → above frames place count ≡ []
none-above frames place count e = ap (above frames place) e

pub reads-start : (shop : Shop) (version value line : ℕ) (root : List ℕ) (r : TreeReader) (at : ℕ) (bytes : List ℕ) →
    Stands shop root r →
    Reads shop version value line root (children_read shop version value line r.child_left root
    (drop at bytes)) r.child_left r 0
    at bytes
reads-start shop version value line root r at bytes stands =
    let none : r.child_left - r.child_left ≡ 0 = omega arith in
    subst (IsReading shop version value line root (children_read shop version value line r.child_left root
    (drop at bytes))
    (here r) r.links.items r.child_left 0 at bytes) (sym (none-above r.frames.items r.child_left
    (r.child_left - r.child_left) none))
    (reading-start shop version value line root (here r) r.links.items r.child_left at bytes stands.at)

-- the list's node knows more
back-above : (shop : Shop) (base : ℕ) (r s : TreeReader) → IsBack shop r s →
    above s.frames.items s.child_left (base - s.child_left) ≡ above r.frames.items r.child_left (base - r.child_left)
back-above shop base r s back =
    ap (λ b. above s.frames.items b (base - b)) back.child_left
    ∙ same-above s.frames.items r.frames.items r.child_left (base - r.child_left) back.others

-- the list that it reached is the same
pub reached-back : (shop : Shop) (root : List ℕ) (base : ℕ) (r s : TreeReader) → IsBack shop r s →
    reached root base s ≡ reached root base r
reached-back shop root base r s back = ap (path root) (back-above shop base r s back)

pub reads-back : (shop : Shop) (version value line : ℕ) (root : List ℕ) (whole : Result (List ℕ) CheckFault) (base : ℕ)
    (r s : TreeReader) (last at : ℕ) (bytes : List ℕ) → Reads shop version value line root whole base r last at bytes →
    Stands shop (reached root base r) r → IsBack shop r s →
    Reads shop version value line root whole base s last at bytes
reads-back shop version value line root whole base r s last at bytes i was_there back =
    let same = back-above shop base r s back in
    let stands : Stands shop (reached root base r) s =
    back.kept (reached root base r) was_there in
    let here_again : IsAt shop (reached root base r) (here s) r.links.items (suc r.child_left) = at-same shop
    (reached root base r) (here s) (here s) r.links.items s.links.items (suc r.child_left) (suc s.child_left) refl
    (sym back.links) (ap suc (sym back.child_left)) stands.at in
    let was : IsReading shop version value line root whole (here s) r.links.items r.child_left last at bytes
    (above r.frames.items r.child_left (base - r.child_left)) =
    record { here = here_again; after_last = i.after_last; stack = i.stack; answer = i.answer } in
    subst (IsReading shop version value line root whole (here s) s.links.items s.child_left last at bytes) (sym same)
    (subst (λ b. IsReading shop version value line root whole (here s) s.links.items b last at bytes
    (above r.frames.items r.child_left (base - r.child_left))) (sym back.child_left)
    (subst (λ l. IsReading shop version value line root whole (here s) l r.child_left last at bytes
    (above r.frames.items r.child_left
    (base - r.child_left))) (sym back.links) was))

-- a child is opened
pub reads-open : (shop : Shop) (version value line : ℕ) (root : List ℕ) (whole : Result (List ℕ) CheckFault) (base : ℕ)
    (r s : TreeReader) (last at : ℕ) (bytes : List ℕ) → Reads shop version value line root whole base r last at bytes →
    slice_index r.links.items last ≢ 0 →
    drop at bytes ≡ 43 ∷ drop (at + 1) bytes → r.child_left ≤ base → Opened shop last
    (slice_index r.links.items last) r s →
    Reads shop version value line root whole base s 0 (at + 1) bytes
reads-open shop version value line root whole base r s last at bytes i some plus deep is =
    let next = reading-child i some in
    let kid : IsListNode shop (reached root base r ++ slice_index r.links.items last ∷ []) (here s) r.child_left =
    subst (IsListNode shop (reached root base r ++ slice_index r.links.items last
    ∷ []) (here s)) is.child_left (is.child (reached root base r) i.here.is_node next.3) in
    reading-dive (here s) s.links.items s.child_left 43 (above s.frames.items s.child_left
    (base - s.child_left)) i some plus kid is.links (sym is.child_left) refl
    (above-opened shop last (slice_index r.links.items last) base r s is deep)

-- a child is closed
pub reads-close : (shop : Shop) (version value line : ℕ) (root : List ℕ) (whole : Result (List ℕ) CheckFault) (base : ℕ)
    (r s : TreeReader) (last at : ℕ) (bytes : List ℕ) → Reads shop version value line root whole base r last at bytes →
    slice_index r.links.items last ≡ 0 →
    r.child_left < base → Closed (frame_at r.frames.items (suc r.child_left)) r s →
    Reads shop version value line root whole base s (frame_at r.frames.items (suc r.child_left)).job at bytes
reads-close shop version value line root whole base r s last at bytes i none deep is =
    let f : ListFrame = frame_at r.frames.items (suc r.child_left) in
    let up = reading-up s.links.items f (above s.frames.items s.child_left (base - s.child_left)) i none
    (above-closed base r s is deep) is.links in
    let node : f.node ≡ here s = ap (λ fs. (frame_at fs (suc r.child_left)).node) (sym is.frames)
    ∙ ap (λ b. (frame_at s.frames.items b).node) (sym is.child_left) in
    let count : r.child_left + 1 ≡ s.child_left = omega (arith, is.child_left) in
    subst (λ b. IsReading shop version value line root whole (here s) s.links.items b f.job at bytes
    (above s.frames.items s.child_left (base - s.child_left))) count
    (subst (λ n. IsReading shop version value line root whole n s.links.items (r.child_left
    + 1) f.job at bytes (above s.frames.items s.child_left (base - s.child_left))) node up)

-- the links that are put back when a child is closed, were taken out when it was opened
pub back-open : (shop : Shop) (base : ℕ) (r s : TreeReader) (last : ℕ) → r.child_left ≤ base →
    Opened shop last (slice_index r.links.items last) r s →
    put_back s.links.items (above s.frames.items s.child_left (base - s.child_left))
    ≡ put_back r.links.items (above r.frames.items r.child_left (base - r.child_left))
back-open shop base r s last deep is =
    let job : ℕ = slice_index r.links.items last in
    ap (put_back s.links.items) (above-opened shop last job base r s is deep)
    ∙ ap (λ l. put_back l (above r.frames.items r.child_left (base - r.child_left))) (ap
    (λ l. slice_set l last job) is.links
    ∙ links-back r.links.items last job (slice_index r.links.items job) refl)

pub back-close : (base : ℕ) (r s : TreeReader) → r.child_left < base → Closed (frame_at r.frames.items
    (suc r.child_left)) r s →
    put_back s.links.items (above s.frames.items s.child_left (base - s.child_left))
    ≡ put_back r.links.items (above r.frames.items r.child_left (base - r.child_left))
back-close base r s deep is =
    ap (λ l. put_back l (above s.frames.items s.child_left (base - s.child_left))) is.links
    ∙ ap (put_back r.links.items) (sym (above-closed base r s is deep))

pub back-same : (shop : Shop) (base : ℕ) (r s : TreeReader) → IsBack shop r s →
    put_back s.links.items (above s.frames.items s.child_left (base - s.child_left))
    ≡ put_back r.links.items (above r.frames.items r.child_left (base - r.child_left))
back-same shop base r s back =
    ap (λ b. put_back s.links.items (above s.frames.items b (base - b))) back.child_left
    ∙ ap (λ l. put_back l (above s.frames.items r.child_left (base - r.child_left))) back.links
    ∙ ap (put_back r.links.items) (same-above s.frames.items r.frames.items r.child_left
    (base - r.child_left) back.others)
