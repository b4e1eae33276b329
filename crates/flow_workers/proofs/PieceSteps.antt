-- What pieces stand for, where they are joined, and where a search made them.
use Rattle.std.proofs.Common.{◌≡◌, ℕ, suc, ◌<◌, List, [], ◌∷◌, ◌++◌, length, slice_index_or, Option, Some, None}
use Rattle.std.proofs.Common.{refl, ap, sym, ◌∙◌, map, arith}
use Rattle.std.proofs.lemmas.List.{map-append}
use Rattle.flow_directions.specs.Search.{Visit, signs, first_reached, visits, part_visits, parts_visits}
use Rattle.flow_directions.specs.Search.{Continues, child_visits}
use Rattle.flow_directions.specs.declared.found.Part.TheVariants.{Node, Children}
use Rattle.flow_shop.specs.declared.end.End.{End}
use Rattle.flow_shop.specs.Directions.{first_with, last_with}
use Rattle.std.specs.Global.{Vec}
use Rattle.std.specs.List.{flat_map, remove}
use Rattle.flow_workers.specs.internal.Taken.{IsNodeOf}
use Rattle.flow_directions.specs.declared.found.Part.{Part}
use Rattle.flow_parts.specs.Meanings.{Met, met, joined, behind}
use Rattle.flow_parts.proofs.Behind.{pair, behind-nil, behind-assoc, met-append}
use Rattle.flow_workers.specs.internal.Pieces.{Reading, marked, kept_met, piece_met, pieces_met, dealt_met, all_met}
use Rattle.flow_workers.specs.declared.piece.Piece.{Piece}
use Rattle.flow_workers.specs.declared.piece.Piece.TheVariants.{Done, Left, Reached}
use Rattle.flow_workers.specs.declared.piece.Dealt.{Dealt}

-- what is kept of what is met, one after the other
joined-marked : (mark : ℕ → ℕ) (text : List ℕ) (reached : Option (List ℕ)) (more : Met) →
    marked mark (joined text reached more) ≡ joined (map mark text) reached (marked mark more)
joined-marked mark text None more = ap (λ t. (t, more.1)) (map-append mark text more.0)
joined-marked mark text (Some jobs) more = refl

-- what two lists of visits meet
kept-append : (mark : ℕ → ℕ) (xs ys : List Visit) →
    kept_met mark (xs ++ ys) ≡ behind (kept_met mark xs) (kept_met mark ys)
kept-append mark xs ys =
    ap (marked mark) (met-append xs ys) ∙ joined-marked mark (signs xs) (first_reached xs) (met ys)

-- the first of some jobs, and the others
pub first-and-others : (jobs others : List ℕ) (job : ℕ) → 0 < length jobs → job ≡ slice_index_or jobs 0 job →
    others ≡ remove jobs 0 → jobs ≡ job ∷ others
first-and-others [] others job some is left = absurd (omega (arith, some))
first-and-others (x ∷ jobs) others job some is left =
    ap (λ j. j ∷ jobs) (sym is) ∙ ap (λ rest. job ∷ rest) (sym left)

module _ {K : Type 0} (reading : Reading K) where
  -- pieces that are joined
  pub pieces-append : (xs ys : List (Piece K)) →
      pieces_met reading (xs ++ ys) ≡ behind (pieces_met reading xs) (pieces_met reading ys)
  pieces-append [] ys = refl
  pieces-append (x ∷ xs) ys =
      ap (behind (piece_met reading x)) (pieces-append xs ys)
      ∙ sym (behind-assoc (piece_met reading x) (pieces_met reading xs) (pieces_met reading ys))

  -- one more piece
  pub pieces-more : (xs : List (Piece K)) (x : Piece K) →
      pieces_met reading (xs ++ x ∷ []) ≡ behind (pieces_met reading xs) (piece_met reading x)
  pieces-more xs x =
      pieces-append xs (x ∷ []) ∙ ap (behind (pieces_met reading xs)) (behind-nil (piece_met reading x))

  -- one more piece that was dealt
  pub all-more : (xs : List (Dealt K)) (x : Dealt K) →
      all_met reading (xs ++ x ∷ []) ≡ behind (all_met reading xs) (dealt_met reading x)
  all-more [] x = behind-nil (dealt_met reading x)
  all-more (y ∷ xs) x =
      ap (behind (dealt_met reading y)) (all-more xs x)
      ∙ sym (behind-assoc (dealt_met reading y) (all_met reading xs) (dealt_met reading x))

  -- what was dealt last is put before the pieces
  pub put-more : (xs : List (Dealt K)) (x : Dealt K) (one : Met) (pieces put : List (Piece K))
      (dealt : List (Dealt K)) → dealt ≡ xs ++ x ∷ [] → dealt_met reading x ≡ one →
      pieces_met reading put ≡ behind one (pieces_met reading pieces) →
      behind (all_met reading xs) (pieces_met reading put)
      ≡ behind (all_met reading dealt) (pieces_met reading pieces)
  put-more xs x one pieces put dealt are is puts =
      ap (behind (all_met reading xs)) puts
      ∙ sym (behind-assoc (all_met reading xs) one (pieces_met reading pieces))
      ∙ ap (λ m. behind m (pieces_met reading pieces))
      (ap (behind (all_met reading xs)) (sym is) ∙ sym (all-more xs x) ∙ sym (ap (all_met reading) are))

  -- pieces that stand for the same, one by one
  pub all-same : (xs ys : List (Dealt K)) → length ys ≡ length xs →
      ((k : ℕ) (d : Dealt K) → k < length xs → dealt_met reading (slice_index_or ys k d)
      ≡ dealt_met reading (slice_index_or xs k d)) →
      all_met reading ys ≡ all_met reading xs
  all-same [] [] same each = refl
  all-same [] (y ∷ ys) same each = absurd (omega (arith, same))
  all-same (x ∷ xs) [] same each = absurd (omega (arith, same))
  all-same (x ∷ xs) (y ∷ ys) same each =
      ap (λ m. behind m (all_met reading ys)) (each 0 x (omega arith))
      ∙ ap (behind (dealt_met reading x))
      (all-same xs ys (omega (arith, same)) (λ k d within. each (suc k) d (omega (arith, within))))

  -- parts that are left
  pub parts-met : (parts : List Part) →
      pieces_met reading (map Left parts) ≡ kept_met reading.mark (parts_visits reading.shop reading.threshold parts)
  parts-met [] = refl
  parts-met (part ∷ parts) =
      ap (behind (kept_met reading.mark (part_visits reading.shop reading.threshold part))) (parts-met parts)
      ∙ sym (kept-append reading.mark (part_visits reading.shop reading.threshold part)
      (parts_visits reading.shop reading.threshold parts))

  -- where a search goes on with parts
  pub rest-met : (first last text : List ℕ) (directions : K) (parts : List Part) →
      reading.text directions ≡ map reading.mark text →
      Continues (visits reading.shop reading.threshold first last) text
      (parts_visits reading.shop reading.threshold parts) →
      pieces_met reading (Done directions ∷ map Left parts)
      ≡ kept_met reading.mark (visits reading.shop reading.threshold first last)
  rest-met first last text directions parts are goes =
      let at : List Visit = visits reading.shop reading.threshold first last in
      let then : List Visit = parts_visits reading.shop reading.threshold parts in
      ap (behind (reading.text directions, None)) (parts-met parts)
      ∙ pair (reading.text directions ++ map reading.mark (signs then)) (map reading.mark (signs at))
      (first_reached then) (first_reached at)
      (ap (λ xs. xs ++ map reading.mark (signs then)) are ∙ sym (map-append reading.mark text (signs then))
      ∙ sym (ap (map reading.mark) goes.0))
      (sym goes.1)

  -- where a search reached a sequence
  pub reached-met : (first last jobs : List ℕ) (directions : K) (parts : List Part) →
      reading.text directions ≡ map reading.mark (signs (visits reading.shop reading.threshold first last)) →
      first_reached (visits reading.shop reading.threshold first last) ≡ Some jobs →
      pieces_met reading (Reached jobs directions ∷ map Left parts)
      ≡ kept_met reading.mark (visits reading.shop reading.threshold first last)
  reached-met first last jobs directions parts are is =
      let at : List Visit = visits reading.shop reading.threshold first last in
      pair (reading.text directions) (map reading.mark (signs at)) (Some jobs) (first_reached at) are (sym is)

  -- a part that is the node of some lists
  node-visits : (first last : List ℕ) (part : Part) → IsNodeOf first last part →
      part_visits reading.shop reading.threshold part ≡ visits reading.shop reading.threshold first last
  node-visits first last (Node begin end) is =
      ap (λ xs. visits reading.shop reading.threshold xs end.items) is.0
      ∙ ap (λ xs. visits reading.shop reading.threshold first xs) is.1
  node-visits first last (Children begin end side jobs) is = absurd is

  -- the first child of a part, and then the others
  pub children-met : (end : End) (begin behind_list named others : Vec ℕ) (job : ℕ) (child : Part)
      (rest : List (Piece K)) →
      IsNodeOf (first_with end begin.items job) (last_with end behind_list.items job) child →
      named.items ≡ job ∷ others.items →
      behind (kept_met reading.mark (part_visits reading.shop reading.threshold child))
      (pieces_met reading (Left (Children begin behind_list end others) ∷ rest))
      ≡ pieces_met reading (Left (Children begin behind_list end named) ∷ rest)
  children-met end begin behind_list named others job child rest is named_is =
      let f : ℕ → List Visit = child_visits reading.shop reading.threshold end begin.items behind_list.items in
      let kept : List Visit → Met = kept_met reading.mark in
      ap (λ v. behind (kept v) (behind (kept (flat_map f others.items)) (pieces_met reading rest)))
      (node-visits (first_with end begin.items job) (last_with end behind_list.items job) child is)
      ∙ sym (behind-assoc (kept (f job)) (kept (flat_map f others.items)) (pieces_met reading rest))
      ∙ ap (λ m. behind m (pieces_met reading rest))
      (sym (kept-append reading.mark (f job) (flat_map f others.items)))
      ∙ sym (ap (λ xs. behind (kept (flat_map f xs)) (pieces_met reading rest)) named_is)
