-- What the names at marked places are once marks are taken away, and word by word.
use Rattle.std.proofs.Common.{ℕ, suc, ◌≡◌, ◌+◌, ◌*◌, ◌/◌, ◌%◌, ◌<◌, ◌≤◌, ◌↔◌, Bool, true}
use Rattle.std.proofs.Common.{cond, nat_eq, filter}
use Rattle.std.proofs.Common.{List, [], ◌∷◌, ◌++◌, length, slice_index, take, drop, refl, sym, ap, ◌∙◌, arith}
use Rattle.std.specs.Int.{bit_at}
use Rattle.std.proofs.lemmas.List.{take-append-drop, length-take, length-drop, drop-drop, drop_more}
use Rattle.std.proofs.lemmas.Nat.Bits.{bit_at-zero}
use Rattle.flow_nodes.specs.Marks.{mark, picked, chosen}
use Rattle.flow_nodes.proofs.MarkedNames.{kept, kept-same, kept-filter, kept-none, kept-append, kept-short}

-- the names that a word has picked from a lane on, by its bits
pub picked-kept : (word lane : ℕ) (names : List ℕ) → picked word lane names ≡ kept (λ i. bit_at word (lane + i)) names
unfolding picked
picked-kept word lane [] = refl
picked-kept word lane (name ∷ names) =
    let rest = picked-kept word (suc lane) names
    ∙ kept-same (λ i. bit_at word (suc lane + i)) (λ i. bit_at word (lane + suc i)) names
    (λ i low. let e : suc lane + i ≡ lane + suc i = omega arith in ap (bit_at word) e) in
    let here : lane ≡ lane + 0 = omega arith in
    let head : bit_at word lane ≡ bit_at word (lane + 0) = ap (bit_at word) here in
    ap (λ m. cond (nat_eq m 1) (name ∷ picked word (suc lane) names) (picked word (suc lane) names)) head
    ∙ ap (λ l. cond (nat_eq (bit_at word (lane + 0)) 1) (name ∷ l) l) rest

-- the names that a word has picked, by its bits
pub picked-bits : (word : ℕ) (names : List ℕ) → picked word 0 names ≡ kept (bit_at word) names
picked-bits word names =
    picked-kept word 0 names
    ∙ kept-same (λ i. bit_at word (0 + i)) (bit_at word) names
    (λ i low. let e : 0 + i ≡ i = omega arith in ap (bit_at word) e)

-- the mark of a place of the first word, and of a place behind it
module _ (word : ℕ) (words : List ℕ) (place : ℕ) where
  mark-low : place < 16 → mark (word ∷ words) place ≡ bit_at word place
  mark-low low =
      let first : place / 16 ≡ 0 = omega arith in
      let lane : place % 16 ≡ place = omega arith in
      ap (λ w. bit_at (slice_index (word ∷ words) w) (place % 16)) first ∙ ap (bit_at word) lane

  mark-high : (size : ℕ) → size ≡ 16 → mark (word ∷ words) (size + place) ≡ mark words place
  mark-high size is =
      let next : (size + place) / 16 ≡ suc (place / 16) = omega arith in
      let lane : (size + place) % 16 ≡ place % 16 = omega arith in
      ap (λ w. bit_at (slice_index (word ∷ words) w) ((size + place) % 16)) next
      ∙ ap (bit_at (slice_index words (place / 16))) lane

-- the chosen names, by the marks of their places
pub chosen-kept : (words names : List ℕ) → chosen words names ≡ kept (mark words) names
unfolding chosen
chosen-kept [] names =
    sym (kept-none (mark []) names (λ i low one. omega (arith, one, bit_at-zero (i % 16))))
chosen-kept (word ∷ words) names =
    let size = length-take 16 names in
    let first : picked word 0 (take 16 names) ≡ kept (mark (word ∷ words)) (take 16 names) =
    picked-bits word (take 16 names)
    ∙ kept-same (bit_at word) (mark (word ∷ words)) (take 16 names)
    (λ i low. sym (mark-low word words i (omega (arith, size, low)))) in
    let rest : chosen words (drop 16 names)
    ≡ kept (λ i. mark (word ∷ words) (length (take 16 names) + i)) (drop 16 names) =
    chosen-kept words (drop 16 names)
    ∙ kept-same (mark words) (λ i. mark (word ∷ words) (length (take 16 names) + i)) (drop 16 names)
    (λ i low. sym (mark-high word words i (length (take 16 names)) (omega (arith, size, low, length-drop 16 names)))) in
    ap (λ l. l ++ chosen words (drop 16 names)) first
    ∙ ap (λ l. kept (mark (word ∷ words)) (take 16 names) ++ l) rest
    ∙ sym (kept-append (mark (word ∷ words)) (take 16 names) (drop 16 names))
    ∙ ap (kept (mark (word ∷ words))) (take-append-drop 16 names)

-- where just those places stay marked whose name passes a test, the chosen names are those that pass it
pub chosen-filter : (p : ℕ → Bool) (old new names : List ℕ) →
    ((place : ℕ) → place < length names →
    (mark new place ≡ 1) ↔ ((mark old place ≡ 1) × (p (slice_index names place) ≡ true))) →
    chosen new names ≡ filter p (chosen old names)
chosen-filter p old new names exact =
    chosen-kept new names
    ∙ kept-filter p (mark old) (mark new) names exact
    ∙ ap (filter p) (sym (chosen-kept old names))

-- the chosen names from a word on are those of the word, and then those from the next word on
pub chosen-group : (words names : List ℕ) (g : ℕ) → g < length words →
    chosen (drop g words) (drop (g * 16) names)
    ≡ picked (slice_index words g) 0 (take 16 (drop (g * 16) names))
    ++ chosen (drop (suc g) words) (drop (suc g * 16) names)
unfolding chosen
chosen-group words names g low =
    let next : g + 1 ≡ suc g = omega arith in
    let behind : g * 16 + 16 ≡ suc g * 16 = omega arith in
    let here : List ℕ = picked (slice_index words g) 0 (take 16 (drop (g * 16) names)) in
    ap (λ l. chosen l (drop (g * 16) names)) (drop_more words g 0 low)
    ∙ ap (λ l. here ++ chosen (drop (g + 1) words) l)
    (drop-drop 16 (g * 16) names ∙ ap (λ n. drop n names) behind)
    ∙ ap (λ n. here ++ chosen (drop n words) (drop (suc g * 16) names)) next

-- of no names none is chosen
pub chosen-nothing : (words : List ℕ) → chosen words [] ≡ []
chosen-nothing words = chosen-kept words []

-- no more names are chosen than there are
pub chosen-short : (words names : List ℕ) → length (chosen words names) ≤ length names
chosen-short words names = omega (arith, ap length (chosen-kept words names), kept-short (mark words) names)
