-- What is done to marks of places, and how the next marked place is found.
use Rattle.std.proofs.Common.{◌≡◌, ◌≢◌, ℕ, suc, ◌+◌, ◌-◌, ◌*◌, ◌/◌, ◌%◌, ◌^◌, ◌<◌, ◌≤◌, List, [], ◌∷◌, ◌++◌}
use Rattle.std.proofs.Common.{length, slice_index, take, drop, set, replicate, refl, ap, sym, subst, ◌∙◌, inl, inr}
use Rattle.std.proofs.Common.{pow-suc, arith}
use Rattle.std.specs.Prelude.{IsBitSet, bit_and, bit_or, count_ones}
use Rattle.std.specs.Int.{bit_at, trailing_zeros, w16}
use Rattle.std.specs.Int.Count.{ones_step}
use Rattle.std.proofs.lemmas.Bool.{cases_eq, cases_lt}
use Rattle.std.proofs.lemmas.Bool.Decides.{eqb_tells}
use Rattle.std.proofs.lemmas.List.{get_or-set_same, get_or-set_other, length-take, length-drop, length-append}
use Rattle.std.proofs.lemmas.Nat.{bit_set_by_shift, ones_le_self, shr-shr, shr_le}
use Rattle.std.proofs.lemmas.Nat.Bits.{bit_at-zero, bit_at-suc, bit_at_lowest, bit_at-trailing_zeros, bit_at_above}
use Rattle.std.proofs.lemmas.Nat.Bits.{bit_at_set_same, bit_at_set_other, bit_at_clear_same, bit_at_clear_other}
use Rattle.std.proofs.lemmas.Nat.Bits.{shr_and_one}
use Rattle.flow_shop.proofs.Fronts.{zeros}
use Rattle.flow_nodes.specs.Marks.{mark, picked, chosen}
use Rattle.flow_nodes.proofs.MarkedNames.{kept, kept-yes, kept-no, kept-same, kept-none, kept-parted, kept-first}
use Rattle.flow_nodes.proofs.ChosenNames.{chosen-kept, chosen-group, picked-bits}

-- a bit is set just where it is 1
pub bit-set : (n k : ℕ) → IsBitSet n k → bit_at n k ≡ 1
bit-set n k is = sym (shr_and_one n k) ∙ (bit_set_by_shift n k).1 is

pub set-bit : (n k : ℕ) → bit_at n k ≡ 1 → IsBitSet n k
set-bit n k is = (bit_set_by_shift n k).0 (shr_and_one n k ∙ is)

-- no place is marked where all words are 0
pub mark-none : (n place : ℕ) → mark (replicate n 0) place ≡ 0
mark-none n place = ap (λ w. bit_at w (place % 16)) (zeros n (place / 16)) ∙ bit_at-zero (place % 16)

-- a word is written
module _ (words : List ℕ) (word value place : ℕ) where
  -- a place of another word keeps its mark
  pub mark-elsewhere : place / 16 ≢ word → mark (set words word value) place ≡ mark words place
  mark-elsewhere apart = ap (λ w. bit_at w (place % 16)) (get_or-set_other words word (place / 16) value 0 apart)

  -- a place of the word has the mark that is written
  pub mark-there : word < length words → place / 16 ≡ word →
      mark (set words word value) place ≡ bit_at value (place % 16)
  mark-there within same =
      ap (λ w. bit_at (slice_index (set words word value) w) (place % 16)) same
      ∙ ap (λ w. bit_at w (place % 16)) (get_or-set_same words word value 0 within)

-- the mark of a place is set or cleared
module _ (words : List ℕ) (place : ℕ) (within : place / 16 < length words) where
  abbrev pub words_set : List ℕ
  words_set = set words (place / 16) (bit_or (slice_index words (place / 16)) (1 * 2 ^ (place % 16) % 65536))

  abbrev pub words_cleared : List ℕ
  words_cleared =
      set words (place / 16) (bit_and (slice_index words (place / 16)) (65535 - 1 * 2 ^ (place % 16) % 65536))

  pub set-same : mark words_set place ≡ 1
  set-same =
      mark-there words (place / 16) _ place within refl
      ∙ bit_at_set_same w16 (slice_index words (place / 16)) (place % 16) (omega arith)

  pub cleared-same : mark words_cleared place ≡ 0
  cleared-same =
      mark-there words (place / 16) _ place within refl
      ∙ bit_at_clear_same w16 (slice_index words (place / 16)) (place % 16) (omega arith)

  module _ (other : ℕ) (apart : other ≢ place) where
    lanes : other / 16 ≡ place / 16 → other % 16 ≢ place % 16
    lanes near = omega (arith, near, apart)

    pub set-others : mark words_set other ≡ mark words other
    set-others = elim (eqb_tells (other / 16) (place / 16)) [
      | inl near ↦
          mark-there words (place / 16) _ other within near.1
          ∙ bit_at_set_other w16 (slice_index words (place / 16)) (place % 16) (omega arith) (other % 16)
          (lanes near.1)
          ∙ ap (λ w. bit_at (slice_index words w) (other % 16)) (sym near.1)
      | inr far ↦ mark-elsewhere words (place / 16) _ other far.1
    ]

    pub cleared-others : mark words_cleared other ≡ mark words other
    cleared-others = elim (eqb_tells (other / 16) (place / 16)) [
      | inl near ↦
          mark-there words (place / 16) _ other within near.1
          ∙ bit_at_clear_other w16 (slice_index words (place / 16)) (place % 16) (omega arith) (other % 16)
          (omega arith) (lanes near.1)
          ∙ ap (λ w. bit_at (slice_index words w) (other % 16)) (sym near.1)
      | inr far ↦ mark-elsewhere words (place / 16) _ other far.1
    ]

-- of marks the one of a place is taken away
module _ (old new : List ℕ) (place : ℕ) (was : mark old place ≡ 1) (is : mark new place ≡ 0)
    (others : (other : ℕ) → other ≢ place → mark new other ≡ mark old other) where
  unmarked : mark new place ≢ 1
  unmarked one = omega (arith, one, is)

  -- no other place is marked then that was not marked before
  pub cleared-fewer : (i : ℕ) → mark new i ≡ 1 → mark old i ≡ 1
  cleared-fewer i one = elim (cases_eq i place) [
    | inl same ↦ ap (mark old) same ∙ was
    | inr apart ↦ sym (others i apart) ∙ one
  ]

  module _ (names : List ℕ) (inside : place < length names) where
    -- its name goes from the chosen ones
    pub chosen-parted : (before : List ℕ) × (behind : List ℕ)
        × (chosen old names ≡ before ++ slice_index names place ∷ behind) × (chosen new names ≡ before ++ behind)
    chosen-parted =
        let parts = kept-parted (mark old) (mark new) names place inside was unmarked
        (λ i below apart. others i apart) in
        (parts.0, parts.1, chosen-kept old names ∙ parts.2, chosen-kept new names ∙ parts.3)

    -- and where no place before it is marked, it was the first of them
    pub chosen-first : ((i : ℕ) → i < place → mark old i ≡ 0) →
        chosen old names ≡ slice_index names place ∷ chosen new names
    chosen-first none =
        chosen-kept old names
        ∙ kept-first (mark old) (mark new) names place inside was (λ i low one. omega (arith, one, none i low)) unmarked
        (λ i below apart. others i apart)
        ∙ ap (λ l. slice_index names place ∷ l) (sym (chosen-kept new names))

-- where the place of no name is marked, none is chosen
pub none-chosen : (words names : List ℕ) → ((i : ℕ) → i < length names → mark words i ≡ 0) → chosen words names ≡ []
none-chosen words names none =
    chosen-kept words names ∙ kept-none (mark words) names (λ i low one. omega (arith, one, none i low))

-- the mark of a place in the word of another one, by the bits of the word from that one on
pub mark-behind : (words : List ℕ) (place i : ℕ) → place % 16 + i < 16 →
    mark words (place + i) ≡ bit_at (slice_index words (place / 16) / 2 ^ (place % 16)) i
mark-behind words place i within =
    let word : (place + i) / 16 ≡ place / 16 = omega arith in
    let lane : (place + i) % 16 ≡ place % 16 + i = omega arith in
    ap (λ w. bit_at (slice_index words w) ((place + i) % 16)) word
    ∙ ap (bit_at (slice_index words (place / 16))) lane
    ∙ ap (λ n. n % 2) (sym (shr-shr (slice_index words (place / 16)) (place % 16) i))

module _ (words : List ℕ) (place rest : ℕ) (is : rest ≡ slice_index words (place / 16) / 2 ^ (place % 16))
    (fits : slice_index words (place / 16) < 2 ^ 16) where
  behind : (i : ℕ) → place % 16 + i < 16 → mark words (place + i) ≡ bit_at rest i
  behind i within = mark-behind words place i within ∙ ap (λ n. bit_at n i) (sym is)

  -- where no bit is left, no place of the word is marked
  pub none-behind : rest ≡ 0 → (other : ℕ) → place ≤ other → other < place / 16 * 16 + 16 → mark words other ≡ 0
  none-behind none other low high =
      let e : place + (other - place) ≡ other = omega arith in
      ap (mark words) (sym e)
      ∙ behind (other - place) (omega arith) ∙ ap (λ n. bit_at n (other - place)) none ∙ bit_at-zero (other - place)

  module _ (some : rest ≢ 0) where
    rest-fits : rest < 2 ^ 16
    rest-fits = omega (arith, is, fits, shr_le (slice_index words (place / 16)) (place % 16))

    lowest : (trailing_zeros w16 rest < 16) × (bit_at rest (trailing_zeros w16 rest) ≡ 1)
        × ((i : ℕ) → i < trailing_zeros w16 rest → bit_at rest i ≡ 0)
    lowest = bit_at-trailing_zeros w16 rest (omega (arith, some)) rest-fits

    -- the lowest bit that is left is in the word
    pub inside : place % 16 + trailing_zeros w16 rest < 16
    inside = elim (cases_lt (place % 16 + trailing_zeros w16 rest) 16) [
      | inl below ↦ below
      | inr above ↦
          let none : bit_at rest (trailing_zeros w16 rest) ≡ 0 =
          ap (λ n. bit_at n (trailing_zeros w16 rest)) is
          ∙ ap (λ n. n % 2) (shr-shr (slice_index words (place / 16)) (place % 16) (trailing_zeros w16 rest))
          ∙ bit_at_above (slice_index words (place / 16)) 16 (place % 16 + trailing_zeros w16 rest) fits above in
          absurd (omega (arith, none, lowest.1))
    ]

    pub found : mark words (place + trailing_zeros w16 rest) ≡ 1
    found = behind (trailing_zeros w16 rest) inside ∙ lowest.1

    pub none-under : (other : ℕ) → place ≤ other → other < place + trailing_zeros w16 rest → mark words other ≡ 0
    none-under other low high =
        let e : place + (other - place) ≡ other = omega arith in
        ap (mark words) (sym e)
        ∙ behind (other - place) (omega (arith, low, high, inside)) ∙ lowest.2 (other - place) (omega arith)

-- the ones of a word are as many as the names that its bits keep
count-word : (word : ℕ) (names : List ℕ) → word < 2 ^ length names → count_ones word ≡ length (kept (bit_at word) names)
count-word word [] few = omega (arith, few, ones_le_self word)
count-word word (name ∷ names) few =
    let half = count-word (word / 2) names (omega (arith, few, pow-suc 2 (length names))) in
    let rest : kept (bit_at (word / 2)) names ≡ kept (λ i. bit_at word (suc i)) names =
    kept-same (bit_at (word / 2)) (λ i. bit_at word (suc i)) names (λ i low. sym (bit_at-suc word i)) in
    let step = ones_step word in
    let lowest = bit_at_lowest word in
    elim (cases_eq (bit_at word 0) 1) [
      | inl marked ↦ omega (
        arith,
        step,
        lowest,
        marked,
        half,
        ap length rest,
        ap length (kept-yes (bit_at word) name names marked),
      )
      | inr unmarked ↦ omega (
        arith,
        step,
        lowest,
        unmarked,
        half,
        ap length rest,
        ap length (kept-no (bit_at word) name names unmarked),
      )
    ]

-- the names chosen from a word on are as many as the ones of the word and the names chosen from the next word on
pub count-step : (words names : List ℕ) (g : ℕ) → g < length words → slice_index words g < 2 ^ 16 →
    suc g * 16 ≤ length names →
    length (chosen (drop g words) (drop (g * 16) names))
    ≡ count_ones (slice_index words g) + length (chosen (drop (suc g) words) (drop (suc g * 16) names))
count-step words names g low fits enough =
    let own : List ℕ = take 16 (drop (g * 16) names) in
    let size : length own ≡ 16 = length-take 16 (drop (g * 16) names)
    ∙ omega (arith, length-drop (g * 16) names, enough) in
    let ones = count-word (slice_index words g) own (subst (λ n. slice_index words g < 2 ^ n) (sym size) fits) in
    ap length (chosen-group words names g low)
    ∙ length-append (picked (slice_index words g) 0 own) (chosen (drop (suc g) words) (drop (suc g * 16) names))
    ∙ ap (λ n. n + length (chosen (drop (suc g) words) (drop (suc g * 16) names)))
    (ap length (picked-bits (slice_index words g) own) ∙ sym ones)
