-- Four numbers that are written side by side, and what is shown of four places or lanes one by one.
use Rattle.std.proofs.Common.{◌≡◌, ℕ, zero, suc, ◌+◌, ◌-◌, ◌<◌, ◌≤◌, List, ◌++◌, length, get_or, take, drop, length-append}
use Rattle.std.proofs.Common.{ap, sym, ◌∙◌, arith}
use Rattle.std.specs.Simd.Lanes.{put_chunk}
use Rattle.std.proofs.lemmas.Simd.{put_chunk_whole}
use Rattle.std.proofs.lemmas.List.{length-drop, length-take-le, get_or-drop, get_or-take, get_or_append_left, get_or-append_right}
use borrow.Rule.Slice.PartMut.{mid_of, post_of}

-- a fact about each number below four
pub below-four : (P : ℕ → Type 0) → P 0 → P 1 → P 2 → P 3 → (n : ℕ) → n < 4 → P n
below-four P one two three four zero low = one
below-four P one two three four (suc zero) low = two
below-four P one two three four (suc (suc zero)) low = three
below-four P one two three four (suc (suc (suc zero))) low = four
below-four P one two three four (suc (suc (suc (suc n)))) low = absurd (omega (arith, low))

-- four numbers are written over four of a list
module _ (xs ys : List ℕ) (at k : ℕ) (four : k ≡ 4) (long : at + 4 ≤ length xs) (part : length ys ≡ 4) where
  abbrev written : List ℕ
  written = take at xs ++ (put_chunk 0 (mid_of at k xs) ys ++ post_of at k xs)

  head : length (take at xs) ≡ at
  head = length-take-le at xs (omega (arith, long))

  middle : length (mid_of at k xs) ≡ 4
  middle = length-take-le k (drop at xs) (omega (arith, length-drop at xs, long, four)) ∙ four

  whole : put_chunk 0 (mid_of at k xs) ys ≡ ys
  whole = put_chunk_whole (mid_of at k xs) ys (middle ∙ sym part)

  pub written-size : length written ≡ length xs
  written-size =
      let rest : length (put_chunk 0 (mid_of at k xs) ys ++ post_of at k xs) ≡ 4 + (length xs - at - k) =
      length-append (put_chunk 0 (mid_of at k xs) ys) (post_of at k xs)
      ∙ omega (arith, ap length whole, part, length-drop k (drop at xs), length-drop at xs) in
      length-append (take at xs) (put_chunk 0 (mid_of at k xs) ys ++ post_of at k xs)
      ∙ omega (arith, head, rest, four, long)

  pub written-before : (place : ℕ) → place < at → get_or written place 0 ≡ get_or xs place 0
  written-before place low =
      get_or_append_left (take at xs) (put_chunk 0 (mid_of at k xs) ys ++ post_of at k xs) 0 place
      (omega (arith, low, head))
      ∙ get_or-take at xs place 0 low

  pub written-each : (each place : ℕ) → each < 4 → place ≡ at + each → get_or written place 0 ≡ get_or ys each 0
  written-each each place low is =
      get_or-append_right (take at xs) (put_chunk 0 (mid_of at k xs) ys ++ post_of at k xs) at place 0 head
      (omega (arith, is))
      ∙ ap (λ l. get_or (l ++ post_of at k xs) (place - at) 0) whole
      ∙ get_or_append_left ys (post_of at k xs) 0 (place - at) (omega (arith, is, low, part))
      ∙ ap (λ i. get_or ys i 0) (omega (arith, is))

  pub written-behind : (place : ℕ) → at + 4 ≤ place → get_or written place 0 ≡ get_or xs place 0
  written-behind place high =
      get_or-append_right (take at xs) (put_chunk 0 (mid_of at k xs) ys ++ post_of at k xs) at place 0 head
      (omega (arith, high))
      ∙ ap (λ l. get_or (l ++ post_of at k xs) (place - at) 0) whole
      ∙ get_or-append_right ys (post_of at k xs) 4 (place - at) 0 part (omega (arith, high))
      ∙ get_or-drop k (drop at xs) (place - at - 4) 0
      ∙ get_or-drop at xs (k + (place - at - 4)) 0
      ∙ ap (λ i. get_or xs i 0) (omega (arith, four, high))
