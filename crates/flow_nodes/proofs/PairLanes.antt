-- A number that is put into all lanes of 16 bits from 32 bits that have it twice.
use Rattle.std.proofs.Common.{◌≡◌, ℕ, zero, suc, ◌+◌, ◌*◌, ◌/◌, ◌%◌, ◌^◌, ◌<◌, ◌≤◌, List, [], ◌∷◌, length, drop, take}
use Rattle.std.proofs.Common.{get_or, refl, ap, ◌∙◌, inl, inr, arith}
use Rattle.std.specs.Prelude.{replicate}
use Rattle.std.specs.Simd.Lanes.{Each1, number_l, digits_l, zip2}
use Rattle.std.proofs.lemmas.Bool.{cases_eq}
use Rattle.std.proofs.lemmas.List.{get_or-drop}
use Rattle.std.proofs.lemmas.Simd.{Each1-replicate, get_or-replicate, get_or_narrower, get_or_wider}
use Rattle.std.proofs.lemmas.Simd.{length-zip2, get_or-zip2}
use Rattle.flow_nodes.specs.Vectors.{HasLane}

-- digits are below their base, and as many as were asked for
digits-below : (n x : ℕ) → Each1 (λ d. d < 256) (digits_l 256 n x)
digits-below zero x = tt
digits-below (suc n) x = (omega arith, digits-below n (x / 256))

digits-count : (p n x : ℕ) → length (digits_l p n x) ≡ n
digits-count p zero x = refl
digits-count p (suc n) x = omega (arith, digits-count p n (x / p))

-- the number of two digits
two-digits : (digits : List ℕ) → number_l 256 (take 2 digits) ≡ get_or digits 0 0 + 256 * get_or digits 1 0
two-digits [] = refl
two-digits (one ∷ []) = omega arith
two-digits (one ∷ two ∷ more) = omega arith

module _ (pair : ℕ) (small : pair < 4294967296) where
  abbrev bytes : List ℕ
  bytes = digits_l 256 32 (number_l 4294967296 (replicate 8 pair))

  -- part i of each four bytes
  byte : (four i : ℕ) → four < 8 → i < 4 → get_or bytes (4 * four + i) 0 ≡ pair / 256 ^ i % 256
  byte four i low few =
      get_or_narrower 4294967296 4 256 32 (replicate 8 pair) four i refl
      (Each1-replicate (λ x. x < 4294967296) 8 pair small) few (omega arith)
      ∙ ap (λ w. w / 256 ^ i % 256) (get_or-replicate 8 four pair 0 low)

  -- a lane of 16 bits has two bytes
  lane-bytes : (lane : ℕ) → lane < 16 → get_or (digits_l 65536 16 (number_l 256 bytes)) lane 0
      ≡ get_or bytes (2 * lane) 0 + 256 * get_or bytes (2 * lane + 1) 0
  lane-bytes lane low =
      let first : 2 * lane + 0 ≡ 2 * lane = omega arith in
      get_or_wider 256 2 65536 16 bytes lane refl (digits-below 32 (number_l 4294967296 (replicate 8 pair))) low
      ∙ two-digits (drop (2 * lane) bytes)
      ∙ ap (λ b. b + 256 * get_or (drop (2 * lane) bytes) 1 0)
      (get_or-drop (2 * lane) bytes 0 0 ∙ ap (λ m. get_or bytes m 0) first)
      ∙ ap (λ b. get_or bytes (2 * lane) 0 + 256 * b) (get_or-drop (2 * lane) bytes 1 0)

  -- which is the lower or the upper half of the 32 bits
  lane-half : (four half : ℕ) → four < 8 → half < 2 → get_or (digits_l 65536 16 (number_l 256 bytes)) (2 * four + half) 0
      ≡ pair / 256 ^ (2 * half) % 256 + 256 * (pair / 256 ^ (2 * half + 1) % 256)
  lane-half four half low few =
      let lower : 2 * (2 * four + half) ≡ 4 * four + 2 * half = omega arith in
      let upper : 2 * (2 * four + half) + 1 ≡ 4 * four + (2 * half + 1) = omega arith in
      lane-bytes (2 * four + half) (omega arith)
      ∙ ap (λ b. b + 256 * get_or bytes (2 * (2 * four + half) + 1) 0)
      (ap (λ m. get_or bytes m 0) lower ∙ byte four (2 * half) low (omega arith))
      ∙ ap (λ b. pair / 256 ^ (2 * half) % 256 + 256 * b)
      (ap (λ m. get_or bytes m 0) upper ∙ byte four (2 * half + 1) low (omega arith))

-- each lane has the number
pub from-pair : (number pair lane : ℕ) → number ≤ 65535 → pair ≡ number * 65537 → lane < 16 →
    HasLane 65535 16 (digits_l 65536 16 (number_l 256 (digits_l 256 32 (number_l 4294967296 (replicate 8 pair))))) lane
    number
from-pair number pair lane fits is low =
    let small : pair < 4294967296 = omega arith in
    let lanes = digits_l 65536 16 (number_l 256 (digits_l 256 32 (number_l 4294967296 (replicate 8 pair)))) in
    record {
      count = digits-count 65536 16 (number_l 256 (digits_l 256 32 (number_l 4294967296 (replicate 8 pair))));
      within = low;
      value = elim (cases_eq (lane % 2) 0) [
        | inl even ↦
            let at : lane ≡ 2 * (lane / 2) + 0 = omega arith in
            ap (λ i. get_or lanes i 0) at ∙ lane-half pair small (lane / 2) 0 (omega arith) (omega arith)
            ∙ omega arith
        | inr odd ↦
            let at : lane ≡ 2 * (lane / 2) + 1 = omega arith in
            ap (λ i. get_or lanes i 0) at ∙ lane-half pair small (lane / 2) 1 (omega arith) (omega arith)
            ∙ omega arith
      ];
    }

-- four numbers times 65537
abbrev pub twice : List ℕ → List ℕ
twice four = zip2 (λ a b. a * b % 2 ^ 32) four (replicate 4 65537)

pub twice-size : (four : List ℕ) → length four ≡ 4 → length (twice four) ≡ 4
twice-size four size = length-zip2 (λ a b. a * b % 2 ^ 32) four (replicate 4 65537) size ∙ size

small-product : (x : ℕ) → x ≤ 65535 → x * 65537 % 4294967296 ≡ x * 65537
small-product x small = omega arith

pub twice-each : (four : List ℕ) → length four ≡ 4 → (place : ℕ) → place < 4 → get_or four place 0 ≤ 65535 →
    get_or (twice four) place 0 ≡ get_or four place 0 * 65537
twice-each four size place low small =
    get_or-zip2 (λ a b. a * b % 2 ^ 32) four (replicate 4 65537) place 0 0 0 (omega (arith, size)) low
    ∙ ap (λ n. get_or four place 0 * n % 2 ^ 32) (get_or-replicate 4 place 65537 0 low)
    ∙ small-product (get_or four place 0) small
