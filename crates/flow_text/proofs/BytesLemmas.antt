-- Bytes that are moved in pieces.
use Rattle.std.proofs.Common.{◌≡◌, ◌≤◌, ◌+◌, ◌-◌, ℕ, List, Option, ◌++◌, length, take, drop, arith}
use Rattle.std.specs.Io.KnownBytes.{Appends}
use Rattle.std.proofs.KnownBytes.{Appends-trans}
use Rattle.std.proofs.Math.Seq.{take-add}
use Rattle.std.proofs.lemmas.Grind.{common_steps}

take-next : (bytes : List ℕ) (done count : ℕ) → take (done + count) bytes ≡ take done bytes
    ++ take count (take (length bytes - done) (drop done bytes))
take-next bytes done count = grind (arith, common_steps, take-add)

-- the next bytes after those that were put
pub Appends-more : (a b c : Option (List ℕ)) (bytes : List ℕ) (done count : ℕ) → Appends a b (take done bytes)
    → Appends b c (take count (take (length bytes - done) (drop done bytes))) → Appends a c (take (done + count) bytes)
Appends-more a b c bytes done count first next = rw take-next (Appends-trans a b c _ _ first next)

-- the next bytes, copied to the front of a buffer
pub take-copied : (bytes copied tail : List ℕ) (done count : ℕ) →
    copied ≡ take count (take (length bytes - done) (drop done bytes))
    → count ≤ length bytes - done → take (done + count) bytes ≡ take done bytes ++ take count (copied ++ tail)
take-copied bytes copied tail done count is fits =
    let long : length copied ≡ count = rw is (grind (arith, common_steps)) in
    let front : take count (copied ++ tail) ≡ copied = grind (arith, common_steps, long) in
    rw (front, is) (take-next bytes done count)
