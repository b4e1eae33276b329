-- What a pass that has gone over some machines says of the whole.
use Rattle.std.proofs.Common.{◌≡◌, ◌↔◌, ℕ, zero, ◌+◌, ◌-◌, ◌<◌, ◌≤◌, false, List, ◌++◌, map, ap, sym, subst}
use Rattle.std.proofs.Common.{◌∙◌, arith}
use Rattle.std.specs.Int.{bit_at}
use Rattle.std.proofs.lemmas.Nat.Bits.{bit_at-zero}
use Rattle.flow_shop.specs.Shop.{Shop, numbers}
use Rattle.flow_shop.specs.Least.{greatest}
use Rattle.flow_shop.specs.Sequences.{has}
use Rattle.flow_shop.specs.declared.end.End.{End}
use Rattle.flow_shop.specs.declared.end.End.TheVariants.{Front, Back}
use Rattle.flow_shop.proofs.Extremes.{range-le-greatest, greatest-range-le}
use Rattle.flow_nodes.specs.Vectors.{HasLane, limit_of}
use Rattle.flow_nodes.specs.Nodes.{IsJob, IsNode}
use Rattle.flow_nodes.specs.Groups.{child_bound}
use Rattle.flow_nodes.specs.internal.Children.{front_child_at, back_child_at}
use Rattle.flow_nodes.specs.internal.Passes.{HasPassed, free_at, greatest_up_to}
use Rattle.flow_nodes.specs.declared.passes.Pass.{Pass}
use Rattle.flow_nodes.specs.declared.node.Node.{Node}
use Rattle.flow_nodes.proofs.ChildBounds.{child-bound-small}
use Rattle.flow_nodes.proofs.ChildSteps.{front-none, back-none, back-greatest-none, greatest-is-bound}

-- the greatest of some numbers is no greater than that of more
greatest-fewer : (value : ℕ → ℕ) (from to most : ℕ) → 1 ≤ from → to ≤ most →
    greatest (map value (numbers from to)) ≤ greatest (map value (numbers 1 most))
greatest-fewer value from to most low high =
    greatest-range-le value from (to + 1 - from) (greatest (map value (numbers 1 most)))
    (λ at above below. range-le-greatest value 1 (most + 1 - 1) at (omega (arith, above)) (omega (arith, above, below)))

-- what is greatest so far is at most the bound of the child
pub so-far-least : (shop : Shop) (end : End) (first last : List ℕ) (job place : ℕ) (node : Node) →
    IsNode shop first last node → IsJob shop job → has (first ++ last) job ≡ false → place ≤ shop.machines →
    greatest_up_to shop end first last job place ≤ child_bound shop end first last job
so-far-least shop Front first last job place node is range fresh high =
    subst (λ n. greatest_up_to shop Front first last job place ≤ n)
    (greatest-is-bound shop first last job node is range Front fresh)
    (greatest-fewer (front_child_at shop first last job) 1 place shop.machines (omega arith) high)
so-far-least shop Back first last job place node is range fresh high =
    subst (λ n. greatest_up_to shop Back first last job place ≤ n)
    (greatest-is-bound shop first last job node is range Back fresh)
    (greatest-fewer (back_child_at shop first last job) (place + 1) shop.machines shop.machines (omega arith) (omega arith))

-- over all machines it is the bound of the child
abbrev last_place : Shop → End → ℕ → Type 0
last_place shop Front place = place ≡ shop.machines
last_place shop Back place = place ≡ 0

pub up-to-all : (shop : Shop) (end : End) (first last : List ℕ) (job place : ℕ) (node : Node) →
    IsNode shop first last node → IsJob shop job → has (first ++ last) job ≡ false → last_place shop end place →
    greatest_up_to shop end first last job place ≡ child_bound shop end first last job
up-to-all shop Front first last job place node is range fresh all =
    ap (greatest_up_to shop Front first last job) all ∙ greatest-is-bound shop first last job node is range Front fresh
up-to-all shop Back first last job place node is range fresh all =
    ap (greatest_up_to shop Back first last job) all ∙ greatest-is-bound shop first last job node is range Back fresh

-- a lane whose greatest so far is not below the limit makes no child below the threshold
pub none-so-far : (shop : Shop) (threshold limit : ℕ) (end : End) (first last : List ℕ) (job place lane bits : ℕ)
    (node : Node) → limit ≡ limit_of threshold → IsNode shop first last node → IsJob shop job →
    has (first ++ last) job ≡ false → place ≤ shop.machines → bits ≡ 0 →
    (bit_at bits lane ≡ 1 ↔ (greatest_up_to shop end first last job place < limit)) →
    bit_at zero lane ≡ 1 ↔ (child_bound shop end first last job < threshold)
none-so-far shop threshold limit end first last job place lane bits node limit_is is range fresh high none tells =
    let least = so-far-least shop end first last job place node is range fresh high in
    let small = child-bound-small shop end first last job node is range fresh in
    let off : bit_at bits lane ≡ 0 = ap (λ b. bit_at b lane) none ∙ bit_at-zero lane in (
      λ one. absurd (omega (arith, one, bit_at-zero lane)),
      λ under. absurd (omega (arith, off, tells.1 (omega (arith, limit_is, least, small, under)))),
    )

-- a lane whose bits tell of the whole
pub whole-tells : (shop : Shop) (threshold limit : ℕ) (end : End) (first last : List ℕ) (job lane bits : ℕ)
    (node : Node) → limit ≡ limit_of threshold → IsNode shop first last node → IsJob shop job →
    has (first ++ last) job ≡ false →
    (bit_at bits lane ≡ 1 ↔ (child_bound shop end first last job < limit)) →
    bit_at bits lane ≡ 1 ↔ (child_bound shop end first last job < threshold)
whole-tells shop threshold limit end first last job lane bits node limit_is is range fresh tells =
    let small = child-bound-small shop end first last job node is range fresh in (
      λ one. omega (arith, limit_is, tells.0 one),
      λ under. tells.1 (omega (arith, limit_is, small, under)),
    )

-- a pass that has not begun
module _ {V : Type 0} (list : V → List ℕ) (cap width : ℕ) (shop : Shop) (first last : List ℕ) (job lane : ℕ)
    (node : Node) (is : IsNode shop first last node) (range : IsJob shop job) (pass : Pass V)
    (free : HasLane cap width (list pass.free) lane 0) (bounds : HasLane cap width (list pass.bounds) lane 0) where
  pub front-begun : HasPassed list cap width shop Front first last job lane 0 pass
  front-begun = record {
    free = subst (HasLane cap width (list pass.free) lane) (sym (front-none shop first last job node is range)) free;
    bounds = bounds;
  }

  pub back-begun : (place : ℕ) → place ≡ shop.machines → HasPassed list cap width shop Back first last job lane place pass
  back-begun place all = record {
    free = subst (HasLane cap width (list pass.free) lane)
        (sym (back-none shop first last job node is range) ∙ ap (λ m. free_at shop Back first last job m) (sym all)) free;
    bounds = subst (HasLane cap width (list pass.bounds) lane)
        (sym (back-greatest-none shop first last job node is range)
        ∙ ap (λ m. greatest_up_to shop Back first last job m) (sym all)) bounds;
  }
