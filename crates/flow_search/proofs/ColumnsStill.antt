-- Columns whose machine bounds were tested before their released bounds.
use Rattle.std.proofs.Common.{◌≡◌, ℕ, ◌+◌, ◌<◌, ◌≤◌, List, ap, inl, inr, arith}
use Rattle.std.proofs.lemmas.Bool.{cases_lt}
use Rattle.flow_shop.specs.Shop.{Shop}
use Rattle.flow_shop.specs.Bound.{Bound}
use Rattle.flow_search.specs.internal.Columns.{IsUnprunedCount}
use Rattle.flow_search.proofs.ColumnsPassed.{IsPassed}

-- a column that the weaker of two bounds has pruned so far was pruned by the stronger one, or is pruned now
pub pruned-sooner : (shop : Shop) (weak strong : Bound) (list : List ℕ) (limit place machines first unpruned flag : ℕ) →
    ((machine : ℕ) → 1 ≤ machine → weak shop list machine ≤ strong shop list machine) →
    IsUnprunedCount shop weak list limit machines first → IsPassed shop strong list limit place unpruned flag →
    place < machines → strong shop list (place + 1) < limit → first ≤ place → flag ≡ 0
pruned-sooner shop weak strong list limit place machines first unpruned flag stronger is was to under low =
    elim was.state [
      | inl still ↦
          let cut : limit ≤ weak shop list (first + 1) = is.cut (omega (arith, low, to)) in
          let more = stronger (first + 1) (omega arith) in
          elim (cases_lt first place) [
            | inl before ↦
                let missed : strong shop list (first + 1) < limit = was.is.above (first + 1) (omega arith)
                (omega (arith, before, still.1)) in
                absurd (omega (arith, cut, more, missed))
            | inr here ↦
                let e : first ≡ place = omega (arith, here, low) in
                absurd (omega (arith, cut, more, under, ap (λ k. strong shop list (k + 1)) e))
          ]
      | inr cut ↦ cut.0
    ]

-- a column that one of two bounds has pruned so far needs no further machine
pub still-none : (shop : Shop) (weak strong : Bound) (list : List ℕ)
    (limit place machines first unpruned flag still : ℕ) →
    ((machine : ℕ) → 1 ≤ machine → weak shop list machine ≤ strong shop list machine) →
    IsUnprunedCount shop weak list limit machines first → IsPassed shop strong list limit place unpruned flag →
    place < machines → (place < first → still ≡ flag) → still ≡ 0 →
    IsUnprunedCount shop strong list limit machines unpruned
still-none shop weak strong list limit place machines first unpruned flag still stronger is was to kept none =
    elim was.state [
      | inl still_open ↦ record {
        within = omega (arith, still_open.1, to);
        above = was.is.above;
        cut = λ h. elim (cases_lt place first) [
          | inl before ↦ absurd (omega (arith, kept before, none, still_open.0))
          | inr low ↦
              let cut : limit ≤ weak shop list (first + 1) = is.cut (omega (arith, low, to)) in
              let more = stronger (first + 1) (omega arith) in
              elim (cases_lt first place) [
                | inl under ↦
                    let missed : strong shop list (first + 1) < limit = was.is.above (first + 1) (omega arith)
                    (omega (arith, under, still_open.1)) in
                    absurd (omega (arith, cut, more, missed))
                | inr here ↦
                    let e : first ≡ unpruned = omega (arith, here, low, still_open.1) in
                    omega (arith, cut, more, ap (λ k. strong shop list (k + 1)) e)
              ]
        ];
      }
      | inr done ↦ record {
        within = omega (arith, done.1, to);
        above = was.is.above;
        cut = λ h. was.is.cut done.1;
      }
    ]
