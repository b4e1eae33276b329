use Rattle.std.proofs.Common.{◌≡◌, ℕ, ◌+◌, ◌<◌, max, slice_index, arith}
use Rattle.flow_nodes.proofs.ScanSteps.{below-three, lane-left}
use Rattle.flow_nodes.proofs.scan.greatest_down.Goals as goal

pub returns-clause-last : goal.returns-clause-last
returns-clause-last c =
    omega (
      arith,
      lane-left c.args.numbers c.requires.sizes.0 3 (omega arith),
      c.greater_each-of_two.ensures.each 3 (omega arith),
      lane-left c.greater_each-of_two.result c.greater_each-of_two.ensures.size 3 (omega arith),
      c.greater_each-of_four.ensures.each 3 (omega arith),
      c.greater_each.ensures.each 3 (omega arith),
      c.requires.same 3 (omega arith),
    )

pub returns-clause-next : goal.returns-clause-next
returns-clause-next c =
    let n = λ (lane : ℕ) (within : lane < 4). lane-left c.args.numbers c.requires.sizes.0 lane within in
    let t = λ (lane : ℕ) (within : lane < 4). lane-left c.greater_each-of_two.result c.greater_each-of_two.ensures.size lane within in
    let e0 = c.greater_each-of_two.ensures.each 0 (omega arith) in
    let e1 = c.greater_each-of_two.ensures.each 1 (omega arith) in
    let e2 = c.greater_each-of_two.ensures.each 2 (omega arith) in
    let e3 = c.greater_each-of_two.ensures.each 3 (omega arith) in
    let g0 = c.greater_each-of_four.ensures.each 0 (omega arith) in
    let g1 = c.greater_each-of_four.ensures.each 1 (omega arith) in
    let g2 = c.greater_each-of_four.ensures.each 2 (omega arith) in
    let g3 = c.greater_each-of_four.ensures.each 3 (omega arith) in
    let h0 = c.greater_each.ensures.each 0 (omega arith) in
    let h1 = c.greater_each.ensures.each 1 (omega arith) in
    let h2 = c.greater_each.ensures.each 2 (omega arith) in
    let h3 = c.greater_each.ensures.each 3 (omega arith) in
    let n1 = n 1 (omega arith) in
    let n2 = n 2 (omega arith) in
    let n3 = n 3 (omega arith) in
    let t2 = t 2 (omega arith) in
    let t3 = t 3 (omega arith) in
    let s1 = c.requires.same 1 (omega arith) in
    let s2 = c.requires.same 2 (omega arith) in
    let s3 = c.requires.same 3 (omega arith) in
    below-three
    (λ lane. slice_index c.greater_each.result lane
    ≡ max (slice_index c.greater_each.result (lane + 1)) (slice_index c.args.numbers lane))
    (omega (arith, e0, e1, e2, e3, n1, n2, n3, g0, g1, t2, t3, h0, h1, s1))
    (omega (arith, e1, e2, e3, n2, n3, g1, g2, t2, t3, h1, h2, s1, s2))
    (omega (arith, e2, e3, n3, g2, g3, t2, t3, h2, h3, s2, s3))
