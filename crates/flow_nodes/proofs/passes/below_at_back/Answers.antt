use Rattle.std.proofs.Common.{◌≡◌, ℕ, ◌+◌, ◌-◌, ◌/◌, slice_index, slice_index_or, sym, ◌∙◌, subst}
use Rattle.std.proofs.Common.{inl, inr, refl, arith}
use Rattle.std.proofs.lemmas.Bool.{cases_lt}
use Rattle.std.proofs.lemmas.Nat.Bits.{bit_at-zero}
use Rattle.std.proofs.lemmas.Option.{same_Some, none-some}
use Rattle.flow_shop.specs.declared.end.End.TheVariants.{Back}
use Rattle.flow_nodes.specs.Vectors.{HasLane}
use Rattle.flow_nodes.specs.Groups.{child_bound}
use Rattle.flow_nodes.specs.Open.{HasStartsAndBound, start_at}
use Rattle.flow_nodes.specs.internal.Passes.{greatest_up_to}
use Rattle.flow_nodes.proofs.PassSteps.{back-begun, none-so-far, whole-tells, up-to-all}
use Rattle.flow_nodes.proofs.passes.below_at_back.Goals as goal

pub returns-then-not-sought-clause-exact : goal.returns-then-not-sought-clause-exact
returns-then-not-sought-clause-exact g c shop threshold first last jobs node lane limit is paired are within was fresh =
    let job : ℕ = slice_index jobs lane in
    whole-tells shop threshold c.args.sought.limit Back first last job lane c.find_below.result.below node limit is
    (are.each lane within) fresh
    (c.find_below.ensures.each lane (child_bound shop Back first last job)
    (c.whole_back-bounds.ensures shop first last jobs node lane is paired are within fresh).bound was)

pub returns-then-not-sought-clause-whole : goal.returns-then-not-sought-clause-whole
returns-then-not-sought-clause-whole g c shop first last jobs node lane bounds is paired are within fresh same =
    subst (HasStartsAndBound g.V.Vector.list g.V.Vector.CAP g.V.Vector.WIDTH shop Back first last
    (slice_index jobs lane) lane c.whole_back-bounds.new.starts)
    (same_Some c.whole_back-bounds.result bounds (sym c.find_below.ensures.bounds ∙ same))
    (c.whole_back-bounds.ensures shop first last jobs node lane is paired are within fresh)

pub returns-then-not-sought-clause-known : goal.returns-then-not-sought-clause-known
returns-then-not-sought-clause-known g c lane one = (c.whole_back-bounds.result, c.find_below.ensures.bounds)

pub returns-then-kept_below-eq0-clause-exact : goal.returns-then-kept_below-eq0-clause-exact
returns-then-kept_below-eq0-clause-exact g c shop threshold first last jobs node lane limit is paired are within was fresh =
    let job : ℕ = slice_index jobs lane in
    let begin = (back-begun g.V.Vector.list g.V.Vector.CAP g.V.Vector.WIDTH shop first last
    job lane node is (are.each lane within) c.begun.result (c.begun.ensures.free lane within)
    (c.begun.ensures.bounds lane within) c.known_or-machines.result
    (c.known_or-machines.ensures ∙ are.machines)) in
    let first_pass = c.pass_back-one.ensures.passed shop first last jobs node lane is paired are within begin in
    none-so-far shop threshold c.args.sought.limit Back first last job (c.known_or-machines.result - c.known_or-machines.result / 3) lane
    c.kept_below.result node limit is (are.each lane within) fresh
    (omega (arith, c.known_or-machines.ensures, are.machines)) c.if-kept_below-eq0.true
    (c.kept_below.ensures.each lane (greatest_up_to shop Back first last job (c.known_or-machines.result - c.known_or-machines.result / 3))
    first_pass.bounds was)

pub returns-then-kept_below-eq0-clause-known : goal.returns-then-kept_below-eq0-clause-known
returns-then-kept_below-eq0-clause-known g c lane one = absurd (omega (arith, one, bit_at-zero lane))

pub returns-then-kept_below-eq0-clause-whole : goal.returns-then-kept_below-eq0-clause-whole
returns-then-kept_below-eq0-clause-whole g c shop first last jobs node lane bounds is paired are within fresh same =
    absurd (none-some bounds same)

pub returns-then-kept_below-eq0-2-clause-exact : goal.returns-then-kept_below-eq0-2-clause-exact
returns-then-kept_below-eq0-2-clause-exact g c shop threshold first last jobs node lane limit is paired are within was fresh =
    let job : ℕ = slice_index jobs lane in
    let begin = (back-begun g.V.Vector.list g.V.Vector.CAP g.V.Vector.WIDTH shop first last
    job lane node is (are.each lane within) c.begun.result (c.begun.ensures.free lane within)
    (c.begun.ensures.bounds lane within) c.known_or-machines.result
    (c.known_or-machines.ensures ∙ are.machines)) in
    let first_pass = c.pass_back-one.ensures.passed shop first last jobs node lane is paired are within begin in
    let second_pass = c.pass_back-two.ensures.passed shop first last jobs node lane is paired are within first_pass in
    none-so-far shop threshold c.args.sought.limit Back first last job (c.known_or-machines.result / 3) lane
    c.kept_below-2.result node limit is (are.each lane within) fresh
    (omega (arith, c.known_or-machines.ensures, are.machines)) c.if-kept_below-eq0-2.true
    (c.kept_below-2.ensures.each lane (greatest_up_to shop Back first last job (c.known_or-machines.result / 3))
    second_pass.bounds was)

pub returns-then-kept_below-eq0-2-clause-known : goal.returns-then-kept_below-eq0-2-clause-known
returns-then-kept_below-eq0-2-clause-known g c lane one = absurd (omega (arith, one, bit_at-zero lane))

pub returns-then-kept_below-eq0-2-clause-whole : goal.returns-then-kept_below-eq0-2-clause-whole
returns-then-kept_below-eq0-2-clause-whole g c shop first last jobs node lane bounds is paired are within fresh same =
    absurd (none-some bounds same)

pub returns-clause-exact : goal.returns-clause-exact
returns-clause-exact g c shop threshold first last jobs node lane limit is paired are within was fresh =
    let job : ℕ = slice_index jobs lane in
    let begin = (back-begun g.V.Vector.list g.V.Vector.CAP g.V.Vector.WIDTH shop first last
    job lane node is (are.each lane within) c.begun.result (c.begun.ensures.free lane within)
    (c.begun.ensures.bounds lane within) c.known_or-machines.result
    (c.known_or-machines.ensures ∙ are.machines)) in
    let first_pass = c.pass_back-one.ensures.passed shop first last jobs node lane is paired are within begin in
    let second_pass = c.pass_back-two.ensures.passed shop first last jobs node lane is paired are within first_pass in
    let last_pass = c.pass_back-whole.ensures.passed shop first last jobs node lane is paired are within second_pass in
    whole-tells shop threshold c.args.sought.limit Back first last job lane c.find_below-2.result.below node limit is
    (are.each lane within) fresh
    (c.find_below-2.ensures.each lane (child_bound shop Back first last job)
    (subst (HasLane g.V.Vector.CAP g.V.Vector.WIDTH (g.V.Vector.list c.pass_back-whole.result.bounds) lane)
    (up-to-all shop Back first last job 0 node is (are.each lane within) fresh refl) last_pass.bounds) was)

pub returns-clause-known : goal.returns-clause-known
returns-clause-known g c lane one = (c.pass_back-whole.result.bounds, c.find_below-2.ensures.bounds)

pub returns-clause-whole : goal.returns-clause-whole
returns-clause-whole g c shop first last jobs node lane bounds is paired are within fresh same =
    let job : ℕ = slice_index jobs lane in
    let begin = (back-begun g.V.Vector.list g.V.Vector.CAP g.V.Vector.WIDTH shop first last
    job lane node is (are.each lane within) c.begun.result (c.begun.ensures.free lane within)
    (c.begun.ensures.bounds lane within) c.known_or-machines.result
    (c.known_or-machines.ensures ∙ are.machines)) in
    let first_pass = c.pass_back-one.ensures.passed shop first last jobs node lane is paired are within begin in
    let second_pass = c.pass_back-two.ensures.passed shop first last jobs node lane is paired are within first_pass in
    let last_pass = c.pass_back-whole.ensures.passed shop first last jobs node lane is paired are within second_pass in
    subst (HasStartsAndBound g.V.Vector.list g.V.Vector.CAP g.V.Vector.WIDTH shop Back first last job lane
    c.pass_back-whole.new.starts) (same_Some c.pass_back-whole.result.bounds bounds
    (sym c.find_below-2.ensures.bounds ∙ same)) (record {
      start = λ machine zero on.
          let place : ℕ = machine - 1 in
          let next : place + 1 ≡ machine = omega (arith, on.0) in
          let at_two : slice_index_or c.pass_back-whole.new.starts place zero
          ≡ slice_index_or c.pass_back-two.new.starts place zero →
          HasLane g.V.Vector.CAP g.V.Vector.WIDTH (g.V.Vector.list (slice_index_or c.pass_back-two.new.starts place zero)) lane
          (start_at shop Back first last job (place + 1)) →
          HasLane g.V.Vector.CAP g.V.Vector.WIDTH (g.V.Vector.list (slice_index_or c.pass_back-whole.new.starts place zero)) lane
          (start_at shop Back first last job (place + 1)) =
          λ kept has. subst (λ v. HasLane g.V.Vector.CAP g.V.Vector.WIDTH (g.V.Vector.list v) lane
          (start_at shop Back first last job (place + 1))) (sym kept) has in
          let at_one : slice_index_or c.pass_back-two.new.starts place zero
          ≡ slice_index_or c.pass_back-one.new.starts place zero →
          slice_index_or c.pass_back-whole.new.starts place zero
          ≡ slice_index_or c.pass_back-two.new.starts place zero →
          HasLane g.V.Vector.CAP g.V.Vector.WIDTH (g.V.Vector.list (slice_index_or c.pass_back-one.new.starts place zero)) lane
          (start_at shop Back first last job (place + 1)) →
          HasLane g.V.Vector.CAP g.V.Vector.WIDTH (g.V.Vector.list (slice_index_or c.pass_back-whole.new.starts place zero)) lane
          (start_at shop Back first last job (place + 1)) =
          λ kept then has. at_two then (subst (λ v. HasLane g.V.Vector.CAP g.V.Vector.WIDTH (g.V.Vector.list v) lane
          (start_at shop Back first last job (place + 1))) (sym kept) has) in
          subst (λ k. HasLane g.V.Vector.CAP g.V.Vector.WIDTH
          (g.V.Vector.list (slice_index_or c.pass_back-whole.new.starts place zero)) lane
          (start_at shop Back first last job k)) next
          (elim (cases_lt place (c.known_or-machines.result / 3)) [
            | inl low ↦
                c.pass_back-whole.ensures.starts shop first last jobs node lane place zero is paired are within second_pass
                (omega arith) low
            | inr high ↦ elim (cases_lt place (c.known_or-machines.result - c.known_or-machines.result / 3)) [
              | inl low ↦
                  at_two (c.pass_back-whole.ensures.others place zero (inr high))
                  (c.pass_back-two.ensures.starts shop first last jobs node lane place zero is paired are within first_pass
                  high low)
              | inr above ↦
                  at_one (c.pass_back-two.ensures.others place zero (inr above))
                  (c.pass_back-whole.ensures.others place zero (inr high))
                  (c.pass_back-one.ensures.starts shop first last jobs node lane place zero is paired are within begin above
                  (omega (arith, c.known_or-machines.ensures, are.machines, on.0, on.1)))
            ]
          ]);
      bound = subst (HasLane g.V.Vector.CAP g.V.Vector.WIDTH (g.V.Vector.list c.pass_back-whole.result.bounds) lane)
          (up-to-all shop Back first last job 0 node is (are.each lane within) fresh refl) last_pass.bounds;
    })
