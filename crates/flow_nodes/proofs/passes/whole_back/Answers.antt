use Rattle.std.proofs.Common.{◌≡◌, ℕ, ◌+◌, ◌-◌, ◌/◌, slice_index, slice_index_or, sym, ◌∙◌, subst, refl}
use Rattle.std.proofs.Common.{inl, inr, arith}
use Rattle.std.proofs.lemmas.Bool.{cases_lt}
use Rattle.flow_shop.specs.declared.end.End.TheVariants.{Back}
use Rattle.flow_nodes.specs.Vectors.{HasLane}
use Rattle.flow_nodes.specs.Open.{start_at}
use Rattle.flow_nodes.proofs.PassSteps.{back-begun, up-to-all}
use Rattle.flow_nodes.proofs.passes.whole_back.Goals as goal

pub returns : goal.returns
returns g c shop first last jobs node lane is paired are within fresh =
    let job : ℕ = slice_index jobs lane in
    let half : ℕ = c.known_or-machines.result / 2 in
    let begin = (back-begun g.V.Vector.list g.V.Vector.CAP g.V.Vector.WIDTH shop first last
    job lane node is (are.each lane within) c.begun.result (c.begun.ensures.free lane within)
    (c.begun.ensures.bounds lane within) c.known_or-machines.result
    (c.known_or-machines.ensures ∙ are.machines)) in
    let first_pass = c.pass_back-part.ensures.passed shop first last jobs node lane is paired are within begin in
    let last_pass = c.pass_back-whole.ensures.passed shop first last jobs node lane is paired are within first_pass in
    record {
      start = λ machine zero on.
          let place : ℕ = machine - 1 in
          let next : place + 1 ≡ machine = omega (arith, on.0) in
          subst (λ k. HasLane g.V.Vector.CAP g.V.Vector.WIDTH
          (g.V.Vector.list (slice_index_or c.pass_back-whole.new.starts place zero)) lane
          (start_at shop Back first last job k)) next (elim (cases_lt place half) [
            | inl low ↦
                c.pass_back-whole.ensures.starts shop first last jobs node lane place zero is paired are within first_pass
                (omega arith) low
            | inr high ↦
                subst (λ v. HasLane g.V.Vector.CAP g.V.Vector.WIDTH (g.V.Vector.list v) lane
                (start_at shop Back first last job (place + 1)))
                (sym (c.pass_back-whole.ensures.others place zero (inr high)))
                (c.pass_back-part.ensures.starts shop first last jobs node lane place zero is paired are within begin high
                (omega (arith, c.known_or-machines.ensures, are.machines, on.0, on.1)))
          ]);
      bound = subst (HasLane g.V.Vector.CAP g.V.Vector.WIDTH (g.V.Vector.list c.pass_back-whole.result.bounds) lane)
          (up-to-all shop Back first last job 0 node is (are.each lane within) fresh refl) last_pass.bounds;
    }
