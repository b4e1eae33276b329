use Rattle.std.proofs.Common.{◌≡◌, ℕ, ◌+◌, ◌-◌, ◌/◌, slice_index, slice_index_or, sym, ◌∙◌, subst}
use Rattle.std.proofs.Common.{inl, inr, arith}
use Rattle.std.proofs.lemmas.Bool.{cases_lt}
use Rattle.flow_shop.specs.declared.end.End.TheVariants.{Front}
use Rattle.flow_nodes.specs.Vectors.{HasLane}
use Rattle.flow_nodes.specs.Open.{start_at}
use Rattle.flow_nodes.proofs.PassSteps.{front-begun, up-to-all}
use Rattle.flow_nodes.proofs.passes.whole_front.Goals as goal

pub returns : goal.returns
returns g c shop first last jobs node lane is paired are within fresh =
    let job : ℕ = slice_index jobs lane in
    let half : ℕ = c.known_or-machines.result / 2 in
    let begin = (front-begun g.V.Vector.list g.V.Vector.CAP g.V.Vector.WIDTH shop first last
    job lane node is (are.each lane within) c.begun.result (c.begun.ensures.free lane within)
    (c.begun.ensures.bounds lane within)) in
    let first_pass = c.pass_front-part.ensures.passed shop first last jobs node lane is paired are within begin in
    let last_pass = c.pass_front-whole.ensures.passed shop first last jobs node lane is paired are within first_pass in
    record {
      start = λ machine zero on.
          let place : ℕ = machine - 1 in
          let next : place + 1 ≡ machine = omega (arith, on.0) in
          subst (λ k. HasLane g.V.Vector.CAP g.V.Vector.WIDTH
          (g.V.Vector.list (slice_index_or c.pass_front-whole.new.starts place zero)) lane
          (start_at shop Front first last job k)) next (elim (cases_lt place half) [
            | inl low ↦
                subst (λ v. HasLane g.V.Vector.CAP g.V.Vector.WIDTH (g.V.Vector.list v) lane
                (start_at shop Front first last job (place + 1)))
                (sym (c.pass_front-whole.ensures.others place zero (inl low)))
                (c.pass_front-part.ensures.starts shop first last jobs node lane place zero is paired are within begin
                (omega arith) low)
            | inr high ↦
                c.pass_front-whole.ensures.starts shop first last jobs node lane place zero is paired are within first_pass
                high (omega (arith, c.known_or-machines.ensures, are.machines, on.0, on.1))
          ]);
      bound = subst (HasLane g.V.Vector.CAP g.V.Vector.WIDTH (g.V.Vector.list c.pass_front-whole.result.bounds) lane)
          (up-to-all shop Front first last job c.known_or-machines.result node is (are.each lane within) fresh
          (c.known_or-machines.ensures ∙ are.machines)) last_pass.bounds;
    }
