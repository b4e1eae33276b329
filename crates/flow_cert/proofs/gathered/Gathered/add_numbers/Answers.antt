use Rattle.std.proofs.Common.{◌≡◌, ◌<◌, ◌++◌, List, ℕ, [], ◌∷◌, suc, length, take, drop, decimal, get_or, arith}
use Rattle.std.proofs.Common.{append_assoc, refl, sym, subst, ◌∙◌}
use Rattle.std.proofs.lemmas.List.{take_all}
use Rattle.std.proofs.lemmas.Result.{on_ok_weaker, on_err_weaker}
use Rattle.flow_check.specs.TextLines.{line, spaced}
use Rattle.flow_cert.specs.internal.Gathered.{HandsOn}
use Rattle.flow_cert.proofs.HandedOn.{on-err, then-hands, then-stops, stops-within}
use Rattle.flow_cert.proofs.WrittenLines.{rest_behind, at-number, one-more-number, gap-more}
use Rattle.flow_cert.proofs.gathered.Gathered.add_numbers.Goals as goal

pub returns-in_err-add-clause-err : goal.returns-in_err-add-clause-err
returns-in_err-add-clause-err g c =
    let ns : List ℕ = c.args.numbers.now in
    let i : ℕ = c.loop-number.number-index in
    let n : ℕ = get_or ns i 0 in
    let gap : List ℕ = c.loop-number.gap.now in
    let done : List ℕ = spaced (take i ns) ++ gap in
    let rest : List ℕ = rest_behind (drop (suc i) ns) ++ 10 ∷ [] in
    let below : i < length ns = omega arith in
    let text : line (spaced ns) ≡ done ++ (decimal n ++ rest) =
    at-number ns i n gap below refl c.loop-number.invariant.gap ∙ append_assoc done (decimal n) rest in
    on-err c.from_residual.result
    (stops-within _ _ c.args.self.now done (decimal n ++ rest) (line (spaced ns)) text
    (then-stops _ gap c.loop-number.invariant.handed c.in_err-add.ensures.err))

pub returns-in_err-add_number-clause-err : goal.returns-in_err-add_number-clause-err
returns-in_err-add_number-clause-err g c =
    let ns : List ℕ = c.args.numbers.now in
    let i : ℕ = c.loop-number.number-index in
    let n : ℕ = c.from.result in
    let gap : List ℕ = c.loop-number.gap.now in
    let done : List ℕ = spaced (take i ns) ++ gap in
    let rest : List ℕ = rest_behind (drop (suc i) ns) ++ 10 ∷ [] in
    let below : i < length ns = omega arith in
    let is : n ≡ get_or ns i 0 = c.from.ensures in
    on-err c.from_residual-in_err-add_number.result
    (stops-within _ _ c.args.self.now (done
    ++ decimal n) rest (line (spaced ns)) (at-number ns i n gap below is c.loop-number.invariant.gap)
    (then-stops _ (decimal n)
    (then-hands c.loop-number.invariant.handed c.in_ok-add.ensures.ok) c.in_err-add_number.ensures.err))

pub loop-number-preserved : goal.loop-number-preserved
loop-number-preserved g c =
    let ns : List ℕ = c.args.numbers.now in
    let i : ℕ = c.loop-number.number-index in
    let n : ℕ = c.from.result in
    let gap : List ℕ = c.loop-number.gap.now in
    let done : List ℕ = spaced (take i ns) ++ gap in
    let below : i < length ns = omega arith in
    let is : n ≡ get_or ns i 0 = c.from.ensures in
    record {
      works = c.in_ok-add_number.ensures.failed;
      gap = gap-more ns i below;
      handed = subst (λ t. HandsOn (g.S.Sink.taken c.args.out.now)
          (g.S.Sink.taken c.add_number.new.out) c.args.self.now t c.add_number.new.self)
          (sym (one-more-number ns i n gap below is c.loop-number.invariant.gap))
          (then-hands (then-hands c.loop-number.invariant.handed c.in_ok-add.ensures.ok) c.in_ok-add_number.ensures.ok);
    }

pub returns-clause-ok : goal.returns-clause-ok
returns-clause-ok g c =
    let ns : List ℕ = c.args.numbers.now in
    let all : take c.loop-number.number-index ns ≡ ns = take_all c.loop-number.number-index ns (omega arith) in
    let handed = rw all at c.loop-number.invariant.handed in
    on_ok_weaker c.add-2.result (then-hands handed) c.add-2.ensures.ok

pub returns-clause-err : goal.returns-clause-err
returns-clause-err g c =
    let ns : List ℕ = c.args.numbers.now in
    let all : take c.loop-number.number-index ns ≡ ns = take_all c.loop-number.number-index ns (omega arith) in
    let handed = rw all at c.loop-number.invariant.handed in
    on_err_weaker c.add-2.result (then-stops _ (10 ∷ []) handed) c.add-2.ensures.err
