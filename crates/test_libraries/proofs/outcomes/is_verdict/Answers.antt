use Rattle.std.proofs.Common.{rules, ◌≡◌, ◌<◌, ◌+◌, ℕ, suc, List, [], ◌∷◌, ◌++◌, length, map, take}
use Rattle.std.proofs.Common.{slice_index_or, ap, sym, ◌∙◌, arith}
use Rattle.std.proofs.Math.Seq.{take-suc}
use Rattle.std.proofs.lemmas.List.{map-append}
use Rattle.test_libraries.proofs.outcomes.is_verdict.Goals as goal

-- one element more of both lists
one-more : {A B : Type 0} (f : A → List ℕ) (g : B → List ℕ) (xs : List A) (ys : List B) (i : ℕ) (x : A) (y : B) →
    i < length xs → i < length ys → map f (take i xs) ≡ map g (take i ys) →
    f (slice_index_or xs i x) ≡ g (slice_index_or ys i y) → map f (take (i + 1) xs) ≡ map g (take (i + 1) ys)
one-more f g xs ys i x y in-xs in-ys before at =
    let next : i + 1 ≡ suc i = omega arith in
    ap (λ k. map f (take k xs)) next
    ∙ ap (map f) (take-suc xs i x in-xs)
    ∙ map-append f (take i xs) (slice_index_or xs i x ∷ [])
    ∙ ap (λ first. first ++ (f (slice_index_or xs i x) ∷ [])) before
    ∙ ap (λ last. map g (take i ys) ++ (last ∷ [])) at
    ∙ sym (map-append g (take i ys) (slice_index_or ys i y ∷ []))
    ∙ sym (ap (map g) (take-suc ys i y in-ys))
    ∙ sym (ap (λ k. map g (take k ys)) next)

pub loop-index-preserved : goal.loop-index-preserved
loop-index-preserved c = record {
  same = one-more (λ tree. tree.items) (λ tree. tree.now) c.args.verdict.now.trees.items c.args.trees.now
      c.loop-index.index c.tree-item.result (record { ref_ptr = (0, 0); now = [] })
      (search rules) (search rules) c.loop-index.invariant.same (search rules);
}
