-- A text has one string of directions at most as its beginning.
use Rattle.std.proofs.Common.{◌≡◌, ℕ, zero, suc, List, [], ◌∷◌, ◌++◌, length, refl, ap, sym, ◌∙◌, subst}
use Rattle.std.proofs.Common.{inl, inr, arith, append_assoc}
use Rattle.std.specs.List.{AllZip, concat}
use Rattle.flow_shop.specs.Shop.{Shop}
use Rattle.flow_shop.specs.Sequences.{jobs_left}
use Rattle.flow_shop.specs.declared.end.End.{End}
use Rattle.flow_shop.specs.declared.end.End.TheVariants.{Front, Back}
use Rattle.flow_shop.specs.Directions.{sign, first_with, last_with, ProvesWith, DirectionsAreOne}

-- of two texts that begin with such a string and go on, where the texts are the same, so are the strings
abbrev One : (List ℕ → Type 0) → Type 0
One c = (one other rest others : List ℕ) → c one → c other → one ++ rest ≡ other ++ others →
    (one ≡ other) × (rest ≡ others)

each-one : (c : ℕ → List ℕ → Type 0) → ((job : ℕ) → One (c job)) → (jobs : List ℕ) (parts others : List (List ℕ))
    (rest rest' : List ℕ) → AllZip c jobs parts → AllZip c jobs others →
    concat parts ++ rest ≡ concat others ++ rest' → (concat parts ≡ concat others) × (rest ≡ rest')
each-one c one [] [] [] rest rest' p q e = (refl, e)
each-one c one [] [] (b ∷ more_b) rest rest' p q e = absurd q
each-one c one [] (a ∷ more_a) others rest rest' p q e = absurd p
each-one c one (job ∷ jobs) [] others rest rest' p q e = absurd p
each-one c one (job ∷ jobs) (a ∷ more_a) [] rest rest' p q e = absurd q
each-one c one (job ∷ jobs) (a ∷ more_a) (b ∷ more_b) rest rest' p q e =
    let here = one job a b (concat more_a ++ rest) (concat more_b ++ rest') p.0 q.0
    (sym (append_assoc a (concat more_a) rest) ∙ e ∙ append_assoc b (concat more_b) rest') in
    let more = each-one c one jobs more_a more_b rest rest' p.1 q.1 here.1 in
    (ap (λ xs. xs ++ concat more_a) here.0 ∙ ap (λ xs. b ++ xs) more.0, more.1)

same-sign : (end other : End) → sign end ≡ sign other → end ≡ other
same-sign Front Front e = refl
same-sign Front Back e = absurd (omega arith)
same-sign Back Front e = absurd (omega arith)
same-sign Back Back e = refl

module _ (shop : Shop) (threshold : ℕ) where
  one-string : (left : ℕ) (first last : List ℕ) → One (ProvesWith shop threshold left first last)
  one-string zero first last one other rest others p q e =
      let same : one ≡ other = p.0 ∙ sym q.0 in
      (same, sym (ap (λ xs. xs ++ rest) p.0) ∙ e ∙ ap (λ xs. xs ++ others) q.0)
  one-string (suc left) first last one other rest others (inl p) (inl q) e =
      (p.0 ∙ sym q.0, sym (ap (λ xs. xs ++ rest) p.0) ∙ e ∙ ap (λ xs. xs ++ others) q.0)
  one-string (suc left) first last one other rest others (inl p) (inr q) e = absurd (omega (arith, p.1, q.2))
  one-string (suc left) first last one other rest others (inr p) (inl q) e = absurd (omega (arith, p.2, q.1))
  one-string (suc left) first last one other rest others (inr (end, parts, low, is, each))
      (inr (end', parts', low', is', each')) e =
      let whole : sign end ∷ (concat parts ++ rest) ≡ sign end' ∷ (concat parts' ++ others) =
      sym (ap (λ xs. xs ++ rest) is) ∙ e ∙ ap (λ xs. xs ++ others) is' in
      let signs : sign end ≡ sign end' = cc in
      let behind : concat parts ++ rest ≡ concat parts' ++ others = cc in
      let same = same-sign end end' signs in
      let c : End → ℕ → List ℕ → Type 0 =
      λ end job part. ProvesWith shop threshold left (first_with end first job) (last_with end last job) part in
      let more = each-one (c end)
      (λ job. one-string left (first_with end first job) (last_with end last job))
      (jobs_left shop.jobs (first ++ last)) parts parts' rest others each
      (subst (λ x. AllZip (c x) (jobs_left shop.jobs (first ++ last)) parts') (sym same) each') behind in
      (is ∙ ap (λ s. s ∷ concat parts) signs ∙ ap (λ xs. sign end' ∷ xs) more.0 ∙ sym is', more.1)

pub directions_are_one : DirectionsAreOne
directions_are_one shop threshold first last one other rest others p q e =
    one-string shop threshold (length (jobs_left shop.jobs (first ++ last))) first last one other rest others p q e
