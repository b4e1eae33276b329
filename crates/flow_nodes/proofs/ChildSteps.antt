-- The bounds of children, machine by machine from either end.
use Rattle.std.proofs.Common.{◌≡◌, ℕ, suc, ◌+◌, ◌-◌, ◌<◌, ◌≤◌, max, false, List, [], ◌∷◌, ◌++◌, map, slice_index}
use Rattle.std.proofs.Common.{refl, ap, ◌∙◌, arith}
use Rattle.std.specs.List.{range_with_len}
use Rattle.flow_shop.specs.Shop.{Shop, numbers, time, AreOf}
use Rattle.flow_shop.specs.Least.{greatest}
use Rattle.flow_shop.specs.Sequences.{has}
use Rattle.flow_shop.specs.Ends.{front, back, end_bound_at}
use Rattle.flow_shop.specs.declared.end.End.{End}
use Rattle.flow_shop.specs.declared.end.End.TheVariants.{Front, Back}
use Rattle.flow_shop.proofs.Ranges.{greatest-next, greatest-same}
use Rattle.flow_shop.proofs.EndSteps.{front_by_recurrence, back-past, back-is, sum-child}
use Rattle.flow_nodes.specs.declared.node.Node.{Node}
use Rattle.flow_nodes.specs.Nodes.{IsJob, IsNode, work}
use Rattle.flow_nodes.specs.Groups.{child_bound}
use Rattle.flow_nodes.specs.internal.Children.{front_child_at, back_child_at, greatest_at}
use Rattle.flow_nodes.proofs.KeptNodes.{end-bound-is}

greatest-before : (f : ℕ → ℕ) (k m : ℕ) → k ≤ m →
    greatest (map f (numbers k m)) ≡ max (greatest (map f (numbers (k + 1) m))) (f k)
greatest-before f k m high =
    let some : m + 1 - k ≡ suc (m - k) = omega arith in
    let rest : m - k ≡ m + 1 - (k + 1) = omega arith in
    ap (λ n. greatest (map f (range_with_len k n))) some
    ∙ ap (λ n. max (f k) (greatest (map f (range_with_len (k + 1) n)))) rest
    ∙ omega arith

greatest-none : (f : ℕ → ℕ) (m : ℕ) → greatest (map f (numbers (m + 1) m)) ≡ 0
greatest-none f m =
    let none : m + 1 - (m + 1) ≡ 0 = omega arith in
    ap (λ n. greatest (map f (range_with_len (m + 1) n))) none

-- what a list of numbers of machines has at a place
pub are-at : (shop : Shop) (value : ℕ → ℕ) (xs : List ℕ) (place : ℕ) → AreOf shop value xs → place < shop.machines →
    slice_index xs place ≡ value (place + 1)
are-at shop value xs place are below =
    let same : place ≡ place + 1 - 1 = omega arith in
    ap (slice_index xs) same ∙ are (place + 1) (omega arith) (omega arith)

module _ (shop : Shop) (first last : List ℕ) (job : ℕ) (node : Node) (is : IsNode shop first last node)
    (range : IsJob shop job) where
  -- at the front
  pub front-none : front shop (first ++ job ∷ []) 0 ≡ 0
  front-none = (front_by_recurrence shop first job 0 is.first_jobs range.0 range.1).0

  pub front-next : (place near : ℕ) → place < shop.machines → near ≡ slice_index node.front place →
      max (front shop (first ++ job ∷ []) place) near + time shop job (place + 1)
      ≡ front shop (first ++ job ∷ []) (place + 1)
  front-next place near below near-is =
      omega (
        arith,
        near-is,
        (front_by_recurrence shop first job place is.first_jobs range.0 range.1).1,
        are-at shop (front shop first) node.front place is.fronts below,
      )

  pub front-greatest : (place near jobs far : ℕ) → place < shop.machines → near ≡ slice_index node.front place →
      jobs ≡ slice_index node.work place → far ≡ slice_index node.back place →
      max (greatest (map (front_child_at shop first last job) (numbers 1 place)))
      (max (front shop (first ++ job ∷ []) place) near + (jobs + far))
      ≡ greatest (map (front_child_at shop first last job) (numbers 1 (place + 1)))
  front-greatest place near jobs far below near-is jobs-is far-is =
      let less : place + 1 - 1 ≡ place = omega arith in
      omega (
        arith,
        near-is,
        jobs-is,
        far-is,
        greatest-next (front_child_at shop first last job) place,
        ap (front shop (first ++ job ∷ [])) less,
        are-at shop (front shop first) node.front place is.fronts below,
        are-at shop (back shop last) node.back place is.backs below,
        are-at shop (work shop (first ++ last)) node.work place is.works below,
      )

  -- at the back
  pub back-none : back shop (job ∷ last) (shop.machines + 1) ≡ 0
  back-none = back-past shop last job (shop.machines + 1) (omega arith)

  pub back-next : (machine near : ℕ) → 1 ≤ machine → machine ≤ shop.machines →
      near ≡ slice_index node.back (machine - 1) →
      max (back shop (job ∷ last) (machine + 1)) near + time shop job machine ≡ back shop (job ∷ last) machine
  back-next machine near low high near-is =
      omega (arith, near-is, back-is shop last job machine range.0 range.1 high, is.backs machine low high)

  pub back-greatest-none :
      greatest (map (back_child_at shop first last job) (numbers (shop.machines + 1) shop.machines)) ≡ 0
  back-greatest-none = greatest-none (back_child_at shop first last job) shop.machines

  pub back-greatest : (machine near jobs far : ℕ) → 1 ≤ machine → machine ≤ shop.machines →
      near ≡ slice_index node.back (machine - 1) → jobs ≡ slice_index node.work (machine - 1) →
      far ≡ slice_index node.front (machine - 1) →
      max (greatest (map (back_child_at shop first last job) (numbers (machine + 1) shop.machines)))
      (max (back shop (job ∷ last) (machine + 1)) near + (jobs + far))
      ≡ greatest (map (back_child_at shop first last job) (numbers machine shop.machines))
  back-greatest machine near jobs far low high near-is jobs-is far-is =
      omega (
        arith,
        near-is,
        jobs-is,
        far-is,
        greatest-before (back_child_at shop first last job) machine shop.machines high,
        is.fronts machine low high,
        is.backs machine low high,
        is.works machine low high,
      )

  -- where the job is left, they are the bounds of the child
  front-child : has (first ++ last) job ≡ false → (machine : ℕ) → 1 ≤ machine → machine ≤ shop.machines →
      front_child_at shop first last job machine ≡ end_bound_at shop (first ++ job ∷ []) last machine
  front-child fresh machine low high =
      let next : machine - 1 + 1 ≡ machine = omega arith in
      omega (
        arith,
        (front_by_recurrence shop first job (machine - 1) is.first_jobs range.0 range.1).1,
        ap (front shop (first ++ job ∷ [])) next,
        ap (front shop first) next,
        ap (time shop job) next,
        sum-child (λ job. time shop job machine) shop.jobs Front first last job range.0 range.1 fresh,
      )

  back-child : has (first ++ last) job ≡ false → (machine : ℕ) → 1 ≤ machine → machine ≤ shop.machines →
      back_child_at shop first last job machine ≡ end_bound_at shop first (job ∷ last) machine
  back-child fresh machine low high =
      omega (
        arith,
        back-is shop last job machine range.0 range.1 high,
        sum-child (λ job. time shop job machine) shop.jobs Back first last job range.0 range.1 fresh,
      )

  pub greatest-is-bound : (end : End) → has (first ++ last) job ≡ false →
      greatest_at shop end first last job ≡ child_bound shop end first last job
  greatest-is-bound Front fresh =
      greatest-same (front_child_at shop first last job) (end_bound_at shop (first ++ job ∷ []) last) shop.machines
      (front-child fresh)
      ∙ end-bound-is shop (first ++ job ∷ []) last shop.machines refl
  greatest-is-bound Back fresh =
      greatest-same (back_child_at shop first last job) (end_bound_at shop first (job ∷ last)) shop.machines
      (back-child fresh)
      ∙ end-bound-is shop first (job ∷ last) shop.machines refl
