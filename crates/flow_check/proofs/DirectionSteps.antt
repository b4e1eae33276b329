-- How the walk goes through the children of a node.
use Rattle.std.proofs.Common.{◌≡◌, ◌≢◌, ℕ, zero, suc, ◌+◌, ◌-◌, ◌<◌, ◌≤◌, cond, nat_lt}
use Rattle.std.proofs.Common.{List, [], ◌∷◌, ◌++◌, drop, Some, None, Ok, Err}
use Rattle.std.proofs.Common.{refl, ap, sym, ◌∙◌, inl, inr, arith}
use Rattle.std.specs.List.{filter}
use Rattle.std.proofs.lemmas.Bool.{cases_lt, le-leb, lt-leb, lt-ltb, le-ltb}
use Rattle.std.proofs.lemmas.List.{drop-drop}
use Rattle.flow_shop.specs.Shop.{Shop}
use Rattle.flow_shop.specs.Sequences.{jobs_left}
use Rattle.flow_shop.specs.declared.end.End.{End}
use Rattle.flow_shop.specs.Ends.{end_bound}
use Rattle.flow_shop.specs.Directions.{first_with, last_with}
use Rattle.flow_nodes.specs.Groups.{child_bound}
use Rattle.flow_check.specs.declared.fault.CheckFault.TheVariants.{Low, Tree}
use Rattle.flow_check.specs.internal.ReadTrees.{then_read, each_tree}
use Rattle.flow_check.specs.internal.ReadDirections.{Reading, first_end, read_at, read_node}

read-same : (r : Reading) (one other : List ℕ → Reading) → ((text : List ℕ) → one text ≡ other text) →
    then_read r one ≡ then_read r other
read-same (Ok rest) one other same = same rest
read-same (Err fault) one other same = refl

-- what is read of the children of a node
module _ (shop : Shop) (threshold : ℕ) where
  abbrev pub children_read : End → ℕ → List ℕ → List ℕ → List ℕ → List ℕ → Reading
  children_read end left first last jobs text =
      each_tree (λ job. read_node shop threshold (left - 1) (first_with end first job) (last_with end last job)) jobs text

  pub read-reached : (left : ℕ) (first last text : List ℕ) → threshold ≤ end_bound shop first last →
      read_node shop threshold left first last text ≡ Ok text
  read-reached zero first last text high =
      ap (λ b. cond b (Ok text) (Err (Low 5))) (le-leb threshold (end_bound shop first last) high)
  read-reached (suc left) first last text high =
      ap (λ b. cond b (Ok text)
      (read_at
      (λ end. each_tree (λ job. read_node shop threshold left (first_with end first job) (last_with end last job))
      (jobs_left shop.jobs (first ++ last)))
      (first_end text) (drop 1 text))) (le-leb threshold (end_bound shop first last) high)

  pub read-low : (left : ℕ) (first last text : List ℕ) → end_bound shop first last < threshold → left ≡ 0 →
      read_node shop threshold left first last text ≡ Err (Low 5)
  read-low zero first last text low e =
      ap (λ b. cond b (Ok text) (Err (Low 5))) (lt-leb threshold (end_bound shop first last) low)
  read-low (suc left) first last text low e = absurd (omega arith)

  read-below : (left : ℕ) (first last text : List ℕ) → end_bound shop first last < threshold →
      read_node shop threshold (suc left) first last text
      ≡ read_at
      (λ end. each_tree (λ job. read_node shop threshold left (first_with end first job) (last_with end last job))
      (jobs_left shop.jobs (first ++ last)))
      (first_end text) (drop 1 text)
  read-below left first last text low =
      ap (λ b. cond b (Ok text)
      (read_at
      (λ end. each_tree (λ job. read_node shop threshold left (first_with end first job) (last_with end last job))
      (jobs_left shop.jobs (first ++ last)))
      (first_end text) (drop 1 text))) (lt-leb threshold (end_bound shop first last) low)

  pub read-sign : (left : ℕ) (first last text : List ℕ) → end_bound shop first last < threshold → left ≢ 0 →
      first_end text ≡ None → read_node shop threshold left first last text ≡ Err (Tree 5)
  read-sign zero first last text low some none = absurd (some refl)
  read-sign (suc left) first last text low some none =
      read-below left first last text low
      ∙ ap (λ o. read_at
      (λ end. each_tree (λ job. read_node shop threshold left (first_with end first job) (last_with end last job))
      (jobs_left shop.jobs (first ++ last))) o (drop 1 text)) none

  pub read-children : (left : ℕ) (first last text : List ℕ) (start : ℕ) (end : End) →
      end_bound shop first last < threshold → left ≢ 0 → first_end (drop start text) ≡ Some end →
      read_node shop threshold left first last (drop start text)
      ≡ children_read end left first last (jobs_left shop.jobs (first ++ last)) (drop (start + 1) text)
  read-children zero first last text start end low some is = absurd (some refl)
  read-children (suc left) first last text start end low some is =
      let next : left ≡ suc left - 1 = omega arith in
      read-below left first last (drop start text) low
      ∙ ap (λ o. read_at
      (λ end. each_tree (λ job. read_node shop threshold left (first_with end first job) (last_with end last job))
      (jobs_left shop.jobs (first ++ last))) o (drop 1 (drop start text))) is
      ∙ ap (λ t. each_tree (λ job. read_node shop threshold left (first_with end first job) (last_with end last job))
      (jobs_left shop.jobs (first ++ last)) t) (drop-drop 1 start text)
      ∙ ap (λ l. each_tree (λ job. read_node shop threshold l (first_with end first job) (last_with end last job))
      (jobs_left shop.jobs (first ++ last)) (drop (start + 1) text)) next

  -- children that are not below the threshold read nothing
  pub children-filter : (end : End) (left : ℕ) (first last jobs text : List ℕ) →
      children_read end left first last jobs text
      ≡ children_read end left first last
      (filter (λ job. nat_lt (child_bound shop end first last job) threshold) jobs) text
  children-filter end left first last [] text = refl
  children-filter end left first last (job ∷ jobs) text =
      let rest : List ℕ = filter (λ job. nat_lt (child_bound shop end first last job) threshold) jobs in
      let read : ℕ → List ℕ → Reading =
      λ job. read_node shop threshold (left - 1) (first_with end first job) (last_with end last job) in
      elim (cases_lt (child_bound shop end first last job) threshold) [
        | inl below ↦
            read-same (read job text) (each_tree read jobs) (each_tree read rest)
            (children-filter end left first last jobs)
            ∙ ap (λ b. each_tree read (cond b (job ∷ rest) rest) text)
            (sym (lt-ltb (child_bound shop end first last job) threshold below))
        | inr above ↦
            ap (λ r. then_read r (each_tree read jobs))
            (read-reached (left - 1) (first_with end first job) (last_with end last job) text above)
            ∙ children-filter end left first last jobs text
            ∙ ap (λ b. each_tree read (cond b (job ∷ rest) rest) text)
            (sym (le-ltb (child_bound shop end first last job) threshold above))
      ]
