-- A list has no fault exactly where it is a sequence.
use Rattle.std.proofs.Common.{◌≡◌, ℕ, ◌+◌, ◌≤◌, Bool, true, false, not, ◌||◌, nat_eq, List, [], ◌∷◌, ◌++◌, length}
use Rattle.std.proofs.Common.{Option, Some, None, refl, ap, sym, ◌∙◌, subst, arith}
use Rattle.std.specs.Option.{option_or}
use Rattle.std.specs.Int.{is_in_range}
use Rattle.std.proofs.lemmas.Option.{none-some}
use Rattle.std.proofs.lemmas.Bool.{eq-eqb, false≢true}
use Rattle.std.proofs.lemmas.Bool.Decides.{nat_tests}
use Rattle.std.proofs.lemmas.List.Folds.{list_any-append}
use Rattle.std.proofs.lemmas.List.Elements.{All-nil, All-from_recursion, recursion_from_All}
use Rattle.flow_shop.specs.Refusals.{fault_unless, first_fault}
use Rattle.flow_shop.specs.Sequences.{AreJobs, has, AreDistinct, IsSequence}
use Rattle.flow_shop.specs.SequenceFaults.{place_fault, sequence_fault, but_memory}
use Rattle.flow_shop.specs.declared.sequence.SequenceFault.{SequenceFault}
use Rattle.flow_shop.specs.declared.sequence.SequenceFault.TheVariants.{Length, Job, Twice}
use Rattle.flow_shop.proofs.JobsLeft.{InRange, InRange-rest, distinct-rest, apart}
use Rattle.flow_shop.proofs.InstanceLemmas.{in-range, range-in}
use Rattle.flow_shop.proofs.Taken.{has-more, has-same}

-- the two tests of a job, and then the rest
abbrev tested : Bool → Bool → ℕ → Option SequenceFault → Option SequenceFault
tested in_range held place rest =
    option_or (first_fault (fault_unless in_range (Job place) ∷ fault_unless (not held) (Twice place) ∷ [])) rest

tested-named : (in_range held : Bool) (place : ℕ) (rest : Option SequenceFault) (fault : SequenceFault) →
    (rest ≡ Some fault → but_memory fault ≡ Some fault) → tested in_range held place rest ≡ Some fault →
    but_memory fault ≡ Some fault
tested-named true false place rest fault h e = h e
tested-named true true place rest fault h e = let is : Twice place ≡ fault = cc in
    subst (λ f. but_memory f ≡ Some f) is refl
tested-named false held place rest fault h e = let is : Job place ≡ fault = cc in
    subst (λ f. but_memory f ≡ Some f) is refl

-- the fault of a place is never that memory ran out
pub place-fault-named : (n : ℕ) (earlier jobs : List ℕ) (fault : SequenceFault) →
    place_fault n earlier jobs ≡ Some fault → but_memory fault ≡ Some fault
place-fault-named n earlier [] fault e = absurd (none-some fault e)
place-fault-named n earlier (job ∷ jobs) fault e =
    tested-named (is_in_range 1 n job) (has earlier job) (length earlier
    + 1) (place_fault n (earlier ++ job ∷ []) jobs) fault
    (place-fault-named n (earlier ++ job ∷ []) jobs fault) e

tested-none : (in_range held : Bool) (place : ℕ) (rest : Option SequenceFault) →
    tested in_range held place rest ≡ None → (in_range ≡ true) × (held ≡ false) × (rest ≡ None)
tested-none true false place rest e = (refl, refl, e)
tested-none true true place rest e = absurd (none-some (Twice place) (sym e))
tested-none false held place rest e = absurd (none-some (Job place) (sym e))

-- the fault of the job at a place: it is out of range, or taken; or the fault is a later one's
module _ (n : ℕ) (earlier rest : List ℕ) (job : ℕ) where
  abbrev later : Option SequenceFault
  later = place_fault n (earlier ++ job ∷ []) rest

  pub fault-twice : is_in_range 1 n job ≡ true → has earlier job ≡ true →
      place_fault n earlier (job ∷ rest) ≡ Some (Twice (length earlier + 1))
  fault-twice within held =
      ap (λ b. tested b (has earlier job) (length earlier + 1) later) within
      ∙ ap (λ b. tested true b (length earlier + 1) later) held

  pub fault-later : is_in_range 1 n job ≡ true → has earlier job ≡ false →
      place_fault n earlier (job ∷ rest) ≡ place_fault n (earlier ++ job ∷ []) rest
  fault-later within fresh =
      ap (λ b. tested b (has earlier job) (length earlier + 1) later) within
      ∙ ap (λ b. tested true b (length earlier + 1) later) fresh

-- no jobs are distinct jobs of any range
pub no-jobs : (n : ℕ) → AreJobs n []
no-jobs n = record { range = All-nil (λ job. (1 ≤ job) × (job ≤ n)); distinct = tt }

-- jobs without a fault: each is in range, none stands among the earlier ones, and they are distinct
pub record ArePlaced (n : ℕ) (earlier jobs : List ℕ) : Type 0 where
  pub range : InRange n jobs
  pub fresh : (job : ℕ) → has earlier job ≡ true → has jobs job ≡ false
  pub distinct : AreDistinct jobs

other-job : (earlier : List ℕ) (job other : ℕ) → has earlier job ≡ false → has earlier other ≡ true →
    nat_eq other job ≡ false
other-job earlier job other h held = split (nat_eq other job) refl
  where
    split : (b : Bool) → nat_eq other job ≡ b → nat_eq other job ≡ false
    split false e = e
    split true e = let same : other ≡ job = grind (arith, nat_tests) in
        absurd (false≢true (sym h ∙ sym (ap (has earlier) same) ∙ held))

pub placed : (n : ℕ) (earlier jobs : List ℕ) → place_fault n earlier jobs ≡ None → ArePlaced n earlier jobs
placed n earlier [] e = record { range = tt; fresh = λ job h. refl; distinct = tt }
placed n earlier (job ∷ jobs) e =
    let here = tested-none (is_in_range 1 n job) (has earlier job) (length earlier
    + 1) (place_fault n (earlier ++ job ∷ []) jobs) e in
    let rest = placed n (earlier ++ job ∷ []) jobs here.2 in
    record {
      range = (range-in n job here.0, rest.range);
      fresh = λ other held. ap (λ b. b || has jobs other) (other-job earlier job other here.1 held)
          ∙ rest.fresh other (has-more earlier job other held);
      distinct = (rest.fresh job (has-same earlier job), rest.distinct);
    }

-- a list without a fault has distinct jobs
pub no-fault-jobs : (n : ℕ) (jobs : List ℕ) → place_fault n [] jobs ≡ None → AreJobs n jobs
no-fault-jobs n jobs none =
    let each = placed n [] jobs none in
    record {
      range = All-from_recursion (λ job. (1 ≤ job) × (job ≤ n)) jobs each.range;
      distinct = each.distinct;
    }

-- where it has as many as there are, it is a sequence
pub fault-none-is : (n : ℕ) (jobs : List ℕ) → length jobs ≡ n → place_fault n [] jobs ≡ None → IsSequence n jobs
fault-none-is n jobs whole e = record { whole = whole; each = no-fault-jobs n jobs e }

apart-more : (earlier jobs : List ℕ) (job : ℕ) → has jobs job ≡ false →
    ((other : ℕ) → has earlier other ≡ true → has (job ∷ jobs) other ≡ false) → (other : ℕ) →
    has (earlier ++ job ∷ []) other ≡ true → has jobs other ≡ false
apart-more earlier jobs job apart fresh other h = split (has earlier other) refl
  where
    or_false : (a b : Bool) → (a || b) ≡ false → b ≡ false
    or_false true b e = absurd (false≢true (sym e))
    or_false false b e = e

    split : (b : Bool) → has earlier other ≡ b → has jobs other ≡ false
    split true held = or_false (nat_eq other job) (has jobs other) (fresh other held)
    split false held =
        let last : (nat_eq other job || false) ≡ true =
        sym (list_any-append (nat_eq other) earlier (job ∷ []) ∙ ap (λ b. b || has (job ∷ []) other) held) ∙ h in
        let same : other ≡ job = grind (arith, nat_tests) in
        ap (has jobs) same ∙ apart

no-fault : (n : ℕ) (earlier jobs : List ℕ) → InRange n jobs → AreDistinct jobs →
    ((job : ℕ) → has earlier job ≡ true → has jobs job ≡ false) → place_fault n earlier jobs ≡ None
no-fault n earlier [] range distinct fresh = refl
no-fault n earlier (job ∷ jobs) range distinct fresh =
    fault-later n earlier jobs job (in-range n job range.0.0 range.0.1) (new-job (has earlier job) refl)
    ∙ no-fault n (earlier ++ job ∷ []) jobs range.1 distinct.1 (apart-more earlier jobs job distinct.0 fresh)
  where
    or_false : (a b : Bool) → (a || b) ≡ false → a ≡ false
    or_false true b e = e
    or_false false b e = refl

    new-job : (b : Bool) → has earlier job ≡ b → has earlier job ≡ false
    new-job false e = e
    new-job true e = absurd (false≢true (sym (or_false (nat_eq job job) (has jobs job) (fresh job e))
        ∙ eq-eqb job job refl))

-- jobs behind others have no fault where all are distinct
pub jobs-no-fault : (n : ℕ) (earlier jobs : List ℕ) → AreJobs n (earlier ++ jobs) → place_fault n earlier jobs ≡ None
jobs-no-fault n earlier jobs are =
    no-fault n earlier jobs
    (InRange-rest n earlier jobs (recursion_from_All (λ job. (1 ≤ job) × (job ≤ n)) (earlier ++ jobs) are.range))
    (distinct-rest earlier jobs are.distinct) (λ job there. apart earlier jobs job are.distinct there)

-- and a sequence has none
pub is-fault-none : (n : ℕ) (jobs : List ℕ) → IsSequence n jobs → sequence_fault n jobs ≡ None
is-fault-none n jobs is =
    let range = recursion_from_All (λ job. (1 ≤ job) × (job ≤ n)) jobs is.each.range in
    ap (λ b. first_fault (fault_unless b Length ∷ place_fault n [] jobs ∷ [])) (eq-eqb (length jobs) n is.whole)
    ∙ ap (λ o. option_or o None) (no-fault n [] jobs range is.each.distinct (λ job h. absurd (false≢true h)))

-- where the length is right, the fault of the list is that of its first place at fault
pub sequence-fault-is : (n : ℕ) (jobs : List ℕ) (fault : SequenceFault) → length jobs ≡ n →
    place_fault n [] jobs ≡ Some fault → sequence_fault n jobs ≡ but_memory fault
sequence-fault-is n jobs fault whole e =
    ap (λ b. first_fault (fault_unless b Length ∷ place_fault n [] jobs ∷ [])) (eq-eqb (length jobs) n whole)
    ∙ ap (λ o. option_or o None) e
    ∙ sym (place-fault-named n [] jobs fault e)

tested-length : (b : Bool) (rest : Option SequenceFault) → first_fault (fault_unless b Length ∷ rest ∷ []) ≡ None →
    (b ≡ true) × (option_or rest None ≡ None)
tested-length true rest e = (refl, e)
tested-length false rest e = absurd (none-some Length (sym e))

or-none : (o : Option SequenceFault) → option_or o None ≡ None → o ≡ None
or-none None e = refl
or-none (Some fault) e = e

pub sequence-fault-none-is : (n : ℕ) (jobs : List ℕ) → sequence_fault n jobs ≡ None → IsSequence n jobs
sequence-fault-none-is n jobs e =
    let tests = tested-length (nat_eq (length jobs) n) (place_fault n [] jobs) e in
    let long : nat_eq (length jobs) n ≡ true = tests.0 in
    let whole : length jobs ≡ n = grind (arith, nat_tests) in
    fault-none-is n jobs whole (or-none (place_fault n [] jobs) tests.1)
