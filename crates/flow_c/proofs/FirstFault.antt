-- The first fault of lists that stand one behind the other.
use Rattle.std.proofs.Common.{◌≡◌, ap, subst, ◌∙◌, ℕ, suc, ◌+◌, ◌-◌, ◌*◌, ◌<◌, ◌≤◌, Bool, true, false, not}
use Rattle.std.proofs.Common.{List, [], ◌∷◌, ◌++◌, length, map, Option, Some, None, arith}
use Rattle.std.specs.Option.{option_or, option_map, IfSome}
use Rattle.std.specs.Int.{is_in_range}
use Rattle.std.specs.List.{range_with_len}
use Rattle.std.specs.Fork.{slice_chunk}
use Rattle.std.proofs.lemmas.List.{length-append}
use Rattle.flow_shop.specs.Refusals.{fault_unless, first_fault}
use Rattle.flow_shop.specs.Sequences.{has}
use Rattle.flow_shop.specs.SequenceFaults.{place_fault}
use Rattle.flow_shop.specs.declared.sequence.SequenceFault.{SequenceFault}
use Rattle.flow_shop.specs.declared.sequence.SequenceFault.TheVariants.{Job, Twice}
use Rattle.flow_c.specs.Places.{place_of_sequence}
use Rattle.flow_c.specs.Makespans.{moved, list_fault, lists_fault}

-- the two tests of a job, and then the rest
tested-placed : (in_range is_first : Bool) (earlier later : ℕ) (rest : Option SequenceFault) →
    IfSome rest (λ fault. place_of_sequence fault ≤ earlier + 1 + later) →
    IfSome (option_or (first_fault (
    fault_unless in_range (Job (earlier + 1)) ∷ fault_unless is_first (Twice (earlier + 1)) ∷ [])) rest)
    (λ fault. place_of_sequence fault ≤ earlier + suc later)
tested-placed false is_first earlier later rest within = omega arith
tested-placed true false earlier later rest within = omega arith
tested-placed true true earlier later None within = within
tested-placed true true earlier later (Some fault) within = omega arith

-- the place of a fault of some jobs behind earlier ones is one of theirs
pub placed : (n : ℕ) (earlier jobs : List ℕ) →
    IfSome (place_fault n earlier jobs) (λ fault. place_of_sequence fault ≤ length earlier + length jobs)
placed n earlier [] = search
placed n earlier (job ∷ jobs) =
    tested-placed (is_in_range 1 n job) (not (has earlier job)) (length earlier) (length jobs)
    (place_fault n (earlier ++ job ∷ []) jobs)
    (rw length-append at (placed n (earlier ++ job ∷ []) jobs))

-- that of a fault
pub placed-at : (n : ℕ) (jobs : List ℕ) (fault : SequenceFault) → place_fault n [] jobs ≡ Some fault →
    place_of_sequence fault ≤ length jobs
placed-at n jobs fault is =
    let none : List ℕ = [] in
    let within : place_of_sequence fault ≤ length none + length jobs =
    subst (λ test. IfSome test (λ own. place_of_sequence own ≤ length none + length jobs)) is (placed n none jobs) in
    omega arith

-- the first fault from a list on
abbrev pub later_fault : ℕ → List ℕ → ℕ → ℕ → Option SequenceFault
later_fault n lists index count = first_fault (map (list_fault n lists) (range_with_len index (count - index)))

-- it is that of the list, or else a later one
one-more : (n : ℕ) (lists : List ℕ) (index count : ℕ) → index < count → later_fault n lists index count
    ≡ option_or (list_fault n lists index) (later_fault n lists (index + 1) count)
one-more n lists index count below =
    let left : count - index ≡ suc (count - (index + 1)) = omega arith in
    ap (λ some. first_fault (map (list_fault n lists) (range_with_len index some))) left

-- a list without a fault
pub passed : (n : ℕ) (lists : List ℕ) (index count : ℕ) → index < count →
    place_fault n [] (slice_chunk lists n index) ≡ None →
    later_fault n lists (index + 1) count ≡ later_fault n lists index count
passed n lists index count below none =
    let here = one-more n lists index count below
    ∙ ap (λ test. option_or (option_map (moved (index * n)) test) (later_fault n lists (index + 1) count)) none in cc

-- a list with a fault
pub found : (n : ℕ) (lists : List ℕ) (index count : ℕ) (fault : SequenceFault) → index < count →
    place_fault n [] (slice_chunk lists n index) ≡ Some fault →
    later_fault n lists index count ≡ Some (moved (index * n) fault)
found n lists index count fault below is =
    one-more n lists index count below
    ∙ ap (λ test. option_or (option_map (moved (index * n)) test) (later_fault n lists (index + 1) count)) is

-- no list is left
pub ended : (n : ℕ) (lists : List ℕ) (count : ℕ) → later_fault n lists count count ≡ None
ended n lists count =
    let none : count - count ≡ 0 = omega arith in
    ap (λ some. first_fault (map (list_fault n lists) (range_with_len count some))) none

-- all lists are left
pub begun : (n : ℕ) (lists : List ℕ) (count : ℕ) → later_fault n lists 0 count ≡ lists_fault n lists count
begun n lists count =
    let all : count - 0 ≡ count = omega arith in
    ap (λ some. first_fault (map (list_fault n lists) (range_with_len 0 some))) all
