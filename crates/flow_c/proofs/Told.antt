-- What is told of a search.
use Rattle.std.proofs.Common.{◌≡◌, ◌⊎◌, inl, inr, sym, ◌∙◌, subst, ap, ℕ, ◌+◌, ◌<◌, ◌≤◌, List, [], ◌++◌, length, take}
use Rattle.std.proofs.Common.{refl, None, drop, arith, length-append}
use Rattle.std.proofs.lemmas.List.Elements.{All-weaker}
use Rattle.flow_shop.specs.Shop.{Shop, IsWithinLimits}
use Rattle.flow_shop.specs.SequenceFaults.{place_fault}
use Rattle.flow_shop.specs.Sequences.{AreJobs}
use Rattle.flow_shop.specs.Directions.{ProvesFrom}
use Rattle.flow_shop.proofs.JobLists.{few-jobs}
use Rattle.flow_directions.specs.Search.{IsPart}
use Rattle.flow_directions.specs.declared.found.Found.TheVariants as found
use Rattle.flow_directions.specs.declared.found.Part.{Part}
use Rattle.flow_directions.specs.declared.found.Part.TheVariants.{Node, Children}
use Rattle.flow_directions.proofs.FoundSteps.{found-shows}
use Rattle.flow_directions.proofs.SearchProves.{directions_prove}
use Rattle.flow_c.specs.Faults.{numbers_fault, room_fault}
use Rattle.flow_c.specs.Searches.{proved, below, most_rest, IsCome, IsTold, IsSearched, IsCounted, IsProvedBy, IsBelow}
use Rattle.flow_c.specs.Searches.{IsRestTooLong, prove_fault}
use Rattle.flow_c.specs.internal.Parts.{IsShort, LeavesShort, IsToldBy, IsComeTo}
use Rattle.flow_c.specs.declared.shop.ShopNumbers.{ShopNumbers}
use Rattle.flow_c.specs.declared.node.NodeLists.{NodeLists}
use Rattle.flow_c.specs.declared.came.Came.{Came}
use Rattle.flow_c.specs.declared.came.Came.TheVariants.{Proved, Below, Rest}
use Rattle.flow_c.specs.declared.came.Told.{Told}
use Rattle.flow_c.specs.declared.fault.Fault.{Fault}
use Rattle.flow_c.specs.declared.fault.Fault.TheVariants.{Room}
use Rattle.flow_c.proofs.PartSizes.{rest-size}

-- the lists of a part are short
short-part : (shop : Shop) → IsWithinLimits shop → (part : Part) → IsPart shop part → IsShort part
short-part shop limits (Node first last) is =
    let all : length first.items + length last.items ≤ shop.jobs =
    subst (λ n. n ≤ shop.jobs) (length-append first.items last.items)
    (few-jobs shop.jobs (first.items ++ last.items) is) in
    (omega (arith, all, limits.jobs), omega (arith, all, limits.jobs))
short-part shop limits (Children first last end jobs) is =
    let all : length first.items + length last.items ≤ shop.jobs =
    subst (λ n. n ≤ shop.jobs) (length-append first.items last.items)
    (few-jobs shop.jobs (first.items ++ last.items) is.0) in
    let own : length jobs.items ≤ shop.jobs = few-jobs shop.jobs jobs.items is.1 in
    (omega (arith, all, limits.jobs), omega (arith, all, limits.jobs), omega (arith, own, limits.jobs))

-- and so are those of the parts that a search leaves
pub leaves-short : (shop : Shop) (threshold budget : ℕ) (node : NodeLists) (text : List ℕ) → IsWithinLimits shop →
    (came : Came) → IsCome shop threshold budget node text came → LeavesShort came
leaves-short shop threshold budget node text limits Proved is = tt
leaves-short shop threshold budget node text limits (Below sequence makespan) is = tt
leaves-short shop threshold budget node text limits (Rest parts) is =
    All-weaker (IsPart shop) IsShort (short-part shop limits) parts.items is.3

-- parts that have no room are left
pub come-too-long : (shop : Shop) (threshold budget : ℕ) (node : NodeLists) (entries : ℕ) (fault : Fault)
    (text : List ℕ) (came : Came) (told : Told) → IsCome shop threshold budget node text came → IsToldBy came told →
    (fault ≡ Room (length told.rest.items)) × (entries < length told.rest.items) →
    IsRestTooLong shop threshold budget node entries fault
come-too-long shop threshold budget node entries fault text Proved told is by long =
    absurd (omega (arith, long.1, ap length by.0.2))
come-too-long shop threshold budget node entries fault text (Below sequence makespan) told is by long =
    absurd (omega (arith, long.1, ap length by.0.2))
come-too-long shop threshold budget node entries fault text (Rest parts) told is by long = (
  text,
  parts,
  is,
  long.0 ∙ ap (λ xs. Room (length xs)) by.0.2,
  subst (λ xs. entries < length xs) by.0.2 long.1,
  rest-size shop threshold budget node text parts is,
)

-- with so many entries none is left without room
pub never-too-long : (shop : Shop) (threshold budget : ℕ) (node : NodeLists) (entries : ℕ) (fault : Fault) →
    IsRestTooLong shop threshold budget node entries fault → most_rest shop.jobs ≤ entries → ⊥
never-too-long shop threshold budget node entries fault long many = omega (arith, long.4, long.5, many)

-- a list that is put at the front of room, or nothing, leaves what stands behind it
pub kept-behind : (n : ℕ) (jobs old new : List ℕ) → (jobs ≡ []) ⊎ (length jobs ≡ n) →
    drop (length jobs) new ≡ drop (length jobs) old → drop n new ≡ drop n old
kept-behind n jobs old new (inl none) kept =
    ap (drop n) (subst (λ xs. drop (length xs) new ≡ drop (length xs) old) none kept)
kept-behind n jobs old new (inr whole) kept = subst (λ k. drop k new ≡ drop k old) whole kept

module _ (shop : Shop) (threshold budget : ℕ) (node : NodeLists) (text : List ℕ)
    (are : AreJobs shop.jobs (node.first.now ++ node.last.now)) where
  -- a sequence that is reached is below the threshold
  reached-below : (sequence : List ℕ) (makespan : ℕ) →
      IsCome shop threshold budget node text (Below sequence makespan) → IsBelow shop threshold node sequence makespan
  reached-below sequence makespan is =
      found-shows shop threshold budget node.first.now node.last.now
      (found.Below sequence makespan (length text)) are is.0

  -- it has no sequence, or a whole one
  pub come-whole : (told : Told) → IsComeTo shop threshold budget node text told →
      (told.sequence.items ≡ []) ⊎ (length told.sequence.items ≡ shop.jobs)
  come-whole told (Proved, is, by) = inl by.1
  come-whole told (Below sequence makespan, is, by) =
      inr (ap length by.1 ∙ (reached-below sequence makespan is).0.2.whole)
  come-whole told (Rest parts, is, by) = inl by.1

  -- what is told has room
  pub come-fits : (told : Told) → IsComeTo shop threshold budget node text told →
      length told.sequence.items ≤ shop.jobs
  come-fits told come = elim (come-whole told come) [
    | inl none ↦ omega (arith, ap length none)
    | inr whole ↦ omega (arith, whole)
  ]

  -- the sequence that is told stays as it was where it is put in room
  told-in-room : (came : Came) (told : Told) (room : List ℕ) → IsToldBy came told →
      take (length told.sequence.items) room ≡ told.sequence.items →
      IsTold came told.found room told.makespan told.rest.items
  told-in-room Proved told room by put = by.0
  told-in-room (Below sequence value) told room by put =
      (by.0.0, by.0.1, by.0.2, subst (λ xs. take (length xs) room ≡ xs) by.1 put)
  told-in-room (Rest parts) told room by put = by.0

  -- where the sequence is put in room, and these are the directions and the numbers of the parts, it is told so
  pub come-searched : (told : Told) (room directions rest : List ℕ) → IsComeTo shop threshold budget node text told →
      take (length told.sequence.items) room ≡ told.sequence.items → directions ≡ text → rest ≡ told.rest.items →
      IsSearched shop threshold budget node told.found room told.makespan directions rest
  come-searched told room directions rest (came, is, by) put one two = (
    came,
    subst (λ xs. IsCome shop threshold budget node xs came) (sym one) is,
    subst (IsTold came told.found room told.makespan) (sym two) (told-in-room came told room by put),
  )

  -- the same with their number
  pub come-counted : (told : Told) (room : List ℕ) (count : ℕ) (rest : List ℕ) →
      IsComeTo shop threshold budget node text told →
      take (length told.sequence.items) room ≡ told.sequence.items → count ≡ length text → rest ≡ told.rest.items →
      IsCounted shop threshold budget node told.found room told.makespan count rest
  come-counted told room count rest come put one two =
      (text, come-searched told room text rest come put refl two, one)

  -- there are no more directions than there may be
  pub come-few : (told : Told) → IsComeTo shop threshold budget node text told → length text ≤ budget
  come-few told (Proved, is, by) = is.2
  come-few told (Below sequence makespan, is, by) = is.0.3
  come-few told (Rest parts, is, by) = omega (arith, is.1)

  -- its directions prove the threshold where it says so
  pub come-proved : (told : Told) (directions : List ℕ) → IsComeTo shop threshold budget node text told →
      directions ≡ text → told.found ≡ proved →
      ProvesFrom shop threshold node.first.now node.last.now directions
  come-proved told directions (Proved, is, by) one says =
      subst (ProvesFrom shop threshold node.first.now node.last.now) (sym (one ∙ is.1))
      (directions_prove shop threshold node.first.now node.last.now are is.0)
  come-proved told directions (Below sequence makespan, is, by) one says = absurd (omega (arith, by.0.0, says))
  come-proved told directions (Rest parts, is, by) one says = absurd (omega (arith, by.0.0, says))

  -- and so many do
  pub come-proved-by : (told : Told) (count : ℕ) → IsComeTo shop threshold budget node text told →
      count ≡ length text → told.found ≡ proved → IsProvedBy shop threshold node count
  come-proved-by told count (Proved, is, by) one says =
      (directions_prove shop threshold node.first.now node.last.now are is.0, one ∙ ap length is.1)
  come-proved-by told count (Below sequence makespan, is, by) one says = absurd (omega (arith, by.0.0, says))
  come-proved-by told count (Rest parts, is, by) one says = absurd (omega (arith, by.0.0, says))

  -- its sequence is below the threshold where it says so
  pub come-below : (told : Told) (room : List ℕ) → IsComeTo shop threshold budget node text told →
      take (length told.sequence.items) room ≡ told.sequence.items → told.found ≡ below →
      IsBelow shop threshold node (take shop.jobs room) told.makespan
  come-below told room (Proved, is, by) put says = absurd (omega (arith, by.0.0, says))
  come-below told room (Rest parts, is, by) put says = absurd (omega (arith, by.0.0, says))
  come-below told room (Below sequence value, is, by) put says =
      let reached = reached-below sequence value is in
      let inside : take (length sequence) room ≡ sequence = subst (λ xs. take (length xs) room ≡ xs) by.1 put in
      let taken : sequence ≡ take shop.jobs room = sym inside ∙ ap (λ n. take n room) reached.0.2.whole in
      subst (λ xs. IsBelow shop threshold node xs told.makespan) taken
      (subst (IsBelow shop threshold node sequence) (sym by.0.1) reached)

-- the arguments of a search have no fault
pub no-prove-fault : (numbers : ShopNumbers) (node : NodeLists) (entries : ℕ) →
    numbers_fault numbers ≡ None →
    place_fault numbers.jobs [] (node.first.now ++ node.last.now) ≡ None → room_fault numbers.jobs entries ≡ None →
    prove_fault numbers node entries ≡ None
no-prove-fault numbers node entries one two three = rw (prove_fault, one, two, three) refl
