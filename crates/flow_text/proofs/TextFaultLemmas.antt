-- The states of the reader agree with what the lines before decide, and what it returns with the first fault.
use Rattle.std.proofs.Common.{◌≡◌, ◌∙◌, ap, subst, ◌<◌, ◌+◌, ◌*◌, ℕ, Bool, true, false, not, cond, eqb, nat_lt}
use Rattle.std.proofs.Common.{nat_le, List, Option, Some, None, Ok, Err, Result, ◌++◌, ◌∷◌, [], length, slice_index}
use Rattle.std.proofs.Common.{arith, refl, sym, inl, inr, length-append}
use Rattle.std.specs.Int.{is_in_range}
use Rattle.flow_limits.specs.Limits.{most_jobs, most_machines}
use Rattle.flow_shop.proofs.InstanceLemmas.{range-in}
use Rattle.std.specs.Option.{option_or}
use Rattle.std.proofs.lemmas.Bool.Decides.{nat_tests}
use Rattle.std.proofs.lemmas.Bool.{and_parts}
use Rattle.flow_shop.specs.Refusals.{fault_unless, first_fault}
use Rattle.flow_text.specs.Lines.{lines_of, after_blanks, is_digit, is_blank_line, is_label_line, is_plain}
use Rattle.flow_text.specs.Lines.{numbers_of, are_small}
use Rattle.flow_text.specs.TextFaults.{is_head}
use Rattle.flow_text.specs.TextFaults.{are_times, end_fault, lines_fault, text_fault}
use Rattle.flow_text.specs.internal.TextWalk.{◌>>=◌, walk, placed, at_end}
use Rattle.flow_text.specs.internal.TextState.{State, Sizes, sizes_of, start}
use Rattle.flow_text.specs.internal.TextWalk.{after_line, after_label, after_numbers, after_head_numbers, after_times}
use Rattle.flow_text.specs.internal.TextWalk.{line_numbers, block_of}
use Rattle.flow_text.specs.declared.text.block.Block.{Block}
use Rattle.flow_text.specs.declared.text.fault.LineFault.{LineFault}
use Rattle.flow_text.specs.declared.text.fault.LineFault.TheVariants as line
use Rattle.flow_text.specs.declared.text.fault.TextFault.{TextFault}
use Rattle.flow_text.specs.declared.text.fault.TextFault.TheVariants as text
use Rattle.flow_text.specs.declared.text.progress.Want.{Want}
use Rattle.flow_text.specs.declared.text.progress.Want.TheVariants.{FirstLabel, HeadNumbers, SecondLabel, Times}
use Rattle.flow_text.proofs.TextGrammar.{head-cases, times-cases}
use Rattle.flow_text.proofs.RestOfText.{at, bind_ok, line_numbers_ok}
use Rattle.flow_text.proofs.TextComplete.{mul-some}
use Rattle.flow_text.proofs.LinesBefore.{Facts, FirstTracks, HeadTracks, TimesTracks, Tracks, numbers_fault_at}
use Rattle.flow_text.proofs.LinesBefore.{end_fault_at, line_fault-at, end_fault-at, some-more, facts-label}
use Rattle.flow_text.proofs.LinesBefore.{facts-other, facts-blank, fault_in, Follows, blank-at, label-at, number-at}
use Rattle.flow_text.proofs.LinesBefore.{more-wanted, none-wanted, number-wanted, number-unwanted}

-- the tests of a head's line in both orders
head-tests : (n : ℕ) (p q above below fits within five : Bool) (xs : List ℕ) (more whole : State) (f : List ℕ →
    Result State LineFault)
    → within ≡ not above → (above ≡ false → five ≡ not below) →
    f xs ≡ cond above (Err line.Head) (cond below (Ok more) (cond fits (Ok whole) (Err line.Limits)))
    → first_fault (fault_unless p (text.Byte n) ∷ fault_unless q (text.Number n) ∷ fault_unless within (text.Head n)
    ∷ fault_unless (cond five fits true) (text.Limits n) ∷ [])
    ≡ fault_in n ((cond (not p) (Err line.Byte) (cond (not q) (Err line.Number) (Ok xs))) >>= f)
head-tests n false q above below fits within five xs more whole f w v e = refl
head-tests n true false above below fits within five xs more whole f w v e = refl
head-tests n true true true below fits within five xs more whole f w v e = rw (e, w) refl
head-tests n true true false true fits within five xs more whole f w v e = rw (e, w, v refl) refl
head-tests n true true false false true within five xs more whole f w v e = rw (e, w, v refl) refl
head-tests n true true false false false within five xs more whole f w v e = rw (e, w, v refl) refl

times-tests : (n : ℕ) (p q above below fits within : Bool) (xs : List ℕ) (more whole : State) (f : List ℕ →
    Result State LineFault)
    → within ≡ not above → f xs
    ≡ cond above (Err line.Times) (cond (not fits) (Err line.Limits) (cond below (Ok more) (Ok whole)))
    → first_fault (fault_unless p (text.Byte n) ∷ fault_unless q (text.Number n) ∷ fault_unless within (text.Times n)
    ∷ fault_unless fits (text.Limits n) ∷ [])
    ≡ fault_in n ((cond (not p) (Err line.Byte) (cond (not q) (Err line.Number) (Ok xs))) >>= f)
times-tests n false q above below fits within xs more whole f w e = refl
times-tests n true false above below fits within xs more whole f w e = refl
times-tests n true true true below fits within xs more whole f w e = rw (e, w) refl
times-tests n true true false below false within xs more whole f w e = rw (e, w) refl
times-tests n true true false true true within xs more whole f w e = rw (e, w) refl
times-tests n true true false false true within xs more whole f w e = rw (e, w) refl

le-not-lt : (a b : ℕ) → nat_le a b ≡ not (nat_lt b a)
le-not-lt a b = go (nat_lt b a) refl
  where
    go : (p : Bool) → nat_lt b a ≡ p → nat_le a b ≡ not p
    go true h = grind (arith, nat_tests)
    go false h = grind (arith, nat_tests)

five-not-lt : (a b : ℕ) → nat_lt b a ≡ false → eqb a b ≡ not (nat_lt a b)
five-not-lt a b h = go (nat_lt a b) refl
  where
    go : (p : Bool) → nat_lt a b ≡ p → eqb a b ≡ not p
    go true k = grind (arith, nat_tests)
    go false k = grind (arith, nat_tests)

head-fault-is : (n : ℕ) (ns : List ℕ) (h : Sizes) (bs : List Block) (l : List ℕ) →
    numbers_fault_at n true ns 5 l
    ≡ fault_in n (line_numbers l >>= λ new. after_head_numbers (at HeadNumbers ns h bs) (ns ++ new))
unfolding line_numbers after_head_numbers
head-fault-is n ns h bs l =
    let every = ns ++ numbers_of l in
    head-tests n (is_plain l) (are_small (numbers_of l)) (nat_lt 5 (length every)) (nat_lt (length every) 5)
    (is_head every) (nat_le (length every) 5) (eqb (length every) 5) (numbers_of l)
    (at HeadNumbers every h bs) (at SecondLabel [] (sizes_of every) bs) (λ new. after_head_numbers
    (at HeadNumbers ns h bs) (ns ++ new))
    (le-not-lt (length every) 5) (five-not-lt (length every) 5) refl

times-fault-is : (n : ℕ) (ns : List ℕ) (h : Sizes) (bs : List Block) (l : List ℕ) →
    numbers_fault_at n false ns (h.jobs * h.machines) l
    ≡ fault_in n (line_numbers l >>= λ new. after_times (at Times ns h bs) new (ns ++ new))
unfolding line_numbers after_times
times-fault-is n ns h bs l =
    let every = ns ++ numbers_of l in
    times-tests n (is_plain l) (are_small (numbers_of l)) (nat_lt (h.jobs * h.machines) (length every)) (nat_lt
    (length every) (h.jobs * h.machines)) (are_times (numbers_of l)) (nat_le (length every) (h.jobs * h.machines))
    (numbers_of l)
    (at Times every h bs) (at FirstLabel [] h (bs ++ block_of h every
    ∷ [])) (λ new. after_times (at Times ns h bs) new (ns ++ new))
    (le-not-lt (length every) (h.jobs * h.machines)) refl

head-some : (ns : List ℕ) → is_head ns ≡ true → 0 < slice_index ns 0 * slice_index ns 1
head-some ns h =
    let both = and_parts (is_in_range 1 most_jobs (slice_index ns 0)) (is_in_range 1 most_machines
    (slice_index ns 1)) h in
    mul-some (slice_index ns 0) (slice_index ns 1) (range-in most_jobs (slice_index ns 0) both.0).0
    (range-in most_machines (slice_index ns 1) both.1).0

-- after a whole block
whole-tracks : (h : Sizes) (bs : List Block) (e : List (List ℕ)) (l : List ℕ) (since : List ℕ) (block : Block) →
    Facts (l ∷ e) false false since (length since) → FirstTracks (at FirstLabel [] h (bs ++ block ∷ [])) (l ∷ e)
whole-tracks h bs e l since block f =
    let some : eqb (length (bs ++ block ∷ [])) 0 ≡ false =
    (let long : length (bs ++ block ∷ []) ≡ length bs + 1 = omega (arith, length-append bs (block ∷ [])) in
    ap (λ n. eqb n 0) long ∙ some-more (length bs)) in
    let F : Bool → Type 0 = λ b. Facts (l ∷ e) false b since (length since) in
    record { since = since; facts = subst F (sym some) f }

err-ok : (d : LineFault) (t : State) → Err d ≡ Ok t → ⊥
err-ok d t e = cc

-- a line of a head
head-tracks : (ns : List ℕ) (h : Sizes) (bs : List Block) (e : List (List ℕ)) (l : List ℕ) (t : State) →
    is_label_line l ≡ false → HeadTracks (at HeadNumbers ns h bs) e →
    (line_numbers l >>= λ new. after_head_numbers (at HeadNumbers ns h bs) (ns ++ new)) ≡ Ok t → Tracks t (l ∷ e)
head-tracks ns h bs e l t q k is =
    let read = bind_ok (line_numbers l) (λ new. after_head_numbers (at HeadNumbers ns h bs) (ns ++ new)) t is in
    let new = (line_numbers_ok l read.0 read.1).2 in
    let every = ns ++ numbers_of l in
    let after : after_head_numbers (at HeadNumbers ns h bs) every ≡ Ok t =
    ap (λ x. after_head_numbers (at HeadNumbers ns h bs) (ns ++ x)) (sym new) ∙ read.2 in
    let facts = facts-other e l true false ns 5 q k.facts in
    let P : State → Type 0 = λ x. Tracks x (l ∷ e) in
    elim (head-cases HeadNumbers ns h bs every t after) [
      | inl c ↦ subst P (sym c.1) (record { facts = facts; fewer = c.0 })
      | inr c ↦ subst P (sym c.2) (record {
        since = every;
        facts = facts;
        five = c.0;
        head = refl;
        some =
            head-some every c.1;
      })
    ]

-- a line of times
times-tracks : (ns : List ℕ) (h : Sizes) (bs : List Block) (e : List (List ℕ)) (l : List ℕ) (t : State) →
    is_label_line l ≡ false → TimesTracks (at Times ns h bs) e →
    (line_numbers l >>= λ new. after_times (at Times ns h bs) new (ns ++ new)) ≡ Ok t → Tracks t (l ∷ e)
times-tracks ns h bs e l t q k is =
    let read = bind_ok (line_numbers l) (λ new. after_times (at Times ns h bs) new (ns ++ new)) t is in
    let new = (line_numbers_ok l read.0 read.1).2 in
    let every = ns ++ numbers_of l in
    let after : after_times (at Times ns h bs) (numbers_of l) every ≡ Ok t =
    ap (λ x. after_times (at Times ns h bs) x (ns ++ x)) (sym new) ∙ read.2 in
    let facts = facts-other e l false false ns (h.jobs * h.machines) q k.facts in
    let P : State → Type 0 = λ x. Tracks x (l ∷ e) in
    elim (times-cases Times ns h bs (numbers_of l) every t after).1 [
      | inl c ↦ subst P (sym c.1) (record { facts = facts; fewer = c.0 })
      | inr c ↦ subst P (sym c.1) (whole-tracks h bs e l every (block_of h every) (let F : ℕ → Type 0 =
          λ x. Facts (l ∷ e) false false every x in subst F (sym c.0) facts))
    ]

-- one more line of each kind
label-follows : (w : Want) (ns : List ℕ) (h : Sizes) (bs : List Block) (e : List (List ℕ)) (l : List ℕ) →
    is_blank_line l ≡ false → is_label_line l ≡ true → Tracks (at w ns h bs) e →
    Follows e l (after_label (at w ns h bs))
unfolding after_label
label-follows FirstLabel ns h bs e l p q k =
    record {
      fault = line_fault-at e l false (eqb (length bs) 0) k.since (length k.since) k.facts
          ∙ label-at (length e + 1) false k.since (length k.since) l p q
          ∙ none-wanted (length e + 1) false k.since (length k.since) refl;
      tracks = λ t is. let same : at HeadNumbers [] h bs ≡ t = cc in let P : State → Type 0 = λ x. Tracks x (l ∷ e) in
          subst P same (record {
            facts =
                facts-label e l false (eqb (length bs) 0) k.since (length k.since) q k.facts;
            fewer = omega arith;
          });
    }
label-follows HeadNumbers ns h bs e l p q k =
    record {
      fault = line_fault-at e l true false ns 5 k.facts ∙ label-at (length e + 1) true ns 5 l p q
          ∙ more-wanted (length e + 1) true ns 5 k.fewer;
      tracks = λ t is. absurd (err-ok line.Head t is);
    }
label-follows SecondLabel ns h bs e l p q k =
    record {
      fault = line_fault-at e l true false k.since 5 k.facts ∙ label-at (length e + 1) true k.since 5 l p q
          ∙ none-wanted (length e + 1) true k.since 5 k.five;
      tracks = λ t is. let same : at Times [] h bs ≡ t = cc in let P : State → Type 0 = λ x. Tracks x (l ∷ e) in
          let product : slice_index k.since 0 * slice_index k.since 1 ≡ h.jobs * h.machines =
          ap (λ x. x.jobs * x.machines) k.head in
          let F : ℕ → Type 0 = λ x. Facts (l ∷ e) false false [] x in
          subst P same (record {
            facts = subst F product (facts-label e l true false k.since 5 q k.facts);
            fewer =
                k.some;
          });
    }
label-follows Times ns h bs e l p q k =
    record {
      fault = line_fault-at e l false false ns (h.jobs * h.machines) k.facts
          ∙ label-at (length e + 1) false ns (h.jobs * h.machines) l p q
          ∙ more-wanted (length e + 1) false ns (h.jobs * h.machines) k.fewer;
      tracks = λ t is. absurd (err-ok line.Times t is);
    }

number-follows : (w : Want) (ns : List ℕ) (h : Sizes) (bs : List Block) (e : List (List ℕ)) (l : List ℕ) →
    is_blank_line l ≡ false → is_label_line l ≡ false → Tracks (at w ns h bs) e →
    Follows e l (after_numbers (at w ns h bs) l)
unfolding after_numbers
number-follows FirstLabel ns h bs e l p q k =
    record {
      fault = line_fault-at e l false (eqb (length bs) 0) k.since (length k.since) k.facts
          ∙ number-at (length e + 1) false k.since (length k.since) l p q
          ∙ number-unwanted (length e + 1) false k.since (length k.since) l refl;
      tracks = λ t is. absurd (err-ok line.Label t is);
    }
number-follows HeadNumbers ns h bs e l p q k =
    record {
      fault = line_fault-at e l true false ns 5 k.facts ∙ number-at (length e + 1) true ns 5 l p q
          ∙ number-wanted (length e + 1) true ns 5 l k.fewer ∙ head-fault-is (length e + 1) ns h bs l;
      tracks = λ t is. head-tracks ns h bs e l t q k is;
    }
number-follows SecondLabel ns h bs e l p q k =
    record {
      fault = line_fault-at e l true false k.since 5 k.facts ∙ number-at (length e + 1) true k.since 5 l p q
          ∙ number-unwanted (length e + 1) true k.since 5 l k.five;
      tracks = λ t is. absurd (err-ok line.Label t is);
    }
number-follows Times ns h bs e l p q k =
    record {
      fault = line_fault-at e l false false ns (h.jobs * h.machines) k.facts
          ∙ number-at (length e + 1) false ns (h.jobs * h.machines) l p q
          ∙ number-wanted (length e + 1) false ns (h.jobs * h.machines) l k.fewer
          ∙ times-fault-is (length e + 1) ns h bs l;
      tracks = λ t is. times-tracks ns h bs e l t q k is;
    }

blank-follows : (w : Want) (ns : List ℕ) (h : Sizes) (bs : List Block) (e : List (List ℕ)) (l : List ℕ) →
    after_blanks l ≡ [] → Tracks (at w ns h bs) e → Follows e l (Ok (at w ns h bs))
blank-follows FirstLabel ns h bs e l p k = record {
  fault = line_fault-at e l false (eqb (length bs) 0) k.since (length k.since) k.facts
      ∙ blank-at (length e + 1) false k.since (length k.since) l (rw (p, is_blank_line) refl);
  tracks = λ t is. let same : at FirstLabel ns h bs ≡ t = cc in let P : State → Type 0 = λ x. Tracks x (l ∷ e) in
      subst P same (record {
        since = k.since;
        facts =
            facts-blank e l false (eqb (length bs) 0) k.since (length k.since) p k.facts;
      });
}
blank-follows HeadNumbers ns h bs e l p k = record {
  fault = line_fault-at e l true false ns 5 k.facts ∙ blank-at (length e + 1) true ns 5 l (rw (p, is_blank_line) refl);
  tracks = λ t is. let same : at HeadNumbers ns h bs ≡ t = cc in let P : State → Type 0 = λ x. Tracks x (l ∷ e) in
      subst P same (record { facts = facts-blank e l true false ns 5 p k.facts; fewer = k.fewer });
}
blank-follows SecondLabel ns h bs e l p k = record {
  fault = line_fault-at e l true false k.since 5 k.facts
      ∙ blank-at (length e + 1) true k.since 5 l (rw (p, is_blank_line) refl);
  tracks = λ t is. let same : at SecondLabel ns h bs ≡ t = cc in let P : State → Type 0 = λ x. Tracks x (l ∷ e) in
      subst P same (record {
        since = k.since;
        facts = facts-blank e l true false k.since 5 p k.facts;
        five =
            k.five;
        head = k.head;
        some = k.some;
      });
}
blank-follows Times ns h bs e l p k = record {
  fault = line_fault-at e l false false ns (h.jobs * h.machines) k.facts
      ∙ blank-at (length e + 1) false ns (h.jobs * h.machines) l (rw (p, is_blank_line) refl);
  tracks = λ t is. let same : at Times ns h bs ≡ t = cc in let P : State → Type 0 = λ x. Tracks x (l ∷ e) in
      subst P same (record { facts = facts-blank e l false false ns (h.jobs * h.machines) p k.facts; fewer = k.fewer });
}

-- one more line
follows : (s : State) (e : List (List ℕ)) (l : List ℕ) → Tracks s e → Follows e l (after_line s l)
unfolding after_line
follows s e l k = go (after_blanks l) refl
  where
    digit : (b : ℕ) (bs : List ℕ) → after_blanks l ≡ b ∷ bs → (d : Bool) → is_digit b ≡ d → Follows e l (after_line s l)
    digit b bs p true q =
        let Q : Result State LineFault → Type 0 = λ x. Follows e l x in
        let is : after_numbers s l ≡ after_line s l = rw (after_line, p, q) refl in
        subst Q is (number-follows s.want s.numbers s.head s.blocks e l (rw (p, is_blank_line) refl) (rw
        (p, is_label_line, q) refl) k)
    digit b bs p false q =
        let Q : Result State LineFault → Type 0 = λ x. Follows e l x in
        let is : after_label s ≡ after_line s l = rw (after_line, p, q) refl in
        subst Q is (label-follows s.want s.numbers s.head s.blocks e l (rw (p, is_blank_line) refl) (rw
        (p, is_label_line, q) refl) k)

    go : (v : List ℕ) → after_blanks l ≡ v → Follows e l (after_line s l)
    go [] p =
        let Q : Result State LineFault → Type 0 = λ x. Follows e l x in
        let is : Ok s ≡ after_line s l = rw (after_line, p) refl in
        subst Q is (blank-follows s.want s.numbers s.head s.blocks e l p k)
    go (b ∷ bs) p = digit b bs p (is_digit b) refl

-- the fault of an answer
abbrev pub fault_of : Result (List Block) TextFault → Option TextFault
fault_of (Ok blocks) = None
fault_of (Err f) = Some f

end-none : (n : ℕ) (some : Bool) (since : List ℕ) (bs : List Block) →
    end_fault_at n false some since (length since) ≡ fault_of (cond some (Err text.NoBlock) (Ok bs))
end-none n some since bs =
    let p : nat_lt (length since) (length since) ≡ false = grind (arith, nat_tests) in
    ap (λ b. first_fault (fault_unless (not some) text.NoBlock ∷ fault_unless (not b) (text.Times n) ∷ None ∷ [])) p
    ∙ go some
  where
    go : (b : Bool) → first_fault (fault_unless (not b) text.NoBlock ∷ None ∷ None ∷ [])
        ≡ fault_of (cond b (Err text.NoBlock) (Ok bs))
    go true = refl
    go false = refl

end-more : (n : ℕ) (odd : Bool) (since : List ℕ) (wanted : ℕ) → length since < wanted →
    end_fault_at n odd false since wanted ≡ Some (cond odd (text.Head n) (text.Times n))
end-more n odd since wanted k =
    let p : nat_lt (length since) wanted ≡ true = grind (arith, nat_tests) in
    ap (λ b. first_fault (None ∷ fault_unless (not b) (cond odd (text.Head n) (text.Times n))
    ∷ fault_unless (not odd) (text.Label n) ∷ [])) p

end-label : (n : ℕ) (since : List ℕ) → length since ≡ 5 → end_fault_at n true false since 5 ≡ Some (text.Label n)
end-label n since k =
    let p : nat_lt (length since) 5 ≡ false = grind (arith, nat_tests) in
    ap (λ b. first_fault (None ∷ fault_unless (not b) (text.Head n) ∷ Some (text.Label n) ∷ [])) p

end-follows : (w : Want) (ns : List ℕ) (h : Sizes) (bs : List Block) (e : List (List ℕ)) → Tracks (at w ns h bs) e →
    end_fault e ≡ fault_of (at_end (at w ns h bs) (length e + 1))
unfolding at_end
end-follows FirstLabel ns h bs e k = end_fault-at e false (eqb (length bs) 0) k.since (length k.since) k.facts
    ∙ end-none (length e + 1) (eqb (length bs) 0) k.since bs
end-follows HeadNumbers ns h bs e k = end_fault-at e true false ns 5 k.facts ∙ end-more (length e + 1) true ns 5 k.fewer
end-follows SecondLabel ns h bs e k = end_fault-at e true false k.since 5 k.facts
    ∙ end-label (length e + 1) k.since k.five
end-follows Times ns h bs e k = end_fault-at e false false ns (h.jobs * h.machines) k.facts
    ∙ end-more (length e + 1) false ns (h.jobs * h.machines) k.fewer

lines-follow : (ls : List (List ℕ)) (s : State) (e : List (List ℕ)) → Tracks s e →
    lines_fault e ls ≡ fault_of (walk s (length e) ls)
unfolding walk
lines-follow [] s e k = end-follows s.want s.numbers s.head s.blocks e k
lines-follow (l ∷ ls) s e k =
    let one = follows s e l k in
    ap (λ o. option_or o (lines_fault (l ∷ e) ls)) one.fault
    ∙ go (after_line s l) one.tracks (λ t more. lines-follow ls t (l ∷ e) more)
  where
    go : (r : Result State LineFault) → ((t : State) → r ≡ Ok t → Tracks t (l ∷ e)) →
        ((t : State) → Tracks t (l ∷ e) → lines_fault (l ∷ e) ls ≡ fault_of (walk t (length (l ∷ e)) ls)) →
        option_or (fault_in (length e + 1) r) (lines_fault (l ∷ e) ls)
        ≡ fault_of (placed (length e + 1) r >>= λ t. walk t (length e + 1) ls)
    go (Ok t) tracks again =
        let same : length (l ∷ e) ≡ length e + 1 = omega arith in
        again t (tracks t refl) ∙ ap (λ n. fault_of (walk t n ls)) same
    go (Err d) tracks again = refl

-- the first fault of a text is the fault of the reader's answer
pub text_fault-walk : (text : List ℕ) → text_fault text ≡ fault_of (walk start 0 (lines_of text))
text_fault-walk text =
    lines-follow (lines_of text) start []
    (record { since = []; facts = record { odd_is = refl; none_is = refl; since_is = refl; wanted_is = refl } })
