-- What is in the grammar is what the walk over the lines gives.
use Rattle.std.proofs.Common.{◌≡◌, ◌∙◌, ap, subst, ◌<◌, ◌≤◌, ◌+◌, ◌*◌, ℕ, Bool, true, false, cond, eqb, nat_lt}
use Rattle.std.proofs.Common.{List, Ok, Err, Result, ◌++◌, ◌∷◌, [], length, flat_map, arith, refl, sym}
use Rattle.std.proofs.Common.{append_assoc, append-nil, length-append}
use Rattle.std.specs.List.{list_all, AllByRecursion}
use Rattle.std.proofs.Math.Nat.{mul-le-mul_left}
use Rattle.std.proofs.lemmas.Bool.Decides.{nat_tests}
use Rattle.flow_text.specs.Lines.{lines_of, after_blanks, is_digit, numbers_of, is_blank_line}
use Rattle.flow_text.specs.Lines.{is_label_line, is_number_line}
use Rattle.flow_text.specs.declared.text.block.Block.{Block}
use Rattle.flow_text.specs.TextFaults.{is_head}
use Rattle.flow_text.specs.internal.TextWalk.{◌>>=◌, walk, placed, at_end, after_line}
use Rattle.flow_text.specs.internal.TextState.{State, Sizes, sizes_of, start}
use Rattle.flow_text.specs.internal.TextWalk.{after_label, after_numbers, after_head_numbers, after_times, line_numbers}
use Rattle.flow_text.specs.internal.TextWalk.{block_of}
use Rattle.flow_text.specs.Text.{IsNumbers, AreGroups, Reads, head_of}
use Rattle.flow_text.specs.declared.text.fault.LineFault.{LineFault}
use Rattle.flow_text.specs.declared.text.fault.TextFault.TheVariants as text
use Rattle.flow_text.specs.declared.text.progress.Want.{Want}
use Rattle.flow_text.specs.declared.text.progress.Want.TheVariants.{FirstLabel, HeadNumbers, SecondLabel, Times}
use Rattle.flow_text.proofs.RestOfText.{solid, at, small, is_time, GoesOn, FromFirst, FromHead, FromSecond, FromTimes}
use Rattle.flow_text.proofs.TextGrammar.{solid-more, solid-blank}
use Rattle.flow_text.proofs.LineNumbers.{Wants, numbers_of-some, small-of-time, line_numbers-plain, append-true}
use Rattle.flow_text.proofs.LineNumbers.{not-both, small-five}

-- one line on, from a label line
record On (s : State) (read : Result State LineFault) (rest : List (List ℕ)) (all : List Block) : Type 0 where
  to : State
  is : read ≡ Ok to
  wants : Wants to
  goes : GoesOn to rest all

first-group : (h : Sizes) (bs : List Block) (l : List ℕ) (rest : List (List ℕ)) (all : List Block) (groups : List (List
    (List ℕ))) (more : List Block) → AreGroups groups more → l ∷ rest ≡ flat_map (λ g. g) groups → all ≡ bs ++ more →
    is_label_line l ≡ true × FromHead (at HeadNumbers [] h bs) rest all
first-group h bs l rest all [] more each e whole = cc
first-group h bs l rest all (g ∷ gs) [] each e whole = absurd each
first-group h bs l rest all (g ∷ gs) (c ∷ cs) each e whole =
    let i = each.0 in
    let lines : l ∷ rest ≡ i.first_label ∷ ((i.head_lines ++ i.second_label ∷ i.rows) ++ flat_map (λ g. g) gs) = e
    ∙ ap (λ x. x ++ flat_map (λ g. g) gs) i.split in
    let first : l ≡ i.first_label = cc in
    let others : rest ≡ (i.head_lines ++ i.second_label ∷ i.rows) ++ flat_map (λ g. g) gs = cc in (
      rw first i.first_is,
      record {
        head_lines = i.head_lines;
        rest = i.second_label ∷ (i.rows ++ flat_map (λ g. g) gs);
        ns = head_of c;
        split = others ∙ append_assoc i.head_lines (i.second_label ∷ i.rows) (flat_map (λ g. g) gs);
        head_lines_are = i.head_lines_are;
        numbers = i.head;
        five = refl;
        second = record {
          label = i.second_label;
          rest = i.rows ++ flat_map (λ g. g) gs;
          split = refl;
          label_is = i.second_is;
          times = record {
            rows = i.rows;
            times = c.instance.times;
            groups = gs;
            more = cs;
            split = refl;
            rows_are =
                i.rows_are;
            numbers = i.times;
            within = i.within;
            each = each.1;
            whole = whole;
          };
        };
      },
    )

pub mul-some : (a b : ℕ) → 1 ≤ a → 1 ≤ b → 0 < a * b
mul-some a b h k = grind (arith, mul-le-mul_left)

forward-label : (w : Want) (ns : List ℕ) (h : Sizes) (bs : List Block) (l : List ℕ) (rest : List (List ℕ))
    (all : List Block) → is_label_line l ≡ true → Wants (at w ns h bs) → GoesOn (at w ns h bs) (l ∷ rest) all →
    On (at w ns h bs) (after_label (at w ns h bs)) rest all
unfolding after_label
forward-label FirstLabel ns h bs l rest all lab k g =
    record {
      to = at HeadNumbers [] h bs;
      is = refl;
      wants = omega arith;
      goes =
          (first-group h bs l rest all g.groups g.more g.each g.split g.whole).1;
    }
forward-label HeadNumbers ns h bs l rest all lab k g = absurd (go g.head_lines g.head_lines_are g.split g.numbers)
  where
    go : (head_lines : List (List ℕ)) → AllByRecursion IsNumbers head_lines → l ∷ rest ≡ head_lines ++ g.rest →
        ns ++ flat_map numbers_of head_lines ≡ g.ns → ⊥
    go [] are e n = let same : ns ≡ g.ns = sym (append-nil ns) ∙ n in omega (arith, g.five, ap length same)
    go (x ∷ xs) are e n = let same : l ≡ x = cc in not-both l lab (rw same are.0.number)
forward-label SecondLabel ns h bs l rest all lab k g =
    let others : g.rest ≡ rest = (let e = g.split in cc) in
    let P : List (List ℕ) → Type 0 = λ x. FromTimes (at Times [] h bs) x all in
    record {
      to = at Times [] h bs;
      is = refl;
      wants =
          mul-some h.jobs h.machines g.times.within.instance.some_job g.times.within.instance.some_machine;
      goes =
          subst P others g.times;
    }
forward-label Times ns h bs l rest all lab k g = absurd (go g.rows g.rows_are g.split g.numbers)
  where
    go : (rows : List (List ℕ)) → AllByRecursion IsNumbers rows → l ∷ rest ≡ rows ++ flat_map (λ x. x) g.groups →
        ns ++ flat_map numbers_of rows ≡ g.times → ⊥
    go [] are e n = let same : ns ≡ g.times = sym (append-nil ns) ∙ n in
        omega (arith, g.within.instance.count, ap length same)
    go (x ∷ xs) are e n = let same : l ≡ x = cc in not-both l lab (rw same are.0.number)

-- the numbers of number lines, of which there is one at least
rows-some : (x : List ℕ) (xs : List (List ℕ)) → IsNumbers x → 0 < length (flat_map numbers_of (x ∷ xs))
rows-some x xs i = omega (arith, length-append (numbers_of x) (flat_map numbers_of xs), numbers_of-some x i.number)

head-more : (w : Want) (ns : List ℕ) (h : Sizes) (bs : List Block) (every : List ℕ) → length every < 5 →
    after_head_numbers (at w ns h bs) every ≡ Ok (at w every h bs)
unfolding after_head_numbers
head-more w ns h bs every k =
    let p : nat_lt 5 (length every) ≡ false = grind (arith, nat_tests) in
    let q : nat_lt (length every) 5 ≡ true = grind (arith, nat_tests) in
    rw (p, q) refl

head-whole : (w : Want) (ns : List ℕ) (h : Sizes) (bs : List Block) (every : List ℕ) → length every ≡ 5 →
    is_head every ≡ true → after_head_numbers (at w ns h bs) every ≡ Ok (at SecondLabel [] (sizes_of every) bs)
unfolding after_head_numbers
head-whole w ns h bs every k r =
    let p : nat_lt 5 (length every) ≡ false = grind (arith, nat_tests) in
    let q : nat_lt (length every) 5 ≡ false = grind (arith, nat_tests) in
    rw (p, q, r) refl

times-more : (w : Want) (ns : List ℕ) (h : Sizes) (bs : List Block) (new every : List ℕ) → list_all is_time new ≡ true →
    length every < h.jobs * h.machines → after_times (at w ns h bs) new every ≡ Ok (at w every h bs)
unfolding after_times
times-more w ns h bs new every r k =
    let p : nat_lt (h.jobs * h.machines) (length every) ≡ false = grind (arith, nat_tests) in
    let q : nat_lt (length every) (h.jobs * h.machines) ≡ true = grind (arith, nat_tests) in
    rw (p, r, q) refl

times-whole : (w : Want) (ns : List ℕ) (h : Sizes) (bs : List Block) (new every : List ℕ) →
    list_all is_time new ≡ true → length every ≡ h.jobs * h.machines →
    after_times (at w ns h bs) new every ≡ Ok (at FirstLabel [] h (bs ++ block_of h every ∷ []))
unfolding after_times
times-whole w ns h bs new every r k =
    let p : nat_lt (h.jobs * h.machines) (length every) ≡ false = grind (arith, nat_tests) in
    let q : nat_lt (length every) (h.jobs * h.machines) ≡ false = grind (arith, nat_tests) in
    rw (p, r, q) refl

bind-is : {A B E : Type 0} (r : Result A E) (f : A → Result B E) (x : A) (y : Result B E) → r ≡ Ok x → f x ≡ y →
    (r >>= f) ≡ y
bind-is (Ok z) f x y e k = let same : z ≡ x = cc in ap f same ∙ k
bind-is (Err d) f x y e k = cc

-- the numbers of a line in the midst of those of its group
head-line : (ns : List ℕ) (h : Sizes) (bs : List Block) (l : List ℕ) (rest : List (List ℕ)) (all : List Block) →
    is_number_line l ≡ true → length ns < 5
    → (g : FromHead (at HeadNumbers ns h bs) (l ∷ rest) all) (head_lines : List (List ℕ)) → AllByRecursion IsNumbers
    head_lines →
    l ∷ rest ≡ head_lines ++ g.rest → ns ++ flat_map numbers_of head_lines ≡ g.ns
    → On (at HeadNumbers ns h bs) (line_numbers l >>= λ new. after_head_numbers (at HeadNumbers ns h bs) (ns
    ++ new)) rest all
head-line ns h bs l rest all num k g [] are e n =
    let same : ns ≡ g.ns = sym (append-nil ns) ∙ n in absurd (omega (arith, g.five, ap length same))
head-line ns h bs l rest all num k g (x ∷ []) are e n =
    let same : l ≡ x = cc in
    let others : rest ≡ g.rest = cc in
    let limits = small-five g.ns g.second.times.times g.five g.second.times.within in
    let now : ns ++ numbers_of l ≡ g.ns = rw same (ap (λ z. ns ++ z) (sym (append-nil (numbers_of x))) ∙ n) in
    let smalls : list_all small (ns ++ numbers_of l) ≡ true = rw now limits.0 in
    let read = line_numbers-plain l (rw same are.0.plain) (append-true small ns (numbers_of l) smalls).1 in
    let P : List ℕ → Type 0 = λ z. FromSecond (at SecondLabel [] (sizes_of z) bs) g.rest all in
    let Q : List (List ℕ) → Type 0 = λ z. FromSecond (at SecondLabel [] (sizes_of (ns ++ numbers_of l)) bs) z all in
    record {
      to = at SecondLabel [] (sizes_of (ns ++ numbers_of l)) bs;
      is = bind-is (line_numbers l) _ (numbers_of l) _ read (head-whole HeadNumbers ns h bs (ns
          ++ numbers_of l) (rw now g.five) (rw now limits.1));
      wants = tt;
      goes = subst Q (sym others) (subst P (sym now) g.second);
    }
head-line ns h bs l rest all num k g (x ∷ y ∷ ys) are e n =
    let same : l ≡ x = cc in
    let others : rest ≡ (y ∷ ys) ++ g.rest = cc in
    let limits = small-five g.ns g.second.times.times g.five g.second.times.within in
    let now : (ns ++ numbers_of l) ++ flat_map numbers_of (y ∷ ys) ≡ g.ns =
    append_assoc ns (numbers_of l) (flat_map numbers_of (y ∷ ys)) ∙ rw same n in
    let smalls : list_all small ((ns ++ numbers_of l) ++ flat_map numbers_of (y ∷ ys)) ≡ true = rw now limits.0 in
    let front = (append-true small (ns ++ numbers_of l) (flat_map numbers_of (y ∷ ys)) smalls).0 in
    let read = line_numbers-plain l (rw same are.0.plain) (append-true small ns (numbers_of l) front).1 in
    let fewer : length (ns ++ numbers_of l) < 5 =
    omega (
      arith,
      length-append (ns ++ numbers_of l) (flat_map numbers_of (y
          ∷ ys)),
      ap length now,
      g.five,
      rows-some y ys are.1.0,
    ) in
    record {
      to = at HeadNumbers (ns ++ numbers_of l) h bs;
      is = bind-is (line_numbers l) _ (numbers_of l) _ read (head-more HeadNumbers ns h bs (ns ++ numbers_of l) fewer);
      wants = fewer;
      goes = record {
        head_lines = y ∷ ys;
        rest = g.rest;
        ns = g.ns;
        split = others;
        head_lines_are = are.1;
        numbers = now;
        five =
            g.five;
        second = g.second;
      };
    }

times-line : (ns : List ℕ) (h : Sizes) (bs : List Block) (l : List ℕ) (rest : List (List ℕ)) (all : List Block) →
    is_number_line l ≡ true → length ns < h.jobs * h.machines
    → (g : FromTimes (at Times ns h bs) (l ∷ rest) all) (rows : List (List ℕ)) → AllByRecursion IsNumbers rows →
    l ∷ rest ≡ rows ++ flat_map (λ x. x) g.groups → ns ++ flat_map numbers_of rows ≡ g.times
    → On (at Times ns h bs) (line_numbers l >>= λ new. after_times (at Times ns h bs) new (ns ++ new)) rest all
times-line ns h bs l rest all num k g [] are e n =
    let same : ns ≡ g.times = sym (append-nil ns) ∙ n in absurd (omega (arith, g.within.instance.count, ap length same))
times-line ns h bs l rest all num k g (x ∷ []) are e n =
    let same : l ≡ x = cc in
    let others : rest ≡ flat_map (λ x. x) g.groups = cc in
    let limits = small-of-time (block_of h g.times).instance g.within.instance in
    let now : ns ++ numbers_of l ≡ g.times = rw same (ap (λ z. ns ++ z) (sym (append-nil (numbers_of x))) ∙ n) in
    let smalls : list_all small (ns ++ numbers_of l) ≡ true = rw now limits.0 in
    let times : list_all is_time (ns ++ numbers_of l) ≡ true = rw now limits.1 in
    let read = line_numbers-plain l (rw same are.0.plain) (append-true small ns (numbers_of l) smalls).1 in
    let P : List ℕ → Type 0 = λ z. all ≡ bs ++ block_of h z ∷ g.more in
    record {
      to = at FirstLabel [] h (bs ++ block_of h (ns ++ numbers_of l) ∷ []);
      is = bind-is (line_numbers l) _ (numbers_of l) _ read (times-whole Times ns h bs (numbers_of l) (ns
          ++ numbers_of l) (append-true is_time ns (numbers_of l) times).1 (rw now g.within.instance.count));
      wants = tt;
      goes = record {
        groups = g.groups;
        more = g.more;
        split = others;
        each = g.each;
        whole = subst P (sym now) g.whole
            ∙ sym (append_assoc bs (block_of h (ns ++ numbers_of l) ∷ []) g.more);
      };
    }
times-line ns h bs l rest all num k g (x ∷ y ∷ ys) are e n =
    let same : l ≡ x = cc in
    let others : rest ≡ (y ∷ ys) ++ flat_map (λ x. x) g.groups = cc in
    let limits = small-of-time (block_of h g.times).instance g.within.instance in
    let now : (ns ++ numbers_of l) ++ flat_map numbers_of (y ∷ ys) ≡ g.times =
    append_assoc ns (numbers_of l) (flat_map numbers_of (y ∷ ys)) ∙ rw same n in
    let smalls : list_all small ((ns ++ numbers_of l) ++ flat_map numbers_of (y ∷ ys)) ≡ true = rw now limits.0 in
    let times : list_all is_time ((ns ++ numbers_of l) ++ flat_map numbers_of (y ∷ ys)) ≡ true = rw now limits.1 in
    let front = (append-true small (ns ++ numbers_of l) (flat_map numbers_of (y ∷ ys)) smalls).0 in
    let early = (append-true is_time (ns ++ numbers_of l) (flat_map numbers_of (y ∷ ys)) times).0 in
    let read = line_numbers-plain l (rw same are.0.plain) (append-true small ns (numbers_of l) front).1 in
    let fewer : length (ns ++ numbers_of l)
    < h.jobs * h.machines =
    omega (
      arith,
      length-append (ns ++ numbers_of l) (flat_map numbers_of (y
          ∷ ys)),
      ap length now,
      g.within.instance.count,
      rows-some y ys are.1.0,
    ) in
    record {
      to = at Times (ns ++ numbers_of l) h bs;
      is = bind-is (line_numbers l) _ (numbers_of l) _ read (times-more Times ns h bs (numbers_of l) (ns
          ++ numbers_of l) (append-true is_time ns (numbers_of l) early).1 fewer);
      wants = fewer;
      goes = record {
        rows = y ∷ ys;
        times = g.times;
        groups = g.groups;
        more = g.more;
        split = others;
        rows_are =
            are.1;
        numbers = now;
        within = g.within;
        each = g.each;
        whole = g.whole;
      };
    }

forward-number : (w : Want) (ns : List ℕ) (h : Sizes) (bs : List Block) (l : List ℕ) (rest : List (List ℕ))
    (all : List Block) → is_number_line l ≡ true → Wants (at w ns h bs) → GoesOn (at w ns h bs) (l ∷ rest) all →
    On (at w ns h bs) (after_numbers (at w ns h bs) l) rest all
unfolding after_numbers
forward-number FirstLabel ns h bs l rest all num k g =
    absurd (not-both l (first-group h bs l rest all g.groups g.more g.each g.split g.whole).0 num)
forward-number HeadNumbers ns h bs l rest all num k g =
    head-line ns h bs l rest all num k g g.head_lines g.head_lines_are g.split g.numbers
forward-number SecondLabel ns h bs l rest all num k g =
    let same : l ≡ g.label = (let e = g.split in cc) in absurd (not-both l (rw same g.label_is) num)
forward-number Times ns h bs l rest all num k g =
    times-line ns h bs l rest all num k g g.rows g.rows_are g.split g.numbers

-- one line on
forward : (s : State) (l : List ℕ) (ls : List (List ℕ)) (all : List Block) → Wants s → GoesOn s (solid (l ∷ ls)) all →
    On s (after_line s l) (solid ls) all
unfolding after_line
forward s l ls all k g = go (after_blanks l) refl
  where
    digit : (b : ℕ) (bs : List ℕ) → after_blanks l ≡ b ∷ bs → (d : Bool) → is_digit b ≡ d →
        On s (after_line s l) (solid ls) all
    digit b bs p true q =
        let num : is_number_line l ≡ true = rw (p, is_number_line, q) refl in
        let more = solid-more l ls (rw (p, is_blank_line) refl) in
        let P : List (List ℕ) → Type 0 = λ x. GoesOn s x all in
        let Q : Result State LineFault → Type 0 = λ x. On s x (solid ls) all in
        let is : after_numbers s l ≡ after_line s l = rw (after_line, p, q) refl in
        subst Q is (forward-number s.want s.numbers s.head s.blocks l (solid ls) all num k (subst P more g))
    digit b bs p false q =
        let lab : is_label_line l ≡ true = rw (p, is_label_line, q) refl in
        let more = solid-more l ls (rw (p, is_blank_line) refl) in
        let P : List (List ℕ) → Type 0 = λ x. GoesOn s x all in
        let Q : Result State LineFault → Type 0 = λ x. On s x (solid ls) all in
        let is : after_label s ≡ after_line s l = rw (after_line, p, q) refl in
        subst Q is (forward-label s.want s.numbers s.head s.blocks l (solid ls) all lab k (subst P more g))

    go : (v : List ℕ) → after_blanks l ≡ v → On s (after_line s l) (solid ls) all
    go [] p =
        let less = solid-blank l ls (rw (p, is_blank_line) refl) in
        let P : List (List ℕ) → Type 0 = λ x. GoesOn s x all in
        record { to = s; is = rw (after_line, p) refl; wants = k; goes = subst P less g }
    go (b ∷ bs) p = digit b bs p (is_digit b) refl

end-is : (w : Want) (ns : List ℕ) (h : Sizes) (bs : List Block) (n : ℕ) (all : List Block) → 0 < length all →
    Wants (at w ns h bs) → GoesOn (at w ns h bs) [] all → at_end (at w ns h bs) n ≡ Ok all
unfolding at_end
end-is FirstLabel ns h bs n all some k g = go g.groups g.more g.each g.split g.whole
  where
    go : (groups : List (List (List ℕ))) (more : List Block) → AreGroups groups more → [] ≡ flat_map (λ x. x) groups →
        all ≡ bs ++ more → cond (eqb (length bs) 0) (Err text.NoBlock) (Ok bs) ≡ Ok all
    go [] [] each e whole =
        let same : all ≡ bs = whole ∙ append-nil bs in
        let test : eqb (length bs) 0 ≡ false =
        (let here : 0 < length bs = rw (← same) some in grind (arith, nat_tests)) in
        rw (test, same) refl
    go [] (c ∷ cs) each e whole = absurd each
    go (x ∷ xs) [] each e whole = absurd each
    go (x ∷ xs) (c ∷ cs) each e whole =
        let i = each.0 in
        let bad : [] ≡ i.first_label ∷ ((i.head_lines ++ i.second_label ∷ i.rows) ++ flat_map (λ z. z) xs) = e
        ∙ ap (λ z. z ++ flat_map (λ y. y) xs) i.split in
        cc
end-is HeadNumbers ns h bs n all some k g = absurd (go g.head_lines g.split g.second.split)
  where
    go : (head_lines : List (List ℕ)) → [] ≡ head_lines ++ g.rest → g.rest ≡ g.second.label ∷ g.second.rest → ⊥
    go [] e f = cc
    go (x ∷ xs) e f = cc
end-is SecondLabel ns h bs n all some k g = let e = g.split in cc
end-is Times ns h bs n all some k g = absurd (go g.rows g.split g.numbers)
  where
    go : (rows : List (List ℕ)) → [] ≡ rows ++ flat_map (λ x. x) g.groups → ns ++ flat_map numbers_of rows ≡ g.times → ⊥
    go [] e f = let same : ns ≡ g.times = sym (append-nil ns) ∙ f in
        omega (arith, g.within.instance.count, ap length same)
    go (x ∷ xs) e f = cc

complete : (ls : List (List ℕ)) (s : State) (n : ℕ) (all : List Block) → 0 < length all → Wants s →
    GoesOn s (solid ls) all → walk s n ls ≡ Ok all
unfolding walk
complete [] s n all some k g = end-is s.want s.numbers s.head s.blocks (n + 1) all some k g
complete (l ∷ ls) s n all some k g =
    let on = forward s l ls all k g in
    bind-is (placed (n + 1) (after_line s l)) (λ t. walk t (n + 1) ls) on.to (Ok all) (ap (placed (n
    + 1)) on.is) (complete ls on.to (n + 1) all some on.wants on.goes)

-- what is in the grammar is what the walk gives
pub walk-Reads : (b : List ℕ) (all : List Block) → Reads b all → walk start 0 (lines_of b) ≡ Ok all
walk-Reads b all r =
    let g : FromFirst start (solid (lines_of b)) all =
    record { groups = r.groups; more = all; split = r.split; each = r.each; whole = refl } in
    complete (lines_of b) start 0 all r.some tt g
