-- What the walk over the lines accepts is in the grammar.
use Rattle.std.proofs.Common.{◌≡◌, ◌∙◌, ap, subst, ◌<◌, ◌≤◌, ◌+◌, ◌*◌, ℕ, Bool, true, false, not, cond, eqb, nat_lt}
use Rattle.std.proofs.Common.{List, Ok, Err, ◌++◌, ◌∷◌, [], length, flat_map}
use Rattle.std.proofs.Common.{arith, refl, sym, append_assoc, append-nil, inl, inr, ◌⊎◌}
use Rattle.std.specs.List.{list_all, AllByRecursion}
use Rattle.std.proofs.lemmas.List.Folds.{list_all-append}
use Rattle.std.proofs.lemmas.Bool.Decides.{nat_tests}
use Rattle.flow_text.specs.Lines.{lines_of, after_blanks, is_digit, numbers_of, is_blank_line, is_label_line}
use Rattle.flow_text.specs.Lines.{is_number_line}
use Rattle.flow_text.specs.declared.text.block.Block.{Block}
use Rattle.flow_text.specs.TextFaults.{is_head}
use Rattle.flow_limits.specs.Limits.{greatest_time}
use Rattle.std.proofs.lemmas.List.Elements.{All-from_recursion}
use Rattle.std.proofs.lemmas.Bool.{and_parts}
use Rattle.flow_text.specs.internal.TextWalk.{◌>>=◌, walk}
use Rattle.flow_text.specs.internal.TextState.{SizesFit, Keeps, State, Sizes, sizes_of, start}
use Rattle.flow_text.specs.internal.TextWalk.{placed, at_end, after_line, after_label, after_numbers}
use Rattle.flow_text.specs.internal.TextWalk.{after_head_numbers, after_times, line_numbers, block_of}
use Rattle.flow_text.specs.Text.{head_of, IsBlock, AreGroups, Reads}
use Rattle.flow_text.specs.declared.text.fault.LineFault.TheVariants as line
use Rattle.flow_text.specs.declared.text.fault.TextFault.TheVariants as text
use Rattle.flow_text.specs.declared.text.progress.Want.{Want}
use Rattle.flow_text.specs.declared.text.progress.Want.TheVariants.{FirstLabel, HeadNumbers, SecondLabel, Times}
use Rattle.flow_text.proofs.RestOfText.{solid, FromFirst, FromTimes, FromSecond, FromHead, GoesOn, small, is_time}
use Rattle.flow_text.proofs.RestOfText.{bind_ok, placed_ok, chosen, five, line_numbers_ok, at}

-- the lines of a whole block, read backwards
group-back : (ns : List ℕ) (h : Sizes) (bs : List Block) (l : List ℕ) (rest : List (List ℕ)) (all : List Block) →
    is_label_line l ≡ true → FromHead (at HeadNumbers [] h bs) rest all →
    FromFirst (at FirstLabel ns h bs) (l ∷ rest) all
group-back ns h bs l rest all lab p =
    let q = p.second in
    let r = q.times in
    let block = block_of (sizes_of p.ns) r.times in
    let others = flat_map (λ g. g) r.groups in
    let head : flat_map numbers_of p.head_lines ≡ head_of block = p.numbers ∙ five p.ns p.five in
    record {
      groups = (l ∷ p.head_lines ++ q.label ∷ r.rows) ∷ r.groups;
      more = block ∷ r.more;
      split = ap (λ x. l ∷ x) (p.split ∙ ap (λ x. p.head_lines ++ x) q.split ∙ ap (λ x. p.head_lines ++ q.label ∷ x)
          r.split
          ∙ sym (append_assoc p.head_lines (q.label ∷ r.rows) others));
      each = (
        record {
          first_label = l;
          head_lines =
              p.head_lines;
          second_label = q.label;
          rows =
              r.rows;
          split = refl;
          first_is = lab;
          second_is = q.label_is;
          head_lines_are = p.head_lines_are;
          rows_are =
              r.rows_are;
          head = head;
          times = r.numbers;
          within = r.within;
        },
        r.each,
      );
      whole = r.whole;
    }

-- a label line, read backwards
label-back : (w : Want) (ns : List ℕ) (h : Sizes) (bs : List Block) (t : State) (l : List ℕ) (rest : List (List ℕ))
    (all : List Block) → is_label_line l ≡ true → after_label (at w ns h bs) ≡ Ok t → GoesOn t rest all →
    GoesOn (at w ns h bs) (l ∷ rest) all
unfolding after_label
label-back FirstLabel ns h bs t l rest all lab e g =
    let same : at HeadNumbers [] h bs ≡ t = cc in
    group-back ns h bs l rest all lab (rw (← same) at g)
label-back HeadNumbers ns h bs t l rest all lab e g = cc
label-back SecondLabel ns h bs t l rest all lab e g =
    let same : at Times [] h bs ≡ t = cc in
    let p : FromTimes (at Times [] h bs) rest all = rw (← same) at g in
    record { label = l; rest = rest; split = refl; label_is = lab; times = p }
label-back Times ns h bs t l rest all lab e g = cc

pub head-cases : (w : Want) (ns : List ℕ) (h : Sizes) (bs : List Block) (every : List ℕ) (t : State) →
    after_head_numbers (at w ns h bs) every ≡ Ok t
    → ((length every < 5) × (t ≡ at w every h bs))
    ⊎ ((length every ≡ 5) × (is_head every ≡ true) × (t ≡ at SecondLabel [] (sizes_of every) bs))
unfolding after_head_numbers
head-cases w ns h bs every t e = go (nat_lt 5 (length every)) (nat_lt (length every) 5) (is_head every) refl refl refl e
  where
    go : (p q r : Bool) → nat_lt 5 (length every) ≡ p → nat_lt (length every) 5 ≡ q → is_head every ≡ r →
        cond p (Err line.Head) (cond q (Ok (at w every h bs)) (cond r (Ok (at SecondLabel [] (sizes_of every) bs))
        (Err line.Limits))) ≡ Ok t
        → ((length every < 5) × (t ≡ at w every h bs))
        ⊎ ((length every ≡ 5) × (is_head every ≡ true) × (t ≡ at SecondLabel [] (sizes_of every) bs))
    go true q r p q' r' f = cc
    go false true r p q' r' f = inl (grind (arith, nat_tests), cc)
    go false false true p q' r' f = inr (grind (arith, nat_tests), r', cc)
    go false false false p q' r' f = cc

pub times-cases : (w : Want) (ns : List ℕ) (h : Sizes) (bs : List Block) (new every : List ℕ) (t : State) →
    after_times (at w ns h bs) new every ≡ Ok t
    → (list_all is_time new ≡ true)
    × (((length every < h.jobs * h.machines) × (t ≡ at w every h bs))
    ⊎ ((length every ≡ h.jobs * h.machines) × (t ≡ at FirstLabel [] h (bs ++ block_of h every ∷ []))))
unfolding after_times
times-cases w ns h bs new every t e =
    go (nat_lt (h.jobs * h.machines) (length every)) (list_all is_time new) (nat_lt (length every)
    (h.jobs * h.machines)) refl refl refl e
  where
    go : (p q r : Bool) → nat_lt (h.jobs * h.machines) (length every) ≡ p → list_all is_time new ≡ q →
        nat_lt (length every) (h.jobs * h.machines) ≡ r →
        cond p (Err line.Times) (cond (not q) (Err line.Limits) (cond r (Ok (at w every h bs)) (Ok (at FirstLabel [] h
        (bs ++ block_of h every ∷ []))))) ≡ Ok t
        → (list_all is_time new ≡ true)
        × (((length every < h.jobs * h.machines) × (t ≡ at w every h bs))
        ⊎ ((length every ≡ h.jobs * h.machines) × (t ≡ at FirstLabel [] h (bs ++ block_of h every ∷ []))))
    go true q r p q' r' f = cc
    go false false r p q' r' f = cc
    go false true true p q' r' f = (q', inl (grind (arith, nat_tests), cc))
    go false true false p q' r' f = (q', inr (grind (arith, nat_tests), cc))

sizes-fit : (ns : List ℕ) → length ns ≡ 5 → list_all small ns ≡ true → is_head ns ≡ true → SizesFit (sizes_of ns)
sizes-fit [] h s w = absurd (omega arith)
sizes-fit (a ∷ []) h s w = absurd (omega arith)
sizes-fit (a ∷ b ∷ []) h s w = absurd (omega arith)
sizes-fit (a ∷ b ∷ c ∷ []) h s w = absurd (omega arith)
sizes-fit (a ∷ b ∷ c ∷ d ∷ []) h s w = absurd (omega arith)
sizes-fit (a ∷ b ∷ c ∷ d ∷ e ∷ []) h s w = record {
  some_job = grind (arith, nat_tests);
  jobs = grind (arith, nat_tests);
  some_machine = grind (arith, nat_tests);
  machines = grind (arith, nat_tests);
  seed = grind (arith, nat_tests);
  upper = grind (arith, nat_tests);
  lower = grind (arith, nat_tests);
}
sizes-fit (a ∷ b ∷ c ∷ d ∷ e ∷ f ∷ ns) h s w = absurd (omega arith)

all-times : (ts : List ℕ) → list_all is_time ts ≡ true → AllByRecursion (λ t. t ≤ greatest_time) ts
all-times [] h = tt
all-times (t ∷ ts) h =
    let both = and_parts (is_time t) (list_all is_time ts) h in
    let first : is_time t ≡ true = both.0 in
    (grind (arith, nat_tests), all-times ts both.1)

-- a head and its times within the limits are a block
pub IsBlock-fits : (h : Sizes) (ts : List ℕ) → SizesFit h → length ts ≡ h.jobs * h.machines →
    list_all is_time ts ≡ true → IsBlock (block_of h ts)
IsBlock-fits h ts fit whole times = record {
  instance = record {
    some_job = fit.some_job;
    jobs = fit.jobs;
    some_machine = fit.some_machine;
    machines =
        fit.machines;
    count = whole;
    times = All-from_recursion (λ t. t ≤ greatest_time) ts (all-times ts times);
  };
  seed = fit.seed;
  upper = fit.upper;
  lower = fit.lower;
}

-- a number line, read backwards
number-back : (w : Want) (ns : List ℕ) (h : Sizes) (bs : List Block) (t : State) (l : List ℕ) (rest : List (List ℕ))
    (all : List Block) → is_number_line l ≡ true → Keeps (at w ns h bs) → after_numbers (at w ns h bs) l ≡ Ok t →
    Keeps t × (GoesOn t rest all → GoesOn (at w ns h bs) (l ∷ rest) all)
unfolding after_numbers
number-back FirstLabel ns h bs t l rest all num k e = cc
number-back HeadNumbers ns h bs t l rest all num k e =
    let read = bind_ok (line_numbers l) (λ new. after_head_numbers (at HeadNumbers ns h bs) (ns ++ new)) t e in
    let new = read.0 in
    let facts = line_numbers_ok l new read.1 in
    let smalls : list_all small (ns ++ new) ≡ true = rw (list_all-append, k, facts.1) refl in
    elim (head-cases HeadNumbers ns h bs (ns ++ new) t read.2) [
      | inl c ↦ (
        rw c.1 smalls,
        λ g. let p : FromHead (at HeadNumbers (ns ++ new) h bs) rest all = rw c.1 at g in record {
          head_lines = l ∷ p.head_lines;
          rest = p.rest;
          ns = p.ns;
          split = ap (λ x. l ∷ x) p.split;
          head_lines_are = (record { number = num; plain = facts.0 }, p.head_lines_are);
          numbers = rw (← facts.2) (sym (append_assoc ns new (flat_map numbers_of p.head_lines)) ∙ p.numbers);
          five = p.five;
          second = p.second;
        },
      )
      | inr c ↦ (
        rw c.2 (sizes-fit _ c.0 smalls c.1),
        λ g. let p : FromSecond (at SecondLabel [] (sizes_of (ns ++ new)) bs) rest all = rw c.2 at g in record {
          head_lines = l ∷ [];
          rest = rest;
          ns = ns ++ new;
          split = refl;
          head_lines_are = (record { number = num; plain = facts.0 }, tt);
          numbers = rw (← facts.2) (ap (λ x. ns ++ x) (append-nil new));
          five = c.0;
          second = p;
        },
      )
    ]
number-back SecondLabel ns h bs t l rest all num k e = cc
number-back Times ns h bs t l rest all num k e =
    let read = bind_ok (line_numbers l) (λ new. after_times (at Times ns h bs) new (ns ++ new)) t e in
    let new = read.0 in
    let facts = line_numbers_ok l new read.1 in
    let cases = times-cases Times ns h bs new (ns ++ new) t read.2 in
    let times : list_all is_time (ns ++ new) ≡ true = rw (list_all-append, k.1, cases.0) refl in
    elim cases.1 [
      | inl c ↦ (
        rw c.1 (k.0, times),
        λ g. let p : FromTimes (at Times (ns ++ new) h bs) rest all = rw c.1 at g in record {
          rows = l ∷ p.rows;
          times = p.times;
          groups = p.groups;
          more = p.more;
          split = ap (λ x. l ∷ x) p.split;
          rows_are = (record { number = num; plain = facts.0 }, p.rows_are);
          numbers = rw (← facts.2) (sym (append_assoc ns new (flat_map numbers_of p.rows)) ∙ p.numbers);
          within = p.within;
          each = p.each;
          whole = p.whole;
        },
      )
      | inr c ↦ (
        rw c.1 tt,
        λ g. let p : FromFirst (at FirstLabel [] h (bs ++ block_of h (ns ++ new) ∷ [])) rest all = rw c.1 at g in
            record {
              rows = l ∷ [];
              times = ns ++ new;
              groups = p.groups;
              more = p.more;
              split = ap (λ x. l ∷ x) p.split;
              rows_are = (record { number = num; plain = facts.0 }, tt);
              numbers = rw (← facts.2) (ap (λ x. ns ++ x) (append-nil new));
              within = IsBlock-fits h (ns ++ new) k.0 c.0 times;
              each = p.each;
              whole = p.whole ∙ append_assoc bs (block_of h (ns ++ new) ∷ []) p.more;
            },
      )
    ]

label-keeps : (w : Want) (ns : List ℕ) (h : Sizes) (bs : List Block) (t : State) → Keeps (at w ns h bs) →
    after_label (at w ns h bs) ≡ Ok t → Keeps t
unfolding after_label
label-keeps FirstLabel ns h bs t k e = let same : at HeadNumbers [] h bs ≡ t = cc in rw (← same) refl
label-keeps HeadNumbers ns h bs t k e = cc
label-keeps SecondLabel ns h bs t k e = let same : at Times [] h bs ≡ t = cc in rw (← same) (k, refl)
label-keeps Times ns h bs t k e = cc

pub solid-blank : (l : List ℕ) (ls : List (List ℕ)) → is_blank_line l ≡ true → solid (l ∷ ls) ≡ solid ls
solid-blank l ls e = ap (λ b. cond (not b) (l ∷ solid ls) (solid ls)) e

pub solid-more : (l : List ℕ) (ls : List (List ℕ)) → is_blank_line l ≡ false → solid (l ∷ ls) ≡ l ∷ solid ls
solid-more l ls e = ap (λ b. cond (not b) (l ∷ solid ls) (solid ls)) e

line-number : (s t : State) (l : List ℕ) (ls : List (List ℕ)) (all : List Block) (b : ℕ) (bs : List ℕ) →
    after_blanks l ≡ b ∷ bs → is_digit b ≡ true → Keeps s → after_line s l ≡ Ok t → Keeps t
    × (GoesOn t (solid ls) all → GoesOn s (solid (l ∷ ls)) all)
unfolding after_line
line-number s t l ls all b bs p q k e =
    let num : is_number_line l ≡ true = rw (p, is_number_line, q) refl in
    let f : after_numbers s l ≡ Ok t = rw (p, after_line, q) at e in
    let r = number-back s.want s.numbers s.head s.blocks t l (solid ls) all num k f in
    let solid_is = solid-more l ls (rw (p, is_blank_line) refl) in
    (r.0, λ g. let P : List (List ℕ) → Type 0 = λ x. GoesOn s x all in subst P (sym solid_is) (r.1 g))

line-label : (s t : State) (l : List ℕ) (ls : List (List ℕ)) (all : List Block) (b : ℕ) (bs : List ℕ) →
    after_blanks l ≡ b ∷ bs → is_digit b ≡ false → Keeps s → after_line s l ≡ Ok t → Keeps t
    × (GoesOn t (solid ls) all → GoesOn s (solid (l ∷ ls)) all)
unfolding after_line
line-label s t l ls all b bs p q k e =
    let lab : is_label_line l ≡ true = rw (p, is_label_line, q) refl in
    let f : after_label s ≡ Ok t = rw (p, after_line, q) at e in
    let solid_is = solid-more l ls (rw (p, is_blank_line) refl) in (
      label-keeps s.want s.numbers s.head s.blocks t k f,
      λ g. let P : List (List ℕ) → Type 0 = λ x. GoesOn s x all in
          subst P (sym solid_is) (label-back s.want s.numbers s.head s.blocks t l (solid ls) all lab f g),
    )

line-blank : (s t : State) (l : List ℕ) (ls : List (List ℕ)) (all : List Block) → after_blanks l ≡ [] → Keeps s →
    after_line s l ≡ Ok t → Keeps t × (GoesOn t (solid ls) all → GoesOn s (solid (l ∷ ls)) all)
unfolding after_line
line-blank s t l ls all p k e =
    let f : Ok s ≡ Ok t = rw (p, after_line) at e in
    let same : s ≡ t = cc in
    let solid_is = solid-blank l ls (rw (p, is_blank_line) refl) in (
      subst Keeps same k,
      λ g. let Q : List (List ℕ) → Type 0 = λ x. GoesOn s x all in
          subst Q (sym solid_is) (let P : State → Type 0 = λ x. GoesOn x (solid ls) all in subst P (sym same) g),
    )

-- a line, read backwards
line-back : (s t : State) (l : List ℕ) (ls : List (List ℕ)) (all : List Block) → Keeps s → after_line s l ≡ Ok t →
    Keeps t × (GoesOn t (solid ls) all → GoesOn s (solid (l ∷ ls)) all)
line-back s t l ls all k e = go (after_blanks l) refl
  where
    digit : (b : ℕ) (bs : List ℕ) → after_blanks l ≡ b ∷ bs → (d : Bool) → is_digit b ≡ d → Keeps t
        × (GoesOn t (solid ls) all → GoesOn s (solid (l ∷ ls)) all)
    digit b bs p true q = line-number s t l ls all b bs p q k e
    digit b bs p false q = line-label s t l ls all b bs p q k e

    go : (v : List ℕ) → after_blanks l ≡ v → Keeps t × (GoesOn t (solid ls) all → GoesOn s (solid (l ∷ ls)) all)
    go [] p = line-blank s t l ls all p k e
    go (b ∷ bs) p = digit b bs p (is_digit b) refl

pub line-keeps : (s t : State) (l : List ℕ) → Keeps s → after_line s l ≡ Ok t → Keeps t
line-keeps s t l k e = (line-back s t l [] [] k e).0

-- what is read after a line
pub walk-more : (s t : State) (n : ℕ) (l : List ℕ) (ls : List (List ℕ)) → after_line s l ≡ Ok t →
    walk t (n + 1) ls ≡ walk s n (l ∷ ls)
unfolding walk
walk-more s t n l ls e = ap (λ r. placed (n + 1) r >>= λ u. walk u (n + 1) ls) (sym e)

at-end : (w : Want) (ns : List ℕ) (h : Sizes) (bs : List Block) (n : ℕ) (all : List Block) →
    at_end (at w ns h bs) n ≡ Ok all → GoesOn (at w ns h bs) [] all
unfolding at_end
at-end FirstLabel ns h bs n all e =
    elim (chosen (eqb (length bs) 0) (Err text.NoBlock) (Ok bs) (Ok all) e) [
      | inl c ↦ let bad : Err text.NoBlock ≡ Ok all = c.1 in cc
      | inr c ↦ let same : Ok bs ≡ Ok all = c.1 in
          record {
            groups = [];
            more = [];
            split = refl;
            each = tt;
            whole =
                (let back : all ≡ bs = cc in back ∙ sym (append-nil bs));
          }
    ]
at-end HeadNumbers ns h bs n all e = cc
at-end SecondLabel ns h bs n all e = cc
at-end Times ns h bs n all e = cc

sound : (ls : List (List ℕ)) (s : State) (n : ℕ) (all : List Block) → Keeps s → walk s n ls ≡ Ok all →
    GoesOn s (solid ls) all
unfolding walk
sound [] s n all k e = at-end s.want s.numbers s.head s.blocks (n + 1) all e
sound (l ∷ ls) s n all k e =
    let read = bind_ok (placed (n + 1) (after_line s l)) (λ t. walk t (n + 1) ls) all e in
    let back = line-back s read.0 l ls all k (placed_ok (n + 1) (after_line s l) read.0 read.1) in
    back.1 (sound ls read.0 (n + 1) all back.0 read.2)

end-some : (w : Want) (ns : List ℕ) (h : Sizes) (bs : List Block) (n : ℕ) (all : List Block) →
    at_end (at w ns h bs) n ≡ Ok all → 0 < length all
unfolding at_end
end-some FirstLabel ns h bs n all e =
    elim (chosen (eqb (length bs) 0) (Err text.NoBlock) (Ok bs) (Ok all) e) [
      | inl c ↦ let bad : Err text.NoBlock ≡ Ok all = c.1 in cc
      | inr c ↦ let same : Ok bs ≡ Ok all = c.1 in let back : bs ≡ all = cc in let test : eqb (length bs) 0 ≡ false =
          c.0 in rw (← back) (grind (arith, nat_tests))
    ]
end-some HeadNumbers ns h bs n all e = cc
end-some SecondLabel ns h bs n all e = cc
end-some Times ns h bs n all e = cc

walk-some : (ls : List (List ℕ)) (s : State) (n : ℕ) (all : List Block) → walk s n ls ≡ Ok all → 0 < length all
unfolding walk
walk-some [] s n all e = end-some s.want s.numbers s.head s.blocks (n + 1) all e
walk-some (l ∷ ls) s n all e =
    let read = bind_ok (placed (n + 1) (after_line s l)) (λ t. walk t (n + 1) ls) all e in
    walk-some ls read.0 (n + 1) all read.2

-- what the walk accepts is in the grammar
pub Reads-walk : (text : List ℕ) (all : List Block) → walk start 0 (lines_of text) ≡ Ok all → Reads text all
Reads-walk text all e =
    let g : FromFirst start (solid (lines_of text)) all = sound (lines_of text) start 0 all tt e in
    let same : all ≡ g.more = g.whole in
    let P : List Block → Type 0 = λ x. AreGroups g.groups x in
    record {
      groups = g.groups;
      split = g.split;
      each = subst P (sym same) g.each;
      some =
          walk-some (lines_of text) start 0 all e;
    }
