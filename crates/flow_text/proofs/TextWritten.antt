-- What is written is read again.
use Rattle.std.proofs.Common.{◌≡◌, ◌∙◌, ap, ◌<◌, ◌≤◌, ◌+◌, ◌-◌, ◌*◌, ◌^◌, ℕ, zero, suc, true, false}
use Rattle.std.proofs.Common.{List, ◌++◌, ◌∷◌, [], length, map, flat_map, get_or, take, drop}
use Rattle.std.proofs.Common.{codes, arith, refl, sym, append_assoc, append-nil, length-drop}
use Rattle.std.specs.List.{AllByRecursion}
use Rattle.std.proofs.lemmas.List.{length-take-le}
use Rattle.std.proofs.Math.Nat.{mul-le-mul_right}
use Rattle.std.proofs.Math.Seq.{take-add, take-length}
use Rattle.flow_text.specs.Lines.{lines_of, after_blanks, numbers_of, is_blank_line, is_label_line}
use Rattle.flow_text.specs.Lines.{is_number_line}
use Rattle.flow_shop.specs.Shop.{Shop, IsWithinLimits, numbers, time, times_on}
use Rattle.flow_limits.specs.Limits.{greatest_time}
use Rattle.flow_shop.proofs.JobsLeft.{numbers-more}
use Rattle.std.proofs.lemmas.List.{get_or-take, get_or-drop}
use Rattle.std.proofs.lemmas.List.Elements.{recursion_from_All}
use Rattle.std.proofs.lemmas.List.FromFn.{get_or-map-range_with_len, length-map-range_with_len}
use Rattle.std.proofs.lemmas.Grind.{same_number_lists, flat_map-append}
use Rattle.std.specs.List.{range_with_len}
use Rattle.flow_text.specs.declared.text.block.Block.{Block}
use Rattle.flow_text.specs.Written.{row_text, rows_text, head_label, times_label, written}
use Rattle.flow_text.specs.Text.{head_of, IsNumbers, IsBlock, Reads}
use Rattle.flow_text.proofs.TextGrammar.{solid-more}
use Rattle.flow_text.proofs.RestOfText.{solid}
use Rattle.flow_text.proofs.RowNumbers.{row_line, numbers_of-row, row-numbers, lines_of-row, lines_of-piece}
use Rattle.flow_text.proofs.RowNumbers.{numbers_of-piece, piece-numbers}

all-drop : (P : ℕ → Type 0) (i : ℕ) (xs : List ℕ) → AllByRecursion P xs → AllByRecursion P (drop i xs)
all-drop P zero [] h = tt
all-drop P (suc i) [] h = tt
all-drop P zero (x ∷ xs) h = h
all-drop P (suc i) (x ∷ xs) h = all-drop P i xs h.1

all-take : (P : ℕ → Type 0) (i : ℕ) (xs : List ℕ) → AllByRecursion P xs → AllByRecursion P (take i xs)
all-take P zero [] h = tt
all-take P (suc i) [] h = tt
all-take P zero (x ∷ xs) h = tt
all-take P (suc i) (x ∷ xs) h = (h.0, all-take P i xs h.1)

all-push : (xs : List (List ℕ)) (y : List ℕ) → AllByRecursion IsNumbers xs → IsNumbers y →
    AllByRecursion IsNumbers (xs ++ y ∷ [])
all-push [] y h k = (k, tt)
all-push (x ∷ xs) y h k = (h.0, all-push xs y h.1 k)

flat_map-push : (f : List ℕ → List ℕ) (xs : List (List ℕ)) (y : List ℕ) →
    flat_map f (xs ++ y ∷ []) ≡ flat_map f xs ++ f y
flat_map-push f [] y = append-nil (f y)
flat_map-push f (x ∷ xs) y = ap (λ z. f x ++ z) (flat_map-push f xs y) ∙ sym (append_assoc (f x) (flat_map f xs) (f y))

row_lines : ℕ → ℕ → List ℕ → List (List ℕ)
row_lines jobs zero ts = []
row_lines jobs (suc k) ts = row_lines jobs k ts ++ row_line (take jobs (drop (k * jobs) ts)) ∷ []

piece-some : (jobs k : ℕ) (ts : List ℕ) → 1 ≤ jobs → suc k * jobs ≤ length ts →
    0 < length (take jobs (drop (k * jobs) ts))
piece-some jobs k ts h fits =
    let room : jobs ≤ length ts - k * jobs = omega arith in
    let long : length (take jobs (drop (k * jobs) ts)) ≡ jobs =
    length-take-le jobs (drop (k * jobs) ts) (omega (arith, length-drop (k * jobs) ts)) in
    omega arith

-- the rows of the first machines, cut from the times
piece_rows : ℕ → ℕ → List ℕ → List ℕ
piece_rows jobs zero ts = []
piece_rows jobs (suc k) ts = piece_rows jobs k ts ++ row_text (take jobs (drop (k * jobs) ts))

lines_of-rows : (jobs k : ℕ) (ts rest : List ℕ) → 1 ≤ jobs → k * jobs ≤ length ts →
    AllByRecursion (λ m. m < 2 ^ 64) ts → lines_of (piece_rows jobs k ts ++ rest) ≡ row_lines jobs k ts ++ lines_of rest
unfolding piece_rows row_lines
lines_of-rows jobs zero ts rest h fits small = refl
lines_of-rows jobs (suc k) ts rest h fits small =
    let piece = take jobs (drop (k * jobs) ts) in
    let some = piece-some jobs k ts h fits in
    let smalls = all-take (λ m. m < 2 ^ 64) jobs (drop (k * jobs) ts) (all-drop (λ m. m
    < 2 ^ 64) (k * jobs) ts small) in
    ap lines_of (append_assoc (piece_rows jobs k ts) (row_text piece) rest)
    ∙ (lines_of-rows jobs k ts (row_text piece ++ rest) h (omega arith) small
    ∙ (ap (λ z. row_lines jobs k ts ++ z) (lines_of-piece piece rest some smalls)
    ∙ sym (append_assoc (row_lines jobs k ts) (row_line piece ∷ []) (lines_of rest))))

rows-numbers : (jobs k : ℕ) (ts : List ℕ) → 1 ≤ jobs → k * jobs ≤ length ts → AllByRecursion (λ m. m < 2 ^ 64) ts →
    AllByRecursion IsNumbers (row_lines jobs k ts) × (flat_map numbers_of (row_lines jobs k ts) ≡ take (k * jobs) ts)
unfolding row_lines
rows-numbers jobs zero ts h fits small = (tt, let none : 0 * jobs ≡ 0 = omega arith in ap (λ n. take n ts) (sym none))
rows-numbers jobs (suc k) ts h fits small =
    let piece = take jobs (drop (k * jobs) ts) in
    let some = piece-some jobs k ts h fits in
    let smalls = all-take (λ m. m < 2 ^ 64) jobs (drop (k * jobs) ts) (all-drop (λ m. m
    < 2 ^ 64) (k * jobs) ts small) in
    let before = rows-numbers jobs k ts h (omega arith) small in
    let next : k * jobs + jobs ≡ suc k * jobs = omega arith in (
      all-push (row_lines jobs k ts) (row_line piece) before.0 (piece-numbers piece some smalls),
      flat_map-push numbers_of (row_lines jobs k ts) (row_line piece)
          ∙ (ap (λ z. z ++ numbers_of (row_line piece)) before.1
          ∙ (ap (λ z. take (k * jobs) ts ++ z) (numbers_of-piece piece some smalls)
          ∙ (sym (take-add (k * jobs) jobs ts) ∙ ap (λ n. take n ts) next))),
    )

not-blank : (l : List ℕ) → is_number_line l ≡ true → is_blank_line l ≡ false
not-blank l h = go (after_blanks l) refl
  where
    go : (v : List ℕ) → after_blanks l ≡ v → is_blank_line l ≡ false
    go [] e = let bad : false ≡ true = rw (e, is_number_line) at h in cc
    go (b ∷ bs) e = rw (e, is_blank_line) refl

solid-rows : (rows : List (List ℕ)) → AllByRecursion IsNumbers rows → solid rows ≡ rows
solid-rows [] h = refl
solid-rows (l ∷ rows) h = solid-more l rows (not-blank l h.0.number) ∙ ap (λ z. l ∷ z) (solid-rows rows h.1)

first_label : List ℕ
first_label = codes "number of jobs, number of machines, initial seed, upper bound and lower bound :"

second_label : List ℕ
second_label = codes "processing times :"

lines_of-first : (rest : List ℕ) → lines_of (head_label ++ rest) ≡ first_label ∷ lines_of rest
unfolding head_label first_label
lines_of-first rest = refl

lines_of-second : (rest : List ℕ) → lines_of (times_label ++ rest) ≡ second_label ∷ lines_of rest
unfolding times_label second_label
lines_of-second rest = refl

first-is : (is_label_line first_label ≡ true) × (is_blank_line first_label ≡ false)
unfolding first_label
first-is = (refl, refl)

second-is : (is_label_line second_label ≡ true) × (is_blank_line second_label ≡ false)
unfolding second_label
second-is = (refl, refl)

-- numbers within a limit are printed
small-numbers : (ts : List ℕ) → AllByRecursion (λ t. t ≤ greatest_time) ts → AllByRecursion (λ t. t < 2 ^ 64) ts
small-numbers [] h = tt
small-numbers (t ∷ ts) h = let first : t ≤ greatest_time = h.0 in (omega (arith, first), small-numbers ts h.1)

small-times : (shop : Shop) → IsWithinLimits shop → AllByRecursion (λ t. t < 2 ^ 64) shop.times
small-times shop w = small-numbers shop.times (recursion_from_All (λ t. t ≤ greatest_time) shop.times w.times)

head-small : (block : Block) → IsBlock block → AllByRecursion (λ m. m < 2 ^ 64) (head_of block)
head-small block w = (
  omega (arith, w.instance.jobs),
  (
    omega (arith, w.instance.machines),
    (
      omega (arith, w.seed),
      (omega (arith, w.upper), (omega (arith, w.lower), tt)),
    ),
  ),
)

-- a row is a piece of the times
pub row-piece : (shop : Shop) (k : ℕ) → k * shop.jobs + shop.jobs ≤ length shop.times →
    times_on shop (suc k) ≡ take shop.jobs (drop (k * shop.jobs) shop.times)
row-piece shop k fits =
    let f : ℕ → ℕ = λ job. time shop job (suc k) in
    let count : shop.jobs + 1 - 1 ≡ shop.jobs = omega arith in
    let here : times_on shop (suc k) ≡ map f (range_with_len 1 shop.jobs) =
    ap (λ n. map f (range_with_len 1 n)) count in
    let long : length (map f (range_with_len 1 shop.jobs)) ≡ shop.jobs = length-map-range_with_len f 1 shop.jobs in
    let there : length (take shop.jobs (drop (k * shop.jobs) shop.times))
    ≡ shop.jobs = length-take-le shop.jobs (drop (k * shop.jobs) shop.times) (omega (
      arith,
      length-drop
          (k * shop.jobs) shop.times,
    )) in
    here ∙ same_number_lists (map f (range_with_len 1 shop.jobs)) (take shop.jobs (drop (k * shop.jobs) shop.times))
    (long ∙ sym there) (λ i below. each i (omega (arith, below, long)))
  where
    each : (i : ℕ) → i < shop.jobs → get_or (map (λ job. time shop job (suc k)) (range_with_len 1 shop.jobs)) i 0
        ≡ get_or (take shop.jobs (drop (k * shop.jobs) shop.times)) i 0
    each i below =
        let machine : suc k - 1 ≡ k = omega arith in
        let job : 1 + i - 1 ≡ i = omega arith in
        let place : (suc k - 1) * shop.jobs + (1 + i - 1) ≡ k * shop.jobs + i =
        ap (λ a. a * shop.jobs + (1 + i - 1)) machine ∙ ap (λ b. k * shop.jobs + b) job in
        get_or-map-range_with_len (λ job. time shop job (suc k)) 1 shop.jobs i (1 + i) 0 below refl
        ∙ ap (λ p. get_or shop.times p 0) place
        ∙ sym (get_or-take shop.jobs (drop (k * shop.jobs) shop.times) i 0 below
        ∙ get_or-drop (k * shop.jobs) shop.times i 0)

pub rows_text-more : (shop : Shop) (k : ℕ) →
    rows_text shop (suc k) ≡ rows_text shop k ++ row_text (times_on shop (suc k))
rows_text-more shop k =
    let f : ℕ → List ℕ = λ j. row_text (times_on shop j) in
    ap (flat_map f) (numbers-more k) ∙ flat_map-append f (numbers 1 k) (suc k ∷ [])
    ∙ ap (λ z. flat_map f (numbers 1 k) ++ z) (append-nil (row_text (times_on shop (suc k))))

rows-pieces : (shop : Shop) (k : ℕ) → k * shop.jobs ≤ length shop.times →
    rows_text shop k ≡ piece_rows shop.jobs k shop.times
unfolding piece_rows
rows-pieces shop zero fits = refl
rows-pieces shop (suc k) fits =
    rows_text-more shop k
    ∙ ap (λ z. z ++ row_text (times_on shop (suc k))) (rows-pieces shop k (omega arith))
    ∙ ap (λ z. piece_rows shop.jobs k shop.times ++ row_text z) (row-piece shop k (omega arith))

lines_of-written : (block : Block) → IsBlock block → lines_of (written block) ≡ first_label ∷ row_line (head_of block)
    ∷ second_label ∷ row_lines block.instance.jobs block.instance.machines block.instance.times
lines_of-written block w =
    let shop = block.instance in
    let rows = rows_text shop shop.machines in
    let head = row_text (head_of block) in
    let fits : shop.machines * shop.jobs ≤ length shop.times = omega (arith, w.instance.count) in
    let smalls = small-times shop w.instance in
    let pieces : rows ≡ piece_rows shop.jobs shop.machines shop.times = rows-pieces shop shop.machines fits in
    let last : lines_of rows ≡ row_lines shop.jobs shop.machines shop.times =
    ap lines_of (pieces ∙ sym (append-nil (piece_rows shop.jobs shop.machines shop.times)))
    ∙ lines_of-rows shop.jobs shop.machines shop.times [] w.instance.some_job fits smalls
    ∙ append-nil (row_lines shop.jobs shop.machines shop.times) in
    let shape : written block ≡ head_label ++ (head ++ (times_label ++ rows)) =
    append_assoc (head_label ++ head) times_label rows ∙ append_assoc head_label head (times_label ++ rows) in
    ap lines_of shape
    ∙ lines_of-first (head ++ (times_label ++ rows))
    ∙ ap (λ z. first_label ∷ z) (lines_of-row shop.jobs (shop.machines ∷ block.seed ∷ block.upper ∷ block.lower
    ∷ []) (times_label ++ rows) (head-small block w))
    ∙ ap (λ z. first_label ∷ row_line (head_of block) ∷ z) (lines_of-second rows)
    ∙ ap (λ z. first_label ∷ row_line (head_of block) ∷ second_label ∷ z) last

-- what is written for a block reads as that block alone
pub Reads-written : (block : Block) → IsBlock block → Reads (written block) (block ∷ [])
Reads-written block w =
    let shop = block.instance in
    let fits : shop.machines * shop.jobs ≤ length shop.times = omega (arith, w.instance.count) in
    let smalls = small-times shop w.instance in
    let rows = rows-numbers shop.jobs shop.machines shop.times w.instance.some_job fits smalls in
    let head = row-numbers shop.jobs (shop.machines ∷ block.seed ∷ block.upper ∷ block.lower
    ∷ []) (head-small block w) in
    let whole : shop.machines * shop.jobs ≡ length shop.times = omega (arith, w.instance.count) in
    let lines = row_lines shop.jobs shop.machines shop.times in
    let group = first_label ∷ row_line (head_of block) ∷ second_label ∷ lines in
    let left : solid group ≡ group =
    solid-more first_label (row_line (head_of block) ∷ second_label ∷ lines) first-is.1
    ∙ ap (λ z. first_label ∷ z) (solid-more (row_line (head_of block)) (second_label
    ∷ lines) (not-blank (row_line (head_of block)) head.number)
    ∙ ap (λ z. row_line (head_of block) ∷ z) (solid-more second_label lines second-is.1
    ∙ ap (λ z. second_label ∷ z) (solid-rows lines rows.0))) in
    record {
      groups = group ∷ [];
      split = ap solid (lines_of-written block w) ∙ (left ∙ sym (append-nil group));
      each = (
        record {
          first_label = first_label;
          head_lines = row_line (head_of block) ∷ [];
          second_label = second_label;
          rows = lines;
          split = refl;
          first_is = first-is.0;
          second_is = second-is.0;
          head_lines_are = (head, tt);
          rows_are = rows.0;
          head = append-nil (numbers_of (row_line (head_of block)))
              ∙ numbers_of-row shop.jobs (shop.machines ∷ block.seed ∷ block.upper ∷ block.lower
              ∷ []) (head-small block w);
          times = rows.1 ∙ (ap (λ n. take n shop.times) whole ∙ take-length shop.times);
          within = w;
        },
        tt,
      );
      some = omega arith;
    }

-- one more row
pub rows-push : (shop : Shop) (k jobs : ℕ) (before old new times : List ℕ) → IsWithinLimits shop → k < shop.machines →
    jobs ≡ shop.jobs → times ≡ shop.times → old ≡ before ++ rows_text shop k →
    new ≡ old ++ row_text (take (k * jobs + jobs - k * jobs) (drop (k * jobs) times)) →
    new ≡ before ++ rows_text shop (k + 1)
rows-push shop k jobs before old new times w below same all e f =
    let inside : (k + 1) * shop.jobs ≤ shop.machines * shop.jobs =
    mul-le-mul_right shop.jobs (let h : k + 1 ≤ shop.machines = omega arith in h) in
    let fits : k * shop.jobs + shop.jobs ≤ length shop.times = omega (arith, inside, w.count) in
    let count : k * jobs + jobs - k * jobs ≡ shop.jobs = omega (arith, same) in
    let piece : take (k * jobs + jobs - k * jobs) (drop (k * jobs) times) ≡ times_on shop (suc k) =
    ap (λ n. take n (drop (k * jobs) times)) count
    ∙ ap (λ n. take shop.jobs (drop (k * n) times)) same
    ∙ ap (λ ts. take shop.jobs (drop (k * shop.jobs) ts)) all
    ∙ sym (row-piece shop k fits) in
    let next : suc k ≡ k + 1 = omega arith in
    f
    ∙ ap (λ o. o ++ row_text (take (k * jobs + jobs - k * jobs) (drop (k * jobs) times))) e
    ∙ ap (λ p. (before ++ rows_text shop k) ++ row_text p) piece
    ∙ append_assoc before (rows_text shop k) (row_text (times_on shop (suc k)))
    ∙ ap (λ z. before ++ z) (sym (rows_text-more shop k))
    ∙ ap (λ n. before ++ rows_text shop n) next
