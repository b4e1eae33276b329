-- What the rest of a text holds, from a state of its reading.
use Rattle.std.proofs.Common.{◌≡◌, ℕ, Bool, true, false, not, cond}
use Rattle.std.proofs.Common.{nat_le, List, Ok, Err, Result, ◌++◌, ◌∷◌, [], length, filter, flat_map, slice_index}
use Rattle.std.proofs.Common.{arith, refl, sym, inl, inr, ◌⊎◌}
use Rattle.std.specs.List.{list_all, AllByRecursion}
use Rattle.flow_text.specs.Lines.{is_plain, numbers_of, is_blank_line, is_label_line}
use Rattle.flow_text.specs.declared.text.block.Block.{Block}
use Rattle.flow_limits.specs.Limits.{greatest_number, greatest_time}
use Rattle.flow_text.specs.internal.TextWalk.{◌>>=◌}
use Rattle.flow_text.specs.internal.TextState.{State, Sizes, sizes_of}
use Rattle.flow_text.specs.internal.TextWalk.{placed}
use Rattle.flow_text.specs.internal.TextWalk.{line_numbers, block_of}
use Rattle.flow_text.specs.Text.{IsNumbers, IsBlock, AreGroups}
use Rattle.flow_text.specs.declared.text.fault.LineFault.{LineFault}
use Rattle.flow_text.specs.declared.text.fault.LineFault.TheVariants as line
use Rattle.flow_text.specs.declared.text.progress.Want.{Want}
use Rattle.flow_text.specs.declared.text.progress.Want.TheVariants.{FirstLabel, HeadNumbers, SecondLabel, Times}

-- lines that are not blank
abbrev pub solid : List (List ℕ) → List (List ℕ)
solid ls = filter (λ l. not (is_blank_line l)) ls

-- the rest of the lines goes on from the state to all these blocks
pub record FromFirst (s : State) (ls : List (List ℕ)) (all : List Block) : Type 0 where
  pub groups : List (List (List ℕ))
  pub more : List Block
  pub split : ls ≡ flat_map (λ g. g) groups
  pub each : AreGroups groups more
  pub whole : all ≡ s.blocks ++ more

pub record FromTimes (s : State) (ls : List (List ℕ)) (all : List Block) : Type 0 where
  pub rows : List (List ℕ)
  pub times : List ℕ
  pub groups : List (List (List ℕ))
  pub more : List Block
  pub split : ls ≡ rows ++ flat_map (λ g. g) groups
  pub rows_are : AllByRecursion IsNumbers rows
  pub numbers : s.numbers ++ flat_map numbers_of rows ≡ times
  pub within : IsBlock (block_of s.head times)
  pub each : AreGroups groups more
  pub whole : all ≡ s.blocks ++ block_of s.head times ∷ more

pub record FromSecond (s : State) (ls : List (List ℕ)) (all : List Block) : Type 0 where
  pub label : List ℕ
  pub rest : List (List ℕ)
  pub split : ls ≡ label ∷ rest
  pub label_is : is_label_line label ≡ true
  pub times : FromTimes (record s { want = Times; numbers = [] }) rest all

pub record FromHead (s : State) (ls : List (List ℕ)) (all : List Block) : Type 0 where
  pub head_lines : List (List ℕ)
  pub rest : List (List ℕ)
  pub ns : List ℕ
  pub split : ls ≡ head_lines ++ rest
  pub head_lines_are : AllByRecursion IsNumbers head_lines
  pub numbers : s.numbers ++ flat_map numbers_of head_lines ≡ ns
  pub five : length ns ≡ 5
  pub second : FromSecond (record s { want = SecondLabel; numbers = []; head = sizes_of ns }) rest all

abbrev pub GoesOn : State → List (List ℕ) → List Block → Type 0
GoesOn s ls all = elim s.want [
  | FirstLabel ↦ FromFirst s ls all
  | HeadNumbers ↦ FromHead s ls all
  | SecondLabel ↦ FromSecond s ls all
  | Times ↦ FromTimes s ls all
]

-- whether a number may stand in a text, and be a time
abbrev pub small : ℕ → Bool
small n = nat_le n greatest_number

abbrev pub is_time : ℕ → Bool
is_time t = nat_le t greatest_time

pub bind_ok : {A B E : Type 0} (r : Result A E) (f : A → Result B E) (y : B) → (r >>= f) ≡ Ok y → (x : A) × (r ≡ Ok x)
    × (f x ≡ Ok y)
bind_ok (Ok x) f y e = (x, refl, e)
bind_ok (Err d) f y e = cc

pub placed_ok : (n : ℕ) (r : Result State LineFault) (t : State) → placed n r ≡ Ok t → r ≡ Ok t
placed_ok n (Ok s) t e = cc
placed_ok n (Err d) t e = cc

-- which way a test went
pub chosen : {A : Type 0} (b : Bool) (x y z : A) → cond b x y ≡ z → ((b ≡ true) × (x ≡ z)) ⊎ ((b ≡ false) × (y ≡ z))
chosen true x y z e = inl (refl, e)
chosen false x y z e = inr (refl, e)

pub five : (ns : List ℕ) → length ns ≡ 5 → ns ≡ slice_index ns 0 ∷ slice_index ns 1 ∷ slice_index ns 2
    ∷ slice_index ns 3 ∷ slice_index ns 4 ∷ []
five [] h = absurd (omega arith)
five (a ∷ []) h = absurd (omega arith)
five (a ∷ b ∷ []) h = absurd (omega arith)
five (a ∷ b ∷ c ∷ []) h = absurd (omega arith)
five (a ∷ b ∷ c ∷ d ∷ []) h = absurd (omega arith)
five (a ∷ b ∷ c ∷ d ∷ e ∷ []) h = refl
five (a ∷ b ∷ c ∷ d ∷ e ∷ f ∷ ns) h = absurd (omega arith)

pub line_numbers_ok : (l : List ℕ) (ns : List ℕ) → line_numbers l ≡ Ok ns → (is_plain l ≡ true)
    × (list_all small ns ≡ true) × (ns ≡ numbers_of l)
unfolding line_numbers
line_numbers_ok l ns e = go (is_plain l) (list_all small (numbers_of l)) refl refl e
  where
    go : (p q : Bool) → is_plain l ≡ p → list_all small (numbers_of l) ≡ q →
        cond (not p) (Err line.Byte) (cond (not q) (Err line.Number) (Ok (numbers_of l))) ≡ Ok ns → (is_plain l ≡ true)
        × (list_all small ns ≡ true) × (ns ≡ numbers_of l)
    go true true p q f = let same : numbers_of l ≡ ns = cc in (p, rw (← same) q, sym same)
    go true false p q f = cc
    go false q p q' f = cc

-- the state with these parts
abbrev pub at : Want → List ℕ → Sizes → List Block → State
at w ns h bs = record { want = w; numbers = ns; head = h; blocks = bs }
