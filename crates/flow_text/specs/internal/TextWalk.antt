-- The states in which a text is read line by line. Only contracts of private functions speak of them: which blocks a
-- text reads as stands in Text, and what its first fault is in TextFaults.
use Rattle.std.specs.Prelude.{◌≡◌, ◌≢◌, ℕ, ◌+◌, ◌*◌, if◌then◌else◌, not, ◌==◌, nat_lt, List, [], ◌∷◌, ◌++◌}
use Rattle.std.specs.Prelude.{length, Result, Ok, Err}
use Rattle.flow_text.specs.Lines.{after_blanks, is_digit, is_plain, numbers_of, are_small}
use Rattle.flow_text.specs.TextFaults.{is_head, are_times}
use Rattle.flow_text.specs.declared.text.block.Block.{Block}
use Rattle.flow_text.specs.declared.text.fault.LineFault.{LineFault}
use Rattle.flow_text.specs.declared.text.fault.LineFault.TheVariants as line
use Rattle.flow_text.specs.declared.text.fault.TextFault.{TextFault}
use Rattle.flow_text.specs.declared.text.fault.TextFault.TheVariants as text
use Rattle.flow_text.specs.declared.text.progress.Want.TheVariants.{FirstLabel, HeadNumbers, SecondLabel, Times}
use Rattle.flow_text.specs.internal.TextState.{Sizes, sizes_of, State}

-- what a second step returns for the value of the first, or the fault of the first
infixl 10 ◌>>=◌
abbrev pub ◌>>=◌ : {A B E : Type 0} → Result A E → (A → Result B E) → Result B E
(Ok x) >>= f = f x
(Err e) >>= f = Err e

-- what a call returned, seen by a view, is what a definition gives; the fault `memory` says nothing of it
abbrev pub Gives : {X Y E : Type 0} → E → (X → Y) → Result X E → Result Y E → Type 0
Gives memory view (Ok x) read = read ≡ Ok (view x)
Gives memory view (Err e) read = e ≢ memory → read ≡ Err e

-- a number line's numbers, or what is wrong with its bytes
unfoldable pub line_numbers : List ℕ → Result (List ℕ) LineFault
line_numbers l =
    if not (is_plain l) then Err line.Byte
    else (if not (are_small (numbers_of l)) then Err line.Number else Ok (numbers_of l))

-- the block of a head and its times
abbrev pub block_of : Sizes → List ℕ → Block
block_of head times = record {
  seed = head.seed;
  upper = head.upper;
  lower = head.lower;
  instance = record { jobs = head.jobs; machines = head.machines; times = times };
}

-- the state after a label line, or its fault
unfoldable pub after_label : State → Result State LineFault
after_label s = elim s.want [
  | FirstLabel ↦ Ok (record s { want = HeadNumbers; numbers = [] })
  | HeadNumbers ↦ Err line.Head
  | SecondLabel ↦ Ok (record s { want = Times; numbers = [] })
  | Times ↦ Err line.Times
]

-- the state when the numbers of a head so far are these, or the fault
unfoldable pub after_head_numbers : State → List ℕ → Result State LineFault
after_head_numbers s ns = if nat_lt 5 (length ns) then Err line.Head
    else (if nat_lt (length ns) 5 then Ok (record s { numbers = ns })
    else (if is_head ns then Ok (record s { want = SecondLabel; numbers = []; head = sizes_of ns })
    else Err line.Limits))

-- the state when all times of a block so far are these, the new ones of the last line included, or the fault
unfoldable pub after_times : State → List ℕ → List ℕ → Result State LineFault
after_times s new all = let wanted = s.head.jobs * s.head.machines in
    if nat_lt wanted (length all) then Err line.Times
    else (if not (are_times new) then Err line.Limits
    else (if nat_lt (length all) wanted then Ok (record s { numbers = all })
    else Ok (record s { want = FirstLabel; numbers = []; blocks = s.blocks ++ block_of s.head all ∷ [] })))

-- the state after a number line, or its fault
unfoldable pub after_numbers : State → List ℕ → Result State LineFault
after_numbers s l = elim s.want [
  | FirstLabel ↦ Err line.Label
  | HeadNumbers ↦ line_numbers l >>= λ ns. after_head_numbers s (s.numbers ++ ns)
  | SecondLabel ↦ Err line.Label
  | Times ↦ line_numbers l >>= λ ns. after_times s ns (s.numbers ++ ns)
]

-- the state after a line, or its fault
unfoldable pub after_line : State → List ℕ → Result State LineFault
after_line s l = elim (after_blanks l) [
  | [] ↦ Ok s
  | b ∷ bs ↦ if is_digit b then after_numbers s l else after_label s
]

-- the fault of a line, at its place
abbrev pub at_line : LineFault → ℕ → TextFault
at_line line.Memory n = text.Memory
at_line line.Label n = text.Label n
at_line line.Byte n = text.Byte n
at_line line.Number n = text.Number n
at_line line.Head n = text.Head n
at_line line.Limits n = text.Limits n
at_line line.Times n = text.Times n

-- what is returned at the end of a text, where the next line would have this number
unfoldable pub at_end : State → ℕ → Result (List Block) TextFault
at_end s n = elim s.want [
  | FirstLabel ↦ if length s.blocks == 0 then Err text.NoBlock else Ok s.blocks
  | HeadNumbers ↦ Err (text.Head n)
  | SecondLabel ↦ Err (text.Label n)
  | Times ↦ Err (text.Times n)
]

-- what a line gives, with the number of the line at its fault
abbrev pub placed : ℕ → Result State LineFault → Result State TextFault
placed n (Ok s) = Ok s
placed n (Err e) = Err (at_line e n)

-- what is returned for the lines after n lines
unfoldable pub walk : State → ℕ → List (List ℕ) → Result (List Block) TextFault
walk s n [] = at_end s (n + 1)
walk s n (l ∷ ls) = placed (n + 1) (after_line s l) >>= λ t. walk t (n + 1) ls
