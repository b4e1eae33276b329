-- The first fault of a text. The lines before a line decide what is wanted at it. They are given in reverse order.
use Rattle.std.specs.Prelude.{ℕ, ◌+◌, ◌*◌, ◌%◌, Bool, true, not, ◌&&◌, ◌==◌, nat_lt, nat_le, if◌then◌else◌, List, []}
use Rattle.std.specs.Prelude.{◌∷◌, ◌++◌, length, Option, None, Some, slice_index}
use Rattle.std.specs.Int.{is_in_range}
use Rattle.std.specs.List.{list_all}
use Rattle.std.specs.Option.{option_or}
use Rattle.flow_shop.specs.Refusals.{fault_unless, first_fault}
use Rattle.flow_text.specs.Lines.{lines_of, is_blank_line, is_label_line, is_plain, numbers_of, are_small}
use Rattle.flow_limits.specs.Limits.{most_jobs, most_machines, greatest_time}
use Rattle.flow_text.specs.declared.text.fault.TextFault.{TextFault}
use Rattle.flow_text.specs.declared.text.fault.TextFault.TheVariants.{NoBlock, Label, Byte, Number, Head, Limits, Times}

-- how many of the lines are labels
abbrev pub labels : List (List ℕ) → ℕ
labels [] = 0
labels (line ∷ earlier) = if is_label_line line then labels earlier + 1 else labels earlier

-- the numbers since the last label
abbrev pub numbers_since : List (List ℕ) → List ℕ
numbers_since [] = []
numbers_since (line ∷ earlier) = if is_label_line line then [] else numbers_since earlier ++ numbers_of line

-- the numbers between the last two labels
abbrev pub numbers_between : List (List ℕ) → List ℕ
numbers_between [] = []
numbers_between (line ∷ earlier) = if is_label_line line then numbers_since earlier else numbers_between earlier

-- whether the last label is the first of its block
abbrev pub is_in_head : List (List ℕ) → Bool
is_in_head earlier = labels earlier % 2 == 1

-- how many numbers have to follow the last label: five in a head, and then a time for each job on each machine
abbrev pub numbers_wanted : List (List ℕ) → ℕ
numbers_wanted earlier =
    if labels earlier == 0 then 0
    else (if is_in_head earlier then 5
    else slice_index (numbers_between earlier) 0 * slice_index (numbers_between earlier) 1)

-- whether more numbers are wanted; if not, a label is
abbrev pub wants_numbers : List (List ℕ) → Bool
wants_numbers earlier = nat_lt (length (numbers_since earlier)) (numbers_wanted earlier)

-- the number of the next line, counted from 1
abbrev pub next_line : List (List ℕ) → ℕ
next_line earlier = length earlier + 1

-- the fault of too few or too many numbers
abbrev pub count_fault : List (List ℕ) → TextFault
count_fault earlier = if is_in_head earlier then Head (next_line earlier) else Times (next_line earlier)

-- whether the jobs and machines of a head are within the limits
abbrev pub is_head : List ℕ → Bool
is_head head = is_in_range 1 most_jobs (slice_index head 0) && is_in_range 1 most_machines (slice_index head 1)

-- whether each number may be a time
abbrev pub are_times : List ℕ → Bool
are_times times = list_all (λ time. nat_le time greatest_time) times

-- whether the numbers of a line are within the limits: a head is tested once it has five numbers, times at each line
abbrev pub keeps_limits : List (List ℕ) → List ℕ → Bool
keeps_limits earlier new =
    if not (is_in_head earlier) then are_times new
    else (if length (numbers_since earlier ++ new) == 5 then is_head (numbers_since earlier ++ new) else true)

-- the fault of a number line with these new numbers, where numbers are wanted
abbrev pub numbers_fault : List (List ℕ) → List ℕ → List ℕ → Option TextFault
numbers_fault earlier line new = first_fault (
    fault_unless (is_plain line) (Byte (next_line earlier))
    ∷ fault_unless (are_small new) (Number (next_line earlier))
    ∷ fault_unless (nat_le (length (numbers_since earlier ++ new)) (numbers_wanted earlier)) (count_fault earlier)
    ∷ fault_unless (keeps_limits earlier new) (Limits (next_line earlier))
    ∷ [])

-- the fault of a line after lines that have none
abbrev pub line_fault : List (List ℕ) → List ℕ → Option TextFault
line_fault earlier line =
    if is_blank_line line then None
    else (if is_label_line line then fault_unless (not (wants_numbers earlier)) (count_fault earlier)
    else (if wants_numbers earlier then numbers_fault earlier line (numbers_of line)
    else Some (Label (next_line earlier))))

-- the fault of a text that ends after these lines
abbrev pub end_fault : List (List ℕ) → Option TextFault
end_fault earlier = first_fault (
    fault_unless (not (labels earlier == 0)) NoBlock
    ∷ fault_unless (not (wants_numbers earlier)) (count_fault earlier)
    ∷ fault_unless (not (is_in_head earlier)) (Label (next_line earlier))
    ∷ [])

-- the first fault of some lines, and of the end, after lines that have none
abbrev pub lines_fault : List (List ℕ) → List (List ℕ) → Option TextFault
lines_fault earlier [] = end_fault earlier
lines_fault earlier (line ∷ lines) = option_or (line_fault earlier line) (lines_fault (line ∷ earlier) lines)

-- the first fault of a text, if it has one (law: texts_have_no_fault)
abbrev pub text_fault : List ℕ → Option TextFault
text_fault text = lines_fault [] (lines_of text)
