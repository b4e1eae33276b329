-- How a text is read as a certificate, byte by byte: to its value, or to its first fault.
use Rattle.std.specs.Prelude.{◌≡◌, ℕ, ◌^◌, Bool, false, cond, not, ◌&&◌, nat_eq, nat_lt, nat_le}
use Rattle.std.specs.Prelude.{List, [], ◌∷◌, map, Option, Some, None, Result, Ok, Err}
use Rattle.std.specs.Option.{option_map, option_map_or}
use Rattle.std.specs.List.{find, list_all, slice_split}
use Rattle.std.specs.Str.{bytes_eq}
use Rattle.std.specs.Str.Parse.{digits_value}
use Rattle.flow_shop.specs.Limits.{greatest_depth, least_version, greatest_version}
use Rattle.flow_shop.specs.Digits.{is_digit}
use Rattle.flow_shop.specs.Shop.{Shop, IsWithinLimits, numbers}
use Rattle.flow_shop.specs.Paths.{span}
use Rattle.flow_shop.specs.SequenceFaults.{sequence_fault}
use Rattle.flow_shop.specs.Characters.{line_feed, space}
use Rattle.flow_check.specs.TextLines.{title}
use Rattle.flow_check.specs.Certificate.{IsCertificate}
use Rattle.flow_check.specs.CertificateFaults.{HasFirstFault}
use Rattle.flow_check.specs.declared.fault.CheckFault.{CheckFault}
use Rattle.flow_check.specs.declared.fault.CheckFault.TheVariants.{Header, Size, Value, Sequence, NotAttained}
use Rattle.flow_check.specs.internal.ReadTrees.{cut_value}

-- the first line, without its end, and the text after it
abbrev pub first_line : List ℕ → Option (List ℕ × List ℕ)
first_line [] = None
first_line (byte ∷ bytes) =
    cond (nat_eq byte line_feed) (Some ([], bytes)) (option_map (λ r. (byte ∷ r.0, r.1)) (first_line bytes))

-- what the first line and the text after it give; a fault where no line ends
abbrev pub on_line : {A : Type 0} → CheckFault → (List ℕ → List ℕ → Result A CheckFault) → List ℕ → Result A CheckFault
on_line fault next bytes = option_map_or (λ r. next r.0 r.1) (first_line bytes) (Err fault)

-- whether a text is a number in decimal, without leading zeros
abbrev pub is_numeral : List ℕ → Bool
is_numeral [] = false
is_numeral (digit ∷ []) = is_digit digit
is_numeral (digit ∷ next ∷ digits) = not (nat_eq digit 48) && list_all is_digit (digit ∷ next ∷ digits)

-- the numbers of a line that holds numbers alone, with one space between them
abbrev pub numbers_in : List ℕ → Option (List ℕ)
numbers_in text =
    let words = slice_split (λ byte. nat_eq byte space) text in
    cond (list_all is_numeral words) (Some (map (digits_value 10) words)) None

-- the numbers of the sequence's line, and the lines after it
abbrev pub sequence_value : Shop → ℕ → ℕ → ℕ → List ℕ → Option (List ℕ) → Result ℕ CheckFault
sequence_value shop version depth value rest None = Err Sequence
sequence_value shop version depth value rest (Some jobs) =
    option_map_or (λ fault. Err Sequence) (sequence_fault shop.jobs jobs)
    (cond (nat_eq (span shop jobs) value) (cut_value shop version depth value rest) (Err NotAttained))

-- the value that the numbers of the third line state
abbrev pub value_of : Option (List ℕ) → Option ℕ
value_of (Some (value ∷ [])) = cond (nat_lt value (2 ^ 64)) (Some value) None
value_of other = None

-- the numbers of the third line, and the lines after it
abbrev pub value_value : Shop → ℕ → ℕ → List ℕ → Option (List ℕ) → Result ℕ CheckFault
value_value shop version depth rest numbers =
    option_map_or (λ value.
    on_line Sequence (λ text more. sequence_value shop version depth value more (numbers_in text)) rest)
    (value_of numbers) (Err Value)

-- the numbers of the size's line, and the lines after it
abbrev pub size_value : Shop → ℕ → List ℕ → Option (List ℕ) → Result ℕ CheckFault
size_value shop version rest (Some (jobs ∷ machines ∷ depth ∷ [])) =
    cond
    (nat_eq jobs shop.jobs && nat_eq machines shop.machines && nat_le depth shop.jobs && nat_le depth greatest_depth)
    (on_line Value (λ text more. value_value shop version depth more (numbers_in text)) rest)
    (Err Size)
size_value shop version rest other = Err Size

-- the version whose first line a text is
abbrev pub version_of : List ℕ → Option ℕ
version_of text = find (λ version. bytes_eq text (title version)) (numbers least_version greatest_version)

-- the first line, and the lines after it
abbrev pub header_value : Shop → List ℕ → List ℕ → Result ℕ CheckFault
header_value shop text rest =
    option_map_or (λ version. on_line Size (λ text more. size_value shop version more (numbers_in text)) rest)
    (version_of text) (Err Header)

-- the value that a text states, or its first fault
unfoldable pub text_value : Shop → List ℕ → Result ℕ CheckFault
text_value shop bytes = on_line Header (header_value shop) bytes

-- a text is read as a value exactly where it is a lawful certificate of it
abbrev pub ValueIsExact : Type 0
ValueIsExact =
    (shop : Shop) (bytes : List ℕ) (value : ℕ) → IsWithinLimits shop →
    (text_value shop bytes ≡ Ok value → IsCertificate shop bytes value)
    × (IsCertificate shop bytes value → text_value shop bytes ≡ Ok value)

-- a text is read as a fault exactly where that is its first fault
abbrev pub FaultIsExact : Type 0
FaultIsExact =
    (shop : Shop) (bytes : List ℕ) (fault : CheckFault) → IsWithinLimits shop →
    (text_value shop bytes ≡ Err fault → HasFirstFault shop bytes fault)
    × (HasFirstFault shop bytes fault → text_value shop bytes ≡ Err fault)
