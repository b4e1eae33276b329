-- What a file is read as, and how many bytes it may have.
use Rattle.std.specs.Prelude.{◌≤◌, ℕ, List, length, codes}
use Rattle.flow_core.specs.Limits.{most_certificate, most_text}
use Rattle.flow_core.specs.Sequences.{Extends}
use Rattle.flow_requests.specs.declared.SecondFile.{SecondFile}
use Rattle.flow_requests.specs.declared.SecondFile.TheVariants as second
use Rattle.flow_commands.specs.declared.files.FileKind.{FileKind}
use Rattle.flow_commands.specs.declared.files.FileKind.TheVariants.{Certificate, StartOrCertificate, Text}

-- a text begins as every certificate does
abbrev pub BeginsAsCertificate : List ℕ → Type 0
BeginsAsCertificate text = Extends text (codes "flowshop ")

-- a file of a kind may have these bytes: no more than a text or a certificate may have. One that is to be a start or a
-- certificate may be as long as a certificate where it begins as one, and else as long as a text
abbrev pub IsWithin : FileKind → List ℕ → Type 0
IsWithin Text bytes = length bytes ≤ most_text
IsWithin Certificate bytes = length bytes ≤ most_certificate
IsWithin StartOrCertificate bytes =
    (length bytes ≤ most_certificate) × ((¬ BeginsAsCertificate bytes) → length bytes ≤ most_text)

-- as what a second file is read; one that is absent counts as a text
abbrev pub kind_of : {F : Type 0} → SecondFile F → FileKind
kind_of second.Absent = Text
kind_of (second.Start file) = Text
kind_of (second.Certificate file) = Certificate
kind_of (second.StartOrCertificate file) = StartOrCertificate
