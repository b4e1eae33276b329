-- The kind as which a text is read. It is a certificate, which is made of trees (TextLines, Certificate,
-- CertificateFaults); a two-ended certificate, which has directions (TwoEnded, TwoEndedFaults); or a counted
-- certificate, which has a count (Counted, CountedFaults). Both of these begin with four lines (FourLines,
-- FourLinesFaults).
use Rattle.std.specs.Prelude.{◌≡◌, ℕ, List}
use Rattle.flow_shop.specs.Sequences.{Extends}
use Rattle.flow_check.specs.TwoEnded.{two_ended_title}
use Rattle.flow_check.specs.Counted.{counted_title}
use Rattle.flow_check.specs.declared.kind.TextKind.{TextKind}
use Rattle.flow_check.specs.declared.kind.TextKind.TheVariants.{Certificate, TwoEnded, Counted}

-- a text is read as a two-ended or a counted certificate where it begins with the first line of one, and else as a
-- certificate (law: kind_is_one)
abbrev pub IsReadAs : List ℕ → TextKind → Type 0
IsReadAs bytes Certificate = (¬ Extends bytes two_ended_title) × ¬ Extends bytes counted_title
IsReadAs bytes TwoEnded = Extends bytes two_ended_title
IsReadAs bytes Counted = Extends bytes counted_title

-- a text is read as one kind (law: kind_is_one)
abbrev pub KindIsOne : Type 0
KindIsOne = (bytes : List ℕ) (kind other : TextKind) → IsReadAs bytes kind → IsReadAs bytes other → kind ≡ other
