-- The first four lines of a text, as the reader takes them one after the other.
use Rattle.std.proofs.Common.{◌≡◌, ℕ, List, [], ◌∷◌, ◌++◌, ap₂, sym, ◌∙◌, subst, inl, inr}
use Rattle.flow_shop.specs.Shop.{Shop}
use Rattle.flow_check.specs.TextLines.{line, spaced}
use Rattle.flow_check.specs.CertificateFaults.{UnlessMemory}
use Rattle.flow_check.specs.FourLines.{size_lines, bounds_lines, sequence_lines, AreInRange}
use Rattle.flow_check.specs.FourLinesFaults.{HasNoSize, HasNoBounds, HasNoSequence, FailsWithinFour}
use Rattle.flow_check.specs.internal.Heading.{BeginsWithSequence, IsSequenceFault}
use Rattle.flow_check.specs.internal.FourLines.{BeginsWithJobs, BeginsWithBounds}
use Rattle.flow_check.specs.declared.bounds.Bounds.{Bounds}
use Rattle.flow_check.specs.declared.fault.CheckFault.{CheckFault}
use Rattle.flow_check.proofs.TextBegins.{inner, outer}
use Rattle.flow_check.proofs.BoundsLine.{numbers_of}

abbrev size_of : ℕ → ℕ → List ℕ
size_of jobs machines = line (spaced (jobs ∷ machines ∷ []))

module _ (title : List ℕ) (shop : Shop) (text start : List ℕ) where
  -- a text that goes on behind some lines

  pub read-size : (jobs machines : ℕ) (rest : List ℕ) → jobs ≡ shop.jobs → machines ≡ shop.machines →
      text ≡ title ++ start → BeginsWithJobs jobs machines start rest → text ≡ size_lines title shop ++ rest
  read-size jobs machines rest j m e is =
      outer text title start (size_of shop.jobs shop.machines) rest e
      (is ∙ ap₂ (λ n k. size_of n k ++ rest) j m)

  pub read-bounds : (bounds : Bounds) (rest : List ℕ) → text ≡ size_lines title shop ++ start →
      BeginsWithBounds start bounds rest → text ≡ bounds_lines title shop bounds ++ rest
  read-bounds bounds rest e is =
      outer text (size_lines title shop) start (line (spaced (numbers_of bounds))) rest e is.1

  pub read-sequence : (bounds : Bounds) (sequence rest : List ℕ) → text ≡ bounds_lines title shop bounds ++ start →
      BeginsWithSequence shop.jobs start sequence rest → text ≡ sequence_lines title shop bounds sequence ++ rest
  read-sequence bounds sequence rest e is =
      outer text (bounds_lines title shop bounds) start (line (spaced sequence)) rest e is.1

  -- a text that does not

  pub no-size : (jobs machines : ℕ) → jobs ≡ shop.jobs → machines ≡ shop.machines → text ≡ title ++ start →
      ((rest : List ℕ) → BeginsWithJobs jobs machines start rest → ⊥) → HasNoSize title shop text
  no-size jobs machines j m e none = record {
    titled = (start, e);
    none = λ b. none b.0 (inner text title start (size_of shop.jobs shop.machines) b.0 e b.1
        ∙ ap₂ (λ n k. size_of n k ++ b.0) (sym j) (sym m));
  }

  pub no-bounds : text ≡ size_lines title shop ++ start →
      ((bounds : Bounds) (rest : List ℕ) → BeginsWithBounds start bounds rest → ⊥) → HasNoBounds title shop text
  no-bounds e none = record {
    size = (start, e);
    none = λ bounds fit b. none bounds b.0
        (fit, inner text (size_lines title shop) start (line (spaced (numbers_of bounds))) b.0 e b.1);
  }

  pub sequence-fault : (bounds : Bounds) (fault : CheckFault) → AreInRange bounds →
      text ≡ bounds_lines title shop bounds ++ start → IsSequenceFault shop.jobs start fault →
      UnlessMemory (FailsWithinFour title shop text) fault
  sequence-fault bounds fault fit e (inl memory) =
      subst (UnlessMemory (FailsWithinFour title shop text)) (sym memory) tt
  sequence-fault bounds fault fit e (inr (is, none)) =
      let no : HasNoSequence title shop text = record {
        bounds = bounds;
        fit = fit;
        begins = (start, e);
        none = λ sequence whole b. none sequence b.0
            (whole, inner text (bounds_lines title shop bounds) start (line (spaced sequence)) b.0 e b.1);
      } in
      subst (UnlessMemory (FailsWithinFour title shop text)) (sym is) no
