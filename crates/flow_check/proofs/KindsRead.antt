-- That a text is read as one kind.
use Rattle.std.proofs.Common.{◌≡◌, ℕ, List, get_or, refl, ap, sym, ◌∙◌, arith}
use Rattle.flow_shop.specs.Sequences.{Extends}
use Rattle.flow_check.specs.TwoEnded.{two_ended_title}
use Rattle.flow_check.specs.Counted.{counted_title}
use Rattle.flow_check.specs.Kinds.{KindIsOne}
use Rattle.flow_check.specs.declared.kind.TextKind.TheVariants.{Certificate, TwoEnded, Counted}

-- the titles differ in the byte behind the first word and its space
titles-apart : (bytes : List ℕ) → Extends bytes two_ended_title → Extends bytes counted_title → ⊥
titles-apart bytes (rest, one) (more, another) =
    let same : 116 ≡ 99 = ap (λ xs. get_or xs 9 0) (sym one ∙ another) in
    omega (arith, same)

pub kind_is_one : KindIsOne
kind_is_one bytes Certificate Certificate one another = refl
kind_is_one bytes Certificate TwoEnded one another = absurd (one.0 another)
kind_is_one bytes Certificate Counted one another = absurd (one.1 another)
kind_is_one bytes TwoEnded Certificate one another = absurd (another.0 one)
kind_is_one bytes TwoEnded TwoEnded one another = refl
kind_is_one bytes TwoEnded Counted one another = absurd (titles-apart bytes one another)
kind_is_one bytes Counted Certificate one another = absurd (another.1 one)
kind_is_one bytes Counted TwoEnded one another = absurd (titles-apart bytes another one)
kind_is_one bytes Counted Counted one another = refl
