-- The end at which a node is opened: that of the plain rule, or the other one.
use Rattle.std.proofs.Common.{◌≡◌, ℕ, ◌*◌, ◌<◌, ◌≤◌, Bool, true, false, cond, ◌&&◌, nat_lt, nat_le, List, ◌++◌}
use Rattle.std.proofs.Common.{length, Option, Some, None, refl, ap, sym, ◌∙◌}
use Rattle.std.proofs.Math.Bool.{and-false}
use Rattle.std.proofs.lemmas.Bool.{lt-ltb, le-ltb}
use Rattle.std.proofs.lemmas.Option.{none-some}
use Rattle.flow_shop.specs.Shop.{Shop}
use Rattle.flow_shop.specs.Sequences.{jobs_left}
use Rattle.flow_shop.specs.declared.end.End.{End}
use Rattle.flow_shop.specs.declared.end.End.TheVariants.{Front, Back}
use Rattle.flow_directions.specs.Search.{count_below, plain_end, other_end, weight, looks_ahead, end_taken}

-- whether the search looks ahead, by the counts at the plain rule's end and at the other one, and that of the jobs left
abbrev by_close : ℕ → ℕ → ℕ → Bool
by_close plain other left = nat_le 2 plain && nat_le (2 * other) (3 * plain) && nat_le 3 left

-- the end of the plain rule, and the other one
module _ (shop : Shop) (threshold : ℕ) (first last : List ℕ) (plain other : End)
    (plain_is : plain ≡ plain_end shop threshold first last) (other_is : other ≡ other_end shop threshold first last) where
  -- the search looks ahead just by these counts
  pub close-is : (plain_count other_count left : ℕ) → plain_count ≡ count_below shop threshold plain first last →
      other_count ≡ count_below shop threshold other first last → left ≡ length (jobs_left shop.jobs (first ++ last)) →
      by_close plain_count other_count left ≡ looks_ahead shop threshold first last
  close-is plain_count other_count left plain_counted other_counted left_is =
      let plain_same : plain_count ≡ count_below shop threshold (plain_end shop threshold first last) first last =
      plain_counted ∙ ap (λ e. count_below shop threshold e first last) plain_is in
      let other_same : other_count ≡ count_below shop threshold (other_end shop threshold first last) first last =
      other_counted ∙ ap (λ e. count_below shop threshold e first last) other_is in
      ap (λ n. by_close n other_count left) plain_same
      ∙ ap (λ n. by_close (count_below shop threshold (plain_end shop threshold first last) first last) n left) other_same
      ∙ ap (by_close (count_below shop threshold (plain_end shop threshold first last) first last)
      (count_below shop threshold (other_end shop threshold first last) first last)) left_is

  abbrev chosen_by : Bool → Bool → End
  chosen_by ahead lighter =
      cond (ahead && lighter) (other_end shop threshold first last) (plain_end shop threshold first last)

  taken-is : end_taken shop threshold first last ≡ chosen_by (looks_ahead shop threshold first last)
      (nat_lt (weight shop threshold other first last) (weight shop threshold plain first last))
  unfolding end_taken
  taken-is =
      ap (λ e. chosen_by (looks_ahead shop threshold first last)
      (nat_lt (weight shop threshold e first last)
      (weight shop threshold (plain_end shop threshold first last) first last))) (sym other_is)
      ∙ ap (λ e. chosen_by (looks_ahead shop threshold first last)
      (nat_lt (weight shop threshold other first last) (weight shop threshold e first last))) (sym plain_is)

  -- where it does not look ahead, the end of the plain rule is taken
  pub plain-far : looks_ahead shop threshold first last ≡ false → plain ≡ end_taken shop threshold first last
  plain-far far =
      plain_is ∙ sym (taken-is ∙ ap (λ b. chosen_by b
      (nat_lt (weight shop threshold other first last) (weight shop threshold plain first last))) far)

  -- and where the other one has no smaller weight
  pub plain-kept : weight shop threshold plain first last ≤ weight shop threshold other first last →
      plain ≡ end_taken shop threshold first last
  plain-kept lighter =
      plain_is ∙ sym (taken-is
      ∙ ap (chosen_by (looks_ahead shop threshold first last)) (le-ltb (weight shop threshold other first last)
      (weight shop threshold plain first last) lighter)
      ∙ ap (λ b. cond b (other_end shop threshold first last) (plain_end shop threshold first last))
      (and-false (looks_ahead shop threshold first last)))

  -- or else the other one
  pub other-lighter : looks_ahead shop threshold first last ≡ true →
      weight shop threshold other first last < weight shop threshold plain first last →
      other ≡ end_taken shop threshold first last
  other-lighter close lighter =
      other_is ∙ sym (taken-is
      ∙ ap (λ b. chosen_by b (nat_lt (weight shop threshold other first last)
      (weight shop threshold plain first last))) close
      ∙ ap (chosen_by true) (lt-ltb (weight shop threshold other first last)
      (weight shop threshold plain first last) lighter))

some-same : (one two : End) → Some one ≡ Some two → one ≡ two
some-same one two is = ap the_end is
  where
    the_end : Option End → End
    the_end None = Front
    the_end (Some end) = end

-- the end where fewer are, by tests, is that of the plain rule
pub fewer-is : (less more high : Bool) (end : End) → cond less (Some Front) (cond more (Some Back) None) ≡ Some end →
    end ≡ cond less Front (cond more Back (cond high Front Back))
fewer-is true more high end is = sym (some-same Front end is)
fewer-is false true high end is = sym (some-same Back end is)
fewer-is false false high end is = absurd (none-some end is)

-- where as many are, the greater sum tells
pub as-many : (less more high : Bool) → cond less (Some Front) (cond more (Some Back) None) ≡ None →
    cond high Front Back ≡ cond less Front (cond more Back (cond high Front Back))
as-many true more high is = absurd (none-some Front (sym is))
as-many false true high is = absurd (none-some Back (sym is))
as-many false false high is = refl
