use Rattle.std.proofs.Common.{◌≤◌, slice_index, ap, sym, ◌∙◌, subst, inl, inr}
use Rattle.flow_shop.specs.declared.end.End.TheVariants.{Front, Back}
use Rattle.flow_nodes.specs.Groups.{child_bound}
use Rattle.flow_nodes.specs.internal.Bytes.{HaveGaps, HaveSlacks}
use Rattle.flow_nodes.proofs.ChildSteps.{greatest-is-bound}
use Rattle.flow_nodes.proofs.opener.Opener.open_lanes.Goals as goal

pub returns-in-Front : goal.returns-in-Front
returns-in-Front g c shop first last jobs node lane is gaps slacks are within fresh =
    elim (c.open_at_front.ensures shop first last jobs node c.args.self.now.limit lane is
    (subst (λ xs. HaveGaps Front node xs) (sym c.as_slice-gaps.ensures.value)
    (subst (λ end. HaveGaps end node c.args.self.now.gaps.items) c.in-Front.is gaps))
    (subst (λ xs. HaveSlacks c.args.self.now.limit node xs) (sym c.as_slice-slacks.ensures.value) slacks) are within) [
      | inl bit ↦ inl bit
      | inr high ↦
          inr (subst (λ n. c.args.self.now.limit ≤ n)
          (greatest-is-bound shop first last (slice_index jobs lane) node is (are.each lane within) Front fresh
          ∙ ap (λ end. child_bound shop end first last (slice_index jobs lane)) (sym c.in-Front.is)) high)
    ]

pub returns-in-Back : goal.returns-in-Back
returns-in-Back g c shop first last jobs node lane is gaps slacks are within fresh =
    elim (c.open_at_back.ensures shop first last jobs node c.args.self.now.limit lane is
    (subst (λ xs. HaveGaps Back node xs) (sym c.as_slice-gaps.ensures.value)
    (subst (λ end. HaveGaps end node c.args.self.now.gaps.items) c.in-Back.is gaps))
    (subst (λ xs. HaveSlacks c.args.self.now.limit node xs) (sym c.as_slice-slacks.ensures.value) slacks) are within) [
      | inl bit ↦ inl bit
      | inr high ↦
          inr (subst (λ n. c.args.self.now.limit ≤ n)
          (greatest-is-bound shop first last (slice_index jobs lane) node is (are.each lane within) Back fresh
          ∙ ap (λ end. child_bound shop end first last (slice_index jobs lane)) (sym c.in-Back.is)) high)
    ]
