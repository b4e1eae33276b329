use Rattle.std.proofs.Common.{◌≡◌, ◌↔◌, ◌<◌, length, slice_index, sym, subst}
use Rattle.std.specs.Int.{bit_at}
use Rattle.flow_nodes.specs.Groups.{child_bound}
use Rattle.flow_nodes.specs.Open.{HasStartsAndBound}
use Rattle.flow_nodes.specs.internal.Pairs.{IsPaired}
use Rattle.flow_nodes.proofs.passes.below_at.Goals as goal

pub returns-in-Front-clause-exact : goal.returns-in-Front-clause-exact
returns-in-Front-clause-exact g c shop threshold first last jobs node lane limit is paired are within was fresh =
    subst (λ end. bit_at c.below_at_front.result.below lane ≡ 1
    ↔ (child_bound shop end first last (slice_index jobs lane) < threshold)) (sym c.in-Front.is)
    (c.below_at_front.ensures.exact shop threshold first last jobs node lane limit is
    (subst (λ end. IsPaired g.V.Vector.pair_of g.V.Vector.CAP (length c.args.group.now) end node c.args.pairs.now)
    c.in-Front.is paired) are within was fresh)

pub returns-in-Front-clause-whole : goal.returns-in-Front-clause-whole
returns-in-Front-clause-whole g c shop first last jobs node lane bounds is paired are within fresh same =
    subst (λ end. HasStartsAndBound g.V.Vector.list g.V.Vector.CAP g.V.Vector.WIDTH shop end first last
    (slice_index jobs lane) lane c.below_at_front.new.starts bounds) (sym c.in-Front.is)
    (c.below_at_front.ensures.whole shop first last jobs node lane bounds is
    (subst (λ end. IsPaired g.V.Vector.pair_of g.V.Vector.CAP (length c.args.group.now) end node c.args.pairs.now)
    c.in-Front.is paired) are within fresh same)

pub returns-in-Back-clause-exact : goal.returns-in-Back-clause-exact
returns-in-Back-clause-exact g c shop threshold first last jobs node lane limit is paired are within was fresh =
    subst (λ end. bit_at c.below_at_back.result.below lane ≡ 1
    ↔ (child_bound shop end first last (slice_index jobs lane) < threshold)) (sym c.in-Back.is)
    (c.below_at_back.ensures.exact shop threshold first last jobs node lane limit is
    (subst (λ end. IsPaired g.V.Vector.pair_of g.V.Vector.CAP (length c.args.group.now) end node c.args.pairs.now)
    c.in-Back.is paired) are within was fresh)

pub returns-in-Back-clause-whole : goal.returns-in-Back-clause-whole
returns-in-Back-clause-whole g c shop first last jobs node lane bounds is paired are within fresh same =
    subst (λ end. HasStartsAndBound g.V.Vector.list g.V.Vector.CAP g.V.Vector.WIDTH shop end first last
    (slice_index jobs lane) lane c.below_at_back.new.starts bounds) (sym c.in-Back.is)
    (c.below_at_back.ensures.whole shop first last jobs node lane bounds is
    (subst (λ end. IsPaired g.V.Vector.pair_of g.V.Vector.CAP (length c.args.group.now) end node c.args.pairs.now)
    c.in-Back.is paired) are within fresh same)
