use Rattle.std.proofs.Common.{◌≡◌, ℕ, ◌<◌, ◌≤◌, List, length, slice_index_or, take, ap, sym, ◌∙◌, subst, arith}
use Rattle.std.specs.Prelude.{All}
use Rattle.std.proofs.lemmas.List.{get_or-take, length-take}
use Rattle.flow_shop.specs.Shop.{Shop}
use Rattle.flow_improve.specs.internal.Beams.{HasLeastBound, bound_of}
use Rattle.flow_improve.specs.declared.two_ended.entry.Entry.{Entry}
use Rattle.flow_improve.proofs.two_ended.pass.Passes.least.Goals as goal

-- an entry whose bound is the least of the first ones, and its jobs
least-found : (shop : Shop) (items : List Entry) (count place least bound : ℕ) (entry : Entry) (jobs : List ℕ) →
    least < count → count ≤ length items → place ≡ count → entry ≡ slice_index_or items least entry →
    ((d : Entry) → bound ≡ bound_of shop (slice_index_or items least d)) →
    All (λ other. bound ≤ bound_of shop other) (take place items) → jobs ≡ entry.jobs.items →
    HasLeastBound shop (take count items) jobs
least-found shop items count place least bound entry jobs below within end read is others same = (
  entry,
  (
    least,
    omega (arith, below, within, length-take count items),
    get_or-take count items least entry below ∙ sym read,
  ),
  same,
  subst (λ b. All (λ other. b ≤ bound_of shop other) (take count items)) (is entry ∙ ap (bound_of shop) (sym read))
      (subst (λ n. All (λ other. bound ≤ bound_of shop other) (take n items)) end others),
)

pub returns-clause-least : goal.returns-clause-least
returns-clause-least g c =
    least-found c.args.instance.now c.args.self.now.list.items c.args.self.now.count c.loop-place.place
    c.loop-place.least c.loop-place.bound c.index-2.result.now c.as_slice.result.now c.loop-place.invariant.some
    c.requires.passes.count
    (omega (arith, c.loop-place.auto.place, c.loop-place-test.false, c.loop-place.invariant.some))
    c.index-2.ensures c.loop-place.invariant.bound c.loop-place.invariant.others c.as_slice.ensures.value
