use Rattle.std.proofs.Common.{ℕ, suc, nat_le, List, [], ◌∷◌, ◌++◌, ap, sym, subst, ◌∙◌}
use Rattle.std.specs.List.{find}
use Rattle.std.proofs.lemmas.Bool.{eqb-true}
use Rattle.flow_shop.specs.Shop.{numbers}
use Rattle.flow_shop.specs.Sequences.{jobs_left}
use Rattle.flow_search.specs.internal.Frames.{IsChild}
use Rattle.flow_search.specs.internal.Lags.{AreLeastLags}
use Rattle.flow_search.proofs.Nodes.{bound-one, bound-two, members-are}
use Rattle.flow_search.proofs.NextChild.{kid-of}
use Rattle.flow_search.proofs.bounds.pruning_of_child.Goals as goal
use Rattle.flow_search.proofs.bounds.pruning_of_child.Goals.{Start, Then-has_releases}

-- the child's job
kid : (c : Start) → IsChild c.args.setting.now.instance.now.jobs c.args.search.now.node.items c.args.job
kid c =
    kid-of c.args.setting.now.instance.now c.args.search.now.node.items c.args.here.now.front
    c.args.search.now.unscheduled (suc (suc c.requires.at.0)) c.args.job c.requires.at.1 c.requires.job.from
    c.requires.job.to c.requires.job.left

-- the lags of the jobs that the node leaves
lags : (c : Then-has_releases) →
    AreLeastLags c.args.setting.now.instance.now
    (jobs_left c.args.setting.now.instance.now.jobs c.args.search.now.node.items) c.args.lags.now
lags c =
    subst (λ jobs. AreLeastLags c.args.setting.now.instance.now jobs c.args.lags.now)
    (members-are c.args.setting.now.instance.now c.args.search.now.node.items c.args.here.now.front
    c.args.search.now.unscheduled (suc (suc c.requires.at.0)) c.requires.at.1)
    (c.requires.lags (eqb-true c.args.setting.now.version 2 (sym c.has_releases.ensures ∙ c.if-has_releases.true)))

pub pruning_of_child_released-requires : goal.pruning_of_child_released-requires
pruning_of_child_released-requires c = record {
  at = (
    c.args.search.now.node.items,
    c.requires.at.0,
    c.requires.at.2,
    kid (goal.at.pruning_of_child_released-requires c).Start,
    lags (goal.at.pruning_of_child_released-requires c).Then-has_releases,
  );
}

pub returns-then-has_releases : goal.returns-then-has_releases
returns-then-has_releases c =
    let shop = c.args.setting.now.instance.now in
    let node : List ℕ = c.args.search.now.node.items ++ c.args.job ∷ [] in
    c.pruning_of_child_released.ensures c.args.search.now.node.items c.requires.at.0 c.requires.at.2
    (kid (goal.at.returns-then-has_releases c).Start) (lags (goal.at.returns-then-has_releases c).Then-has_releases)
    ∙ sym (ap (λ bound. find (λ machine. nat_le c.args.search.now.value (bound shop node machine))
    (numbers 1 shop.machines)) (bound-two c.args.setting.now.version c.has_releases.result c.has_releases.ensures
    c.if-has_releases.true))

pub returns-else-has_releases : goal.returns-else-has_releases
returns-else-has_releases c =
    let shop = c.args.setting.now.instance.now in
    let node : List ℕ = c.args.search.now.node.items ++ c.args.job ∷ [] in
    c.pruning_of_child_plain.ensures c.args.search.now.node.items c.requires.at.0 c.requires.at.2
    (kid (goal.at.returns-else-has_releases c).Start)
    ∙ sym (ap (λ bound. find (λ machine. nat_le c.args.search.now.value (bound shop node machine))
    (numbers 1 shop.machines)) (bound-one c.args.setting.now.version c.has_releases.result c.has_releases.ensures
    c.if-has_releases.false))
