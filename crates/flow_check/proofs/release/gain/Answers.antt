use Rattle.std.proofs.Common.{◌≡◌, ℕ, suc, ◌+◌, ◌-◌, List, slice_index, ◌∙◌, sym, subst}
use Rattle.flow_shop.specs.Sequences.{jobs_left}
use Rattle.flow_shop.specs.Bound.{front_of, release}
use Rattle.flow_check.proofs.Releases.{release-gains, plain-gains}
use Rattle.flow_check.specs.internal.Nodes.{IsAt, IsChild, grown, left_before}
use Rattle.flow_check.proofs.release.gain.Goals as goal

pub returns-then-not-has_releases-clause-value : goal.returns-then-not-has_releases-clause-value
returns-then-not-has_releases-clause-value c list left at kept kid =
    plain-gains c.args.text.now.shop.now (grown list c.args.child) c.args.machine c.args.text.now.version
    (sym c.has_releases.ensures ∙ c.if-not-has_releases.true)

pub lags_of-lags-requires-clause-at : goal.lags_of-lags-requires-clause-at
lags_of-lags-requires-clause-at c = (c.requires.at.0, c.requires.at.2.are_links, c.requires.at.3)

pub own_gain-requires-clause-at : goal.own_gain-requires-clause-at
own_gain-requires-clause-at c =
    let shop = c.args.text.now.shop.now in
    let list : List ℕ = c.requires.at.0 in
    let at = subst (λ o. IsAt shop list c.args.node.now c.args.links.now (left_before o (suc c.requires.at.1)))
    c.in-None.is c.requires.at.2 in
    (list, c.requires.at.1, at.is_node, c.lags_of-lags.ensures.lags list at.are_links c.requires.at.3)

pub child_gain-requires-clause-at : goal.child_gain-requires-clause-at
child_gain-requires-clause-at c =
    let shop = c.args.text.now.shop.now in
    let list : List ℕ = c.requires.at.0 in
    let at = subst (λ o. IsAt shop list c.args.node.now c.args.links.now (left_before o (suc c.requires.at.1)))
    c.in-Some.is c.requires.at.2 in
    let two = c.lags_of-lags.ensures.lags list at.are_links c.requires.at.3 in
    (list, c.requires.at.1, at.is_node, two, subst (IsChild shop.jobs list) c.in-Some.is c.requires.at.4)

pub returns-in-None-clause-value : goal.returns-in-None-clause-value
returns-in-None-clause-value c list left at kept kid =
    let shop = c.args.text.now.shop.now in
    let was = subst (λ o. IsAt shop list c.args.node.now c.args.links.now (left_before o (suc left))) c.in-None.is at in
    let gains = c.own_gain.ensures list left was.is_node (c.lags_of-lags.ensures.lags list was.are_links kept) in
    release-gains shop (grown list c.args.child) c.args.machine c.own_gain.result c.args.text.now.version
    (sym c.has_releases.ensures ∙ c.if-not-has_releases.false)
    (subst (λ o. slice_index (front_of shop (grown list o)) (c.args.machine - 1) + c.own_gain.result
    ≡ release shop (front_of shop (grown list o)) (jobs_left shop.jobs (grown list o)) c.args.machine) (sym
    c.in-None.is) gains)

pub returns-in-Some-clause-value : goal.returns-in-Some-clause-value
returns-in-Some-clause-value c list left at kept kid =
    let shop = c.args.text.now.shop.now in
    let was = subst (λ o. IsAt shop list c.args.node.now c.args.links.now (left_before o (suc left))) c.in-Some.is at in
    let gains = c.child_gain.ensures list left was.is_node (c.lags_of-lags.ensures.lags list was.are_links kept)
    (subst
    (IsChild shop.jobs list) c.in-Some.is kid) in
    release-gains shop (grown list c.args.child) c.args.machine c.child_gain.result c.args.text.now.version
    (sym c.has_releases.ensures ∙ c.if-not-has_releases.false)
    (subst (λ o. slice_index (front_of shop (grown list o)) (c.args.machine - 1) + c.child_gain.result
    ≡ release shop (front_of shop (grown list o)) (jobs_left shop.jobs (grown list o)) c.args.machine) (sym
    c.in-Some.is) gains)
